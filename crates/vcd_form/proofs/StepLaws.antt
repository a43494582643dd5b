-- Reading the words of a remark up to its `$end`.
use Rattle.std.proofs.Common.{◌≡◌, ℕ, ◌+◌, ◌-◌, ◌<◌, length, arith, true, false, List, ◌∷◌, Result, Ok, Err, Some, None, refl, sym, ap, ◌∙◌}
use Rattle.std.specs.Prelude.{slice_get}
use Rattle.std.proofs.lemmas.Option.{slice_get_within}
use Rattle.grammar.specs.Reading.{◌>>=◌}
use Rattle.grammar.specs.Rule.{read_many, stands}
use Rattle.grammar.proofs.Laws.{quoted-exact}
use Rattle.grammar.proofs.Loops.{loop_ends, loop_goes_on}
use Rattle.vcd_form.specs.Kinds.{kind_of, is_any, is_end}
use Rattle.vcd_form.specs.Rules.{mark, remark_rest}
use Rattle.vcd_form.specs.Places.{read_at}
use Rattle.vcd_form.specs.Words.{words, Word}

abbrev Units : Type 0
Units = List (Unit {0})

abbrev paired : Units → Unit {0} × ℕ → Result ((Units × Unit {0}) × ℕ) ℕ
paired xs z = Ok ((xs, z.0), z.1)

abbrev first : (Units × Unit {0}) × ℕ → Result (Units × ℕ) ℕ
first z = Ok (z.0.0, z.1)

abbrev no_trace : Units × ℕ → Result (Unit {0} × ℕ) ℕ
no_trace u = Ok (tt, u.1)

-- the end behind some words
abbrev ended : Units → Result (Unit {0} × ℕ) ℕ → Result (Unit {0} × ℕ) ℕ
ended xs r = ((r >>= paired xs) >>= first) >>= no_trace

abbrev closed : List Word → Units × ℕ → Result (Unit {0} × ℕ) ℕ
closed ws y = ended y.0 ((mark is_end).read ws y.1)

ended-alike : (xs ys : Units) (r : Result (Unit {0} × ℕ) ℕ) → ended xs r ≡ ended ys r
ended-alike xs ys (Ok z) = refl
ended-alike xs ys (Err e) = refl

as_many : (ws : List Word) (i : ℕ) → remark_rest.read ws i ≡ (read_many kind_of (mark is_any) ws i >>= closed ws)
unfolding remark_rest
as_many ws i = go (read_many kind_of (mark is_any) ws i)
  where
    go : (r : Result (Units × ℕ) ℕ) → (((r >>= λ x. (mark is_end).read ws x.1 >>= paired x.0) >>= first) >>= no_trace) ≡ (r >>= closed ws)
    go (Ok y) = refl
    go (Err e) = refl

alike : (ws : List Word) (r : Result (Units × ℕ) ℕ) → (r >>= λ y. closed ws (tt ∷ y.0, y.1)) ≡ (r >>= closed ws)
alike ws (Ok y) = ended-alike (tt ∷ y.0) y.0 ((mark is_end).read ws y.1)
alike ws (Err e) = refl

rest_goes_on : (ws : List Word) (i : ℕ) (w : Word) → slice_get ws i ≡ Some w → is_end (kind_of w) ≡ false → remark_rest.read ws (i + 1) ≡ remark_rest.read ws i
rest_goes_on ws i w at other =
    let does : stands kind_of is_any ws i ≡ true = rw (at, other) refl in
    let read : (mark is_any).read ws i ≡ Ok (tt, i + 1) = rw (at, other) refl in
    as_many ws (i + 1) ∙ (sym (alike ws (read_many kind_of (mark is_any) ws (i + 1))) ∙ loop_goes_on kind_of (mark is_any) (quoted-exact kind_of is_any) refl ws (closed ws) (remark_rest.read ws i) i tt (i + 1) does read (sym (as_many ws i)))

rest_ends : (ws : List Word) (i : ℕ) (w : Word) → slice_get ws i ≡ Some w → is_end (kind_of w) ≡ true → remark_rest.read ws i ≡ Ok (tt, i + 1)
rest_ends ws i w at end =
    let none : stands kind_of is_any ws i ≡ false = rw (at, end) refl in
    loop_ends kind_of (mark is_any) (quoted-exact kind_of is_any) refl ws (closed ws) (remark_rest.read ws i) i none (sym (as_many ws i)) ∙ rw (at, end) refl

rest_fails : (ws : List Word) (i : ℕ) → slice_get ws i ≡ None → remark_rest.read ws i ≡ Err i
rest_fails ws i at =
    let none : stands kind_of is_any ws i ≡ false = rw at refl in
    loop_ends kind_of (mark is_any) (quoted-exact kind_of is_any) refl ws (closed ws) (remark_rest.read ws i) i none (sym (as_many ws i)) ∙ rw at refl

-- ---- as a loop goes from place to place

pub remark_more : (text : List ℕ) (from place next : ℕ) (w : Word) → remark_rest.read (words text) (read_at text place) ≡ remark_rest.read (words text) from → slice_get (words text) (read_at text place) ≡ Some w → read_at text next ≡ read_at text place + 1
    → is_end (kind_of w) ≡ false → remark_rest.read (words text) (read_at text next) ≡ remark_rest.read (words text) from
remark_more text from place next w so_far at step other = ap (λ n. remark_rest.read (words text) n) step ∙ (rest_goes_on (words text) (read_at text place) w at other ∙ so_far)

pub remark_ends : (text : List ℕ) (from place next : ℕ) (w : Word) → remark_rest.read (words text) (read_at text place) ≡ remark_rest.read (words text) from → slice_get (words text) (read_at text place) ≡ Some w → read_at text next ≡ read_at text place + 1
    → is_end (kind_of w) ≡ true → remark_rest.read (words text) from ≡ Ok (tt, read_at text next)
remark_ends text from place next w so_far at step end = sym so_far ∙ (rest_ends (words text) (read_at text place) w at end ∙ ap (λ n. reached n) (sym step))
  where
    reached : ℕ → Result (Unit {0} × ℕ) ℕ
    reached n = Ok (tt, n)

pub remark_fails : (text : List ℕ) (from place : ℕ) → remark_rest.read (words text) (read_at text place) ≡ remark_rest.read (words text) from → slice_get (words text) (read_at text place) ≡ None → remark_rest.read (words text) from ≡ Err (read_at text place)
remark_fails text from place so_far at = sym so_far ∙ rest_fails (words text) (read_at text place) at

pub word_taken : (text : List ℕ) (place next : ℕ) (w : Word) → slice_get (words text) (read_at text place) ≡ Some w → read_at text next ≡ read_at text place + 1 → length (words text) - read_at text next < length (words text) - read_at text place
word_taken text place next w at step = let within = slice_get_within (words text) (read_at text place) w at in omega arith
