-- Reading the parts of the list of an IOPATH, as a loop does that keeps those of RETAIN apart from the others.
use Rattle.std.proofs.Common.{◌≡◌, ℕ, ◌-◌, ◌<◌, Bool, true, false, List, [], ◌∷◌, ◌++◌, length, Option, Some, None, Result, Ok, Err, refl, sym, ap, subst, ◌∙◌, arith, append_assoc}
use Rattle.std.specs.Prelude.{slice_get}
use Rattle.std.proofs.lemmas.List.{append-nil, length-append, map-id}
use Rattle.grammar.specs.Reading.{◌>>=◌, Fails}
use Rattle.grammar.specs.Rule.{is_of, only_if, stands}
use Rattle.grammar.specs.declared.ReadFault.{ReadFault}
use Rattle.grammar.specs.declared.ReadFault.TheVariants as faults
use Rattle.grammar.proofs.LoopsBy.{rest_of_by, by_begins, by_goes_on, by_fails, by_ends, by_refused, by_advances}
use Rattle.sdf_lex.specs.Tokens.{Lexeme}
use Rattle.sdf_tree.specs.Entries.{TailPart, a_retain, a_delay, retains_of, delays_of, count_after, tail_part, tail_parts}
use Rattle.sdf_tree.specs.Kinds.{kind_of, is_left}
use Rattle.sdf_tree.specs.Values.{may_come, may_end}
use Rattle.sdf_tree.specs.Written.{Delay}
use Rattle.sdf_tree.proofs.EntriesExact.{tail_part-exact, tail_part-full}
use Rattle.sdf_read.specs.Tails.{with_part, tail_part_there}

abbrev pub Lists : Type 0
Lists = List Delay × List Delay

abbrev pub kept_of : List TailPart → Lists
kept_of ps = (retains_of ps, delays_of ps)

-- a part behind others
kept_with : (ps : List TailPart) (x : TailPart) → kept_of (ps ++ x ∷ []) ≡ with_part (kept_of ps) x
kept_with [] (a_retain ds) = ap (λ (l : List Delay). (l, [])) (append-nil ds)
kept_with [] (a_delay d) = refl
kept_with (a_retain es ∷ ps) (a_retain ds) = let h = kept_with ps (a_retain ds) in ap (λ (k : Lists). (es ++ k.0, k.1)) h ∙ ap (λ (l : List Delay). (l, delays_of ps)) (sym (append_assoc es (retains_of ps) ds))
kept_with (a_retain es ∷ ps) (a_delay d) = ap (λ (k : Lists). (es ++ k.0, k.1)) (kept_with ps (a_delay d))
kept_with (a_delay e ∷ ps) (a_retain ds) = ap (λ (k : Lists). (k.0, e ∷ k.1)) (kept_with ps (a_retain ds))
kept_with (a_delay e ∷ ps) (a_delay d) = ap (λ (k : Lists). (k.0, e ∷ k.1)) (kept_with ps (a_delay d))

counted : (t : Lists) (x : TailPart) → length (with_part t x).1 ≡ count_after (length t.1) x
counted t (a_retain ds) = refl
counted t (a_delay d) = omega (arith, length-append t.1 (d ∷ []))

abbrev pub kept_made : List TailPart × ℕ → Result (Lists × ℕ) ℕ
kept_made x = Ok (kept_of x.0, x.1)

pub kept_fails : (f : ReadFault) (total : Result (List TailPart × ℕ) ℕ) → Fails f total → Fails f (total >>= kept_made)
kept_fails faults.Memory total h = tt
kept_fails (faults.At e) total h = ap (λ (r : Result (List TailPart × ℕ) ℕ). r >>= kept_made) h

-- whether a part comes behind so many delays, where they are counted otherwise
pub still : (limited : Bool) (ts : List Lexeme) (i : ℕ) {m n : ℕ} {b : Bool} → m ≡ n → stands kind_of (tail_part limited m).starts ts i ≡ b → stands kind_of (tail_part limited n).starts ts i ≡ b
still limited ts i {b = b} e h = subst (λ (n : ℕ). stands kind_of (tail_part limited n).starts ts i ≡ b) e h

module _ (limited : Bool) (ts : List Lexeme) where
  abbrev rest : List TailPart → ℕ → ℕ → Result (List TailPart × ℕ) ℕ
  rest done n i = rest_of_by kind_of is_left (tail_part limited) count_after (may_end limited) ts (λ x. x) done n i

  -- What is kept is some parts, behind which the others stand.
  pub record Kept (total : Result (List TailPart × ℕ) ℕ) (kept : Lists) (i : ℕ) : Type 0 where
    pub done : List TailPart
    pub are : kept ≡ kept_of done
    pub others : rest done (length kept.1) i ≡ total

  pub none_kept : (i : ℕ) → Kept ((tail_parts limited).read ts i) ([], []) i
  unfolding tail_parts
  none_kept i = record { done = []; are = refl; others = by_begins kind_of is_left (tail_part limited) count_after (may_end limited) (tail_part-exact limited) (tail_part-full limited) ts (λ x. x) 0 i }

  never : (o : Option Lexeme) → is_of kind_of (λ k. false) o ≡ true → ⊥
  never None h = cc
  never (Some t) h = cc

  one_read : (n i : ℕ) → stands kind_of (tail_part limited n).starts ts i ≡ true → (tail_part limited n).read ts i ≡ (tail_part_there limited n).read ts i
  one_read n i does = go (may_come limited n) does
    where
      go : (b : Bool) → stands kind_of (only_if b (tail_part_there limited n)).starts ts i ≡ true → (only_if b (tail_part_there limited n)).read ts i ≡ (tail_part_there limited n).read ts i
      go true does = refl
      go false does = absurd (never (slice_get ts i) does)

  module _ (total : Result (List TailPart × ℕ) ℕ) (kept : Lists) (i count : ℕ) (is : count ≡ length kept.1) (so_far : Kept total kept i) where
    here : rest so_far.done count i ≡ total
    here = subst (λ (n : ℕ). rest so_far.done n i ≡ total) (sym is) so_far.others

    pub part_goes_on : (x : TailPart) (new : Lists) (j : ℕ) → stands kind_of (tail_part limited count).starts ts i ≡ true → new ≡ with_part kept x → (tail_part_there limited count).read ts i ≡ Ok (x, j) → Kept total new j
    part_goes_on x new j does e h = record {
      done = so_far.done ++ x ∷ [];
      are = e ∙ (ap (λ (t : Lists). with_part t x) so_far.are ∙ sym (kept_with so_far.done x));
      others =
          let more = by_goes_on kind_of is_left (tail_part limited) count_after (may_end limited) (tail_part-exact limited) (tail_part-full limited) ts (λ x. x) total so_far.done count i x j does (one_read count i does ∙ h) here in
          let n : count_after count x ≡ length new.1 = ap (λ (m : ℕ). count_after m x) is ∙ (sym (counted kept x) ∙ ap (λ (t : Lists). length t.1) (sym e)) in
          subst (λ (n : ℕ). rest (so_far.done ++ x ∷ []) n j ≡ total) n more;
    }

    pub part_fails : (f : ReadFault) → stands kind_of (tail_part limited count).starts ts i ≡ true → Fails f ((tail_part_there limited count).read ts i) → Fails f total
    part_fails faults.Memory does h = tt
    part_fails (faults.At e) does h = by_fails kind_of is_left (tail_part limited) count_after (may_end limited) (tail_part-exact limited) (tail_part-full limited) ts (λ x. x) total so_far.done count i (faults.At e) does (one_read count i does ∙ h) here

    pub part_advances : (x : TailPart) (j : ℕ) → stands kind_of (tail_part limited count).starts ts i ≡ true → (tail_part_there limited count).read ts i ≡ Ok (x, j) → length ts - j < length ts - i
    part_advances x j does h = by_advances kind_of is_left (tail_part limited) count_after (may_end limited) (tail_part-exact limited) (tail_part-full limited) ts (λ (x : TailPart). x) count i x j does (one_read count i does ∙ h)

    module _ (other : ℕ) (also : other ≡ length kept.1) (none : stands kind_of (tail_part limited count).starts ts i ≡ false) where
      same : other ≡ count
      same = also ∙ sym is

      pub parts_end : may_end limited other ≡ true → (total >>= kept_made) ≡ Ok (kept, i)
      parts_end closes =
          let may : may_end limited count ≡ true = subst (λ (n : ℕ). may_end limited n ≡ true) same closes in
          let all = by_ends kind_of is_left (tail_part limited) count_after (may_end limited) (tail_part-exact limited) (tail_part-full limited) ts (λ x. x) total so_far.done count i none may here in
          let e : total ≡ Ok (so_far.done, i) = all ∙ ap (λ (l : List TailPart). Ok (l, i)) (map-id so_far.done) in
          ap (λ (r : Result (List TailPart × ℕ) ℕ). r >>= kept_made) e ∙ ap (λ (k : Lists). Ok (k, i)) (sym so_far.are)

      pub parts_refused : may_end limited other ≡ false → (total >>= kept_made) ≡ Err i
      parts_refused closes =
          let may : may_end limited count ≡ false = subst (λ (n : ℕ). may_end limited n ≡ false) same closes in
          let all = by_refused kind_of is_left (tail_part limited) count_after (may_end limited) (tail_part-exact limited) (tail_part-full limited) ts (λ x. x) total so_far.done count i none may here in
          ap (λ (r : Result (List TailPart × ℕ) ℕ). r >>= kept_made) all
