-- The tokens of lists of delays.
use Rattle.std.specs.Prelude.{◌≡◌, ℕ, suc, ◌+◌, ◌<◌, ◌≤◌, ◌^◌, ◌==◌, Bool, true, false, List, [], ◌∷◌, map, length, decimal, flat_map, Option}
use Rattle.std.specs.List.{AllByRecursion, AllZip}
use Rattle.std.proofs.Common.{refl, sym, ap, subst, ◌∙◌, arith}
use Rattle.std.proofs.lemmas.Bool.{lt-ltb}
use Rattle.grammar.specs.Language.{guarded}
use Rattle.grammar.specs.Rule.{◌▸◌, ◌◂◌, mapped, only_if}
use Rattle.grammar.specs.States.{state_after, SpellsBy}
use Rattle.sg_text.specs.declared.places.Place.{Place}
use Rattle.sdf_lex.specs.Tokens.{Meaning, Lexeme, left_token}
use Rattle.sdf_tree.specs.declared.keywords.Keyword.TheVariants as keyword
use Rattle.sdf_tree.specs.Entries.{TailPart, a_retain, a_delay, retains_of, delays_of, TailRest, retain_rest, value_rest, tail_part_of, tail_rest_parts, tail_part, count_after, tail_parts, tail}
use Rattle.sdf_tree.specs.Kinds.{is_left, is_right}
use Rattle.sdf_tree.specs.Rules.{mark, word, placed}
use Rattle.sdf_tree.specs.Values.{delay_rest, delay, may_come, may_end, list_parts, list}
use Rattle.sdf_tree.specs.Words.{begins_number}
use Rattle.sdf_tree.specs.Written.{Value, Limits, Delay}
use Rattle.written_model.specs.Entries.{Numbers}
use Rattle.written_model.specs.Tree.{delay_of}
use Rattle.written_reading.specs.Meanings.{delay_meanings}
use Rattle.written_reading.specs.Placeless as placeless
use Rattle.written_reading.proofs.Decimals.{decimal_begins}
use Rattle.written_reading.proofs.Spans.{Spans, split}
use Rattle.written_reading.proofs.Tells.{Over, Tells, Says, tells_mark, tells_image, tells_placed, tells_right, tells_second}
use Rattle.written_reading.proofs.ValueTokens.{rest_meanings, IsRest, tells_rest, delay_is, says_delay}

pub tells_guarded : {A : Type 0} (b : Bool) (a : Over A) (P : A → Type 0) (ms : List Meaning) → b ≡ true → Tells a P ms → Tells (guarded b a) P ms
tells_guarded true a P ms e t = t
tells_guarded false a P ms e t = absurd cc

-- ---- parts that are counted, twelve at the most

module _ {A C : Type 0} (part : ℕ → Over A) (next : ℕ → A → ℕ) (piece : C → List Meaning) (P : C → A → Type 0) (counts : (n : ℕ) (c : C) (x : A) → P c x → next n x ≡ suc n) where
  pub record Counted (cs : List C) (n : ℕ) (ts : List Lexeme) (i j : ℕ) : Type 0 where
    pub parts : List A
    pub spelled : SpellsBy part next ts n i parts j
    pub count : state_after next n parts ≡ n + length cs
    pub each : AllZip P cs parts

  pub counted : (cs : List C) → ((n : ℕ) → n < 12 → AllByRecursion (λ c. Tells (part n) (P c) (piece c)) cs) → (n : ℕ) → n + length cs ≤ 12 → (ts : List Lexeme) (i j : ℕ) → Spans ts i (flat_map piece cs) j → Counted cs n ts i j
  counted [] tells n few ts i j s = record { parts = []; spelled = s; count = (let e : n ≡ n + 0 = omega arith in e); each = tt }
  counted (c ∷ cs) tells n few ts i j s =
      let d = split ts i (piece c) (flat_map piece cs) j s in
      let r = (tells n (omega (arith, few))).0 ts i d.middle d.front in
      let q = counted cs (λ m l. (tells m l).1) (suc n) (let e : suc n + length cs ≤ 12 = omega (arith, few) in e) ts d.middle j d.back in
      let step = sym (counts n c r.0 r.2) in
      record {
        parts = r.0 ∷ q.parts;
        spelled = (d.middle, r.1, subst (λ (m : ℕ). SpellsBy part next ts m d.middle q.parts j) step q.spelled);
        count = ap (λ (m : ℕ). state_after next m q.parts) (sym step) ∙ (q.count ∙ (let e : suc n + length cs ≡ n + length (c ∷ cs) = omega arith in e));
        each = (r.2, q.each);
      }

may_come_before : (n : ℕ) → n < 12 → may_come true n ≡ true
may_come_before n l = lt-ltb n 12 l

-- ---- delays

pub record AreShort (n : Numbers) : Type 0 where
  pub delay : n.delay < 10 ^ 18
  pub reject : n.reject < 10 ^ 18
  pub error : n.error < 10 ^ 18

-- what is lost is at most as long as what becomes x
abbrev pub IsOrdered : Numbers → Type 0
IsOrdered n = n.reject ≤ n.error

small : (n : ℕ) → n < 10 ^ 18 → n < 2 ^ 64
small n l = omega arith

abbrev IsDelay : Numbers → Delay → Type 0
IsDelay n d = placeless.delay d ≡ delay_of n

delay_says : (n : Numbers) → AreShort n → Says delay.language placeless.delay (delay_of n) (delay_meanings n)
delay_says n h = says_delay (decimal n.delay) (decimal n.reject) (decimal n.error) (decimal_begins n.delay (small n.delay h.delay)) (decimal_begins n.reject (small n.reject h.reject)) (decimal_begins n.error (small n.error h.error))

each_delay : (ns : List Numbers) → AllByRecursion AreShort ns → (k : ℕ) → k < 12 → AllByRecursion (λ n. Tells (guarded (may_come true k) delay.language) (IsDelay n) (delay_meanings n)) ns
each_delay [] h k l = tt
each_delay (n ∷ ns) h k l = (tells_guarded (may_come true k) delay.language (IsDelay n) (delay_meanings n) (may_come_before k l) (delay_says n h.0), each_delay ns h.1 k l)

all_delays : (ns : List Numbers) (ds : List Delay) → AllZip IsDelay ns ds → map placeless.delay ds ≡ map delay_of ns
all_delays [] [] h = refl
all_delays [] (d ∷ ds) h = absurd h
all_delays (n ∷ ns) [] h = absurd h
all_delays (n ∷ ns) (d ∷ ds) h = ap (λ x. x ∷ map placeless.delay ds) h.0 ∙ ap (λ xs. delay_of n ∷ xs) (all_delays ns ds h.1)

at_twelve : (n m : ℕ) → n ≡ 0 + m → m ≡ 12 → may_end true n ≡ true
at_twelve n m e f = ap (may_end true) (let g : n ≡ 12 = omega (arith, e, f) in g)

module _ (ns : List Numbers) (twelve : length ns ≡ 12) (short : AllByRecursion AreShort ns) where
  pub says_list : Says (list true).language (map placeless.delay) (map delay_of ns) (flat_map delay_meanings ns)
  unfolding list_parts
  says_list ts i j s =
      let r = counted (λ n. guarded (may_come true n) delay.language) (λ n d. suc n) delay_meanings IsDelay (λ n c x p. refl) ns (each_delay ns short) 0 (let e : 0 + length ns ≤ 12 = omega (arith, twelve) in e) ts i j s in
      (r.parts, (r.spelled, at_twelve (state_after (λ n d. suc n) 0 r.parts) (length ns) r.count twelve), all_delays ns r.parts r.each)

-- ---- delays of a path, which no RETAIN is among

abbrev IsTailPart : Numbers → TailPart → Type 0
IsTailPart n (a_retain ds) = ⊥
IsTailPart n (a_delay d) = IsDelay n d

tail_counts : (k : ℕ) (n : Numbers) (x : TailPart) → IsTailPart n x → count_after k x ≡ suc k
tail_counts k n (a_retain ds) h = absurd h
tail_counts k n (a_delay d) h = refl

module _ (k : ℕ) (n : Numbers) (h : AreShort n) where
  d : begins_number (decimal n.delay) ≡ true
  d = decimal_begins n.delay (small n.delay h.delay)

  r : begins_number (decimal n.reject) ≡ true
  r = decimal_begins n.reject (small n.reject h.reject)

  e : begins_number (decimal n.error) ≡ true
  e = decimal_begins n.error (small n.error h.error)

  abbrev Rest : Value × Option Limits → Type 0
  Rest x = IsRest (decimal n.delay) (decimal n.reject) (decimal n.error) x

  abbrev IsTailRest : TailRest → Type 0
  IsTailRest (retain_rest ds) = ⊥
  IsTailRest (value_rest x) = Rest x

  abbrev the_rest : List Meaning
  the_rest = rest_meanings (decimal n.delay) (decimal n.reject) (decimal n.error)

  tells_tail_rest : Tells (tail_rest_parts true k).language IsTailRest the_rest
  unfolding tail_rest_parts
  tells_tail_rest =
      tells_right (mapped retain_rest (only_if (k == 0) (word keyword.Retain ▸ (list true ◂ mark is_right)))).language (mapped value_rest delay_rest).language IsTailRest the_rest
      (tells_image value_rest delay_rest.language Rest IsTailRest the_rest (tells_rest (decimal n.delay) (decimal n.reject) (decimal n.error) d r e) (λ x p. p))

  made : (place : Place) (x : TailRest) → IsTailRest x → IsTailPart n (tail_part_of place x)
  made place (retain_rest ds) p = absurd p
  made place (value_rest x) p = delay_is (decimal n.delay) (decimal n.reject) (decimal n.error) place x p

  tells_tail_part : k < 12 → Tells (tail_part true k).language (IsTailPart n) (delay_meanings n)
  tells_tail_part l =
      tells_guarded (may_come true k) (mapped (λ (x : Place × TailRest). tail_part_of x.0 x.1) (placed (mark is_left ▸ tail_rest_parts true k))).language (IsTailPart n) (delay_meanings n) (may_come_before k l)
      (tells_image (λ (x : Place × TailRest). tail_part_of x.0 x.1) (placed (mark is_left ▸ tail_rest_parts true k)).language (λ x. IsTailRest x.1) (IsTailPart n) (delay_meanings n)
      (tells_placed (mark is_left ▸ tail_rest_parts true k).language IsTailRest left_token the_rest
      (tells_second (mark is_left).language (tail_rest_parts true k).language (λ u. Unit {0}) IsTailRest (left_token ∷ []) the_rest (tells_mark is_left left_token refl) tells_tail_rest))
      (λ x p. made x.0 x.1 p))

each_part : (ns : List Numbers) → AllByRecursion AreShort ns → (k : ℕ) → k < 12 → AllByRecursion (λ n. Tells (tail_part true k).language (IsTailPart n) (delay_meanings n)) ns
each_part [] h k l = tt
each_part (n ∷ ns) h k l = (tells_tail_part k n h.0 l, each_part ns h.1 k l)

abbrev pub IsTail : List Numbers → List Delay × List Delay → Type 0
IsTail ns x = (x.0 ≡ []) × (map placeless.delay x.1 ≡ map delay_of ns)

all_parts : (ns : List Numbers) (ps : List TailPart) → AllZip IsTailPart ns ps → IsTail ns (retains_of ps, delays_of ps)
all_parts [] [] h = (refl, refl)
all_parts [] (p ∷ ps) h = absurd h
all_parts (n ∷ ns) [] h = absurd h
all_parts (n ∷ ns) (a_retain ds ∷ ps) h = absurd h.0
all_parts (n ∷ ns) (a_delay x ∷ ps) h = let r = all_parts ns ps h.1 in (r.0, ap (λ y. y ∷ map placeless.delay (delays_of ps)) h.0 ∙ ap (λ xs. delay_of n ∷ xs) r.1)

module _ (ns : List Numbers) (twelve : length ns ≡ 12) (short : AllByRecursion AreShort ns) where
  pub tells_tail : Tells (tail true).language (IsTail ns) (flat_map delay_meanings ns)
  unfolding tail_parts
  tells_tail ts i j s =
      let r = counted (λ n. (tail_part true n).language) count_after delay_meanings IsTailPart tail_counts ns (each_part ns short) 0 (let e : 0 + length ns ≤ 12 = omega (arith, twelve) in e) ts i j s in
      ((retains_of r.parts, delays_of r.parts), (r.parts, refl, (r.spelled, at_twelve (state_after count_after 0 r.parts) (length ns) r.count twelve)), all_parts ns r.parts r.each)
