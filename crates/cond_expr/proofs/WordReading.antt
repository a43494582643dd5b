-- Reading the words of a condition among other tokens, as a loop does that keeps them in a Vec whose items are seen by view.
use Rattle.std.proofs.Common.{◌≡◌, ℕ, zero, suc, ◌+◌, ◌-◌, ◌<◌, ◌≤◌, Bool, true, false, List, [], ◌∷◌, ◌++◌, length, map, Option, Some, None, Result, Ok, Err, refl, ap, subst, arith}
use Rattle.std.specs.Prelude.{◌==◌, if◌then◌else◌}
use Rattle.grammar.specs.Exact.{Exact}
use Rattle.grammar.specs.Reading.{Fails}
use Rattle.grammar.proofs.Loops.{advances, stands_within}
use Rattle.grammar.proofs.LoopsBy.{rest_of_by, by_goes_on, by_fails, by_ends, by_refused, by_advances}
use Rattle.grammar.specs.declared.ReadFault.{ReadFault}
use Rattle.grammar.specs.declared.ReadFault.TheVariants as faults
use Rattle.cond_expr.specs.declared.scan.Phase.{Phase}
use Rattle.cond_expr.specs.declared.scan.Phase.TheVariants.{Operand, Name, Whole}
use Rattle.cond_expr.specs.Kinds.{Kind, name_kind, index_kind, constant_kind, left_kind, right_kind, operator_kind, is_prefix, precedence}
use Rattle.cond_expr.specs.Kinds.{kind_of as word_kind}
use Rattle.cond_expr.specs.ScanSteps.{Next, step, after_right, after_whole}
use Rattle.cond_expr.proofs.Words.{word_in-exact}
use Rattle.cond_expr.specs.Vocabulary.{Vocabulary}
use Rattle.cond_expr.specs.WordReading.{WordRead}
use Rattle.cond_expr.specs.WordStates.{IsVocabulary, next_by, word_in, goes_on_with, may_end}

-- ---- the loop over the words of a condition

-- what is read after the words so far, from the state s on, together with them
abbrev pub rest_of_words : {T K W X : Type 0} → Vocabulary T K W → (X → W) → List T → List X → Next → ℕ → Result (List W × ℕ) ℕ
rest_of_words v view ts items s i = rest_of_by v.kind (goes_on_with v) (word_in v) (next_by v) may_end ts view items s i

right_few : (u v : ℕ) (q : Phase) → after_right u ≡ Some (v, q) → v ≤ u + 1
right_few zero v q h = absurd cc
right_few (suc u) v q h = let e : (u, Whole) ≡ (v, q) = cc in omega (arith, (let f : u ≡ v = ap (λ (z : ℕ × Phase). z.0) e in f))

same_first : (u v : ℕ) (p q : Phase) → (let s : Next = Some (u, p) in s) ≡ Some (v, q) → u ≡ v
same_first u v p q h = let e : (u, p) ≡ (v, q) = cc in ap (λ (z : ℕ × Phase). z.0) e

if_few : (b : Bool) (u v : ℕ) (p q : Phase) → (let s : Next = (if b then Some (u, p) else None) in s) ≡ Some (v, q) → v ≤ u + 1
if_few true u v p q h = omega (arith, same_first u v p q h)
if_few false u v p q h = absurd (let f : (let s : Next = None in s) ≡ Some (v, q) = h in cc)

if_few_not : (b : Bool) (u v : ℕ) (p q : Phase) → (let s : Next = (if b then None else Some (u, p)) in s) ≡ Some (v, q) → v ≤ u + 1
if_few_not true u v p q h = absurd (let f : (let s : Next = None in s) ≡ Some (v, q) = h in cc)
if_few_not false u v p q h = omega (arith, same_first u v p q h)

whole_few : (u v : ℕ) (q : Phase) (k : Kind) → after_whole u k ≡ Some (v, q) → v ≤ u + 1
whole_few u v q right_kind h = right_few u v q h
whole_few u v q (operator_kind o) h = if_few_not (precedence o == 0) u v Operand q h
whole_few u v q name_kind h = absurd cc
whole_few u v q index_kind h = absurd cc
whole_few u v q constant_kind h = absurd cc
whole_few u v q left_kind h = absurd cc

-- a word opens one parenthesis at most
step_few : (u v : ℕ) (p q : Phase) (k : Kind) → step u p k ≡ Some (v, q) → v ≤ u + 1
step_few u v Operand q name_kind h = omega (arith, same_first u v Name q h)
step_few u v Operand q constant_kind h = omega (arith, same_first u v Whole q h)
step_few u v Operand q left_kind h = omega (arith, same_first (suc u) v Operand q h)
step_few u v Operand q (operator_kind o) h = if_few (is_prefix o) u v Operand q h
step_few u v Operand q index_kind h = absurd cc
step_few u v Operand q right_kind h = absurd cc
step_few u v Name q index_kind h = omega (arith, same_first u v Whole q h)
step_few u v Name q name_kind h = whole_few u v q name_kind h
step_few u v Name q constant_kind h = whole_few u v q constant_kind h
step_few u v Name q left_kind h = whole_few u v q left_kind h
step_few u v Name q right_kind h = whole_few u v q right_kind h
step_few u v Name q (operator_kind o) h = whole_few u v q (operator_kind o) h
step_few u v Whole q k h = whole_few u v q k h

module _ {T K W X : Type 0} (v : Vocabulary T K W) (iv : IsVocabulary v) (view : X → W) (ts : List T) where
  abbrev rest : List X → Next → ℕ → Result (List W × ℕ) ℕ
  rest items s i = rest_of_words v view ts items s i

  exact : (s : Next) → Exact v.kind (word_in v s)
  exact s = word_in-exact v iv s

  module _ (u : ℕ) (p : Phase) (i : ℕ) where
    abbrev here : Next
    here = Some (u, p)

    module _ (w : X × ℕ × ℕ × Phase) (read : WordRead v view ts i here (Ok (Some w))) where
      pub word_goes_on : (total : Result (List W × ℕ) ℕ) (items : List X) → rest items here i ≡ total → rest (items ++ w.0 ∷ []) (Some (w.2, w.3)) w.1 ≡ total
      word_goes_on total items so_far =
          let more = by_goes_on v.kind (goes_on_with v) (word_in v) (next_by v) may_end exact (λ s. refl) ts view total items here i w.0 w.1 read.0 read.1 so_far in
          subst (λ (s : Next). rest (items ++ w.0 ∷ []) s w.1 ≡ total) read.2 more

      pub word_advances : length ts - w.1 < length ts - i
      word_advances = by_advances v.kind (goes_on_with v) (word_in v) (next_by v) may_end exact (λ s. refl) ts view here i (view w.0) w.1 read.0 read.1

      pub word_few : u ≤ i → (w.2 ≤ w.1) × (w.2 ≤ length ts)
      word_few le =
          let few = step_few u w.2 p w.3 (word_kind (v.tok (view w.0))) read.2 in
          let a = advances v.kind (word_in v here) (exact here) refl ts i (view w.0) w.1 read.1 in
          let lt = stands_within v.kind (word_in v here) (exact here) refl ts (word_in v here).starts i read.0 in
          let le' = a.1 (omega arith) in
          (omega (arith, few, a.0), omega (arith, few, a.0, le'))

    pub word_fails : (total : Result (List W × ℕ) ℕ) (items : List X) (f : ReadFault) (r : Result (Option (X × ℕ × ℕ × Phase)) ReadFault) → r ≡ Err f → WordRead v view ts i here r → rest items here i ≡ total → Fails f total
    word_fails total items faults.Memory r e w so_far = tt
    word_fails total items (faults.At k) r e w so_far =
        let z = rw e at w in
        by_fails v.kind (goes_on_with v) (word_in v) (next_by v) may_end exact (λ s. refl) ts view total items here i (faults.At k) z.0 z.1 so_far

    pub words_end : (total : Result (List W × ℕ) ℕ) (items : List X) → WordRead v view ts i here (Ok None) → may_end here ≡ true → rest items here i ≡ total → total ≡ Ok (map view items, i)
    words_end total items none may so_far = by_ends v.kind (goes_on_with v) (word_in v) (next_by v) may_end exact (λ s. refl) ts view total items here i none may so_far

    pub words_refused : (total : Result (List W × ℕ) ℕ) (items : List X) → WordRead v view ts i here (Ok None) → may_end here ≡ false → rest items here i ≡ total → total ≡ Err i
    words_refused total items none may so_far = by_refused v.kind (goes_on_with v) (word_in v) (next_by v) may_end exact (λ s. refl) ts view total items here i none may so_far

pub none_if_not_some : {X : Type 0} (o : Option X) → ((x : X) → o ≡ Some x → ⊥) → o ≡ None
none_if_not_some None h = refl
none_if_not_some (Some x) h = absurd (h x refl)
