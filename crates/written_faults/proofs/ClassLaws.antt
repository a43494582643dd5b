-- Numbers of codes tell conditions apart.
use Rattle.std.proofs.Common.{◌≡◌, refl, sym, ◌∙◌, ap, subst, ℕ, zero, suc, ◌+◌, ◌<◌, ◌≤◌, Bool, true, false, List, [], ◌∷◌, ◌++◌, length, map, Some, slice_get, slice_index_or, inl, inr, arith}
use Rattle.std.specs.Prelude.{◌⊎◌, bytes_eq, if◌then◌else◌}
use Rattle.std.specs.Global.{Vec}
use Rattle.std.specs.List.{IsDistinct, AllByRecursion, list_any}
use Rattle.std.proofs.lemmas.List.{get_or-map, get_or_push, get_or_append_left, length-append, length-map}
use Rattle.std.proofs.lemmas.Bool.{cases_lt}
use Rattle.std.proofs.lemmas.Slice.Eq.{bytes_eq-Decides}
use Rattle.cond_expr.specs.Condition.{Condition}
use Rattle.sg_circuit.specs.PathsSeen.{written_at}
use Rattle.annotation_model.specs.Same.{bare}
use Rattle.indexmap.specs.IndexSet.{insert_key}
use Rattle.written_faults.specs.Classes.{AreClasses}
use Rattle.written_faults.specs.Classing.{AreNumbered, class_codes}
use Rattle.written_faults.specs.Codes.{tokens_code}
use Rattle.written_faults.proofs.CodeLaws.{same_tokens}
use Rattle.written_faults.proofs.PlaceLaws.{get-left}

-- ---- keys that are kept once

all-get : {A : Type 0} (P : A → Type 0) (xs : List A) (i : ℕ) (x : A) → AllByRecursion P xs → slice_get xs i ≡ Some x → P x
all-get P [] i x h e = absurd cc
all-get P (y ∷ xs) zero x h e = let same : y ≡ x = cc in subst P same h.0
all-get P (y ∷ xs) (suc i) x h e = all-get P xs i x h.1 e

abbrev same_items : Vec ℕ → Vec ℕ → Bool
same_items k l = bytes_eq k.items l.items

alike : (k l : Vec ℕ) → k.items ≡ l.items → same_items k l ≡ true
alike k l e = (bytes_eq-Decides k.items l.items).1 e

one-place : (ks : List (Vec ℕ)) (i j : ℕ) (k l : Vec ℕ) → IsDistinct same_items ks → slice_get ks i ≡ Some k → slice_get ks j ≡ Some l → k.items ≡ l.items → i ≡ j
unfolding IsDistinct
one-place [] i j k l d e f same = absurd cc
one-place (x ∷ ks) zero zero k l d e f same = refl
one-place (x ∷ ks) zero (suc j) k l d e f same =
    let here : x ≡ k = cc in
    let other : same_items x l ≡ false = all-get (λ y. same_items x y ≡ false) ks j l d.0 f in
    absurd (let h : true ≡ false = sym (alike x l (ap (λ v. v.items) here ∙ same)) ∙ other in cc)
one-place (x ∷ ks) (suc i) zero k l d e f same =
    let here : x ≡ l = cc in
    let other : same_items x k ≡ false = all-get (λ y. same_items x y ≡ false) ks i k d.0 e in
    absurd (let h : true ≡ false = sym (alike x k (ap (λ v. v.items) here ∙ sym same)) ∙ other in cc)
one-place (x ∷ ks) (suc i) (suc j) k l d e f same = ap suc (one-place ks i j k l d.1 e f same)

kept-still : (ks : List (Vec ℕ)) (v k : Vec ℕ) (i : ℕ) → slice_get ks i ≡ Some k → slice_get (insert_key same_items ks v) i ≡ Some k
kept-still ks v k i e = by (list_any (same_items v) ks)
  where
    by : (b : Bool) → slice_get (if b then ks else ks ++ v ∷ []) i ≡ Some k
    by true = e
    by false = get-left ks (v ∷ []) i k e

-- one code more
pub number-added : (codes : List (List ℕ)) (old new : List (Vec ℕ)) (numbers more : List ℕ) (v : Vec ℕ) (number : ℕ) → AreNumbered codes old numbers → new ≡ insert_key same_items old v → IsDistinct same_items new
    → (k : Vec ℕ) × (slice_get new number ≡ Some k) × (same_items v k ≡ true) → more ≡ numbers ++ number ∷ [] → AreNumbered (codes ++ v.items ∷ []) new more
number-added codes old new numbers more v number are keys distinct stored pushed = record {
  each = ap length pushed ∙ (length-append numbers (number ∷ []) ∙ ap (λ n. n + 1) are.each ∙ sym (length-append codes (v.items ∷ [])));
  stands = λ i l. by i (cases_lt i (length codes)) l;
  once = λ i j k l e f same. one-place new i j k l distinct e f same;
}
  where
    Stands : ℕ → List ℕ → Type 0
    Stands n code = (k : Vec ℕ) × (slice_get new n ≡ Some k) × (k.items ≡ code)

    by : (i : ℕ) → (i < length codes) ⊎ (length codes ≤ i) → i < length (codes ++ v.items ∷ []) → Stands (slice_index_or more i 0) (slice_index_or (codes ++ v.items ∷ []) i [])
    by i (inl l) m =
        let before = are.stands i l in
        let here : i < length numbers = (let n = are.each in omega (arith, n, l)) in
        let number-is : slice_index_or more i 0 ≡ slice_index_or numbers i 0 = ap (λ ns. slice_index_or ns i 0) pushed ∙ get_or_append_left numbers (number ∷ []) 0 i here in
        let code-is : slice_index_or (codes ++ v.items ∷ []) i [] ≡ slice_index_or codes i [] = get_or_append_left codes (v.items ∷ []) [] i l in
        (before.0, ap (slice_get new) number-is ∙ (ap (λ ks. slice_get ks (slice_index_or numbers i 0)) keys ∙ kept-still old v before.0 (slice_index_or numbers i 0) before.1), before.2 ∙ sym code-is)
    by i (inr l) m =
        let at : i ≡ length codes = (let n = length-append codes (v.items ∷ []) in omega (arith, n, l, m)) in
        let number-is : slice_index_or more i 0 ≡ number = ap (λ ns. slice_index_or ns i 0) pushed ∙ get_or_push numbers number 0 i (are.each ∙ sym at) in
        let code-is : slice_index_or (codes ++ v.items ∷ []) i [] ≡ v.items = get_or_push codes v.items [] i (sym at) in
        (stored.0, ap (slice_get new) number-is ∙ stored.1, sym ((bytes_eq-Decides v.items stored.0.items).0 stored.2) ∙ sym code-is)

pub numbered-none : (kept : List (Vec ℕ)) → kept ≡ [] → AreNumbered [] kept []
numbered-none kept e = record { each = refl; stands = λ i l. absurd (omega (arith, l)); once = λ i j k l f g same. absurd (let h : slice_get [] i ≡ Some k = ap (λ ks. slice_get ks i) (sym e) ∙ f in cc) }

-- ---- conditions

code-at : (conditions : List Condition) (i : ℕ) → i < length conditions → slice_index_or (class_codes conditions) i [] ≡ tokens_code (bare (written_at conditions i))
code-at conditions i l = get_or-map (λ ts. tokens_code (bare ts)) (map (λ (c : Condition). c.tokens) conditions) i [] [] (let n = length-map conditions (λ (c : Condition). c.tokens) in omega (arith, n, l))

pub classes_are : (conditions : List Condition) (kept : List (Vec ℕ)) (classes : List ℕ) → AreNumbered (class_codes conditions) kept classes → AreClasses conditions classes
classes_are conditions kept classes are = record {
  each = are.each ∙ long;
  same = λ i j l m. (there i j l m, back i j l m);
}
  where
    long : length (class_codes conditions) ≡ length conditions
    long = length-map (map (λ (c : Condition). c.tokens) conditions) (λ ts. tokens_code (bare ts)) ∙ length-map conditions (λ (c : Condition). c.tokens)

    within : (i : ℕ) → i < length conditions → i < length (class_codes conditions)
    within i l = let n = long in omega (arith, n, l)

    there : (i j : ℕ) → i < length conditions → j < length conditions → slice_index_or classes i 0 ≡ slice_index_or classes j 0 → bare (written_at conditions i) ≡ bare (written_at conditions j)
    there i j l m e =
        let one = are.stands i (within i l) in
        let other = are.stands j (within j m) in
        let h : Some one.0 ≡ Some other.0 = sym one.1 ∙ (ap (slice_get kept) e ∙ other.1) in
        let same : one.0 ≡ other.0 = cc in
        same_tokens (bare (written_at conditions i)) (bare (written_at conditions j)) (sym (code-at conditions i l) ∙ (sym one.2 ∙ (ap (λ v. v.items) same ∙ (other.2 ∙ code-at conditions j m))))

    back : (i j : ℕ) → i < length conditions → j < length conditions → bare (written_at conditions i) ≡ bare (written_at conditions j) → slice_index_or classes i 0 ≡ slice_index_or classes j 0
    back i j l m e =
        let one = are.stands i (within i l) in
        let other = are.stands j (within j m) in
        are.once (slice_index_or classes i 0) (slice_index_or classes j 0) one.0 other.0 one.1 other.1 (one.2 ∙ (code-at conditions i l ∙ (ap tokens_code e ∙ (sym (code-at conditions j m) ∙ sym other.2))))
