-- Different places in the row of a module's bits are different bits.
use Rattle.std.specs.Prelude.{◌≡◌, ℕ, zero, suc, ◌<◌, ◌==◌, List, [], ◌∷◌, Bool, true, false, ◌&&◌, length, slice_index_or, refl, bytes_eq}
use Rattle.std.specs.List.{AllByRecursion}
use Rattle.std.proofs.Common.{sym, ◌∙◌, ap, arith}
use Rattle.std.proofs.lemmas.Bool.{eq-eqb, eqb-true}
use Rattle.std.proofs.lemmas.Bool.Decides.{nat_tests}
use Rattle.std.proofs.lemmas.Slice.Eq.{bytes_eq-Decides}
use Rattle.elab_laws.specs.Handing.{all_bits, variable_bits}
use Rattle.elab_laws.proofs.Apart.{bytes-either, numbers-either, variables-apart}
use Rattle.elab_laws.proofs.Lists.{Pairwise, pairwise-flat, pairwise-map, range-apart, all-anyway, all-map}
use Rattle.elab_model.specs.Bits.{positions}
use Rattle.elab_model.specs.Names.{Variable, variables}
use Rattle.sg_circuit.specs.Closed.{width_of}
use Rattle.vl_tree.specs.Tree.{Module}
use Rattle.elab_ends.specs.Seen.{AreApart}

abbrev Pair : Type 0
Pair = Variable × ℕ

abbrev same : Pair → Pair → Bool
same x y = bytes_eq x.0.name y.0.name && x.1 == y.1

abbrev Differ : Pair → Pair → Type 0
Differ x y = same x y ≡ false

and-false : (a b : Bool) → b ≡ false → (a && b) ≡ false
and-false true b e = e
and-false false b e = refl

-- the bits of one variable
variable-bits : (v : Variable) → Pairwise Differ (variable_bits v)
variable-bits v =
    pairwise-map Differ (λ p. (v, p)) (positions v.range) (each (positions v.range) (range-apart 0 (width_of v.range)))
  where
    one : (p : ℕ) (qs : List ℕ) → AllByRecursion (λ q. (p == q) ≡ false) qs → AllByRecursion (λ q. Differ (v, p) (v, q)) qs
    one p [] h = tt
    one p (q ∷ qs) h = (and-false (bytes_eq v.name v.name) (p == q) h.0, one p qs h.1)

    each : (ps : List ℕ) → Pairwise (λ p q. (p == q) ≡ false) ps → Pairwise (λ p q. Differ (v, p) (v, q)) ps
    each [] h = tt
    each (p ∷ ps) h = (one p ps h.0, each ps h.1)

own : (v : Variable) → AllByRecursion (λ x. x.0.name ≡ v.name) (variable_bits v)
own v = all-map (λ x. x.0.name ≡ v.name) (λ p. (v, p)) (positions v.range) (all-anyway (λ p. v.name ≡ v.name) (positions v.range) (λ p. refl))

names-tell : (v w : Variable) → bytes_eq v.name w.name ≡ false → (x y : Pair) → x.0.name ≡ v.name → y.0.name ≡ w.name → Differ x y
names-tell v w e x y h g = ap (λ b. b && x.1 == y.1) (ap (λ n. bytes_eq n y.0.name) h ∙ ap (bytes_eq v.name) g ∙ e)

bits-differ : (m : Module) → Pairwise Differ (all_bits (variables m))
bits-differ m =
    pairwise-flat Differ (λ v w. bytes_eq v.name w.name ≡ false) (λ v x. x.0.name ≡ v.name) variable_bits (variables m) own (λ v w e. names-tell v w e)
    (all-anyway (λ v. Pairwise Differ (variable_bits v)) (variables m) variable-bits) (variables-apart m)

-- ---- by their places

reached : {A : Type 0} (P : A → Type 0) (xs : List A) (i : ℕ) (d : A) → AllByRecursion P xs → i < length xs → P (slice_index_or xs i d)
reached P [] i d h lt = absurd (omega (arith, lt))
reached P (x ∷ xs) zero d h lt = h.0
reached P (x ∷ xs) (suc i) d h lt = reached P xs i d h.1 (omega (arith, lt))

self : (x : Pair) → same x x ≡ true
self x = ap (λ b. b && x.1 == x.1) ((bytes_eq-Decides x.0.name x.0.name).1 refl) ∙ eq-eqb x.1 x.1 refl

either : (x y : Pair) → same x y ≡ same y x
either x y = ap (λ b. b && x.1 == y.1) (bytes-either x.0.name y.0.name) ∙ ap (λ b. bytes_eq y.0.name x.0.name && b) (numbers-either x.1 y.1)

zero-suc : (j : ℕ) → (0 == suc j) ≡ false
zero-suc j = grind (arith, nat_tests)

suc-zero : (i : ℕ) → (suc i == 0) ≡ false
suc-zero i = grind (arith, nat_tests)

suc-suc : (i j : ℕ) → (i == j) ≡ (suc i == suc j)
suc-suc i j = by (i == j) refl (suc i == suc j) refl
  where
    by : (a : Bool) → (i == j) ≡ a → (b : Bool) → (suc i == suc j) ≡ b → a ≡ b
    by true e true f = refl
    by false e false f = refl
    by true e false f = let is : suc i ≡ suc j = ap suc (eqb-true i j e) in sym (eq-eqb (suc i) (suc j) is) ∙ f
    by false e true f = let same_suc : suc i ≡ suc j = eqb-true (suc i) (suc j) f in let is : i ≡ j = omega (arith, same_suc) in sym e ∙ eq-eqb i j is

by-places : (xs : List Pair) (d : Pair) → Pairwise Differ xs → (i j : ℕ) → i < length xs → j < length xs → same (slice_index_or xs i d) (slice_index_or xs j d) ≡ (i == j)
by-places [] d h i j lt le = absurd (omega (arith, lt))
by-places (x ∷ xs) d h zero zero lt le = self x
by-places (x ∷ xs) d h zero (suc j) lt le = reached (Differ x) xs j d h.0 (omega (arith, le)) ∙ sym (zero-suc j)
by-places (x ∷ xs) d h (suc i) zero lt le = either (slice_index_or xs i d) x ∙ reached (Differ x) xs i d h.0 (omega (arith, lt)) ∙ sym (suc-zero i)
by-places (x ∷ xs) d h (suc i) (suc j) lt le = by-places xs d h.1 i j (omega (arith, lt)) (omega (arith, le)) ∙ suc-suc i j

pub places-apart : (m : Module) → AreApart (variables m)
places-apart m = λ i j lt le. by-places (all_bits (variables m)) _ (bits-differ m) i j lt le
