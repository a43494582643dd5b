-- The bits of a module's variables, by their places in its row: each is known by its name and position.
use Rattle.std.specs.Prelude.{◌≡◌, ℕ, zero, suc, ◌<◌, ◌==◌, List, [], ◌∷◌, false, None, Some, bytes_eq, length, slice_get, refl}
use Rattle.std.specs.List.{AllByRecursion}
use Rattle.std.proofs.Common.{sym, ◌∙◌, ap, subst}
use Rattle.std.proofs.lemmas.Bool.{eq-eqb}
use Rattle.std.proofs.lemmas.Option.{slice_get-get_or}
use Rattle.std.proofs.lemmas.Slice.Eq.{bytes_eq-Decides}
use Rattle.sg_circuit.specs.Closed.{width_of}
use Rattle.sg_circuit.specs.declared.scopes.Port.TheVariants as port
use Rattle.vl_tree.specs.Tree.{Module}
use Rattle.elab_model.specs.Bits.{positions}
use Rattle.elab_model.specs.Names.{Variable, variable, variables}
use Rattle.elab_laws.specs.Handing.{variable_bits, all_bits}
use Rattle.elab_laws.proofs.Lists.{all-map, all-flat_in, all-anyway, all-weaker, all-get, Pairwise, pairwise-map, pairwise-weaker, pairwise-flat, range-apart}
use Rattle.elab_laws.proofs.Apart.{variables-apart}
use Rattle.elab_laws.proofs.NoFaults.{all-from}
use Rattle.elab_bits.specs.Seen.{bit_at}
use Rattle.elab_laws.proofs.Legs.{variable-is}

-- what stands past the end
abbrev pub blank : Variable × ℕ
blank = (record { name = []; range = None; is_reg = false; port = port.Inner }, 0)

pub bit-there : (vs : List Variable) (i : ℕ) → i < length (all_bits vs) → slice_get (all_bits vs) i ≡ Some (bit_at vs i)
bit-there vs i lt = slice_get-get_or (all_bits vs) i blank lt

-- a bit's variable is what the module says of its name
abbrev IsKnown : Module → Variable × ℕ → Type 0
IsKnown m b = variable m b.0.name ≡ b.0

all-known : (m : Module) → AllByRecursion (IsKnown m) (all_bits (variables m))
all-known m =
    all-flat_in (IsKnown m) variable_bits (variables m)
    (all-weaker (λ v. variable m v.name ≡ v) (λ v. AllByRecursion (IsKnown m) (variable_bits v)) (variables m)
    (λ v e. all-map (IsKnown m) (λ p. (v, p)) (positions v.range) (all-anyway (λ p. IsKnown m (v, p)) (positions v.range) (λ p. e)))
    (all-from (λ v. variable m v.name ≡ v) (variables m) (variable-is m)))

pub known-at : (m : Module) (i : ℕ) → i < length (all_bits (variables m)) → variable m (bit_at (variables m) i).0.name ≡ (bit_at (variables m) i).0
known-at m i lt = all-get (IsKnown m) (all_bits (variables m)) i (bit_at (variables m) i) (all-known m) (bit-there (variables m) i lt)

-- no two have one name and one position
abbrev Differ : Variable × ℕ → Variable × ℕ → Type 0
Differ a b = a.0.name ≡ b.0.name → a.1 ≡ b.1 → ⊥

abbrev IsOf : Variable → Variable × ℕ → Type 0
IsOf v b = b.0.name ≡ v.name

bits-differ : (m : Module) → Pairwise Differ (all_bits (variables m))
bits-differ m =
    pairwise-flat Differ (λ v w. bytes_eq v.name w.name ≡ false) IsOf variable_bits (variables m)
    (λ v. all-map (IsOf v) (λ p. (v, p)) (positions v.range) (all-anyway (λ p. v.name ≡ v.name) (positions v.range) (λ p. refl)))
    names-tell
    (all-anyway (λ v. Pairwise Differ (variable_bits v)) (variables m) of-one)
    (variables-apart m)
  where
    names-tell : (v w : Variable) → bytes_eq v.name w.name ≡ false → (a b : Variable × ℕ) → IsOf v a → IsOf w b → Differ a b
    names-tell v w e a b h g same position = let t = (bytes_eq-Decides v.name w.name).1 (sym h ∙ same ∙ g) in cc

    positions-tell : (v : Variable) (p q : ℕ) → (p == q) ≡ false → Differ (v, p) (v, q)
    positions-tell v p q e name same = let t = eq-eqb p q same in cc

    of-one : (v : Variable) → Pairwise Differ (variable_bits v)
    of-one v = pairwise-map Differ (λ p. (v, p)) (positions v.range) (pairwise-weaker (λ p q. (p == q) ≡ false) (λ p q. Differ (v, p) (v, q)) (positions v.range) (positions-tell v) (range-apart 0 (width_of v.range)))

-- places of one element are one place
one-place : {A : Type 0} (R : A → A → Type 0) (xs : List A) (i j : ℕ) (a b : A) → Pairwise R xs → slice_get xs i ≡ Some a → slice_get xs j ≡ Some b → (R a b → ⊥) → (R b a → ⊥) → i ≡ j
one-place R [] i j a b h e f n m = cc
one-place R (x ∷ xs) zero zero a b h e f n m = refl
one-place R (x ∷ xs) zero (suc j) a b h e f n m = let s : x ≡ a = cc in absurd (n (subst (λ y. R y b) s (all-get (R x) xs j b h.0 f)))
one-place R (x ∷ xs) (suc i) zero a b h e f n m = let s : x ≡ b = cc in absurd (m (subst (λ y. R y a) s (all-get (R x) xs i a h.0 e)))
one-place R (x ∷ xs) (suc i) (suc j) a b h e f n m = ap suc (one-place R xs i j a b h.1 e f n m)

pub same-place : (m : Module) (i j : ℕ) → i < length (all_bits (variables m)) → j < length (all_bits (variables m)) → (bit_at (variables m) i).0.name ≡ (bit_at (variables m) j).0.name
    → (bit_at (variables m) i).1 ≡ (bit_at (variables m) j).1 → i ≡ j
same-place m i j lt le name position =
    one-place Differ (all_bits (variables m)) i j (bit_at (variables m) i) (bit_at (variables m) j) (bits-differ m) (bit-there (variables m) i lt) (bit-there (variables m) j le)
    (λ d. d name position) (λ d. d (sym name) (sym position))
