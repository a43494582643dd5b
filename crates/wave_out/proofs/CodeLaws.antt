-- The identifier code of a variable, byte by byte.
use Rattle.std.specs.Prelude.{◌≡◌, ℕ, zero, suc, ◌+◌, ◌-◌, ◌/◌, ◌%◌, ◌<◌, ◌≤◌, nat_lt, if◌then◌else◌, Bool, true, false, [], ◌∷◌, refl}
use Rattle.std.proofs.Common.{ap, ◌∙◌, arith}
use Rattle.std.proofs.lemmas.Bool.Decides.{nat_tests}
use Rattle.wave_out.specs.Vcd.{code_in, code}

if_same : {A : Type 0} (b : Bool) (x y z : A) → (b ≡ false → y ≡ z) → (if b then x else y) ≡ (if b then x else z)
if_same true x y z h = refl
if_same false x y z h = h refl

not_below : (k : ℕ) → nat_lt k 94 ≡ false → 94 ≤ k
not_below k e = grind (arith, nat_tests)

smaller : (k : ℕ) → 94 ≤ k → k / 94 - 1 < k
smaller k l = omega arith

-- the number of turns doesn't matter where they suffice
turns_free : (t u k : ℕ) → k < t → k < u → code_in t k ≡ code_in u k
turns_free zero u k l m = absurd (omega arith)
turns_free (suc t) zero k l m = absurd (omega arith)
turns_free (suc t) (suc u) k l m =
    ap (λ cs. (33 + k % 94) ∷ cs) (if_same (nat_lt k 94) [] (code_in t (k / 94 - 1)) (code_in u (k / 94 - 1)) (λ e.
    let s : k / 94 - 1 < k = smaller k (not_below k e) in
    turns_free t u (k / 94 - 1) (omega arith) (omega arith)))

-- the last byte of a code
pub code_small : (k : ℕ) → k < 94 → code k ≡ (33 + k % 94) ∷ []
unfolding code
code_small k l = let e : nat_lt k 94 ≡ true = grind (arith, nat_tests) in ap (λ b. (33 + k % 94) ∷ (if b then [] else code_in k (k / 94 - 1))) e

-- a byte of a code that goes on
pub code_large : (k : ℕ) → 94 ≤ k → code k ≡ (33 + k % 94) ∷ code (k / 94 - 1)
unfolding code
code_large k l =
    let e : nat_lt k 94 ≡ false = grind (arith, nat_tests) in
    let s : k / 94 - 1 < k = smaller k l in
    ap (λ b. (33 + k % 94) ∷ (if b then [] else code_in k (k / 94 - 1))) e
    ∙ ap (λ cs. (33 + k % 94) ∷ cs) (turns_free k (suc (k / 94 - 1)) (k / 94 - 1) s (omega arith))
