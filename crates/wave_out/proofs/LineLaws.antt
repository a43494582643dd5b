-- Ready lines.
use Rattle.std.proofs.Common.{◌≡◌, ◌∙◌, sym, ap, subst, ℕ, suc, ◌+◌, ◌-◌, ◌/◌, ◌^◌, ◌<◌, ◌≤◌, List, [], ◌∷◌, ◌++◌, length, get_or, arith, inl, inr}
use Rattle.std.specs.Prelude.{All, Some, slice_get}
use Rattle.std.proofs.lemmas.Bool.{cases_lt}
use Rattle.std.proofs.lemmas.List.{length-append}
use Rattle.std.proofs.lemmas.Option.{get_or_from_slice_get}
use Rattle.sg_logic.specs.declared.values.Value.{Value}
use Rattle.sg_logic.specs.declared.values.Value.TheVariants.{X}
use Rattle.wave_out.specs.Lines.{bits_line}
use Rattle.wave_out.specs.Vcd.{code, value_letter}
use Rattle.wave_out.proofs.CodeLaws.{code_large, code_small}

-- a code of a number below 2^32 has five bytes at most
longer : (k n : ℕ) → (94 ≤ k → length (code (k / 94 - 1)) ≤ n) → length (code k) ≤ suc n
longer k n h = elim (cases_lt k 94) [
  | inl small ↦ (let e : length (code k) ≡ 1 = ap length (code_small k small) in omega arith)
  | inr large ↦ (let e : length (code k) ≡ suc (length (code (k / 94 - 1))) = ap length (code_large k large) in let m : length (code (k / 94 - 1)) ≤ n = h large in omega arith)
]

one_byte : (k : ℕ) → k < 94 → length (code k) ≤ 1
one_byte k l = let e : length (code k) ≡ 1 = ap length (code_small k l) in omega arith

pub length_code : (k : ℕ) → k < 2 ^ 32 → length (code k) ≤ 5
length_code k l =
    longer k 4 (λ a.
    longer (k / 94 - 1) 3 (λ b.
    longer ((k / 94 - 1) / 94 - 1) 2 (λ c.
    longer (((k / 94 - 1) / 94 - 1) / 94 - 1) 1 (λ d. one_byte ((((k / 94 - 1) / 94 - 1) / 94 - 1) / 94 - 1) (omega arith)))))

pub end_length : (k : ℕ) (text : List ℕ) → k < 2 ^ 32 → text ≡ code k ++ 10 ∷ [] → length text ≤ 6
end_length k text l e =
    let a : length text ≡ length (code k) + 1 = ap length e ∙ length-append (code k) (10 ∷ []) in
    let b : length (code k) ≤ 5 = length_code k l in
    omega arith

-- the line of a variable of one bit
pub narrow_line : (bits : List ℕ) (values : List Value) (net k : ℕ) (end : List ℕ) (v : Value) → bits ≡ net ∷ [] → slice_get values net ≡ Some v → end ≡ code k ++ 10 ∷ [] → value_letter v ∷ end ≡ bits_line values k bits
narrow_line bits values net k end v e got ended =
    ap (λ t. value_letter v ∷ t) ended ∙ ap (λ w. value_letter w ∷ (code k ++ 10 ∷ [])) (sym (get_or_from_slice_get values net v X got)) ∙ ap (λ ns. bits_line values k ns) (sym e)

pub narrow_within : (bits : List (List ℕ)) (k net n : ℕ) → All (λ bs. All (λ b. b < n) bs) bits → k < length bits → get_or bits k [] ≡ net ∷ [] → net < n
narrow_within bits k net n h l e = let one : All (λ b. b < n) (net ∷ []) = subst (λ bs. All (λ b. b < n) bs) e (h k [] l) in one 0 0 (omega arith)
