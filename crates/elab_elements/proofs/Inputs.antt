-- The numbers of inputs, and how many of them are constants.
use Rattle.std.specs.Prelude.{◌≡◌, ℕ, suc, ◌+◌, ◌-◌, ◌<◌, ◌≤◌, ◌^◌, List, [], ◌∷◌, ◌++◌, length}
use Rattle.std.proofs.Common.{sym, ◌∙◌, ap, arith, append_assoc, drop, drop-cons, get_or}
use Rattle.std.proofs.lemmas.List.{append-nil, drop_all}
use Rattle.sg_logic.specs.declared.values.Value.{Value}
use Rattle.sg_text.specs.declared.places.Place.{Place}
use Rattle.sg_text.specs.declared.refusals.Refused.{Refused}
use Rattle.elab_model.specs.declared.kinds.ElabKind.{ElabKind}
use Rattle.elab_numbering.specs.Refusals.{RefusesCount}
use Rattle.elab_bits.specs.declared.bits.Bit as code_bit
use Rattle.elab_bits.specs.declared.bits.Bit.TheVariants as bit
use Rattle.elab_elements.specs.Words.{net_in, input_number, input_numbers, constants_in}

pub too-many_constants : (b : code_bit.Bit) (p : Place) (v : Value) (before : ℕ) (r : Refused ElabKind) → b ≡ bit.Constant p v → 4194304 ≤ before → ((count : ℕ) → 2 ^ 22 < count → RefusesCount count r)
    → (total : ℕ) → before + constants_in (b ∷ []) ≤ total → RefusesCount total r
too-many_constants b p v before r is le h total few =
    let one : constants_in (b ∷ []) ≡ 1 = ap (λ x. constants_in (x ∷ [])) is in
    h total (omega arith)

-- one input more has its number, and the next is free
pub next-input : (b : code_bit.Bit) (bs : List code_bit.Bit) (next : ℕ) (row : List ℕ)
    → input_numbers next row (b ∷ bs) ≡ input_number next row b ∷ input_numbers (next + constants_in (b ∷ [])) row bs
next-input (bit.Net i) bs next row = let e : next ≡ next + 0 = omega arith in ap (λ n. net_in row i ∷ input_numbers n row bs) e
next-input (bit.Constant p v) bs next row = let e : suc next ≡ next + 1 = omega arith in ap (λ n. next ∷ input_numbers n row bs) e

pub next-constant : (b : code_bit.Bit) (bs : List code_bit.Bit) → constants_in (b ∷ bs) ≡ constants_in (b ∷ []) + constants_in bs
next-constant (bit.Net i) bs = omega arith
next-constant (bit.Constant p v) bs = omega arith

at-next : (bs : List code_bit.Bit) (i : ℕ) (d : code_bit.Bit) → i < length bs → drop i bs ≡ get_or bs i d ∷ drop (i + 1) bs
at-next bs i d lt = let n : suc i ≡ i + 1 = omega arith in drop-cons bs i d lt ∙ ap (λ k. get_or bs i d ∷ drop k bs) n

pub count-more : (bs : List code_bit.Bit) (i next after first : ℕ) (d : code_bit.Bit) → i < length bs → after ≡ next + constants_in (get_or bs i d ∷ [])
    → next + constants_in (drop i bs) ≡ first + constants_in bs → after + constants_in (drop (i + 1) bs) ≡ first + constants_in bs
count-more bs i next after first d lt a h =
    let split : constants_in (drop i bs) ≡ constants_in (get_or bs i d ∷ []) + constants_in (drop (i + 1) bs) = ap constants_in (at-next bs i d lt) ∙ next-constant (get_or bs i d) (drop (i + 1) bs) in
    omega arith

pub inputs-more : (bs : List code_bit.Bit) (i next after : ℕ) (row old new total : List ℕ) (d : code_bit.Bit) → i < length bs → after ≡ next + constants_in (get_or bs i d ∷ [])
    → new ≡ old ++ input_number next row (get_or bs i d) ∷ [] → old ++ input_numbers next row (drop i bs) ≡ total → new ++ input_numbers after row (drop (i + 1) bs) ≡ total
inputs-more bs i next after row old new total d lt a n h =
    let b = get_or bs i d in
    let left = drop (i + 1) bs in
    let split : input_numbers next row (drop i bs) ≡ input_number next row b ∷ input_numbers after row left =
    ap (input_numbers next row) (at-next bs i d lt) ∙ next-input b left next row ∙ ap (λ k. input_number next row b ∷ input_numbers k row left) (sym a) in
    ap (λ xs. xs ++ input_numbers after row left) n ∙ append_assoc old (input_number next row b ∷ []) (input_numbers after row left) ∙ ap (λ xs. old ++ xs) (sym split) ∙ h

pub inputs-end : (bs : List code_bit.Bit) (i next : ℕ) (row new total : List ℕ) → length bs ≤ i → new ++ input_numbers next row (drop i bs) ≡ total → new ≡ total
inputs-end bs i next row new total le h = sym (append-nil new) ∙ ap (λ ys. new ++ input_numbers next row ys) (sym (drop_all i bs le)) ∙ h

-- a constant too many is one of all
pub refused-input : (bs : List code_bit.Bit) (i next first : ℕ) (d : code_bit.Bit) (r : Refused ElabKind) → i < length bs → first ≤ next → next + constants_in (drop i bs) ≡ first + constants_in bs
    → ((total : ℕ) → (next - first) + constants_in (get_or bs i d ∷ []) ≤ total → RefusesCount total r) → (total : ℕ) → constants_in bs ≤ total → RefusesCount total r
refused-input bs i next first d r lt le h k total few =
    let split : constants_in (drop i bs) ≡ constants_in (get_or bs i d ∷ []) + constants_in (drop (i + 1) bs) = ap constants_in (at-next bs i d lt) ∙ next-constant (get_or bs i d) (drop (i + 1) bs) in
    k total (omega arith)
