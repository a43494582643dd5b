-- One more turn of the loops that make gates.
use Rattle.std.specs.Prelude.{ℕ, zero, suc, ◌≡◌, ◌+◌, ◌-◌, ◌<◌, Bool, List, [], ◌∷◌, ◌++◌, length, map, refl}
use Rattle.std.proofs.Common.{sym, ◌∙◌, ap, ap₂, arith}
use Rattle.std.proofs.lemmas.List.{map-append}
use Rattle.sg_logic.specs.declared.values.Value.TheVariants.{Zero}
use Rattle.sg_logic.specs.declared.gates.GateKind.{GateKind}
use Rattle.fit_gates.specs.declared.terms.Operand.{Operand}
use Rattle.fit_gates.specs.declared.terms.Operand.TheVariants as operand
use Rattle.fit_gates.specs.declared.gates.Kind.{Kind}
use Rattle.fit_gates.specs.declared.gates.Kind.TheVariants as kind
use Rattle.fit_gates.specs.declared.gates.Gate as code
use Rattle.fit_gates.specs.Gates.{Driver, driver, seen}
use Rattle.fit_gates.specs.Making.{added, all_added, apart_gate, apart_gates, asked_gate, asked_gates, behind_first, behind_operand, bit_gates, first_bit, first_operand, fitted_bits, pair_gates, wires}

pub fitted_step : (w : ℕ) (rest : List Operand) → 0 < w → fitted_bits w rest ≡ first_operand rest ∷ fitted_bits (w - 1) (behind_operand rest)
fitted_step zero rest lt = absurd (omega arith)
fitted_step (suc w) [] lt = let e : w ≡ suc w - 1 = omega arith in ap (λ n. operand.Constant Zero ∷ fitted_bits n []) e
fitted_step (suc w) (x ∷ xs) lt = let e : w ≡ suc w - 1 = omega arith in ap (λ n. x ∷ fitted_bits n xs) e

pub wires_step : (n k : ℕ) → 0 < k → wires n k ≡ operand.Wire n ∷ wires (n + 1) (k - 1)
wires_step n zero lt = absurd (omega arith)
wires_step n (suc k) lt =
    let e : suc n ≡ n + 1 = omega arith in
    let f : k ≡ suc k - 1 = omega arith in
    ap₂ (λ m j. operand.Wire n ∷ wires m j) e f

push-on : (xs : List Operand) (x : Operand) (ys : List Operand) → (xs ++ x ∷ []) ++ ys ≡ xs ++ x ∷ ys
push-on [] x ys = refl
push-on (z ∷ zs) x ys = ap (λ t. z ∷ t) (push-on zs x ys)

pub fitted_turn : (done new : List Operand) (x : Operand) (rest behind whole : List Operand) (left : ℕ) → 0 < left → done ++ fitted_bits left rest ≡ whole → x ≡ first_operand rest → behind ≡ behind_operand rest
    → new ≡ done ++ x ∷ [] → new ++ fitted_bits (left - 1) behind ≡ whole
fitted_turn done new x rest behind whole left lt h e f g =
    ap (λ t. t ++ fitted_bits (left - 1) behind) g
    ∙ push-on done x (fitted_bits (left - 1) behind)
    ∙ ap₂ (λ a b. done ++ a ∷ fitted_bits (left - 1) b) e f
    ∙ ap (λ t. done ++ t) (sym (fitted_step left rest lt))
    ∙ h

pub wires_turn : (done new : List Operand) (place next left : ℕ) (whole : List Operand) → 0 < left → done ++ wires place left ≡ whole → next ≡ place + 1 → new ≡ done ++ operand.Wire place ∷ [] → new ++ wires next (left - 1) ≡ whole
wires_turn done new place next left whole lt h e g =
    ap (λ t. t ++ wires next (left - 1)) g
    ∙ push-on done (operand.Wire place) (wires next (left - 1))
    ∙ ap (λ m. done ++ operand.Wire place ∷ wires m (left - 1)) e
    ∙ ap (λ t. done ++ t) (sym (wires_step place left lt))
    ∙ h

pub bit_step : (k : Kind) (more : List Operand) (x : Operand) (xs : List Operand) → bit_gates k more (x ∷ xs) ≡ driver k (x ∷ more) ∷ bit_gates k more xs
bit_step k more x xs = refl

pub pair_step : (k : Kind) (before : List Operand) (x y : Operand) (xs ys : List Operand) → pair_gates k before (x ∷ xs) (y ∷ ys) ≡ driver k (before ++ x ∷ y ∷ []) ∷ pair_gates k before xs ys
pair_step k before x y xs ys = refl

pub pair_end : (k : Kind) (before xs : List Operand) → pair_gates k before xs [] ≡ []
pair_end k before [] = refl
pair_end k before (x ∷ xs) = refl

pub apart_step : (k : GateKind) (x y : Operand) (xs ys : List Operand) → apart_gates k (x ∷ xs) (y ∷ ys) ≡ apart_gate k x y ++ apart_gates k xs ys
apart_step k x y xs ys = refl

pub apart_end : (k : GateKind) (xs : List Operand) → apart_gates k xs [] ≡ []
apart_end k [] = refl
apart_end k (x ∷ xs) = refl

pub asked_step : (equal : Bool) (x : Operand) (xs : List Operand) (bs : List Bool) → asked_gates equal (x ∷ xs) bs ≡ asked_gate equal x (first_bit bs) ++ asked_gates equal xs (behind_first bs)
asked_step equal x xs bs = refl

seen-length : (gs : List code.Gate) → length (map seen gs) ≡ length gs
seen-length [] = refl
seen-length (g ∷ gs) = ap suc (seen-length gs)

pub all_are_added : (gs more new : List code.Gate) (bits : List Operand) → new ≡ gs ++ more → bits ≡ wires (length gs) (length more) → (map seen new, bits) ≡ all_added (map seen gs) (map seen more)
all_are_added gs more new bits e f =
    ap₂ (λ (a : List Driver) (b : List Operand). (a, b)) (ap (map seen) e ∙ map-append seen gs more)
    (f ∙ ap₂ wires (sym (seen-length gs)) (sym (seen-length more)))

pub one_added : (gs new : List code.Gate) (k : GateKind) (g : code.Gate) (xs : List Operand) (n : ℕ) → new ≡ gs ++ g ∷ [] → seen g ≡ driver (kind.Gate k) xs → n ≡ length gs → (map seen new, operand.Wire n) ≡ added (map seen gs) k xs
one_added gs new k g xs n e f l =
    ap₂ (λ (a : List Driver) (b : Operand). (a, b)) (ap (map seen) e ∙ map-append seen gs (g ∷ []) ∙ ap (λ d. map seen gs ++ d ∷ []) f)
    (ap operand.Wire (l ∙ sym (seen-length gs)))
