-- A bridge, on which no public clause rests: which gates are made of an expression.
use Rattle.std.specs.Prelude.{ℕ, zero, suc, Bool, true, false, ◌&&◌, not, List, [], ◌∷◌, ◌++◌, if◌then◌else◌, length, map, max}
use Rattle.sg_logic.specs.declared.values.Value.TheVariants.{Zero}
use Rattle.sg_logic.specs.declared.gates.GateKind.{GateKind}
use Rattle.sg_logic.specs.declared.gates.GateKind.TheVariants as gate
use Rattle.fit_gates.specs.declared.terms.Operand.{Operand}
use Rattle.fit_gates.specs.declared.terms.Operand.TheVariants as operand
use Rattle.fit_gates.specs.declared.terms.Reduction.{Reduction}
use Rattle.fit_gates.specs.declared.terms.Bitwise.{Bitwise}
use Rattle.fit_gates.specs.declared.terms.Logical.{Logical}
use Rattle.fit_gates.specs.declared.gates.Kind.{Kind}
use Rattle.fit_gates.specs.declared.gates.Kind.TheVariants as kind
use Rattle.fit_gates.specs.Terms as term
use Rattle.fit_gates.specs.Terms.{Expr, width}
use Rattle.fit_gates.specs.Values.{fitted}
use Rattle.fit_gates.specs.Gates.{Driver, all_kind, bitwise_kind, control_kind, driver, each_kind, logical_kind, reduction_kind}

abbrev pub Made : Type 0
Made = List Driver × List Operand

abbrev pub fitted_bits : ℕ → List Operand → List Operand
fitted_bits w xs = fitted (operand.Constant Zero) w xs

abbrev pub first_operand : List Operand → Operand
first_operand [] = operand.Constant Zero
first_operand (x ∷ xs) = x

abbrev pub behind_operand : List Operand → List Operand
behind_operand [] = []
behind_operand (x ∷ xs) = xs

-- wires from one on, so many
abbrev pub wires : ℕ → ℕ → List Operand
wires n zero = []
wires n (suc k) = operand.Wire n ∷ wires (suc n) k

abbrev pub added : List Driver → GateKind → List Operand → List Driver × Operand
added gs k xs = (gs ++ driver (kind.Gate k) xs ∷ [], operand.Wire (length gs))

abbrev pub all_added : List Driver → List Driver → Made
all_added gs more = (gs ++ more, wires (length gs) (length more))

abbrev pub over : List Driver → GateKind → List Operand → List Driver × Operand
over gs k (x ∷ []) = (gs, x)
over gs k [] = added gs k []
over gs k (x ∷ y ∷ ys) = added gs k (x ∷ y ∷ ys)

-- one bit with zeros before it
abbrev pub one_bit : ℕ → List Driver × Operand → Made
one_bit w x = (x.0, fitted_bits w (x.1 ∷ []))

abbrev pub bit_gates : Kind → List Operand → List Operand → List Driver
bit_gates k more xs = map (λ x. driver k (x ∷ more)) xs

abbrev pub pair_gates : Kind → List Operand → List Operand → List Operand → List Driver
pair_gates k before [] ys = []
pair_gates k before (x ∷ xs) [] = []
pair_gates k before (x ∷ xs) (y ∷ ys) = driver k (before ++ x ∷ y ∷ []) ∷ pair_gates k before xs ys

abbrev pub is_zero : Operand → Bool
is_zero (operand.Constant Zero) = true
is_zero _ = false

abbrev pub apart_gate : GateKind → Operand → Operand → List Driver
apart_gate k x y = if is_zero x && is_zero y then [] else driver (kind.Gate k) (x ∷ y ∷ []) ∷ []

abbrev pub apart_gates : GateKind → List Operand → List Operand → List Driver
apart_gates k [] ys = []
apart_gates k (x ∷ xs) [] = []
apart_gates k (x ∷ xs) (y ∷ ys) = apart_gate k x y ++ apart_gates k xs ys

abbrev pub first_bit : List Bool → Bool
first_bit [] = false
first_bit (b ∷ bs) = b

abbrev pub behind_first : List Bool → List Bool
behind_first [] = []
behind_first (b ∷ bs) = bs

abbrev pub asked_gate : Bool → Operand → Bool → List Driver
asked_gate equal x b = if is_zero x && not b then [] else driver (kind.Match b equal) (x ∷ []) ∷ []

abbrev pub asked_gates : Bool → List Operand → List Bool → List Driver
asked_gates equal [] bs = []
asked_gates equal (x ∷ xs) bs = asked_gate equal x (first_bit bs) ++ asked_gates equal xs (behind_first bs)

abbrev pub inverted_of : List Driver → List Operand → Made
inverted_of gs xs = all_added gs (bit_gates (kind.Gate gate.Not) [] xs)

abbrev pub reduced_of : List Driver → Reduction → ℕ → List Operand → Made
reduced_of gs op w xs = one_bit w (added gs (reduction_kind op) xs)

abbrev pub bitwise_of : List Driver → Bitwise → List Operand → List Operand → Made
bitwise_of gs op xs ys = all_added gs (pair_gates (kind.Gate (bitwise_kind op)) [] xs ys)

abbrev pub logical_of : List Driver → Logical → ℕ → List Operand → List Operand → Made
logical_of gs op w xs ys =
    let a = over gs gate.Or xs in
    let b = over a.0 gate.Or ys in
    one_bit w (added b.0 (logical_kind op) (a.1 ∷ b.1 ∷ []))

abbrev pub together : List Driver → Bool → ℕ → List Driver → Made
together gs equal w more = let a = all_added gs more in one_bit w (over a.0 (all_kind equal) a.1)

abbrev pub compared_of : List Driver → Bool → ℕ → List Operand → List Operand → Made
compared_of gs equal w xs ys = together gs equal w (apart_gates (each_kind equal) xs ys)

abbrev pub matched_of : List Driver → Bool → ℕ → List Operand → List Bool → Made
matched_of gs equal w xs bs = together gs equal w (asked_gates equal xs bs)

abbrev pub chosen_of : List Driver → List Operand → List Operand → List Operand → Made
chosen_of gs cs xs ys = let c = over gs gate.Or cs in all_added c.0 (pair_gates kind.Choice (c.1 ∷ []) xs ys)

abbrev pub gated_of : List Driver → Bool → List Operand → List Operand → Made
gated_of gs at cs xs = let c = over gs gate.Or cs in all_added c.0 (bit_gates (kind.Gate (control_kind at)) (c.1 ∷ []) xs)

unfoldable pub made : List Driver → ℕ → Expr → Made
made gs w (term.bits bs) = (gs, fitted_bits w bs)
made gs w (term.inverted e) = let a = made gs w e in inverted_of a.0 a.1
made gs w (term.reduced op e) = let a = made gs (width e) e in reduced_of a.0 op w a.1
made gs w (term.bitwise op e f) = let a = made gs w e in let b = made a.0 w f in bitwise_of b.0 op a.1 b.1
made gs w (term.logical op e f) = let a = made gs (width e) e in let b = made a.0 (width f) f in logical_of b.0 op w a.1 b.1
made gs w (term.compared equal e f) =
    let both = max (width e) (width f) in
    let a = made gs both e in
    let b = made a.0 both f in
    compared_of b.0 equal w a.1 b.1
made gs w (term.matched equal e bs) = let a = made gs (max (width e) (length bs)) e in matched_of a.0 equal w a.1 bs
made gs w (term.choice c e f) =
    let a = made gs (width c) c in
    let b = made a.0 w e in
    let d = made b.0 w f in
    chosen_of d.0 a.1 b.1 d.1
made gs w (term.gated at c e) = let a = made gs (width c) c in let b = made a.0 w e in gated_of b.0 at a.1 b.1
made gs w (term.joined e f) = let a = made gs (width f) f in let b = made a.0 (width e) e in (b.0, fitted_bits w (a.1 ++ b.1))
