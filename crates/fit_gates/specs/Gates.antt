-- Gates and primitives over operands, and what it is that they make an expression.
use Rattle.std.specs.Prelude.{ℕ, suc, ◌≡◌, Bool, true, false, List, [], ◌∷◌, map}
use Rattle.sg_logic.specs.declared.values.Value.{Value}
use Rattle.sg_logic.specs.declared.values.Value.TheVariants.{X}
use Rattle.sg_logic.specs.declared.gates.GateKind.{GateKind}
use Rattle.sg_logic.specs.declared.gates.GateKind.TheVariants as gate
use Rattle.sg_logic.specs.Gate.{gate_value, inverse, is_one, is_zero}
use Rattle.fit_gates.specs.declared.terms.Operand.{Operand}
use Rattle.fit_gates.specs.declared.terms.Reduction.{Reduction}
use Rattle.fit_gates.specs.declared.terms.Reduction.TheVariants as reduction
use Rattle.fit_gates.specs.declared.terms.Bitwise.{Bitwise}
use Rattle.fit_gates.specs.declared.terms.Bitwise.TheVariants as bitwise
use Rattle.fit_gates.specs.declared.terms.Logical.{Logical}
use Rattle.fit_gates.specs.declared.terms.Logical.TheVariants as logical
use Rattle.fit_gates.specs.declared.gates.Kind.{Kind}
use Rattle.fit_gates.specs.declared.gates.Kind.TheVariants as kind
use Rattle.fit_gates.specs.declared.gates.Gate as code
use Rattle.fit_gates.specs.Terms.{Expr}
use Rattle.fit_gates.specs.Values.{Valuation, bit, choice_value, operand_value, value}

-- what drives a wire
pub record Driver : Type 0 where
  pub kind : Kind
  pub inputs : List Operand

abbrev pub driver : Kind → List Operand → Driver
driver k xs = record { kind = k; inputs = xs }

abbrev pub seen : code.Gate → Driver
seen g = driver g.kind g.inputs.items

-- the gates of operators
abbrev pub reduction_kind : Reduction → GateKind
reduction_kind reduction.And = gate.And
reduction_kind reduction.Nand = gate.Nand
reduction_kind reduction.Or = gate.Or
reduction_kind reduction.Nor = gate.Nor
reduction_kind reduction.Xor = gate.Xor
reduction_kind reduction.Xnor = gate.Xnor

abbrev pub bitwise_kind : Bitwise → GateKind
bitwise_kind bitwise.And = gate.And
bitwise_kind bitwise.Or = gate.Or
bitwise_kind bitwise.Xor = gate.Xor
bitwise_kind bitwise.Xnor = gate.Xnor

abbrev pub logical_kind : Logical → GateKind
logical_kind logical.And = gate.And
logical_kind logical.Or = gate.Or

abbrev pub control_kind : Bool → GateKind
control_kind true = gate.Bufif1
control_kind false = gate.Bufif0

abbrev pub each_kind : Bool → GateKind
each_kind true = gate.Xnor
each_kind false = gate.Xor

abbrev pub all_kind : Bool → GateKind
all_kind true = gate.And
all_kind false = gate.Or

-- what a primitive's output is: whether a bit is 1 or 0, or else whether it isn't
abbrev pub match_value : Bool → Bool → Value → Value
match_value true true a = bit (is_one a)
match_value false true a = bit (is_zero a)
match_value true false a = inverse (bit (is_one a))
match_value false false a = inverse (bit (is_zero a))

abbrev pub kind_value : Kind → List Value → Value
kind_value (kind.Gate k) inputs = gate_value k inputs
kind_value (kind.Match b equal) (a ∷ []) = match_value b equal a
kind_value (kind.Match b equal) _ = X
kind_value kind.Choice (condition ∷ a ∷ b ∷ []) = choice_value condition a b
kind_value kind.Choice _ = X

abbrev pub driver_value : Valuation → Driver → Value
driver_value v g = kind_value g.kind (map (operand_value v) g.inputs)

-- each wire, from one on, has the value of its gate
abbrev pub Hold : Valuation → ℕ → List Driver → Type 0
Hold v n [] = Unit {0}
Hold v n (g ∷ gs) = (v.wires n ≡ driver_value v g) × Hold v (suc n) gs

-- Gates that were added make so many bits of an expression: whatever values the nets have, where each wire has the value of its gate, the bits have the
-- values of the expression's.
abbrev pub IsMadeBy : List Driver → List Driver → List Operand → ℕ → Expr → Type 0
IsMadeBy before gates bits w e = (v : Valuation) → Hold v 0 gates → Hold v 0 before × (map (operand_value v) bits ≡ value v w e)
