-- The values of expressions, for all values of what they read (IEEE 1364-2005, 5.1.8 to 5.1.14).
use Rattle.std.specs.Prelude.{ℕ, zero, suc, ℤ, Bool, true, false, ◌||◌, List, [], ◌∷◌, ◌++◌, Option, if◌then◌else◌, length, map, max}
use Rattle.sg_logic.specs.declared.values.Value.{Value}
use Rattle.sg_logic.specs.declared.values.Value.TheVariants.{Zero, One, X, Z}
use Rattle.sg_logic.specs.Values.{is_same, z_as_x}
use Rattle.sg_logic.specs.Gate.{and_value, or_value, xor_value, inverse, is_unknown}
use Rattle.fit_gates.specs.declared.terms.Operand.{Operand}
use Rattle.fit_gates.specs.declared.terms.Operand.TheVariants as operand
use Rattle.fit_gates.specs.declared.terms.Reduction.{Reduction}
use Rattle.fit_gates.specs.declared.terms.Reduction.TheVariants as reduction
use Rattle.fit_gates.specs.declared.terms.Bitwise.{Bitwise}
use Rattle.fit_gates.specs.declared.terms.Bitwise.TheVariants as bitwise
use Rattle.fit_gates.specs.declared.terms.Logical.{Logical}
use Rattle.fit_gates.specs.declared.terms.Logical.TheVariants as logical
use Rattle.fit_gates.specs.Terms as term
use Rattle.fit_gates.specs.Terms.{Expr, width}

-- values of nets, by the place of their name and by index, and of wires
pub record Valuation : Type 0 where
  pub nets : ℕ → Option ℤ → Value
  pub wires : ℕ → Value

abbrev pub operand_value : Valuation → Operand → Value
operand_value v (operand.Constant value) = value
operand_value v (operand.Net name index) = v.nets name index
operand_value v (operand.Wire place) = v.wires place

-- so many of these, and something else for those that aren't there: operands are extended by 0 on the left, and surplus bits are cut (5.4)
abbrev pub fitted : {A : Type 0} → A → ℕ → List A → List A
fitted other zero xs = []
fitted other (suc n) [] = other ∷ fitted other n []
fitted other (suc n) (x ∷ xs) = x ∷ fitted other n xs

-- pair by pair
abbrev pub zip_with : {A B : Type 0} → (A → A → B) → List A → List A → List B
zip_with f [] ys = []
zip_with f (x ∷ xs) [] = []
zip_with f (x ∷ xs) (y ∷ ys) = f x y ∷ zip_with f xs ys

-- of one operand (5.1.11)
abbrev pub reduction_value : Reduction → List Value → Value
reduction_value reduction.And bits = and_value bits
reduction_value reduction.Nand bits = inverse (and_value bits)
reduction_value reduction.Or bits = or_value bits
reduction_value reduction.Nor bits = inverse (or_value bits)
reduction_value reduction.Xor bits = xor_value bits
reduction_value reduction.Xnor bits = inverse (xor_value bits)

-- bit by bit (5.1.10)
abbrev pub bitwise_value : Bitwise → Value → Value → Value
bitwise_value bitwise.And a b = and_value (a ∷ b ∷ [])
bitwise_value bitwise.Or a b = or_value (a ∷ b ∷ [])
bitwise_value bitwise.Xor a b = xor_value (a ∷ b ∷ [])
bitwise_value bitwise.Xnor a b = inverse (xor_value (a ∷ b ∷ []))

-- an operand of && or ||, or a condition, is true where one of its bits is 1 (5.1.9)
abbrev pub truth : List Value → Value
truth bits = or_value bits

abbrev pub logical_value : Logical → Value → Value → Value
logical_value logical.And a b = and_value (a ∷ b ∷ [])
logical_value logical.Or a b = or_value (a ∷ b ∷ [])

abbrev pub bit : Bool → Value
bit true = One
bit false = Zero

-- two bits by ==: x if one is x or z; and by ===: whether both are the same, x and z too (5.1.8)
abbrev pub equality : Value → Value → Value
equality a b = if is_unknown a || is_unknown b then X else bit (is_same a b)

abbrev pub case_equality : Value → Value → Value
case_equality a b = bit (is_same a b)

-- bits by === with others, of which those that aren't there are 0
abbrev pub matches : List Value → List Bool → List Value
matches [] bs = []
matches (x ∷ xs) [] = case_equality x Zero ∷ matches xs []
matches (x ∷ xs) (b ∷ bs) = case_equality x (bit b) ∷ matches xs bs

-- all pairs of bits are the same; 0 where two surely differ, also where others are x
abbrev pub comparison : Bool → List Value → Value
comparison true pairs = and_value pairs
comparison false pairs = inverse (and_value pairs)

-- where the condition is x or z, bits that agree (table 5-21)
abbrev pub agreed : Value → Value → Value
agreed Zero Zero = Zero
agreed One One = One
agreed _ _ = X

-- ?: by the standard, which passes z (5.1.13)
abbrev pub standard_choice : Value → Value → Value → Value
standard_choice One a b = a
standard_choice Zero a b = b
standard_choice _ a b = agreed a b

-- ?: here: the same, but a z that is chosen is read as x
abbrev pub choice_value : Value → Value → Value → Value
choice_value condition a b = z_as_x (standard_choice condition a b)

-- ?: with 1'bz for the one or the other: z stays z, and a z of the part is read as x
abbrev pub gated_value : Bool → Value → Value → Value
gated_value true condition a = standard_choice condition (z_as_x a) Z
gated_value false condition a = standard_choice condition Z (z_as_x a)

-- so many bits of an expression, the rightmost first. Operators between bits have their operands at the width of the whole, all others at their own
-- (5.4.1, 5.4.2); a bit is the same whatever that width is, so those that nobody reads aren't asked for.
abbrev pub value : Valuation → ℕ → Expr → List Value
value v w (term.bits bs) = fitted Zero w (map (operand_value v) bs)
value v w (term.inverted e) = map inverse (value v w e)
value v w (term.reduced op e) = fitted Zero w (reduction_value op (value v (width e) e) ∷ [])
value v w (term.bitwise op a b) = zip_with (bitwise_value op) (value v w a) (value v w b)
value v w (term.logical op a b) = fitted Zero w (logical_value op (truth (value v (width a) a)) (truth (value v (width b) b)) ∷ [])
value v w (term.compared equal a b) =
    let both = max (width a) (width b) in fitted Zero w (comparison equal (zip_with equality (value v both a) (value v both b)) ∷ [])
value v w (term.matched equal e bs) =
    fitted Zero w (comparison equal (matches (value v (max (width e) (length bs)) e) bs) ∷ [])
value v w (term.choice c a b) = zip_with (choice_value (truth (value v (width c) c))) (value v w a) (value v w b)
value v w (term.gated at c e) = map (gated_value at (truth (value v (width c) c))) (value v w e)
value v w (term.joined a b) = fitted Zero w (value v (width b) b ++ value v (width a) a)
