-- The operators' tables, and small expressions worked out.
use Rattle.std.specs.Prelude.{ℕ, ◌≡◌, true, false, List, [], ◌∷◌, None, map, refl}
use Rattle.sg_logic.specs.declared.values.Value.{Value}
use Rattle.sg_logic.specs.declared.values.Value.TheVariants.{Zero, One, X, Z}
use Rattle.sg_logic.specs.declared.gates.GateKind.TheVariants as gate
use Rattle.fit_gates.specs.declared.terms.Operand.TheVariants.{Constant, Net, Wire}
use Rattle.fit_gates.specs.declared.terms.Reduction.{Reduction}
use Rattle.fit_gates.specs.declared.terms.Reduction.TheVariants as reduction
use Rattle.fit_gates.specs.declared.terms.Bitwise.TheVariants as bitwise
use Rattle.fit_gates.specs.declared.gates.Kind.TheVariants as kind
use Rattle.fit_gates.specs.Terms.{Expr, bits, bitwise as bit_by_bit, compared, inverted, joined, matched, reduced}
use Rattle.fit_gates.specs.Values.{Valuation, bitwise_value, case_equality, choice_value, equality, gated_value, reduction_value, standard_choice, value}
use Rattle.fit_gates.specs.Gates.{driver}
use Rattle.fit_gates.specs.Making.{made}
use Rattle.sg_logic.specs.Gate.{inverse}

abbrev pub four : List Value
four = Zero ∷ One ∷ X ∷ Z ∷ []

-- the rows of a table, in the order 0, 1, x, z
abbrev pub table : (Value → Value → Value) → List (List Value)
table f = map (λ a. map (f a) four) four

-- tables 5-13 to 5-17
pub and_table : table (bitwise_value bitwise.And) ≡ (Zero ∷ Zero ∷ Zero ∷ Zero ∷ []) ∷ (Zero ∷ One ∷ X ∷ X ∷ []) ∷ (Zero ∷ X ∷ X ∷ X ∷ []) ∷ (Zero ∷ X ∷ X ∷ X ∷ []) ∷ []
and_table = refl

pub or_table : table (bitwise_value bitwise.Or) ≡ (Zero ∷ One ∷ X ∷ X ∷ []) ∷ (One ∷ One ∷ One ∷ One ∷ []) ∷ (X ∷ One ∷ X ∷ X ∷ []) ∷ (X ∷ One ∷ X ∷ X ∷ []) ∷ []
or_table = refl

pub xor_table : table (bitwise_value bitwise.Xor) ≡ (Zero ∷ One ∷ X ∷ X ∷ []) ∷ (One ∷ Zero ∷ X ∷ X ∷ []) ∷ (X ∷ X ∷ X ∷ X ∷ []) ∷ (X ∷ X ∷ X ∷ X ∷ []) ∷ []
xor_table = refl

pub xnor_table : table (bitwise_value bitwise.Xnor) ≡ (One ∷ Zero ∷ X ∷ X ∷ []) ∷ (Zero ∷ One ∷ X ∷ X ∷ []) ∷ (X ∷ X ∷ X ∷ X ∷ []) ∷ (X ∷ X ∷ X ∷ X ∷ []) ∷ []
xnor_table = refl

pub not_table : map inverse four ≡ One ∷ Zero ∷ X ∷ X ∷ []
not_table = refl

-- 5.1.8: by ==, and by ===
pub equality_table : table equality ≡ (One ∷ Zero ∷ X ∷ X ∷ []) ∷ (Zero ∷ One ∷ X ∷ X ∷ []) ∷ (X ∷ X ∷ X ∷ X ∷ []) ∷ (X ∷ X ∷ X ∷ X ∷ []) ∷ []
equality_table = refl

pub case_table : table case_equality ≡ (One ∷ Zero ∷ Zero ∷ Zero ∷ []) ∷ (Zero ∷ One ∷ Zero ∷ Zero ∷ []) ∷ (Zero ∷ Zero ∷ One ∷ Zero ∷ []) ∷ (Zero ∷ Zero ∷ Zero ∷ One ∷ []) ∷ []
case_table = refl

-- table 5-21: where the condition is x
pub choice_table : table (standard_choice X) ≡ (Zero ∷ X ∷ X ∷ X ∷ []) ∷ (X ∷ One ∷ X ∷ X ∷ []) ∷ (X ∷ X ∷ X ∷ X ∷ []) ∷ (X ∷ X ∷ X ∷ X ∷ []) ∷ []
choice_table = refl

-- a net that is chosen: its z is read as x
pub chosen_table : map (choice_value One Zero) four ≡ Zero ∷ Zero ∷ Zero ∷ Zero ∷ []
chosen_table = refl

pub other_table : map (choice_value Zero Zero) four ≡ Zero ∷ One ∷ X ∷ X ∷ []
other_table = refl

-- a : 1'bz by each condition, for a of 1
pub gated_table : map (λ c. gated_value true c One) four ≡ Z ∷ One ∷ X ∷ X ∷ []
gated_table = refl

-- 5.1.11: reductions of 4'b0000, 4'b1111, 4'b0110, 4'b1000 and 4'b1x10
abbrev pub reductions : Reduction → List Value
reductions op = map (reduction_value op) ((Zero ∷ Zero ∷ Zero ∷ Zero ∷ []) ∷ (One ∷ One ∷ One ∷ One ∷ []) ∷ (Zero ∷ One ∷ One ∷ Zero ∷ []) ∷ (Zero ∷ Zero ∷ Zero ∷ One ∷ []) ∷ (Zero ∷ One ∷ X ∷ One ∷ []) ∷ [])

pub and_reductions : reductions reduction.And ≡ Zero ∷ One ∷ Zero ∷ Zero ∷ Zero ∷ []
and_reductions = refl

pub or_reductions : reductions reduction.Or ≡ Zero ∷ One ∷ One ∷ One ∷ One ∷ []
or_reductions = refl

pub xor_reductions : reductions reduction.Xor ≡ Zero ∷ Zero ∷ Zero ∷ One ∷ X ∷ []
xor_reductions = refl

pub nand_reductions : reductions reduction.Nand ≡ One ∷ Zero ∷ One ∷ One ∷ One ∷ []
nand_reductions = refl

pub nor_reductions : reductions reduction.Nor ≡ One ∷ Zero ∷ Zero ∷ Zero ∷ Zero ∷ []
nor_reductions = refl

pub xnor_reductions : reductions reduction.Xnor ≡ One ∷ One ∷ One ∷ Zero ∷ X ∷ []
xnor_reductions = refl

-- ---- sizes

abbrev pub some : Valuation
some = record { nets = λ n i. X; wires = λ n. X }

abbrev pub ones : Expr
ones = bits (Constant One ∷ Constant Zero ∷ [])

-- ~2'b01 as four bits is 4'b1110, since its operand is extended first (5.4.2)
pub inverted_of_four : value some 4 (inverted ones) ≡ Zero ∷ One ∷ One ∷ One ∷ []
inverted_of_four = refl

-- a reduction is one bit and is extended by 0
pub reduced_of_two : value some 2 (reduced reduction.Nand ones) ≡ One ∷ Zero ∷ []
reduced_of_two = refl

-- {2'b01, 1'b1} as four bits, and the lower two of it
pub joined_of_four : value some 4 (joined ones (bits (Constant One ∷ []))) ≡ One ∷ One ∷ Zero ∷ Zero ∷ []
joined_of_four = refl

pub joined_of_two : value some 2 (joined ones (bits (Constant One ∷ []))) ≡ One ∷ One ∷ []
joined_of_two = refl

-- 2'b01 === 1'b1 holds, 2'b01 !== 1'b1 doesn't; where a bit surely differs == is 0 though another is x
pub matched_of_two : value some 1 (matched true ones (true ∷ [])) ≡ One ∷ []
matched_of_two = refl

pub unmatched_of_two : value some 1 (matched false ones (true ∷ [])) ≡ Zero ∷ []
unmatched_of_two = refl

pub compared_of_x : value some 1 (compared true ones (bits (Constant X ∷ Constant One ∷ []))) ≡ Zero ∷ []
compared_of_x = refl

-- ---- gates

-- a === 1 is one primitive, and (a & b) === 1 two gates
abbrev pub net : ℕ → Expr
net n = bits (Net n None ∷ [])

pub match_gates : made [] 1 (matched true (net 0) (true ∷ [])) ≡ (driver (kind.Match true true) (Net 0 None ∷ []) ∷ [], Wire 0 ∷ [])
unfolding made
match_gates = refl

pub two_gates : made [] 1 (matched true (bit_by_bit bitwise.And (net 0) (net 1)) (true ∷ [])) ≡ (driver (kind.Gate gate.And) (Net 0 None ∷ Net 1 None ∷ []) ∷ driver (kind.Match true true) (Wire 0 ∷ []) ∷ [], Wire 1 ∷ [])
unfolding made
two_gates = refl
