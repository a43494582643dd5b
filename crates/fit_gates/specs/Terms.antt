-- Expressions over bits (IEEE 1364-2005, clause 5.1). Lists of bits have the rightmost bit first.
use Rattle.std.specs.Prelude.{ℕ, Bool, List, ◌+◌, length, max}
use Rattle.fit_gates.specs.declared.terms.Operand.{Operand}
use Rattle.fit_gates.specs.declared.terms.Reduction.{Reduction}
use Rattle.fit_gates.specs.declared.terms.Bitwise.{Bitwise}
use Rattle.fit_gates.specs.declared.terms.Logical.{Logical}
use Rattle.fit_gates.specs.declared.terms.Term.{Term}
use Rattle.fit_gates.specs.declared.terms.Term.TheOpen as layer
use Rattle.fit_gates.specs.declared.terms.Term.TheFolds.{fold-Term}

pub data Expr : Type 0 where
  bits : List Operand → Expr
  inverted : Expr → Expr
  reduced : Reduction → Expr → Expr
  bitwise : Bitwise → Expr → Expr → Expr
  logical : Logical → Expr → Expr → Expr
  -- `==` or else `!=`
  compared : Bool → Expr → Expr → Expr
  -- `===` or else `!==` with these bits
  matched : Bool → Expr → List Bool → Expr
  -- `condition ? one : other`
  choice : Expr → Expr → Expr → Expr
  -- the part where the condition is so, else z
  gated : Bool → Expr → Expr → Expr
  -- `{left, right}`
  joined : Expr → Expr → Expr

-- how many bits it has where nothing asks for more (5.4.1)
abbrev pub width : Expr → ℕ
width (bits bs) = length bs
width (inverted e) = width e
width (reduced op e) = 1
width (bitwise op a b) = max (width a) (width b)
width (logical op a b) = 1
width (compared equal a b) = 1
width (matched equal e bs) = 1
width (choice c a b) = max (width a) (width b)
width (gated at c e) = width e
width (joined a b) = width a + width b

-- the expression that the code's tree stands for: one layer, whose parts are seen already, and all of it
abbrev pub view_layer : layer.Term-F Expr → Expr
view_layer (layer.Bits bs) = bits bs.items
view_layer (layer.Inverted e) = inverted e.value
view_layer (layer.Reduced op e) = reduced op e.value
view_layer (layer.Bitwise op a b) = bitwise op a.value b.value
view_layer (layer.Logical op a b) = logical op a.value b.value
view_layer (layer.Compared equal a b) = compared equal a.value b.value
view_layer (layer.Matched equal e bs) = matched equal e.value bs.items
view_layer (layer.Choice c a b) = choice c.value a.value b.value
view_layer (layer.Gated at c e) = gated at c.value e.value
view_layer (layer.Joined a b) = joined a.value b.value

abbrev pub view : Term → Expr
view = fold-Term Expr view_layer
