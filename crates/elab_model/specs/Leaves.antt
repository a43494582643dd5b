-- The leaves of an expression from left to right: names, selects and constants, without the braces round them (IEEE 1364-2005, 5.1.14).
use Rattle.std.specs.Prelude.{List, [], ◌∷◌, ◌++◌, Option, Some, None}
use Rattle.sg_logic.specs.declared.values.Value.{Value}
use Rattle.sg_text.specs.declared.places.Place.{Place}
use Rattle.vl_tree.specs.declared.expressions.Select.{Select}
use Rattle.vl_tree.specs.Tree.{Named, Expression, signal, sized, concatenation, Expressions, no_more, one_more}

pub data Leaf : Type 0 where
  whole : Named → Leaf
  -- a bit or a part of a vector (5.2.1)
  part : Named → Select → Leaf
  constants : Place → List Value → Leaf

abbrev pub leaf_of : Named → Option Select → Leaf
leaf_of n None = whole n
leaf_of n (Some s) = part n s

abbrev mutual
  pub leaves : Expression → List Leaf
  leaves (signal n s) = leaf_of n s ∷ []
  leaves (sized p vs) = constants p vs ∷ []
  leaves (concatenation p es) = leaves_of es

  pub leaves_of : Expressions → List Leaf
  leaves_of no_more = []
  leaves_of (one_more e es) = leaves e ++ leaves_of es

-- where an expression begins
abbrev pub place_of : Expression → Place
place_of (signal n s) = n.place
place_of (sized p vs) = p
place_of (concatenation p es) = p
