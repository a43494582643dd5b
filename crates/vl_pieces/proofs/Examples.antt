-- Small pieces, as the definitions read them.
use Rattle.std.proofs.Common.{◌≡◌, [], ◌∷◌, refl}
use Rattle.std.specs.Prelude.{Some, None, false, codes}
use Rattle.sg_logic.specs.declared.values.Value.TheVariants.{Zero, One, X}
use Rattle.vl_token.specs.Tokens.{sized_token, unsized_token, pair_token, other_token}
use Rattle.vl_token.specs.Constants.{low_bits}
use Rattle.vl_pieces.specs.Sized.{sized_of}
use Rattle.vl_pieces.specs.Pieces.{class_of}
use Rattle.vl_pieces.specs.Modes.{edge_class, is_endtable}
use Rattle.vl_pieces.specs.Meanings.{sized_meaning, pair_meaning}
use Rattle.vl_pieces.specs.declared.pieces.Class.TheVariants as class

-- (*) begins with a parenthesis, and is no attribute
a_star_in_parentheses : class_of (codes "(*)") [] ≡ None
a_star_in_parentheses = refl

its_parenthesis : class_of (codes "(") (codes "*)") ≡ Some class.Symbol
its_parenthesis = refl

-- 011 in an edge list begins with a pair, and zX is no change
a_pair : edge_class (codes "01") (codes "1") ≡ Some class.Pair
a_pair = refl

its_change : pair_meaning (codes "1z") ≡ pair_token One X
its_change = refl

no_change : pair_meaning (codes "zX") ≡ other_token (codes "zX")
no_change = refl

-- a name byte behind the word hides it
a_longer_word : is_endtable (codes "endtable") (codes "1") ≡ false
a_longer_word = refl

-- 4'bx, 2'b101, 'd10 and 0'b1
extended_with_x : sized_meaning (codes "4'bx") (sized_of (codes "4'bx")) ≡ sized_token (X ∷ X ∷ X ∷ X ∷ [])
extended_with_x = refl

surplus_dropped : sized_meaning (codes "2'b101") (sized_of (codes "2'b101")) ≡ sized_token (Zero ∷ One ∷ [])
unfolding low_bits
surplus_dropped = refl

fewest_bits : sized_meaning (codes "'d10") (sized_of (codes "'d10")) ≡ unsized_token (One ∷ Zero ∷ One ∷ Zero ∷ [])
unfolding low_bits
fewest_bits = refl

no_width_of_0 : sized_meaning (codes "0'b1") (sized_of (codes "0'b1")) ≡ other_token (codes "0'b1")
no_width_of_0 = refl
