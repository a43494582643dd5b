-- The edge that a list of changes is.
use Rattle.std.specs.Prelude.{◌≡◌, List, [], ◌∷◌, Bool, ◌&&◌}
use Rattle.std.specs.List.{list_any}
use Rattle.std.proofs.Common.{◌∙◌, ap}
use Rattle.sg_logic.specs.declared.edges.Edge.{Edge}
use Rattle.sg_logic.specs.declared.values.Value.{Value}
use Rattle.sg_logic.specs.declared.values.Value.TheVariants.{Zero, One, X}
use Rattle.sg_logic.specs.Values.{is_same}
use Rattle.vl_tree.specs.declared.paths.EdgePair.{EdgePair}
use Rattle.vl_tree.specs.Tree.{pairs}
use Rattle.specify_model.specs.Paths.{edge_of}

abbrev has_change : List EdgePair → Value → Value → Bool
has_change ps from to = list_any (λ p. is_same p.from from && is_same p.to to) ps

abbrev made : Bool → Bool → Bool → Bool → Bool → Bool → Edge
made a b c d e f = record { has = a ∷ b ∷ c ∷ d ∷ e ∷ f ∷ [] }

pub edge-made : (ps : List EdgePair) (a b c d e f : Bool) → a ≡ has_change ps Zero One → b ≡ has_change ps One Zero → c ≡ has_change ps Zero X → d ≡ has_change ps X One → e ≡ has_change ps One X
    → f ≡ has_change ps X Zero → made a b c d e f ≡ edge_of (pairs ps)
edge-made ps a b c d e f rises falls zero_x x_one one_x x_zero =
    ap (λ x. made x b c d e f) rises ∙ ap (λ x. made (has_change ps Zero One) x c d e f) falls ∙ ap (λ x. made (has_change ps Zero One) (has_change ps One Zero) x d e f) zero_x
    ∙ ap (λ x. made (has_change ps Zero One) (has_change ps One Zero) (has_change ps Zero X) x e f) x_one
    ∙ ap (λ x. made (has_change ps Zero One) (has_change ps One Zero) (has_change ps Zero X) (has_change ps X One) x f) one_x
    ∙ ap (made (has_change ps Zero One) (has_change ps One Zero) (has_change ps Zero X) (has_change ps X One) (has_change ps One X)) x_zero
