-- Edges are compared change by change.
use Rattle.std.proofs.Common.{◌≡◌, refl, sym, ap, ◌∙◌, List, [], ◌∷◌, Option, Some}
use Rattle.std.specs.Prelude.{Bool, true, false}
use Rattle.std.specs.Cmp.Lexicographic.{pointwise}
use Rattle.std.proofs.Math.Bool.{beq}
use Rattle.sg_logic.specs.declared.edges.Edge.{Edge}
use Rattle.annotation_model.specs.Same.{bits_eq, is_edge}

bits_compared : (xs ys : List Bool) → pointwise beq xs ys ≡ bits_eq xs ys
bits_compared [] [] = refl
bits_compared [] (y ∷ ys) = refl
bits_compared (true ∷ xs) [] = refl
bits_compared (false ∷ xs) [] = refl
bits_compared (true ∷ xs) (true ∷ ys) = bits_compared xs ys
bits_compared (true ∷ xs) (false ∷ ys) = refl
bits_compared (false ∷ xs) (true ∷ ys) = refl
bits_compared (false ∷ xs) (false ∷ ys) = bits_compared xs ys

pub edges_compared : (result : Bool) (wanted edge : Option Edge) (e f : Edge) → wanted ≡ Some e → edge ≡ Some f → result ≡ pointwise beq e.has f.has → result ≡ is_edge wanted edge
edges_compared result wanted edge e f is_wanted is_edge_of same = same ∙ bits_compared e.has f.has ∙ sym (ap (λ w. is_edge w edge) is_wanted ∙ ap (λ g. is_edge (Some e) g) is_edge_of)
