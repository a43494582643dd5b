-- The rows that number legs and specify paths.
use Rattle.std.specs.Prelude.{◌≡◌, ℕ, ◌<◌, List, [], length, None, slice_index_or}
use Rattle.std.proofs.Common.{ap, sym, ◌∙◌, subst}
use Rattle.std.proofs.lemmas.List.Concat.{get_or-flat_map}
use Rattle.sg_circuit.specs.Circuit.{Circuit, Element, Pass, element_at}
use Rattle.sg_circuit.specs.Closed.{IsClosed}
use Rattle.annotation_model.specs.Finding.{no_spot, spot_at}
use Rattle.annotation_model.specs.Spots.{scope_of, spots_of}
use Rattle.annotation_spots.specs.Rows.{AreRows, IsIn, spot_of}
use Rattle.annotation_spots.specs.declared.spots.Spot as code_spot
use Rattle.annotation_spots.proofs.CountLaws.{scope-in}

abbrev pub no_element : Element
no_element = record { scope = 0; inputs = []; output = 0; kind = Pass None }

-- a row stands for the leg or path of its number
pub row-is : (c : Circuit) (rows : List code_spot.Spot) → AreRows c rows → (k : ℕ) (d : code_spot.Spot) → k < length rows → spot_of c (slice_index_or rows k d) ≡ spot_at c k
row-is c rows are k d l =
    let row : code_spot.Spot = slice_index_or rows k d in
    let within : IsIn c row = are.within k d l in
    sym (ap (λ n. spot_at c n) (sym (are.number k d l)) ∙ get_or-flat_map spots_of c.elements row.element row.path no_element no_spot within.element within.path)

-- it stands in one of the scopes
pub scope-within : (c : Circuit) (row : code_spot.Spot) → IsClosed c → IsIn c row → scope_of (spot_of c row) < length c.scopes
scope-within c row closed within =
    let e : Element = element_at c row.element in
    subst (λ s. s < length c.scopes) (sym (scope-in e.scope e.inputs e.output e.kind row.path within.path)) (closed.element_scopes row.element no_element within.element)
