-- What was picked of the candidates is what the entry is for.
use Rattle.std.proofs.Common.{ℕ, ◌∙◌, ap}
use Rattle.std.specs.Global.{Vec}
use Rattle.std.proofs.lemmas.Result.{IfOk-weaker}
use Rattle.sdf_meaning.specs.MeantSeen.{view_sdf}
use Rattle.sg_circuit.specs.Seen.{circuit_seen}
use Rattle.annotation_model.specs.Finding.{is_found_spot}
use Rattle.annotation_model.specs.Listed.{IsListOf}
use Rattle.annotation_places.specs.Places.{lookups_of}
use Rattle.annotation_finder.specs.Finding.{ArePickedOf, given_seen}
use Rattle.annotation_finder.specs.Fitting.{candidates, spot_passes}
use Rattle.annotation_finder.specs.Sought.{sought_seen}
use Rattle.annotation_finder.proofs.FindingLaws.{spots_found, of_cell_in}
use Rattle.annotation_finder.proofs.finding.find_spots.Goals as goal

pub returns-clause-found : goal.returns-clause-found
returns-clause-found c =
    IfOk-weaker c.pick_each.result
    (λ (found : Vec ℕ). ArePickedOf (spot_passes (circuit_seen c.args.places.now.parts.now) (lookups_of c.args.places.now) c.args.scopes.now.marks.items (sought_seen c.in_ok-sought.sought)) c.deref-2.result.now found.items)
    (λ (found : Vec ℕ). IsListOf (is_found_spot (circuit_seen c.args.places.now.parts.now) (view_sdf c.args.sdf.now) (given_seen c.args.cell.now c.args.entry.now)) found.items)
    (λ found h. spots_found (circuit_seen c.args.places.now.parts.now) (view_sdf c.args.sdf.now) (given_seen c.args.cell.now c.args.entry.now) (lookups_of c.args.places.now) c.requires.places.closed
    c.requires.places.exact c.args.scopes.now.marks.items c.args.scopes.now.list.items c.requires.marked.each
    (of_cell_in c.args.places.now (view_sdf c.args.sdf.now) (given_seen c.args.cell.now c.args.entry.now) c.args.scopes.now c.requires.scopes)
    (sought_seen c.in_ok-sought.sought) c.deref-2.result.now found.items h.0 c.in_ok-sought.ensures
    (c.deref-2.ensures.value ∙ (c.in_ok-candidates.ensures.items
    ∙ ap (candidates (circuit_seen c.args.places.now.parts.now) (lookups_of c.args.places.now) (sought_seen c.in_ok-sought.sought)) c.deref.ensures.value)) h.1)
    c.pick_each.ensures.picked
