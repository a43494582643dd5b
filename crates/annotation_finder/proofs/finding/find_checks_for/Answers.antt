-- What was picked of the candidates is what the entry's check is for.
use Rattle.std.proofs.Common.{ℕ, ◌≡◌, ◌∙◌, ap}
use Rattle.std.specs.Global.{Vec}
use Rattle.std.proofs.lemmas.Result.{IfOk-weaker}
use Rattle.sdf_meaning.specs.MeantSeen.{view_cell_check}
use Rattle.sdf_tree.specs.Meant.{Sdf, a_check}
use Rattle.sg_circuit.specs.Seen.{circuit_seen}
use Rattle.annotation_model.specs.Finding.{is_found_check}
use Rattle.annotation_model.specs.Given.{Given}
use Rattle.annotation_model.specs.Listed.{IsListOf}
use Rattle.annotation_places.specs.Places.{lookups_of}
use Rattle.annotation_scopes.specs.Cells.{AreScopesOf}
use Rattle.annotation_finder.specs.Checks.{check_candidates, check_passes, terminals_seen}
use Rattle.annotation_finder.specs.Finding.{ArePickedOf}
use Rattle.annotation_finder.proofs.FindingLaws.{checks_told}
use Rattle.annotation_finder.proofs.finding.find_checks_for.Goals as goal

pub returns-clause-found : goal.returns-clause-found
returns-clause-found c =
    IfOk-weaker c.pick_each.result
    (λ (found : Vec ℕ). ArePickedOf (check_passes (circuit_seen c.args.places.now.parts.now) c.args.scopes.now.marks.items (view_cell_check c.args.check.now) (terminals_seen c.in_ok-terminals.terminals)) c.deref-2.result.now found.items)
    (λ (found : Vec ℕ). (sdf : Sdf) (g : Given) → sdf.divider ≡ c.args.divider → g.entry.kind ≡ a_check (view_cell_check c.args.check.now) → AreScopesOf c.args.places.now c.args.divider g.cell_type g.instance c.args.scopes.now
    → IsListOf (is_found_check (circuit_seen c.args.places.now.parts.now) sdf g) found.items)
    (λ found h sdf g. checks_told c.args.places.now c.args.scopes.now c.args.divider (view_cell_check c.args.check.now) sdf g c.requires.places.closed c.requires.places.exact c.requires.marked.each
    (terminals_seen c.in_ok-terminals.terminals) c.deref-2.result.now found.items h.0 c.in_ok-terminals.ensures
    (c.deref-2.ensures.value ∙ (c.in_ok-candidates.ensures.items
    ∙ ap (check_candidates (circuit_seen c.args.places.now.parts.now) (lookups_of c.args.places.now) (terminals_seen c.in_ok-terminals.terminals).refer.port) c.deref.ensures.value)) h.1)
    c.pick_each.ensures.picked
