-- An entry of a timing check, or of something else.
use Rattle.std.proofs.Common.{ℕ, ◌≡◌, ap, refl, subst, sym}
use Rattle.std.specs.Global.{Vec}
use Rattle.std.proofs.lemmas.Result.{IfOk-weaker}
use Rattle.sdf_meaning.specs.MeantSeen.{view_cell_check, view_kind, view_sdf}
use Rattle.sdf_tree.specs.Meant.{Sdf, a_check}
use Rattle.sg_circuit.specs.Seen.{circuit_seen}
use Rattle.annotation_model.specs.Finding.{is_found_check}
use Rattle.annotation_model.specs.Given.{Given}
use Rattle.annotation_model.specs.Listed.{IsListOf}
use Rattle.annotation_scopes.specs.Cells.{AreScopesOf}
use Rattle.annotation_finder.specs.Finding.{given_seen}
use Rattle.annotation_finder.proofs.FindingLaws.{no_checks, other_kind}
use Rattle.annotation_finder.proofs.finding.find_checks.Goals as goal

pub returns-in-Check-clause-found : goal.returns-in-Check-clause-found
returns-in-Check-clause-found c =
    IfOk-weaker c.find_checks_for.result
    (λ (found : Vec ℕ). (sdf : Sdf) (g : Given) → sdf.divider ≡ c.args.sdf.now.divider → g.entry.kind ≡ a_check (view_cell_check c.in-Check.check) → AreScopesOf c.args.places.now c.args.sdf.now.divider g.cell_type g.instance c.args.scopes.now
    → IsListOf (is_found_check (circuit_seen c.args.places.now.parts.now) sdf g) found.items)
    (λ (found : Vec ℕ). IsListOf (is_found_check (circuit_seen c.args.places.now.parts.now) (view_sdf c.args.sdf.now) (given_seen c.args.cell.now c.args.entry.now)) found.items)
    (λ found h. h (view_sdf c.args.sdf.now) (given_seen c.args.cell.now c.args.entry.now) refl (ap view_kind c.in-Check.is) c.requires.scopes)
    c.find_checks_for.ensures.found

pub returns-in_default-clause-found : goal.returns-in_default-clause-found
returns-in_default-clause-found c =
    subst (IsListOf (is_found_check (circuit_seen c.args.places.now.parts.now) (view_sdf c.args.sdf.now) (given_seen c.args.cell.now c.args.entry.now))) (sym c.new.ensures.items)
    (no_checks (circuit_seen c.args.places.now.parts.now) (view_sdf c.args.sdf.now) (given_seen c.args.cell.now c.args.entry.now) (other_kind c.args.entry.now.kind c.in_default.not-Check))
