-- An entry of a timing check, and another.
use Rattle.std.proofs.Common.{◌≡◌, [], IfErr, subst, sym, true}
use Rattle.sdf_meaning.specs.MeantSeen.{view_kind, view_sdf}
use Rattle.sdf_tree.specs.declared.tree.EntryKind as code_kind
use Rattle.annotation_model.specs.Passes.{meets_large}
use Rattle.sdf_annotate.specs.Seen.{Told, check_with, circuit_of, is_check_large}
use Rattle.sdf_annotate.proofs.CheckLaws.{other-large, other-written}
use Rattle.sdf_annotate.proofs.limits.apply_to_checks.Goals as goal

pub returns-in-Check-clause-told : goal.returns-in-Check-clause-told
returns-in-Check-clause-told c =
    let circuit = circuit_of c.args.task.now in
    let sdf = view_sdf c.args.task.now.sdf.now in
    let corner = c.args.task.now.corner in
    subst (λ (kind : code_kind.EntryKind). IfErr c.apply_to_each.result
    (λ e. Told (meets_large (is_check_large circuit sdf corner (view_kind kind)) (check_with circuit sdf corner (view_kind kind)) [] c.args.found.now c.args.limits.now ≡ true) c.args.entry.now.place e))
    (sym c.in-Check.is) c.apply_to_each.ensures.told

pub returns-in_default : goal.returns-in_default
returns-in_default c =
    let circuit = circuit_of c.args.task.now in
    let sdf = view_sdf c.args.task.now.sdf.now in
    let corner = c.args.task.now.corner in
    record {
      fine = other-large circuit sdf corner c.args.entry.now.kind c.args.found.now c.args.limits.now c.in_default.not-Check;
      written = other-written circuit sdf corner c.args.entry.now.kind c.args.found.now c.args.limits.now c.in_default.not-Check;
      told = tt;
    }
