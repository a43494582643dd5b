-- What was read is ready.
use Rattle.std.proofs.Common.{refl, ◌∙◌, ap, map}
use Rattle.vl_tree.specs.Seen.{view_module}
use Rattle.elab_variables.specs.Seen.{view_member}
use Rattle.elab_modules.proofs.prepared.prepare.Goals as goal

pub returns-clause-prepared : goal.returns-clause-prepared
returns-clause-prepared c = record {
  definition = refl;
  ports = c.in_ok-ports.ensures;
  members = c.in_ok-members.ensures;
  table = c.in_ok-table.ensures;
  declared = c.in_ok-check_declarations.ensures.faultless;
  ends = c.in_ok-ends.ensures (view_module c.args.definition.now) c.in_ok-table.ensures (ap (map view_member) c.deref.ensures.value ∙ c.in_ok-members.ensures);
  copies = c.in_ok-copies.ensures (view_module c.args.definition.now) c.in_ok-table.ensures (ap (map view_member) c.deref-2.ensures.value ∙ c.in_ok-members.ensures);
}
