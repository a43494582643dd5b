-- The table that was looked at is that of the primitive.
use Rattle.std.proofs.Common.{rules}
use Rattle.std.proofs.lemmas.List.{length-map}
use Rattle.vl_tree.specs.Seen.{view_primitive}
use Rattle.elab_primitives.proofs.Tables.{table-faultless}
use Rattle.elab_primitives.proofs.primitives.check_table.Goals as goal

pub returns-in-Ok-check-clause-faultless : goal.returns-in-Ok-check-clause-faultless
returns-in-Ok-check-clause-faultless c =
    table-faultless (view_primitive c.args.primitive.now) c.in-Ok.inputs c.args.sequential c.deref-2.result.now (search (rules, c.in-Ok.ensures, length-map)) c.requires c.deref-2.ensures.value c.in-Ok-check.ensures.faultless
