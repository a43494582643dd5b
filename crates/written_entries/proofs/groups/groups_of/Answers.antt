use Rattle.std.proofs.Common.{arith}
use Rattle.written_entries.proofs.NumberLaws.{scopes_within}
use Rattle.written_entries.proofs.groups.groups_of.Goals as goal

pub elements_by_scope-requires-clause-scopes : goal.elements_by_scope-requires-clause-scopes
elements_by_scope-requires-clause-scopes c =
    scopes_within c.args.parts.now c.requires c.deref.result.now c.len-scopes.result c.deref.ensures.value (omega (arith, c.len-scopes.ensures, c.args.parts.now.scopes.ok.0))
