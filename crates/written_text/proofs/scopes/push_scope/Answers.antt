use Rattle.std.proofs.Common.{sym, ◌∙◌}
use Rattle.written_text.proofs.ScopeLaws.{no_cell}
use Rattle.written_text.proofs.scopes.push_scope.Goals as goal

pub returns-then-is_empty-2-clause-text : goal.returns-then-is_empty-2-clause-text
returns-then-is_empty-2-clause-text c =
    no_cell c.args.parts.now c.requires.closed c.args.groups.now c.requires.groups c.args.scope c.requires.scope c.of.result.now c.of-then-is_empty.result.now c.args.text.now.items c.of.ensures c.of-then-is_empty.ensures
    (sym c.is_empty.ensures ∙ c.if-is_empty.true) (sym c.is_empty-then-is_empty.ensures ∙ c.if-is_empty-2.true)
