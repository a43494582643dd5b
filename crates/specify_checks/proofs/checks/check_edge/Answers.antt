-- A check of one event without an edge is refused.
use Rattle.std.proofs.Common.{◌∙◌, sym}
use Rattle.specify_checks.proofs.Edges.{lacking-told, none-lacking}
use Rattle.specify_checks.proofs.checks.check_edge.Goals as goal

pub returns-then-lacks_edge : goal.returns-then-lacks_edge
returns-then-lacks_edge c = lacking-told c.args.kind c.args.reference.now (sym c.lacks_edge.ensures ∙ c.if-lacks_edge.true)

pub returns : goal.returns
returns c = none-lacking c.args.kind c.args.reference.now (sym c.lacks_edge.ensures ∙ c.if-lacks_edge.false)
