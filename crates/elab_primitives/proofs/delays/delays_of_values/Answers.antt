-- As many as three are looked at where no more than the most are there.
use Rattle.std.proofs.Common.{sym, ◌∙◌}
use Rattle.vl_token.specs.Seen.{timescale}
use Rattle.elab_model.specs.Delays.{ticks_of}
use Rattle.elab_primitives.proofs.FewDelays.{many-refused, few-taken, few-refused}
use Rattle.elab_primitives.proofs.delays.delays_of_values.Goals as goal

pub returns-then-are_too_many-clause-refused : goal.returns-then-are_too_many-clause-refused
returns-then-are_too_many-clause-refused c =
    many-refused c.args.most (ticks_of c.args.corner c.args.tick.power (timescale c.args.scale)) c.args.values.now (sym c.are_too_many.ensures ∙ c.if-are_too_many.true)

pub returns-clause-faultless : goal.returns-clause-faultless
returns-clause-faultless c =
    few-taken c.args.most (ticks_of c.args.corner c.args.tick.power (timescale c.args.scale)) c.args.values.now c.three_of_values.result (sym c.are_too_many.ensures ∙ c.if-are_too_many.false)
    c.three_of_values.ensures.faultless

pub returns-clause-refused : goal.returns-clause-refused
returns-clause-refused c =
    few-refused c.args.most (ticks_of c.args.corner c.args.tick.power (timescale c.args.scale)) c.args.values.now c.three_of_values.result c.requires.most (sym c.are_too_many.ensures ∙ c.if-are_too_many.false)
    c.three_of_values.ensures.refused
