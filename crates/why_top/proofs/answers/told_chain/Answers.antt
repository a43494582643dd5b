use Rattle.std.proofs.Common.{◌∙◌}
use Rattle.why_top.proofs.Answered.{chain_told}
use Rattle.why_top.proofs.answers.told_chain.Goals as goal

pub returns : goal.returns
returns c = chain_told c.args.circuit.now c.args.run.now _ _ c.args.net c.args.time c.in_ok-told.told.events.items c.in_ok-told.told.text.items (rw (c.deref.ensures.value, c.deref-2.ensures.value) at c.in_ok-trace.ensures) c.deref-3.ensures.value c.in_ok-told.ensures
