use Rattle.std.proofs.Common.{◌∙◌, length}
use Rattle.why_causes.proofs.TraceLaws.{pins-within}
use Rattle.why_causes.proofs.traces.Trace.new.Goals as goal

pub of_pins-requires : goal.of_pins-requires
of_pins-requires c = pins-within c.args.events.now (length c.args.first.now) c.deref.result.now (c.deref.ensures.value ∙ c.in_ok-pins.ensures) c.requires.nets
