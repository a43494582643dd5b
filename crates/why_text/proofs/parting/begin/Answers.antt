use Rattle.std.proofs.Common.{◌∙◌, ap}
use Rattle.std.specs.Option.{option_map}
use Rattle.why_causes.specs.declared.events.Event.{Event}
use Rattle.why_causes.specs.Waveform.{event_at}
use Rattle.why_text.specs.Parting.{time_or}
use Rattle.why_text.proofs.parting.begin.Goals as goal

pub returns-in-Some : goal.returns-in-Some
returns-in-Some c = ap (λ (e : Event). e.time) c.event_of.ensures ∙ ap (λ o. time_or c.args.time (option_map (event_at c.args.trace.now) o)) c.in-Some.ensures.value
