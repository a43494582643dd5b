use Rattle.std.proofs.Common.{◌∙◌, sym, ap, subst, map}
use Rattle.sg_circuit.specs.Circuit.{Circuit}
use Rattle.sg_stimulus.specs.Seen.{stimulus_seen}
use Rattle.sim_rounds.specs.Setting.{setting_of}
use Rattle.sim_rounds.specs.Simulated.{first_value_of, run_of_circuit}
use Rattle.why_history.specs.Events.{AreEvents}
use Rattle.why_history.specs.declared.history.History.{History}
use Rattle.why_history.proofs.HistoryLaws.{kept_are, violations_are}
use Rattle.why_history.proofs.OrderLaws.{nets_in, rise_in, times_in}
use Rattle.why_history.proofs.ViolationLaws.{all_bounded}
use Rattle.why_history.proofs.watched.watch.Goals as goal

pub returns-clause-events : goal.returns-clause-events
returns-clause-events c =
    subst (AreEvents _ _) (sym c.into_events.ensures)
    (kept_are (λ (w : History). w.events.items) _ _ _ _ _ c.args.circuit.now (setting_of c.args.circuit.now (stimulus_seen c.args.stimulus.now) c.args.bound) c.new-history.ensures.events _ _ _ _ _ c.in_ok-finished.ensures.1 c.in_ok-spent.ensures)

pub returns-clause-nets : goal.returns-clause-nets
returns-clause-nets c =
    nets_in (setting_of c.args.circuit.now (stimulus_seen c.args.stimulus.now) c.args.bound) _ _
    (c.in_ok-first_values.ensures ∙ ap (λ ns. map (λ net. first_value_of net.driver) ns) (c.deref.ensures.value ∙ ap (λ (p : Circuit). p.nets) c.parts.ensures.seen)) (returns-clause-events c)

pub returns-clause-times : goal.returns-clause-times
returns-clause-times c = times_in (setting_of c.args.circuit.now (stimulus_seen c.args.stimulus.now) c.args.bound) _ c.requires.applied.fits (returns-clause-events c)

pub returns-clause-rise : goal.returns-clause-rise
returns-clause-rise c = rise_in (setting_of c.args.circuit.now (stimulus_seen c.args.stimulus.now) c.args.bound) _ (returns-clause-events c)

pub returns-clause-violations : goal.returns-clause-violations
returns-clause-violations c =
    violations_are (λ (w : History). w.events.items) _ _ _ _ _ c.args.circuit.now (setting_of c.args.circuit.now (stimulus_seen c.args.stimulus.now) c.args.bound) c.new-history.ensures.events _ _ _ _ _ c.in_ok-finished.ensures.1
    c.in_ok-spent.ensures

pub returns-clause-bounded : goal.returns-clause-bounded
returns-clause-bounded c = all_bounded c.args.circuit.now c.args.bound (stimulus_seen c.args.stimulus.now) _ c.requires.applied.fits (returns-clause-violations c)
