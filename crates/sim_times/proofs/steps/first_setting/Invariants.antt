use Rattle.std.specs.Prelude.{◌≡◌, ℕ, ◌<◌, [], slice_index_or}
use Rattle.sg_stimulus.specs.declared.steps.StimStep.{StimStep}
use Rattle.sim_times.proofs.steps.first_setting.Given as goal

abbrev pub invariant-loop-step : goal.invariant-loop-step
invariant-loop-step l = (i : ℕ) (blank : StimStep) → i < l.step-index → (slice_index_or l.steps i blank).sets.items ≡ []
