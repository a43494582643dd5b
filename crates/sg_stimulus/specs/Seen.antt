-- What the code's stimulus stands for.
use Rattle.std.specs.Prelude.{ℕ, map}
use Rattle.sg_logic.specs.declared.values.Value.{Value}
use Rattle.sg_stimulus.specs.Stimulus.{Step, Stimulus}
use Rattle.sg_stimulus.specs.declared.steps.Set as code_set
use Rattle.sg_stimulus.specs.declared.steps.StimStep as code_step
use Rattle.sg_stimulus.specs.declared.steps.Stimulus as code_stimulus

abbrev pub set_seen : code_set.Set → ℕ × Value
set_seen s = (s.net, s.value)

abbrev pub step_seen : code_step.StimStep → Step
step_seen s = record { time = s.time; sets = map (λ x. set_seen x) s.sets.items }

abbrev pub stimulus_seen : code_stimulus.Stimulus → Stimulus
stimulus_seen s = record { steps = map (λ x. step_seen x) s.steps.items; end = s.end }
