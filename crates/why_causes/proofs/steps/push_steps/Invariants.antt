-- The inputs so far have their new values, and it is known of each whether it is a step.
use Rattle.std.proofs.Common.{◌≡◌, ◌<◌, ◌++◌, ℕ, length, take, drop, slice_index_or, false}
use Rattle.why_causes.specs.Causes.{is_step}
use Rattle.why_causes.proofs.steps.push_steps.Given as goal

abbrev pub invariant-loop-input : goal.invariant-loop-input
invariant-loop-input l = record {
  taken : l.taken ≡ take l.input l.new ++ drop l.input l.old;
  many : length l.steps.items ≡ l.input;
  each : (k : ℕ) → k < l.input → slice_index_or l.steps.items k false ≡ is_step l.rows l.old l.new l.state k;
}
