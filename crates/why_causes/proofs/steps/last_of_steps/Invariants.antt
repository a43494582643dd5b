-- The last of the inputs so far, and the last of them that is a step.
use Rattle.std.proofs.Common.{◌≡◌, None, slice_index_or, false}
use Rattle.std.specs.Prelude.{filter}
use Rattle.std.specs.List.{last_or}
use Rattle.why_causes.specs.declared.changes.Candidate.{Candidate}
use Rattle.why_causes.proofs.StepLaws.{at_time}
use Rattle.why_causes.proofs.steps.last_of_steps.Given as goal

abbrev pub invariant-loop-input : goal.invariant-loop-input
invariant-loop-input l = record {
  last : l.last ≡ last_or None (at_time l.trace l.limit l.time l.steps l.inputs l.input);
  stepped : l.stepped ≡ last_or None (filter (λ (c : Candidate). slice_index_or l.steps c.input false) (at_time l.trace l.limit l.time l.steps l.inputs l.input));
}
