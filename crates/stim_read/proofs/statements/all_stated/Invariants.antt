-- The statements so far, and those of what is left.
use Rattle.std.proofs.Common.{◌≡◌, ◌≤◌, ◌+◌, ◌^◌, ◌++◌, length, map}
use Rattle.std.specs.Prelude.{All}
use Rattle.stim_read.specs.Forms.{all_stated}
use Rattle.stim_read.specs.Seen.{decimals, line_seen, stated_seen, stated_lines}
use Rattle.stim_read.proofs.statements.all_stated.Given as goal

abbrev pub invariant-loop-rest : goal.invariant-loop-rest
invariant-loop-rest l = record {
  completes : all_stated decimals l.text ≡ map (λ s. stated_seen s) l.made.items ++ stated_lines (map (λ x. line_seen x) l.rest);
  inside : All (λ x. x.start + length x.bytes.now ≤ 2 ^ 28) l.rest;
}

abbrev pub decreases-loop-rest : goal.decreases-loop-rest
decreases-loop-rest l = length l.rest
