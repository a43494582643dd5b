-- One line more.
use Rattle.std.proofs.Common.{length, ◌+◌, ◌≤◌, ◌^◌}
use Rattle.std.proofs.lemmas.List.Elements.{All-take, All-drop}
use Rattle.stim_read.proofs.Slices.{first-at}
use Rattle.stim_read.proofs.StatementLaws.{line-stated}
use Rattle.stim_read.proofs.statements.all_stated.Goals as goal

pub loop-rest-preserved : goal.loop-rest-preserved
loop-rest-preserved c =
    record {
      completes = line-stated _ c.loop-rest.rest.now _ _ _ _ (first-at c.loop-rest.rest.now _ c.in-len1-up.len_at_least) c.in_ok-add_statement.ensures c.loop-rest.invariant.completes;
      inside = All-take (λ x. x.start + length x.bytes.now ≤ 2 ^ 28) _ _ (All-drop (λ x. x.start + length x.bytes.now ≤ 2 ^ 28) 1 c.loop-rest.rest.now c.loop-rest.invariant.inside);
    }
