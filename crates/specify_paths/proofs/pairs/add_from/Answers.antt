-- One more path is there.
use Rattle.std.proofs.Common.{sym, subst}
use Rattle.specify_values.specs.Seen.{limits_seen}
use Rattle.elab_ends.specs.Seen.{bit_seen}
use Rattle.specify_paths.specs.Seen.{ArePathsInRow, path_to_seen, path_said, said_at}
use Rattle.specify_paths.proofs.Added.{from-step}
use Rattle.specify_paths.proofs.Rows.{one-more_in_row, path-in_row}
use Rattle.specify_paths.proofs.pairs.add_from.Goals as goal

pub returns-in_err-push-clause-row : goal.returns-in_err-push-clause-row
returns-in_err-push-clause-row c = λ n lt h. subst (ArePathsInRow c.args.table.now n) (sym c.in_err-push.ensures.items) (c.loop-output.invariant.1 n lt h)

pub loop-output-preserved : goal.loop-output-preserved
loop-output-preserved c =
    let vs = c.args.table.now in
    let i = c.loop-output.output-index in (
      λ said. from-step (path_to_seen vs said) (path_said (said_at said c.args.origin.statement) c.args.origin.place (limits_seen c.args.limits.now)) (λ o. (bit_seen vs c.args.input, o)) (bit_seen vs)
          c.args.outputs.now i _ c.loop-output.list.items c.push.new.self.items c.path_between.result _ c.loop-output-test.true c.in_ok-push.ensures.items (c.path_between.ensures.path said)
          (c.loop-output.invariant.0 said),
      λ n lt h. one-more_in_row vs n c.loop-output.list.items c.push.new.self.items c.path_between.result c.in_ok-push.ensures.items
          (path-in_row vs n c.path_between.result c.args.input _ c.args.origin.statement c.path_between.ensures.input c.path_between.ensures.output c.path_between.ensures.statement c.requires.input
          (c.requires.outputs i _ c.loop-output-test.true) lt)
          (c.loop-output.invariant.1 n lt h),
    )
