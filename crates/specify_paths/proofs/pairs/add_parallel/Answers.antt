-- One more path is there.
use Rattle.std.specs.Prelude.{◌<◌, length}
use Rattle.std.proofs.Common.{arith, sym, subst}
use Rattle.specify_values.specs.Seen.{limits_seen}
use Rattle.elab_ends.specs.Seen.{bit_seen}
use Rattle.specify_paths.specs.Seen.{ArePathsInRow, path_to_seen, path_said, said_at}
use Rattle.specify_paths.proofs.Added.{pair-end, pair-step}
use Rattle.specify_paths.proofs.Rows.{item-in_row, one-more_in_row, path-in_row}
use Rattle.specify_paths.proofs.pairs.add_parallel.Goals as goal

pub returns-in_err-push-clause-row : goal.returns-in_err-push-clause-row
returns-in_err-push-clause-row c = λ n lt h. subst (ArePathsInRow c.args.table.now n) (sym c.in_err-push.ensures.items) (c.loop-at.invariant.1 n lt h)

pub loop-at-preserved : goal.loop-at-preserved
loop-at-preserved c =
    let vs = c.args.table.now in
    let xs = c.args.ends.now.inputs.items in
    let ys = c.args.ends.now.outputs.items in
    let i = c.loop-at.at in
    let lt : i < length xs = omega (arith, c.loop-at-test.true, c.min-count.ensures, c.len.ensures, c.len-2.ensures, c.args.ends.now.inputs.ok.0, c.args.ends.now.outputs.ok.0) in
    let less : i < length ys = omega (arith, c.loop-at-test.true, c.min-count.ensures, c.len.ensures, c.len-2.ensures, c.args.ends.now.inputs.ok.0, c.args.ends.now.outputs.ok.0) in (
      λ said. pair-step (path_to_seen vs said) (path_said (said_at said c.args.origin.statement) c.args.origin.place (limits_seen c.args.limits.now)) (bit_seen vs) xs ys i c.index.result.now
          c.index-in-loop-at.result.now c.loop-at.list.items c.push.new.self.items c.path_between.result _ lt less c.index.ensures c.index-in-loop-at.ensures c.in_ok-push.ensures.items
          (c.path_between.ensures.path said) (c.loop-at.invariant.0 said),
      λ n listed h. one-more_in_row vs n c.loop-at.list.items c.push.new.self.items c.path_between.result c.in_ok-push.ensures.items
          (path-in_row vs n c.path_between.result c.index.result.now c.index-in-loop-at.result.now c.args.origin.statement c.path_between.ensures.input c.path_between.ensures.output c.path_between.ensures.statement
          (item-in_row vs xs i c.index.result.now lt c.index.ensures c.requires.inputs) (item-in_row vs ys i c.index-in-loop-at.result.now less c.index-in-loop-at.ensures c.requires.outputs) listed)
          (c.loop-at.invariant.1 n listed h),
    )

pub returns-clause-paths : goal.returns-clause-paths
returns-clause-paths c =
    let vs = c.args.table.now in
    let xs = c.args.ends.now.inputs.items in
    let ys = c.args.ends.now.outputs.items in
    λ said. pair-end (path_to_seen vs said) (path_said (said_at said c.args.origin.statement) c.args.origin.place (limits_seen c.args.limits.now)) (bit_seen vs) xs ys c.loop-at.at c.min-count.result
    c.loop-at.list.items _ (λ o. omega (arith, o, c.min-count.ensures, c.len.ensures, c.len-2.ensures, c.args.ends.now.inputs.ok.0, c.args.ends.now.outputs.ok.0))
    (λ o. omega (arith, o, c.min-count.ensures, c.len.ensures, c.len-2.ensures, c.args.ends.now.inputs.ok.0, c.args.ends.now.outputs.ok.0)) c.loop-at-test.false (c.loop-at.invariant.0 said)
