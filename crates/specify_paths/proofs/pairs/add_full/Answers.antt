-- The paths from one more bit are there.
use Rattle.std.specs.Prelude.{List, ℕ, map}
use Rattle.specify_values.specs.Seen.{limits_seen}
use Rattle.elab_model.specs.Terms.{NetBit}
use Rattle.elab_ends.specs.Seen.{bit_seen, bits_seen}
use Rattle.specify_paths.specs.Seen.{path_to_seen, path_said, said_at}
use Rattle.specify_paths.proofs.Added.{full-step}
use Rattle.specify_paths.proofs.pairs.add_full.Goals as goal

pub returns-in_err-add_from-clause-row : goal.returns-in_err-add_from-clause-row
returns-in_err-add_from-clause-row c = λ n lt h. c.in_err-add_from.ensures.row n lt (c.loop-input.invariant.1 n lt h)

pub loop-input-preserved : goal.loop-input-preserved
loop-input-preserved c =
    let vs = c.args.table.now in
    let each : List ℕ → NetBit → List (NetBit × NetBit) = λ os i. map (λ o. (i, o)) (bits_seen vs os) in (
      λ said. full-step (path_to_seen vs said) (path_said (said_at said c.args.origin.statement) c.args.origin.place (limits_seen c.args.limits.now)) each (bit_seen vs) c.deref.result.now
          c.args.ends.now.outputs.items c.deref-input-items.result.now c.args.ends.now.inputs.items c.loop-input.input-index _ c.loop-input.list.items c.add_from.new.list.items _ c.deref.ensures.value
          c.deref-input-items.ensures.value c.loop-input-test.true (c.in_ok-add_from.ensures.paths said) (c.loop-input.invariant.0 said),
      λ n lt h. c.in_ok-add_from.ensures.row n lt (c.loop-input.invariant.1 n lt h),
    )
