use Rattle.std.proofs.Common.{◌∙◌, ap, ℤ, slice_set, w64}
use Rattle.std.proofs.lemmas.Int.{to_z-of_z}
use Rattle.circuit_open.specs.Open.{with_limit}
use Rattle.circuit_open.proofs.ChangeLaws.{set-changed}
use Rattle.circuit_open.proofs.opened.change_limit.Goals as goal

pub returns : goal.returns
returns c =
    ap (λ (v : ℤ). slice_set c.args.timings.now.items c.args.check (with_limit c.args.part v c.index_mut.result.now)) (to_z-of_z w64 c.args.value (record { sfits = c.ranges.value.sfits }))
    ∙ set-changed (with_limit c.args.part c.args.value) c.args.check c.args.timings.now.items c.index_mut.result.now c.requires.check c.index_mut.ensures.value
