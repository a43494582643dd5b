use Rattle.std.proofs.Common.{◌≡◌, ◌++◌, ◌∙◌, ap, flat_map, arith}
use Rattle.std.specs.Prelude.{codes}
use Rattle.std.specs.List.{range_with_len}
use Rattle.gen_case.specs.Case.{cell_line, sdf_of}
use Rattle.gen_case.proofs.Texts.{next_stage, no_stage, last_stage}
use Rattle.gen_case.proofs.sdf.sdf_of.Goals.{else-loop-stage-test, then-loop-stage-test+in_ok-push_cell+else-stage-stages}
use Rattle.gen_case.proofs.sdf.sdf_of.Goals as goal

pub loop-stage-preserved : goal.loop-stage-preserved
loop-stage-preserved c =
    next_stage cell_line c.loop-stage.text.items c.push_cell.new.text.items (codes "(DELAYFILE (TIMESCALE 1ps)\n" ++ flat_map cell_line (range_with_len 1 c.args.stages)) c.args.stages c.loop-stage.stage
    (omega (arith, c.loop-stage-test.true)) c.in_ok-push_cell.ensures c.loop-stage.invariant

pub returns : goal.returns
unfolding sdf_of
returns c =
    let whole = codes "(DELAYFILE (TIMESCALE 1ps)\n" ++ flat_map cell_line (range_with_len 1 c.args.stages) in
    let all : c.loop-stage-test.text.items ≡ whole =
    elim c.loop-stage-test.branch [
      | else-loop-stage-test w ↦ rw w.text-is (no_stage cell_line c.loop-stage.text.items whole c.args.stages c.loop-stage.stage (omega (arith, w.loop-stage-test.false)) c.loop-stage.invariant)
      | then-loop-stage-test+in_ok-push_cell+else-stage-stages w ↦
          rw w.text-is
          (last_stage cell_line c.loop-stage.text.items w.push_cell.new.text.items whole c.args.stages c.loop-stage.stage (omega (arith, w.loop-stage-test.true)) (omega arith) w.in_ok-push_cell.ensures c.loop-stage.invariant)
    ] in
    c.in_ok-extend_from_slice.ensures.items ∙ ap (λ t. t ++ codes ")\n") all
