use Rattle.std.proofs.Common.{◌≡◌, ◌++◌, ◌∙◌, ap, flat_map, arith}
use Rattle.std.specs.Prelude.{codes}
use Rattle.std.specs.List.{range_with_len}
use Rattle.gen_case.specs.Case.{inverter_line, netlist_head, netlist_of}
use Rattle.gen_case.proofs.Texts.{next_stage, no_stage, last_stage}
use Rattle.gen_case.proofs.netlist.netlist_of.Goals.{else-loop-stage-test, then-loop-stage-test+in_ok-push_inverter+else-stage-stages}
use Rattle.gen_case.proofs.netlist.netlist_of.Goals as goal

pub loop-stage-preserved : goal.loop-stage-preserved
loop-stage-preserved c =
    next_stage (inverter_line c.args.stages) c.loop-stage.text.items c.push_inverter.new.text.items (netlist_head ++ flat_map (inverter_line c.args.stages) (range_with_len 1 c.args.stages)) c.args.stages c.loop-stage.stage
    (omega (arith, c.loop-stage-test.true)) c.in_ok-push_inverter.ensures c.loop-stage.invariant

pub returns : goal.returns
unfolding netlist_of
returns c =
    let whole = netlist_head ++ flat_map (inverter_line c.args.stages) (range_with_len 1 c.args.stages) in
    let all : c.loop-stage-test.text.items ≡ whole =
    elim c.loop-stage-test.branch [
      | else-loop-stage-test w ↦ rw w.text-is (no_stage (inverter_line c.args.stages) c.loop-stage.text.items whole c.args.stages c.loop-stage.stage (omega (arith, w.loop-stage-test.false)) c.loop-stage.invariant)
      | then-loop-stage-test+in_ok-push_inverter+else-stage-stages w ↦
          rw w.text-is
          (last_stage (inverter_line c.args.stages) c.loop-stage.text.items w.push_inverter.new.text.items whole c.args.stages c.loop-stage.stage (omega (arith, w.loop-stage-test.true)) (omega arith) w.in_ok-push_inverter.ensures c.loop-stage.invariant)
    ] in
    c.in_ok-extend_from_slice.ensures.items ∙ ap (λ t. t ++ codes "endmodule\n") all
