use Rattle.std.proofs.Common.{◌∙◌, refl}
use Rattle.std.proofs.lemmas.Result.{err_from_is_err_and}
use Rattle.signoff_phases.proofs.Composed.{gives_stop, gives_then}
use Rattle.signoff_top.proofs.CaseLaws.{entries_given, netlist_given, stimulus_given}
use Rattle.signoff_top.proofs.generated.case_task.Goals as goal

pub returns-in_err-circuit-clause-gives : goal.returns-in_err-circuit-clause-gives
returns-in_err-circuit-clause-gives c =
    let p = err_from_is_err_and c.from_residual-in_err-circuit.result c.from_residual-in_err-circuit.ensures.1 in
    rw (p.1, p.2) (gives_stop (netlist_given c.args.stages _ _ c.from_ref-files.ensures.value c.in_ok-netlist.ensures.netlist c.in_err-circuit.ensures.gives))

pub returns-in_err-unmatched-clause-gives : goal.returns-in_err-unmatched-clause-gives
returns-in_err-unmatched-clause-gives c =
    let p = err_from_is_err_and c.from_residual-in_err-unmatched.result c.from_residual-in_err-unmatched.ensures.1 in
    rw (p.1, p.2)
    (gives_then (netlist_given c.args.stages _ _ c.from_ref-files.ensures.value c.in_ok-netlist.ensures.netlist c.in_ok-circuit.ensures.gives)
    (gives_stop (entries_given c.args.stages _ _ (c.deref.ensures.value ∙ c.in_ok-netlist.ensures.sdf) c.in_err-unmatched.ensures.gives)))

pub returns-in_err-input-clause-gives : goal.returns-in_err-input-clause-gives
returns-in_err-input-clause-gives c =
    let p = err_from_is_err_and c.from_residual-in_err-input.result c.from_residual-in_err-input.ensures.1 in
    rw (p.1, p.2)
    (gives_then (netlist_given c.args.stages _ _ c.from_ref-files.ensures.value c.in_ok-netlist.ensures.netlist c.in_ok-circuit.ensures.gives)
    (gives_then (entries_given c.args.stages _ _ c.in_ok-netlist.ensures.sdf (rw c.deref.ensures.value at c.in_ok-unmatched.ensures.gives))
    (gives_stop (stimulus_given c.args.stages _ _ (c.deref-2.ensures.value ∙ c.in_ok-netlist.ensures.stimulus) c.in_err-input.ensures.gives))))

pub returns-clause-gives : goal.returns-clause-gives
returns-clause-gives c =
    gives_then (netlist_given c.args.stages _ _ c.from_ref-files.ensures.value c.in_ok-netlist.ensures.netlist c.in_ok-circuit.ensures.gives)
    (gives_then (entries_given c.args.stages _ _ c.in_ok-netlist.ensures.sdf (rw c.deref.ensures.value at c.in_ok-unmatched.ensures.gives))
    (gives_then (stimulus_given c.args.stages _ _ (c.deref-2.ensures.value ∙ c.in_ok-netlist.ensures.stimulus) c.in_ok-input.ensures.gives)
    (record { outcome = refl })))
