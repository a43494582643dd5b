-- Each section keeps to what is known of those before.
use Rattle.std.proofs.Common.{◌≡◌, ◌-◌, ◌∙◌, ap, arith, length, take}
use Rattle.std.proofs.lemmas.Result.{err_from_is_err_and}
use Rattle.vcd_form.specs.Seen.{declaration_seen}
use Rattle.vcd_stim.proofs.IndexLaws.{declares_fails, declares_is, known-enters, known-leaves, known-remark, known-timescale}
use Rattle.vcd_stim.proofs.Refusals.{exit-match}
use Rattle.vcd_stim.proofs.sections.add_section.Goals as goal

pub returns-in_ok-enter-in-Enters : goal.returns-in_ok-enter-in-Enters
returns-in_ok-enter-in-Enters c before k =
    rw c.in-Enters.is (known-enters c.args.inputs.now.circuit.now c.args.scope.now before _ _ _ _ _ c.in-Enters.name.now k c.in_ok-enter-in-Enters.ensures.fronts c.in_ok-enter-in-Enters.ensures.found)

pub returns-in-Leaves : goal.returns-in-Leaves
returns-in-Leaves c before k =
    let n : c.args.walk.now.fronts.len - 1 ≡ length c.args.walk.now.fronts.items - 1 = omega (arith, c.args.walk.now.fronts.ok.0) in
    rw c.in-Leaves.is (known-leaves c.args.inputs.now.circuit.now c.args.scope.now before _ _ _ _ k (c.pop.ensures.rest ∙ ap (λ m. take m c.args.walk.now.fronts.items) n))

pub returns-in-Remark : goal.returns-in-Remark
returns-in-Remark c before k = rw c.in-Remark.is (known-remark c.args.inputs.now.circuit.now c.args.scope.now before _ _ _ k)

pub returns-in-Timescale : goal.returns-in-Timescale
returns-in-Timescale c before k = rw c.in-Timescale.is (known-timescale c.args.inputs.now.circuit.now c.args.scope.now before _ _ _ _ k)

pub returns-in_ok-add_nets-in-Declares : goal.returns-in_ok-add_nets-in-Declares
returns-in_ok-add_nets-in-Declares c before k =
    rw c.in-Declares.is
    (declares_is c.args.inputs.now.circuit.now c.args.scope.now before _ c.deref.result.now _ c.is_within.result _ _ (declaration_seen c.in-Declares.declaration) _ k c.deref.ensures.value c.is_within.ensures
    c.in_ok-nets-in-Declares.ensures.0 c.in_ok-nets-in-Declares.ensures.1 c.in_ok-add_nets-in-Declares.ensures)

pub returns-in_err-nets-in-Declares : goal.returns-in_err-nets-in-Declares
returns-in_err-nets-in-Declares c before k =
    rw c.in-Declares.is
    (exit-match _ _ c.from_residual-in_err-nets-in-Declares.result c.in_err-nets-in-Declares.field-0.0 (err_from_is_err_and c.from_residual-in_err-nets-in-Declares.result c.from_residual-in_err-nets-in-Declares.ensures.1)
    (declares_fails c.args.inputs.now.circuit.now c.args.scope.now before _ c.deref.result.now _ c.is_within.result _ (declaration_seen c.in-Declares.declaration) c.in_err-nets-in-Declares.field-0.0 k c.deref.ensures.value c.is_within.ensures c.in_err-nets-in-Declares.ensures))
