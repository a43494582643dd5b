-- Something else drives a net, or timing checks drive one more.
use Rattle.std.proofs.Common.{rules, ◌+◌, ◌<◌, take, length, arith, slice_index_or, subst, sym, inl, inr}
use Rattle.elab_numbering.specs.Driving.{IsOutside, DrivesRegs}
use Rattle.elab_numbering.proofs.LoopLemmas.{reg-free, reg-again, reg-taken}
use Rattle.elab_numbering.proofs.driving.drive_regs.Goals.{in-Nobody, in-Notifier}
use Rattle.elab_numbering.proofs.driving.drive_regs.Goals as goal

pub returns-in-Stimulus-clause-taken : goal.returns-in-Stimulus-clause-taken
returns-in-Stimulus-clause-taken c = λ ds s.
    let lt : c.loop-reg.reg-index < length c.args.regs.now = omega arith in
    reg-taken c.args.drivers.now.items c.loop-reg.drivers.items ds (take c.loop-reg.reg-index c.args.regs.now) (slice_index_or c.args.regs.now c.loop-reg.reg-index 0) c.index.result.now
    (subst (λ n. slice_index_or c.args.regs.now c.loop-reg.reg-index 0 < n) (sym c.loop-reg.invariant.nets) (c.requires.within c.loop-reg.reg-index 0 lt))
    (search rules)
    (elim c.in-Stimulus.is [ inl e ↦ subst IsOutside (sym e) tt | inr e ↦ subst IsOutside (sym e.1) tt ])
    s (c.loop-reg.invariant.so_far ds s)

pub loop-reg-preserved : goal.loop-reg-preserved
loop-reg-preserved c = elim c.match-index.branch [
  | in-Nobody w ↦ record {
    nets = search rules;
    so_far = λ ds s.
        let lt : c.loop-reg.reg-index < length c.args.regs.now = omega arith in
        let m = reg-free c.args.drivers.now.items c.loop-reg.drivers.items ds c.args.regs.now c.loop-reg.reg-index c.index.result.now lt
        (subst (λ n. slice_index_or c.args.regs.now c.loop-reg.reg-index 0 < n) (sym c.loop-reg.invariant.nets) (c.requires.within c.loop-reg.reg-index 0 lt))
        (search rules) (search rules) s (c.loop-reg.invariant.so_far ds s) in
        subst (λ v. DrivesRegs v.items ds (take (c.loop-reg.reg-index + 1) c.args.regs.now)) (sym w.drivers-is) m;
  }
  | in-Notifier w ↦ record {
    nets = search rules;
    so_far = λ ds s.
        let lt : c.loop-reg.reg-index < length c.args.regs.now = omega arith in
        let m = reg-again c.args.drivers.now.items c.loop-reg.drivers.items ds c.args.regs.now c.loop-reg.reg-index c.index.result.now lt
        (subst (λ n. slice_index_or c.args.regs.now c.loop-reg.reg-index 0 < n) (sym c.loop-reg.invariant.nets) (c.requires.within c.loop-reg.reg-index 0 lt))
        (search rules) (search rules) s (c.loop-reg.invariant.so_far ds s) in
        subst (λ v. DrivesRegs v.items ds (take (c.loop-reg.reg-index + 1) c.args.regs.now)) (sym w.drivers-is) m;
  }
]
