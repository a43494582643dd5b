-- Each member, then its delays.
use Rattle.std.proofs.Common.{List, ◌+◌, map, take, flat_map, sym, subst, ◌∙◌}
use Rattle.std.proofs.lemmas.Result.{err_from_is_err_and}
use Rattle.vl_tree.specs.Tree.{Module}
use Rattle.elab_model.specs.Faults.{Fault, RefusesOneOf}
use Rattle.elab_model.specs.Members.{members}
use Rattle.elab_model.specs.ModuleFaults.{all_member_faults}
use Rattle.elab_variables.specs.declared.member_list.Member as code
use Rattle.elab_variables.specs.Seen.{view_member}
use Rattle.elab_modules.specs.Ready.{MemberReady, IsPrepared}
use Rattle.elab_modules.proofs.Entries.{AreDelays, grows-then, one-more, has-delays, members-faults}
use Rattle.elab_modules.proofs.InTurn.{exit-if, this-refused, next-faultless, none-left}
use Rattle.elab_modules.proofs.MemberFaults.{delay-refused}
use Rattle.elab_modules.proofs.ReadyParts.{one-of}
use Rattle.elab_modules.proofs.members.check_members.Goals as goal

pub check_member-requires-clause-named : goal.check_member-requires-clause-named
check_member-requires-clause-named c =
    one-of (MemberReady c.args.definitions.now c.args.parts.now) view_member c.deref-member-items.result.now c.args.prepared.now.members.items c.loop-member.member-index c.member-item.result
    c.deref-member-items.ensures.value c.requires.named c.loop-member-test.true c.member-item.is

pub returns-in_err-check_member-clause-refused : goal.returns-in_err-check_member-clause-refused
returns-in_err-check_member-clause-refused c =
    exit-if c.from_residual-in_err-check_member.result
    (λ r. (m : Module) → IsPrepared c.args.prepared.now m → RefusesOneOf (flat_map (all_member_faults c.args.definitions.now c.args.corner c.args.tick.power m) (members m)) r)
    c.in_err-check_member.field-0.0 (err_from_is_err_and c.from_residual-in_err-check_member.result c.from_residual-in_err-check_member.ensures.1)
    (λ m p.
    let g = all_member_faults c.args.definitions.now c.args.corner c.args.tick.power m in
    let f : code.Member → List Fault = λ x. g (view_member x) in
    subst (λ fs. RefusesOneOf fs c.in_err-check_member.field-0.0) (members-faults g m c.args.prepared.now c.deref-member-items.result.now p c.deref-member-items.ensures.value)
    (this-refused f c.deref-member-items.result.now c.loop-member.member-index c.member-item.result c.in_err-check_member.field-0.0 c.loop-member-test.true c.member-item.is
    (c.loop-member.invariant.faults m p) (c.in_err-check_member.ensures m p c.args.corner c.args.tick.power)))

pub returns-in_err-place-clause-refused : goal.returns-in_err-place-clause-refused
returns-in_err-place-clause-refused c =
    exit-if c.from_residual-in_err-place.result
    (λ r. (m : Module) → IsPrepared c.args.prepared.now m → RefusesOneOf (flat_map (all_member_faults c.args.definitions.now c.args.corner c.args.tick.power m) (members m)) r)
    c.in_err-place.field-0.0 (err_from_is_err_and c.from_residual-in_err-place.result c.from_residual-in_err-place.ensures.1)
    (λ m p.
    let g = all_member_faults c.args.definitions.now c.args.corner c.args.tick.power m in
    let f : code.Member → List Fault = λ x. g (view_member x) in
    subst (λ fs. RefusesOneOf fs c.in_err-place.field-0.0) (members-faults g m c.args.prepared.now c.deref-member-items.result.now p c.deref-member-items.ensures.value)
    (this-refused f c.deref-member-items.result.now c.loop-member.member-index c.member-item.result c.in_err-place.field-0.0 c.loop-member-test.true c.member-item.is
    (c.loop-member.invariant.faults m p)
    (delay-refused (f c.member-item.result) _ c.in_err-place.field-0.0 (c.in_ok-check_member.ensures m p c.args.corner c.args.tick.power) (c.in_err-place.ensures.told m p))))

pub loop-member-preserved : goal.loop-member-preserved
loop-member-preserved c = record {
  counts = c.add_member.ensures.counts;
  kept = grows-then c.args.gate_delays.now.items c.loop-member.gate_delays.items c.add_member.new.gate_delays.items c.loop-member.invariant.kept c.add_member.ensures.kept;
  faults = λ m p.
      next-faultless (λ x. all_member_faults c.args.definitions.now c.args.corner c.args.tick.power m (view_member x)) c.deref-member-items.result.now c.loop-member.member-index c.member-item.result
      c.loop-member-test.true c.member-item.is (c.in_ok-check_member.ensures m p c.args.corner c.args.tick.power ∙ c.in_ok-place.ensures.told m p) (c.loop-member.invariant.faults m p);
  delays = λ m p.
      subst (λ ps. AreDelays c.args.corner c.args.tick.power m (map view_member (take (c.loop-member.member-index + 1) c.deref-member-items.result.now)) c.add_member.new.gate_delays.items ps)
      (sym c.in_ok-push.ensures.items)
      (one-more c.args.corner c.args.tick.power m c.deref-member-items.result.now c.loop-member.member-index c.member-item.result c.loop-member.gate_delays.items c.add_member.new.gate_delays.items
      c.loop-member.places.items c.in_ok-place.place c.loop-member-test.true c.member-item.is c.add_member.ensures.kept (c.in_ok-place.ensures.place m p) (c.loop-member.invariant.delays m p));
}

pub returns-clause-faultless : goal.returns-clause-faultless
returns-clause-faultless c = λ m p.
    let g = all_member_faults c.args.definitions.now c.args.corner c.args.tick.power m in
    sym (members-faults g m c.args.prepared.now c.deref-member-items.result.now p c.deref-member-items.ensures.value)
    ∙ none-left (λ x. g (view_member x)) c.deref-member-items.result.now c.loop-member.member-index c.loop-member-test.false (c.loop-member.invariant.faults m p)

pub returns-clause-delays : goal.returns-clause-delays
returns-clause-delays c = λ m p.
    has-delays c.args.corner c.args.tick.power m c.args.prepared.now c.deref-member-items.result.now c.loop-member.member-index c.loop-member.gate_delays.items c.loop-member.places.items p
    c.deref-member-items.ensures.value c.loop-member-test.false (c.loop-member.invariant.delays m p)
