-- The nets of a member that no variable names are added, and the outer row of the child that it is.
use Rattle.std.proofs.Common.{◌≡◌, ◌∙◌, ◌++◌, ◌+◌, ap, sym, map, length, subst, refl, append-nil, option_map}
use Rattle.std.proofs.lemmas.Result.{err_from_is_err_and, IfOk-weaker, IfErr-weaker}
use Rattle.vl_tree.specs.Seen.{view_check, view_delay, view_gate_instance, view_path}
use Rattle.elab_model.specs.Members.{check, gate, path}
use Rattle.elab_model.specs.Nets.{member_nets}
use Rattle.elab_numbering.specs.Refusals.{RefusesCount}
use Rattle.elab_variables.specs.Seen.{view_member}
use Rattle.elab_nets.specs.Turns.{IsNext, IsSeenTo, end_number}
use Rattle.elab_nets.specs.declared.rows.Rows.{Rows}
use Rattle.elab_model.specs.Numbered.{undriven}
use Rattle.elab_nets.proofs.Counts.{handed-on}
use Rattle.elab_nets.proofs.ChildRows.{lone-seen, member-refused}
use Rattle.elab_nets.proofs.MemberTurns.{has-member}
use Rattle.elab_nets.proofs.PathTurns.{path-seen}
use Rattle.elab_nets.proofs.PlainMembers.{is-plain}
use Rattle.elab_nets.proofs.members.add_member.Goals as goal

pub returns-in_err-add_gate-in-Gate-clause-refused : goal.returns-in_err-add_gate-in-Gate-clause-refused
returns-in_err-add_gate-in-Gate-clause-refused c =
    let e = c.in_err-add_gate-in-Gate.field-0.0 in
    handed-on c.from_residual.result _ e (err_from_is_err_and c.from_residual.result c.from_residual.ensures.1)
    (λ top corner turn prepared at. member-refused c.args.definitions.now top corner c.args.library.now c.args.instances.now c.args.rows.now c.args.prepared.now.table c.args.number turn
    (c.args.index, view_member c.args.member) c.args.next
    (length c.args.rows.now.nets.items) at e
    (subst (λ x. RefusesCount (length c.args.rows.now.nets.items + length (member_nets c.args.definitions.now turn.s (c.args.index, x))) e) (sym (ap view_member c.in-Gate.is))
    (c.in_err-add_gate-in-Gate.ensures.refused c.args.definitions.now turn.s c.args.index (option_map view_delay c.in-Gate.delay.now) turn.table_is turn.number_is)))

pub returns-in_ok-add_gate-in-Gate-clause-seen : goal.returns-in_ok-add_gate-in-Gate-clause-seen
returns-in_ok-add_gate-in-Gate-clause-seen c = λ top corner turn prepared at.
    subst (λ x. IsSeenTo c.args.definitions.now top turn.s (c.args.index, x) at.levels c.args.next c.args.next at.behind c.args.rows.now
    (record {
      nets = c.add_gate.new.nets;
      starts = c.args.rows.now.starts;
      inner = c.args.rows.now.inner;
      outer_starts = c.args.rows.now.outer_starts;
      outer = c.args.rows.now.outer;
      member_starts = c.args.rows.now.member_starts;
      firsts = c.args.rows.now.firsts;
      end_starts = c.args.rows.now.end_starts;
      ends = c.args.rows.now.ends;
    }))
    (sym (ap view_member c.in-Gate.is))
    (lone-seen c.args.definitions.now top turn.s (c.args.index, gate c.in-Gate.kind (option_map view_delay c.in-Gate.delay.now) (view_gate_instance c.in-Gate.instance.now)) at.levels c.args.next at.behind
    c.args.rows.now _ refl
    (c.in_ok-add_gate-in-Gate.ensures.nets c.args.definitions.now turn.s c.args.index (option_map view_delay c.in-Gate.delay.now) turn.table_is turn.number_is) (sym (append-nil c.args.rows.now.ends.items))
    refl refl (refl, (refl, (refl, (refl, refl)))))

pub returns-in-Instance-clause-seen : goal.returns-in-Instance-clause-seen
returns-in-Instance-clause-seen c =
    IfOk-weaker c.add_named.result _ _
    (λ after h top corner turn prepared at. subst (λ x. (at : IsNext c.args.definitions.now turn.before turn.s (c.args.index, x) c.args.next (length c.args.rows.now.nets.items))
    → IsSeenTo c.args.definitions.now top turn.s (c.args.index, x) at.levels c.args.next after at.behind c.args.rows.now c.add_named.new.rows) (sym (ap view_member c.in-Instance.is)) (h top corner turn c.args.index _) at)
    c.add_named.ensures.seen

pub returns-in-Instance-clause-refused : goal.returns-in-Instance-clause-refused
returns-in-Instance-clause-refused c =
    IfErr-weaker c.add_named.result _ _
    (λ r h top corner turn prepared at. h top corner turn c.args.index _
    (subst (λ x. IsNext c.args.definitions.now turn.before turn.s (c.args.index, x) c.args.next (length c.args.rows.now.nets.items)) (ap view_member c.in-Instance.is) at))
    c.add_named.ensures.refused

pub returns-in-Declared : goal.returns-in-Declared
returns-in-Declared c = record {
  few = c.requires.few;
  seen = λ top corner turn prepared at.
      let nets = c.args.rows.now.nets.items in
      let ends = c.args.rows.now.ends.items in
      let p = is-plain c.args.definitions.now turn.s c.args.index c.args.member c.in-Declared.is in
      lone-seen c.args.definitions.now top turn.s (c.args.index, view_member c.args.member) at.levels c.args.next at.behind c.args.rows.now c.args.rows.now p.none
      (sym (append-nil nets) ∙ ap (λ os. nets ++ map undriven os) (sym p.no_nets))
      (sym (append-nil ends) ∙ ap (λ bs. ends ++ map (end_number c.args.definitions.now top turn.s) bs) (sym p.no_ends)) refl refl (refl, (refl, (refl, (refl, refl))));
  refused = tt;
}

pub returns-in_err-add_ends-in-Path-clause-refused : goal.returns-in_err-add_ends-in-Path-clause-refused
returns-in_err-add_ends-in-Path-clause-refused c =
    let e = c.in_err-add_ends-in-Path.field-0.0 in
    handed-on c.from_residual-in_err-add_ends-in-Path.result _ e (err_from_is_err_and c.from_residual-in_err-add_ends-in-Path.result c.from_residual-in_err-add_ends-in-Path.ensures.1)
    (λ top corner turn prepared at. member-refused c.args.definitions.now top corner c.args.library.now c.args.instances.now c.args.rows.now c.args.prepared.now.table c.args.number turn
    (c.args.index, view_member c.args.member) c.args.next
    (length c.args.rows.now.nets.items) at e
    (subst (λ x. RefusesCount (length c.args.rows.now.nets.items + length (member_nets c.args.definitions.now turn.s (c.args.index, x))) e) (sym (ap view_member c.in-Path.is))
    (c.in_err-add_ends-in-Path.ensures.refused c.args.definitions.now turn.s (view_path c.in-Path.field-0.now)
    (has-member turn.s c.args.prepared.now c.args.number c.args.index (view_member c.args.member) (path (view_path c.in-Path.field-0.now)) (ap view_member c.in-Path.is) prepared turn.number_is at.there))))

pub returns-in_ok-add_ends-in-Path-clause-seen : goal.returns-in_ok-add_ends-in-Path-clause-seen
returns-in_ok-add_ends-in-Path-clause-seen c = λ top corner turn prepared at.
    let source = c.args.definitions.now in
    let rows = c.args.rows.now in
    let k = c.args.index in
    let p = view_path c.in-Path.field-0.now in
    let is : view_member c.args.member ≡ path p = ap view_member c.in-Path.is in
    let new : Rows = record {
      nets = c.add_ends.new.nets;
      starts = rows.starts;
      inner = rows.inner;
      outer_starts = rows.outer_starts;
      outer = rows.outer;
      member_starts = rows.member_starts;
      firsts = rows.firsts;
      end_starts = rows.end_starts;
      ends = c.add_ends.new.ends;
    } in
    let has = has-member turn.s c.args.prepared.now c.args.number k (view_member c.args.member) (path p) is prepared turn.number_is at.there in
    subst (λ x. (at : IsNext source turn.before turn.s (k, x) c.args.next (length rows.nets.items)) → IsSeenTo source top turn.s (k, x) at.levels c.args.next c.args.next at.behind rows new) (sym is)
    (path-seen source top corner c.args.library.now c.args.instances.now rows new c.args.prepared.now.table c.args.number turn k c.args.next p
    (c.in_ok-add_ends-in-Path.ensures.nets source turn.s p has) (c.in_ok-add_ends-in-Path.ensures.ends turn.s p has) refl refl (refl, (refl, (refl, (refl, refl))))) at

pub returns-in_err-add_lates-in-Check-clause-refused : goal.returns-in_err-add_lates-in-Check-clause-refused
returns-in_err-add_lates-in-Check-clause-refused c =
    let e = c.in_err-add_lates-in-Check.field-0.0 in
    handed-on c.from_residual-in_err-add_lates-in-Check.result _ e (err_from_is_err_and c.from_residual-in_err-add_lates-in-Check.result c.from_residual-in_err-add_lates-in-Check.ensures.1)
    (λ top corner turn prepared at. member-refused c.args.definitions.now top corner c.args.library.now c.args.instances.now c.args.rows.now c.args.prepared.now.table c.args.number turn
    (c.args.index, view_member c.args.member) c.args.next
    (length c.args.rows.now.nets.items) at e
    (subst (λ x. RefusesCount (length c.args.rows.now.nets.items + length (member_nets c.args.definitions.now turn.s (c.args.index, x))) e) (sym (ap view_member c.in-Check.is))
    (c.in_err-add_lates-in-Check.ensures.refused c.args.definitions.now turn.s (view_check c.in-Check.field-0.now)
    (has-member turn.s c.args.prepared.now c.args.number c.args.index (view_member c.args.member) (check (view_check c.in-Check.field-0.now)) (ap view_member c.in-Check.is) prepared turn.number_is at.there))))

pub returns-in_ok-add_lates-in-Check-clause-seen : goal.returns-in_ok-add_lates-in-Check-clause-seen
returns-in_ok-add_lates-in-Check-clause-seen c = λ top corner turn prepared at.
    let source = c.args.definitions.now in
    let rows = c.args.rows.now in
    let k = c.args.index in
    let x = view_check c.in-Check.field-0.now in
    let is : view_member c.args.member ≡ check x = ap view_member c.in-Check.is in
    let new : Rows = record {
      nets = c.add_lates.new.nets;
      starts = rows.starts;
      inner = rows.inner;
      outer_starts = rows.outer_starts;
      outer = rows.outer;
      member_starts = rows.member_starts;
      firsts = rows.firsts;
      end_starts = rows.end_starts;
      ends = rows.ends;
    } in
    let has = has-member turn.s c.args.prepared.now c.args.number k (view_member c.args.member) (check x) is prepared turn.number_is at.there in
    subst (λ y. IsSeenTo source top turn.s (k, y) at.levels c.args.next c.args.next at.behind rows new) (sym is)
    (lone-seen source top turn.s (k, check x) at.levels c.args.next at.behind rows new refl
    (c.in_ok-add_lates-in-Check.ensures.nets source turn.s x has) (sym (append-nil rows.ends.items)) refl refl (refl, (refl, (refl, (refl, refl)))))
