-- One member more has its elements.
use Rattle.std.proofs.Common.{◌≡◌, ◌≤◌, ◌<◌, ap, arith, length}
use Rattle.std.proofs.lemmas.Result.{err_from_is_err_and}
use Rattle.elab_variables.specs.Seen.{view_member}
use Rattle.elab_nets.proofs.MemberTurns.{member-at}
use Rattle.elab_elements.proofs.MembersSoFar.{one-added, all-added, one-refused, delays-within, first-within, first-few, is-member}
use Rattle.elab_elements.proofs.Putting.{exit-by}
use Rattle.elab_elements.proofs.instances.add_members.Goals as goal

pub delays_at-delays-requires : goal.delays_at-delays-requires
delays_at-delays-requires c =
    let lt : c.loop-at.at < length c.deref-member-items.result.now = omega arith in
    let e : length c.deref-member-items.result.now ≡ length c.args.prepared.now.members.items = ap length c.deref-member-items.ensures.value in
    delays-within c.args.definitions.now c.requires.at.0 c.requires.at.1.0 c.args.instances.now c.args.library.now c.args.rows.now c.args.number c.args.definition c.args.prepared.now c.args.row.now c.args.driven.now c.args.start c.requires.at.1.1.0 c.requires.at.1.1.1 c.loop-at.at (omega arith)

pub first_net-first-requires : goal.first_net-first-requires
first_net-first-requires c =
    let lt : c.loop-at.at < length c.deref-member-items.result.now = omega arith in
    let e : length c.deref-member-items.result.now ≡ length c.args.prepared.now.members.items = ap length c.deref-member-items.ensures.value in
    first-within c.args.definitions.now c.requires.at.0 c.requires.at.1.0 c.args.instances.now c.args.library.now c.args.rows.now c.args.number c.args.definition c.args.prepared.now c.args.row.now c.args.driven.now c.args.start c.requires.at.1.1.0 c.requires.at.1.1.1 c.loop-at.at (omega arith)

pub add_member-requires-clause-at : goal.add_member-requires-clause-at
add_member-requires-clause-at c =
    let lt : c.loop-at.at < length c.deref-member-items.result.now = omega arith in (
      c.requires.at.0,
      (
        c.requires.at.1.0,
        (
          c.requires.at.1.1.0,
          (
            c.requires.at.1.1.1.is_prepared,
            (is-member c.args.definitions.now c.requires.at.0 c.requires.at.1.0 c.args.instances.now c.args.library.now c.args.rows.now c.args.number c.args.definition c.args.prepared.now c.args.row.now c.args.driven.now c.args.start c.requires.at.1.1.0 c.requires.at.1.1.1 c.loop-at.at c.loop-at.next c.delays_at-delays.result c.first_net-first.result (view_member c.member-item.result) c.args.made.now c.loop-at.made
                (member-at c.args.prepared.now c.requires.at.1.1.0.step.definition c.deref-member-items.result.now c.loop-at.at c.member-item.result c.requires.at.1.1.1.is_prepared c.deref-member-items.ensures.value lt c.member-item.is) c.delays_at-delays.ensures c.first_net-first.ensures (c.loop-at.invariant.added c.requires.at.0 c.requires.at.1.0 c.requires.at.1.1.0 c.requires.at.1.1.1)),
          ),
        ),
      ),
    )

pub add_member-requires-clause-first : goal.add_member-requires-clause-first
add_member-requires-clause-first c =
    let lt : c.loop-at.at < length c.deref-member-items.result.now = omega arith in
    first-few c.args.definitions.now c.requires.at.0 c.requires.at.1.0 c.args.instances.now c.args.library.now c.args.rows.now c.args.number c.args.definition c.args.prepared.now c.args.row.now c.args.driven.now c.args.start c.requires.at.1.1.0 c.requires.at.1.1.1 c.loop-at.at c.first_net-first.result (view_member c.member-item.result)
    (member-at c.args.prepared.now c.requires.at.1.1.0.step.definition c.deref-member-items.result.now c.loop-at.at c.member-item.result c.requires.at.1.1.1.is_prepared c.deref-member-items.ensures.value lt c.member-item.is) c.first_net-first.ensures

pub returns-in_err-next-clause-refused : goal.returns-in_err-next-clause-refused
returns-in_err-next-clause-refused c =
    let lt : c.loop-at.at < length c.deref-member-items.result.now = omega arith in
    exit-by _ c.from_residual.result c.in_err-next.field-0.0 (err_from_is_err_and c.from_residual.result c.from_residual.ensures.1)
    (λ top corner s h. one-refused c.args.definitions.now top corner c.args.instances.now c.args.library.now c.args.rows.now c.args.number c.args.definition c.args.prepared.now c.args.row.now c.args.driven.now c.args.start s h c.loop-at.at c.loop-at.next (view_member c.member-item.result) c.args.made.now c.loop-at.made c.in_err-next.field-0.0
    (member-at c.args.prepared.now s.step.definition c.deref-member-items.result.now c.loop-at.at c.member-item.result h.is_prepared c.deref-member-items.ensures.value lt c.member-item.is) (c.loop-at.invariant.added top corner s h)
    (c.in_err-next.ensures.refused top corner s h.is_prepared
    (is-member c.args.definitions.now top corner c.args.instances.now c.args.library.now c.args.rows.now c.args.number c.args.definition c.args.prepared.now c.args.row.now c.args.driven.now c.args.start s h c.loop-at.at c.loop-at.next c.delays_at-delays.result c.first_net-first.result (view_member c.member-item.result) c.args.made.now c.loop-at.made
    (member-at c.args.prepared.now s.step.definition c.deref-member-items.result.now c.loop-at.at c.member-item.result h.is_prepared c.deref-member-items.ensures.value lt c.member-item.is) c.delays_at-delays.ensures c.first_net-first.ensures (c.loop-at.invariant.added top corner s h))))

pub loop-at-preserved : goal.loop-at-preserved
loop-at-preserved c =
    let lt : c.loop-at.at < length c.deref-member-items.result.now = omega arith in
    record {
      few = c.add_member.ensures.few;
      added = λ top corner s h.
          let member = (is-member c.args.definitions.now top corner c.args.instances.now c.args.library.now c.args.rows.now c.args.number c.args.definition c.args.prepared.now c.args.row.now c.args.driven.now c.args.start s h c.loop-at.at c.loop-at.next c.delays_at-delays.result c.first_net-first.result (view_member c.member-item.result) c.args.made.now c.loop-at.made
          (member-at c.args.prepared.now s.step.definition c.deref-member-items.result.now c.loop-at.at c.member-item.result h.is_prepared c.deref-member-items.ensures.value lt c.member-item.is) c.delays_at-delays.ensures c.first_net-first.ensures (c.loop-at.invariant.added top corner s h)) in
          one-added c.args.definitions.now top corner c.args.instances.now c.args.library.now c.args.rows.now c.args.number c.args.definition c.args.prepared.now c.args.row.now c.args.driven.now c.args.start s h c.loop-at.at c.loop-at.next c.in_ok-next.next (view_member c.member-item.result) c.args.made.now c.loop-at.made c.add_member.new.made
          (member-at c.args.prepared.now s.step.definition c.deref-member-items.result.now c.loop-at.at c.member-item.result h.is_prepared c.deref-member-items.ensures.value lt c.member-item.is) (c.loop-at.invariant.added top corner s h)
          (c.in_ok-next.ensures.elements top corner s h.is_prepared member) (c.in_ok-next.ensures.next top corner s h.is_prepared member);
    }

pub returns-clause-elements : goal.returns-clause-elements
returns-clause-elements c =
    let e : length c.deref-member-items.result.now ≡ length c.args.prepared.now.members.items = ap length c.deref-member-items.ensures.value in
    let le : length c.args.prepared.now.members.items ≤ c.loop-at.at = omega arith in
    λ top corner s h. all-added c.args.definitions.now top corner c.args.instances.now c.args.library.now c.args.rows.now c.args.number c.args.definition c.args.prepared.now c.args.row.now c.args.driven.now c.args.start s h c.loop-at.at c.loop-at.next c.args.made.now c.loop-at.made le (c.loop-at.invariant.added top corner s h)
