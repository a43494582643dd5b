-- What is driven inside is the instance's row, or is made of it.
use Rattle.std.proofs.Common.{◌≡◌, ◌∙◌, ap, arith, sym, length, map}
use Rattle.std.proofs.lemmas.Bool.{eqb-true}
use Rattle.std.proofs.lemmas.Result.{on_ok_weaker}
use Rattle.elab_laws.specs.NumberLaws.{driven_number}
use Rattle.elab_elements.specs.Words.{ends_in}
use Rattle.elab_elements.proofs.DrivenHere.{drives-own, drives-made, ends-in_row, ends-count}
use Rattle.elab_elements.proofs.MembersSoFar.{are-members}
use Rattle.elab_elements.proofs.Putting.{if_err-weaker}
use Rattle.elab_elements.proofs.ReadHere.{within, ready-is, prepared-is, end-is, inner-within, row-is, ends-within}
use Rattle.elab_elements.proofs.instances.add_inside.Goals as goal

pub placed_at-definition-requires : goal.placed_at-definition-requires
placed_at-definition-requires c = within _ _ _ _ _ _ _ _ c.requires.at.1.1.1

pub module_at-prepared-requires : goal.module_at-prepared-requires
module_at-prepared-requires c = ready-is _ _ _ _ _ _ _ _ c.placed_at-definition.result c.requires.at.1.1.1 c.placed_at-definition.ensures

pub inner_row-row-requires : goal.inner_row-row-requires
inner_row-row-requires c =
    inner-within _ _ _ _ _ _ _ _ c.module_at-prepared.result.now c.bits.result c.requires.at.1.1.1
    (prepared-is _ _ _ _ _ _ _ _ c.placed_at-definition.result c.module_at-prepared.result.now c.requires.at.1.1.1 c.placed_at-definition.ensures c.module_at-prepared.ensures) c.bits.ensures

pub overflow_add-number : goal.overflow_add-number
overflow_add-number c = let e = end-is _ _ _ _ _ _ _ _ c.placed_at-definition.result c.requires.at.1.1.1 c.placed_at-definition.ensures in omega (arith, e.0, e.1, c.placed_at-definition.type_inv)

pub add_members-requires-clause-at : goal.add_members-requires-clause-at
add_members-requires-clause-at c =
    let z : length c.module_at-prepared.result.now.ends.bits.items ≡ 0 = omega (
      arith,
      eqb-true c.module_at-prepared.result.now.ends.bits.len 0
          (sym c.is_empty.ensures ∙ c.if-is_empty.true),
      c.module_at-prepared.result.now.ends.bits.ok.0,
    ) in (
      c.requires.at.0,
      (
        c.requires.at.1.0,
        (
          c.requires.at.1.1.0,
          (are-members c.args.definitions.now c.requires.at.0 c.requires.at.1.0 c.args.instances.now c.args.library.now c.args.rows.now c.args.number c.requires.at.1.1.0 c.placed_at-definition.result
              c.module_at-prepared.result.now c.bits.result
              c.inner_row-row.result.now c.inner_row-row.result.now c.requires.at.1.1.1 c.placed_at-definition.ensures c.module_at-prepared.ensures c.bits.ensures c.inner_row-row.ensures
              (drives-own _ _ _ _ _ _ _ _ c.module_at-prepared.result.now c.bits.result c.inner_row-row.result.now c.requires.at.1.1.1
              (prepared-is _ _ _ _ _ _ _ _ c.placed_at-definition.result c.module_at-prepared.result.now c.requires.at.1.1.1 c.placed_at-definition.ensures c.module_at-prepared.ensures) c.bits.ensures
              c.inner_row-row.ensures z)),
        ),
      ),
    )

pub returns-then-is_empty-clause-elements : goal.returns-then-is_empty-clause-elements
returns-then-is_empty-clause-elements c =
    let z : length c.module_at-prepared.result.now.ends.bits.items ≡ 0 = omega (
      arith,
      eqb-true c.module_at-prepared.result.now.ends.bits.len 0
          (sym c.is_empty.ensures ∙ c.if-is_empty.true),
      c.module_at-prepared.result.now.ends.bits.ok.0,
    ) in
    on_ok_weaker c.add_members.result
    (λ added. λ top corner s at. added top corner s
    (are-members c.args.definitions.now top corner c.args.instances.now c.args.library.now c.args.rows.now c.args.number s c.placed_at-definition.result c.module_at-prepared.result.now c.bits.result
    c.inner_row-row.result.now c.inner_row-row.result.now at c.placed_at-definition.ensures c.module_at-prepared.ensures c.bits.ensures c.inner_row-row.ensures
    (drives-own _ _ _ _ _ _ _ _ c.module_at-prepared.result.now c.bits.result c.inner_row-row.result.now at
    (prepared-is _ _ _ _ _ _ _ _ c.placed_at-definition.result c.module_at-prepared.result.now at c.placed_at-definition.ensures c.module_at-prepared.ensures) c.bits.ensures c.inner_row-row.ensures z)))
    c.add_members.ensures.elements

pub returns-then-is_empty-clause-refused : goal.returns-then-is_empty-clause-refused
returns-then-is_empty-clause-refused c =
    let z : length c.module_at-prepared.result.now.ends.bits.items ≡ 0 = omega (
      arith,
      eqb-true c.module_at-prepared.result.now.ends.bits.len 0
          (sym c.is_empty.ensures ∙ c.if-is_empty.true),
      c.module_at-prepared.result.now.ends.bits.ok.0,
    ) in
    if_err-weaker c.add_members.result _ _
    (λ r refused. λ top corner s at. refused top corner s
    (are-members c.args.definitions.now top corner c.args.instances.now c.args.library.now c.args.rows.now c.args.number s c.placed_at-definition.result c.module_at-prepared.result.now c.bits.result
    c.inner_row-row.result.now c.inner_row-row.result.now at c.placed_at-definition.ensures c.module_at-prepared.ensures c.bits.ensures c.inner_row-row.ensures
    (drives-own _ _ _ _ _ _ _ _ c.module_at-prepared.result.now c.bits.result c.inner_row-row.result.now at
    (prepared-is _ _ _ _ _ _ _ _ c.placed_at-definition.result c.module_at-prepared.result.now at c.placed_at-definition.ensures c.module_at-prepared.ensures) c.bits.ensures c.inner_row-row.ensures z)))
    c.add_members.ensures.refused

pub end_row-ends-requires : goal.end_row-ends-requires
end_row-ends-requires c =
    let n : c.len.result ≡ length c.module_at-prepared.result.now.ends.bits.items = omega (arith, c.len.ensures, c.module_at-prepared.result.now.ends.bits.ok.0) in
    let r = row-is _ _ _ _ _ _ _ _ c.requires.at.1.1.1 in
    ends-within _ _ _ r.0 _ c.args.number c.module_at-prepared.result.now.ends c.len.result r.1 r.2
    (prepared-is _ _ _ _ _ _ _ _ c.placed_at-definition.result c.module_at-prepared.result.now c.requires.at.1.1.1 c.placed_at-definition.ensures c.module_at-prepared.ensures).ends n

pub drive-requires-clause-row : goal.drive-requires-clause-row
drive-requires-clause-row c =
    ends-in_row _ _ _ _ _ _ _ _ c.module_at-prepared.result.now c.bits.result c.inner_row-row.result.now c.deref.result.now c.requires.at.1.1.1
    (prepared-is _ _ _ _ _ _ _ _ c.placed_at-definition.result c.module_at-prepared.result.now c.requires.at.1.1.1 c.placed_at-definition.ensures c.module_at-prepared.ensures) c.bits.ensures
    c.inner_row-row.ensures c.deref.ensures.value

pub drive-requires-clause-count : goal.drive-requires-clause-count
drive-requires-clause-count c =
    let n : c.len.result ≡ length c.module_at-prepared.result.now.ends.bits.items = omega (arith, c.len.ensures, c.module_at-prepared.result.now.ends.bits.ok.0) in
    ends-count _ _ _ _ _ _ _ _ c.module_at-prepared.result.now c.len.result c.deref.result.now c.end_row-ends.result.now c.requires.at.1.1.1
    (prepared-is _ _ _ _ _ _ _ _ c.placed_at-definition.result c.module_at-prepared.result.now c.requires.at.1.1.1 c.placed_at-definition.ensures c.module_at-prepared.ensures) c.deref.ensures.value n
    c.end_row-ends.ensures

pub overflow_add-number-2 : goal.overflow_add-number-2
overflow_add-number-2 c = let e = end-is _ _ _ _ _ _ _ _ c.placed_at-definition.result c.requires.at.1.1.1 c.placed_at-definition.ensures in omega (arith, e.0, e.1, c.placed_at-definition.type_inv)

pub add_members-requires-2-clause-at : goal.add_members-requires-2-clause-at
add_members-requires-2-clause-at c =
    let n : c.len.result ≡ length c.module_at-prepared.result.now.ends.bits.items = omega (arith, c.len.ensures, c.module_at-prepared.result.now.ends.bits.ok.0) in (
      c.requires.at.0,
      (
        c.requires.at.1.0,
        (
          c.requires.at.1.1.0,
          (are-members c.args.definitions.now c.requires.at.0 c.requires.at.1.0 c.args.instances.now c.args.library.now c.args.rows.now c.args.number c.requires.at.1.1.0 c.placed_at-definition.result
              c.module_at-prepared.result.now c.bits.result
              c.inner_row-row.result.now c.deref-2.result.now c.requires.at.1.1.1 c.placed_at-definition.ensures c.module_at-prepared.ensures c.bits.ensures c.inner_row-row.ensures
              (drives-made _ _ _ _ _ _ _ _ c.module_at-prepared.result.now c.bits.result c.len.result c.inner_row-row.result.now c.end_row-ends.result.now c.deref-2.result.now c.requires.at.1.1.1
              (prepared-is _ _ _ _ _ _ _ _ c.placed_at-definition.result c.module_at-prepared.result.now c.requires.at.1.1.1 c.placed_at-definition.ensures c.module_at-prepared.ensures) c.bits.ensures
              c.inner_row-row.ensures n c.end_row-ends.ensures
              (c.deref-2.ensures.value ∙ c.in_ok-drive.ensures ∙ ap (λ bits. map (driven_number
              (ends_in c.inner_row-row.result.now bits c.end_row-ends.result.now)) c.inner_row-row.result.now) c.deref.ensures.value))),
        ),
      ),
    )

pub returns-clause-elements : goal.returns-clause-elements
returns-clause-elements c =
    let n : c.len.result ≡ length c.module_at-prepared.result.now.ends.bits.items = omega (arith, c.len.ensures, c.module_at-prepared.result.now.ends.bits.ok.0) in
    on_ok_weaker c.add_members-2.result
    (λ added. λ top corner s at. added top corner s
    (are-members c.args.definitions.now top corner c.args.instances.now c.args.library.now c.args.rows.now c.args.number s c.placed_at-definition.result c.module_at-prepared.result.now c.bits.result
    c.inner_row-row.result.now c.deref-2.result.now at c.placed_at-definition.ensures c.module_at-prepared.ensures c.bits.ensures c.inner_row-row.ensures
    (drives-made _ _ _ _ _ _ _ _ c.module_at-prepared.result.now c.bits.result c.len.result c.inner_row-row.result.now c.end_row-ends.result.now c.deref-2.result.now at
    (prepared-is _ _ _ _ _ _ _ _ c.placed_at-definition.result c.module_at-prepared.result.now at c.placed_at-definition.ensures c.module_at-prepared.ensures) c.bits.ensures c.inner_row-row.ensures n
    c.end_row-ends.ensures
    (c.deref-2.ensures.value ∙ c.in_ok-drive.ensures ∙ ap (λ bits. map (driven_number (ends_in c.inner_row-row.result.now bits c.end_row-ends.result.now)) c.inner_row-row.result.now) c.deref.ensures.value))))
    c.add_members-2.ensures.elements

pub returns-clause-refused : goal.returns-clause-refused
returns-clause-refused c =
    let n : c.len.result ≡ length c.module_at-prepared.result.now.ends.bits.items = omega (arith, c.len.ensures, c.module_at-prepared.result.now.ends.bits.ok.0) in
    if_err-weaker c.add_members-2.result _ _
    (λ r refused. λ top corner s at. refused top corner s
    (are-members c.args.definitions.now top corner c.args.instances.now c.args.library.now c.args.rows.now c.args.number s c.placed_at-definition.result c.module_at-prepared.result.now c.bits.result
    c.inner_row-row.result.now c.deref-2.result.now at c.placed_at-definition.ensures c.module_at-prepared.ensures c.bits.ensures c.inner_row-row.ensures
    (drives-made _ _ _ _ _ _ _ _ c.module_at-prepared.result.now c.bits.result c.len.result c.inner_row-row.result.now c.end_row-ends.result.now c.deref-2.result.now at
    (prepared-is _ _ _ _ _ _ _ _ c.placed_at-definition.result c.module_at-prepared.result.now at c.placed_at-definition.ensures c.module_at-prepared.ensures) c.bits.ensures c.inner_row-row.ensures n
    c.end_row-ends.ensures
    (c.deref-2.ensures.value ∙ c.in_ok-drive.ensures ∙ ap (λ bits. map (driven_number (ends_in c.inner_row-row.result.now bits c.end_row-ends.result.now)) c.inner_row-row.result.now) c.deref.ensures.value))))
    c.add_members-2.ensures.refused
