-- What is read of the instance is what stands there.
use Rattle.std.proofs.Common.{arith}
use Rattle.std.proofs.lemmas.Result.{err_from_is_err_and}
use Rattle.elab_model.specs.Nets.{nets}
use Rattle.elab_laws.specs.Handing.{all_bits}
use Rattle.elab_elements.proofs.ReadHere.{within, ready-is, prepared-is, end-is, inner-within, outer-within, here-is, here-own, outside-is, row-count, one-is, constants-are}
use Rattle.elab_elements.proofs.Putting.{exit-by}
use Rattle.elab_elements.proofs.children.add_child.Goals as goal

pub placed_at-placed-requires : goal.placed_at-placed-requires
placed_at-placed-requires c = within _ _ _ _ _ _ _ _ c.requires.at.1.1.1.1

pub module_at-child-requires : goal.module_at-child-requires
module_at-child-requires c = ready-is _ _ _ _ _ _ _ _ c.placed_at-placed.result c.requires.at.1.1.1.1 c.placed_at-placed.ensures

pub overflow_sub-leaf : goal.overflow_sub-leaf
overflow_sub-leaf c = omega (arith, (end-is _ _ _ _ _ _ _ _ c.placed_at-placed.result c.requires.at.1.1.1.1 c.placed_at-placed.ensures).0)

pub inner_row-inner-requires : goal.inner_row-inner-requires
inner_row-inner-requires c = inner-within _ _ _ _ _ _ _ _ c.module_at-child.result.now c.bits-width.result c.requires.at.1.1.1.1 (prepared-is _ _ _ _ _ _ _ _ c.placed_at-placed.result c.module_at-child.result.now c.requires.at.1.1.1.1 c.placed_at-placed.ensures c.module_at-child.ensures) c.bits-width.ensures

pub outer_row-outer-requires : goal.outer_row-outer-requires
outer_row-outer-requires c = outer-within _ _ _ _ _ _ _ _ c.module_at-child.result.now c.bits-width.result c.requires.at.1.1.1.1 (prepared-is _ _ _ _ _ _ _ _ c.placed_at-placed.result c.module_at-child.result.now c.requires.at.1.1.1.1 c.placed_at-placed.ensures c.module_at-child.ensures) c.bits-width.ensures

pub add_port_constants-requires-clause-inner : goal.add_port_constants-requires-clause-inner
add_port_constants-requires-clause-inner c = row-count _ c.inner_row-inner.result.now (all_bits c.module_at-child.result.now.table) (here-is _ _ _ _ _ _ _ _ c.module_at-child.result.now c.bits-width.result c.inner_row-inner.result.now c.requires.at.1.1.1.1 (prepared-is _ _ _ _ _ _ _ _ c.placed_at-placed.result c.module_at-child.result.now c.requires.at.1.1.1.1 c.placed_at-placed.ensures c.module_at-child.ensures) c.bits-width.ensures c.inner_row-inner.ensures).numbers.numbers

pub add_port_constants-requires-clause-outer : goal.add_port_constants-requires-clause-outer
add_port_constants-requires-clause-outer c = row-count _ c.outer_row-outer.result.now (all_bits c.module_at-child.result.now.table) (outside-is _ _ _ _ _ _ _ _ c.module_at-child.result.now c.bits-width.result c.outer_row-outer.result.now c.requires.at.1.1.1.1 (prepared-is _ _ _ _ _ _ _ _ c.placed_at-placed.result c.module_at-child.result.now c.requires.at.1.1.1.1 c.placed_at-placed.ensures c.module_at-child.ensures) c.bits-width.ensures c.outer_row-outer.ensures).numbers

pub returns-in_err-add_port_constants-clause-refused : goal.returns-in_err-add_port_constants-clause-refused
returns-in_err-add_port_constants-clause-refused c =
    exit-by _ c.from_residual-in_err-add_port_constants.result c.in_err-add_port_constants.field-0.0
    (err_from_is_err_and c.from_residual-in_err-add_port_constants.result c.from_residual-in_err-add_port_constants.ensures.1)
    (λ source top corner s child at inside. c.in_err-add_port_constants.ensures.refused source s child
    (constants-are s child c.args.scope c.args.table.now c.args.text.now c.module_at-child.result.now c.deref.result.now c.in_ok-constants.constants.items c.deref-2.result.now inside (prepared-is _ _ _ _ _ _ _ _ c.placed_at-placed.result c.module_at-child.result.now at c.placed_at-placed.ensures c.module_at-child.ensures) c.deref.ensures.value c.deref-2.ensures.value c.in_ok-constants.ensures.constants))

pub returns-clause-next : goal.returns-clause-next
returns-clause-next c = λ source top corner child at. (end-is _ _ _ _ _ _ _ _ c.placed_at-placed.result at c.placed_at-placed.ensures).0

pub returns-clause-elements : goal.returns-clause-elements
returns-clause-elements c = λ source top corner s child at inside.
    c.in_ok-add_port_constants.ensures.elements _ _ (nets source top) source s child inside.number inside.above
    (here-own (nets source top) source child c.args.next c.module_at-child.result.now.table c.inner_row-inner.result.now (here-is _ _ _ _ _ _ _ _ c.module_at-child.result.now c.bits-width.result c.inner_row-inner.result.now at (prepared-is _ _ _ _ _ _ _ _ c.placed_at-placed.result c.module_at-child.result.now at c.placed_at-placed.ensures c.module_at-child.ensures) c.bits-width.ensures c.inner_row-inner.ensures))
    (outside-is _ _ _ _ _ _ _ _ c.module_at-child.result.now c.bits-width.result c.outer_row-outer.result.now at (prepared-is _ _ _ _ _ _ _ _ c.placed_at-placed.result c.module_at-child.result.now at c.placed_at-placed.ensures c.module_at-child.ensures) c.bits-width.ensures c.outer_row-outer.ensures)
    (one-is _ _ _ _ _ _ _ _ c.placed_at-placed.result at c.placed_at-placed.ensures) inside.once
    (constants-are s child c.args.scope c.args.table.now c.args.text.now c.module_at-child.result.now c.deref.result.now c.in_ok-constants.constants.items c.deref-2.result.now inside (prepared-is _ _ _ _ _ _ _ _ c.placed_at-placed.result c.module_at-child.result.now at c.placed_at-placed.ensures c.module_at-child.ensures) c.deref.ensures.value c.deref-2.ensures.value c.in_ok-constants.ensures.constants)
