-- What is read of the instance is what stands there.
use Rattle.std.proofs.Common.{◌∙◌, sym, ap, arith, map}
use Rattle.std.proofs.lemmas.Result.{on_ok_weaker}
use Rattle.vl_tree.specs.Seen.{view_name}
use Rattle.elab_model.specs.Nets.{nets}
use Rattle.elab_laws.specs.Handing.{all_bits}
use Rattle.elab_elements.proofs.ReadHere.{within, ready-is, prepared-is, placed-is, end-is, inner-within, outer-within, here-is, outside-is, row-count, leaf-is, no-legs}
use Rattle.elab_elements.proofs.Putting.{if_err-weaker}
use Rattle.elab_elements.proofs.own_legs.add_own_legs.Goals as goal

pub placed_at-placed-requires : goal.placed_at-placed-requires
placed_at-placed-requires c = within _ _ _ _ _ _ _ _ c.requires.at.1.1.1.1

pub module_at-module-requires : goal.module_at-module-requires
module_at-module-requires c = ready-is _ _ _ _ _ _ _ _ c.placed_at-placed.result c.requires.at.1.1.1.1 c.placed_at-placed.ensures

pub is_leaf-requires : goal.is_leaf-requires
is_leaf-requires c = omega (arith, (end-is _ _ _ _ _ _ _ _ c.placed_at-placed.result c.requires.at.1.1.1.1 c.placed_at-placed.ensures).0)

pub inner_row-inner-requires : goal.inner_row-inner-requires
inner_row-inner-requires c = inner-within _ _ _ _ _ _ _ _ c.module_at-module.result.now c.bits-width.result c.requires.at.1.1.1.1 (prepared-is _ _ _ _ _ _ _ _ c.placed_at-placed.result c.module_at-module.result.now c.requires.at.1.1.1.1 c.placed_at-placed.ensures c.module_at-module.ensures) c.bits-width.ensures

pub outer_row-outer-requires : goal.outer_row-outer-requires
outer_row-outer-requires c = outer-within _ _ _ _ _ _ _ _ c.module_at-module.result.now c.bits-width.result c.requires.at.1.1.1.1 (prepared-is _ _ _ _ _ _ _ _ c.placed_at-placed.result c.module_at-module.result.now c.requires.at.1.1.1.1 c.placed_at-placed.ensures c.module_at-module.ensures) c.bits-width.ensures

pub add_legs-requires-clause-inner : goal.add_legs-requires-clause-inner
add_legs-requires-clause-inner c = row-count _ c.inner_row-inner.result.now (all_bits c.module_at-module.result.now.table) (here-is _ _ _ _ _ _ _ _ c.module_at-module.result.now c.bits-width.result c.inner_row-inner.result.now c.requires.at.1.1.1.1 (prepared-is _ _ _ _ _ _ _ _ c.placed_at-placed.result c.module_at-module.result.now c.requires.at.1.1.1.1 c.placed_at-placed.ensures c.module_at-module.ensures) c.bits-width.ensures c.inner_row-inner.ensures).numbers.numbers

pub add_legs-requires-clause-outer : goal.add_legs-requires-clause-outer
add_legs-requires-clause-outer c = row-count _ c.outer_row-outer.result.now (all_bits c.module_at-module.result.now.table) (outside-is _ _ _ _ _ _ _ _ c.module_at-module.result.now c.bits-width.result c.outer_row-outer.result.now c.requires.at.1.1.1.1 (prepared-is _ _ _ _ _ _ _ _ c.placed_at-placed.result c.module_at-module.result.now c.requires.at.1.1.1.1 c.placed_at-placed.ensures c.module_at-module.ensures) c.bits-width.ensures c.outer_row-outer.ensures).numbers

pub returns-then-not-is_leaf-clause-legs : goal.returns-then-not-is_leaf-clause-legs
returns-then-not-is_leaf-clause-legs c = λ source top corner s at. no-legs _ _ (nets source top) source s c.args.made.now (leaf-is _ _ _ _ _ _ _ _ c.placed_at-placed.result at c.placed_at-placed.ensures ∙ sym c.if-not-is_leaf.ensures)

pub returns-clause-legs : goal.returns-clause-legs
returns-clause-legs c =
    on_ok_weaker c.add_legs.result
    (λ added. λ source top corner s at. added _ _ (nets source top) source s (here-is _ _ _ _ _ _ _ _ c.module_at-module.result.now c.bits-width.result c.inner_row-inner.result.now at (prepared-is _ _ _ _ _ _ _ _ c.placed_at-placed.result c.module_at-module.result.now at c.placed_at-placed.ensures c.module_at-module.ensures) c.bits-width.ensures c.inner_row-inner.ensures)
    (outside-is _ _ _ _ _ _ _ _ c.module_at-module.result.now c.bits-width.result c.outer_row-outer.result.now at (prepared-is _ _ _ _ _ _ _ _ c.placed_at-placed.result c.module_at-module.result.now at c.placed_at-placed.ensures c.module_at-module.ensures) c.bits-width.ensures c.outer_row-outer.ensures)
    (c.place_of-place.ensures source s (placed-is _ _ _ _ _ _ _ _ c.placed_at-placed.result at c.placed_at-placed.ensures) (prepared-is _ _ _ _ _ _ _ _ c.placed_at-placed.result c.module_at-module.result.now at c.placed_at-placed.ensures c.module_at-module.ensures))
    (leaf-is _ _ _ _ _ _ _ _ c.placed_at-placed.result at c.placed_at-placed.ensures ∙ sym c.if-not-is_leaf.ensures)
    (ap (map view_name) c.deref.ensures.value ∙ (prepared-is _ _ _ _ _ _ _ _ c.placed_at-placed.result c.module_at-module.result.now at c.placed_at-placed.ensures c.module_at-module.ensures).ports)
    (prepared-is _ _ _ _ _ _ _ _ c.placed_at-placed.result c.module_at-module.result.now at c.placed_at-placed.ensures c.module_at-module.ensures).declared)
    c.add_legs.ensures.legs

pub returns-clause-refused : goal.returns-clause-refused
returns-clause-refused c =
    if_err-weaker c.add_legs.result _ _
    (λ r refused. λ source top corner s at. refused (nets source top) source s (here-is _ _ _ _ _ _ _ _ c.module_at-module.result.now c.bits-width.result c.inner_row-inner.result.now at (prepared-is _ _ _ _ _ _ _ _ c.placed_at-placed.result c.module_at-module.result.now at c.placed_at-placed.ensures c.module_at-module.ensures) c.bits-width.ensures c.inner_row-inner.ensures)
    (outside-is _ _ _ _ _ _ _ _ c.module_at-module.result.now c.bits-width.result c.outer_row-outer.result.now at (prepared-is _ _ _ _ _ _ _ _ c.placed_at-placed.result c.module_at-module.result.now at c.placed_at-placed.ensures c.module_at-module.ensures) c.bits-width.ensures c.outer_row-outer.ensures)
    (c.place_of-place.ensures source s (placed-is _ _ _ _ _ _ _ _ c.placed_at-placed.result at c.placed_at-placed.ensures) (prepared-is _ _ _ _ _ _ _ _ c.placed_at-placed.result c.module_at-module.result.now at c.placed_at-placed.ensures c.module_at-module.ensures))
    (leaf-is _ _ _ _ _ _ _ _ c.placed_at-placed.result at c.placed_at-placed.ensures ∙ sym c.if-not-is_leaf.ensures)
    (ap (map view_name) c.deref.ensures.value ∙ (prepared-is _ _ _ _ _ _ _ _ c.placed_at-placed.result c.module_at-module.result.now at c.placed_at-placed.ensures c.module_at-module.ensures).ports)
    (prepared-is _ _ _ _ _ _ _ _ c.placed_at-placed.result c.module_at-module.result.now at c.placed_at-placed.ensures c.module_at-module.ensures).declared)
    c.add_legs.ensures.refused
