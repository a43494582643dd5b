-- The row and the nets, for an instance that has children and for a leaf.
use Rattle.std.proofs.Common.{◌≡◌, ℕ, ◌+◌, ◌-◌, ◌++◌, ◌∙◌, List, Option, ap, drop, length, rules, subst, take, length-append}
use Rattle.std.proofs.lemmas.Result.{on_ok_weaker, IfErr-weaker}
use Rattle.vl_tree.specs.Tree.{Source}
use Rattle.elab_laws.specs.Handing.{all_bits}
use Rattle.elab_model.specs.Hierarchy.{Instance}
use Rattle.elab_model.specs.Nets.{OwnNet}
use Rattle.elab_numbering.specs.Refusals.{RefusesCount}
use Rattle.elab_nets.specs.Outside.{IsChild}
use Rattle.elab_nets.proofs.InputPlaces.{IsLeafIn}
use Rattle.elab_nets.proofs.OuterNumbers.{bound_row}
use Rattle.elab_nets.proofs.OutsideNets.{input_places}
use Rattle.elab_nets.proofs.Texts.{has-bound, is-leaf_in}
use Rattle.elab_nets.proofs.LentRows.{tail-is, tail-put}
use Rattle.elab_nets.proofs.MadePlaces.{places-made, places-within}
use Rattle.elab_nets.proofs.OutsideClauses.{row-added, row-length, added-length, inner-outer, inner-nets, leaf-outer, leaf-added, leaf-count}
use Rattle.elab_nets.proofs.outside.add_outside.Goals as goal
use Rattle.elab_nets.proofs.outside.add_outside.Goals.{After-deref_mut}

-- ---- an instance that has children

pub returns-then-not-leaf-clause-count : goal.returns-then-not-leaf-clause-count
returns-then-not-leaf-clause-count c =
    let n = length (all_bits c.args.child.now.table) in
    let bits = c.in_ok-bits.bits.items in
    let old = c.args.outer.now.items in
    added-length c.args.row.now bits n old c.add_numbers.new.outer.items
    (row-added c.args.row.now bits c.deref-2.result.now n c.bits.result old c.add_numbers.new.outer.items c.in_ok-add_numbers.ensures c.bits.ensures c.deref-2.ensures.value)

pub returns-then-not-leaf-clause-outer : goal.returns-then-not-leaf-clause-outer
returns-then-not-leaf-clause-outer c = λ all source s x k.
    let n = length (all_bits c.args.child.now.table) in
    let bits = c.in_ok-bits.bits.items in
    let old = c.args.outer.now.items in
    let next = length c.args.nets.now.items in
    let bound = has-bound all source s x c.args.parent.now c.args.row.now c.args.child.now c.args.text.now c.args.leaf c.args.scope next k
    c.deref.result.now bits c.deref.ensures.value c.in_ok-bits.ensures.bound c.in_ok-bits.ensures.row in
    row-added c.args.row.now bits c.deref-2.result.now n c.bits.result old c.add_numbers.new.outer.items c.in_ok-add_numbers.ensures c.bits.ensures c.deref-2.ensures.value
    ∙ ap (λ r. old ++ r) (inner-outer all source s x c.args.parent.now c.args.row.now c.args.child.now c.args.text.now c.args.leaf c.args.scope next k (search rules) bits bound)

pub returns-then-not-leaf-clause-nets : goal.returns-then-not-leaf-clause-nets
returns-then-not-leaf-clause-nets c = λ all source s x k.
    inner-nets all source s x c.args.parent.now c.args.row.now c.args.child.now c.args.text.now c.args.leaf c.args.scope (length c.args.nets.now.items) k (search rules) c.args.nets.now.items

-- ---- a leaf

abbrev row_of : After-deref_mut → List (Option ℕ)
row_of c = bound_row c.args.row.now c.in_ok-bits.bits.items (length (all_bits c.args.child.now.table))

-- the row that was added
row-there : (c : After-deref_mut) → c.add_numbers.new.outer.items ≡ c.args.outer.now.items ++ row_of c
row-there c =
    row-added c.args.row.now c.in_ok-bits.bits.items c.deref-2.result.now (length (all_bits c.args.child.now.table)) c.bits.result c.args.outer.now.items c.add_numbers.new.outer.items
    c.in_ok-add_numbers.ensures c.bits.ensures c.deref-2.ensures.value

row-lent : (c : After-deref_mut) → take (length c.deref_mut.result.now - c.len-first.result) (drop c.len-first.result c.deref_mut.result.now) ≡ row_of c
row-lent c = tail-is c.args.outer.now.items (row_of c) c.add_numbers.new.outer.items c.deref_mut.result.now c.len-first.result (row-there c) c.deref_mut.ensures.value (search rules)

-- the places of its new nets
places-there : (c : After-deref_mut) → c.deref-6.result.now ≡ input_places c.args.child.now.table c.in_ok-bits.bits.items c.in_ok-constants.constants.items
places-there c =
    c.deref-6.ensures.value
    ∙ places-made c.args.child.now.table c.in_ok-bits.bits.items c.deref-3.result.now c.in_ok-constants.constants.items c.deref-5.result.now c.new-places.result.items c.add_free.new.places.items
    c.add_constants.new.places.items c.new-places.ensures.items c.in_ok-add_free.ensures c.deref-3.ensures.value c.in_ok-add_constants.ensures c.deref-5.ensures.value

in-leaf : (c : After-deref_mut) (all : List OwnNet) (source : Source) (s x : Instance)
    → IsChild all source s x c.args.parent.now c.args.row.now c.args.child.now c.args.text.now c.args.leaf c.args.scope (length c.args.nets.now.items)
    → IsLeafIn source s x c.in_ok-bits.bits.items c.in_ok-constants.constants.items
in-leaf c all source s x k =
    let bits = c.in_ok-bits.bits.items in
    let next = length c.args.nets.now.items in
    is-leaf_in all source s x c.args.parent.now c.args.row.now c.args.child.now c.args.text.now c.args.leaf c.args.scope next k (search rules) c.deref-4.result.now bits c.in_ok-constants.constants.items
    c.deref-4.ensures.value
    (has-bound all source s x c.args.parent.now c.args.row.now c.args.child.now c.args.text.now c.args.leaf c.args.scope next k c.deref.result.now bits c.deref.ensures.value c.in_ok-bits.ensures.bound
    c.in_ok-bits.ensures.row)
    c.in_ok-constants.ensures.constants c.in_ok-constants.ensures.row

pub add_bit_nets-requires-clause-within : goal.add_bit_nets-requires-clause-within
add_bit_nets-requires-clause-within c =
    places-within c.args.child.now.table c.in_ok-bits.bits.items c.in_ok-constants.constants.items c.deref-6.result.now (places-there (goal.at.add_bit_nets-requires-clause-within c).After-deref_mut)
    c.in_ok-constants.ensures.row

pub add_bit_nets-requires-clause-row : goal.add_bit_nets-requires-clause-row
add_bit_nets-requires-clause-row c =
    ap length (row-lent (goal.at.add_bit_nets-requires-clause-row c).After-deref_mut) ∙ row-length c.args.row.now c.in_ok-bits.bits.items (length (all_bits c.args.child.now.table))

pub returns-clause-count : goal.returns-clause-count
returns-clause-count c =
    let h = (goal.at.returns-clause-count c).After-deref_mut in
    let old = c.args.outer.now.items in
    let new = c.add_bit_nets.new.row in
    let wide : length new ≡ length (row_of h) = c.add_bit_nets.auto.row ∙ ap length (row-lent h) in
    on_ok_weaker c.add_bit_nets.result
    (λ written. ap length
    (tail-put old (row_of h) new c.add_numbers.new.outer.items c.deref_mut.result.now c.len-first.result c.add_numbers.new.outer.len (row-there h) c.deref_mut.ensures.value (search rules) (search rules) wide)
    ∙ length-append old new ∙ ap (λ k. length old + k) (wide ∙ row-length c.args.row.now c.in_ok-bits.bits.items (length (all_bits c.args.child.now.table))))
    c.add_bit_nets.ensures.row

pub returns-clause-outer : goal.returns-clause-outer
returns-clause-outer c =
    let h = (goal.at.returns-clause-outer c).After-deref_mut in
    let old = c.args.outer.now.items in
    let whole = c.deref_mut.result.now in
    let first = c.len-first.result in
    let new = c.add_bit_nets.new.row in
    let wide : length new ≡ length (row_of h) = c.add_bit_nets.auto.row ∙ ap length (row-lent h) in
    on_ok_weaker c.add_bit_nets.result
    (λ written all source s x k.
    tail-put old (row_of h) new c.add_numbers.new.outer.items whole first c.add_numbers.new.outer.len (row-there h) c.deref_mut.ensures.value (search rules) (search rules) wide
    ∙ ap (λ r. old ++ r)
    (leaf-outer all source s x c.args.parent.now c.args.row.now c.args.child.now c.args.text.now c.args.leaf c.args.scope (length c.args.nets.now.items) k c.in_ok-bits.bits.items
    c.in_ok-constants.constants.items (in-leaf h all source s x k) c.deref-6.result.now (take (length whole - first) (drop first whole)) new (places-there h) (row-lent h) written))
    c.add_bit_nets.ensures.row

pub returns-clause-nets : goal.returns-clause-nets
returns-clause-nets c =
    let h = (goal.at.returns-clause-nets c).After-deref_mut in
    on_ok_weaker c.add_bit_nets.result
    (λ more all source s x k. more
    ∙ ap (λ os. c.args.nets.now.items ++ os)
    (leaf-added all source s x c.args.parent.now c.args.row.now c.args.child.now c.args.text.now c.args.leaf c.args.scope (length c.args.nets.now.items) k c.in_ok-bits.bits.items
    c.in_ok-constants.constants.items (in-leaf h all source s x k) c.deref-6.result.now (places-there h)))
    c.add_bit_nets.ensures.nets

pub returns-clause-refused : goal.returns-clause-refused
returns-clause-refused c =
    let h = (goal.at.returns-clause-refused c).After-deref_mut in
    let next = length c.args.nets.now.items in
    IfErr-weaker c.add_bit_nets.result (RefusesCount (next + length c.deref-6.result.now)) _
    (λ refused many all source s x k.
    subst (λ count. RefusesCount (next + count) refused)
    (leaf-count all source s x c.args.parent.now c.args.row.now c.args.child.now c.args.text.now c.args.leaf c.args.scope next k c.in_ok-bits.bits.items c.in_ok-constants.constants.items
    (in-leaf h all source s x k) c.deref-6.result.now (places-there h))
    many)
    c.add_bit_nets.ensures.refused
