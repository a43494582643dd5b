-- What the connections leave of the empty row.
use Rattle.std.proofs.Common.{rules, sym, ap, ◌∙◌, length, map, option_map}
use Rattle.std.proofs.lemmas.List.{with_items_is}
use Rattle.vl_tree.specs.Seen.{view_name, view_connections}
use Rattle.elab_bits.specs.Seen.{view_bit}
use Rattle.elab_ports.proofs.Bindings.{row-is}
use Rattle.elab_ports.proofs.bound.bound_bits.Goals as goal

pub returns-clause-bound : goal.returns-clause-bound
returns-clause-bound c = λ m o k.
    let long = c.in_ok-bind_all.ensures.long ∙ ap length c.deref_mut.ensures.value ∙ sym c.in_ok-row.row.ok.0 in
    ap (map (option_map (view_bit c.args.parent.now))) (with_items_is c.in_ok-row.row c.bind_all.new.row long)
    ∙ row-is c.args.parent.now c.args.child.now m c.args.instance.now.place (view_connections c.args.instance.now.connections) (map view_name c.args.ports.now) c.bits.result
    c.deref_mut.result.now c.bind_all.new.row
    c.bits.ensures (c.deref_mut.ensures.value ∙ c.in_ok-row.ensures.items_if_clones_equal (λ y e. search (rules, e))) c.in_ok-bind_all.ensures o k
