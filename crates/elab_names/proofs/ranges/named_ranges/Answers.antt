-- The ports of the head come first.
use Rattle.std.proofs.Common.{◌≡◌, ◌∙◌, ap, map, flat_map, ◌++◌}
use Rattle.vl_tree.specs.Seen.{view_module, view_port_declaration}
use Rattle.elab_model.specs.Ports.{ports_of_head}
use Rattle.elab_names.specs.GivenRanges.{given_by_item, port_given, view_range}
use Rattle.elab_names.proofs.ItemRanges.{module-given}
use Rattle.elab_names.proofs.ranges.named_ranges.Goals as goal

pub loop-item-init : goal.loop-item-init
loop-item-init c =
    let m = view_module c.args.definition.now in
    let e : map view_range c.in_ok-ranges.ranges.items ≡ map port_given (ports_of_head m.head) =
    c.in_ok-ranges.ensures ∙ ap (λ ps. map port_given (map view_port_declaration ps)) c.deref.ensures.value ∙ ap (map port_given) c.in_ok-ports.ensures in
    ap (λ xs. xs ++ flat_map given_by_item m.items) e ∙ module-given m
