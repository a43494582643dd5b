-- The Legs are those of the definition.
use Rattle.std.proofs.Common.{map, flat_map, length, ◌-◌}
use Rattle.std.specs.List.{range_with_len}
use Rattle.std.proofs.lemmas.Result.{on_ok_weaker}
use Rattle.vl_tree.specs.Seen.{view_name}
use Rattle.elab_model.specs.Elements.{legs}
use Rattle.elab_elements.specs.Words.{port_legs}
use Rattle.elab_elements.proofs.LegMeaning.{legs-mean, legs-within}
use Rattle.elab_elements.proofs.Meaning.{adds}
use Rattle.elab_elements.proofs.Putting.{if_err-weaker, refuses-count}
use Rattle.elab_elements.proofs.legs.add_legs.Goals as goal

pub returns-clause-legs : goal.returns-clause-legs
returns-clause-legs c =
    on_ok_weaker c.add_all_legs.result
    (λ puts. λ delays udps all source s here over at leaf ports declared. adds delays udps all c.args.made.now c.add_all_legs.new.made _ _
    (legs-mean delays udps all source s c.args.scope (map view_name c.args.ports.now) c.args.place c.args.table.now c.args.inner.now c.args.outer.now
    (record { here = here; over = over; at = at; ports_are = ports; declared = declared; leaf = leaf }))
    puts)
    c.add_all_legs.ensures.puts

pub returns-clause-refused : goal.returns-clause-refused
returns-clause-refused c =
    if_err-weaker c.add_all_legs.result _ _
    (λ r refused. λ all source s here over at leaf ports declared. refuses-count c.args.made.now
    (flat_map (port_legs c.args.scope (map view_name c.args.ports.now) c.args.place c.args.table.now c.args.inner.now c.args.outer.now) (range_with_len 0 (length c.args.table.now - 0))) (legs source s) r
    (legs-within all source s c.args.scope (map view_name c.args.ports.now) c.args.place c.args.table.now c.args.inner.now c.args.outer.now
    (record { here = here; over = over; at = at; ports_are = ports; declared = declared; leaf = leaf }))
    refused)
    c.add_all_legs.ensures.refused
