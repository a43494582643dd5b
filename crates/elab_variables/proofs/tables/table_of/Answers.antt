-- The lists are the module's, and so the rows are.
use Rattle.std.proofs.Common.{ap, ◌∙◌, map}
use Rattle.vl_tree.specs.Seen.{view_module, view_port_declaration}
use Rattle.elab_declared.specs.Words.{view_net}
use Rattle.elab_variables.proofs.MadeTable.{Are, are-distinct, are-narrow, is-table, are-variables}
use Rattle.elab_variables.proofs.tables.table_of.Goals as goal

pub rows_of-requires-clause-distinct : goal.rows_of-requires-clause-distinct
rows_of-requires-clause-distinct c =
    let m = view_module c.args.definition.now in
    let are : Are m c.in_ok-names.names.keys c.deref-2.result.now c.deref-3.result.now =
    record {
      faultless = c.requires;
      named = c.in_ok-names.ensures;
      as_ports = ap (map view_port_declaration) c.deref-2.ensures.value ∙ c.in_ok-ports.ensures;
      as_nets = ap (map view_net)
          c.deref-3.ensures.value ∙ c.in_ok-nets.ensures;
    } in
    are-distinct m c.in_ok-names.names.keys c.deref-2.result.now c.deref-3.result.now are

pub rows_of-requires-clause-wide : goal.rows_of-requires-clause-wide
rows_of-requires-clause-wide c =
    let m = view_module c.args.definition.now in
    let are : Are m c.in_ok-names.names.keys c.deref-2.result.now c.deref-3.result.now =
    record {
      faultless = c.requires;
      named = c.in_ok-names.ensures;
      as_ports = ap (map view_port_declaration) c.deref-2.ensures.value ∙ c.in_ok-ports.ensures;
      as_nets = ap (map view_net)
          c.deref-3.ensures.value ∙ c.in_ok-nets.ensures;
    } in
    are-narrow m c.in_ok-names.names.keys c.deref-2.result.now c.deref-3.result.now are

pub invariant_of-result : goal.invariant_of-result
invariant_of-result c =
    let m = view_module c.args.definition.now in
    let are : Are m c.in_ok-names.names.keys c.deref-2.result.now c.deref-3.result.now =
    record {
      faultless = c.requires;
      named = c.in_ok-names.ensures;
      as_ports = ap (map view_port_declaration) c.deref-2.ensures.value ∙ c.in_ok-ports.ensures;
      as_nets = ap (map view_net)
          c.deref-3.ensures.value ∙ c.in_ok-nets.ensures;
    } in
    is-table m c.in_ok-names.names.keys c.deref-2.result.now c.deref-3.result.now are c.in_ok-rows.rows.items c.in_ok-rows.bits c.in_ok-rows.ensures.rows c.in_ok-rows.ensures.count

pub returns : goal.returns
returns c =
    let m = view_module c.args.definition.now in
    let are : Are m c.in_ok-names.names.keys c.deref-2.result.now c.deref-3.result.now =
    record {
      faultless = c.requires;
      named = c.in_ok-names.ensures;
      as_ports = ap (map view_port_declaration) c.deref-2.ensures.value ∙ c.in_ok-ports.ensures;
      as_nets = ap (map view_net)
          c.deref-3.ensures.value ∙ c.in_ok-nets.ensures;
    } in
    are-variables m c.in_ok-names.names.keys c.deref-2.result.now c.deref-3.result.now are c.in_ok-rows.rows.items c.in_ok-rows.ensures.rows
