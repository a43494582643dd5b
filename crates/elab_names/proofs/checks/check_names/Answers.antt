-- Each check refuses one of the faults.
use Rattle.std.proofs.Common.{[], ◌∷◌, map, ap, ◌∙◌}
use Rattle.std.proofs.lemmas.Result.{err_from_is_err_and}
use Rattle.vl_tree.specs.Seen.{view_name, view_module}
use Rattle.elab_model.specs.declared.kinds.ElabKind.TheVariants.{UnknownName, BadTerminal}
use Rattle.elab_model.specs.Ports.{port_list}
use Rattle.elab_model.specs.NameFaults.{twice_in_list, two_directions, two_nets, two_instances, no_port, no_direction, declared_ports, declared_nets, instance_names, name_faults}
use Rattle.elab_declared.proofs.Refusals.{exit, one-of, once-of, missing-of}
use Rattle.elab_names.proofs.checks.check_names.Goals as goal

pub returns-in_err-check_once-clause-refused : goal.returns-in_err-check_once-clause-refused
returns-in_err-check_once-clause-refused c =
    let m = view_module c.args.definition.now in
    exit c.from_residual-in_err-check_once.result (name_faults m) c.in_err-check_once.field-0.0
    (err_from_is_err_and c.from_residual-in_err-check_once.result c.from_residual-in_err-check_once.ensures.1)
    (one-of [] (twice_in_list m) (two_directions m ∷ two_nets m ∷ two_instances m ∷ no_port m ∷ no_direction m ∷ []) c.in_err-check_once.field-0.0
    (once-of (map view_name c.deref.result.now) (port_list m) c.in_err-check_once.field-0.0 (ap (map view_name) c.deref.ensures.value ∙ c.in_ok-list.ensures) c.in_err-check_once.ensures.refused))

pub returns-in_err-check_once-2-clause-refused : goal.returns-in_err-check_once-2-clause-refused
returns-in_err-check_once-2-clause-refused c =
    let m = view_module c.args.definition.now in
    exit c.from_residual-in_err-check_once-2.result (name_faults m) c.in_err-check_once-2.field-0.0
    (err_from_is_err_and c.from_residual-in_err-check_once-2.result c.from_residual-in_err-check_once-2.ensures.1)
    (one-of (twice_in_list m ∷ []) (two_directions m) (two_nets m ∷ two_instances m ∷ no_port m ∷ no_direction m ∷ []) c.in_err-check_once-2.field-0.0
    (once-of (map view_name c.deref-2.result.now) (declared_ports m) c.in_err-check_once-2.field-0.0 (ap (map view_name) c.deref-2.ensures.value ∙ c.in_ok-ports.ensures) c.in_err-check_once-2.ensures.refused))

pub returns-in_err-check_once-3-clause-refused : goal.returns-in_err-check_once-3-clause-refused
returns-in_err-check_once-3-clause-refused c =
    let m = view_module c.args.definition.now in
    exit c.from_residual-in_err-check_once-3.result (name_faults m) c.in_err-check_once-3.field-0.0
    (err_from_is_err_and c.from_residual-in_err-check_once-3.result c.from_residual-in_err-check_once-3.ensures.1)
    (one-of (twice_in_list m ∷ two_directions m ∷ []) (two_nets m) (two_instances m ∷ no_port m ∷ no_direction m ∷ []) c.in_err-check_once-3.field-0.0
    (once-of (map view_name c.deref-3.result.now) (declared_nets m) c.in_err-check_once-3.field-0.0 (ap (map view_name) c.deref-3.ensures.value ∙ c.in_ok-nets.ensures) c.in_err-check_once-3.ensures.refused))

pub returns-in_err-check_once-4-clause-refused : goal.returns-in_err-check_once-4-clause-refused
returns-in_err-check_once-4-clause-refused c =
    let m = view_module c.args.definition.now in
    exit c.from_residual-in_err-check_once-4.result (name_faults m) c.in_err-check_once-4.field-0.0
    (err_from_is_err_and c.from_residual-in_err-check_once-4.result c.from_residual-in_err-check_once-4.ensures.1)
    (one-of (twice_in_list m ∷ two_directions m ∷ two_nets m ∷ []) (two_instances m) (no_port m ∷ no_direction m ∷ []) c.in_err-check_once-4.field-0.0
    (once-of (map view_name c.deref-4.result.now) (instance_names m) c.in_err-check_once-4.field-0.0 (ap (map view_name) c.deref-4.ensures.value ∙ c.in_ok-instances.ensures) c.in_err-check_once-4.ensures.refused))

pub returns-in_err-check_among-clause-refused : goal.returns-in_err-check_among-clause-refused
returns-in_err-check_among-clause-refused c =
    let m = view_module c.args.definition.now in
    exit c.from_residual-in_err-check_among.result (name_faults m) c.in_err-check_among.field-0.0
    (err_from_is_err_and c.from_residual-in_err-check_among.result c.from_residual-in_err-check_among.ensures.1)
    (one-of (twice_in_list m ∷ two_directions m ∷ two_nets m ∷ two_instances m ∷ []) (no_port m) (no_direction m ∷ []) c.in_err-check_among.field-0.0
    (missing-of UnknownName (map view_name c.deref-5.result.now) (declared_ports m) (map view_name c.deref-6.result.now) (port_list m) c.in_err-check_among.field-0.0 (ap (map view_name) c.deref-5.ensures.value ∙ c.in_ok-ports.ensures) (ap (map view_name) c.deref-6.ensures.value ∙ c.in_ok-list.ensures) c.in_err-check_among.ensures.refused))

pub returns-in_err-check_among-2-clause-refused : goal.returns-in_err-check_among-2-clause-refused
returns-in_err-check_among-2-clause-refused c =
    let m = view_module c.args.definition.now in
    exit c.from_residual-in_err-check_among-2.result (name_faults m) c.in_err-check_among-2.field-0.0
    (err_from_is_err_and c.from_residual-in_err-check_among-2.result c.from_residual-in_err-check_among-2.ensures.1)
    (one-of (twice_in_list m ∷ two_directions m ∷ two_nets m ∷ two_instances m ∷ no_port m ∷ []) (no_direction m) [] c.in_err-check_among-2.field-0.0
    (missing-of BadTerminal (map view_name c.deref-7.result.now) (port_list m) (map view_name c.deref-8.result.now) (declared_ports m) c.in_err-check_among-2.field-0.0 (ap (map view_name) c.deref-7.ensures.value ∙ c.in_ok-list.ensures) (ap (map view_name) c.deref-8.ensures.value ∙ c.in_ok-ports.ensures) c.in_err-check_among-2.ensures.refused))
