-- The first value that has a fault is refused.
use Rattle.std.proofs.Common.{List, Option, flat_map, option_map}
use Rattle.std.specs.List.{zip}
use Rattle.std.proofs.lemmas.Result.{err_from_is_err_and}
use Rattle.vl_tree.specs.declared.expressions.Expression as code
use Rattle.vl_tree.specs.declared.names.Name as code_name
use Rattle.vl_tree.specs.Seen.{view_expression, view_name}
use Rattle.elab_model.specs.Faults.{Fault}
use Rattle.elab_modules.specs.Connecting.{connected_faults}
use Rattle.elab_modules.proofs.InTurn.{exit, this-pair_refused, next-pair_faultless, no-pair_left}
use Rattle.elab_modules.proofs.connections.check_ordered.Goals as goal

pub returns-in_err-check_port : goal.returns-in_err-check_port
returns-in_err-check_port c = λ m is h.
    let f : code_name.Name × Option code.Expression → List Fault = λ x. connected_faults c.args.table.now m (view_name x.0) (option_map view_expression x.1) in
    exit c.from_residual.result (flat_map f (zip c.args.ports.now c.args.values.now)) c.in_err-check_port.field-0.0 (err_from_is_err_and c.from_residual.result c.from_residual.ensures.1)
    (this-pair_refused f c.args.ports.now c.args.values.now c.loop-place.place _ c.index-values-place.result c.in_err-check_port.field-0.0 c.loop-place-test.true c.requires c.index-values-place.is
    (c.loop-place.invariant m is h) (c.in_err-check_port.ensures m is h))

pub loop-place-preserved : goal.loop-place-preserved
loop-place-preserved c = λ m is h.
    next-pair_faultless (λ x. connected_faults c.args.table.now m (view_name x.0) (option_map view_expression x.1)) c.args.ports.now c.args.values.now c.loop-place.place _ c.index-values-place.result
    c.loop-place-test.true c.requires c.index-values-place.is (c.in_ok-check_port.ensures m is h) (c.loop-place.invariant m is h)

pub returns : goal.returns
returns c = λ m is h.
    no-pair_left (λ x. connected_faults c.args.table.now m (view_name x.0) (option_map view_expression x.1)) c.args.ports.now c.args.values.now c.loop-place.place c.loop-place-test.false
    (c.loop-place.invariant m is h)
