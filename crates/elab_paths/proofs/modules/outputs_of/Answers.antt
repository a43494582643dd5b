-- The outputs of a module, or a fault of it.
use Rattle.std.proofs.lemmas.Result.{err_from_is_err_and}
use Rattle.vl_tree.specs.Seen.{view_module}
use Rattle.circuit_model.specs.Faults.{module_path_faults}
use Rattle.elab_elements.proofs.InTurn.{exit}
use Rattle.elab_paths.proofs.OwnPaths.{outputs-made, beside-refused, own-refused}
use Rattle.elab_paths.proofs.modules.outputs_of.Goals as goal

pub returns-in_err-check_block-clause-told : goal.returns-in_err-check_block-clause-told
returns-in_err-check_block-clause-told c = λ m p.
    exit c.from_residual.result (module_path_faults c.args.definitions.now c.args.corner c.args.tick.power m) c.in_err-check_block.field-0.0
    (err_from_is_err_and c.from_residual.result c.from_residual.ensures.1)
    (beside-refused c.args.definitions.now c.args.corner c.args.tick.power m c.in_err-check_block.field-0.0 (c.in_err-check_block.ensures m p))

pub returns-in_err-paths-clause-told : goal.returns-in_err-paths-clause-told
returns-in_err-paths-clause-told c = λ m p.
    exit c.from_residual-in_err-paths.result (module_path_faults c.args.definitions.now c.args.corner c.args.tick.power m) c.in_err-paths.field-0.0
    (err_from_is_err_and c.from_residual-in_err-paths.result c.from_residual-in_err-paths.ensures.1)
    (own-refused c.args.definitions.now c.args.corner c.args.tick.power (view_module c.args.prepared.now.definition.now) m c.args.prepared.now.table c.in_err-paths.field-0.0 p.definition p.table
    c.in_err-paths.ensures.told)

pub returns-clause-outputs : goal.returns-clause-outputs
returns-clause-outputs c = λ m p.
    outputs-made c.args.corner c.args.tick.power (view_module c.args.prepared.now.definition.now) m c.args.prepared.now.table c.in_ok-paths.paths c.shelve.new.shelves c.in_ok-shelve.field-0.items
    p.definition p.table c.in_ok-paths.ensures.outputs c.in_ok-shelve.ensures.outputs c.in_ok-paths.ensures.row c.in_ok-shelve.ensures.named
