-- It is no port, or is added from both ends.
use Rattle.std.proofs.Common.{sym, ◌∙◌}
use Rattle.specify_model.specs.PulseLimits.{is_port}
use Rattle.specify_values.proofs.Named.{not-added, added}
use Rattle.specify_values.proofs.port_names.add_port.Goals as goal

pub returns-then-not-is_port : goal.returns-then-not-is_port
returns-then-not-is_port c = not-added (is_port c.args.table.now c.args.name.now) c.args.name.now c.args.names.now (sym c.is_port.ensures ∙ c.if-not-is_port.true) c.requires

pub returns : goal.returns
returns c =
    added (is_port c.args.table.now c.args.name.now) c.args.name.now c.args.names.now (record { forwards = c.add.new.self; backwards = c.add-2.new.self })
    (sym c.is_port.ensures ∙ c.if-not-is_port.false) c.in_ok-add.ensures.tree c.in_ok-add-2.ensures.tree c.in_ok-add.ensures.names c.in_ok-add-2.ensures.names
