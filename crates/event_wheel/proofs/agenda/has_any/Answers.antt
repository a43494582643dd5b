-- A driver with a last node has a transition.
use Rattle.std.proofs.Common.{ap, ◌∙◌}
use Rattle.std.specs.Option.{is_some}
use Rattle.event_wheel.specs.declared.chains.Ends.{Ends}
use Rattle.event_wheel.proofs.AgendaLaws.{has_yes, has_no, driver_in}
use Rattle.event_wheel.proofs.WriteLaws.{read_ends}
use Rattle.event_wheel.proofs.agenda.has_any.Goals as goal

pub returns-clause-yes : goal.returns-clause-yes
returns-clause-yes c =
    let held = c.wheel.inside.chains.nodes in
    let B = c.wheel.inside.chains.buckets.items in
    let D = c.wheel.inside.chains.drivers.items in
    let within = driver_in held B D c.args.wheel.now c.args.driver c.wheel.view_is c.requires in
    has_yes held B D c.wheel.inside.chains.near.items c.args.wheel.now c.args.driver c.index.result.now.last c.is_some.result c.wheel.invariant.chained c.wheel.view_is c.requires
    (ap (λ (x : Ends). x.last) (read_ends D c.args.driver c.index.result.now within c.index.ensures)) (c.is_some.ensures ∙ ap is_some c.key.ensures)

pub returns-clause-no : goal.returns-clause-no
returns-clause-no c =
    let held = c.wheel.inside.chains.nodes in
    let B = c.wheel.inside.chains.buckets.items in
    let D = c.wheel.inside.chains.drivers.items in
    let within = driver_in held B D c.args.wheel.now c.args.driver c.wheel.view_is c.requires in
    has_no held B D c.wheel.inside.chains.near.items c.args.wheel.now c.args.driver c.index.result.now.last c.is_some.result c.wheel.invariant.chained c.wheel.view_is c.requires
    (ap (λ (x : Ends). x.last) (read_ends D c.args.driver c.index.result.now within c.index.ensures)) (c.is_some.ensures ∙ ap is_some c.key.ensures)
