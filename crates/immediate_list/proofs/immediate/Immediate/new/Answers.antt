use Rattle.std.proofs.Common.{◌≤◌, arith}
use Rattle.std.specs.Vec.{vec_capacity}
use Rattle.immediate_list.proofs.ImmediateLaws.{fresh, fresh_lists}
use Rattle.immediate_list.proofs.immediate.Immediate.new.Goals as goal

pub invariant_of-result : goal.invariant_of-result
invariant_of-result g c =
    let room : c.args.drivers ≤ vec_capacity c.in_ok-drivers.drivers = omega (arith, c.in_ok-drivers.ensures.exact) in
    fresh c.args.drivers c.in_ok-standings.standings.items c.in_ok-drivers.drivers.items (vec_capacity c.in_ok-drivers.drivers) (g.A.Agenda.spare c.args.agenda) (g.A.Agenda.lists c.args.agenda)
    (c.in_ok-standings.ensures.items_if_clones_equal (λ y e. e)) c.in_ok-drivers.ensures.items room c.requires

pub returns : goal.returns
returns g c =
    let room : c.args.drivers ≤ vec_capacity c.in_ok-drivers.drivers = omega (arith, c.in_ok-drivers.ensures.exact) in
    fresh_lists 0 c.args.drivers c.in_ok-standings.standings.items c.in_ok-drivers.drivers.items (vec_capacity c.in_ok-drivers.drivers) (g.A.Agenda.spare c.args.agenda) (g.A.Agenda.lists c.args.agenda)
    (c.in_ok-standings.ensures.items_if_clones_equal (λ y e. e)) c.in_ok-drivers.ensures.items room c.requires
