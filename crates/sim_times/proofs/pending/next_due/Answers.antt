use Rattle.std.specs.Prelude.{◌≡◌, ◌≤◌, true}
use Rattle.std.proofs.Common.{sym, subst, arith}
use Rattle.sg_model.specs.Round.{any_due}
use Rattle.sg_model.proofs.LeastLaws.{below_least, nothing_below-earlier}
use Rattle.sim_times.proofs.DueLaws.{some_due}
use Rattle.sim_times.proofs.pending.next_due.Goals as goal

pub returns-in-Some-clause-below : goal.returns-in-Some-clause-below
returns-in-Some-clause-below g c =
    let lists = g.A.Agenda.lists c.args.agenda.now in
    let l : c.min.result ≤ c.in-Some.time = omega (arith, c.min.ensures) in
    nothing_below-earlier c.min.result c.in-Some.time lists l (below_least lists c.in-Some.time c.requires.rise c.in-Some.ensures.some)

pub returns-in-Some-clause-due : goal.returns-in-Some-clause-due
returns-in-Some-clause-due g c =
    let lists = g.A.Agenda.lists c.args.agenda.now in
    let least = c.in-Some.ensures.some in
    λ l.
    (let is : c.min.result ≡ c.in-Some.time = omega (arith, l, c.min.ensures) in
    subst (λ t. any_due t lists ≡ true) (sym is) (some_due c.in-Some.time least.some.0 lists least.some.1 least.some.2))

pub returns-in-None-clause-due : goal.returns-in-None-clause-due
returns-in-None-clause-due g c = λ l. absurd (omega (arith, l))
