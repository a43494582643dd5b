use Rattle.std.proofs.Common.{◌∙◌, sym}
use Rattle.sg_logic.specs.declared.values.Value.TheVariants.{Zero}
use Rattle.sim_rounds.specs.declared.moments.Pending as code_pending
use Rattle.sim_rounds.proofs.PendingLaws.{turn_reached, not_later, not_other, all_ordered, all_last}
use Rattle.sim_rounds.proofs.settling.follow.Goals as goal

abbrev blank : code_pending.Pending
blank = record { driver = 0; time = 0; value = Zero }

pub loop-next-preserved : goal.loop-next-preserved
loop-next-preserved c =
    let i = c.loop-next.next-index in
    turn_reached c.args.pending.now i blank c.args.times.now c.args.values.now c.loop-next.times c.loop-next.values Zero c.loop-next-test.true c.loop-next.invariant (c.requires.drivers i blank c.loop-next-test.true)
    (c.loop-next.auto.times ∙ c.requires.times) c.loop-next.auto.values c.if-next-times.false (sym c.eq.ensures ∙ c.if-eq.false)

pub returns-then-next-times-clause-ordered : goal.returns-then-next-times-clause-ordered
returns-then-next-times-clause-ordered c =
    let i = c.loop-next.next-index in
    not_later c.args.pending.now i blank c.args.times.now c.args.values.now c.loop-next.times c.loop-next.values c.loop-next-test.true c.loop-next.invariant (c.requires.drivers i blank c.loop-next-test.true) c.if-next-times.true

pub returns-then-eq-clause-ordered : goal.returns-then-eq-clause-ordered
returns-then-eq-clause-ordered c =
    let i = c.loop-next.next-index in
    not_other c.args.pending.now i blank c.args.times.now c.args.values.now c.loop-next.times c.loop-next.values Zero c.loop-next-test.true c.loop-next.invariant (c.requires.drivers i blank c.loop-next-test.true)
    c.loop-next.auto.values (sym c.eq.ensures ∙ c.if-eq.true)

pub returns-clause-ordered : goal.returns-clause-ordered
returns-clause-ordered c = all_ordered c.args.pending.now c.loop-next.next-index c.args.times.now c.args.values.now c.loop-next.times c.loop-next.values c.loop-next-test.false c.loop-next.invariant

pub returns-clause-last : goal.returns-clause-last
returns-clause-last c = all_last c.args.pending.now c.loop-next.next-index c.args.times.now c.args.values.now c.loop-next.times c.loop-next.values c.loop-next-test.false c.loop-next.invariant
