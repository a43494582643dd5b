use Rattle.std.specs.Prelude.{reverse, slice_index_or}
use Rattle.std.proofs.Common.{sym, subst}
use Rattle.sg_logic.specs.declared.values.Value.TheVariants.{Zero}
use Rattle.sg_model.specs.Agenda.{list_at}
use Rattle.sg_model.specs.Pending.{IsAbove}
use Rattle.sim_rounds.specs.declared.moments.Pending.{Pending}
use Rattle.sim_rounds.proofs.RestoredLaws.{next_above}
use Rattle.sim_rounds.proofs.restoring.add_pending.Goals as goal

pub append-requires-clause-later : goal.append-requires-clause-later
append-requires-clause-later g c =
    let items = c.args.pending.now in
    let i = c.loop-transition.transition-index in
    let d : Pending = record { driver = 0; time = 0; value = Zero } in
    subst (λ ls. IsAbove (slice_index_or items i d).time (reverse (list_at ls (slice_index_or items i d).driver))) (sym c.reserve.ensures.lists)
    (next_above items i d (g.A.Agenda.lists c.args.agenda.now) (g.A.Agenda.lists c.loop-transition.agenda) c.loop-transition-test.true c.loop-transition.invariant (c.requires.drivers i d c.loop-transition-test.true) c.requires.rise)
