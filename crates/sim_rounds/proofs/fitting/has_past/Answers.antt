use Rattle.std.proofs.Common.{◌∙◌, ap, arith, map, subst, sym}
use Rattle.std.proofs.lemmas.Bool.{false≢true, lt-leb}
use Rattle.sg_circuit.specs.Seen.{circuit_seen}
use Rattle.time_checks.specs.Falling.{AreBy}
use Rattle.sim_rounds.specs.Fitting.{HasPast}
use Rattle.sim_rounds.specs.MomentsSeen.{change_seen, moment_seen}
use Rattle.sim_rounds.proofs.FittingLaws.{are_by, past_by}
use Rattle.sim_rounds.proofs.VerdictLaws.{fails, refuted_at}
use Rattle.sim_rounds.proofs.fitting.has_past.Goals as goal
use Rattle.sim_rounds.proofs.fitting.has_past.Goals.{then-moment, else-moment}

pub returns-then-are_by : goal.returns-then-are_by
returns-then-are_by c =
    let m = c.args.moment.now in
    elim c.if-moment.branch [
      | then-moment w ↦
          past_by c.are_stamped.result (circuit_seen c.args.parts.now) (moment_seen m) c.deref-then-are_by.result.now c.deref-then-are_by-2.result.now c.deref-then-are_by-3.result.now c.deref-then-are_by.ensures.value c.deref-then-are_by-2.ensures.value (ap (map change_seen) c.deref-then-are_by-3.ensures.value)
          w.if-moment.true (subst (AreBy m.time) w.deref.ensures.value ((are_by w.are_by.result m.time w.deref.result.now w.are_by.ensures).0 (sym w.value-is ∙ c.if-are_by.true))) c.are_stamped.ensures
      | else-moment w ↦ absurd (false≢true (sym (lt-leb m.last m.time w.if-moment.false) ∙ (sym w.value-is ∙ c.if-are_by.true)))
    ]

pub returns-else-are_by : goal.returns-else-are_by
returns-else-are_by c =
    let m = c.args.moment.now in
    refuted_at c.if-moment.value (HasPast (circuit_seen c.args.parts.now) (moment_seen m)) c.if-are_by.false
    (λ past. elim c.if-moment.branch [
      | then-moment w ↦ fails w.are_by.result (AreBy m.time w.deref.result.now) (are_by w.are_by.result m.time w.deref.result.now w.are_by.ensures) (sym w.value-is ∙ c.if-are_by.false) (subst (AreBy m.time) (sym w.deref.ensures.value) past.latest)
      | else-moment w ↦ absurd (let l = past.last in omega (arith, l, w.if-moment.false))
    ])
