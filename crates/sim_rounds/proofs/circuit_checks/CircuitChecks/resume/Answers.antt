use Rattle.std.specs.Prelude.{map}
use Rattle.std.proofs.Common.{◌≡◌, [], ◌∷◌, ◌∙◌, sym, subst}
use Rattle.std.proofs.lemmas.Result.{IfOk-weaker}
use Rattle.time_checks.specs.Checking.{Kept, Sees, Stands}
use Rattle.time_checks.specs.Falling.{AreBy}
use Rattle.time_checks.specs.Seen.{violation_seen}
use Rattle.sim_rounds.specs.Engines.{AreChecksAt, AreChecksBy}
use Rattle.sim_rounds.specs.Moments.{Moment, snapshot_of}
use Rattle.sim_rounds.specs.MomentsSeen.{moment_seen}
use Rattle.sim_rounds.proofs.CircuitChecksLaws.{checks_at, first_seen}
use Rattle.sim_rounds.proofs.circuit_checks.CircuitChecks.resume.Goals as goal

pub returns : goal.returns
returns c =
    let circuit = c.args.circuit.now in
    let m : Moment = moment_seen c.args.moment.now in
    let first : Kept = c.in_ok-checker.checker in
    let seen : Kept = c.see.new.self in
    let known : first.earlier ≡ m.latest = c.in_ok-checker.ensures.earlier ∙ c.deref.ensures.value in
    let by : AreBy m.time first.earlier = subst (AreBy m.time) (sym known) c.requires.latest in
    let saw : Sees first seen m.time [] m.nets (map (λ v. violation_seen v) c.new-none.result.items) (map (λ v. violation_seen v) c.see.new.violations.items) =
    subst (λ vs. Sees first seen m.time [] vs (map (λ v. violation_seen v) c.new-none.result.items) (map (λ v. violation_seen v) c.see.new.violations.items)) c.deref-2.ensures.value c.in_ok-see.ensures.seen in
    let stands : Stands seen (snapshot_of m ∷ []) = first_seen first seen (snapshot_of m) (map (λ v. violation_seen v) c.new-none.result.items) (map (λ v. violation_seen v) c.see.new.violations.items) c.in_ok-checker.ensures.empty by saw in
    IfOk-weaker c.of_checker.result (λ k. AreChecksBy circuit seen k.checks.now k.checker k.touched k.named) (λ k. AreChecksAt circuit m.latest (snapshot_of m ∷ []) k.checks.now k.checker k.touched k.named)
    (λ k h. checks_at circuit m.latest (snapshot_of m ∷ []) k.checks.now k.checker seen k.touched k.named h (c.see.ensures.checks ∙ c.in_ok-checker.ensures.checks) (c.see.ensures.earlier ∙ known) (c.see.ensures.nets ∙ c.in_ok-checker.ensures.nets) stands) c.of_checker.ensures
