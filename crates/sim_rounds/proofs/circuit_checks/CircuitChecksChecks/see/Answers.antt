use Rattle.std.specs.Prelude.{List, false, drop, length, map, replicate}
use Rattle.std.specs.Vec.{with_items}
use Rattle.std.proofs.Common.{◌≡◌, ◌≤◌, ◌∙◌, ap, sym, subst, arith}
use Rattle.std.proofs.lemmas.List.{with_items_is}
use Rattle.std.proofs.lemmas.Result.{on_ok_weaker}
use Rattle.sg_model.specs.Machine as model
use Rattle.sg_model.specs.Time.{toggles as toggles_of}
use Rattle.fan_round.specs.declared.work.WorkList.{WorkList}
use Rattle.fan_round.specs.States.{IsIdle}
use Rattle.fan_round.specs.Work.{AreMarked}
use Rattle.time_checks.specs.declared.violations.Violation.{Violation}
use Rattle.time_checks.specs.Checking.{Kept, Sees}
use Rattle.time_checks.specs.Seen.{violation_seen}
use Rattle.time_checks.proofs.TouchLaws.{listed-within}
use Rattle.sim_machine.specs.Notifiers.{notifiers_of}
use Rattle.sim_rounds.proofs.CircuitChecksLaws.{checks_over, found_behind, latest_still, notifiers_still, violated_still}
use Rattle.sim_rounds.proofs.SeenLaws.{seen_by}
use Rattle.sim_times.proofs.SimulationLaws.{begun_still}
use Rattle.sim_rounds.proofs.circuit_checks.CircuitChecksChecks.see.Goals as goal

pub see-requires-clause-as_many : goal.see-requires-clause-as_many
see-requires-clause-as_many c = sym c.requires.over.last

pub see-requires-clause-nets : goal.see-requires-clause-nets
see-requires-clause-nets c =
    listed-within c.args.self.now.touched.marks.items c.args.self.now.touched.list.items c.deref.result.now (length c.args.values.now) c.requires.over.listed.marked c.requires.over.listed.marks c.deref.ensures.value

pub clear_work-requires : goal.clear_work-requires
clear_work-requires c = subst (λ ms. AreMarked ms c.args.self.now.touched.list.items) (sym c.deref_mut.ensures.value) c.requires.over.listed.marked

pub added-found-requires : goal.added-found-requires
added-found-requires c =
    let old : List Violation = c.args.violations.now.items in
    let new : List Violation = c.see.new.violations.items in
    let more : length old ≤ length new = begun_still old new c.see.ensures.kept in
    let before : c.len-before.result ≡ length old = c.len-before.ensures ∙ c.args.violations.now.ok.0 in
    let same : length c.deref-2.result.now ≡ length new = ap length c.deref-2.ensures.value in
    omega arith

pub returns-in_err-see-clause-violated : goal.returns-in_err-see-clause-violated
returns-in_err-see-clause-violated c = violated_still c.args.self.now.checker c.see.new.self c.see.ensures.checks c.see.ensures.earlier

pub returns-in_err-see-clause-latest : goal.returns-in_err-see-clause-latest
returns-in_err-see-clause-latest c = latest_still c.args.self.now.checker c.see.new.self c.see.ensures.checks c.see.ensures.earlier

pub returns-in_err-see-clause-notifiers : goal.returns-in_err-see-clause-notifiers
returns-in_err-see-clause-notifiers c = notifiers_still c.args.self.now.checks.now c.args.self.now.checker c.see.new.self c.see.ensures.nets

pub returns-clause-violated : goal.returns-clause-violated
returns-clause-violated c = violated_still c.args.self.now.checker c.see.new.self c.see.ensures.checks c.see.ensures.earlier

pub returns-clause-latest : goal.returns-clause-latest
returns-clause-latest c = latest_still c.args.self.now.checker c.see.new.self c.see.ensures.checks c.see.ensures.earlier

pub returns-clause-notifiers : goal.returns-clause-notifiers
returns-clause-notifiers c = notifiers_still c.args.self.now.checks.now c.args.self.now.checker c.see.new.self c.see.ensures.nets

pub returns-clause-over : goal.returns-clause-over
returns-clause-over c =
    let s = c.args.self.now in
    let n = length c.args.values.now in
    let touched : WorkList = record { marks = with_items s.touched.marks c.clear_work.new.marks; list = c.clear_work.new.work } in
    let many : length c.deref_mut.result.now ≡ n = ap length c.deref_mut.ensures.value ∙ c.requires.over.listed.marks in
    let idle : IsIdle touched n = record {
      marks = with_items_is s.touched.marks c.clear_work.new.marks (c.clear_work.auto.marks ∙ c.deref_mut.ensures.len) ∙ (c.clear_work.ensures.marks ∙ ap (λ m. replicate m false) many);
      list = c.clear_work.ensures.work;
      room = omega (arith, c.requires.over.listed.room, c.clear_work.ensures.capacity);
    } in
    on_ok_weaker c.toggle_notifiers.result (λ handed. checks_over s.checks.now s.checker c.see.new.self s.touched touched s.named c.toggle_notifiers.new.named n c.requires.over c.see.ensures.checks c.see.ensures.nets idle c.toggle_notifiers.ensures.idle) c.toggle_notifiers.ensures.toggles

pub returns-clause-seen : goal.returns-clause-seen
returns-clause-seen c =
    let s = c.args.self.now in
    let kept : Kept = s.checker in
    let values = c.args.values.now in
    let old : List Violation = c.args.violations.now.items in
    let new : List Violation = c.see.new.violations.items in
    let part : List Violation = c.added-found.result.now in
    let seen : List Violation → List model.Violation = λ vs. map (λ v. violation_seen v) vs in
    let touched : WorkList = record { marks = with_items s.touched.marks c.clear_work.new.marks; list = c.clear_work.new.work } in
    let before : c.len-before.result ≡ length old = c.len-before.ensures ∙ c.args.violations.now.ok.0 in
    let sees : Sees kept c.see.new.self c.args.now s.touched.list.items values (seen old) (seen new) = subst (λ ks. Sees kept c.see.new.self c.args.now ks values (seen old) (seen new)) c.deref.ensures.value c.in_ok-see.ensures.seen in
    let behind : part ≡ drop (length old) new = c.added-found.ensures ∙ (ap (λ vs. drop c.len-before.result vs) c.deref-2.ensures.value ∙ ap (λ k. drop k new) before) in
    let is : seen part ≡ sees.found = ap seen behind ∙ found_behind (λ v. violation_seen v) old new sees.found sees.added in
    on_ok_weaker c.toggle_notifiers.result
    (λ handed. seen_by (λ vs. notifiers_of s.checks.now (length kept.last) vs) kept c.see.new.self s.touched touched c.args.now values old new part c.toggle_notifiers.new.toggles.items c.see.ensures.earlier sees is
    (handed ∙ ap (λ k. toggles_of (notifiers_of s.checks.now k (seen part)) values) (sym c.requires.over.last)))
    c.toggle_notifiers.ensures.toggles
