use Rattle.std.specs.Prelude.{◌^◌, All, length, map, replicate, reverse}
use Rattle.std.proofs.Common.{◌≡◌, ◌<◌, [], ◌∙◌, sym, ap, subst}
use Rattle.std.proofs.lemmas.List.{length-replicate}
use Rattle.sg_circuit.specs.Circuit.{Circuit}
use Rattle.sg_circuit.specs.Seen.{circuit_seen, element_seen}
use Rattle.sg_model.specs.Agenda.{Rises}
use Rattle.fan_round.specs.States.{IsIdle}
use Rattle.sim_times.specs.Told.{IsTold}
use Rattle.sim_rounds.specs.declared.moments.Pending.{Pending}
use Rattle.sim_rounds.specs.Moments.{Moment, pending_of}
use Rattle.sim_rounds.specs.MomentsSeen.{moment_seen, pending_seen}
use Rattle.sim_rounds.proofs.RestoredLaws.{drivers_within, near_stamps, restored_lists, rise_each}
use Rattle.sim_rounds.proofs.SimLaws.{count_seen, outputs_seen}
use Rattle.sim_rounds.proofs.sim.Sim.resume.Goals as goal

pub new-requires : goal.new-requires
new-requires g c =
    let circuit : Circuit = c.args.circuit.now in
    let parts = c.parts-parts.result.now in
    let many : c.len-drivers.result ≡ length circuit.elements = c.len-drivers.ensures ∙ (parts.elements.ok.0 ∙ (sym (count_seen parts.elements.items (element_seen parts)) ∙ ap (λ x. length x.elements) c.parts-parts.ensures.seen)) in
    c.requires.agenda ∙ ap (λ n. replicate n []) (sym many)

pub add_pending-requires-clause-drivers : goal.add_pending-requires-clause-drivers
add_pending-requires-clause-drivers g c =
    let circuit : Circuit = c.args.circuit.now in
    let parts = c.parts-parts.result.now in
    let drivers : c.len-drivers.result ≡ length circuit.elements = c.len-drivers.ensures ∙ (parts.elements.ok.0 ∙ (sym (count_seen parts.elements.items (element_seen parts)) ∙ ap (λ x. length x.elements) c.parts-parts.ensures.seen)) in
    let n = length c.in_ok-agenda.agenda.0 in
    let many : n ≡ length circuit.elements = ap length c.in_ok-agenda.ensures ∙ (length-replicate c.len-drivers.result [] ∙ drivers) in
    subst (λ ps. All (λ (p : Pending). p.driver < n) ps) (sym c.deref.ensures.value) (drivers_within c.args.circuit.now c.args.moment.now n c.requires.fits many)

pub add_pending-requires-clause-rise : goal.add_pending-requires-clause-rise
add_pending-requires-clause-rise g c = λ e l.
    (let circuit : Circuit = c.args.circuit.now in
    let parts = c.parts-parts.result.now in
    let drivers : c.len-drivers.result ≡ length circuit.elements = c.len-drivers.ensures ∙ (parts.elements.ok.0 ∙ (sym (count_seen parts.elements.items (element_seen parts)) ∙ ap (λ x. length x.elements) c.parts-parts.ensures.seen)) in
    let many : length c.in_ok-agenda.agenda.0 ≡ length circuit.elements = ap length c.in_ok-agenda.ensures ∙ (length-replicate c.len-drivers.result [] ∙ drivers) in
    subst (λ ps. Rises (reverse (pending_of e (map (λ p. pending_seen p) ps)))) (sym c.deref.ensures.value)
    (rise_each c.args.circuit.now (moment_seen c.args.moment.now) e c.requires.fits (subst (λ n. e < n) many l)))

pub nets_of-requires-clause-near : goal.nets_of-requires-clause-near
nets_of-requires-clause-near g c = near_stamps c.args.circuit.now c.args.moment.now (2 ^ 60) c.requires.fits c.requires.near

pub invariant_of-result : goal.invariant_of-result
invariant_of-result g c =
    let circuit : Circuit = c.args.circuit.now in
    let m : Moment = moment_seen c.args.moment.now in
    let parts = c.parts-parts.result.now in
    let seen : circuit_seen parts ≡ circuit = c.parts-parts.ensures.seen in
    let many : c.len-drivers.result ≡ length circuit.elements = c.len-drivers.ensures ∙ (parts.elements.ok.0 ∙ (sym (count_seen parts.elements.items (element_seen parts)) ∙ ap (λ x. length x.elements) seen)) in
    let before = c.in_ok-agenda.agenda.0 in
    let elements : length before ≡ length circuit.elements = ap length c.in_ok-agenda.ensures ∙ (length-replicate c.len-drivers.result [] ∙ many) in
    let told : c.deref-2.result.now ≡ c.in_ok-nets.nets.values.items = c.deref-2.ensures.value ∙ sym c.in_ok-nets.ensures.values in
    record {
      fits = c.requires.fits;
      seen = c.in_ok-checks.ensures;
      at = record {
        circuit_of = ap (λ x. x.circuit) c.in_ok-elements.ensures;
        earlier_of = ap (λ x. x.earlier) c.in_ok-elements.ensures;
        states = ap (λ x. x.states) c.in_ok-elements.ensures;
        values = c.in_ok-nets.ensures.values;
        before = c.in_ok-nets.ensures.before;
        stamps = c.in_ok-nets.ensures.stamps;
        nets_are = c.in_ok-nets.ensures.nets;
        told = subst (λ vs. IsTold c.in_ok-told.told vs) told c.in_ok-told.ensures.told;
        values_told = c.in_ok-told.ensures.values ∙ told;
        idle = subst (IsIdle c.in_ok-work.work) many c.in_ok-work.ensures;
        lists = restored_lists circuit m before c.add_pending.new.agenda.0 elements c.in_ok-add_pending.ensures.many
            (λ e l. c.in_ok-add_pending.ensures.each e l ∙ ap (λ ps. pending_of e (map (λ p. pending_seen p) ps)) c.deref.ensures.value);
        fan_out = c.in_ok-fan.ensures.readers;
        each_net = c.in_ok-fan.ensures.nets;
        outputs = c.in_ok-outputs.ensures ∙ (ap (map (λ e. e.output)) c.deref-3.ensures.value ∙ (outputs_seen parts parts.elements.items ∙ ap (λ x. map (λ e. e.output) x.elements) seen));
      };
    }
