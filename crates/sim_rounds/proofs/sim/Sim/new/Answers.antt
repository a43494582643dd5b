use Rattle.std.specs.Prelude.{◌≡◌, [], length, map, replicate}
use Rattle.std.proofs.Common.{◌∙◌, sym, ap, subst, refl}
use Rattle.sg_circuit.specs.Circuit.{Circuit}
use Rattle.sg_circuit.specs.Seen.{circuit_seen, element_seen}
use Rattle.sim_machine.specs.Simulated.{first_value_of}
use Rattle.fan_round.specs.Nets.{stamp_seen}
use Rattle.fan_round.specs.States.{IsIdle}
use Rattle.sim_times.specs.Told.{IsTold}
use Rattle.sim_machine.specs.Simulated.{first_state}
use Rattle.sim_rounds.proofs.SimLaws.{outputs_seen, no_lists, no_stamps, count_seen}
use Rattle.sim_rounds.proofs.sim.Sim.new.Goals as goal

pub new-requires : goal.new-requires
new-requires g c =
    let circuit : Circuit = c.args.circuit.now in
    let parts = c.parts-parts.result.now in
    let many : c.len-drivers.result ≡ length circuit.elements = c.len-drivers.ensures ∙ (parts.elements.ok.0 ∙ (sym (count_seen parts.elements.items (element_seen parts)) ∙ ap (λ x. length x.elements) c.parts-parts.ensures.seen)) in
    c.requires ∙ ap (λ n. replicate n []) (sym many)

pub invariant_of-result : goal.invariant_of-result
invariant_of-result g c =
    let circuit : Circuit = c.args.circuit.now in
    let parts = c.parts-parts.result.now in
    let seen : circuit_seen parts ≡ circuit = c.parts-parts.ensures.seen in
    let values : c.in_ok-values.values.items ≡ (first_state circuit).values =
    c.in_ok-values.ensures ∙ (ap (map (λ n. first_value_of n.driver)) c.deref.ensures.value ∙ ap (λ x. map (λ n. first_value_of n.driver) x.nets) seen) in
    let nets : c.in_ok-nets.nets.values.items ≡ (first_state circuit).values = c.in_ok-nets.ensures.values ∙ (c.deref-2.ensures.value ∙ values) in
    let told : c.deref-3.result.now ≡ c.in_ok-nets.nets.values.items = c.deref-3.ensures.value ∙ (values ∙ sym nets) in
    let stamps : length c.deref-2.result.now ≡ length circuit.nets = ap length (c.deref-2.ensures.value ∙ values) ∙ count_seen circuit.nets (λ n. first_value_of n.driver) in
    let many : c.len-drivers.result ≡ length circuit.elements = c.len-drivers.ensures ∙ (parts.elements.ok.0 ∙ (sym (count_seen parts.elements.items (element_seen parts)) ∙ ap (λ x. length x.elements) seen)) in
    record {
      unseen = c.in_ok-checks.ensures;
      fresh = record {
        circuit_of = ap (λ x. x.circuit) c.in_ok-elements.ensures;
        earlier_of = ap (λ x. x.earlier) c.in_ok-elements.ensures;
        states = ap (λ x. x.states) c.in_ok-elements.ensures;
        values = nets;
        before = c.in_ok-nets.ensures.before ∙ (c.deref-2.ensures.value ∙ values);
        stamps = ap (map stamp_seen) c.in_ok-nets.ensures.stamps ∙ no_stamps (length c.deref-2.result.now) circuit.nets stamps;
        nets_are = c.in_ok-nets.ensures.nets;
        told = subst (λ vs. IsTold c.in_ok-told.told vs) told c.in_ok-told.ensures.told;
        values_told = c.in_ok-told.ensures.values ∙ told;
        idle = subst (IsIdle c.in_ok-work.work) many c.in_ok-work.ensures;
        lists = c.in_ok-agenda.ensures ∙ (ap (λ n. replicate n []) many ∙ no_lists (length circuit.elements) circuit.elements refl);
        fan_out = c.in_ok-fan.ensures.readers;
        each_net = c.in_ok-fan.ensures.nets;
        outputs = c.in_ok-outputs.ensures ∙ (ap (map (λ e. e.output)) c.deref-4.ensures.value ∙ (outputs_seen parts parts.elements.items ∙ ap (λ x. map (λ e. e.output) x.elements) seen));
      };
    }
