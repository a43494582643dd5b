use Rattle.std.specs.Prelude.{List}
use Rattle.std.proofs.Common.{◌≡◌, ◌∙◌, ◌↔◌, ℕ, IsTrue, ap, length, map, replicate, subst, sym}
use Rattle.std.proofs.lemmas.Bool.{OnTrue_at}
use Rattle.std.proofs.lemmas.List.{with_items_is}
use Rattle.std.proofs.lemmas.Result.{IfOk-weaker}
use Rattle.sg_circuit.specs.Circuit.{Element}
use Rattle.sg_circuit.specs.Seen.{circuit_seen}
use Rattle.sg_logic.specs.declared.values.Value.{Value}
use Rattle.sg_model.specs.Values.{value_at}
use Rattle.sim_rounds.specs.Fitting.{AreLast, AreOrdered, HasStates, IsSettled}
use Rattle.sim_rounds.specs.MomentsSeen.{moment_seen, pending_seen}
use Rattle.sim_rounds.proofs.SettlingLaws.{outputs_within, drivers_within, present_seen, length-present, unordered, settled_by}
use Rattle.sim_rounds.proofs.settling.is_settled.Goals as goal

pub present_values-requires : goal.present_values-requires
present_values-requires c = outputs_within c.args.parts.now c.deref.result.now c.deref-2.result.now c.requires.closed c.deref.ensures.value (ap length c.deref-2.ensures.value ∙ c.requires.sizes.nets)

pub follow-requires-clause-drivers : goal.follow-requires-clause-drivers
follow-requires-clause-drivers c =
    let parts = c.args.parts.now in
    let m = c.args.moment.now in
    let present : List Value = c.deref_mut-2.result.now in
    let is : present ≡ map (λ (e : Element). value_at m.nets.items e.output) (circuit_seen parts).elements =
    present_seen parts c.deref.result.now c.deref-2.result.now m.nets.items c.in_ok-values.values.items present c.deref.ensures.value c.deref-2.ensures.value c.in_ok-values.ensures c.deref_mut-2.ensures.value in
    drivers_within c.deref-3.result.now m.pending.items (length present) (length (circuit_seen parts).elements) c.deref-3.ensures.value (length-present (circuit_seen parts) (moment_seen m) present present is) c.requires.sizes.pending

pub returns-then-not-follow : goal.returns-then-not-follow
returns-then-not-follow c =
    let parts = c.args.parts.now in
    let m = c.args.moment.now in
    let present : List Value = c.deref_mut-2.result.now in
    let times : List ℕ = c.deref_mut.result.now in
    let is : present ≡ map (λ (e : Element). value_at m.nets.items e.output) (circuit_seen parts).elements =
    present_seen parts c.deref.result.now c.deref-2.result.now m.nets.items c.in_ok-values.values.items present c.deref.ensures.value c.deref-2.ensures.value c.in_ok-values.ensures c.deref_mut-2.ensures.value in
    let all : times ≡ replicate (length present) m.time =
    c.deref_mut.ensures.value ∙ (c.in_ok-times.ensures.items_if_clones_equal (λ y e. e) ∙ ap (λ n. replicate n m.time) (c.len.ensures ∙ sym c.deref_mut-2.ensures.len)) in
    unordered (circuit_seen parts) (moment_seen m) present present is c.follow.result times all
    (subst (λ qs. IsTrue c.follow.result ↔ AreOrdered times present (map (λ p. pending_seen p) qs)) c.deref-3.ensures.value c.follow.ensures.ordered) c.if-not-follow.true

pub returns : goal.returns
returns c =
    let parts = c.args.parts.now in
    let m = c.args.moment.now in
    let present : List Value = c.deref_mut-2.result.now in
    let times : List ℕ = c.deref_mut.result.now in
    let values : List Value = c.deref-4.result.now in
    let is : present ≡ map (λ (e : Element). value_at m.nets.items e.output) (circuit_seen parts).elements =
    present_seen parts c.deref.result.now c.deref-2.result.now m.nets.items c.in_ok-values.values.items present c.deref.ensures.value c.deref-2.ensures.value c.in_ok-values.ensures c.deref_mut-2.ensures.value in
    let all : times ≡ replicate (length present) m.time =
    c.deref_mut.ensures.value ∙ (c.in_ok-times.ensures.items_if_clones_equal (λ y e. e) ∙ ap (λ n. replicate n m.time) (c.len.ensures ∙ sym c.deref_mut-2.ensures.len)) in
    let followed : values ≡ c.follow.new.values = c.deref-4.ensures.value ∙ with_items_is c.in_ok-values.values c.follow.new.values (c.follow.auto.values ∙ c.deref_mut-2.ensures.len) in
    let ordered : AreOrdered times present (map (λ p. pending_seen p) m.pending.items) =
    subst (λ qs. AreOrdered times present (map (λ p. pending_seen p) qs)) c.deref-3.ensures.value (c.follow.ensures.ordered.0 c.if-not-follow.false) in
    let last : AreLast present values (map (λ p. pending_seen p) m.pending.items) =
    subst (λ vs. AreLast present vs (map (λ p. pending_seen p) m.pending.items)) (sym followed) (subst (λ qs. AreLast present c.follow.new.values (map (λ p. pending_seen p) qs)) c.deref-3.ensures.value (OnTrue_at c.if-not-follow.false c.follow.ensures.last)) in
    IfOk-weaker c.has_states.result (λ b. IsTrue b ↔ HasStates (circuit_seen parts) (moment_seen m) values) (λ b. IsTrue b ↔ IsSettled (circuit_seen parts) (moment_seen m))
    (λ b h. settled_by (circuit_seen parts) (moment_seen m) present values is b times all (ap length followed ∙ c.follow.auto.values) ordered last h) c.has_states.ensures
