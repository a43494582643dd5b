-- What follows for a member of a module without faults: its nets have the next numbers, its terminals fit, and so do its connections.
use Rattle.std.specs.Prelude.{◌≡◌, ℕ, zero, suc, ◌+◌, List, [], ◌∷◌, ◌++◌, Some, flat_map, take, drop, length, slice_get, refl, not, Option}
use Rattle.std.specs.List.{enumerate_from, range_with_len}
use Rattle.std.proofs.Common.{sym, ◌∙◌, ap, arith, subst, inl, inr}
use Rattle.std.proofs.lemmas.List.{drop_all}
use Rattle.sg_delay.specs.declared.corners.Corner.{Corner}
use Rattle.sg_logic.specs.Gate.{most_delays}
use Rattle.sg_logic.specs.declared.gates.GateKind.{GateKind}
use Rattle.vl_tree.specs.Tree.{Named, Expression, Delay, GateInstance, Instance as instance_text, a_module, a_primitive, Primitive, Module, Source}
use Rattle.elab_model.specs.declared.kinds.ElabKind.TheVariants.{BadTerminal}
use Rattle.elab_model.specs.Bits.{bits}
use Rattle.elab_model.specs.Definitions.{definition_of}
use Rattle.elab_model.specs.Delays.{tick_of}
use Rattle.elab_model.specs.Elements.{output_count, output_bits, input_bits}
use Rattle.elab_model.specs.Faults.{fault_if}
use Rattle.elab_model.specs.Hierarchy.{Instance, instances, children}
use Rattle.elab_model.specs.Members.{Member, gate, instance, members, connection_values}
use Rattle.elab_model.specs.ModuleFaults.{are_terminals, takes_terminals, all_member_faults, connection_faults, delay_on_module, instance_faults, module_faults}
use Rattle.elab_model.specs.NameFaults.{declaration_faults}
use Rattle.elab_model.specs.Names.{variables}
use Rattle.elab_model.specs.Nets.{OwnNet, nets, member_nets, instance_nets, terminal_nets}
use Rattle.elab_model.specs.TerminalFaults.{expression_faults, width_faults, constant_faults, terminal_faults, delay_faults, is_missing}
use Rattle.elab_laws.specs.Laws.{AreSound}
use Rattle.elab_laws.proofs.Lists.{In, all-in, all-get}
use Rattle.elab_laws.proofs.NoFaults.{front, back, flat-empty}
use Rattle.elab_laws.specs.NumberLaws.{numbers_in}
use Rattle.elab_laws.proofs.InOrder.{member-nets_have_places}
use Rattle.elab_laws.proofs.Connected.{members-sound, is-connected}
use Rattle.elab_laws.proofs.Gates.{has-output}
use Rattle.elab_laws.proofs.ElementWidths.{no-fault, width-is, first-is_net}
use Rattle.elab_ports.specs.Bound.{AreConnected}
use Rattle.elab_nets.specs.Rows.{first_of_member}
use Rattle.elab_elements.specs.Adding.{HasTerminals, IsConnectedOnce}
use Rattle.elab_elements.proofs.StandingAt.{at-split}

-- ---- numbers

enumerated : {A : Type 0} (a : ℕ) (xs : List A) (k : ℕ) (x : A) → slice_get xs k ≡ Some x → slice_get (enumerate_from a xs) k ≡ Some (a + k, x)
enumerated a [] k x e = cc
enumerated a (y ∷ xs) zero x e = let g : y ≡ x = cc in let z : a ≡ a + 0 = omega arith in λ i. Some (z i, g i)
enumerated a (y ∷ xs) (suc k) x e = let z : (a + 1) + k ≡ a + suc k = omega arith in enumerated (a + 1) xs k x e ∙ ap (λ n. Some (n, x)) z

pub member-numbered : (source : Source) (top : Module) (corner : Corner) (before after : List Instance) (s : Instance) (k : ℕ) (x : Member) → AreSound source top corner → instances source top ≡ before ++ s ∷ after
    → slice_get (members s.step.definition) k ≡ Some x
    → numbers_in (nets source top) (member_nets source s (k, x)) ≡ range_with_len (first_of_member source before s k) (length (member_nets source s (k, x)))
member-numbered source top corner before after s k x sound e at =
    let listed = enumerate_from 0 (members s.step.definition) in
    let z : 0 + k ≡ k = omega arith in
    let here : slice_get listed k ≡ Some (k, x) = enumerated 0 (members s.step.definition) k x at ∙ ap (λ n. Some (n, x)) z in
    member-nets_have_places source top corner before after s (take k listed) (drop (suc k) listed) (k, x) sound e (at-split listed k (k, x) here).0

-- ---- faults

pub member-sound : (source : Source) (top : Module) (corner : Corner) (s : Instance) (k : ℕ) (x : Member) → AreSound source top corner → In s (instances source top) → slice_get (members s.step.definition) k ≡ Some x
    → all_member_faults source corner (tick_of source top) s.step.definition x ≡ []
member-sound source top corner s k x sound there at =
    let own = all-in (λ s. module_faults source corner (tick_of source top) s.step.definition ≡ []) s (instances source top) sound there in
    all-get (λ x. all_member_faults source corner (tick_of source top) s.step.definition x ≡ []) (members s.step.definition) k x (members-sound source corner (tick_of source top) s.step.definition own) at

-- the first output is a bit of a net
first-output : (all : List OwnNet) (s : Instance) (k first outputs : ℕ) (e : Expression) (es : List Expression) → flat_map (expression_faults (variables s.step.definition)) (e ∷ es) ≡ []
    → terminal_faults (variables s.step.definition) (suc outputs) (e ∷ es) ≡ []
    → numbers_in all (terminal_nets s k (output_bits s (suc outputs) (e ∷ es)) (input_bits s (suc outputs) (e ∷ es)))
    ≡ range_with_len first (length (terminal_nets s k (output_bits s (suc outputs) (e ∷ es)) (input_bits s (suc outputs) (e ∷ es))))
    → HasTerminals all s k first (output_bits s (suc outputs) (e ∷ es)) (input_bits s (suc outputs) (e ∷ es))
first-output all s k first outputs e es sound faultless numbered =
    let vs = variables s.step.definition in
    let widths = flat_map (width_faults vs 1) (e ∷ es) in
    let driven = flat_map (constant_faults vs) (take (suc outputs) (e ∷ es)) in
    let one : length (bits vs e) ≡ 1 =
    width-is vs 1 e (front (expression_faults vs e) (flat_map (expression_faults vs) es) sound) (front (width_faults vs 1 e) (flat_map (width_faults vs 1) es) (front widths driven faultless)) in
    let f = first-is_net vs outputs e es one (back widths driven faultless) in
    record { output = inr (f.name, (f.position, (f.rest, f.first))); constants = numbered }

pub gate-terminals : (source : Source) (top : Module) (corner : Corner) (s : Instance) (k first : ℕ) (g : GateKind) (d : Option Delay) (i : GateInstance)
    → all_member_faults source corner (tick_of source top) s.step.definition (gate g d i) ≡ []
    → numbers_in (nets source top) (member_nets source s (k, gate g d i)) ≡ range_with_len first (length (member_nets source s (k, gate g d i)))
    → HasTerminals (nets source top) s k first (output_bits s (output_count g (length i.terminals)) i.terminals) (input_bits s (output_count g (length i.terminals)) i.terminals)
gate-terminals source top corner s k first g d i h numbered = by i.terminals h numbered
  where
    AreFitting : List Expression → ℕ → Type 0
    AreFitting es n = numbers_in (nets source top) (terminal_nets s k (output_bits s n es) (input_bits s n es)) ≡ range_with_len first (length (terminal_nets s k (output_bits s n es) (input_bits s n es)))

    by : (es : List Expression)
        → all_member_faults source corner (tick_of source top) s.step.definition (gate g d (record i { terminals = es })) ≡ [] → AreFitting es (output_count g (length es))
        → HasTerminals (nets source top) s k first (output_bits s (output_count g (length es)) es) (input_bits s (output_count g (length es)) es)
    by [] h numbered = record { output = inl (ap (flat_map (bits (variables s.step.definition))) (drop_all (output_count g 0) [] (omega arith))); constants = numbered }
    by (e ∷ es) h numbered =
        let m = s.step.definition in
        let vs = variables m in
        let named = flat_map (expression_faults vs) (e ∷ es) in
        let few = fault_if (not (takes_terminals g (length (e ∷ es)))) BadTerminal i.place in
        let ts = terminal_faults vs (output_count g (length (e ∷ es))) (e ∷ es) in
        let ds = delay_faults (most_delays g) corner (tick_of source top) m d in
        let own : few ++ (ts ++ ds) ≡ [] = back named (few ++ (ts ++ ds)) h in
        let sound : named ≡ [] = front named (few ++ (ts ++ ds)) h in
        let faultless : ts ≡ [] = front ts ds (back few (ts ++ ds) own) in
        let output = has-output g (length (e ∷ es)) (no-fault (not (takes_terminals g (length (e ∷ es)))) BadTerminal i.place (front few (ts ++ ds) own)) in
        subst (λ n. HasTerminals (nets source top) s k first (output_bits s n (e ∷ es)) (input_bits s n (e ∷ es))) (sym output.1)
        (first-output (nets source top) s k first output.0 e es sound (subst (λ n. terminal_faults vs n (e ∷ es) ≡ []) output.1 faultless) (subst (AreFitting (e ∷ es)) output.1 numbered))

pub primitive-terminals : (source : Source) (top : Module) (corner : Corner) (s : Instance) (k first : ℕ) (n : Named) (d : Option Delay) (i : instance_text) (p : Primitive)
    → definition_of source n.text ≡ Some (a_primitive p) → all_member_faults source corner (tick_of source top) s.step.definition (instance n d i) ≡ []
    → numbers_in (nets source top) (member_nets source s (k, instance n d i)) ≡ range_with_len first (length (member_nets source s (k, instance n d i)))
    → HasTerminals (nets source top) s k first (output_bits s 1 (connection_values i.connections)) (input_bits s 1 (connection_values i.connections))
primitive-terminals source top corner s k first n d i p is h numbered =
    by (connection_values i.connections) sound faultless
    (subst (λ o. numbers_in (nets source top) (instance_nets source s k i o) ≡ range_with_len first (length (instance_nets source s k i o))) is numbered)
  where
    values : List Expression
    values = connection_values i.connections

    sound : flat_map (expression_faults (variables s.step.definition)) values ≡ []
    sound = front (flat_map (expression_faults (variables s.step.definition)) values) _ h

    own : instance_faults corner (tick_of source top) s.step.definition (variables s.step.definition) d i (Some (a_primitive p)) ≡ []
    own = subst (λ o. instance_faults corner (tick_of source top) s.step.definition (variables s.step.definition) d i o ≡ []) is (back (flat_map (expression_faults (variables s.step.definition)) values) _ h)

    faultless : terminal_faults (variables s.step.definition) 1 values ≡ []
    faultless = front (terminal_faults (variables s.step.definition) 1 values) _ (back (fault_if (not (are_terminals p i.connections)) BadTerminal i.place) _ own)

    by : (es : List Expression) → flat_map (expression_faults (variables s.step.definition)) es ≡ [] → terminal_faults (variables s.step.definition) 1 es ≡ []
        → numbers_in (nets source top) (terminal_nets s k (output_bits s 1 es) (input_bits s 1 es)) ≡ range_with_len first (length (terminal_nets s k (output_bits s 1 es) (input_bits s 1 es)))
        → HasTerminals (nets source top) s k first (output_bits s 1 es) (input_bits s 1 es)
    by [] a b numbered = record { output = inl refl; constants = numbered }
    by (e ∷ es) a b numbered = first-output (nets source top) s k first 0 e es a b numbered

-- ---- connections

pub connected-once : (source : Source) (top : Module) (corner : Corner) (s c : Instance) → AreSound source top corner → In s (instances source top) → In c (children source s) → IsConnectedOnce c.step
connected-once source top corner s c sound there child = (is-connected source top corner sound s c there child).once.first

pub connections-sound : (source : Source) (top : Module) (corner : Corner) (s : Instance) (n : Named) (d : Option Delay) (i : instance_text) (m : Module)
    → definition_of source n.text ≡ Some (a_module m) → all_member_faults source corner (tick_of source top) s.step.definition (instance n d i) ≡ [] → declaration_faults m ≡ []
    → AreConnected (variables s.step.definition) m i.place i.connections
connections-sound source top corner s n d i m is h declared =
    let vs = variables s.step.definition in
    let values = flat_map (expression_faults vs) (connection_values i.connections) in
    let own : instance_faults corner (tick_of source top) s.step.definition vs d i (Some (a_module m)) ≡ [] =
    subst (λ o. instance_faults corner (tick_of source top) s.step.definition vs d i o ≡ []) is (back values _ h) in
    record {
      declared = declared;
      sound = flat-empty (expression_faults vs) (connection_values i.connections) (front values _ h);
      connected = back (delay_on_module d) (connection_faults vs m i.place i.connections) (back (fault_if (is_missing i.name) BadTerminal i.place) _ own);
    }
