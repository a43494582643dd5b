-- The child that a member is.
use Rattle.std.specs.Prelude.{◌≡◌, ℕ, ◌+◌, List, [], ◌∷◌, ◌++◌, Option, Some, None, flat_map, refl, ℤ}
use Rattle.std.specs.List.{cons_option}
use Rattle.std.specs.Option.{option_and_then}
use Rattle.std.proofs.Common.{sym, ◌∙◌, ap, inl, inr, subst, append-nil}
use Rattle.sg_delay.specs.declared.corners.Corner.{Corner}
use Rattle.vl_tree.specs.Tree.{Named, Delay, Instance as instance_text, Module, Source, a_module}
use Rattle.elab_model.specs.declared.kinds.ElabKind.TheVariants.{BadTerminal}
use Rattle.elab_model.specs.Definitions.{definition_of, as_module}
use Rattle.elab_model.specs.Delays.{tick_of}
use Rattle.elab_model.specs.Elements.{child_at}
use Rattle.elab_model.specs.Faults.{fault_if}
use Rattle.elab_model.specs.Hierarchy.{Instance, child_of, child_of_member, children_from, children, instances, size, text_of, top_instance, levels_below_top}
use Rattle.elab_model.specs.Members.{Member, instance, members, connection_values}
use Rattle.elab_model.specs.ModuleFaults.{connection_faults, delay_on_module, instance_faults, member_faults, all_member_faults, module_faults}
use Rattle.elab_model.specs.NameFaults.{declaration_faults}
use Rattle.elab_model.specs.Names.{variables}
use Rattle.elab_model.specs.Nets.{unbound_nets, constant_nets, instance_nets, member_nets}
use Rattle.elab_model.specs.TerminalFaults.{expression_faults, is_missing}
use Rattle.elab_laws.specs.Laws.{AreSound}
use Rattle.elab_laws.proofs.Lists.{In, Pairwise, all-in, in-right}
use Rattle.elab_laws.proofs.NoFaults.{front, back, flat-empty, all-second, child-there}
use Rattle.elab_laws.proofs.Outside.{child-at}
use Rattle.elab_laws.proofs.PartsApart.{child_at-one}
use Rattle.elab_laws.proofs.Connected.{members-sound}
use Rattle.elab_ports.specs.Bound.{AreConnected}
use Rattle.elab_nets.specs.Outside.{outside_nets}
use Rattle.elab_nets.specs.Turns.{children_among, members_of}

-- the child of this text, as the next
abbrev pub the_child : Instance → ℕ → ℕ → ℕ → Module → instance_text → Instance
the_child s levels next k m i = record {
  step = record { definition = m; name = text_of i.name; place = i.place; member = k; connections = i.connections; number = next; levels = levels };
  above = s.step ∷ s.above;
}

pub child-next : (source : Source) (s : Instance) (levels next k : ℕ) (n : Named) (d : Option Delay) (i : instance_text) (m : Module) (behind : List (ℕ × Member)) → definition_of source n.text ≡ Some (a_module m)
    → children_from source levels (s.step ∷ s.above) next (children_among source ((k, instance n d i) ∷ behind))
    ≡ the_child s levels next k m i ∷ children_from source levels (s.step ∷ s.above) (next + size source levels m) (children_among source behind)
child-next source s levels next k n d i m behind e =
    ap (λ o. children_from source levels (s.step ∷ s.above) next (cons_option (child_of (option_and_then as_module o) k i) (children_among source behind))) e

pub no-child : (source : Source) (x : ℕ × Member) (behind : List (ℕ × Member)) → child_of_member source x.0 x.1 ≡ None → children_among source (x ∷ behind) ≡ children_among source behind
no-child source x behind e = ap (λ o. cons_option o (children_among source behind)) e

alone : (c : Instance) (xs : List Instance) → Pairwise (λ c d. ⊥) xs → In c xs → xs ≡ c ∷ []
alone c [] h k = absurd k
alone c (x ∷ []) h (inl e) = ap (λ y. y ∷ []) (sym e)
alone c (x ∷ []) h (inr k) = absurd k
alone c (x ∷ y ∷ ys) h k = absurd h.0.0

-- the nets of the member are those outside of the child
pub child-nets : (source : Source) (s c : Instance) (k : ℕ) (n : Named) (d : Option Delay) (i : instance_text) (m : Module) → In c (children source s) → c.step.member ≡ k → definition_of source n.text ≡ Some (a_module m)
    → member_nets source s (k, instance n d i) ≡ outside_nets source s c
child-nets source s c k n d i m h e f =
    ap (instance_nets source s k i) f
    ∙ ap (flat_map (λ c. unbound_nets source s c ++ constant_nets source s c)) (alone c (child_at source s k) (child_at-one source s k) (child-at source s c k h e))
    ∙ append-nil (outside_nets source s c)

pub child-in : (source : Source) (top : Module) (s c : Instance) → In s (instances source top) → In c (children source s) → In c (instances source top)
child-in source top s c there h = child-there source levels_below_top (top_instance top) s c refl there h

-- a member of a module without faults
pub member-faultless : (source : Source) (top : Module) (corner : Corner) → AreSound source top corner → (s : Instance) → In s (instances source top) → (front behind : List (ℕ × Member)) (x : ℕ × Member)
    → members_of s ≡ front ++ x ∷ behind → all_member_faults source corner (tick_of source top) s.step.definition x.1 ≡ []
member-faultless source top corner sound s there front behind x e =
    let tick = tick_of source top in
    let own = all-in (λ s. module_faults source corner tick s.step.definition ≡ []) s (instances source top) sound there in
    let each = all-second (λ p. all_member_faults source corner tick s.step.definition p ≡ []) 0 (members s.step.definition) (members-sound source corner tick s.step.definition own) in
    all-in (λ x. all_member_faults source corner tick s.step.definition x.1 ≡ []) x (members_of s) each (subst (In x) (sym e) (in-right x front (x ∷ behind) (inl refl)))

-- and what is connected to the instance that it is
pub child-connected : (source : Source) (corner : Corner) (tick : ℤ) (m c : Module) (n : Named) (d : Option Delay) (i : instance_text) → all_member_faults source corner tick m (instance n d i) ≡ []
    → definition_of source n.text ≡ Some (a_module c) → declaration_faults c ≡ [] → AreConnected (variables m) c i.place i.connections
child-connected source corner tick m c n d i h e declared =
    let vs = variables m in
    let named = flat_map (expression_faults vs) (connection_values i.connections) in
    let own : member_faults source corner tick m vs (instance n d i) ≡ [] = back named (member_faults source corner tick m vs (instance n d i)) h in
    let f : instance_faults corner tick m vs d i (Some (a_module c)) ≡ [] = ap (instance_faults corner tick m vs d i) (sym e) ∙ own in
    let cs = connection_faults vs c i.place i.connections in
    record {
      declared = declared;
      sound = flat-empty (expression_faults vs) (connection_values i.connections) (front named (member_faults source corner tick m vs (instance n d i)) h);
      connected = back (delay_on_module d) cs (back (fault_if (is_missing i.name) BadTerminal i.place) (delay_on_module d ++ cs) f);
    }
