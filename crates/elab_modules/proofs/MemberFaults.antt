-- What is wrong with a member but its delay.
use Rattle.std.specs.Prelude.{◌≡◌, ℕ, ◌<◌, List, [], ◌∷◌, ◌++◌, false, not, Option, Some, None, Result, Ok, Err, MatchResult, flat_map, length, slice_get, bytes_eq, refl, ℤ}
use Rattle.std.specs.List.{position_from}
use Rattle.std.proofs.Common.{sym, ◌∙◌, ap, arith, subst, append_assoc}
use Rattle.std.proofs.lemmas.List.{append-nil}
use Rattle.sg_delay.specs.declared.corners.Corner.{Corner}
use Rattle.sg_logic.specs.Gate.{most_delays}
use Rattle.sg_logic.specs.declared.gates.GateKind.{GateKind}
use Rattle.sg_text.specs.declared.refusals.Refused.{Refused}
use Rattle.sg_text.specs.declared.refusals.Refused.TheVariants as refused
use Rattle.vl_tree.specs.Tree.{Named, Expression, Delay, Connections, by_order, by_name, Check, GateInstance, Instance as instance_text, Join, Module, a_module, a_primitive, Primitive, Source}
use Rattle.elab_model.specs.declared.kinds.ElabKind.{ElabKind}
use Rattle.elab_model.specs.declared.kinds.ElabKind.TheVariants.{UnknownModule, BadTerminal}
use Rattle.elab_model.specs.Definitions.{name_of, definition_of}
use Rattle.elab_model.specs.Elements.{output_count}
use Rattle.elab_model.specs.Faults.{Fault, fault, fault_if, RefusesOneOf}
use Rattle.elab_model.specs.Members.{assignment, gate, instance, check, connection_values, member_values}
use Rattle.elab_model.specs.ModuleFaults.{are_terminals, takes_terminals, delay_on_module, connection_faults, instance_faults, all_member_faults}
use Rattle.elab_model.specs.Names.{Variable, variables}
use Rattle.elab_model.specs.PrimitiveFaults.{primitive_faults}
use Rattle.elab_model.specs.TerminalFaults.{expression_faults, width_faults, terminal_faults, delay_faults, is_missing}
use Rattle.elab_laws.proofs.NoFaults.{front, back}
use Rattle.elab_hierarchy.proofs.Found.{place-first, position-none}
use Rattle.elab_declared.proofs.Refusals.{refused-left, refused-right}
use Rattle.elab_modules.specs.Connecting.{gate_faults, fits_ports, primitive_terminal_faults, instance_of_module_faults}
use Rattle.elab_modules.specs.Telling.{Tells, TellsButDelay, joined_faults, sides_faults}
use Rattle.elab_modules.proofs.SameFaults.{same-as, same-each, same-parted, same-then, tells-same}

-- ---- assignments and gates

pub sides-tell : {A : Type 0} (source : Source) (m : Module) (vs : List Variable) (j : Join) (result : Result A (Refused ElabKind)) → vs ≡ variables m
    → Tells (sides_faults vs j.place j.left j.right) result → TellsButDelay source m (assignment j) result
sides-tell source m vs j result e h corner tick = subst (λ ws. Tells (sides_faults ws j.place j.left j.right) result) e h

-- the names of delayed copies
pub check-tell : {A : Type 0} (source : Source) (m : Module) (vs : List Variable) (c : Check) (result : Result A (Refused ElabKind)) → vs ≡ variables m
    → Tells (flat_map (joined_faults vs 1 false) (member_values (check c))) result → TellsButDelay source m (check c) result
check-tell source m vs c result e h corner tick =
    let es = member_values (check c) in
    let names : Expression → List Fault = λ x. expression_faults (variables m) x in
    let widths : Expression → List Fault = λ x. width_faults (variables m) 1 x in
    tells-same (flat_map (λ x. names x ++ (widths x ++ [])) es) (flat_map names es ++ flat_map widths es) result
    (same-then (flat_map (λ x. names x ++ (widths x ++ [])) es) (flat_map (λ x. names x ++ widths x) es) (flat_map names es ++ flat_map widths es)
    (same-each (λ x. names x ++ (widths x ++ [])) (λ x. names x ++ widths x) es (λ x. same-as (names x ++ (widths x ++ [])) (names x ++ widths x) (ap (λ fs. names x ++ fs) (append-nil (widths x)))))
    (same-parted names widths es))
    (subst (λ ws. Tells (flat_map (joined_faults ws 1 false) es) result) e h)

-- faults with more at the end
but-last : {A : Type 0} (fs ds all : List Fault) (result : Result A (Refused ElabKind)) → all ≡ fs ++ ds → Tells fs result → MatchResult result (λ _. all ≡ ds) (RefusesOneOf all)
but-last fs ds all (Ok x) e h = e ∙ ap (λ gs. gs ++ ds) h
but-last fs ds all (Err r) e h = subst (λ gs. RefusesOneOf gs r) (sym e) (refused-left fs ds r h)

joined-three : (a b c d : List Fault) → a ++ (b ++ (c ++ d)) ≡ (a ++ (b ++ c)) ++ d
joined-three a b c d = ap (λ fs. a ++ fs) (sym (append_assoc b c d)) ∙ sym (append_assoc a (b ++ c) d)

pub gate-tell : {A : Type 0} (source : Source) (m : Module) (vs : List Variable) (g : GateKind) (d : Option Delay) (i : GateInstance) (result : Result A (Refused ElabKind)) → vs ≡ variables m
    → Tells (gate_faults vs g i) result → TellsButDelay source m (gate g d i) result
gate-tell source m vs g d i result e h corner tick =
    let ws = variables m in
    let own = flat_map (expression_faults ws) i.terminals in
    let few = fault_if (not (takes_terminals g (length i.terminals))) BadTerminal i.place in
    let each = terminal_faults ws (output_count g (length i.terminals)) i.terminals in
    let delays = delay_faults (most_delays g) corner tick m d in
    but-last (gate_faults ws g i) delays (own ++ (few ++ (each ++ delays))) result (joined-three own few each delays) (subst (λ ws. Tells (gate_faults ws g i) result) e h)

-- ---- the definition of a name

pub record IsDefined (source : Source) (n : List ℕ) (i : ℕ) : Type 0 where
  pub below : i < length source
  pub found : definition_of source n ≡ slice_get source i

pub defined-at : (source : Source) (n : List ℕ) (i : ℕ) → Some i ≡ position_from (λ d. bytes_eq n (name_of d).text) 0 source → IsDefined source n i
defined-at source n i e = let r = place-first source n i (sym e) in record { below = r.below; found = r.first ∙ sym r.there }

-- ---- instances

abbrev own_values : Module → instance_text → List Fault
own_values m i = flat_map (expression_faults (variables m)) (connection_values i.connections)

pub unknown-refused : (source : Source) (corner : Corner) (tick : ℤ) (m : Module) (n : Named) (d : Option Delay) (i : instance_text)
    → None ≡ position_from (λ d. bytes_eq n.text (name_of d).text) 0 source → RefusesOneOf (all_member_faults source corner tick m (instance n d i)) (refused.Fault UnknownModule i.place)
unknown-refused source corner tick m n d i e =
    let none : definition_of source n.text ≡ None = position-none (λ d. bytes_eq n.text (name_of d).text) source 0 (sym e) in
    let all : own_values m i ++ (fault UnknownModule i.place ∷ []) ≡ all_member_faults source corner tick m (instance n d i) =
    ap (λ o. own_values m i ++ instance_faults corner tick m (variables m) d i o) (sym none) in
    subst (λ fs. RefusesOneOf fs (refused.Fault UnknownModule i.place)) all
    (refused-right (own_values m i) (fault UnknownModule i.place ∷ []) (refused.Fault UnknownModule i.place) (0, (omega arith, refl)))

no-delay : (d : Option Delay) → delay_on_module d ≡ [] → d ≡ None
no-delay None h = refl
no-delay (Some d) h = cc

module-tell : {A : Type 0} (corner : Corner) (tick : ℤ) (m k : Module) (d : Option Delay) (i : instance_text) (result : Result A (Refused ElabKind))
    → Tells (instance_of_module_faults (variables m) k d i) result
    → MatchResult result (λ _. instance_of_module_faults (variables m) k d i ≡ delay_faults 2 corner tick m d) (RefusesOneOf (instance_of_module_faults (variables m) k d i))
module-tell corner tick m k d i (Ok x) h =
    let named = fault_if (is_missing i.name) BadTerminal i.place in
    let rest = connection_faults (variables m) k i.place i.connections in
    let none : d ≡ None = no-delay d (front (delay_on_module d) rest (back named (delay_on_module d ++ rest) (back (own_values m i) (named ++ (delay_on_module d ++ rest)) h))) in
    h ∙ ap (delay_faults 2 corner tick m) (sym none)
module-tell corner tick m k d i (Err r) h = h

pub module-tells : {A : Type 0} (source : Source) (m k : Module) (vs : List Variable) (n : Named) (d : Option Delay) (i : instance_text) (result : Result A (Refused ElabKind))
    → definition_of source n.text ≡ Some (a_module k) → vs ≡ variables m → Tells (instance_of_module_faults vs k d i) result → TellsButDelay source m (instance n d i) result
module-tells source m k vs n d i result f e h corner tick =
    let all : instance_of_module_faults (variables m) k d i ≡ all_member_faults source corner tick m (instance n d i) =
    ap (λ o. own_values m i ++ instance_faults corner tick m (variables m) d i o) (sym f) in
    subst (λ fs. MatchResult result (λ _. fs ≡ delay_faults 2 corner tick m d) (RefusesOneOf fs)) all
    (module-tell corner tick m k d i result (subst (λ ws. Tells (instance_of_module_faults ws k d i) result) e h))

fits-are : (p : Primitive) (x : Connections) → fits_ports (length p.ports) x ≡ are_terminals p x
fits-are p (by_order es) = refl
fits-are p (by_name cs) = refl

pub primitive-tells : {A : Type 0} (source : Source) (m : Module) (p : Primitive) (vs : List Variable) (n : Named) (d : Option Delay) (i : instance_text) (count : ℕ) (result : Result A (Refused ElabKind))
    → definition_of source n.text ≡ Some (a_primitive p) → primitive_faults p ≡ [] → vs ≡ variables m → count ≡ length p.ports → Tells (primitive_terminal_faults vs count i) result
    → TellsButDelay source m (instance n d i) result
primitive-tells source m p vs n d i count result f none e c h corner tick =
    let ws = variables m in
    let own = own_values m i in
    let fits = fault_if (not (are_terminals p i.connections)) BadTerminal i.place in
    let each = terminal_faults ws 1 (connection_values i.connections) in
    let delays = delay_faults 2 corner tick m d in
    let told : primitive_terminal_faults vs count i ≡ own ++ (fits ++ each) =
    ap (λ ws. primitive_terminal_faults ws count i) e ∙ ap (λ k. primitive_terminal_faults ws k i) c ∙ ap (λ b. own ++ (fault_if (not b) BadTerminal i.place ++ each)) (fits-are p i.connections) in
    let all : all_member_faults source corner tick m (instance n d i) ≡ (own ++ (fits ++ each)) ++ delays =
    ap (λ o. own ++ instance_faults corner tick m ws d i o) f ∙ ap (λ fs. own ++ (fits ++ (each ++ (delays ++ fs)))) none ∙ ap (λ fs. own ++ (fits ++ (each ++ fs))) (append-nil delays)
    ∙ joined-three own fits each delays in
    but-last (own ++ (fits ++ each)) delays (all_member_faults source corner tick m (instance n d i)) result all (subst (λ fs. Tells fs result) told h)

-- ---- the delay of a member

pub delay-refused : (all ds : List Fault) (r : Refused ElabKind) → all ≡ ds → RefusesOneOf ds r → RefusesOneOf all r
delay-refused all ds r e h = subst (λ fs. RefusesOneOf fs r) (sym e) h
