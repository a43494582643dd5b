-- What gates and primitives read and drive has nets, and so have the constants at their inputs.
use Rattle.std.specs.Prelude.{◌≡◌, ℕ, suc, ◌-◌, ◌≤◌, List, [], ◌∷◌, false, not, length, flat_map, map, take, drop, refl}
use Rattle.std.specs.List.{AllByRecursion, enumerate_from}
use Rattle.std.proofs.Common.{◌∙◌, ap, arith}
use Rattle.std.proofs.lemmas.Bool.{not-false}
use Rattle.sg_circuit.specs.Circuit.{Kind}
use Rattle.sg_logic.specs.declared.gates.GateKind.{GateKind}
use Rattle.sg_logic.specs.declared.gates.GateKind.TheVariants as kinds
use Rattle.sg_logic.specs.declared.values.Value.{Value}
use Rattle.sg_text.specs.declared.places.Place.{Place}
use Rattle.vl_tree.specs.Tree.{Expression, Module, Source}
use Rattle.elab_model.specs.Members.{Member, members}
use Rattle.elab_model.specs.Names.{variables}
use Rattle.elab_model.specs.Bits.{Bit, net, constant, bits}
use Rattle.elab_model.specs.Hierarchy.{Instance, instances}
use Rattle.elab_model.specs.Homes.{Spot, terminal}
use Rattle.elab_model.specs.Elements.{output_count, input_spot, output_element, constant_pass, terminal_elements, only_bit, output_bits, input_bits, expression_bits}
use Rattle.elab_model.specs.ModuleFaults.{takes_terminals}
use Rattle.elab_model.specs.Nets.{terminal_nets, member_nets, nets}
use Rattle.elab_model.specs.TerminalFaults.{expression_faults, width_faults, constant_faults, terminal_faults}
use Rattle.elab_model.proofs.TerminalLaws.{two-at-least}
use Rattle.elab_laws.specs.Words.{Owns}
use Rattle.elab_laws.proofs.Lists.{In, all-in, all-append, all-flat, all-flat_in, all-map, all-weaker, all-from}
use Rattle.elab_laws.proofs.NoFaults.{front, back, all-second}
use Rattle.elab_laws.proofs.Terminals.{HasNet, expression-there, terminal-there}
use Rattle.elab_laws.proofs.DrivenNets.{driven-there}
use Rattle.elab_laws.specs.ElementLaws.{HasNets}
use Rattle.elab_laws.proofs.HaveNets.{HaveNets, all-flat_from}
use Rattle.elab_laws.proofs.ElementWidths.{width-is, first-is_net}

all-only : (P : Bit → Type 0) (bs : List Bit) → AllByRecursion P bs → AllByRecursion P (only_bit bs)
all-only P [] h = tt
all-only P (b ∷ []) h = h
all-only P (b ∷ c ∷ bs) h = tt

-- each constant at an input has a net
abbrev pub ConstantsOwned : Source → Module → Instance → ℕ → List (ℕ × Bit) → Type 0
ConstantsOwned source top s k inputs = (i : ℕ) (at : Place) (v : Value) → In (i, constant at v) inputs → Owns (terminal s.step.number k i) (nets source top)

input-has : (source : Source) (top : Module) (s : Instance) (k : ℕ) (inputs : List (ℕ × Bit)) → ConstantsOwned source top s k inputs → (i : ℕ) (b : Bit) → In (i, b) inputs → HasNet source top s b
    → Owns (input_spot source s k (i, b)) (nets source top)
input-has source top s k inputs own i (net n p) there h = h
input-has source top s k inputs own i (constant at v) there h = own i at v there

output-has : (source : Source) (top : Module) (s : Instance) (at : Place) (kind : Kind) (spots : List Spot) → In s (instances source top) → AllByRecursion (λ i. Owns i (nets source top)) spots → (b : Bit)
    → HasNet source top s b → HaveNets source top (output_element source s at kind spots b)
output-has source top s at kind spots there inputs (net n p) h = (record { output = driven-there source top s n p there h; inputs = inputs }, tt)
output-has source top s at kind spots there inputs (constant from v) h = tt

constant-has : (source : Source) (top : Module) (s : Instance) (k : ℕ) (inputs : List (ℕ × Bit)) → ConstantsOwned source top s k inputs → (i : ℕ) (b : Bit) → In (i, b) inputs
    → HaveNets source top (constant_pass s (terminal s.step.number k i) b)
constant-has source top s k inputs own i (net n p) there = tt
constant-has source top s k inputs own i (constant at v) there = (record { output = own i at v there; inputs = tt }, tt)

elements-have : (source : Source) (top : Module) (s : Instance) (at : Place) (k : ℕ) (kind : Kind) (outputs inputs : List Bit) → In s (instances source top)
    → AllByRecursion (HasNet source top s) outputs → AllByRecursion (HasNet source top s) inputs → ConstantsOwned source top s k (enumerate_from 0 inputs)
    → HaveNets source top (terminal_elements source s at k kind outputs inputs)
elements-have source top s at k kind outputs inputs there drives reads own =
    let placed = enumerate_from 0 inputs in
    let read = all-second (HasNet source top s) 0 inputs reads in
    let spots : AllByRecursion (λ i. Owns i (nets source top)) (map (input_spot source s k) placed) =
    all-map (λ i. Owns i (nets source top)) (input_spot source s k) placed
    (all-from (λ x. Owns (input_spot source s k x) (nets source top)) placed (λ x h. input-has source top s k placed own x.0 x.1 h (all-in (λ x. HasNet source top s x.1) x placed read h))) in
    all-append (HasNets (nets source top)) (flat_map (output_element source s at kind (map (input_spot source s k) placed)) outputs) (flat_map (λ i. constant_pass s (terminal s.step.number k i.0) i.1) placed)
    (all-flat_in (HasNets (nets source top)) (output_element source s at kind (map (input_spot source s k) placed)) outputs
    (all-weaker (HasNet source top s) (λ b. HaveNets source top (output_element source s at kind (map (input_spot source s k) placed) b)) outputs
    (output-has source top s at kind (map (input_spot source s k) placed) there spots) drives))
    (all-flat_from (HasNets (nets source top)) (λ i. constant_pass s (terminal s.step.number k i.0) i.1) placed (λ x h. constant-has source top s k placed own x.0 x.1 h))

-- a member that makes terminals' nets, whose expressions have no faults
pub record AreTerminals (source : Source) (s : Instance) (k : ℕ) (x : Member) (outputs : ℕ) (es : List Expression) : Type 0 where
  pub there : In (k, x) (enumerate_from 0 (members s.step.definition))
  pub nets_are : member_nets source s (k, x) ≡ terminal_nets s k (output_bits s outputs es) (input_bits s outputs es)
  pub sound : flat_map (expression_faults (variables s.step.definition)) es ≡ []
  pub faultless : terminal_faults (variables s.step.definition) outputs es ≡ []

constants-owned : (source : Source) (top : Module) (s : Instance) (k : ℕ) (x : Member) (outputs : ℕ) (es : List Expression) → In s (instances source top) → AreTerminals source s k x (suc outputs) es
    → ConstantsOwned source top s k (enumerate_from 0 (input_bits s (suc outputs) es))
constants-owned source top s k x outputs [] there t i at v h = absurd h
constants-owned source top s k x outputs (e ∷ es) there t i at v h =
    let vs = variables s.step.definition in
    let widths = flat_map (width_faults vs 1) (e ∷ es) in
    let driven = flat_map (constant_faults vs) (take (suc outputs) (e ∷ es)) in
    let one : length (bits vs e) ≡ 1 =
    width-is vs 1 e (front (expression_faults vs e) (flat_map (expression_faults vs) es) t.sound) (front (width_faults vs 1 e) (flat_map (width_faults vs 1) es) (front widths driven t.faultless)) in
    let f = first-is_net vs outputs e es one (back widths driven t.faultless) in
    let inputs = input_bits s (suc outputs) (e ∷ es) in
    terminal-there source top s k x f.name f.position f.rest inputs i at v there t.there (t.nets_are ∙ ap (λ os. terminal_nets s k os inputs) f.first) h

-- the elements of such a member
pub terminals-have : (source : Source) (top : Module) (s : Instance) (at : Place) (k : ℕ) (x : Member) (kind : Kind) (outputs : ℕ) (es : List Expression) → In s (instances source top)
    → AreTerminals source s k x (suc outputs) es → HaveNets source top (terminal_elements source s at k kind (output_bits s (suc outputs) es) (input_bits s (suc outputs) es))
terminals-have source top s at k x kind outputs es there t =
    elements-have source top s at k kind (output_bits s (suc outputs) es) (input_bits s (suc outputs) es) there
    (all-flat (HasNet source top s) (λ e. only_bit (expression_bits s e)) (take (suc outputs) es) (λ e. all-only (HasNet source top s) (expression_bits s e) (expression-there source top s e there)))
    (all-flat (HasNet source top s) (expression_bits s) (drop (suc outputs) es) (λ e. expression-there source top s e there))
    (constants-owned source top s k x outputs es there t)

-- a gate that has as many terminals as it may have has an output
pub has-output : (g : GateKind) (n : ℕ) → not (takes_terminals g n) ≡ false → (k : ℕ) × (output_count g n ≡ suc k)
has-output kinds.And n h = (0, refl)
has-output kinds.Nand n h = (0, refl)
has-output kinds.Or n h = (0, refl)
has-output kinds.Nor n h = (0, refl)
has-output kinds.Xor n h = (0, refl)
has-output kinds.Xnor n h = (0, refl)
has-output kinds.Buf n h = let le : 2 ≤ n = two-at-least kinds.Buf n (not-false (takes_terminals kinds.Buf n) h) in (n - 2, omega arith)
has-output kinds.Not n h = let le : 2 ≤ n = two-at-least kinds.Not n (not-false (takes_terminals kinds.Not n) h) in (n - 2, omega arith)
has-output kinds.Bufif0 n h = (0, refl)
has-output kinds.Bufif1 n h = (0, refl)
has-output kinds.Notif0 n h = (0, refl)
has-output kinds.Notif1 n h = (0, refl)
