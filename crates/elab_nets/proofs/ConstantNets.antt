-- A net for each constant among the bits of terminals.
use Rattle.std.specs.Prelude.{◌≡◌, ℕ, suc, ◌+◌, ◌<◌, ◌≤◌, All, List, [], ◌∷◌, ◌++◌, Some, None, length, map, flat_map, drop, refl, slice_index_or}
use Rattle.std.specs.List.{AllByRecursion, enumerate_from}
use Rattle.std.proofs.Common.{sym, ◌∙◌, ap, arith, drop-cons, length-append, subst}
use Rattle.std.proofs.lemmas.List.{append-nil, drop_all, length-map}
use Rattle.std.proofs.lemmas.List.Elements.{recursion_from_All}
use Rattle.sg_circuit.specs.declared.nets.Net.{Net}
use Rattle.sg_logic.specs.declared.values.Value.{Value}
use Rattle.sg_text.specs.declared.places.Place.{Place}
use Rattle.elab_model.specs.Bits.{Bit, net, constant, index_at}
use Rattle.elab_model.specs.Hierarchy.{Instance}
use Rattle.elab_model.specs.Homes.{terminal}
use Rattle.elab_model.specs.Names.{Variable, variable, variables}
use Rattle.elab_model.specs.Nets.{OwnNet, terminal_net, terminal_nets}
use Rattle.elab_laws.specs.Handing.{all_bits}
use Rattle.elab_laws.proofs.Lists.{In}
use Rattle.elab_laws.proofs.Legs.{variable-is}
use Rattle.elab_bits.specs.declared.bits.Bit as code_bit
use Rattle.elab_bits.specs.declared.bits.Bit.TheVariants as bit
use Rattle.elab_bits.specs.Seen.{bit_at, view_bit, IsInRow}
use Rattle.elab_nets.specs.Own.{net_at}
use Rattle.elab_nets.specs.Terminals.{first_output, at_constant}
use Rattle.elab_model.specs.Numbered.{undriven}
use Rattle.elab_nets.proofs.Counts.{piece-added, nothing-left}
use Rattle.elab_nets.proofs.Filters.{flat-none}
use Rattle.elab_nets.proofs.RowBits.{bit-of}

-- ---- one bit after another

-- what has been added so far
abbrev pub AreThere : Net → List code_bit.Bit → List Net → ℕ → List Net → Type 0
AreThere o bs before i nets = nets ++ flat_map (at_constant o) (drop i bs) ≡ before ++ flat_map (at_constant o) bs

next-of : (o : Net) (bs : List code_bit.Bit) (i : ℕ) (d b : code_bit.Bit) → i < length bs → slice_index_or bs i d ≡ b → flat_map (at_constant o) (drop i bs) ≡ at_constant o b ++ flat_map (at_constant o) (drop (i + 1) bs)
next-of o bs i d b lt e =
    let n : suc i ≡ i + 1 = omega arith in
    ap (flat_map (at_constant o)) (drop-cons bs i d lt) ∙ ap (λ x. at_constant o x ++ flat_map (at_constant o) (drop (suc i) bs)) e ∙ ap (λ k. at_constant o b ++ flat_map (at_constant o) (drop k bs)) n

pub net-skipped : (o : Net) (bs : List code_bit.Bit) (before : List Net) (i place : ℕ) (d : code_bit.Bit) (nets : List Net) → i < length bs → slice_index_or bs i d ≡ bit.Net place
    → AreThere o bs before i nets → AreThere o bs before (i + 1) nets
net-skipped o bs before i place d nets lt e h = ap (λ xs. nets ++ xs) (sym (next-of o bs i d (bit.Net place) lt e)) ∙ h

pub constant-added : (o : Net) (bs : List code_bit.Bit) (before : List Net) (i : ℕ) (p : Place) (v : Value) (d : code_bit.Bit) (nets later : List Net) → i < length bs → slice_index_or bs i d ≡ bit.Constant p v
    → later ≡ nets ++ o ∷ [] → AreThere o bs before i nets → AreThere o bs before (i + 1) later
constant-added o bs before i p v d nets later lt e l h =
    piece-added nets (o ∷ []) (flat_map (at_constant o) (drop (i + 1) bs)) later (flat_map (at_constant o) (drop i bs)) _ (next-of o bs i d (bit.Constant p v) lt e) l h

pub all-there : (o : Net) (bs : List code_bit.Bit) (before : List Net) (i : ℕ) (nets : List Net) → length bs ≤ i → AreThere o bs before i nets → nets ≡ before ++ flat_map (at_constant o) bs
all-there o bs before i nets le h = nothing-left nets (flat_map (at_constant o) (drop i bs)) _ (ap (flat_map (at_constant o)) (drop_all i bs le)) h

-- and so many there would be where one more is too many
pub would-be : (o : Net) (bs : List code_bit.Bit) (before : List Net) (i : ℕ) (p : Place) (v : Value) (d : code_bit.Bit) (nets : List Net) → i < length bs → slice_index_or bs i d ≡ bit.Constant p v
    → AreThere o bs before i nets → length nets + 1 + length (flat_map (at_constant o) (drop (i + 1) bs)) ≡ length before + length (flat_map (at_constant o) bs)
would-be o bs before i p v d nets lt e h =
    let rest = flat_map (at_constant o) (drop (i + 1) bs) in
    let n : flat_map (at_constant o) (drop i bs) ≡ o ∷ rest = next-of o bs i d (bit.Constant p v) lt e in
    let c : length nets + length (flat_map (at_constant o) (drop i bs)) ≡ length before + length (flat_map (at_constant o) bs) =
    sym (length-append nets (flat_map (at_constant o) (drop i bs))) ∙ ap length h ∙ length-append before (flat_map (at_constant o) bs) in
    let k : length (flat_map (at_constant o) (drop i bs)) ≡ suc (length rest) = ap length n in
    omega arith

-- ---- the nets of the definition

-- where the first output is no net, there are none
pub no-output : (vs : List Variable) (s : Instance) (k : ℕ) (outputs inputs : List code_bit.Bit) → first_output outputs ≡ None → terminal_nets s k (map (view_bit vs) outputs) (map (view_bit vs) inputs) ≡ []
no-output vs s k [] inputs h = flat-none (terminal_net s k []) (enumerate_from 0 (map (view_bit vs) inputs)) (λ b. refl)
no-output vs s k (bit.Net i ∷ bs) inputs h = cc
no-output vs s k (bit.Constant p v ∷ bs) inputs h = flat-none (terminal_net s k (constant p v ∷ map (view_bit vs) bs)) (enumerate_from 0 (map (view_bit vs) inputs)) (λ b. refl)

-- a constant's net has the name of the first output
abbrev named : Instance → List ℕ → ℕ → Net
named s m q = undriven (record { spot = terminal 0 0 0; scope = s.step.number; name = m; bit = index_at (variable s.step.definition m).range q })

each-constant : (vs : List Variable) (s : Instance) (k : ℕ) (m : List ℕ) (q : ℕ) (outputs : List Bit) (j : ℕ) (bs : List code_bit.Bit)
    → map undriven (flat_map (terminal_net s k (net m q ∷ outputs)) (enumerate_from j (map (view_bit vs) bs))) ≡ flat_map (at_constant (named s m q)) bs
each-constant vs s k m q outputs j [] = refl
each-constant vs s k m q outputs j (bit.Net i ∷ bs) = each-constant vs s k m q outputs (j + 1) bs
each-constant vs s k m q outputs j (bit.Constant p v ∷ bs) = ap (λ xs. named s m q ∷ xs) (each-constant vs s k m q outputs (j + 1) bs)

pub same-name : (vs : List Variable) (s : Instance) (scope i : ℕ) → vs ≡ variables s.step.definition → s.step.number ≡ scope → i < length (all_bits vs)
    → named s (bit_at vs i).0.name (bit_at vs i).1 ≡ net_at scope (bit_at vs i)
same-name vs s scope i e n lt =
    let v = (bit_at vs i).0 in
    let there : In v (variables s.step.definition) = subst (In v) e (bit-of vs i lt) in
    ap (λ w. undriven (record { spot = terminal 0 0 0; scope = s.step.number; name = v.name; bit = index_at w.range (bit_at vs i).1 })) (variable-is s.step.definition v there)
    ∙ ap (λ k. net_at k (bit_at vs i)) n

pub with-output : (vs : List Variable) (s : Instance) (k scope : ℕ) (outputs inputs : List code_bit.Bit) (i : ℕ) → vs ≡ variables s.step.definition → s.step.number ≡ scope → i < length (all_bits vs)
    → first_output outputs ≡ Some i → map undriven (terminal_nets s k (map (view_bit vs) outputs) (map (view_bit vs) inputs)) ≡ flat_map (at_constant (net_at scope (bit_at vs i))) inputs
with-output vs s k scope [] inputs i e n lt h = cc
with-output vs s k scope (bit.Constant p v ∷ bs) inputs i e n lt h = cc
with-output vs s k scope (bit.Net j ∷ bs) inputs i e n lt h =
    let same : j ≡ i = cc in
    let below : j < length (all_bits vs) = subst (λ x. x < length (all_bits vs)) (sym same) lt in
    let b = bit_at vs j in
    each-constant vs s k b.0.name b.1 (map (view_bit vs) bs) 0 inputs
    ∙ ap (λ o. flat_map (at_constant o) inputs) (same-name vs s scope j e n below)
    ∙ ap (λ x. flat_map (at_constant (net_at scope (bit_at vs x))) inputs) same

-- the first output stands in the row
pub output-in_row : (vs : List Variable) (outputs : List code_bit.Bit) (i : ℕ) → AllByRecursion (IsInRow vs) outputs → first_output outputs ≡ Some i → i < length (all_bits vs)
output-in_row vs [] i h e = cc
output-in_row vs (bit.Constant p v ∷ bs) i h e = cc
output-in_row vs (bit.Net j ∷ bs) i h e = let same : j ≡ i = cc in subst (λ x. x < length (all_bits vs)) same h.0

-- ---- what is added, as the definition has it

pub none-added : (nets : List Net) (os : List OwnNet) → os ≡ [] → nets ≡ nets ++ map undriven os
none-added nets os e = sym (append-nil nets) ∙ ap (λ xs. nets ++ map undriven xs) (sym e)

pub are-meant : (vs : List Variable) (s : Instance) (k scope : ℕ) (outputs inputs : List code_bit.Bit) (i : ℕ) → All (IsInRow vs) outputs → vs ≡ variables s.step.definition → s.step.number ≡ scope
    → first_output outputs ≡ Some i
    → flat_map (at_constant (net_at scope (bit_at vs i))) inputs ≡ map undriven (terminal_nets s k (map (view_bit vs) outputs) (map (view_bit vs) inputs))
are-meant vs s k scope outputs inputs i h e n f = sym (with-output vs s k scope outputs inputs i e n (output-in_row vs outputs i (recursion_from_All (IsInRow vs) outputs h) f) f)

pub count-meant : (vs : List Variable) (s : Instance) (k scope : ℕ) (outputs inputs : List code_bit.Bit) (i : ℕ) → All (IsInRow vs) outputs → vs ≡ variables s.step.definition → s.step.number ≡ scope
    → first_output outputs ≡ Some i
    → length (flat_map (at_constant (net_at scope (bit_at vs i))) inputs) ≡ length (terminal_nets s k (map (view_bit vs) outputs) (map (view_bit vs) inputs))
count-meant vs s k scope outputs inputs i h e n f = ap length (are-meant vs s k scope outputs inputs i h e n f) ∙ length-map (terminal_nets s k (map (view_bit vs) outputs) (map (view_bit vs) inputs)) undriven
