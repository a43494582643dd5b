-- Events over the nets of an instance's row.
use Rattle.std.specs.Prelude.{◌≡◌, ℕ, ◌<◌, List, Option, Some, None, length, slice_get, slice_index_or}
use Rattle.std.specs.Option.{option_map}
use Rattle.std.proofs.Common.{sym, ◌∙◌, ap, arith, subst}
use Rattle.std.proofs.lemmas.Option.{slice_get_within, slice_get-get_or}
use Rattle.cond_expr.specs.Binding.{IsBound, BindFaultStands}
use Rattle.cond_expr.specs.declared.binding.BindFault.{BindFault}
use Rattle.cond_expr.specs.declared.binding.BindFault.TheVariants.{Unknown}
use Rattle.cond_expr.specs.Condition.{Condition}
use Rattle.cond_expr.specs.Token.{Tok}
use Rattle.cond_expr.specs.Tree.{Cond}
use Rattle.sg_circuit.specs.declared.checks.Event.{Event}
use Rattle.elab_model.specs.Names.{Variable}
use Rattle.specify_model.specs.Conditions.{over}
use Rattle.elab_model.specs.Terms.{NetBit}
use Rattle.circuit_model.specs.CheckUses.{event_of_use, event_use}
use Rattle.elab_laws.specs.Handing.{all_bits}
use Rattle.elab_ends.specs.Seen.{bit_seen}
use Rattle.specify_checks.specs.Seen.{enabling_seen}
use Rattle.elab_paths.specs.Operands.{net_named}
use Rattle.elab_paths.specs.Uses.{IsRow, IsSound}
use Rattle.elab_paths.proofs.AddedPaths.{net-in-row, row-long}
use Rattle.elab_paths.proofs.BoundOperands.{bound-over, none-unknown}
use Rattle.elab_checks.specs.Ready.{event_ready}
use Rattle.elab_checks.specs.Uses.{enabled_over, IsBindable}
use Rattle.elab_checks.specs.declared.shelving.ReadyEvent.{ReadyEvent}

-- ---- the condition at a place of the table

bindable-some : (vs : List Variable) (conditions : List Condition) (o : Option ℕ) (w : ℕ) → o ≡ Some w → IsBindable vs conditions o → (c : Condition) × ((slice_get conditions w ≡ Some c) × IsSound vs c)
bindable-some vs conditions o w e h = subst (IsBindable vs conditions) e h

pub written-within : (vs : List Variable) (conditions : List Condition) (o : Option ℕ) (w : ℕ) → o ≡ Some w → IsBindable vs conditions o → w < length conditions
written-within vs conditions o w e h = let k = bindable-some vs conditions o w e h in slice_get_within conditions w k.0 k.1.0

sound-at : (vs : List Variable) (conditions : List Condition) (o : Option ℕ) (w : ℕ) (c : Condition) → o ≡ Some w → slice_get conditions w ≡ Some c → IsBindable vs conditions o → IsSound vs c
sound-at vs conditions o w c e f h =
    let k = bindable-some vs conditions o w e h in
    let g : ◌≡◌ {A = Option Condition} (Some k.0) (Some c) = sym k.1.0 ∙ f in
    let same : k.0 ≡ c = cc in
    subst (IsSound vs) same k.1.1

pub condition-bound : (vs : List Variable) (row : List ℕ) (net : NetBit → ℕ) (conditions : List Condition) (o : Option ℕ) (w : ℕ) (c : Condition) (b : Cond ℕ) → o ≡ Some w → slice_get conditions w ≡ Some c
    → IsBindable vs conditions o → IsRow vs row net → IsBound (net_named vs row) c.tokens c.tree b → Some b ≡ enabled_over net conditions vs o
condition-bound vs row net conditions o w c b e f h r k =
    ap (λ x. Some x) (bound-over vs row net c b r (sound-at vs conditions o w c e f h) k)
    ∙ ap (λ x. option_map (λ (y : List Tok × Cond ℕ). y.1) (option_map (λ (y : List Tok × Cond NetBit). (y.0, over net y.1)) (option_map (enabling_seen vs) x))) (sym f)
    ∙ ap (enabled_over net conditions vs) (sym e)

pub never-unknown : (vs : List Variable) (row : List ℕ) (net : NetBit → ℕ) (conditions : List Condition) (o : Option ℕ) (w : ℕ) (c : Condition) (fault : BindFault) (at : ℕ) → o ≡ Some w
    → slice_get conditions w ≡ Some c → IsBindable vs conditions o → IsRow vs row net → fault ≡ Unknown at → BindFaultStands (net_named vs row) c.tokens c.tree fault → ⊥
never-unknown vs row net conditions o w c fault at e f h r g k =
    none-unknown vs row net c at r (sound-at vs conditions o w c e f h) (subst (BindFaultStands (net_named vs row) c.tokens c.tree) g k)

pub none-enabled : (net : NetBit → ℕ) (conditions : List Condition) (vs : List Variable) (o : Option ℕ) → o ≡ None → None ≡ enabled_over net conditions vs o
none-enabled net conditions vs o e = ap (enabled_over net conditions vs) (sym e)

-- ---- events

pub bit-within : (vs : List Variable) (row : List ℕ) (net : NetBit → ℕ) (i : ℕ) → IsRow vs row net → i < length (all_bits vs) → i < length row
bit-within vs row net i r lt = let l = row-long vs row net r in omega (arith, l, lt)

net-is : (vs : List Variable) (row : List ℕ) (net : NetBit → ℕ) (i n : ℕ) → IsRow vs row net → i < length (all_bits vs) → slice_get row i ≡ Some n → n ≡ net (bit_seen vs i)
net-is vs row net i n r lt f =
    let g : ◌≡◌ {A = Option ℕ} (Some n) (Some (slice_index_or row i n)) = sym f ∙ slice_get-get_or row i n (bit-within vs row net i r lt) in
    let is : n ≡ slice_index_or row i n = cc in
    is ∙ net-in-row vs row net i n r lt

pub event-over : (vs : List Variable) (row : List ℕ) (net : NetBit → ℕ) (conditions : List Condition) (e : ReadyEvent) (n : ℕ) (b : Option (Cond ℕ)) → IsRow vs row net → e.bit < length (all_bits vs)
    → slice_get row e.bit ≡ Some n → b ≡ enabled_over net conditions vs e.condition
    → ◌≡◌ {A = Event} (record { net = n; edge = e.edge; condition = b }) (event_of_use (event_use net (event_ready conditions vs e)))
event-over vs row net conditions e n b r lt is enabled = λ i. record { net = net-is vs row net e.bit n r lt is i; edge = e.edge; condition = enabled i }
