-- The bit of a reg is the first of its variable.
use Rattle.std.specs.Prelude.{◌≡◌, ℕ, ◌+◌, ◌<◌, ◌≤◌, List, [], Bool, false, true, not, Some, None, length, take, refl}
use Rattle.std.proofs.Common.{sym, ◌∙◌, ap, arith, subst}
use Rattle.sg_circuit.specs.Closed.{width_of}
use Rattle.sg_text.specs.declared.refusals.Refused.TheVariants as refused
use Rattle.vl_tree.specs.Tree.{Named}
use Rattle.elab_bits.specs.Seen.{bit_at}
use Rattle.elab_bits.proofs.InRow.{place-is, stands-within}
use Rattle.elab_bits.proofs.NamedAt.{named-at, not-named}
use Rattle.elab_laws.specs.Handing.{all_bits}
use Rattle.elab_model.specs.declared.kinds.ElabKind.TheVariants.{UnknownName, BadTerminal}
use Rattle.elab_model.specs.Bits.{variable_named}
use Rattle.elab_model.specs.Faults.{fault_if, RefusesOneOf}
use Rattle.elab_model.specs.Names.{Variable}
use Rattle.elab_variables.specs.Seen.{variable_at, place_named}
use Rattle.specify_model.specs.CheckFaults.{found_notifier_faults}
use Rattle.specify_model.specs.Checks.{reg_bit}
use Rattle.elab_ends.specs.Seen.{bit_seen}
use Rattle.specify_values.proofs.InTurn.{fault-told}
use Rattle.specify_checks.proofs.OneBit.{has-bit}

pub unknown-told : (vs : List Variable) (n : Named) → None ≡ place_named vs n.text → RefusesOneOf (found_notifier_faults n (variable_named vs n.text)) (refused.Fault UnknownName n.place)
unknown-told vs n e = subst (λ o. RefusesOneOf (found_notifier_faults n o) (refused.Fault UnknownName n.place)) (sym (not-named vs n.text e)) (fault-told true UnknownName n.place refl)

module _ (vs : List Variable) (n : Named) (i start : ℕ) (found : Some i ≡ place_named vs n.text) where
  named : variable_named vs n.text ≡ Some (variable_at vs i)
  named = (named-at vs n.text i found).found

  pub no_reg-told : (reg : Bool) → reg ≡ (variable_at vs i).is_reg → not reg ≡ true → RefusesOneOf (found_notifier_faults n (variable_named vs n.text)) (refused.Fault BadTerminal n.place)
  no_reg-told reg e h =
      subst (λ o. RefusesOneOf (found_notifier_faults n o) (refused.Fault BadTerminal n.place)) (sym named) (fault-told (not (variable_at vs i).is_reg) BadTerminal n.place (ap not (sym e) ∙ h))

  pub reg-faultless : (reg : Bool) → reg ≡ (variable_at vs i).is_reg → not reg ≡ false → found_notifier_faults n (variable_named vs n.text) ≡ []
  reg-faultless reg e h = ap (found_notifier_faults n) named ∙ ap (λ b. fault_if b BadTerminal n.place) (ap not (sym e) ∙ h)

  pub start-seen : start ≡ length (all_bits (take i vs)) → bit_seen vs start ≡ reg_bit n
  start-seen e =
      let at = named-at vs n.text i found in
      let place : start ≡ length (all_bits (take i vs)) + 0 = omega (arith, e) in
      let stands : bit_at vs (length (all_bits (take i vs)) + 0) ≡ (variable_at vs i, 0) = place-is vs i 0 _ at.below (has-bit (variable_at vs i).range) in
      ap (bit_seen vs) place ∙ ap (λ x. record { name = x.0.name; position = x.1 }) stands ∙ ap (λ t. record { name = t; position = 0 }) at.name

  pub start-in_row : start ≡ length (all_bits (take i vs)) → start < length (all_bits vs)
  start-in_row e =
      let at = named-at vs n.text i found in
      let some : 0 < width_of (variable_at vs i).range = has-bit (variable_at vs i).range in
      below start (length (all_bits (take i vs))) (width_of (variable_at vs i).range) (length (all_bits vs)) e some (stands-within vs i at.below)
    where
      below : (k s n t : ℕ) → k ≡ s → 0 < n → s + n ≤ t → k < t
      below k s n t e lt le = omega arith
