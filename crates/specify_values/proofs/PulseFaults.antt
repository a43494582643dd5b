-- What is wrong with one pulse limit, by what its name says; and limits for all other paths.
use Rattle.std.specs.Prelude.{◌≡◌, ℕ, suc, ◌==◌, ◌&&◌, not, Bool, true, false, List, [], ◌∷◌, ◌++◌, Option, Some, None, find, length, refl, if◌then◌else◌}
use Rattle.std.proofs.Common.{sym, ◌∙◌, ap, arith}
use Rattle.std.proofs.lemmas.Bool.{eqb-true}
use Rattle.std.proofs.Math.Bool.{and-false}
use Rattle.sg_delay.specs.declared.limits.Widths.{Widths}
use Rattle.elab_model.specs.declared.kinds.ElabKind.TheVariants.{UnknownName, BadDelay}
use Rattle.elab_model.specs.Faults.{fault_if}
use Rattle.elab_model.specs.Hierarchy.{is_empty}
use Rattle.elab_model.specs.Names.{Variable}
use Rattle.elab_model.specs.TerminalFaults.{is_missing}
use Rattle.specify_model.specs.Blocks.{Pulse}
use Rattle.specify_model.specs.Faults.{has_no_ends, are_bad_limits, pulse_faults}
use Rattle.specify_model.specs.PulseLimits.{limit_ticks, ends_text, cuts, are_ports, are_ends}
use Rattle.specify_model.specs.Values.{Measure}
use Rattle.specify_values.specs.Seen.{IsAdded, widths_seen, named_limit, other_limit}
use Rattle.specify_values.specs.declared.limits.PulseLimits.{PulseLimits}

pub text-empty : (text : List ℕ) (b : Bool) → b ≡ (length text == 0) → b ≡ true → is_empty text ≡ true
text-empty [] b h e = refl
text-empty (x ∷ xs) b h e = let z : suc (length xs) ≡ 0 = eqb-true (suc (length xs)) 0 (sym h ∙ e) in absurd (omega arith)

nothing-if : (text : List ℕ) → is_empty text ≡ true → text ≡ []
nothing-if [] e = refl
nothing-if (x ∷ xs) e = cc

module _ (vs : List Variable) (p : Pulse) (text : List ℕ) (is : text ≡ ends_text p) where
  -- the text, and what is found in it
  said : (b : Bool) (ends : Option (List ℕ × List ℕ)) → is_empty text ≡ b → ends ≡ find (are_ports vs) (cuts text) → has_no_ends vs p ≡ (not b && is_missing ends)
  said b ends e found =
      ap (λ t. not (is_empty t) && is_missing (find (are_ports vs) (cuts t))) (sym is) ∙ ap (λ c. not c && is_missing (find (are_ports vs) (cuts text))) e
      ∙ ap (λ o. not b && is_missing o) (sym found)

  pub no-ends-said : is_empty text ≡ false → None ≡ find (are_ports vs) (cuts text) → has_no_ends vs p ≡ true
  no-ends-said e found = said false None e found

  pub ends-said : (ends : List ℕ × List ℕ) → Some ends ≡ find (are_ports vs) (cuts text) → has_no_ends vs p ≡ false
  ends-said ends found = said (is_empty text) (Some ends) refl found ∙ and-false (not (is_empty text))

  pub no-text-said : is_empty text ≡ true → has_no_ends vs p ≡ false
  no-text-said e = said true (find (are_ports vs) (cuts text)) e refl

  -- limits without ends are those of all other paths
  pub others-added : (by : Measure) (w : Widths) (t : PulseLimits) → is_empty text ≡ true → widths_seen w ≡ limit_ticks by p → IsAdded by vs t (record { named = t.named; others = Some w }) p
  others-added by w t e widths =
      let none : ends_text p ≡ [] = sym is ∙ nothing-if text e in
      record {
        named = λ i o. sym (ap (λ u. if are_ends i o (find (are_ports vs) (cuts u)) then Some (limit_ticks by p) else named_limit t i o) none);
        others = ap (λ l. Some l) widths ∙ sym (ap (λ u. if is_empty u then Some (limit_ticks by p) else other_limit t) none);
      }

pub faultless : (by : Measure) (vs : List Variable) (p : Pulse) → has_no_ends vs p ≡ false → are_bad_limits (limit_ticks by p) ≡ false → pulse_faults by vs p ≡ []
faultless by vs p e f = λ i. fault_if (e i) UnknownName p.name.place ++ fault_if (f i) BadDelay p.name.place
