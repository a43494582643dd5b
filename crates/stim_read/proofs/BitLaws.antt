-- The bits that sets set, one after another.
use Rattle.std.proofs.Common.{ℕ, ◌≡◌, ◌++◌, ◌==◌, List, [], ◌∷◌, length, map, not, refl, sym, ap, ◌∙◌, subst, Some, None}
use Rattle.std.specs.Prelude.{zip}
use Rattle.std.proofs.lemmas.Bool.{eq-eqb, ne_eqb}
use Rattle.std.proofs.lemmas.List.{append_assoc, append-nil, map-append}
use Rattle.sg_logic.specs.declared.values.Value.{Value}
use Rattle.sg_stimulus.specs.declared.steps.Set as code_bit
use Rattle.sg_stimulus.specs.Seen.{set_seen as bit_seen}
use Rattle.sg_circuit.specs.Circuit.{Circuit}
use Rattle.stim_read.specs.declared.kinds.StimKind.TheVariants.{UnknownInput, WidthMismatch}
use Rattle.stim_read.specs.Sets.{Set}
use Rattle.stim_read.specs.Inputs.{value_of, bits_from, bits_set, nets_named}
use Rattle.stim_read.specs.Faults.{fault_if, set_faults, width_faults}
use Rattle.stim_read.specs.Meant.{RefusesOneOf}
use Rattle.stim_read.proofs.Refusals.{told, head-refused, test-refused}

-- the rest completes what there is, in lists made of pieces
pub more-pieces : {A : Type 0} (all old new piece rest : List A) → all ≡ old ++ (piece ++ rest) → new ≡ old ++ piece → all ≡ new ++ rest
more-pieces all old new piece rest h n = h ∙ sym (append_assoc old piece rest) ∙ ap (λ x. x ++ rest) (sym n)

pub seen-push : (new old : List code_bit.Set) (c : code_bit.Set) → new ≡ old ++ c ∷ [] → map (λ x. bit_seen x) new ≡ map (λ x. bit_seen x) old ++ bit_seen c ∷ []
seen-push new old c e = ap (map (λ x. bit_seen x)) e ∙ map-append (λ x. bit_seen x) old (c ∷ [])

pub zip-next : (nets digits : List ℕ) (n d : ℕ) (ns ds : List ℕ) → nets ≡ n ∷ ns → digits ≡ d ∷ ds → zip nets (map value_of digits) ≡ (n, value_of d) ∷ zip ns (map value_of ds)
zip-next nets digits n d ns ds e f = ap (λ x. zip x (map value_of digits)) e ∙ ap (λ x. zip (n ∷ ns) (map value_of x)) f

pub nothing-left : {A : Type 0} (all done rest : List A) → rest ≡ [] → all ≡ done ++ rest → done ≡ all
nothing-left all done rest e h = sym (h ∙ ap (λ x. done ++ x) e ∙ append-nil done)

zip-none : (nets : List ℕ) → zip {X = Value} nets [] ≡ []
zip-none [] = refl
zip-none (n ∷ ns) = refl

pub no-digit-left : (all done : List (ℕ × Value)) (nets digits : List ℕ) → digits ≡ [] → all ≡ done ++ zip nets (map value_of digits) → done ≡ all
no-digit-left all done nets digits e h = nothing-left all done (zip nets (map value_of digits)) (ap (λ d. zip nets (map value_of d)) e ∙ zip-none nets) h

-- ---- a set

pub unknown-set : (circuit : Circuit) (byte : ℕ) (s : Set) → None ≡ nets_named circuit s.target → RefusesOneOf (set_faults circuit byte s) (told UnknownInput byte)
unfolding set_faults
unknown-set circuit byte s e = subst (λ o. RefusesOneOf (width_faults byte s.digits o) (told UnknownInput byte)) e (head-refused UnknownInput byte [])

pub other-width : (circuit : Circuit) (byte : ℕ) (s : Set) (nets : List ℕ) → Some nets ≡ nets_named circuit s.target → (length s.digits ≡ length nets → ⊥) → RefusesOneOf (set_faults circuit byte s) (told WidthMismatch byte)
unfolding set_faults
other-width circuit byte s nets e h =
    subst (λ o. RefusesOneOf (width_faults byte s.digits o) (told WidthMismatch byte)) e
    (test-refused (not (length s.digits == length nets)) WidthMismatch byte (ap not (ne_eqb (length s.digits) (length nets) h)))

same-width : (a b byte : ℕ) → a ≡ b → fault_if (not (a == b)) WidthMismatch byte ≡ []
same-width a b byte e = rw (eq-eqb a b e) refl

pub fine-set : (circuit : Circuit) (byte : ℕ) (s : Set) (nets : List ℕ) → Some nets ≡ nets_named circuit s.target → length s.digits ≡ length nets → set_faults circuit byte s ≡ []
unfolding set_faults
fine-set circuit byte s nets e h = subst (λ o. width_faults byte s.digits o ≡ []) e (same-width (length s.digits) (length nets) byte h)

pub set-bits : (circuit : Circuit) (s : Set) (nets : List ℕ) (new old : List (ℕ × Value)) → Some nets ≡ nets_named circuit s.target → new ≡ old ++ zip nets (map value_of s.digits) → new ≡ old ++ bits_set circuit s
unfolding bits_set
set-bits circuit s nets new old e h = subst (λ o. new ≡ old ++ bits_from s.digits o) e h
