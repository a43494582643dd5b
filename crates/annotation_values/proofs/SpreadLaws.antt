-- What a list gives, before and after each of its values is changed.
use Rattle.std.specs.Prelude.{◌≡◌, Bool, List, [], ◌∷◌, map, Option, Some, is_some, Result, if◌then◌else◌}
use Rattle.std.specs.List.{list_any}
use Rattle.std.proofs.Common.{subst, sym}
use Rattle.sg_delay.specs.Expansion.{six}
use Rattle.sg_circuit.specs.Timings.{Timing}
use Rattle.sg_circuit.specs.declared.elements.LegTiming.{LegTiming}
use Rattle.annotation_model.specs.Applied.{Change, listed, spread, with_x, changed_each, with_changes, is_each_large}
use Rattle.annotation_values.specs.Changes.{in_order}
use Rattle.annotation_values.specs.Leg.{TellsAll}

pub six_spread : {A : Type 0} (f : A → Option Change) (vs xs : List A) → in_order (six vs) ≡ Some xs → (spread (map f vs) ≡ map f xs) × (listed (six (map f vs)) ≡ map f xs)
six_spread f [] xs e = absurd cc
six_spread f (a ∷ []) xs e = (cc, cc)
six_spread f (a ∷ b ∷ []) xs e = (cc, cc)
six_spread f (a ∷ b ∷ c ∷ []) xs e = (cc, cc)
six_spread f (a ∷ b ∷ c ∷ d ∷ []) xs e = absurd cc
six_spread f (a ∷ b ∷ c ∷ d ∷ g ∷ []) xs e = absurd cc
six_spread f (a ∷ b ∷ c ∷ d ∷ g ∷ h ∷ []) xs e = (cc, cc)
six_spread f (a ∷ b ∷ c ∷ d ∷ g ∷ h ∷ i ∷ vs) xs e = absurd cc

-- six values, and those to and from x
abbrev with_six : Bool → List (Option Change) → List Timing → (x_by : List (Option Change)) → List Timing
with_six increment cs ts x_by = if list_any (λ o. is_some o) x_by then with_x (changed_each increment cs ts) else changed_each increment cs ts

pub six_whole : {A E : Type 0} (increment : Bool) (f : A → Option Change) (vs xs : List A) (ts : List Timing) (r : Result LegTiming E) → in_order (six vs) ≡ Some xs
    → TellsAll (is_each_large increment (map f xs) ts) (if list_any (λ o. is_some o) (map f xs) then with_x (changed_each increment (map f xs) ts) else changed_each increment (map f xs) ts) r
    → TellsAll (is_each_large increment (spread (map f vs)) ts) (with_changes increment (map f vs) ts) r
six_whole increment f vs xs ts r e told =
    let is = six_spread f vs xs e in
    subst (λ cs. TellsAll (is_each_large increment cs ts) (with_six increment cs ts (listed (six (map f vs)))) r) (sym is.0)
    (subst (λ cs. TellsAll (is_each_large increment (map f xs) ts) (with_six increment (map f xs) ts cs) r) (sym is.1) told)
