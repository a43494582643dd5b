-- A store that counts a node has one.
use Rattle.std.proofs.Common.{◌≡◌, ℕ, suc, ◌==◌, Bool, false, List, [], ◌∷◌, refl, sym, ◌∙◌, IsSome}
use Rattle.std.specs.Prelude.{slice_index_or}
use Rattle.std.specs.List.{count_by}
use Rattle.std.specs.Option.{is_some}
use Rattle.std.proofs.lemmas.Bool.{OnFalse_from}
use Rattle.std.specs.Bool.{OnFalse}
use Rattle.std.specs.declared.option.Option.{Option}
use Rattle.std.specs.declared.option.Option.TheVariants.{Some, None}
use Rattle.event_wheel.specs.declared.nodes.Node.{Node}

some_slot : (slots : List (Option Node)) → (count_by is_some slots == 0) ≡ false → (k : ℕ) × IsSome (slice_index_or slots k None)
some_slot [] e = cc
some_slot (None ∷ slots) e = let r = some_slot slots e in (suc r.0, r.1)
some_slot (Some node ∷ slots) e = (0, refl)

pub has_slot : (slots : List (Option Node)) (empty : Bool) → empty ≡ (count_by is_some slots == 0) → OnFalse empty ((k : ℕ) × IsSome (slice_index_or slots k None))
has_slot slots empty e = OnFalse_from empty ((k : ℕ) × IsSome (slice_index_or slots k None)) (λ f. some_slot slots (sym e ∙ f))
