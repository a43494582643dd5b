-- The first range that is too wide, among the code's.
use Rattle.std.specs.Prelude.{◌≡◌, List, [], Option, Some, None, map, flat_map, find}
use Rattle.std.specs.List.{IsAmong}
use Rattle.std.specs.Option.{option_map}
use Rattle.std.proofs.Common.{sym, ◌∙◌, subst, refl}
use Rattle.std.proofs.lemmas.List.Folds.{flat_map-map}
use Rattle.sg_text.specs.declared.places.Place.{Place}
use Rattle.elab_model.specs.declared.kinds.ElabKind.TheVariants.{TooMany}
use Rattle.elab_model.specs.Faults.{fault, fault_if}
use Rattle.elab_names.specs.GivenRanges.{view_range, is_wide, width_faults}
use Rattle.elab_names.specs.declared.ranges.NamedRange as code
use Rattle.elab_declared.proofs.Refusals.{none-found, some-found}

faults-are : (rs : List code.NamedRange) → width_faults (map view_range rs) ≡ flat_map (λ r. fault_if (is_wide (view_range r)) TooMany r.name.place) rs
faults-are rs = flat_map-map (λ s. fault_if (is_wide s) TooMany s.name.place) view_range rs

pub none-wide : (rs : List code.NamedRange) → None ≡ option_map (λ r. r.name.place) (find (λ r. is_wide (view_range r)) rs) → width_faults (map view_range rs) ≡ []
none-wide rs h = by (find (λ r. is_wide (view_range r)) rs) refl h
  where
    by : (o : Option code.NamedRange) → find (λ r. is_wide (view_range r)) rs ≡ o → None ≡ option_map (λ r. r.name.place) o → width_faults (map view_range rs) ≡ []
    by None e h = faults-are rs ∙ none-found TooMany (λ r. r.name.place) (λ r. is_wide (view_range r)) rs e
    by (Some r) e h = cc

pub some-wide : (rs : List code.NamedRange) (p : Place) → Some p ≡ option_map (λ r. r.name.place) (find (λ r. is_wide (view_range r)) rs) → IsAmong (width_faults (map view_range rs)) (fault TooMany p)
some-wide rs p h = by (find (λ r. is_wide (view_range r)) rs) refl h
  where
    by : (o : Option code.NamedRange) → find (λ r. is_wide (view_range r)) rs ≡ o → Some p ≡ option_map (λ r. r.name.place) o → IsAmong (width_faults (map view_range rs)) (fault TooMany p)
    by None e h = cc
    by (Some r) e h =
        let same : r.name.place ≡ p = cc in
        subst (λ fs. IsAmong fs (fault TooMany p)) (sym (faults-are rs))
        (subst (λ q. IsAmong (flat_map (λ r. fault_if (is_wide (view_range r)) TooMany r.name.place) rs) (fault TooMany q)) same (some-found TooMany (λ r. r.name.place) (λ r. is_wide (view_range r)) rs r e))
