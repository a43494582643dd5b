-- The parts of a timing check's text, as private functions hand them on.
use Rattle.std.specs.Prelude.{◌≡◌, ◌∷◌, option_to_list}
use Rattle.std.specs.Option.{option_map}
use Rattle.vl_tree.specs.Seen.{view_event, view_limit, view_name}
use Rattle.vl_tree.specs.Tree.{Check}
use Rattle.specify_model.specs.Checks.{place_of, kind_of, reference_of, data_of, limits_in, threshold_of, notifier_of}
use Rattle.specify_checks.specs.declared.parts.Parts.{Parts}

pub record ArePartsOf (c : Check) (p : Parts) : Type 0 where
  pub place_is : p.place ≡ place_of c
  pub kind_is : p.kind ≡ kind_of c
  pub reference_is : view_event p.reference.now ≡ reference_of c
  pub data_is : option_map (λ e. view_event e.now) p.data ≡ data_of c
  pub limits_are : view_limit p.first ∷ option_to_list (option_map view_limit p.second) ≡ limits_in c
  pub threshold_is : option_map view_limit p.threshold ≡ threshold_of c
  pub notifier_is : option_map view_name p.notifier ≡ notifier_of c
