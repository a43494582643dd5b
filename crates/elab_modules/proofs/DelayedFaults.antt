-- What is wrong with the names that a timing check gives to delayed copies.
use Rattle.std.specs.Prelude.{◌≡◌, List, ◌++◌, false, Option, None, flat_map, option_map}
use Rattle.std.proofs.Common.{sym, ◌∙◌, ap}
use Rattle.std.proofs.lemmas.Grind.{flat_map-append}
use Rattle.std.proofs.lemmas.List.Folds.{flat_map-map}
use Rattle.sg_text.specs.declared.places.Place.{Place}
use Rattle.vl_tree.specs.declared.check_names.TwoLimitCheck.{TwoLimitCheck}
use Rattle.vl_tree.specs.declared.checks.Check as code_check
use Rattle.vl_tree.specs.declared.checks.Check.TheVariants as variant
use Rattle.vl_tree.specs.declared.checks.Event.{Event}
use Rattle.vl_tree.specs.declared.names.Name.{Name}
use Rattle.vl_tree.specs.declared.specify.Limit.{Limit}
use Rattle.vl_tree.specs.Seen.{view_check, view_name}
use Rattle.vl_tree.specs.Tree.{signal}
use Rattle.elab_model.specs.Faults.{Fault}
use Rattle.elab_model.specs.Members.{check, listed, member_values}
use Rattle.elab_model.specs.Names.{Variable}
use Rattle.elab_modules.specs.Telling.{joined_faults}

abbrev pub name_faults : List Variable → Option Name → List Fault
name_faults vs n = flat_map (λ x. joined_faults vs 1 false (signal x None)) (listed (option_map view_name n))

-- those of the reference's name, and of the data's
pub both-names : (vs : List Variable) (x : code_check.Check) (p : Place) (k : TwoLimitCheck) (r d : Event) (l n : Limit) (o f g : Option Name) → x ≡ variant.TwoLimits p k r d l n o f g
    → name_faults vs f ++ name_faults vs g ≡ flat_map (joined_faults vs 1 false) (member_values (check (view_check x)))
both-names vs x p k r d l n o f g is =
    let fs = listed (option_map view_name f) in
    let gs = listed (option_map view_name g) in
    sym (flat_map-append (λ y. joined_faults vs 1 false (signal y None)) fs gs) ∙ sym (flat_map-map (joined_faults vs 1 false) (λ y. signal y None) (fs ++ gs))
    ∙ ap (λ y. flat_map (joined_faults vs 1 false) (member_values (check (view_check y)))) (sym is)
