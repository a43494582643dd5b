-- The faults of a module's declarations, as the code looks for them.
use Rattle.std.specs.Prelude.{◌≡◌, List, [], ◌++◌}
use Rattle.std.proofs.Common.{sym, ◌∙◌, ap, subst}
use Rattle.std.proofs.lemmas.List.Folds.{flat_map-map}
use Rattle.sg_text.specs.declared.refusals.Refused.{Refused}
use Rattle.vl_tree.specs.Tree.{Module}
use Rattle.elab_model.specs.declared.kinds.ElabKind.{ElabKind}
use Rattle.elab_model.specs.declared.kinds.ElabKind.TheVariants.{TooMany}
use Rattle.elab_model.specs.Faults.{fault_if, RefusesOneOf}
use Rattle.elab_model.specs.NameFaults.{name_faults, range_texts, two_ranges, too_wide, declaration_faults}
use Rattle.elab_names.specs.GivenRanges.{NamedRange, given, given_by_text, range_faults, is_wide, width_faults}
use Rattle.elab_names.proofs.OwnNets.{two-ranges}
use Rattle.elab_declared.proofs.Refusals.{refused-left, refused-right}

widths-given : (m : Module) → width_faults (given (range_texts m)) ≡ too_wide m
widths-given m = flat_map-map (λ s. fault_if (is_wide s) TooMany s.name.place) given_by_text (range_texts m)

pub faultless : (m : Module) (rs : List NamedRange) → rs ≡ given (range_texts m) → name_faults m ≡ [] → range_faults rs ≡ [] → width_faults rs ≡ []
    → declaration_faults m ≡ []
faultless m rs e n r w =
    ap (λ fs. fs ++ (two_ranges m ++ too_wide m)) n ∙ ap (λ fs. fs ++ too_wide m) (sym (two-ranges m n) ∙ ap range_faults (sym e) ∙ r)
    ∙ (sym (widths-given m) ∙ ap width_faults (sym e) ∙ w)

pub refused-range : (m : Module) (rs : List NamedRange) (r : Refused ElabKind) → rs ≡ given (range_texts m) → name_faults m ≡ [] → RefusesOneOf (range_faults rs) r → RefusesOneOf (declaration_faults m) r
refused-range m rs r e n h =
    refused-right (name_faults m) (two_ranges m ++ too_wide m) r (refused-left (two_ranges m) (too_wide m) r
    (subst (λ fs. RefusesOneOf fs r) (ap range_faults e ∙ two-ranges m n) h))

pub refused-width : (m : Module) (rs : List NamedRange) (r : Refused ElabKind) → rs ≡ given (range_texts m) → RefusesOneOf (width_faults rs) r → RefusesOneOf (declaration_faults m) r
refused-width m rs r e h =
    refused-right (name_faults m) (two_ranges m ++ too_wide m) r (refused-right (two_ranges m) (too_wide m) r
    (subst (λ fs. RefusesOneOf fs r) (ap width_faults e ∙ widths-given m) h))
