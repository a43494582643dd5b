-- What a timing check asks for.
use Rattle.std.specs.Prelude.{◌≡◌, List, ◌++◌, Option, map, option_to_list}
use Rattle.std.specs.Option.{option_map}
use Rattle.std.proofs.Common.{sym, ◌∙◌, ap, subst, append_assoc}
use Rattle.sg_text.specs.declared.places.Place.{Place}
use Rattle.vl_tree.specs.declared.check_names.TwoLimitCheck.{TwoLimitCheck}
use Rattle.vl_tree.specs.declared.checks.Check as code_check
use Rattle.vl_tree.specs.declared.checks.Check.TheVariants as variant
use Rattle.vl_tree.specs.declared.checks.Event as code_event
use Rattle.vl_tree.specs.declared.names.Name as code_name
use Rattle.vl_tree.specs.declared.specify.Limit as code_limit
use Rattle.vl_tree.specs.Seen.{view_check, view_event, view_name}
use Rattle.vl_tree.specs.Tree.{Module}
use Rattle.elab_lates.specs.declared.copies.PlacedCopy.{PlacedCopy}
use Rattle.elab_lates.specs.declared.making.Asked.{Asked}
use Rattle.elab_lates.specs.Seen.{placed_seen}
use Rattle.elab_lates.specs.Words.{HasAsked}
use Rattle.elab_model.specs.Lates.{DelayedCopy, copies, copies_of}
use Rattle.elab_model.specs.Members.{check}
use Rattle.elab_model.specs.Names.{Variable, variables}

abbrev seen_of : List Variable → Option PlacedCopy → List (Place × DelayedCopy)
seen_of vs c = map (placed_seen vs) (option_to_list c)

module _ (m : Module) (vs : List Variable) (x : code_check.Check) (before : List (Place × DelayedCopy)) (new : Asked) (refer datum : Option PlacedCopy) (p : Place) (k : TwoLimitCheck) (r d : code_event.Event)
    (l n : code_limit.Limit) (o f g : Option code_name.Name) where
  pub check-asked : x ≡ variant.TwoLimits p k r d l n o f g → vs ≡ variables m → seen_of vs refer ≡ copies_of vs p (view_event r) (option_map view_name f) → seen_of vs datum ≡ copies_of vs p (view_event d) (option_map view_name g)
      → HasAsked m ((before ++ seen_of (variables m) refer) ++ seen_of (variables m) datum) new → HasAsked m (before ++ copies (variables m) (check (view_check x))) new
  check-asked is e a b h =
      let both : seen_of vs refer ++ seen_of vs datum ≡ copies vs (check (view_check (variant.TwoLimits p k r d l n o f g))) =
      ap (λ cs. cs ++ seen_of vs datum) a ∙ ap (λ cs. copies_of vs p (view_event r) (option_map view_name f) ++ cs) b in
      subst (λ y. HasAsked m (before ++ copies (variables m) (check (view_check y))) new) (sym is)
      (subst (λ ws. HasAsked m (before ++ copies ws (check (view_check (variant.TwoLimits p k r d l n o f g)))) new) e
      (subst (λ cs. HasAsked m (before ++ cs) new) both
      (subst (λ ws. HasAsked m (before ++ (seen_of ws refer ++ seen_of ws datum)) new) (sym e)
      (subst (λ cs. HasAsked m cs new) (append_assoc before (seen_of (variables m) refer) (seen_of (variables m) datum)) h))))
