-- The second limit, where there is one.
use Rattle.std.specs.Prelude.{◌≡◌, ◌<◌, ◌^◌, ℤ, unsigned_abs, List, [], ◌∷◌, ◌++◌, Option, Some, flat_map, map, option_to_list}
use Rattle.std.specs.Option.{option_map}
use Rattle.std.proofs.Common.{sym, ◌∙◌, ap, arith, subst, w64, to_z, of_z}
use Rattle.std.proofs.lemmas.Int.{fits_signed_from_abs, to_z-of_z}
use Rattle.sg_text.specs.declared.refusals.Refused.{Refused}
use Rattle.vl_tree.specs.declared.specify.Limit as code_limit
use Rattle.vl_tree.specs.Seen.{view_limit}
use Rattle.vl_tree.specs.Tree.{Limit}
use Rattle.elab_model.specs.declared.kinds.ElabKind.{ElabKind}
use Rattle.elab_model.specs.Faults.{Fault, RefusesOneOf}
use Rattle.elab_declared.proofs.Refusals.{refused-left}

-- a limit as the code hands it on
pub own-number : (z : ℤ) → unsigned_abs z < 2 ^ 60 → to_z w64 (of_z w64 z) ≡ z
own-number z lt = to_z-of_z w64 z (fits_signed_from_abs w64 z (omega (arith, lt)))

module _ (o : Option code_limit.Limit) (l : code_limit.Limit) (is : o ≡ Some l) where
  pub second-told : (f : Limit → List Fault) (r : Refused ElabKind) → RefusesOneOf (f (view_limit l)) r → RefusesOneOf (flat_map f (option_to_list (option_map view_limit o))) r
  second-told f r h = subst (λ p. RefusesOneOf (flat_map f (option_to_list (option_map view_limit p))) r) (sym is) (refused-left (f (view_limit l)) [] r h)

  pub second-faultless : (f : Limit → List Fault) → f (view_limit l) ≡ [] → flat_map f (option_to_list (option_map view_limit o)) ≡ []
  second-faultless f h = ap (λ p. flat_map f (option_to_list (option_map view_limit p))) is ∙ ap (λ fs. fs ++ []) h

  pub second-written : (g : Limit → ℤ) (n : ℤ) → n ≡ g (view_limit l) → option_to_list (Some n) ≡ map g (option_to_list (option_map view_limit o))
  second-written g n h = ap (λ k. k ∷ []) h ∙ ap (λ p. map g (option_to_list (option_map view_limit p))) (sym is)
