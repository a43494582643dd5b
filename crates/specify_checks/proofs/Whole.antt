-- The texts of a module's checks and the values of its specparams, as they were gathered.
use Rattle.std.specs.Prelude.{◌≡◌, ℕ, List, flat_map, map}
use Rattle.std.specs.Borrow.{Bor}
use Rattle.std.proofs.Common.{◌∙◌, ap}
use Rattle.vl_tree.specs.declared.checks.Check as code
use Rattle.vl_tree.specs.Tree.{SpecifyItem}
use Rattle.elab_model.specs.Names.{Variable}
use Rattle.specify_model.specs.Blocks.{parameters}
use Rattle.specify_model.specs.CheckFaults.{check_faults, all_check_faults}
use Rattle.specify_model.specs.Checks.{check_texts, module_check, module_checks}
use Rattle.specify_model.specs.Values.{Measure, Values, value_of}
use Rattle.specify_values.specs.Seen.{view_checks, view_parameter, AreItems}
use Rattle.specify_values.specs.declared.items.BlockItems.{BlockItems}
use Rattle.specify_values.specs.declared.items.Parameter.{Parameter}

pub values-are : (items : List SpecifyItem) (b : BlockItems) (ps : List Parameter) (values : Values) → AreItems items b → ps ≡ b.parameters.items → values ≡ value_of (map view_parameter ps) → values ≡ value_of (parameters items)
values-are items b ps values h e f = f ∙ ap (λ qs. value_of (map view_parameter qs)) e ∙ ap value_of h.parameters_are

module _ (signals : ℕ) (by : Measure) (vs : List Variable) (items : List SpecifyItem) (values : Values) (cs : List (Bor code.Check)) (v : values ≡ value_of (parameters items)) (t : view_checks cs ≡ check_texts items) where
  pub faults-same : flat_map (check_faults signals by vs values) (view_checks cs) ≡ all_check_faults signals by vs items
  faults-same = ap (λ w. flat_map (check_faults signals by vs w) (view_checks cs)) v ∙ ap (flat_map (check_faults signals by vs (value_of (parameters items)))) t

  pub checks-same : map (module_check by vs values) (view_checks cs) ≡ module_checks by vs items
  checks-same = ap (λ w. map (module_check by vs w) (view_checks cs)) v ∙ ap (map (module_check by vs (value_of (parameters items)))) t
