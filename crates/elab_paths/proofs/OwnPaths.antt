-- The paths of one module, on shelves.
use Rattle.std.specs.Prelude.{◌≡◌, All, List, ◌++◌, length, map, ℤ}
use Rattle.std.proofs.Common.{◌∙◌, ap, subst}
use Rattle.cond_expr.specs.Condition.{Condition}
use Rattle.sg_circuit.specs.declared.elements.LegTiming.{LegTiming}
use Rattle.sg_delay.specs.declared.corners.Corner.{Corner}
use Rattle.sg_text.specs.declared.refusals.Refused.{Refused}
use Rattle.vl_tree.specs.Tree.{Module, Source}
use Rattle.elab_model.specs.declared.kinds.ElabKind.{ElabKind}
use Rattle.elab_model.specs.declared.kinds.ElabKind.TheVariants.{SpecifyInHierarchy}
use Rattle.elab_model.specs.Faults.{Fault, fault, RefusesOneOf}
use Rattle.elab_model.specs.Names.{Variable, variables}
use Rattle.specify_model.specs.Blocks.{specify_items}
use Rattle.specify_model.specs.Faults.{blocks_in_hierarchy, faults_by, specify_faults}
use Rattle.specify_model.specs.Outputs.{measure, outputs_by}
use Rattle.circuit_model.specs.Faults.{module_path_faults}
use Rattle.elab_laws.specs.Handing.{all_bits}
use Rattle.elab_declared.proofs.Refusals.{refused-left, refused-right}
use Rattle.specify_paths.specs.Seen.{outputs_seen, IsInRow}
use Rattle.specify_paths.specs.declared.outputs.PathOutputs.{PathOutputs}
use Rattle.elab_paths.specs.Ready.{output_ready, IsReadyOutput}
use Rattle.elab_paths.specs.OfModules.{AreOutputsOf}
use Rattle.elab_paths.specs.declared.shelving.ReadyOutput.{ReadyOutput}
use Rattle.elab_paths.specs.declared.shelving.Shelves.{Shelves}

-- the module is the definition's, and the variables are its
pub outputs-made : (corner : Corner) (tick : ℤ) (n m : Module) (vs : List Variable) (paths : PathOutputs) (shelves : Shelves) (list : List ReadyOutput) → n ≡ m → vs ≡ variables m
    → outputs_seen vs paths ≡ outputs_by (measure corner tick n) vs (specify_items n)
    → ((xs : List Variable) (timings : List LegTiming) (conditions : List Condition)
    → map (output_ready (shelves.timings.items ++ timings) (shelves.conditions.items ++ conditions) xs) list ≡ outputs_seen xs paths)
    → All (IsInRow vs (length paths.statements.items)) paths.outputs.items
    → ((xs : List Variable) → All (IsInRow xs (length paths.statements.items)) paths.outputs.items
    → All (IsReadyOutput (length (all_bits xs)) (length shelves.timings.items) (length shelves.conditions.items)) list)
    → AreOutputsOf corner tick m shelves list
outputs-made corner tick n m vs paths shelves list e t seen ready row named = record {
  outputs = λ timings conditions.
      ready (variables m) timings conditions
      ∙ subst (λ xs. outputs_seen xs paths ≡ outputs_by (measure corner tick m) xs (specify_items m)) t
      (subst (λ k. outputs_seen vs paths ≡ outputs_by (measure corner tick k) vs (specify_items k)) e seen);
  named = subst (λ xs. All (IsReadyOutput (length (all_bits xs)) (length shelves.timings.items) (length shelves.conditions.items)) list) t (named vs row);
}

-- ---- its faults

abbrev pub beside_faults : Source → Module → List Fault
beside_faults source m = map (fault SpecifyInHierarchy) (blocks_in_hierarchy source m)

faults-same : (corner : Corner) (tick : ℤ) (n m : Module) (vs : List Variable) → n ≡ m → vs ≡ variables m → faults_by (measure corner tick n) vs (specify_items n) ≡ specify_faults corner tick m
faults-same corner tick n m vs e t = ap (λ k. faults_by (measure corner tick k) vs (specify_items k)) e ∙ ap (λ xs. faults_by (measure corner tick m) xs (specify_items m)) t

pub beside-refused : (source : Source) (corner : Corner) (tick : ℤ) (m : Module) (r : Refused ElabKind) → RefusesOneOf (beside_faults source m) r → RefusesOneOf (module_path_faults source corner tick m) r
beside-refused source corner tick m r h = refused-left (beside_faults source m) (specify_faults corner tick m) r h

pub own-refused : (source : Source) (corner : Corner) (tick : ℤ) (n m : Module) (vs : List Variable) (r : Refused ElabKind) → n ≡ m → vs ≡ variables m
    → RefusesOneOf (faults_by (measure corner tick n) vs (specify_items n)) r → RefusesOneOf (module_path_faults source corner tick m) r
own-refused source corner tick n m vs r e t h =
    refused-right (beside_faults source m) (specify_faults corner tick m) r (subst (λ fs. RefusesOneOf fs r) (faults-same corner tick n m vs e t) h)
