-- The uses of paths, and the spots of an element that has one.
use Rattle.std.specs.Prelude.{◌≡◌, ℕ, List, [], true, map, refl}
use Rattle.std.specs.List.{AllByRecursion}
use Rattle.std.proofs.Common.{sym, ap, subst}
use Rattle.sg_circuit.specs.Circuit.{Path as a_path}
use Rattle.sg_circuit.specs.declared.scopes.Port.{Port}
use Rattle.sg_circuit.specs.declared.scopes.Port.TheVariants.{Input, Output, Inner}
use Rattle.sg_delay.specs.declared.corners.Corner.{Corner}
use Rattle.vl_tree.specs.Tree.{Module, Source}
use Rattle.elab_model.specs.declared.kinds.ElabKind.TheVariants.{SpecifyInHierarchy}
use Rattle.elab_model.specs.Delays.{tick_of}
use Rattle.elab_model.specs.Faults.{fault}
use Rattle.elab_model.specs.Hierarchy.{Instance, has_no_child, instances}
use Rattle.elab_model.specs.Homes.{is_input, is_output}
use Rattle.elab_model.specs.ModuleFaults.{module_faults}
use Rattle.elab_model.specs.Names.{variable}
use Rattle.elab_model.specs.Nets.{nets}
use Rattle.elab_model.specs.Scopes.{scope_of}
use Rattle.elab_model.specs.Terms.{NetBit}
use Rattle.specify_model.specs.Faults.{blocks_in_hierarchy, specify_faults}
use Rattle.specify_model.specs.Outputs.{PathOutput, path_outputs}
use Rattle.specify_model.specs.Paths.{circuit_path}
use Rattle.circuit_model.specs.Circuits.{circuit}
use Rattle.circuit_model.specs.Faults.{module_path_faults, path_faults}
use Rattle.circuit_model.specs.PathUses.{PathUse, bit_number, path_use, path_uses, path_uses_of}
use Rattle.elab_laws.specs.Laws.{AreSound}
use Rattle.elab_laws.proofs.Handed.{Rises, instances-rise}
use Rattle.elab_laws.proofs.Lists.{In, all-in, all-map, all-weaker, from-flat}
use Rattle.elab_laws.proofs.NoFaults.{back, flat-empty, front}
use Rattle.elab_closed.proofs.Places.{from-map}
use Rattle.annotation_model.specs.Spots.{path_spot, spots_in}
use Rattle.written_reading.specs.Named.{IsInputOf, IsNamedSpot, IsOutputOf}
use Rattle.written_names.proofs.Directions.{lone-with_paths, ports-directed}
use Rattle.written_names.proofs.OwnNets.{input-alone, output-alone}
use Rattle.written_names.proofs.PathPorts.{IsLedTo, IsPortBit, outputs-led}
use Rattle.written_names.proofs.ScopeNets.{net-of, scope-there}

-- ---- uses

-- the instance and the output of a use
pub record IsUseOf (source : Source) (top : Module) (corner : Corner) (u : PathUse) : Type 0 where
  pub instance : Instance
  pub there : In instance (instances source top)
  pub output : PathOutput
  pub led : In output (path_outputs corner (tick_of source top) instance.step.definition)
  pub is : u ≡ path_use (nets source top) source instance output

pub use-of : (source : Source) (top : Module) (corner : Corner) (u : PathUse) → In u (path_uses source top corner) → IsUseOf source top corner u
use-of source top corner u h =
    let tick = tick_of source top in
    let r = from-flat (path_uses_of (nets source top) source corner tick) u (instances source top) h in
    let o = from-map (path_use (nets source top) source r.source) u (path_outputs corner tick r.source.step.definition) r.made in
    record { instance = r.source; there = r.there; output = o.0; led = o.1; is = o.2 }

-- ---- the paths of an instance

pub input-is : (p : Port) → is_input p ≡ true → p ≡ Input
input-is Input h = refl
input-is Output h = cc
input-is Inner h = cc

output-is : (p : Port) → is_output p ≡ true → p ≡ Output
output-is Input h = cc
output-is Output h = refl
output-is Inner h = cc

-- what no fault says of an instance
pub record IsSoundAt (source : Source) (top : Module) (corner : Corner) (s : Instance) : Type 0 where
  pub there : In s (instances source top)
  pub plain : module_faults source corner (tick_of source top) s.step.definition ≡ []
  pub paths : module_path_faults source corner (tick_of source top) s.step.definition ≡ []

pub sound-at : (source : Source) (top : Module) (corner : Corner) (s : Instance) → AreSound source top corner → path_faults source top corner ≡ [] → In s (instances source top) → IsSoundAt source top corner s
sound-at source top corner s sound faultless there =
    let tick = tick_of source top in
    let ss = instances source top in
    record {
      there = there;
      plain = all-in (λ s. module_faults source corner tick s.step.definition ≡ []) s ss sound there;
      paths = all-in (λ s. module_path_faults source corner tick s.step.definition ≡ []) s ss (flat-empty (λ s. module_path_faults source corner tick s.step.definition) ss faultless) there;
    }

module _ (source : Source) (top : Module) (corner : Corner) (s : Instance) (sound : IsSoundAt source top corner s) where
  rises : Rises s
  rises = all-in Rises s (instances source top) (instances-rise source top) sound.there

  pub input-named : (b : NetBit) → has_no_child source s.step ≡ true → IsPortBit is_input s.step.definition b → IsInputOf (scope_of (nets source top) source s).variables (bit_number (nets source top) source s b)
  input-named b lone h =
      let is = input-is (variable s.step.definition b.name).port h.port in
      net-of source top s sound.there (λ p. p ≡ Input) b h.bit (λ v q known same. input-alone source s b.name b.position v q rises lone is known same)

  output-named : (b : NetBit) → has_no_child source s.step ≡ true → IsPortBit is_output s.step.definition b → IsOutputOf (scope_of (nets source top) source s).variables (bit_number (nets source top) source s b)
  output-named b lone h =
      let is = output-is (variable s.step.definition b.name).port h.port in
      let directed = ports-directed source corner (tick_of source top) s.step.definition sound.plain in
      net-of source top s sound.there (λ p. p ≡ Output) b h.bit (λ v q known same. output-alone source s b.name b.position v q rises directed lone is known same)

  pub led-named : (ins : List ℕ) (o : PathOutput) → In o (path_outputs corner (tick_of source top) s.step.definition)
      → AllByRecursion (IsNamedSpot (circuit source top corner))
      (spots_in s.step.number ins (bit_number (nets source top) source s o.output) (a_path (path_use (nets source top) source s o).paths (path_use (nets source top) source s o).style))
  led-named ins o there =
      let all = nets source top in
      let tick = tick_of source top in
      let m = s.step.definition in
      let Named = IsNamedSpot (circuit source top corner) in
      let number = bit_number all source s in
      let out = number o.output in
      let hierarchy = map (fault SpecifyInHierarchy) (blocks_in_hierarchy source m) in
      let lone = lone-with_paths source corner tick m o (front hierarchy (specify_faults corner tick m) sound.paths) there in
      let led = all-in (IsLedTo m) o (path_outputs corner tick m) (outputs-led corner tick m (back hierarchy (specify_faults corner tick m) sound.paths)) there in
      let vs = (scope_of all source s).variables in
      let scope = sym (ap (λ x. x.variables) (scope-there source top corner s sound.there)) in
      let to = subst (λ vs. IsOutputOf vs out) scope (output-named o.output lone led.output) in
      all-map Named (path_spot s.step.number out) (map (circuit_path number) o.paths)
      (all-map (λ p. Named (path_spot s.step.number out p)) (circuit_path number) o.paths
      (all-weaker (λ p. IsPortBit is_input m p.input) (λ p. Named (path_spot s.step.number out (circuit_path number p))) o.paths
      (λ p h. (subst (λ vs. IsInputOf vs (number p.input)) scope (input-named p.input lone h), to)) led.paths))
