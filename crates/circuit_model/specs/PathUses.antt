-- Path uses: the paths of an output bit of an instance to which specify paths of its module lead (IEEE 1364-2005, 14.1, 14.2).
use Rattle.std.specs.Prelude.{ℕ, ℤ, List, Bool, Option, Some, None, find, flat_map, map}
use Rattle.std.specs.List.{list_any}
use Rattle.sg_circuit.specs.Circuit.{Kind, Path as a_path, Element}
use Rattle.sg_circuit.specs.Paths.{Path}
use Rattle.sg_delay.specs.declared.corners.Corner.{Corner}
use Rattle.sg_delay.specs.declared.limits.PulseStyle.{PulseStyle}
use Rattle.vl_tree.specs.Tree.{Module, Source}
use Rattle.elab_model.specs.Delays.{tick_of}
use Rattle.elab_model.specs.Drivers.{elements}
use Rattle.elab_model.specs.Elements.{Component}
use Rattle.elab_model.specs.Ends.{inner_spot}
use Rattle.elab_model.specs.Hierarchy.{Instance, instances}
use Rattle.elab_model.specs.Homes.{Spot, is_same_spot, home_of}
use Rattle.elab_model.specs.Nets.{OwnNet, nets, number_of}
use Rattle.elab_model.specs.Numbered.{element_of}
use Rattle.elab_model.specs.Terms.{NetBit}
use Rattle.specify_model.specs.Outputs.{PathOutput, path_outputs}
use Rattle.specify_model.specs.Paths.{circuit_path}

-- the net that is driven inside, the paths over nets, and how an error pulse is shown
pub record PathUse : Type 0 where
  pub inner : Spot
  pub paths : List Path
  pub style : PulseStyle

-- the number of the net that a bit of an instance is
abbrev pub bit_number : List OwnNet → Source → Instance → NetBit → ℕ
bit_number all source s b = number_of all (home_of source s b.name b.position)

abbrev pub path_use : List OwnNet → Source → Instance → PathOutput → PathUse
path_use all source s o = record { inner = inner_spot s o.output; paths = map (circuit_path (bit_number all source s)) o.paths; style = o.style }

abbrev pub path_uses_of : List OwnNet → Source → Corner → ℤ → Instance → List PathUse
path_uses_of all source corner tick s = map (path_use all source s) (path_outputs corner tick s.step.definition)

-- by instance, and then by the first path that leads to each
abbrev pub path_uses : Source → Module → Corner → List PathUse
path_uses source top corner = flat_map (path_uses_of (nets source top) source corner (tick_of source top)) (instances source top)

-- ---- the elements of a circuit

-- an element that reads the inner net of a use has its paths
abbrev pub reads : Component → PathUse → Bool
reads c u = list_any (is_same_spot u.inner) c.inputs

abbrev pub kind_by : Kind → Option PathUse → Kind
kind_by k None = k
kind_by k (Some u) = a_path u.paths u.style

abbrev pub with_paths : List PathUse → Component → Component
with_paths uses c = record c { kind = kind_by c.kind (find (reads c) uses) }

abbrev pub circuit_elements : Source → Module → Corner → List Element
circuit_elements source top corner = map (λ c. element_of (nets source top) (with_paths (path_uses source top corner) c)) (elements source top corner)
