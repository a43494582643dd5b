-- The laws of delayed copies, as statements.
use Rattle.std.specs.Prelude.{◌≡◌, ℕ, ◌==◌, ◌&&◌, Bool, true, false, filter, map}
use Rattle.sg_circuit.specs.Circuit.{Kind, Late}
use Rattle.sg_delay.specs.declared.corners.Corner.{Corner}
use Rattle.sg_text.specs.declared.places.Place.{Place}
use Rattle.vl_tree.specs.Tree.{Module, Source}
use Rattle.elab_model.specs.Drivers.{elements}
use Rattle.elab_model.specs.Elements.{Component, late_at}
use Rattle.elab_model.specs.Hierarchy.{Instance, instances}
use Rattle.elab_model.specs.Homes.{home_of}
use Rattle.elab_model.specs.Lates.{DelayedCopy, copy_spot, module_copies}
use Rattle.elab_model.specs.Nets.{nets}
use Rattle.elab_laws.specs.Words.{In, Owns}

-- the bit that an instance's copy delays is a net, and so is what the copy drives
pub record CopyHasNets (source : Source) (top : Module) (s : Instance) (c : DelayedCopy) : Type 0 where
  pub signal : Owns (home_of source s c.signal.name c.signal.position) (nets source top)
  pub output : Owns (copy_spot source s c) (nets source top)

abbrev pub CopiesHaveNets : Type 0
CopiesHaveNets = (source : Source) (top : Module) (s : Instance) (c : Place × DelayedCopy) → In s (instances source top) → In c (module_copies s.step.definition) → CopyHasNets source top s c.1

-- an element of an instance that delays a signal
abbrev pub is_late : Kind → Bool
is_late (Late delay) = true
is_late _ = false

abbrev pub is_late_of : (scope : ℕ) → Component → Bool
is_late_of scope e = (e.scope == scope) && is_late e.kind

-- an instance has one for each copy of its module, in the same order
abbrev pub LatesAreInOrder : Type 0
LatesAreInOrder = (source : Source) (top : Module) (corner : Corner) (s : Instance) → In s (instances source top)
    → filter (is_late_of s.step.number) (elements source top corner) ≡ map (late_at source s) (module_copies s.step.definition)
