-- What stands when the elements are made: the instances, what is ready of their modules, and their rows.
use Rattle.std.specs.Prelude.{◌≡◌, ℕ, suc, ◌<◌, List, [], ◌∷◌, Some, length, slice_get}
use Rattle.std.specs.List.{range_with_len}
use Rattle.sg_circuit.specs.Seen.{delays_at}
use Rattle.sg_delay.specs.declared.corners.Corner.{Corner}
use Rattle.vl_tree.specs.Tree.{Module, Source}
use Rattle.vl_tree.specs.Seen.{view_instance}
use Rattle.vl_tree.specs.declared.items.Instance as code
use Rattle.elab_model.specs.Delays.{tick_of}
use Rattle.elab_model.specs.Hierarchy.{Instance, instances}
use Rattle.elab_model.specs.Members.{Member, members}
use Rattle.elab_model.specs.Names.{Variable, variables}
use Rattle.elab_model.specs.Nets.{nets, member_nets, late_nets}
use Rattle.elab_laws.specs.NumberLaws.{numbers_in}
use Rattle.elab_ports.specs.Bound.{AreConnected}
use Rattle.elab_hierarchy.specs.declared.instances.Placed.{Placed}
use Rattle.elab_hierarchy.specs.Placing.{ArePlaced, tree_faults}
use Rattle.elab_nets.specs.Library.{Library}
use Rattle.elab_hierarchy.specs.Tops.{StandsAt}
use Rattle.elab_nets.specs.Reached.{IsLibrary}
use Rattle.elab_nets.specs.ReadyOfModules.{IsPrepared, member_delays}
use Rattle.elab_nets.specs.Prepared.{Prepared}
use Rattle.elab_nets.specs.declared.rows.Rows.{Rows}
use Rattle.elab_nets.specs.Rows.{HasRow, HaveRows}
use Rattle.elab_elements.specs.Adding.{IsConnectedOnce, IsHere, HasDriven}
use Rattle.elab_elements.specs.Next.{IsNext}

pub record AreRead (source : Source) (top : Module) (corner : Corner) (placed : List Placed) (ready : Library) (numbers : Rows) : Type 0 where
  pub are_placed : ArePlaced source placed (instances source top)
  pub shallow : tree_faults source top ≡ []
  pub is_ready : IsLibrary source corner top ready
  pub have_rows : HaveRows source top numbers

-- and an instance at its place
pub record IsAt (source : Source) (top : Module) (corner : Corner) (placed : List Placed) (ready : Library) (numbers : Rows) (place : ℕ) (s : Instance) : Type 0 where
  pub read : AreRead source top corner placed ready numbers
  pub there : slice_get (instances source top) place ≡ Some s

-- an instance in another, from the table and the text that the code has of them
pub record IsInside (s c : Instance) (scope : ℕ) (vs : List Variable) (text : code.Instance) : Type 0 where
  pub number : s.step.number ≡ scope
  pub above : c.above ≡ s.step ∷ s.above
  pub table : vs ≡ variables s.step.definition
  pub connections : c.step.connections ≡ (view_instance text).connections
  pub connected : AreConnected vs c.step.definition (view_instance text).place (view_instance text).connections
  pub once : IsConnectedOnce c.step

-- the members of an instance, whose module stands at a place of the definitions, and the number of the first instance in it
pub record AreMembers (source : Source) (top : Module) (corner : Corner) (placed : List Placed) (ready : Library) (numbers : Rows) (number definition : ℕ) (prepared : Prepared) (row inside : List ℕ)
    (next : ℕ) (s : Instance) : Type 0 where
  pub at : IsAt source top corner placed ready numbers number s
  pub here : IsHere (nets source top) source s number prepared.table row
  pub drives : HasDriven (nets source top) source s prepared.table inside
  pub stands : StandsAt source definition s.step.definition
  pub is_prepared : IsPrepared prepared s.step.definition
  pub first_child : next ≡ suc number

-- the member k of an instance: its delays stand at a place of the table, its nets have the numbers from `first` on, and the next instance the number `next`
pub record IsMember (source : Source) (top : Module) (corner : Corner) (placed : List Placed) (ready : Library) (numbers : Rows) (number : ℕ) (vs : List Variable) (row inside : List ℕ)
    (delays first next k : ℕ) (x : Member) (s : Instance) : Type 0 where
  pub at : IsAt source top corner placed ready numbers number s
  pub here : IsHere (nets source top) source s number vs row
  pub drives : HasDriven (nets source top) source s vs inside
  pub member : slice_get (members s.step.definition) k ≡ Some x
  pub ticks : delays_at ready.gate_delays.items delays ≡ member_delays corner (tick_of source top) s.step.definition x
  pub listed : delays < length ready.gate_delays.items
  pub numbered : numbers_in (nets source top) (member_nets source s (k, x)) ≡ range_with_len first (length (member_nets source s (k, x)))
  pub is_next : IsNext source s k next

-- the member k of an instance that stands behind so many others, with its row and what is ready of its module
pub record HasPaths (source : Source) (top : Module) (numbers : Rows) (number : ℕ) (prepared : Prepared) (row : List ℕ) (k : ℕ) (x : Member) (s : Instance) : Type 0 where
  pub before : List Instance
  pub place : length before ≡ number
  pub has_row : HasRow source top numbers before s
  pub here : IsHere (nets source top) source s number prepared.table row
  pub is_prepared : IsPrepared prepared s.step.definition
  pub member : slice_get (members s.step.definition) k ≡ Some x

-- the member k of an instance, whose unnamed copies' nets have the numbers from `first` on
pub record HasCopies (source : Source) (top : Module) (number : ℕ) (prepared : Prepared) (row inside : List ℕ) (first k : ℕ) (x : Member) (s : Instance) : Type 0 where
  pub here : IsHere (nets source top) source s number (variables s.step.definition) row
  pub drives : HasDriven (nets source top) source s (variables s.step.definition) inside
  pub is_prepared : IsPrepared prepared s.step.definition
  pub member : slice_get (members s.step.definition) k ≡ Some x
  pub numbered : numbers_in (nets source top) (late_nets s (k, x)) ≡ range_with_len first (length (late_nets s (k, x)))
