-- The rows of instances: the numbers of the nets of their bits, of what lies outside their bits, and of what is driven inside in place of output bits with paths.
use Rattle.std.specs.Prelude.{◌≡◌, ℕ, ◌+◌, ◌≤◌, List, ◌∷◌, ◌++◌, Some, map, take, drop, length, slice_get}
use Rattle.std.specs.List.{enumerate_from}
use Rattle.vl_tree.specs.Tree.{Module, Source}
use Rattle.elab_model.specs.Ends.{path_ends, inner_spot}
use Rattle.elab_model.specs.Hierarchy.{Instance, instances}
use Rattle.elab_model.specs.HierarchyFaults.{count_limit}
use Rattle.elab_model.specs.Members.{members}
use Rattle.elab_model.specs.Names.{variables}
use Rattle.elab_model.specs.Nets.{nets, number_of}
use Rattle.elab_laws.specs.Handing.{all_bits, number_at}
use Rattle.elab_laws.specs.NumberLaws.{nets_before}
use Rattle.elab_nets.specs.Outside.{outer_number}
use Rattle.elab_model.specs.Numbered.{undriven}
use Rattle.elab_nets.specs.declared.rows.Rows.{Rows}

-- the number of the first net of the member k that no variable names, or else the next number
abbrev pub first_of_member : Source → List Instance → Instance → ℕ → ℕ
first_of_member source before s k = nets_before source before s (take k (enumerate_from 0 (members s.step.definition)))

-- a part of a list, from a place on
abbrev pub part_of : {A : Type 0} → List A → ℕ → ℕ → List A
part_of xs start count = take count (drop start xs)

-- the rows of an instance, behind those before it
pub record HasRow (source : Source) (top : Module) (rows : Rows) (before : List Instance) (s : Instance) : Type 0 where
  pub start : ℕ
  pub starts : slice_get rows.starts.items (length before) ≡ Some start
  pub inner : part_of rows.inner.items start (length (all_bits (variables s.step.definition))) ≡ map (number_at (nets source top) source s) (all_bits (variables s.step.definition))
  pub inner_within : start + length (all_bits (variables s.step.definition)) ≤ length rows.inner.items
  pub outside : ℕ
  pub outer_starts : slice_get rows.outer_starts.items (length before) ≡ Some outside
  pub outer : part_of rows.outer.items outside (length (all_bits (variables s.step.definition))) ≡ map (outer_number (nets source top) source s.step s.above) (all_bits (variables s.step.definition))
  pub outer_within : outside + length (all_bits (variables s.step.definition)) ≤ length rows.outer.items
  pub member : ℕ
  pub member_starts : slice_get rows.member_starts.items (length before) ≡ Some member
  pub firsts : (k : ℕ) → k ≤ length (members s.step.definition) → slice_get rows.firsts.items (member + k) ≡ Some (first_of_member source before s k)
  pub end : ℕ
  pub end_starts : slice_get rows.end_starts.items (length before) ≡ Some end
  pub ends : part_of rows.ends.items end (length (path_ends s.step.definition)) ≡ map (λ b. number_of (nets source top) (inner_spot s b)) (path_ends s.step.definition)
  pub ends_within : end + length (path_ends s.step.definition) ≤ length rows.ends.items

pub record HaveRows (source : Source) (top : Module) (rows : Rows) : Type 0 where
  pub all : rows.nets.items ≡ map undriven (nets source top)
  pub few : length (nets source top) ≤ count_limit
  pub each : (before after : List Instance) (s : Instance) → instances source top ≡ before ++ s ∷ after → HasRow source top rows before s
