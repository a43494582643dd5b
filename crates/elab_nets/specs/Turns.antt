-- The turns of instances: what has been made before an instance's turn, and what its members leave.
use Rattle.std.specs.Prelude.{◌≡◌, ℕ, ◌+◌, ◌<◌, ◌≤◌, List, [], ◌∷◌, ◌++◌, Bool, Option, Some, filter_map, flat_map, length, map, slice_get, take, drop}
use Rattle.std.specs.List.{AllByRecursion, enumerate_from, range_with_len}
use Rattle.sg_delay.specs.declared.corners.Corner.{Corner}
use Rattle.vl_tree.specs.Tree.{Module, Source}
use Rattle.elab_model.specs.Ends.{first_ends, path_ends, inner_spot}
use Rattle.elab_model.specs.Hierarchy.{Step, Instance, Child, child_of_member, children_from, children, instances, is_leaf}
use Rattle.elab_model.specs.Members.{Member, members}
use Rattle.elab_model.specs.Names.{Variable, variables}
use Rattle.elab_model.specs.Nets.{nets, nets_of, variable_nets, member_nets, number_of}
use Rattle.elab_model.specs.Terms.{NetBit}
use Rattle.elab_laws.specs.Handing.{all_bits, number_at}
use Rattle.elab_laws.specs.Laws.{AreSound}
use Rattle.elab_laws.specs.Words.{In}
use Rattle.elab_hierarchy.specs.declared.instances.Placed.{Placed}
use Rattle.elab_hierarchy.specs.Placing.{ArePlaced, tree_faults}
use Rattle.elab_modules.specs.declared.library.Library.{Library}
use Rattle.elab_modules.specs.Reached.{IsLibrary}
use Rattle.elab_laws.specs.NumberLaws.{nets_before}
use Rattle.elab_nets.specs.Outside.{outer_number}
use Rattle.elab_nets.specs.Rows.{first_of_member, part_of}
use Rattle.elab_model.specs.Numbered.{undriven}
use Rattle.elab_nets.specs.declared.rows.Rows.{Rows}

-- what the code is given stands for the hierarchy below a top, which isn't too deep
pub record IsGiven (source : Source) (top : Module) (corner : Corner) (library : Library) (placed : List Placed) : Type 0 where
  pub instances_are : ArePlaced source placed (instances source top)
  pub ready : IsLibrary source corner top library
  pub tree : tree_faults source top ≡ []

abbrev pub bits_of : Instance → List (Variable × ℕ)
bits_of s = all_bits (variables s.step.definition)

-- the outer row of an instance is there
pub record HasOuterRow (source : Source) (top : Module) (numbers : List (Option ℕ)) (places : List ℕ) (c : Instance) : Type 0 where
  pub start : ℕ
  pub there : slice_get places c.step.number ≡ Some start
  pub within : start + length (bits_of c) ≤ length numbers
  pub outer : part_of numbers start (length (bits_of c)) ≡ map (outer_number (nets source top) source c.step c.above) (bits_of c)

-- and its inner row
pub record HasInnerRow (source : Source) (top : Module) (numbers places : List ℕ) (s : Instance) : Type 0 where
  pub start : ℕ
  pub there : slice_get places s.step.number ≡ Some start
  pub within : start + length (bits_of s) ≤ length numbers
  pub inner : part_of numbers start (length (bits_of s)) ≡ map (number_at (nets source top) source s) (bits_of s)

-- and the first nets of its members
pub record HasFirsts (source : Source) (numbers places : List ℕ) (before : List Instance) (s : Instance) : Type 0 where
  pub start : ℕ
  pub there : slice_get places s.step.number ≡ Some start
  pub firsts : (k : ℕ) → k ≤ length (members s.step.definition) → slice_get numbers (start + k) ≡ Some (first_of_member source before s k)

-- the number of what is driven inside in place of an output bit
abbrev pub end_number : Source → Module → Instance → NetBit → ℕ
end_number source top s b = number_of (nets source top) (inner_spot s b)

-- and the inner nets of its output bits with paths
pub record HasEnds (source : Source) (top : Module) (numbers places : List ℕ) (s : Instance) : Type 0 where
  pub start : ℕ
  pub there : slice_get places s.step.number ≡ Some start
  pub within : start + length (path_ends s.step.definition) ≤ length numbers
  pub ends : part_of numbers start (length (path_ends s.step.definition)) ≡ map (end_number source top s) (path_ends s.step.definition)

-- an instance is the top, or that in which it lies has had its turn
abbrev pub IsDue : ℕ → List Step → Type 0
IsDue count [] = Unit {0}
IsDue count (parent ∷ above) = parent.number < count

-- so many instances have had their turns
pub record AreUpTo (source : Source) (top : Module) (rows : Rows) (count : ℕ) : Type 0 where
  pub all : rows.nets.items ≡ map undriven (flat_map (nets_of source) (take count (instances source top)))
  pub start_count : length rows.starts.items ≡ count
  pub member_count : length rows.member_starts.items ≡ count
  pub end_count : length rows.end_starts.items ≡ count
  pub outer_count : length rows.outer_starts.items ≡ length (instances source top)
  pub own : (before after : List Instance) (s : Instance) → instances source top ≡ before ++ s ∷ after → length before < count
      → HasInnerRow source top rows.inner.items rows.starts.items s × (HasFirsts source rows.firsts.items rows.member_starts.items before s × HasEnds source top rows.ends.items rows.end_starts.items s)
  pub outer : (t : Instance) → In t (instances source top) → IsDue count t.above → HasOuterRow source top rows.outer.items rows.outer_starts.items t

-- the instances of modules among members
abbrev pub children_among : Source → List (ℕ × Member) → List Child
children_among source ms = filter_map (λ x. child_of_member source x.0 x.1) ms

abbrev pub members_of : Instance → List (ℕ × Member)
members_of s = enumerate_from 0 (members s.step.definition)

-- an instance in its turn: its own nets are there, and its inner row
pub record HasTurn (source : Source) (top : Module) (corner : Corner) (library : Library) (placed : List Placed) (rows : Rows) (table : List Variable) (number : ℕ) : Type 0 where
  pub given : IsGiven source top corner library placed
  pub before : List Instance
  pub s : Instance
  pub after : List Instance
  pub here : instances source top ≡ before ++ s ∷ after
  pub table_is : table ≡ variables s.step.definition
  pub number_is : s.step.number ≡ number
  pub inner : HasInnerRow source top rows.inner.items rows.starts.items s
  pub outer_count : length rows.outer_starts.items ≡ length (instances source top)

-- the next member of an instance in its turn: the nets before it are there, and the next child has the number next
pub record IsNext (source : Source) (before : List Instance) (s : Instance) (x : ℕ × Member) (next count : ℕ) : Type 0 where
  pub front : List (ℕ × Member)
  pub behind : List (ℕ × Member)
  pub split : members_of s ≡ front ++ x ∷ behind
  pub there : slice_get (members s.step.definition) x.0 ≡ Some x.1
  pub nets_there : count ≡ nets_before source before s front
  pub levels : ℕ
  pub done : List Instance
  pub rest : children source s ≡ done ++ children_from source levels (s.step ∷ s.above) next (children_among source (x ∷ behind))

-- outer rows have been added
pub record AddsOutside (source : Source) (top : Module) (old new : List (Option ℕ)) (places later : List ℕ) (cs : List Instance) : Type 0 where
  pub more : List (Option ℕ)
  pub grown : new ≡ old ++ more
  pub same_count : length later ≡ length places
  pub rows : AllByRecursion (HasOuterRow source top new later) cs
  pub others : (j : ℕ) → (In j (map (λ c. c.step.number) cs) → ⊥) → slice_get later j ≡ slice_get places j

-- a member has been seen to: its nets are there, and the outer row of the child that it is
pub record IsSeenTo (source : Source) (top : Module) (s : Instance) (x : ℕ × Member) (levels next after : ℕ) (behind : List (ℕ × Member)) (old new : Rows) : Type 0 where
  pub made : new.nets.items ≡ old.nets.items ++ map undriven (member_nets source s x)
  pub cs : List Instance
  pub split : children_from source levels (s.step ∷ s.above) next (children_among source (x ∷ behind)) ≡ cs ++ children_from source levels (s.step ∷ s.above) after (children_among source behind)
  pub outside : AddsOutside source top old.outer.items new.outer.items old.outer_starts.items new.outer_starts.items cs
  pub ends : new.ends.items ≡ old.ends.items ++ map (end_number source top s) (first_ends s.step.definition x)
  pub same : (new.inner ≡ old.inner) × ((new.starts ≡ old.starts) × ((new.firsts ≡ old.firsts) × ((new.member_starts ≡ old.member_starts) × (new.end_starts ≡ old.end_starts))))

-- so many members of an instance have been seen to
pub record AreThrough (source : Source) (top : Module) (before : List Instance) (s : Instance) (k next : ℕ) (old new : Rows) : Type 0 where
  pub made : new.nets.items ≡ old.nets.items ++ map undriven (flat_map (member_nets source s) (take k (members_of s)))
  pub first_nets : new.firsts.items ≡ old.firsts.items ++ map (first_of_member source before s) (range_with_len 0 k)
  pub levels : ℕ
  pub done : List Instance
  pub rest : children source s ≡ done ++ children_from source levels (s.step ∷ s.above) next (children_among source (drop k (members_of s)))
  pub outside : AddsOutside source top old.outer.items new.outer.items old.outer_starts.items new.outer_starts.items done
  pub ends : new.ends.items ≡ old.ends.items ++ map (end_number source top s) (flat_map (first_ends s.step.definition) (take k (members_of s)))
  pub same : (new.inner ≡ old.inner) × ((new.starts ≡ old.starts) × ((new.member_starts ≡ old.member_starts) × (new.end_starts ≡ old.end_starts)))

-- an instance whose turn it is, with its outer row
pub record IsMine (source : Source) (top : Module) (corner : Corner) (rows : Rows) (table : List Variable) (number : ℕ) (leaf : Bool) : Type 0 where
  pub sound : AreSound source top corner
  pub before : List Instance
  pub s : Instance
  pub after : List Instance
  pub here : instances source top ≡ before ++ s ∷ after
  pub table_is : table ≡ variables s.step.definition
  pub number_is : s.step.number ≡ number
  pub leaf_is : is_leaf source s ≡ leaf
  pub nets_there : length rows.nets.items ≡ length (flat_map (nets_of source) before)
  pub outer_row : HasOuterRow source top rows.outer.items rows.outer_starts.items s

-- its own nets and its inner row have been added
pub record IsBegun (source : Source) (top : Module) (s : Instance) (old new : Rows) : Type 0 where
  pub made : new.nets.items ≡ old.nets.items ++ map undriven (variable_nets source s)
  pub start : new.starts.items ≡ old.starts.items ++ length old.inner.items ∷ []
  pub row : new.inner.items ≡ old.inner.items ++ map (number_at (nets source top) source s) (bits_of s)
  pub same : (new.outer ≡ old.outer) × ((new.outer_starts ≡ old.outer_starts) × ((new.firsts ≡ old.firsts) × ((new.member_starts ≡ old.member_starts)
      × ((new.ends ≡ old.ends) × (new.end_starts ≡ old.end_starts)))))
