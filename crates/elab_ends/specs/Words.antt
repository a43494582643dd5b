-- Words of private functions.
use Rattle.std.specs.Prelude.{◌≡◌, ℕ, ◌<◌, List, [], ◌∷◌, Bool, ◌++◌, Some, filter, flat_map, length, map, slice_get, take}
use Rattle.std.specs.List.{enumerate_from, list_any}
use Rattle.vl_tree.specs.declared.paths.Arrow.{Arrow}
use Rattle.vl_tree.specs.declared.paths.Arrow.TheVariants.{Parallel, Full}
use Rattle.vl_tree.specs.Tree.{Module, SpecifyPath}
use Rattle.elab_laws.specs.Handing.{all_bits}
use Rattle.elab_model.specs.Ends.{ends, first_bits, first_ends}
use Rattle.elab_model.specs.Homes.{is_output}
use Rattle.elab_model.specs.Members.{members}
use Rattle.elab_model.specs.Names.{Variable, variable, variables}
use Rattle.elab_model.specs.Terms.{NetBit, is_same_bit, path_pairs}
use Rattle.elab_ends.specs.Ends.{ends_before}
use Rattle.elab_ends.specs.Seen.{bit_seen, bits_seen}

-- the marks of the row tell the bits that were seen
abbrev pub HasSeen : Module → List Bool → List NetBit → Type 0
HasSeen m seen before = (i : ℕ) → i < length (all_bits (variables m)) → slice_get seen i ≡ Some (list_any (is_same_bit (bit_seen (variables m) i)) before)

-- lists that have the same bits, each first in the same order
pub record AreAlike (xs ys : List NetBit) : Type 0 where
  pub same : (b : NetBit) → list_any (is_same_bit b) xs ≡ list_any (is_same_bit b) ys
  pub firsts : (seen : List NetBit) → first_bits seen xs ≡ first_bits seen ys

-- these stand for the bits to which a path leads
abbrev pub LeadsTo : List Variable → SpecifyPath → List NetBit → Type 0
LeadsTo vs p bs = (test : NetBit → Bool) → AreAlike (filter test (map (λ e. e.1) (path_pairs vs p))) (filter test bs)

-- to how many of its output bits a path leads
abbrev pub lead_count : Arrow → List ℕ → List ℕ → ℕ
lead_count Parallel inputs outputs = length inputs
lead_count Full [] outputs = 0
lead_count Full (i ∷ is) outputs = length outputs

abbrev pub is_of_output : Module → NetBit → Bool
is_of_output m b = is_output (variable m b.name).port

-- those of some bits that weren't seen before were added to the places, and all of them are marked
pub record HasAdded (m : Module) (bs before : List NetBit) (seen : List Bool) (old new : List ℕ) : Type 0 where
  pub marked : HasSeen m seen (before ++ bs)
  pub bits : bits_seen (variables m) new ≡ bits_seen (variables m) old ++ first_bits before bs

-- the ends of the first members of a module
pub record AreFirst (m : Module) (k : ℕ) (seen : List Bool) (bits starts : List ℕ) : Type 0 where
  pub marked : HasSeen m seen (flat_map (ends m) (take k (members m)))
  pub these : bits_seen (variables m) bits ≡ flat_map (first_ends m) (take k (enumerate_from 0 (members m)))
  pub counted : length starts ≡ k
  pub before : (i : ℕ) → i < k → slice_get starts i ≡ Some (ends_before m i)
