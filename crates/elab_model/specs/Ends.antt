-- The output bits to which specify paths of their module lead. What drives such a bit inside drives an inner net in its place, which a Path alone reads; all else, inside too, reads
-- what the Path drives (IEEE 1364-2005, 14.1, 14.2).
use Rattle.std.specs.Prelude.{ℕ, List, [], ◌∷◌, Option, Some, None, filter, find, flat_map, map, take, if◌then◌else◌}
use Rattle.std.specs.List.{enumerate_from, list_any}
use Rattle.vl_tree.specs.Tree.{Module, Source}
use Rattle.elab_model.specs.Members.{Member, assignment, supply, gate, instance, path, check, members}
use Rattle.elab_model.specs.Names.{variables, variable}
use Rattle.elab_model.specs.Terms.{NetBit, is_same_bit, path_pairs}
use Rattle.elab_model.specs.Hierarchy.{Instance}
use Rattle.elab_model.specs.Homes.{Spot, inner, is_same_spot, is_output, home_of}

-- the bits of output ports to which a member leads
abbrev pub ends : Module → Member → List NetBit
ends m (assignment j) = []
ends m (supply n v) = []
ends m (gate g d i) = []
ends m (instance n d i) = []
ends m (check c) = []
ends m (path p) = filter (λ b. is_output (variable m b.name).port) (map (λ e. e.1) (path_pairs (variables m) p))

-- those of all members
abbrev pub all_ends : Module → List NetBit
all_ends m = flat_map (ends m) (members m)

-- each bit once, where it stands first, without those seen before
abbrev pub first_bits : List NetBit → List NetBit → List NetBit
first_bits seen [] = []
first_bits seen (b ∷ bs) = if list_any (is_same_bit b) seen then first_bits seen bs else b ∷ first_bits (b ∷ seen) bs

-- the bits to which a member, by its number, is the first to lead
abbrev pub first_ends : Module → ℕ × Member → List NetBit
first_ends m (k, i) = first_bits (flat_map (ends m) (take k (members m))) (ends m i)

-- all of these: each bit once, in text order
abbrev pub path_ends : Module → List NetBit
path_ends m = flat_map (first_ends m) (enumerate_from 0 (members m))

-- of an instance, the first bit with paths that is this net
abbrev pub end_at : Source → Instance → Spot → Option NetBit
end_at source s spot = find (λ b. is_same_spot (home_of source s b.name b.position) spot) (all_ends s.step.definition)

-- the net that is driven inside at a bit: the inner one, where paths lead to the bit's net
abbrev pub inner_spot : Instance → NetBit → Spot
inner_spot s b = inner s.step.number b.name b.position

abbrev pub inner_or : Instance → Spot → Option NetBit → Spot
inner_or s spot None = spot
inner_or s spot (Some b) = inner_spot s b

abbrev pub driven : Source → Instance → List ℕ → ℕ → Spot
driven source s n p = inner_or s (home_of source s n p) (end_at source s (home_of source s n p))
