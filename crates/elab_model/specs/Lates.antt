-- The delayed copies of signals that timing checks see, so that limits below 0 can be met (IEEE 1364-2005, 15.8).
use Rattle.std.specs.Prelude.{ℕ, List, [], ◌∷◌, ◌++◌, Bool, true, false, ◌&&◌, is_none, Option, Some, None, filter_map, flat_map, map, take, length, if◌then◌else◌}
use Rattle.std.specs.List.{enumerate_from, list_any}
use Rattle.sg_text.specs.declared.places.Place.{Place}
use Rattle.vl_tree.specs.Tree.{Named, signal, Event, one_limit_check, two_limit_check, width_check, period_check, Module, Source}
use Rattle.elab_model.specs.Members.{Member, assignment, supply, gate, instance, path, check, members}
use Rattle.elab_model.specs.Bits.{bits}
use Rattle.elab_model.specs.Names.{Variable, variables}
use Rattle.elab_model.specs.Terms.{NetBit, net_bit, is_same_bit, term_bits}
use Rattle.elab_model.specs.Hierarchy.{Instance}
use Rattle.elab_model.specs.Homes.{Spot, late}
use Rattle.elab_model.specs.Ends.{first_bits, driven}

-- a delayed copy of a bit of a module, and the bit that the text names for it, if it names one
pub record DelayedCopy : Type 0 where
  pub signal : NetBit
  pub named : Option NetBit

abbrev pub is_same_name : Option NetBit → Option NetBit → Bool
is_same_name None None = true
is_same_name None (Some c) = false
is_same_name (Some b) None = false
is_same_name (Some b) (Some c) = is_same_bit b c

abbrev pub is_same_copy : DelayedCopy → DelayedCopy → Bool
is_same_copy c d = is_same_bit c.signal d.signal && is_same_name c.named d.named

-- what isn't one bit has no copy and is none
abbrev pub one_bit : List NetBit → List NetBit
one_bit [] = []
one_bit (b ∷ []) = b ∷ []
one_bit (b ∷ c ∷ bs) = []

abbrev pub signal_bits : List Variable → Event → List NetBit
signal_bits vs e = one_bit (term_bits vs e.term)

abbrev pub name_bits : List Variable → Named → List NetBit
name_bits vs n = one_bit (filter_map net_bit (bits vs (signal n None)))

-- the copy of a terminal's bit, with the place that says it
abbrev pub copies_of : List Variable → Place → Event → Option Named → List (Place × DelayedCopy)
copies_of vs p e None = map (λ b. (p, record { signal = b; named = None })) (signal_bits vs e)
copies_of vs p e (Some n) = flat_map (λ b. map (λ d. (n.place, record { signal = b; named = Some d })) (name_bits vs n)) (signal_bits vs e)

-- those of a member: a timing check that takes limits below 0 has one of its reference, and then one of its data
abbrev pub copies : List Variable → Member → List (Place × DelayedCopy)
copies vs (assignment j) = []
copies vs (supply n v) = []
copies vs (gate g d i) = []
copies vs (instance n d i) = []
copies vs (path p) = []
copies vs (check (one_limit_check p k r d l n)) = []
copies vs (check (two_limit_check p k r d l m n f g)) = copies_of vs p r f ++ copies_of vs p d g
copies vs (check (width_check p r l t n)) = []
copies vs (check (period_check p r l n)) = []

-- each once, where it stands first, without those seen before
abbrev pub first_copies : List DelayedCopy → List (Place × DelayedCopy) → List (Place × DelayedCopy)
first_copies seen [] = []
first_copies seen (c ∷ cs) = if list_any (is_same_copy c.1) seen then first_copies seen cs else c ∷ first_copies (c.1 ∷ seen) cs

abbrev pub copies_before : Module → ℕ → List (Place × DelayedCopy)
copies_before m k = flat_map (copies (variables m)) (take k (members m))

-- those that a member, by its number, is the first to ask for
abbrev pub own_copies : Module → ℕ × Member → List (Place × DelayedCopy)
own_copies m (k, i) = first_copies (map (λ c. c.1) (copies_before m k)) (copies (variables m) i)

-- all of a module, in text order
abbrev pub module_copies : Module → List (Place × DelayedCopy)
module_copies m = flat_map (own_copies m) (enumerate_from 0 (members m))

-- how many bits of a module have copies
abbrev pub signal_count : Module → ℕ
signal_count m = length (first_bits [] (map (λ c. c.1.signal) (flat_map (copies (variables m)) (members m))))

-- what a copy drives: what is driven inside at the bit that the text names, or else a net of its own
abbrev pub spot_by : Source → Instance → NetBit → Option NetBit → Spot
spot_by source s b None = late s.step.number b.name b.position
spot_by source s b (Some d) = driven source s d.name d.position

abbrev pub copy_spot : Source → Instance → DelayedCopy → Spot
copy_spot source s c = spot_by source s c.signal c.named

-- those that have a net of their own
abbrev pub is_unnamed : Place × DelayedCopy → Bool
is_unnamed c = is_none c.1.named
