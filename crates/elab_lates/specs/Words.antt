-- Words of private functions.
use Rattle.std.specs.Prelude.{◌≡◌, ℕ, ◌<◌, List, [], Option, None, Some, flat_map, length, map, slice_get, take}
use Rattle.sg_text.specs.declared.places.Place.{Place}
use Rattle.vl_tree.specs.Tree.{Module}
use Rattle.elab_ends.specs.Seen.{bits_seen, AreInRow}
use Rattle.elab_lates.specs.declared.copies.PlacedCopy.{PlacedCopy}
use Rattle.elab_lates.specs.declared.making.Asked.{Asked}
use Rattle.elab_lates.specs.Copies.{lates_before}
use Rattle.elab_lates.specs.Seen.{placed_seen, AreCopiesInRow}
use Rattle.elab_model.specs.Ends.{first_bits}
use Rattle.elab_model.specs.Lates.{DelayedCopy, copies, first_copies, own_copies}
use Rattle.elab_model.specs.Members.{Member, members}
use Rattle.elab_model.specs.Names.{variables}

-- each copy that was asked for is there once, and so is each signal
pub record HasAsked (m : Module) (before : List (Place × DelayedCopy)) (a : Asked) : Type 0 where
  pub copies : map (placed_seen (variables m)) a.copies.items ≡ first_copies [] before
  pub in_row : AreCopiesInRow (variables m) a.copies.items
  pub indexed : a.index.keys ≡ map (λ c. c.copy) a.copies.items
  pub signals : bits_seen (variables m) a.signals.keys ≡ first_bits [] (map (λ c. c.1.signal) before)
  pub signals_in_row : AreInRow (variables m) a.signals.keys

-- what the first members of a module asked for
pub record AreAsked (m : Module) (k : ℕ) (a : Asked) (starts : List ℕ) : Type 0 where
  pub asked : HasAsked m (flat_map (copies (variables m)) (take k (members m))) a
  pub counted : length starts ≡ k
  pub before : (i : ℕ) → i < k → slice_get starts i ≡ Some (lates_before m i)

-- these copies are there, and are those that a member is the first to ask for
abbrev pub IsOwn : Module → ℕ × Member → Option (List PlacedCopy) → Type 0
IsOwn m x None = ⊥
IsOwn m x (Some cs) = map (placed_seen (variables m)) cs ≡ own_copies m x
