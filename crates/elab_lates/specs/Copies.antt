-- What the code's copies of a module stand for.
use Rattle.std.specs.Prelude.{◌≡◌, ℕ, ◌+◌, ◌≤◌, Some, flat_map, length, map, slice_get, take}
use Rattle.std.specs.List.{enumerate_from}
use Rattle.vl_tree.specs.Tree.{Module}
use Rattle.elab_lates.specs.declared.copies.ModuleCopies.{ModuleCopies}
use Rattle.elab_lates.specs.Seen.{placed_seen, AreCopiesInRow}
use Rattle.elab_model.specs.Lates.{own_copies, module_copies, signal_count}
use Rattle.elab_model.specs.Members.{members}
use Rattle.elab_model.specs.Names.{variables}

-- how many copies come before those of a member
abbrev pub lates_before : Module → ℕ → ℕ
lates_before m k = length (flat_map (own_copies m) (take k (enumerate_from 0 (members m))))

pub record AreCopies (m : Module) (c : ModuleCopies) : Type 0 where
  pub copies : map (placed_seen (variables m)) c.copies.items ≡ module_copies m
  pub in_row : AreCopiesInRow (variables m) c.copies.items
  pub counted : length c.starts.items ≡ length (members m) + 1
  pub starts : (k : ℕ) → k ≤ length (members m) → slice_get c.starts.items k ≡ Some (lates_before m k)
  pub signals : c.signals ≡ signal_count m
  -- the index has the same copies
  pub indexed : c.index.keys ≡ map (λ x. x.copy) c.copies.items
