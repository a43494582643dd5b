-- What the code's ends stand for.
use Rattle.std.specs.Prelude.{◌≡◌, ℕ, ◌+◌, ◌≤◌, Some, flat_map, length, slice_get, take}
use Rattle.std.specs.List.{enumerate_from}
use Rattle.vl_tree.specs.Tree.{Module}
use Rattle.elab_model.specs.Ends.{first_ends, path_ends}
use Rattle.elab_model.specs.Members.{members}
use Rattle.elab_model.specs.Names.{variables}
use Rattle.elab_ends.specs.declared.ends.PathEnds.{PathEnds}
use Rattle.elab_ends.specs.Seen.{bits_seen, AreInRow}

-- how many output bits with paths come before those of a member
abbrev pub ends_before : Module → ℕ → ℕ
ends_before m k = length (flat_map (first_ends m) (take k (enumerate_from 0 (members m))))

pub record AreEnds (m : Module) (e : PathEnds) : Type 0 where
  pub bits : bits_seen (variables m) e.bits.items ≡ path_ends m
  pub in_row : AreInRow (variables m) e.bits.items
  pub counted : length e.starts.items ≡ length (members m) + 1
  pub starts : (k : ℕ) → k ≤ length (members m) → slice_get e.starts.items k ≡ Some (ends_before m k)
