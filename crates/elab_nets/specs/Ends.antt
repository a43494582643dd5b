-- The bits to which a specify path is the first to lead, as the code has them.
use Rattle.std.specs.Prelude.{◌≡◌, ℕ, List, Option, None, Some}
use Rattle.vl_tree.specs.Tree.{Module}
use Rattle.elab_ends.specs.Seen.{bits_seen}
use Rattle.elab_model.specs.Ends.{first_ends}
use Rattle.elab_model.specs.Members.{Member}
use Rattle.elab_model.specs.Names.{variables}

-- these places of the row are there, and are the bits to which a member is the first to lead
abbrev pub AreFirstEnds : Module → ℕ × Member → Option (List ℕ) → Type 0
AreFirstEnds m x None = ⊥
AreFirstEnds m x (Some places) = bits_seen (variables m) places ≡ first_ends m x
