-- A name by its first byte and the others.
use Rattle.std.proofs.Common.{ℕ, ◌≡◌, ◌≤◌, List, [], ◌∷◌, length, drop, get_or, refl, arith}
use Rattle.std.specs.Prelude.{◌&&◌}
use Rattle.std.specs.List.{list_all}
use Rattle.sg_text.specs.Names.{is_name_byte, is_name_start, is_simple}

pub simple_from_first : (bytes : List ℕ) → 1 ≤ length bytes → is_simple bytes ≡ is_name_start (get_or bytes 0 0) && list_all is_name_byte (drop 1 bytes)
simple_from_first [] h = absurd (omega arith)
simple_from_first (b ∷ bs) h = refl
