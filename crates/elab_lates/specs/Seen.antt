-- Copies by places in the row of bits, as the definitions see them.
use Rattle.std.specs.Prelude.{ℕ, ◌<◌, All, List, Option, None, Some, length}
use Rattle.std.specs.Option.{option_map}
use Rattle.sg_text.specs.declared.places.Place.{Place}
use Rattle.elab_ends.specs.Seen.{bit_seen}
use Rattle.elab_laws.specs.Handing.{all_bits}
use Rattle.elab_lates.specs.declared.copies.DelayedCopy as code
use Rattle.elab_lates.specs.declared.copies.PlacedCopy.{PlacedCopy}
use Rattle.elab_model.specs.Lates.{DelayedCopy}
use Rattle.elab_model.specs.Names.{Variable}

abbrev pub copy_seen : List Variable → code.DelayedCopy → DelayedCopy
copy_seen vs c = record { signal = bit_seen vs c.signal; named = option_map (bit_seen vs) c.named }

abbrev pub placed_seen : List Variable → PlacedCopy → Place × DelayedCopy
placed_seen vs c = (c.place, copy_seen vs c.copy)

-- they stand in the row
abbrev pub IsPlaceIn : List Variable → Option ℕ → Type 0
IsPlaceIn vs None = Unit {0}
IsPlaceIn vs (Some i) = i < length (all_bits vs)

abbrev pub IsCopyInRow : List Variable → code.DelayedCopy → Type 0
IsCopyInRow vs c = (c.signal < length (all_bits vs)) × IsPlaceIn vs c.named

abbrev pub AreCopiesInRow : List Variable → List PlacedCopy → Type 0
AreCopiesInRow vs cs = All (λ c. IsCopyInRow vs c.copy) cs
