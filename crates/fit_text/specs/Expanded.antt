-- What comes of the texts of a netlist's files.
use Rattle.std.specs.Prelude.{ℕ, ◌≡◌, ◌<◌, List, length, map}
use Rattle.std.specs.Global.{Vec}
use Rattle.fit_text.specs.declared.given.Expansion.{Expansion}
use Rattle.fit_text.specs.declared.given.Expansion.TheVariants as expansion

-- the bytes of each file
abbrev pub texts : List (Vec ℕ) → List (List ℕ)
texts files = map (λ file. file.items) files

-- the changes are of these texts, in order; some place is told where they can't be taken
abbrev pub AreTold : List (List ℕ) → Expansion → Type 0
AreTold texts (expansion.Expanded list) = map (λ f. f.text) list.items ≡ texts
AreTold texts (expansion.Wants from name) = Unit {0}
AreTold texts (expansion.Unfit places) = 0 < length places.items
