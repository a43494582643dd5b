-- What the code's table of variables stands for.
use Rattle.std.specs.Prelude.{◌≡◌, ℕ, ◌+◌, ◌<◌, ◌≤◌, List, [], ◌∷◌, length, slice_index_or}
use Rattle.std.specs.Borrow.{Bor}
use Rattle.std.specs.List.{AllByRecursion}
use Rattle.sg_circuit.specs.Closed.{width_of}
use Rattle.elab_model.specs.Names.{Variable}
use Rattle.elab_laws.specs.Handing.{all_bits}
use Rattle.elab_variables.specs.declared.tables.Row.{Row}
use Rattle.elab_variables.specs.Rows.{blank}

abbrev pub variable_seen : List ℕ → Row → Variable
variable_seen n r = record { name = n; range = r.range; is_reg = r.reg; port = r.port }

abbrev pub variables_seen : List (Bor (List ℕ)) → List Row → List Variable
variables_seen [] rs = []
variables_seen (n ∷ ns) [] = []
variables_seen (n ∷ ns) (r ∷ rs) = variable_seen n.now r ∷ variables_seen ns rs

-- so many bits stand before each
abbrev pub starts_are : ℕ → List Row → Type 0
starts_are next [] = Unit {0}
starts_are next (r ∷ rs) = (r.start ≡ next) × starts_are (next + width_of r.range) rs

-- a place in the row of bits is among those of this row
pub record HasPlace (rows : List Row) (place i : ℕ) : Type 0 where
  pub inside : i < length rows
  pub from : (slice_index_or rows i blank).start ≤ place
  pub below : place < (slice_index_or rows i blank).start + width_of (slice_index_or rows i blank).range

pub record IsTable (names : List (Bor (List ℕ))) (rows : List Row) (bits : ℕ) : Type 0 where
  pub same : length names ≡ length rows
  pub starts : starts_are 0 rows
  pub wide : AllByRecursion (λ r. width_of r.range ≤ 65536) rows
  pub count : bits ≡ length (all_bits (variables_seen names rows))
