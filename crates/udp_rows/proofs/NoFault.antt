-- What a table without fault keeps: few inputs, and a cell for each in every row.
use Rattle.std.proofs.Common.{◌≡◌, ℕ, ◌≤◌, ◌<◌, Bool, true, false, List, length, refl, arith, Some, slice_get}
use Rattle.std.proofs.lemmas.Option.{slice_get_within, get_or_from_slice_get}
use Rattle.udp_rows.specs.declared.cells.RawRow.{RawRow}
use Rattle.udp_rows.specs.declared.faults.UdpKind.TheVariants.{TooManyInputs, RowLength}
use Rattle.udp_rows.specs.Faults.{most_inputs, first_place, fits_length, HasNoFault}
use Rattle.udp_rows.proofs.FaultLaws.{length-is}

pub few-inputs : (inputs : ℕ) (sequential : Bool) (rows : List RawRow) → HasNoFault inputs sequential rows → inputs ≤ most_inputs sequential
few-inputs inputs sequential rows none = at (none TooManyInputs (first_place rows))
  where
    at : ¬ ((most_inputs sequential < inputs) × (first_place rows ≡ first_place rows)) → inputs ≤ most_inputs sequential
    at none = less (λ l. none (l, refl))
      where
        less : ¬ (most_inputs sequential < inputs) → inputs ≤ most_inputs sequential
        less none = omega (arith, none)

pub length-of-row : (inputs : ℕ) (sequential : Bool) (rows : List RawRow) → HasNoFault inputs sequential rows → (k : ℕ) (row : RawRow) → slice_get rows k ≡ Some row → length row.inputs ≡ inputs
length-of-row inputs sequential rows none k row is = at (fits_length inputs sequential row) refl
  where
    at : (b : Bool) → fits_length inputs sequential row ≡ b → length row.inputs ≡ inputs
    at true e = length-is inputs sequential row e
    at false e = absurd (none RowLength row.place (k, row, slice_get_within rows k row is, get_or_from_slice_get rows k row row is, (refl, e)))
