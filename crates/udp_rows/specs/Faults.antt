-- What is refused in a table of rows, and where.
use Rattle.std.specs.Prelude.{◌≡◌, ℕ, ◌==◌, ◌<◌, nat_le, Bool, true, false, ◌&&◌, ◌||◌, not, if◌then◌else◌, List, [], ◌∷◌, codes, length, count_by, Any, slice_get}
use Rattle.std.specs.List.{list_all}
use Rattle.std.specs.declared.option.Option.{Option}
use Rattle.std.specs.declared.option.Option.TheVariants.{Some, None}
use Rattle.sg_text.specs.declared.places.Place.{Place}
use Rattle.sg_text.specs.declared.refusals.Refused.{Refused}
use Rattle.sg_text.specs.declared.refusals.Refused.TheVariants.{Fault, NoMemory}
use Rattle.udp_rows.specs.declared.cells.Cell.{Cell}
use Rattle.udp_rows.specs.declared.cells.RawRow.{RawRow}
use Rattle.udp_rows.specs.declared.faults.UdpKind.{UdpKind}
use Rattle.udp_rows.specs.declared.faults.UdpKind.TheVariants.{TooManyInputs, TwoEdges, Clash, BadSymbol, RowLength}
use Rattle.udp_rows.specs.Symbols.{is_among, is_level, is_letter, has_edge}
use Rattle.udp_rows.specs.Clash.{Clash as RowsClash}

-- how many inputs a primitive may have (the standard asks for 9 and 10 at least, 8.1.2)
abbrev pub most_inputs : Bool → ℕ
most_inputs sequential = if sequential then 9 else 10

-- a cell for each input, and a state exactly in a sequential primitive
abbrev pub fits_length : ℕ → Bool → RawRow → Bool
fits_length inputs sequential row = (length row.inputs == inputs) && has_state row.state sequential
  where
    has_state : Option Cell → Bool → Bool
    has_state None sequential = not sequential
    has_state (Some cell) sequential = sequential

-- whether a cell's symbol may stand for an input: an edge symbol only in a sequential primitive
abbrev pub fits_input : Bool → Cell → Bool
fits_input sequential cell =
    if cell.second == 0 then is_level cell.first || (sequential && is_letter cell.first)
    else sequential && is_level cell.first && is_level cell.second

-- whether a cell's symbol may stand for the state
abbrev pub fits_state : Option Cell → Bool
fits_state None = true
fits_state (Some cell) = (cell.second == 0) && is_level cell.first

-- whether a cell's symbol may stand for the output: - only in a sequential primitive
abbrev pub fits_output : Bool → Cell → Bool
fits_output sequential cell =
    (cell.second == 0) && (is_among cell.first (codes "01xX") || (sequential && is_among cell.first (codes "-")))

-- whether each symbol of a row is allowed where it stands
abbrev pub fits_symbols : Bool → RawRow → Bool
fits_symbols sequential row =
    list_all (fits_input sequential) row.inputs && fits_state row.state && fits_output sequential row.out

-- whether a row has one edge symbol at most
abbrev pub fits_edges : RawRow → Bool
fits_edges row = nat_le (count_by has_edge row.inputs) 1

-- the place of the first row, or else the first byte of the first file
abbrev pub first_place : List RawRow → Place
first_place [] = record { file = 0; byte = 0 }
first_place (row ∷ rows) = row.place

-- a row at a place fails a test
abbrev pub FailsAt : (RawRow → Bool) → List RawRow → Place → Type 0
FailsAt test rows place = Any (λ row. (row.place ≡ place) × (test row ≡ false)) rows

-- a row at a place clashes with an earlier one
pub record ClashesAt (rows : List RawRow) (place : Place) : Type 0 where
  pub first : ℕ
  pub second : ℕ
  pub order : first < second
  pub earlier : RawRow
  pub is_first : slice_get rows first ≡ Some earlier
  pub later : RawRow
  pub is_second : slice_get rows second ≡ Some later
  pub at_place : later.place ≡ place
  pub clash : RowsClash earlier later

-- a fault of a kind stands at a place; several may stand
abbrev pub FaultStands : ℕ → Bool → List RawRow → UdpKind → Place → Type 0
FaultStands inputs sequential rows TooManyInputs place = (most_inputs sequential < inputs) × (place ≡ first_place rows)
FaultStands inputs sequential rows TwoEdges place = FailsAt fits_edges rows place
FaultStands inputs sequential rows Clash place = ClashesAt rows place
FaultStands inputs sequential rows BadSymbol place = FailsAt (fits_symbols sequential) rows place
FaultStands inputs sequential rows RowLength place = FailsAt (fits_length inputs sequential) rows place

-- none does
abbrev pub HasNoFault : ℕ → Bool → List RawRow → Type 0
HasNoFault inputs sequential rows = (kind : UdpKind) (place : Place) → ¬ FaultStands inputs sequential rows kind place

-- a refusal tells a fault that stands, or that there was no memory
abbrev pub RefusalStands : ℕ → Bool → List RawRow → Refused UdpKind → Type 0
RefusalStands inputs sequential rows (Fault kind place) = FaultStands inputs sequential rows kind place
RefusalStands inputs sequential rows NoMemory = Unit {0}
