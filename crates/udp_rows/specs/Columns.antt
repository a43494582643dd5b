-- How two rows are found to clash, column by column: nothing rests on this but the code, `Clash` says what it decides.
use Rattle.std.specs.Prelude.{◌≡◌, ℕ, Bool, true, false, ◌&&◌, not, if◌then◌else◌, List, [], ◌∷◌, take, slice_get, Some}
use Rattle.std.specs.List.{list_any, list_all, zip}
use Rattle.sg_logic.specs.declared.values.Value.{Value}
use Rattle.sg_logic.specs.declared.values.Value.TheVariants.{Zero, One, X}
use Rattle.sg_logic.specs.Values.{is_same}
use Rattle.sg_logic.specs.Edges.{edge_changes}
use Rattle.sg_text.specs.declared.places.Place.{Place}
use Rattle.udp_rows.specs.declared.cells.Cell.{Cell}
use Rattle.udp_rows.specs.declared.cells.RawRow.{RawRow}
use Rattle.udp_rows.specs.Symbols.{has_edge, level_covers, edge_covers}
use Rattle.udp_rows.specs.Meaning.{state_covers, output}

-- the values that symbols cover
abbrev pub values : List Value
values = Zero ∷ One ∷ X ∷ []

-- both symbols cover some value
abbrev pub values_meet : ℕ → ℕ → Bool
values_meet a b = list_any (λ v. level_covers a v && level_covers b v) values

-- both cells cover some change
abbrev pub changes_meet : Cell → Cell → Bool
changes_meet a b = list_any (λ change. edge_covers a change.0 change.1 && edge_covers b change.0 change.1) edge_changes

-- both cells have edge symbols and cover some change, or both have level symbols and cover some value
abbrev pub column_meets : Cell → Cell → Bool
column_meets a b = if has_edge a then has_edge b && changes_meet a b else not (has_edge b) && values_meet a.first b.first

abbrev pub columns_meet : List Cell → List Cell → Bool
columns_meet a b = list_all (λ column. column_meets column.0 column.1) (zip a b)

-- some state is covered by both, and the outputs differ there
abbrev pub state_differs : RawRow → RawRow → Value → Bool
state_differs a b s = state_covers a.state s && state_covers b.state s && not (is_same (output a s) (output b s))

abbrev pub states_differ : RawRow → RawRow → Bool
states_differ a b = list_any (state_differs a b) values

abbrev pub rows_clash : RawRow → RawRow → Bool
rows_clash a b = columns_meet a.inputs b.inputs && states_differ a b

-- whether a row clashes with one of the first k
abbrev pub clashes_before : List RawRow → ℕ → RawRow → Bool
clashes_before rows k row = list_any (λ earlier. rows_clash earlier row) (take k rows)

-- no row clashes with an earlier one
abbrev pub NoneClash : List RawRow → Type 0
NoneClash rows = (k : ℕ) (row : RawRow) → slice_get rows k ≡ Some row → clashes_before rows k row ≡ false

-- a row at a place clashes with an earlier one
abbrev pub SomeClash : List RawRow → Place → Type 0
SomeClash rows place =
    (k : ℕ) × (row : RawRow) × (slice_get rows k ≡ Some row) × (clashes_before rows k row ≡ true) × (row.place ≡ place)
