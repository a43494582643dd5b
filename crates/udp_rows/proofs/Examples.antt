-- Some symbols, and some tables with what they compute.
use Rattle.std.proofs.Common.{◌≡◌, ℕ, true, false, List, [], ◌∷◌, refl, Some, None}
use Rattle.sg_logic.specs.declared.values.Value.TheVariants.{Zero, One, X, Z}
use Rattle.udp_rows.specs.declared.cells.Cell.{Cell}
use Rattle.udp_rows.specs.declared.cells.RawRow.{RawRow}
use Rattle.udp_rows.specs.Symbols.{level_covers, edge_covers}
use Rattle.udp_rows.specs.Meaning.{udp_next}
use Rattle.udp_rows.specs.Faults.{fits_length, fits_symbols, fits_edges}
use Rattle.udp_rows.specs.Columns.{rows_clash}

-- a symbol of one byte
abbrev one : ℕ → Cell
one s = record { first = s; second = 0 }

-- r, p, (?1), (00)
rise : edge_covers (one 114) Zero One ≡ true
rise = refl

rise_from_x : edge_covers (one 112) X One ≡ true
rise_from_x = refl

no_rise : edge_covers (one 112) One X ≡ false
no_rise = refl

pair : edge_covers (record { first = 63; second = 49 }) X One ≡ true
pair = refl

pair_of_one_value : edge_covers (record { first = 48; second = 48 }) Zero Zero ≡ false
pair_of_one_value = refl

-- ? and b
any_value : level_covers 63 X ≡ true
any_value = refl

no_z : level_covers 63 Z ≡ false
no_z = refl

known_value : level_covers 98 X ≡ false
known_value = refl

-- a row of two inputs, with any state
abbrev row : ℕ → ℕ → ℕ → RawRow
row a b out = record {
  inputs = one a ∷ one b ∷ [];
  state = Some (one 63);
  out = one out;
  place = record { file = 0; byte = 0 };
}

-- 1 r : ? : 1;  1 1 : ? : 0;   the level row wins
level_wins : udp_next (record { inputs = 2; sequential = true; rows = row 49 114 49 ∷ row 49 49 48 ∷ [] }) (One ∷ Zero ∷ []) (One ∷ One ∷ []) X ≡ Zero
level_wins = refl

-- 0 r : ? : 0;  1 r : ? : 1;  ? n : ? : -;  * ? : ? : -;
abbrev register : List RawRow
register = row 48 114 48 ∷ row 49 114 49 ∷ row 63 110 45 ∷ row 42 63 45 ∷ []

-- data and clock rise at once, the data first
data_first : udp_next (record { inputs = 2; sequential = true; rows = register }) (Zero ∷ Zero ∷ []) (One ∷ One ∷ []) Zero ≡ One
data_first = refl

-- the same with the clock before the data
abbrev clocked_register : List RawRow
clocked_register = row 114 48 48 ∷ row 114 49 49 ∷ row 110 63 45 ∷ row 63 42 45 ∷ []

clock_first : udp_next (record { inputs = 2; sequential = true; rows = clocked_register }) (Zero ∷ Zero ∷ []) (One ∷ One ∷ []) Zero ≡ Zero
clock_first = refl

-- 1 1 : ? : 0;  1 ? : ? : 1;   clash, and a level row doesn't clash with an edge row
levels_clash : rows_clash (row 49 49 48) (row 49 63 49) ≡ true
levels_clash = refl

no_clash : rows_clash (row 49 114 49) (row 49 49 48) ≡ false
no_clash = refl

-- 0 r : ? : 0;  ? p : ? : 1;   clash at the change from 0 to 1
edges_clash : rows_clash (row 48 114 48) (row 63 112 49) ≡ true
edges_clash = refl

-- with - for 0 they clash in the states 0 and x
kept_state_clashes : rows_clash (row 48 114 45) (row 63 112 49) ≡ true
kept_state_clashes = refl

-- r 0 without a state is a bad symbol in a combinational row, one cell is too few for two inputs, r f has two edges
abbrev combinational : List Cell → RawRow
combinational cells = record { inputs = cells; state = None; out = one 49; place = record { file = 0; byte = 0 } }

bad_symbol : fits_symbols false (combinational (one 114 ∷ one 48 ∷ [])) ≡ false
bad_symbol = refl

too_short : fits_length 2 false (combinational (one 48 ∷ [])) ≡ false
too_short = refl

two_edges : fits_edges (row 114 102 49) ≡ false
two_edges = refl
