-- The code's bytes of tables, as the grammar names them.
use Rattle.vl_terms.specs.declared.rows.RowByte.{RowByte}
use Rattle.vl_terms.specs.declared.rows.RowByte.TheVariants.{Colon, Semicolon, Left, Right, Symbol}
use Rattle.vl_tree.specs.Kinds.{ByteKind, colon_byte, semicolon_byte, left_byte, right_byte, cell_byte}

abbrev pub bytes_kind : RowByte → ByteKind
bytes_kind Colon = colon_byte
bytes_kind Semicolon = semicolon_byte
bytes_kind Left = left_byte
bytes_kind Right = right_byte
bytes_kind Symbol = cell_byte
