-- The tree of a written SDF file (IEEE 1497-2001, annex A), with one place throughout.
use Rattle.std.specs.Prelude.{ℕ, ◌==◌, ◌||◌, not, List, [], ◌∷◌, ◌++◌, length, map, Option, Some, None, decimal, flat_map, unwrap_or}
use Rattle.std.specs.Fmt.{signed_decimal}
use Rattle.std.specs.List.{filter, range_with_len}
use Rattle.cond_expr.specs.Token.{Tok}
use Rattle.sg_text.specs.declared.places.Place.{Place}
use Rattle.sg_circuit.specs.Circuit.{Circuit, Variable, scope_at}
use Rattle.sdf_tree.specs.declared.tree.Edge.{Edge}
use Rattle.sdf_tree.specs.declared.tree.PairCheck.TheVariants as pair
use Rattle.sdf_tree.specs.declared.tree.SingleCheck.TheVariants as single
use Rattle.sdf_tree.specs.declared.words.Divider.TheVariants.{Slash}
use Rattle.sdf_tree.specs.Written.{Port, Terminal, Instance, the_top, the_path, Number, Value, Delay, io_path, port_delay, Entry, absolute, CheckBody, pair_check, single_check, Check, Part, delays, checks, text_head, divider_head, unit_head, FilePart, a_head, a_cell}
use Rattle.written_model.specs.declared.parts.Part as code_part
use Rattle.written_model.specs.declared.parts.Part.TheVariants as part
use Rattle.written_model.specs.Names.{name_text, names_text, BitName, name_of, names_to}
use Rattle.written_model.specs.Entries as entries
use Rattle.written_model.specs.Entries.{Numbers, LegEntry, PathEntry, EventKey, CheckKey, CheckEntry}

abbrev pub nowhere : Place
nowhere = record { file = 0; byte = 0 }

-- ---- ports and terminals

abbrev pub port_of_name : BitName → Port
port_of_name n = record { path = name_text n.name; bit = n.index }

abbrev pub port_of : List Variable → ℕ → Port
port_of vs net = port_of_name (name_of vs net)

abbrev pub terminal_of : List Variable → ℕ → Option Edge → Option (List Tok) → Terminal
terminal_of vs net edge condition = record { condition = condition; edge = edge; port = port_of vs net }

abbrev pub event_terminal : List Variable → EventKey → Terminal
event_terminal vs k = terminal_of vs k.net k.edge k.condition

-- ---- values: each number is a lone one, for all corners

abbrev pub number_of : List ℕ → Number
number_of text = record { place = nowhere; text = text }

abbrev pub lone : List ℕ → Value
lone text = record { min = Some (number_of text); typ = Some (number_of text); max = Some (number_of text) }

abbrev pub delay_of : Numbers → Delay
delay_of n = record { place = nowhere; delay = lone (decimal n.delay); limits = Some (record { reject = lone (decimal n.reject); error = Some (lone (decimal n.error)) }) }

-- ---- entries

abbrev pub leg_entry : List Variable → LegEntry → Entry
leg_entry vs e = record { place = nowhere; body = port_delay (port_of vs e.net) (map delay_of e.numbers) }

abbrev pub path_entry : List Variable → PathEntry → Entry
path_entry vs e = record { place = nowhere; body = io_path e.key.condition (terminal_of vs e.key.input e.key.edge None) (port_of vs e.key.output) [] (map delay_of e.numbers) }

-- the data's terminal; parts with one event have none
abbrev pub datum_of : CheckKey → EventKey
datum_of k = unwrap_or k.datum k.refer

-- Of setup and hold the data stands first, of the others the reference (IEEE 1497-2001, timing check entries).
abbrev pub check_body : code_part.Part → (refer datum : Terminal) → Value → CheckBody
check_body part.Setup refer datum limit = pair_check pair.Setup datum refer limit
check_body part.Hold refer datum limit = pair_check pair.Hold datum refer limit
check_body part.Recovery refer datum limit = pair_check pair.Recovery refer datum limit
check_body part.Removal refer datum limit = pair_check pair.Removal refer datum limit
check_body part.Skew refer datum limit = pair_check pair.Skew refer datum limit
check_body part.Width refer datum limit = single_check single.Width refer limit
check_body part.Period refer datum limit = single_check single.Period refer limit

abbrev pub check_of : List Variable → CheckEntry → Check
check_of vs e = record { place = nowhere; body = check_body e.key.part (event_terminal vs e.key.refer) (event_terminal vs (datum_of e.key)) (lone (signed_decimal e.limit)) }

-- ---- cells

-- what stands in a list, unless that is empty
abbrev pub unless_empty : {A B : Type 0} → (List A → B) → List A → List B
unless_empty f [] = []
unless_empty f (x ∷ xs) = f (x ∷ xs) ∷ []

abbrev pub delay_entries : Circuit → ℕ → List Entry
delay_entries c s = map (leg_entry (scope_at c s).variables) (entries.legs c s) ++ map (path_entry (scope_at c s).variables) (entries.paths c s)

abbrev pub check_entries : Circuit → ℕ → List Check
check_entries c s = map (check_of (scope_at c s).variables) (entries.checks c s)

abbrev pub parts_of : Circuit → ℕ → List Part
parts_of c s = unless_empty (λ es. delays (absolute es ∷ [])) (delay_entries c s) ++ unless_empty checks (check_entries c s)

-- a module's name between quotes, without those bytes that may not stand there
abbrev pub cell_type_of : List ℕ → List ℕ
cell_type_of name = filter (λ b. not ((b == 34) || (b == 92))) name

abbrev pub instance_of : List (List ℕ) → Instance
instance_of [] = the_top
instance_of (n ∷ ns) = the_path (names_text (n ∷ ns))

-- the cell of a scope with something to write
abbrev pub cells_of : Circuit → ℕ → List FilePart
cells_of c s = unless_empty (λ ps. a_cell (record { cell_type = cell_type_of (scope_at c s).module_name; instance = instance_of (names_to c s); parts = ps })) (parts_of c s)

-- ---- the file

-- the unit is the tick
unfoldable pub tree : Circuit → List FilePart
tree c = a_head text_head ∷ a_head (divider_head Slash) ∷ a_head (unit_head c.tick) ∷ flat_map (cells_of c) (range_with_len 0 (length c.scopes))
