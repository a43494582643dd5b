-- Trees of SDF files without their places.
use Rattle.std.specs.Prelude.{List, map}
use Rattle.std.specs.Option.{option_map}
use Rattle.sdf_tree.specs.Written.{Number, Value, Limits, Delay, Body, io_path, port_delay, interconnect, device, net_delay, Entry, Group, absolute, increment, path_pulse, CheckBody, pair_check, window_check, single_check, skipped_check, Check, Part, delays, checks, skipped_part, Cell, Head, text_head, divider_head, unit_head, value_head, FilePart, a_head, a_cell}
use Rattle.written_model.specs.Tree.{nowhere}

abbrev pub number : Number → Number
number n = record { place = nowhere; text = n.text }

abbrev pub value : Value → Value
value v = record { min = option_map number v.min; typ = option_map number v.typ; max = option_map number v.max }

abbrev pub limits : Limits → Limits
limits l = record { reject = value l.reject; error = option_map value l.error }

abbrev pub delay : Delay → Delay
delay d = record { place = nowhere; delay = value d.delay; limits = option_map limits d.limits }

abbrev pub body : Body → Body
body (io_path c f t rs ds) = io_path c f t (map delay rs) (map delay ds)
body (port_delay p ds) = port_delay p (map delay ds)
body (interconnect f t ds) = interconnect f t (map delay ds)
body (device o ds) = device o (map delay ds)
body (net_delay p ds) = net_delay p (map delay ds)

abbrev pub entry : Entry → Entry
entry e = record { place = nowhere; body = body e.body }

abbrev pub group : Group → Group
group (absolute es) = absolute (map entry es)
group (increment es) = increment (map entry es)
group (path_pulse p percent ports reject error) = path_pulse nowhere percent ports (value reject) (option_map value error)

abbrev pub check_body : CheckBody → CheckBody
check_body (pair_check c f s l) = pair_check c f s (value l)
check_body (window_check c f s l m) = window_check c f s (value l) (value m)
check_body (single_check c t l) = single_check c t (value l)
check_body (skipped_check s) = skipped_check s

abbrev pub check : Check → Check
check c = record { place = nowhere; body = check_body c.body }

abbrev pub part : Part → Part
part (delays gs) = delays (map group gs)
part (checks cs) = checks (map check cs)
part (skipped_part p s) = skipped_part nowhere s

abbrev pub cell : Cell → Cell
cell c = record { cell_type = c.cell_type; instance = c.instance; parts = map part c.parts }

abbrev pub head : Head → Head
head text_head = text_head
head (divider_head d) = divider_head d
head (unit_head u) = unit_head u
head (value_head v) = value_head (option_map value v)

abbrev pub file_part : FilePart → FilePart
file_part (a_head h) = a_head (head h)
file_part (a_cell c) = a_cell (cell c)

abbrev pub placeless : List FilePart → List FilePart
placeless ps = map file_part ps
