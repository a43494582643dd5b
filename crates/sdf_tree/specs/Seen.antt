-- The code's trees of files as they are written, as the definitions see them.
use Rattle.std.specs.Prelude.{List, ℕ, map, option_map}
use Rattle.std.specs.Borrow.{Bor}
use Rattle.std.specs.Global.{Box}
use Rattle.cond_expr.specs.Token.{Tok, map_name}
use Rattle.cond_expr.specs.declared.tokens.Tok as over
use Rattle.sdf_lex.specs.Names.{called}
use Rattle.sdf_tree.specs.declared.tree.Instance as code_instance
use Rattle.sdf_tree.specs.declared.tree.Instance.TheVariants as instance
use Rattle.sdf_tree.specs.declared.tree.PathCondition as code_condition
use Rattle.sdf_tree.specs.declared.tree.PathCondition.TheVariants as condition
use Rattle.sdf_tree.specs.declared.tree.Port as code_port
use Rattle.sdf_tree.specs.declared.tree.PortPair as code_ports
use Rattle.sdf_tree.specs.declared.tree.Terminal as code_terminal
use Rattle.sdf_tree.specs.declared.written.WrittenBody as code_body
use Rattle.sdf_tree.specs.declared.written.WrittenBody.TheVariants as body
use Rattle.sdf_tree.specs.declared.written.WrittenCell as code_cell
use Rattle.sdf_tree.specs.declared.written.WrittenCheck as code_check
use Rattle.sdf_tree.specs.declared.written.WrittenCheckBody as code_check_body
use Rattle.sdf_tree.specs.declared.written.WrittenCheckBody.TheVariants as check
use Rattle.sdf_tree.specs.declared.written.WrittenDelay as code_delay
use Rattle.sdf_tree.specs.declared.written.WrittenEntry as code_entry
use Rattle.sdf_tree.specs.declared.written.WrittenFile as code_file
use Rattle.sdf_tree.specs.declared.written.WrittenFilePart as code_file_part
use Rattle.sdf_tree.specs.declared.written.WrittenFilePart.TheVariants as file_part
use Rattle.sdf_tree.specs.declared.written.WrittenGroup as code_group
use Rattle.sdf_tree.specs.declared.written.WrittenGroup.TheVariants as group
use Rattle.sdf_tree.specs.declared.written.WrittenHead as code_head
use Rattle.sdf_tree.specs.declared.written.WrittenHead.TheVariants as head
use Rattle.sdf_tree.specs.declared.written.WrittenLimits as code_limits
use Rattle.sdf_tree.specs.declared.written.WrittenNumber as code_number
use Rattle.sdf_tree.specs.declared.written.WrittenPart as code_part
use Rattle.sdf_tree.specs.declared.written.WrittenPart.TheVariants as part
use Rattle.sdf_tree.specs.declared.written.WrittenValue as code_value
use Rattle.sdf_tree.specs.Written.{Port, Terminal, PathCondition, always, otherwise, if_words, Instance, the_top, all_of_type, the_path, Number, Value, Limits, Delay, Body, io_path, port_delay, interconnect, device, net_delay, Entry, Group, absolute, increment, path_pulse, CheckBody, pair_check, window_check, single_check, skipped_check, Check, Part, delays, checks, skipped_part, Cell, Head, text_head, divider_head, unit_head, value_head, FilePart, a_head, a_cell}

-- A word of a condition. The code keeps a name as it is written, and it stands for what it is called.
abbrev pub written_name : Bor (List ℕ) → List ℕ
written_name name = called name.now

abbrev pub view_tok : over.Tok (Bor (List ℕ)) → Tok
view_tok t = map_name written_name t

abbrev pub view_port : code_port.Port → Port
view_port p = record { path = p.path.now; bit = p.bit }

abbrev pub view_ports : code_ports.PortPair → Port × Port
view_ports p = (view_port p.from, view_port p.to)

abbrev pub view_terminal : code_terminal.Terminal → Terminal
view_terminal t = record { condition = option_map (λ ws. map view_tok ws.items) t.condition; edge = t.edge; port = view_port t.port }

abbrev pub view_condition : code_condition.PathCondition → PathCondition
view_condition condition.Always = always
view_condition (condition.If ws) = if_words (map view_tok ws.items)
view_condition condition.Else = otherwise

abbrev pub view_instance : code_instance.Instance → Instance
view_instance instance.Top = the_top
view_instance instance.All = all_of_type
view_instance (instance.Path text) = the_path text.now

-- ---- numbers

abbrev pub view_number : code_number.WrittenNumber → Number
view_number n = record { place = n.place; text = n.text.now }

abbrev pub view_value : code_value.WrittenValue → Value
view_value v = record { min = option_map view_number v.min; typ = option_map view_number v.typ; max = option_map view_number v.max }

abbrev pub view_limits : code_limits.WrittenLimits → Limits
view_limits l = record { reject = view_value l.reject; error = option_map view_value l.error }

-- limits that stand apart
abbrev pub view_boxed : Box code_limits.WrittenLimits → Limits
view_boxed b = view_limits b.value

abbrev pub view_delay : code_delay.WrittenDelay → Delay
view_delay d = record { place = d.place; delay = view_value d.delay; limits = option_map view_boxed d.limits }

-- ---- entries

abbrev pub view_body : code_body.WrittenBody → Body
view_body (body.IoPath c f t rs ds) = io_path (view_condition c) (view_terminal f) (view_port t) (map view_delay rs.items) (map view_delay ds.items)
view_body (body.Port p ds) = port_delay (view_port p) (map view_delay ds.items)
view_body (body.Interconnect f t ds) = interconnect (view_port f) (view_port t) (map view_delay ds.items)
view_body (body.Device o ds) = device (option_map view_port o) (map view_delay ds.items)
view_body (body.NetDelay p ds) = net_delay (view_port p) (map view_delay ds.items)

abbrev pub view_entry : code_entry.WrittenEntry → Entry
view_entry e = record { place = e.place; body = view_body e.body }

abbrev pub view_group : code_group.WrittenGroup → Group
view_group (group.Absolute es) = absolute (map view_entry es.items)
view_group (group.Increment es) = increment (map view_entry es.items)
view_group (group.PathPulse p percent ports reject error) = path_pulse p percent (option_map view_ports ports) (view_value reject) (option_map view_value error)

abbrev pub view_check_body : code_check_body.WrittenCheckBody → CheckBody
view_check_body (check.Pair c f s l) = pair_check c (view_terminal f) (view_terminal s) (view_value l)
view_check_body (check.Window c f s l m) = window_check c (view_terminal f) (view_terminal s) (view_value l) (view_value m)
view_check_body (check.Single c t l) = single_check c (view_terminal t) (view_value l)
view_check_body (check.Skipped s) = skipped_check s

abbrev pub view_check : code_check.WrittenCheck → Check
view_check c = record { place = c.place; body = view_check_body c.body }

-- ---- cells and heads

abbrev pub view_part : code_part.WrittenPart → Part
view_part (part.Delays gs) = delays (map view_group gs.items)
view_part (part.Checks cs) = checks (map view_check cs.items)
view_part (part.Skipped p s) = skipped_part p s

abbrev pub view_cell : code_cell.WrittenCell → Cell
view_cell c = record { cell_type = c.cell_type.now; instance = view_instance c.instance; parts = map view_part c.parts.items }

abbrev pub view_head : code_head.WrittenHead → Head
view_head head.Text = text_head
view_head (head.Divider d) = divider_head d
view_head (head.TimeScale u) = unit_head u.power
view_head (head.Value v) = value_head (option_map view_value v)

abbrev pub view_file_part : code_file_part.WrittenFilePart → FilePart
view_file_part (file_part.Head h) = a_head (view_head h)
view_file_part (file_part.Cell c) = a_cell (view_cell c)

abbrev pub view_file : code_file.WrittenFile → List FilePart
view_file f = map view_file_part f.parts.items
