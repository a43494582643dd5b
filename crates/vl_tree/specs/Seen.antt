-- The code's trees, as the definitions see them.
use Rattle.std.specs.Prelude.{map, option_map}
use Rattle.cond_expr.specs.Token.{map_name}
use Rattle.sg_time.specs.Seen.{number}
use Rattle.vl_token.specs.Constants.{sized_bits}
use Rattle.vl_token.specs.Seen.{settings}
use Rattle.vl_tree.specs.declared.checks.Check as code_check
use Rattle.vl_tree.specs.declared.checks.Check.TheVariants as check
use Rattle.vl_tree.specs.declared.checks.Event as code_event
use Rattle.vl_tree.specs.declared.expressions.Delay as code_delay
use Rattle.vl_tree.specs.declared.expressions.Expression as code_expression
use Rattle.vl_tree.specs.declared.expressions.Expression.TheOpen as layer
use Rattle.vl_tree.specs.declared.expressions.Expression.TheFolds.{fold-Expression}
use Rattle.vl_tree.specs.declared.expressions.MinTypMax as code_mtm
use Rattle.vl_tree.specs.declared.expressions.MinTypMax.TheVariants as mtm
use Rattle.vl_tree.specs.declared.items.Connections as code_connections
use Rattle.vl_tree.specs.declared.items.Connections.TheVariants as connections
use Rattle.vl_tree.specs.declared.items.GateInstance as code_gate
use Rattle.vl_tree.specs.declared.items.Instance as code_instance
use Rattle.vl_tree.specs.declared.items.Item as code_item
use Rattle.vl_tree.specs.declared.items.Item.TheVariants as item
use Rattle.vl_tree.specs.declared.items.Join as code_join
use Rattle.vl_tree.specs.declared.items.NamedConnection as code_connection
use Rattle.vl_tree.specs.declared.items.NetName as code_net
use Rattle.vl_tree.specs.declared.modules.Head as code_head
use Rattle.vl_tree.specs.declared.modules.Head.TheVariants as head
use Rattle.vl_tree.specs.declared.modules.HeadPort as code_port
use Rattle.vl_tree.specs.declared.modules.HeadPort.TheVariants as port
use Rattle.vl_tree.specs.declared.modules.Module as code_module
use Rattle.vl_tree.specs.declared.modules.Part as code_part
use Rattle.vl_tree.specs.declared.modules.Part.TheVariants as part
use Rattle.vl_tree.specs.declared.modules.PortDeclaration as code_declaration
use Rattle.vl_tree.specs.declared.modules.Source as code_source
use Rattle.vl_tree.specs.declared.names.Name as code_name
use Rattle.vl_tree.specs.declared.paths.DataSource as code_source_of_data
use Rattle.vl_tree.specs.declared.paths.Destination as code_destination
use Rattle.vl_tree.specs.declared.paths.EdgeWord as code_edge
use Rattle.vl_tree.specs.declared.paths.EdgeWord.TheVariants as edge
use Rattle.vl_tree.specs.declared.paths.PathCondition as code_path_condition
use Rattle.vl_tree.specs.declared.paths.PathCondition.TheVariants as path_condition
use Rattle.vl_tree.specs.declared.paths.SpecifyPath as code_path
use Rattle.vl_tree.specs.declared.primitives.Initial as code_initial
use Rattle.vl_tree.specs.declared.primitives.Primitive as code_primitive
use Rattle.vl_tree.specs.declared.primitives.PrimitiveDeclaration as code_pdec
use Rattle.vl_tree.specs.declared.primitives.PrimitiveDeclaration.TheVariants as pdec
use Rattle.vl_tree.specs.declared.specify.Amount as code_amount
use Rattle.vl_tree.specs.declared.specify.Amount.TheVariants as amount
use Rattle.vl_tree.specs.declared.specify.Amounts as code_amounts
use Rattle.vl_tree.specs.declared.specify.Amounts.TheVariants as amounts
use Rattle.vl_tree.specs.declared.specify.Limit as code_limit
use Rattle.vl_tree.specs.declared.specify.Limit.TheVariants as limit
use Rattle.vl_tree.specs.declared.specify.SignedAmount as code_signed
use Rattle.vl_tree.specs.declared.specify.SpecifyBlock as code_block
use Rattle.vl_tree.specs.declared.specify.SpecifyItem as code_specify_item
use Rattle.vl_tree.specs.declared.specify.SpecifyItem.TheVariants as specify_item
use Rattle.vl_tree.specs.declared.specify.Specparam as code_specparam
use Rattle.vl_tree.specs.declared.specify.Specparam.TheVariants as specparam
use Rattle.vl_tree.specs.declared.specify.Term as code_term
use Rattle.vl_tree.specs.declared.specify.Word as code_word
use Rattle.vl_tree.specs.Tree.{Named, Expression, signal, sized, concatenation, expressions, MinTypMax, one_number, three_numbers, Delay, NetName, Join, GateInstance, NamedConnection, Connections, by_order, by_name, Instance, Item, ports, nets, supplies, registers, assigns, gates, instances, specify_block, PortDeclaration, HeadPort, declared_port, named_port, Head, head_names, head_declarations, Module, PrimitiveDeclaration, output_port, output_register, input_ports, Initial, Primitive, Part, a_module, a_primitive, Source, Term, Word, Amount, a_number, a_parameter, Amounts, one_amount, three_amounts, SignedAmount, Limit, one_limit, three_limits, Specparam, a_value, pulse_limits, EdgeWord, posedge, negedge, pairs, PathCondition, always, if_none, if_words, DataSource, Destination, SpecifyPath, Event, Check, one_limit_check, two_limit_check, width_check, period_check, SpecifyItem, specparams, a_path, pulse_style, a_check, SpecifyBlock}

abbrev pub view_name : code_name.Name → Named
view_name n = record { text = n.text.now; place = n.place }

-- one layer of an expression, with the parts seen already
abbrev pub view_layer : layer.Expression-F Expression → Expression
view_layer (layer.Signal name select) = signal (view_name name) select
view_layer (layer.Sized place c) = sized place (sized_bits c.width c.base c.digits.now)
view_layer (layer.Concatenation place parts) = concatenation place (expressions parts.items)

abbrev pub view_expression : code_expression.Expression → Expression
view_expression = fold-Expression Expression view_layer

abbrev pub view_mtm : code_mtm.MinTypMax → MinTypMax
view_mtm (mtm.One n) = one_number (number n)
view_mtm (mtm.Three a b c) = three_numbers (number a) (number b) (number c)

abbrev pub view_delay : code_delay.Delay → Delay
view_delay d = record { place = d.place; values = map view_mtm d.values.items }

abbrev pub view_net_name : code_net.NetName → NetName
view_net_name n = record { name = view_name n.name; value = option_map view_expression n.value }

abbrev pub view_join : code_join.Join → Join
view_join j = record { place = j.place; left = view_expression j.left; right = view_expression j.right }

abbrev pub view_gate_instance : code_gate.GateInstance → GateInstance
view_gate_instance g = record { place = g.place; name = option_map view_name g.name; terminals = map view_expression g.terminals.items }

abbrev pub view_named_connection : code_connection.NamedConnection → NamedConnection
view_named_connection c = record { place = c.place; port = view_name c.port; value = option_map view_expression c.value }

abbrev pub view_connections : code_connections.Connections → Connections
view_connections (connections.Ordered v) = by_order (map (option_map view_expression) v.items)
view_connections (connections.Named v) = by_name (map view_named_connection v.items)

abbrev pub view_instance : code_instance.Instance → Instance
view_instance i = record { place = i.place; name = option_map view_name i.name; connections = view_connections i.connections }

-- ---- specify blocks

abbrev pub view_term : code_term.Term → Term
view_term t = record { name = view_name t.name; select = t.select }

abbrev pub view_word : code_word.Word → Word
view_word w = record { place = w.place; token = map_name (λ name. name.now) w.token }

abbrev pub view_amount : code_amount.Amount → Amount
view_amount (amount.Number p n) = a_number p (number n)
view_amount (amount.Parameter n) = a_parameter (view_name n)

abbrev pub view_amounts : code_amounts.Amounts → Amounts
view_amounts (amounts.One a) = one_amount (view_amount a)
view_amounts (amounts.Three a b c) = three_amounts (view_amount a) (view_amount b) (view_amount c)

abbrev pub view_signed : code_signed.SignedAmount → SignedAmount
view_signed a = record { negative = a.negative; amount = view_amount a.amount }

abbrev pub view_limit : code_limit.Limit → Limit
view_limit (limit.One a) = one_limit (view_signed a)
view_limit (limit.Three a b c) = three_limits (view_signed a) (view_signed b) (view_signed c)

abbrev pub view_specparam : code_specparam.Specparam → Specparam
view_specparam (specparam.Value n m) = a_value (view_name n) (view_mtm m)
view_specparam (specparam.PulseLimits n r e) = pulse_limits (view_name n) (view_mtm r) (option_map view_mtm e)

abbrev pub view_edge : code_edge.EdgeWord → EdgeWord
view_edge edge.Posedge = posedge
view_edge edge.Negedge = negedge
view_edge (edge.Pairs ps) = pairs ps.items

abbrev pub view_path_condition : code_path_condition.PathCondition → PathCondition
view_path_condition path_condition.Always = always
view_path_condition (path_condition.If ws) = if_words (map view_word ws.items)
view_path_condition path_condition.IfNone = if_none

abbrev pub view_data_source : code_source_of_data.DataSource → DataSource
view_data_source s = record { polarity = s.polarity; words = map view_word s.words.items }

abbrev pub view_destination : code_destination.Destination → Destination
view_destination d = record { terms = map view_term d.terms.items; source = option_map view_data_source d.source }

abbrev pub view_path : code_path.SpecifyPath → SpecifyPath
view_path p = record { place = p.place; condition = view_path_condition p.condition; edge = option_map view_edge p.edge; sources = map view_term p.sources.items; polarity = p.polarity; arrow = p.arrow; destination = view_destination p.destination; delays = map view_amounts p.delays.items }

abbrev pub view_event : code_event.Event → Event
view_event e = record { place = e.place; edge = option_map view_edge e.edge; term = view_term e.term; condition = option_map (λ ws. map view_word ws.items) e.condition }

abbrev pub view_check : code_check.Check → Check
view_check (check.OneLimit p c r d l n) = one_limit_check p c (view_event r) (view_event d) (view_limit l) (option_map view_name n)
view_check (check.TwoLimits p c r d l m n f g) = two_limit_check p c (view_event r) (view_event d) (view_limit l) (view_limit m) (option_map view_name n) (option_map view_name f) (option_map view_name g)
view_check (check.Width p r l t n) = width_check p (view_event r) (view_limit l) (option_map view_limit t) (option_map view_name n)
view_check (check.Period p r l n) = period_check p (view_event r) (view_limit l) (option_map view_name n)

abbrev pub view_specify_item : code_specify_item.SpecifyItem → SpecifyItem
view_specify_item (specify_item.Specparams p ps) = specparams p (map view_specparam ps.items)
view_specify_item (specify_item.Path p) = a_path (view_path p)
view_specify_item (specify_item.PulseStyle p s ts) = pulse_style p s (map view_term ts.items)
view_specify_item (specify_item.Check c) = a_check (view_check c)

abbrev pub view_block : code_block.SpecifyBlock → SpecifyBlock
view_block b = record { place = b.place; items = map view_specify_item b.items.items }

-- ---- modules and primitives

abbrev pub view_item : code_item.Item → Item
view_item (item.Ports p d n r ns) = ports p d n r (map view_name ns.items)
view_item (item.Nets p n r ns) = nets p n r (map view_net_name ns.items)
view_item (item.Supplies p s r ns) = supplies p s r (map view_name ns.items)
view_item (item.Registers p ns) = registers p (map view_name ns.items)
view_item (item.Assigns p js) = assigns p (map view_join js.items)
view_item (item.Gates p g d gs) = gates p g (option_map view_delay d) (map view_gate_instance gs.items)
view_item (item.Instances m d is) = instances (view_name m) (option_map view_delay d) (map view_instance is.items)
view_item (item.Specify b) = specify_block (view_block b)

abbrev pub view_port_declaration : code_declaration.PortDeclaration → PortDeclaration
view_port_declaration d = record { place = d.place; direction = d.direction; net = d.net; range = d.range; name = view_name d.name }

abbrev pub view_head_port : code_port.HeadPort → HeadPort
view_head_port (port.Declaration d) = declared_port (view_port_declaration d)
view_head_port (port.Name n) = named_port (view_name n)

abbrev pub view_head : code_head.Head → Head
view_head (head.Names ns) = head_names (map view_name ns.items)
view_head (head.Declarations d ps) = head_declarations (view_port_declaration d) (map view_head_port ps.items)

abbrev pub view_module : code_module.Module → Module
view_module m = record { place = m.place; settings = settings m.mark; name = view_name m.name; head = option_map (option_map view_head) m.head; items = map view_item m.items.items }

abbrev pub view_primitive_declaration : code_pdec.PrimitiveDeclaration → PrimitiveDeclaration
view_primitive_declaration (pdec.Output p r n) = output_port p r (view_name n)
view_primitive_declaration (pdec.Register p n) = output_register p (view_name n)
view_primitive_declaration (pdec.Inputs p ns) = input_ports p (map view_name ns.items)

abbrev pub view_initial : code_initial.Initial → Initial
view_initial i = record { place = i.place; name = view_name i.name; value = i.value }

abbrev pub view_primitive : code_primitive.Primitive → Primitive
view_primitive p = record { place = p.place; name = view_name p.name; ports = map view_name p.ports.items; declarations = map view_primitive_declaration p.declarations.items; initial = option_map view_initial p.initial; rows = p.rows.items }

abbrev pub view_part : code_part.Part → Part
view_part (part.Module m) = a_module (view_module m)
view_part (part.Primitive p) = a_primitive (view_primitive p)

abbrev pub view_source : code_source.Source → Source
view_source s = map view_part s.parts.items
