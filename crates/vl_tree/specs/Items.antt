-- The grammar of the items of modules (IEEE 1364-2005, annex A: A.1.4, A.2.1, A.3.1, A.4.1 and A.6.1).
use Rattle.std.specs.Prelude.{Bool, true, ◌||◌, [], unwrap_or}
use Rattle.sg_logic.specs.declared.gates.GateKind.{GateKind}
use Rattle.sg_logic.specs.declared.gates.GateKind.TheVariants as gate_kind
use Rattle.sg_text.specs.declared.words.Keyword.TheVariants.{Input, Output, Wire, Tri, Supply0, Supply1, Reg, Assign}
use Rattle.sg_text.specs.declared.words.Keyword.TheVariants as keyword
use Rattle.grammar.specs.Rule.{◌∙∙◌, ◌▸◌, ◌◂◌, mapped, named, no_kind}
use Rattle.grammar.specs.Stated.{separated_options}
use Rattle.vl_token.specs.declared.symbols.Symbol.TheVariants.{Comma, Semicolon, Point, LeftBracket, LeftParen, RightParen}
use Rattle.vl_token.specs.declared.symbols.Symbol.TheVariants as symbol
use Rattle.vl_tree.specs.declared.names.Direction.{Direction}
use Rattle.vl_tree.specs.declared.names.Direction.TheVariants as direction_of
use Rattle.vl_tree.specs.declared.names.NetType.{NetType}
use Rattle.vl_tree.specs.declared.names.NetType.TheVariants as net_type_of
use Rattle.vl_tree.specs.declared.names.Supply.{Supply}
use Rattle.vl_tree.specs.declared.names.Supply.TheVariants as supply_of
use Rattle.vl_tree.specs.Expressions.{name, names, range, expression, expression_starts, delay}
use Rattle.vl_tree.specs.Kinds.{Kind, kind_of, is_name, is_symbol, is_word}
use Rattle.vl_tree.specs.Rules.{Grammar, word, mark, placed, either, optional, listed}
use Rattle.vl_tree.specs.Specify.{block}
use Rattle.vl_tree.specs.Tree.{Item, ports, nets, supplies, registers, assigns, gates, instances, specify_block, NetName, Join, GateInstance, NamedConnection, Connections, by_order, by_name, Instance}

-- dir = "input" | "output"
unfoldable pub direction_parts : Grammar Direction
direction_parts = either (mapped (λ _. direction_of.Input) (word Input)) (mapped (λ _. direction_of.Output) (word Output))

abbrev pub direction_starts : Kind → Bool
direction_starts k = is_word Input k || is_word Output k

abbrev pub direction : Grammar Direction
direction = named direction_starts no_kind direction_parts

-- "wire" | "tri"
unfoldable pub net_type_parts : Grammar NetType
net_type_parts = either (mapped (λ _. net_type_of.Wire) (word Wire)) (mapped (λ _. net_type_of.Tri) (word Tri))

abbrev pub net_type_starts : Kind → Bool
net_type_starts k = is_word Wire k || is_word Tri k

abbrev pub net_type : Grammar NetType
net_type = named net_type_starts no_kind net_type_parts

-- "supply0" | "supply1"
unfoldable pub supply_parts : Grammar Supply
supply_parts = either (mapped (λ _. supply_of.Zero) (word Supply0)) (mapped (λ _. supply_of.One) (word Supply1))

abbrev pub supply_starts : Kind → Bool
supply_starts k = is_word Supply0 k || is_word Supply1 k

abbrev pub supply : Grammar Supply
supply = named supply_starts no_kind supply_parts

-- enable-gate = "bufif0" | "bufif1" | "notif0" | "notif1"
unfoldable pub enable_gate_parts : Grammar GateKind
enable_gate_parts =
    either (mapped (λ _. gate_kind.Bufif0) (word keyword.Bufif0)) (either (mapped (λ _. gate_kind.Bufif1) (word keyword.Bufif1))
    (either (mapped (λ _. gate_kind.Notif0) (word keyword.Notif0)) (mapped (λ _. gate_kind.Notif1) (word keyword.Notif1))))

abbrev pub enable_gate_starts : Kind → Bool
enable_gate_starts k = is_word keyword.Bufif0 k || (is_word keyword.Bufif1 k || (is_word keyword.Notif0 k || is_word keyword.Notif1 k))

abbrev pub enable_gate : Grammar GateKind
enable_gate = named enable_gate_starts no_kind enable_gate_parts

-- gate = "and" | "nand" | "or" | "nor" | "xor" | "xnor" | "buf" | "not" | enable-gate
unfoldable pub gate_parts : Grammar GateKind
gate_parts =
    either (mapped (λ _. gate_kind.And) (word keyword.And)) (either (mapped (λ _. gate_kind.Nand) (word keyword.Nand))
    (either (mapped (λ _. gate_kind.Or) (word keyword.Or)) (either (mapped (λ _. gate_kind.Nor) (word keyword.Nor))
    (either (mapped (λ _. gate_kind.Xor) (word keyword.Xor)) (either (mapped (λ _. gate_kind.Xnor) (word keyword.Xnor))
    (either (mapped (λ _. gate_kind.Buf) (word keyword.Buf)) (either (mapped (λ _. gate_kind.Not) (word keyword.Not)) enable_gate)))))))

abbrev pub gate_starts : Kind → Bool
gate_starts k = is_word keyword.And k || (is_word keyword.Nand k || (is_word keyword.Or k || (is_word keyword.Nor k || (is_word keyword.Xor k || (is_word keyword.Xnor k || (is_word keyword.Buf k || (is_word keyword.Not k || enable_gate_starts k)))))))

abbrev pub gate : Grammar GateKind
gate = named gate_starts no_kind gate_parts

-- wname = name [ "=" expr ]
unfoldable pub net_name_parts : Grammar NetName
net_name_parts = mapped (λ x. record { name = x.0; value = x.1 }) (name ∙∙ optional (mark symbol.Assign ▸ expression))

abbrev pub net_name_continues : Kind → Bool
net_name_continues k = is_symbol LeftBracket k || is_symbol symbol.Assign k

abbrev pub net_name : Grammar NetName
net_name = named is_name net_name_continues net_name_parts

-- join = expr "=" expr
unfoldable pub join_parts : Grammar Join
join_parts = mapped (λ x. record { place = x.0; left = x.1.0; right = x.1.1 }) (placed (expression ∙∙ (mark symbol.Assign ▸ expression)))

abbrev pub join : Grammar Join
join = named expression_starts (is_symbol LeftBracket) join_parts

-- ginst = [ name ] "(" expr { "," expr } ")"
abbrev pub instance_starts : Kind → Bool
instance_starts k = is_name k || is_symbol LeftParen k

unfoldable pub gate_instance_parts : Grammar GateInstance
gate_instance_parts = mapped (λ x. record { place = x.0; name = x.1.0; terminals = x.1.1 }) (placed (optional name ∙∙ (mark LeftParen ▸ (listed expression ◂ mark RightParen))))

abbrev pub gate_instance : Grammar GateInstance
gate_instance = named instance_starts no_kind gate_instance_parts

-- named = "." name "(" [ expr ] ")"
unfoldable pub named_connection_parts : Grammar NamedConnection
named_connection_parts = mapped (λ x. record { place = x.0; port = x.1.0; value = x.1.1 }) (placed (mark Point ▸ (name ∙∙ (mark LeftParen ▸ (optional expression ◂ mark RightParen)))))

abbrev pub named_connection : Grammar NamedConnection
named_connection = named (is_symbol Point) no_kind named_connection_parts

-- conns = [ expr ] { "," [ expr ] } | named { "," named }
unfoldable pub connections_parts : Grammar Connections
connections_parts = either (mapped by_order (separated_options kind_of expression (is_symbol Comma))) (mapped by_name (listed named_connection))

abbrev pub connections_starts : Kind → Bool
connections_starts k = expression_starts k || (is_symbol Comma k || is_symbol Point k)

abbrev pub connections_continues : Kind → Bool
connections_continues k = expression_starts k || (is_symbol Comma k || is_symbol LeftBracket k)

abbrev pub connections : Grammar Connections
connections = named connections_starts connections_continues connections_parts

-- inst = [ name ] "(" [ conns ] ")", where () is the empty list of connections
unfoldable pub instance_parts : Grammar Instance
instance_parts = mapped (λ x. record { place = x.0; name = x.1.0; connections = unwrap_or x.1.1 (by_order []) }) (placed (optional name ∙∙ (mark LeftParen ▸ (optional connections ◂ mark RightParen))))

abbrev pub instance : Grammar Instance
instance = named instance_starts no_kind instance_parts

-- dir [ "wire" | "tri" ] [ range ] names ";"
unfoldable pub port_item_parts : Grammar Item
port_item_parts = mapped (λ x. ports x.0 x.1.0 x.1.1.0 x.1.1.1.0 x.1.1.1.1) (placed (direction ∙∙ (optional net_type ∙∙ (optional range ∙∙ (names ◂ mark Semicolon)))))

abbrev pub port_item : Grammar Item
port_item = named direction_starts no_kind port_item_parts

-- ( "wire" | "tri" ) [ range ] wname { "," wname } ";"
unfoldable pub net_item_parts : Grammar Item
net_item_parts = mapped (λ x. nets x.0 x.1.0 x.1.1.0 x.1.1.1) (placed (net_type ∙∙ (optional range ∙∙ (listed net_name ◂ mark Semicolon))))

abbrev pub net_item : Grammar Item
net_item = named net_type_starts no_kind net_item_parts

-- ( "supply0" | "supply1" ) [ range ] names ";"
unfoldable pub supply_item_parts : Grammar Item
supply_item_parts = mapped (λ x. supplies x.0 x.1.0 x.1.1.0 x.1.1.1) (placed (supply ∙∙ (optional range ∙∙ (names ◂ mark Semicolon))))

abbrev pub supply_item : Grammar Item
supply_item = named supply_starts no_kind supply_item_parts

-- "reg" names ";"
unfoldable pub register_item_parts : Grammar Item
register_item_parts = mapped (λ x. registers x.0 x.1) (placed (word Reg ▸ (names ◂ mark Semicolon)))

abbrev pub register_item : Grammar Item
register_item = named (is_word Reg) no_kind register_item_parts

-- "assign" join { "," join } ";"
unfoldable pub assign_item_parts : Grammar Item
assign_item_parts = mapped (λ x. assigns x.0 x.1) (placed (word Assign ▸ (listed join ◂ mark Semicolon)))

abbrev pub assign_item : Grammar Item
assign_item = named (is_word Assign) no_kind assign_item_parts

-- gate [ delay ] ginst { "," ginst } ";"
unfoldable pub gate_item_parts : Grammar Item
gate_item_parts = mapped (λ x. gates x.0 x.1.0 x.1.1.0 x.1.1.1) (placed (gate ∙∙ (optional delay ∙∙ (listed gate_instance ◂ mark Semicolon))))

abbrev pub gate_item : Grammar Item
gate_item = named gate_starts no_kind gate_item_parts

-- name [ delay ] inst { "," inst } ";"
unfoldable pub instance_item_parts : Grammar Item
instance_item_parts = mapped (λ x. instances x.0 x.1.0 x.1.1) (name ∙∙ (optional delay ∙∙ (listed instance ◂ mark Semicolon)))

abbrev pub instance_item : Grammar Item
instance_item = named is_name no_kind instance_item_parts

-- block, with lists of delays of the lengths that may stand, and arguments of checks that may be filled alone
unfoldable pub block_item_parts : Grammar Item
block_item_parts = mapped specify_block (block true)

abbrev pub block_item : Grammar Item
block_item = named (is_word keyword.Specify) no_kind block_item_parts

-- item: one of these
unfoldable pub item_parts : Grammar Item
item_parts = either port_item (either net_item (either supply_item (either register_item (either assign_item (either gate_item (either block_item instance_item))))))

abbrev pub item_starts : Kind → Bool
item_starts k = direction_starts k || (net_type_starts k || (supply_starts k || (is_word Reg k || (is_word Assign k || (gate_starts k || (is_word keyword.Specify k || is_name k))))))

abbrev pub item : Grammar Item
item = named item_starts no_kind item_parts
