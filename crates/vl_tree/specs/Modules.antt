-- The grammar of modules and of a whole netlist (IEEE 1364-2005, annex A: A.1.2 and A.1.3).
use Rattle.std.specs.Prelude.{Bool, ◌||◌, Option}
use Rattle.sg_text.specs.declared.words.Keyword.TheVariants as keyword
use Rattle.sg_text.specs.declared.places.Place.{Place}
use Rattle.grammar.specs.Rule.{◌∙∙◌, ◌▸◌, ◌◂◌, one, mapped, named, no_kind}
use Rattle.vl_token.specs.declared.symbols.Symbol.TheVariants.{Comma, Semicolon, LeftParen, RightParen}
use Rattle.vl_token.specs.Tokens.{Settings}
use Rattle.vl_tree.specs.Expressions.{name, names, range}
use Rattle.vl_tree.specs.Items.{direction, direction_starts, net_type, item}
use Rattle.vl_tree.specs.Kinds.{Kind, kind_of, is_module, is_name, is_symbol, is_word, settings_of}
use Rattle.vl_tree.specs.Primitives.{primitive}
use Rattle.vl_tree.specs.Rules.{Grammar, word, mark, placed, either, optional, many}
use Rattle.vl_tree.specs.Tree.{PortDeclaration, HeadPort, declared_port, named_port, Head, head_names, head_declarations, Module, Part, a_module, a_primitive, Source}

-- pdecl = dir [ "wire" | "tri" ] [ range ] name
unfoldable pub port_declaration_parts : Grammar PortDeclaration
port_declaration_parts = mapped (λ x. record { place = x.0; direction = x.1.0; net = x.1.1.0; range = x.1.1.1.0; name = x.1.1.1.1 }) (placed (direction ∙∙ (optional net_type ∙∙ (optional range ∙∙ name))))

abbrev pub port_declaration : Grammar PortDeclaration
port_declaration = named direction_starts no_kind port_declaration_parts

-- pdecl | name
unfoldable pub head_port_parts : Grammar HeadPort
head_port_parts = either (mapped declared_port port_declaration) (mapped named_port name)

abbrev pub head_port_starts : Kind → Bool
head_port_starts k = direction_starts k || is_name k

abbrev pub head_port : Grammar HeadPort
head_port = named head_port_starts no_kind head_port_parts

-- names | ansi, where ansi = pdecl { "," (pdecl | name) }
unfoldable pub head_parts : Grammar Head
head_parts = either (mapped head_names names) (mapped (λ x. head_declarations x.0 x.1) (port_declaration ∙∙ many (mark Comma ▸ head_port)))

abbrev pub head : Grammar Head
head = named head_port_starts (is_symbol Comma) head_parts

-- "(" [ names | ansi ] ")"
unfoldable pub port_list_parts : Grammar (Option Head)
port_list_parts = mark LeftParen ▸ (optional head ◂ mark RightParen)

abbrev pub port_list : Grammar (Option Head)
port_list = named (is_symbol LeftParen) no_kind port_list_parts

-- "module" | "macromodule", with its place and what it takes from the directives before it
abbrev pub module_word : Grammar (Place × Settings)
module_word = mapped (λ t. (t.place, settings_of t.meaning)) (one kind_of is_module)

-- module = ( "module" | "macromodule" ) name [ "(" [ names | ansi ] ")" ] ";" { item } "endmodule"
unfoldable pub module_parts : Grammar Module
module_parts =
    mapped (λ x. record { place = x.0.0; settings = x.0.1; name = x.1.0; head = x.1.1.0; items = x.1.1.1 })
    (module_word ∙∙ (name ∙∙ (optional port_list ∙∙ (mark Semicolon ▸ (many item ◂ word keyword.EndModule)))))

abbrev pub module_rule : Grammar Module
module_rule = named is_module no_kind module_parts

-- module | prim
unfoldable pub part_parts : Grammar Part
part_parts = either (mapped a_module module_rule) (mapped a_primitive primitive)

abbrev pub part_starts : Kind → Bool
part_starts k = is_module k || is_word keyword.Primitive k

abbrev pub part : Grammar Part
part = named part_starts no_kind part_parts

-- source = { module | prim }
abbrev pub source : Grammar Source
source = many part
