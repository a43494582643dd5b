-- Tokens put behind others for each item of a module, each module and a netlist, as `Printing` has them of their parts.
use Rattle.std.specs.Prelude.{Option}
use Rattle.sg_text.specs.declared.words.Keyword.TheVariants as keyword
use Rattle.vl_token.specs.declared.symbols.Symbol.TheVariants as symbol
use Rattle.vl_token.specs.Tokens.{module_word}
use Rattle.vl_print.specs.Printing.{Tokens, nowhere, put_token, put_mark, word_at, put_word, put_optional, put_many, behind_comma, put_listed, put_name, put_names, put_range, put_delay, put_direction, put_net_type, put_supply, put_gate, put_net_name, put_join, put_gate_instance, put_instance, put_primitive}
use Rattle.vl_print.specs.SpecifyPrinting.{put_block}
use Rattle.vl_tree.specs.Tree.{Item, ports, nets, supplies, registers, assigns, gates, instances, specify_block, PortDeclaration, HeadPort, declared_port, named_port, Head, head_names, head_declarations, Module, Source, a_module, a_primitive}
use Rattle.vl_tree.specs.Tree.{Part as SourcePart}

abbrev pub put_item : Item → Tokens → Tokens
put_item (ports p d n r ns) out = put_mark symbol.Semicolon (put_names ns (put_optional put_range r (put_optional (put_net_type nowhere) n (put_direction p d out))))
put_item (nets p n r ns) out = put_mark symbol.Semicolon (put_listed put_net_name ns (put_optional put_range r (put_net_type p n out)))
put_item (supplies p s r ns) out = put_mark symbol.Semicolon (put_names ns (put_optional put_range r (put_supply p s out)))
put_item (registers p ns) out = put_mark symbol.Semicolon (put_names ns (word_at keyword.Reg p out))
put_item (assigns p js) out = put_mark symbol.Semicolon (put_listed put_join js (word_at keyword.Assign p out))
put_item (gates p g d gs) out = put_mark symbol.Semicolon (put_listed put_gate_instance gs (put_optional put_delay d (put_gate p g out)))
put_item (instances m d is) out = put_mark symbol.Semicolon (put_listed put_instance is (put_optional put_delay d (put_name m out)))
put_item (specify_block b) out = put_block b out

-- ---- modules

abbrev pub put_port_declaration : PortDeclaration → Tokens → Tokens
put_port_declaration d out = put_name d.name (put_optional put_range d.range (put_optional (put_net_type nowhere) d.net (put_direction d.place d.direction out)))

abbrev pub put_head_port : HeadPort → Tokens → Tokens
put_head_port (declared_port d) out = put_port_declaration d out
put_head_port (named_port n) out = put_name n out

abbrev pub put_head : Head → Tokens → Tokens
put_head (head_names ns) out = put_names ns out
put_head (head_declarations d ps) out = put_many (behind_comma put_head_port) ps (put_port_declaration d out)

abbrev pub put_port_list : Option Head → Tokens → Tokens
put_port_list o out = put_mark symbol.RightParen (put_optional put_head o (put_mark symbol.LeftParen out))

abbrev pub put_module : Module → Tokens → Tokens
put_module m out = put_word keyword.EndModule (put_many put_item m.items (put_mark symbol.Semicolon (put_optional put_port_list m.head (put_name m.name (put_token (module_word m.settings) m.place out)))))

-- ---- netlists

abbrev pub put_part : SourcePart → Tokens → Tokens
put_part (a_module m) out = put_module m out
put_part (a_primitive p) out = put_primitive p out

abbrev pub put_source : Source → Tokens → Tokens
put_source parts out = put_many put_part parts out
