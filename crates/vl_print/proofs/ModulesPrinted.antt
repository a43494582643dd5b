-- What is put for modules and for a whole netlist spells them.
use Rattle.std.proofs.Common.{refl}
use Rattle.sg_text.specs.declared.words.Keyword.TheVariants as keyword
use Rattle.grammar.specs.Rule.{◌∙∙◌, ◌▸◌, ◌◂◌}
use Rattle.vl_token.specs.declared.symbols.Symbol.TheVariants.{Comma, Semicolon, LeftParen, RightParen}
use Rattle.vl_token.specs.Tokens.{module_word}
use Rattle.vl_tree.specs.Expressions.{name, range}
use Rattle.vl_tree.specs.Items.{direction, net_type, item}
use Rattle.vl_tree.specs.Kinds.{is_module, settings_of}
use Rattle.vl_tree.specs.Modules as modules
use Rattle.vl_tree.specs.Modules.{port_declaration_parts, port_declaration, head_port_parts, head_port, head_parts, head, port_list_parts, port_list, module_parts, module_rule, part_parts, part, source}
use Rattle.vl_print.specs.ModulesPrinting.{put_port_declaration, put_head_port, put_head, put_port_list, put_module, put_part, put_source}
use Rattle.vl_print.specs.Printing.{nowhere, put_token}
use Rattle.vl_tree.specs.Rules.{word, mark, optional, many}
use Rattle.vl_tree.proofs.AllKinds.{apart}
use Rattle.vl_tree.proofs.Building.{token, perhaps, repeated}
use Rattle.vl_tree.proofs.ExpressionsExact.{name-exact, range-exact}
use Rattle.vl_print.proofs.ExpressionsPrinted.{name_prints, names_prints, range_prints}
use Rattle.vl_tree.proofs.ItemsExact.{direction-exact, net_type-exact, item-exact}
use Rattle.vl_print.proofs.ItemsPrinted.{direction_first, net_type_prints, item_prints}
use Rattle.vl_tree.proofs.Lists.{comma_head_port}
use Rattle.vl_tree.proofs.ModulesExact.{port_declaration-exact, head-exact, port_list-exact, part-exact}
use Rattle.vl_print.proofs.PrimitivesPrinted.{primitive_prints}
use Rattle.vl_print.proofs.Printed.{Prints, token_printed, mapped_prints, seq_prints, either_prints, optional_prints, many_prints, placed_prints, behind_mark, before_mark, before_word, first_prints}

port_declaration_prints : Prints port_declaration.language put_port_declaration
unfolding port_declaration_parts
port_declaration_prints =
    let ranged = seq_prints (optional range) name.language _ _ (perhaps range-exact refl) (optional_prints _ _ range_prints) name_prints in
    let typed = seq_prints (optional net_type) (optional range ∙∙ name).language _ _ (perhaps net_type-exact refl) (optional_prints _ _ (net_type_prints nowhere)) ranged in
    placed_prints _ _ _ put_port_declaration (first_prints direction _ _ _ direction-exact refl direction_first typed) (λ x out. refl)

head_port_prints : Prints head_port.language put_head_port
unfolding head_port_parts
head_port_prints = either_prints _ _ put_head_port (mapped_prints _ _ _ put_head_port port_declaration_prints (λ x out. refl)) (mapped_prints _ _ _ put_head_port name_prints (λ x out. refl))

head_prints : Prints head.language put_head
unfolding head_parts
head_prints =
    let others = many_prints (mark Comma ▸ head_port) _ comma_head_port (behind_mark Comma head_port.language _ head_port_prints) in
    either_prints _ _ put_head (mapped_prints _ _ _ put_head names_prints (λ x out. refl)) (mapped_prints _ _ _ put_head (seq_prints port_declaration _ _ _ port_declaration-exact port_declaration_prints others) (λ x out. refl))

port_list_prints : Prints port_list.language put_port_list
unfolding port_list_parts
port_list_prints = behind_mark LeftParen (optional head ◂ mark RightParen).language _ (before_mark RightParen (optional head) _ (perhaps head-exact refl) (optional_prints _ _ head_prints))

module_word_prints : Prints modules.module_word.language (λ x out. put_token (module_word x.1) x.0 out)
module_word_prints x s out = token_printed (λ t. (t.place, settings_of t.meaning)) is_module (module_word x.1) x.0 x out refl refl

module_prints : Prints module_rule.language put_module
unfolding module_parts
module_prints =
    let items = before_word keyword.EndModule (many item) _ (repeated item-exact refl (apart _ _ refl)) (many_prints item _ item-exact item_prints) in
    let closed = behind_mark Semicolon (many item ◂ word keyword.EndModule).language _ items in
    let listed = seq_prints (optional port_list) (mark Semicolon ▸ (many item ◂ word keyword.EndModule)).language _ _ (perhaps port_list-exact refl) (optional_prints _ _ port_list_prints) closed in
    let named = seq_prints name _ _ _ name-exact name_prints listed in
    mapped_prints _ _ _ put_module (seq_prints modules.module_word _ _ _ (token _ is_module) module_word_prints named) (λ x out. refl)

part_prints : Prints part.language put_part
unfolding part_parts
part_prints = either_prints _ _ put_part (mapped_prints _ _ _ put_part module_prints (λ x out. refl)) (mapped_prints _ _ _ put_part primitive_prints (λ x out. refl))

pub source_prints : Prints source.language put_source
source_prints = many_prints part put_part part-exact part_prints
