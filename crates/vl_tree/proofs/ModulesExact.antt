-- Each rule of modules, and a whole netlist, is read exactly.
use Rattle.std.proofs.Common.{refl}
use Rattle.sg_text.specs.declared.words.Keyword.TheVariants as keyword
use Rattle.vl_token.specs.declared.symbols.Symbol.TheVariants.{Comma, Semicolon, LeftParen, RightParen}
use Rattle.vl_tree.specs.Kinds.{is_module}
use Rattle.vl_tree.specs.Modules.{port_declaration_parts, port_declaration, head_port_parts, head_port, head_parts, head, port_list_parts, port_list, module_parts, module_rule, part_parts, part, source}
use Rattle.vl_tree.proofs.AllKinds.{apart, is_within}
use Rattle.vl_tree.proofs.Building.{IsExact, token, the_mark, the_word, then, made, behind, before, called, with_place, or, perhaps, repeated}
use Rattle.vl_tree.proofs.ExpressionsExact.{name-exact, names-exact, range-exact}
use Rattle.vl_tree.proofs.ItemsExact.{direction-exact, net_type-exact, item-exact}
use Rattle.vl_tree.proofs.PrimitivesExact.{primitive-exact}

pub port_declaration-exact : IsExact port_declaration
unfolding port_declaration_parts
port_declaration-exact =
    let ranged = then (perhaps range-exact refl) name-exact (apart _ _ refl) in
    called _ _ (made _ (with_place (then direction-exact (then (perhaps net_type-exact refl) ranged (apart _ _ refl)) (apart _ _ refl)) refl)) refl (is_within _ _ refl) (is_within _ _ refl)

pub head_port-exact : IsExact head_port
unfolding head_port_parts
head_port-exact = called _ _ (or (made _ port_declaration-exact) (made _ name-exact) refl refl (apart _ _ refl)) refl (is_within _ _ refl) (is_within _ _ refl)

pub head-exact : IsExact head
unfolding head_parts
head-exact =
    let others = repeated (behind (the_mark Comma) head_port-exact (apart _ _ refl)) refl (apart _ _ refl) in
    called _ _ (or (made _ names-exact) (made _ (then port_declaration-exact others (apart _ _ refl))) refl refl (apart _ _ refl)) refl (is_within _ _ refl) (is_within _ _ refl)

pub port_list-exact : IsExact port_list
unfolding port_list_parts
port_list-exact = called _ _ (behind (the_mark LeftParen) (before (perhaps head-exact refl) (the_mark RightParen) (apart _ _ refl)) (apart _ _ refl)) refl (is_within _ _ refl) (is_within _ _ refl)

pub module-exact : IsExact module_rule
unfolding module_parts
module-exact =
    let items = before (repeated item-exact refl (apart _ _ refl)) (the_word keyword.EndModule) (apart _ _ refl) in
    let rest = then (perhaps port_list-exact refl) (behind (the_mark Semicolon) items (apart _ _ refl)) (apart _ _ refl) in
    called _ _ (made _ (then (token _ is_module) (then name-exact rest (apart _ _ refl)) (apart _ _ refl))) refl (is_within _ _ refl) (is_within _ _ refl)

pub part-exact : IsExact part
unfolding part_parts
part-exact = called _ _ (or (made _ module-exact) (made _ primitive-exact) refl refl (apart _ _ refl)) refl (is_within _ _ refl) (is_within _ _ refl)

pub source-exact : IsExact source
source-exact = repeated part-exact refl (apart _ _ refl)
