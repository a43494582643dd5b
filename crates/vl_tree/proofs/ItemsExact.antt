-- Each rule of the items of modules is read exactly.
use Rattle.std.proofs.Common.{true, refl}
use Rattle.grammar.specs.Stated.{separated_options}
use Rattle.grammar.proofs.Laws.{separated_options-exact}
use Rattle.sg_text.specs.declared.words.Keyword.TheVariants.{Input, Output, Wire, Tri, Supply0, Supply1, Reg}
use Rattle.sg_text.specs.declared.words.Keyword.TheVariants as keyword
use Rattle.vl_token.specs.declared.symbols.Symbol.TheVariants.{Comma, Semicolon, Point, LeftParen, RightParen}
use Rattle.vl_token.specs.declared.symbols.Symbol.TheVariants as symbol
use Rattle.vl_tree.specs.Expressions.{names, expression}
use Rattle.vl_tree.specs.Items.{direction_parts, direction, net_type_parts, net_type, supply_parts, supply, enable_gate_parts, enable_gate, gate_parts, gate, net_name_parts, net_name, join_parts, join, gate_instance_parts, gate_instance, named_connection_parts, named_connection, connections_parts, connections, instance_parts, instance, port_item_parts, port_item, net_item_parts, net_item, supply_item_parts, supply_item, register_item_parts, register_item, assign_item_parts, assign_item, gate_item_parts, gate_item, instance_item_parts, instance_item, block_item_parts, block_item, item_parts, item}
use Rattle.vl_tree.specs.Kinds.{kind_of, is_symbol}
use Rattle.grammar.specs.Rule.{◌◂◌}
use Rattle.vl_tree.specs.Rules.{mark}
use Rattle.vl_tree.proofs.AllKinds.{apart, is_within}
use Rattle.vl_tree.proofs.Building.{IsExact, the_mark, the_word, then, made, behind, before, called, with_place, or, perhaps, with_commas}
use Rattle.vl_tree.proofs.ExpressionsExact.{name-exact, names-exact, range-exact, expression-exact, delay-exact}
use Rattle.vl_tree.proofs.SpecifyExact.{block-exact}

pub direction-exact : IsExact direction
unfolding direction_parts
direction-exact = called _ _ (or (made _ (the_word Input)) (made _ (the_word Output)) refl refl (apart _ _ refl)) refl (is_within _ _ refl) (is_within _ _ refl)

pub net_type-exact : IsExact net_type
unfolding net_type_parts
net_type-exact = called _ _ (or (made _ (the_word Wire)) (made _ (the_word Tri)) refl refl (apart _ _ refl)) refl (is_within _ _ refl) (is_within _ _ refl)

pub supply-exact : IsExact supply
unfolding supply_parts
supply-exact = called _ _ (or (made _ (the_word Supply0)) (made _ (the_word Supply1)) refl refl (apart _ _ refl)) refl (is_within _ _ refl) (is_within _ _ refl)

pub enable_gate-exact : IsExact enable_gate
unfolding enable_gate_parts
enable_gate-exact =
    let last = or (made _ (the_word keyword.Notif0)) (made _ (the_word keyword.Notif1)) refl refl (apart _ _ refl) in
    let second = or (made _ (the_word keyword.Bufif1)) last refl refl (apart _ _ refl) in
    called _ _ (or (made _ (the_word keyword.Bufif0)) second refl refl (apart _ _ refl)) refl (is_within _ _ refl) (is_within _ _ refl)

pub gate-exact : IsExact gate
unfolding gate_parts
gate-exact =
    let last = or (made _ (the_word keyword.Buf)) (or (made _ (the_word keyword.Not)) enable_gate-exact refl refl (apart _ _ refl)) refl refl (apart _ _ refl) in
    let fifth = or (made _ (the_word keyword.Xor)) (or (made _ (the_word keyword.Xnor)) last refl refl (apart _ _ refl)) refl refl (apart _ _ refl) in
    let third = or (made _ (the_word keyword.Or)) (or (made _ (the_word keyword.Nor)) fifth refl refl (apart _ _ refl)) refl refl (apart _ _ refl) in
    called _ _ (or (made _ (the_word keyword.And)) (or (made _ (the_word keyword.Nand)) third refl refl (apart _ _ refl)) refl refl (apart _ _ refl)) refl (is_within _ _ refl) (is_within _ _ refl)

pub net_name-exact : IsExact net_name
unfolding net_name_parts
net_name-exact =
    let value = perhaps (behind (the_mark symbol.Assign) expression-exact (apart _ _ refl)) refl in
    called _ _ (made _ (then name-exact value (apart _ _ refl))) refl (is_within _ _ refl) (is_within _ _ refl)

pub join-exact : IsExact join
unfolding join_parts
join-exact = called _ _ (made _ (with_place (then expression-exact (behind (the_mark symbol.Assign) expression-exact (apart _ _ refl)) (apart _ _ refl)) refl)) refl (is_within _ _ refl) (is_within _ _ refl)

pub gate_instance-exact : IsExact gate_instance
unfolding gate_instance_parts
gate_instance-exact =
    let terminals = behind (the_mark LeftParen) (before (with_commas expression-exact refl (apart _ _ refl)) (the_mark RightParen) (apart _ _ refl)) (apart _ _ refl) in
    called _ _ (made _ (with_place (then (perhaps name-exact refl) terminals (apart _ _ refl)) refl)) refl (is_within _ _ refl) (is_within _ _ refl)

pub named_connection-exact : IsExact named_connection
unfolding named_connection_parts
named_connection-exact =
    let value = behind (the_mark LeftParen) (before (perhaps expression-exact refl) (the_mark RightParen) (apart _ _ refl)) (apart _ _ refl) in
    called _ _ (made _ (with_place (behind (the_mark Point) (then name-exact value (apart _ _ refl)) (apart _ _ refl)) refl)) refl (is_within _ _ refl) (is_within _ _ refl)

by_order-exact : IsExact (separated_options kind_of expression (is_symbol Comma))
by_order-exact = separated_options-exact kind_of expression (is_symbol Comma) expression-exact refl (apart _ _ refl) (apart _ _ refl)

pub connections-exact : IsExact connections
unfolding connections_parts
connections-exact = called _ _ (or (made _ by_order-exact) (made _ (with_commas named_connection-exact refl (apart _ _ refl))) refl refl (apart _ _ refl)) refl (is_within _ _ refl) (is_within _ _ refl)

pub instance-exact : IsExact instance
unfolding instance_parts
instance-exact =
    let all = behind (the_mark LeftParen) (before (perhaps connections-exact refl) (the_mark RightParen) (apart _ _ refl)) (apart _ _ refl) in
    called _ _ (made _ (with_place (then (perhaps name-exact refl) all (apart _ _ refl)) refl)) refl (is_within _ _ refl) (is_within _ _ refl)

-- names and the semicolon behind them
names_end-exact : IsExact (names ◂ mark Semicolon)
names_end-exact = before names-exact (the_mark Semicolon) (apart _ _ refl)

pub port_item-exact : IsExact port_item
unfolding port_item_parts
port_item-exact =
    let ranged = then (perhaps range-exact refl) names_end-exact (apart _ _ refl) in
    called _ _ (made _ (with_place (then direction-exact (then (perhaps net_type-exact refl) ranged (apart _ _ refl)) (apart _ _ refl)) refl)) refl (is_within _ _ refl) (is_within _ _ refl)

pub net_item-exact : IsExact net_item
unfolding net_item_parts
net_item-exact =
    let all = before (with_commas net_name-exact refl (apart _ _ refl)) (the_mark Semicolon) (apart _ _ refl) in
    called _ _ (made _ (with_place (then net_type-exact (then (perhaps range-exact refl) all (apart _ _ refl)) (apart _ _ refl)) refl)) refl (is_within _ _ refl) (is_within _ _ refl)

pub supply_item-exact : IsExact supply_item
unfolding supply_item_parts
supply_item-exact = called _ _ (made _ (with_place (then supply-exact (then (perhaps range-exact refl) names_end-exact (apart _ _ refl)) (apart _ _ refl)) refl)) refl (is_within _ _ refl) (is_within _ _ refl)

pub register_item-exact : IsExact register_item
unfolding register_item_parts
register_item-exact = called _ _ (made _ (with_place (behind (the_word Reg) names_end-exact (apart _ _ refl)) refl)) refl (is_within _ _ refl) (is_within _ _ refl)

pub assign_item-exact : IsExact assign_item
unfolding assign_item_parts
assign_item-exact =
    let joins = before (with_commas join-exact refl (apart _ _ refl)) (the_mark Semicolon) (apart _ _ refl) in
    called _ _ (made _ (with_place (behind (the_word keyword.Assign) joins (apart _ _ refl)) refl)) refl (is_within _ _ refl) (is_within _ _ refl)

pub gate_item-exact : IsExact gate_item
unfolding gate_item_parts
gate_item-exact =
    let all = before (with_commas gate_instance-exact refl (apart _ _ refl)) (the_mark Semicolon) (apart _ _ refl) in
    called _ _ (made _ (with_place (then gate-exact (then (perhaps delay-exact refl) all (apart _ _ refl)) (apart _ _ refl)) refl)) refl (is_within _ _ refl) (is_within _ _ refl)

pub instance_item-exact : IsExact instance_item
unfolding instance_item_parts
instance_item-exact =
    let all = before (with_commas instance-exact refl (apart _ _ refl)) (the_mark Semicolon) (apart _ _ refl) in
    called _ _ (made _ (then name-exact (then (perhaps delay-exact refl) all (apart _ _ refl)) (apart _ _ refl))) refl (is_within _ _ refl) (is_within _ _ refl)

pub block_item-exact : IsExact block_item
unfolding block_item_parts
block_item-exact = called _ _ (made _ (block-exact true)) refl (is_within _ _ refl) (is_within _ _ refl)

pub item-exact : IsExact item
unfolding item_parts
item-exact =
    let blocks = or block_item-exact instance_item-exact refl refl (apart _ _ refl) in
    let gates = or gate_item-exact blocks refl refl (apart _ _ refl) in
    let assigns = or assign_item-exact gates refl refl (apart _ _ refl) in
    let registers = or register_item-exact assigns refl refl (apart _ _ refl) in
    let supplies = or supply_item-exact registers refl refl (apart _ _ refl) in
    let nets = or net_item-exact supplies refl refl (apart _ _ refl) in
    called _ _ (or port_item-exact nets refl refl (apart _ _ refl)) refl (is_within _ _ refl) (is_within _ _ refl)
