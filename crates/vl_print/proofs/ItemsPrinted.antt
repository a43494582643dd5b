-- What is put for the items of modules spells them.
use Rattle.std.proofs.Common.{◌≡◌, ℕ, true, [], ◌∷◌, length, map, Option, Some, None, refl, sym, subst, ap}
use Rattle.std.specs.Prelude.{slice_get, unwrap_or}
use Rattle.sg_logic.specs.declared.gates.GateKind.TheVariants as gate_kind
use Rattle.sg_text.specs.declared.places.Place.{Place}
use Rattle.sg_text.specs.declared.words.Keyword.TheVariants.{Input, Output, Wire, Tri, Supply0, Supply1, Reg}
use Rattle.sg_text.specs.declared.words.Keyword.TheVariants as keyword
use Rattle.grammar.specs.Exact.{Exact}
use Rattle.grammar.specs.Language.{image, sequence}
use Rattle.grammar.specs.Rule.{◌∙∙◌, ◌▸◌, ◌◂◌}
use Rattle.grammar.specs.Stated.{separated_options}
use Rattle.grammar.proofs.Extents.{starts_so}
use Rattle.grammar.proofs.Printing as printing
use Rattle.grammar.proofs.Stated.{by_first, to_first, from_first}
use Rattle.vl_token.specs.declared.symbols.Symbol.TheVariants.{Comma, Semicolon, Point, LeftParen, RightParen}
use Rattle.vl_token.specs.declared.symbols.Symbol.TheVariants as symbol
use Rattle.vl_token.specs.Seen.{lexeme}
use Rattle.vl_token.specs.Tokens.{word_token}
use Rattle.vl_tree.specs.declared.names.Direction.TheVariants as direction_of
use Rattle.vl_tree.specs.declared.names.NetType.TheVariants as net_type_of
use Rattle.vl_tree.specs.declared.names.Supply.TheVariants as supply_of
use Rattle.vl_tree.specs.Expressions.{name, names, range, expression, delay}
use Rattle.vl_tree.specs.Items.{direction_parts, direction, net_type_parts, net_type, supply_parts, supply, enable_gate_parts, enable_gate, gate_parts, gate, net_name_parts, net_name, join_parts, join, gate_instance_parts, gate_instance, named_connection_parts, named_connection, connections_parts, connections, instance_parts, instance, port_item_parts, port_item, net_item_parts, net_item, supply_item_parts, supply_item, register_item_parts, register_item, assign_item_parts, assign_item, gate_item_parts, gate_item, instance_item_parts, instance_item, block_item_parts, block_item, item_parts, item}
use Rattle.vl_tree.specs.Kinds.{kind_of, is_word, is_symbol}
use Rattle.vl_print.specs.ModulesPrinting.{put_item}
use Rattle.vl_print.specs.Printing.{Tokens, nowhere, put_mark, mark_at, put_optional, behind_comma, put_listed, put_name, put_names, put_range, put_expression, put_direction, put_net_type, put_supply, put_gate, put_net_name, put_join, put_opening, put_gate_instance, put_named_connection, put_connections, put_instance}
use Rattle.vl_tree.specs.Rules.{mark, optional, listed}
use Rattle.vl_tree.specs.Tree.{Expression, Connections, by_order, by_name}
use Rattle.vl_tree.proofs.AllKinds.{apart}
use Rattle.vl_tree.proofs.Building.{with_commas, perhaps}
use Rattle.vl_tree.proofs.ExpressionsExact.{name-exact, names-exact, range-exact, expression-exact, delay-exact}
use Rattle.vl_tree.proofs.ItemsExact.{direction-exact, net_type-exact, supply-exact, gate-exact, net_name-exact, join-exact, gate_instance-exact, named_connection-exact, connections-exact, instance-exact}
use Rattle.vl_print.proofs.ExpressionsPrinted.{name_prints, name_own, names_prints, range_prints, expression_prints, expression_own, delay_prints}
use Rattle.vl_tree.proofs.Lists.{comma_expression, comma_net_name, comma_join, comma_gate_instance, comma_named_connection, comma_instance, comma_option}
use Rattle.vl_print.proofs.SpecifyPrinted.{block_prints}
use Rattle.vl_print.proofs.Printed.{Over, Prints, PrintsAt, mapped_prints, seq_prints, either_prints, optional_prints, many_prints, placed_prints, listed_prints, behind_mark, before_mark, mark_first, word_comes_first, word_first, first_prints, either_first, own_first, word_says, begins_behind}

pub direction_first : PrintsAt direction.language put_direction
unfolding direction_parts
direction_first =
    either_first _ _ put_direction
    (word_first (is_word Input) (word_token Input) direction_of.Input put_direction refl (λ p out. refl))
    (word_first (is_word Output) (word_token Output) direction_of.Output put_direction refl (λ p out. refl))

pub net_type_first : PrintsAt net_type.language put_net_type
unfolding net_type_parts
net_type_first =
    either_first _ _ put_net_type
    (word_first (is_word Wire) (word_token Wire) net_type_of.Wire put_net_type refl (λ p out. refl))
    (word_first (is_word Tri) (word_token Tri) net_type_of.Tri put_net_type refl (λ p out. refl))

supply_first : PrintsAt supply.language put_supply
unfolding supply_parts
supply_first =
    either_first _ _ put_supply
    (word_first (is_word Supply0) (word_token Supply0) supply_of.Zero put_supply refl (λ p out. refl))
    (word_first (is_word Supply1) (word_token Supply1) supply_of.One put_supply refl (λ p out. refl))

enable_gate_first : PrintsAt enable_gate.language put_gate
unfolding enable_gate_parts
enable_gate_first =
    either_first _ _ put_gate (word_first (is_word keyword.Bufif0) (word_token keyword.Bufif0) gate_kind.Bufif0 put_gate refl (λ p out. refl))
    (either_first _ _ put_gate (word_first (is_word keyword.Bufif1) (word_token keyword.Bufif1) gate_kind.Bufif1 put_gate refl (λ p out. refl))
    (either_first _ _ put_gate
    (word_first (is_word keyword.Notif0) (word_token keyword.Notif0) gate_kind.Notif0 put_gate refl (λ p out. refl))
    (word_first (is_word keyword.Notif1) (word_token keyword.Notif1) gate_kind.Notif1 put_gate refl (λ p out. refl))))

gate_first : PrintsAt gate.language put_gate
unfolding gate_parts
gate_first =
    either_first _ _ put_gate (word_first (is_word keyword.And) (word_token keyword.And) gate_kind.And put_gate refl (λ p out. refl))
    (either_first _ _ put_gate (word_first (is_word keyword.Nand) (word_token keyword.Nand) gate_kind.Nand put_gate refl (λ p out. refl))
    (either_first _ _ put_gate (word_first (is_word keyword.Or) (word_token keyword.Or) gate_kind.Or put_gate refl (λ p out. refl))
    (either_first _ _ put_gate (word_first (is_word keyword.Nor) (word_token keyword.Nor) gate_kind.Nor put_gate refl (λ p out. refl))
    (either_first _ _ put_gate (word_first (is_word keyword.Xor) (word_token keyword.Xor) gate_kind.Xor put_gate refl (λ p out. refl))
    (either_first _ _ put_gate (word_first (is_word keyword.Xnor) (word_token keyword.Xnor) gate_kind.Xnor put_gate refl (λ p out. refl))
    (either_first _ _ put_gate (word_first (is_word keyword.Buf) (word_token keyword.Buf) gate_kind.Buf put_gate refl (λ p out. refl))
    (either_first _ _ put_gate (word_first (is_word keyword.Not) (word_token keyword.Not) gate_kind.Not put_gate refl (λ p out. refl))
    enable_gate_first)))))))

pub net_type_prints : (p : Place) → Prints net_type.language (put_net_type p)
unfolding net_type_parts
net_type_prints p =
    either_prints _ _ (put_net_type p)
    (word_says (is_word Wire) (word_token Wire) p net_type_of.Wire (put_net_type p) refl (λ out. refl))
    (word_says (is_word Tri) (word_token Tri) p net_type_of.Tri (put_net_type p) refl (λ out. refl))

-- ---- parts of lists

net_name_prints : Prints net_name.language put_net_name
unfolding net_name_parts
net_name_prints =
    let value = optional_prints _ _ (behind_mark symbol.Assign expression.language _ expression_prints) in
    mapped_prints _ _ _ put_net_name (seq_prints name _ _ _ name-exact name_prints value) (λ x out. refl)

join_prints : Prints join.language put_join
unfolding join_parts
join_prints =
    let first = own_first expression.language put_expression expression_prints expression_own in
    let second = behind_mark symbol.Assign expression.language _ expression_prints in
    placed_prints _ _ _ put_join (first_prints expression _ _ _ expression-exact refl first second) (λ x out. refl)

-- [ name ] "(" and a part behind it
opening_first : {B : Type 0} (b : Over B) (put : B → Tokens → Tokens) → Prints b put → PrintsAt (sequence (optional name).language (image (λ x. x.1) (sequence (mark LeftParen).language b))) (λ p x out. put x.1 (put_opening p x.0 out))
opening_first b put prints p (None, y) (ts, i, j, (t, at, place, (m, s, u))) out =
    let there : slice_get (map lexeme ts) m ≡ Some t = subst (λ (k : ℕ). slice_get (map lexeme ts) k ≡ Some t) (sym s) at in
    let f = mark_first LeftParen b put prints p y (ts, m, j, (t, there, place, u)) out in
    (printing.appends_seq kind_of (optional name) _ (perhaps name-exact refl) out out (put y (mark_at LeftParen p out)) None y (printing.appends_none name.language out) f.0, f.1)
opening_first b put prints p (Some n, y) (ts, i, j, (t, at, place, (m, s, u))) out =
    let mid = put_name n out in
    let q = behind_mark LeftParen b put prints y (ts, m, j, u) mid in
    let f = name_prints n (ts, i, m, s) out in (
      printing.appends_seq kind_of (optional name) _ (perhaps name-exact refl) out mid (put y (put_mark LeftParen mid)) (Some n) y (printing.appends_some name.language out mid n f) q,
      begins_behind _ p out mid (put y (put_mark LeftParen mid)) y (starts_so kind_of name name-exact refl mid (length out) n (length mid) f.spells).0 (name_own.begins p n (ts, i, m, (t, at, place, s)) out) q,
    )

gate_instance_prints : Prints gate_instance.language put_gate_instance
unfolding gate_instance_parts
gate_instance_prints =
    let terminals = listed_prints expression put_expression expression-exact (comma_expression 64) expression_prints in
    let closed = before_mark RightParen (listed expression) _ (with_commas expression-exact refl (apart _ _ refl)) terminals in
    placed_prints _ _ _ put_gate_instance (opening_first (listed expression ◂ mark RightParen).language _ closed) (λ x out. refl)

named_connection_prints : Prints named_connection.language put_named_connection
unfolding named_connection_parts
named_connection_prints =
    let value = before_mark RightParen (optional expression) _ (perhaps expression-exact refl) (optional_prints _ _ expression_prints) in
    let opened = behind_mark LeftParen (optional expression ◂ mark RightParen).language _ value in
    let all = seq_prints name (mark LeftParen ▸ (optional expression ◂ mark RightParen)).language _ _ name-exact name_prints opened in
    placed_prints _ _ _ put_named_connection (mark_first Point (name ∙∙ (mark LeftParen ▸ (optional expression ◂ mark RightParen))).language _ all) (λ x out. refl)

-- [ expr ] { "," [ expr ] }
abbrev put_option : Option Expression → Tokens → Tokens
put_option o out = put_optional put_expression o out

comma : Exact kind_of (mark Comma ▸ optional expression)
comma = comma_option

option_prints : Prints (mark Comma ▸ optional expression).language (behind_comma put_option)
option_prints = behind_mark Comma (optional expression).language _ (optional_prints _ _ expression_prints)

by_first_prints : Prints (by_first kind_of expression (is_symbol Comma) expression-exact refl (apart _ _ refl) (apart _ _ refl)).language (put_listed put_option)
by_first_prints =
    let others = many_prints (mark Comma ▸ optional expression) (behind_comma put_option) comma option_prints in
    let some = mapped_prints (λ x. Some x.0 ∷ x.1) _ _ (put_listed put_option) (seq_prints expression _ _ _ expression-exact expression_prints others) (λ x out. refl) in
    let none = mapped_prints (λ x. None ∷ x.0 ∷ x.1) _ _ (put_listed put_option) (seq_prints (mark Comma ▸ optional expression) _ _ _ comma option_prints others) (λ x out. refl) in
    either_prints _ _ (put_listed put_option) some none

by_order_prints : Prints (separated_options kind_of expression (is_symbol Comma)).language (put_listed put_option)
by_order_prints x (ts, i, j, s) out =
    let first = to_first kind_of expression (is_symbol Comma) expression-exact refl (apart _ _ refl) (apart _ _ refl) (map lexeme ts) i x j s in
    let p = by_first_prints x (ts, i, j, first) out in
    record { more = p.more; is = p.is; spells = from_first kind_of expression (is_symbol Comma) expression-exact refl (apart _ _ refl) (apart _ _ refl) (put_listed put_option x out) (length out) x (length (put_listed put_option x out)) p.spells }

connections_prints : Prints connections.language put_connections
unfolding connections_parts
connections_prints =
    let by_names = listed_prints named_connection put_named_connection named_connection-exact comma_named_connection named_connection_prints in
    either_prints _ _ put_connections (mapped_prints by_order _ _ put_connections by_order_prints (λ x out. refl)) (mapped_prints by_name _ _ put_connections by_names (λ x out. refl))

no_connection : (o : Option Connections) (out : Tokens) → put_connections (unwrap_or o (by_order [])) out ≡ put_optional put_connections o out
no_connection None out = refl
no_connection (Some c) out = refl

instance_prints : Prints instance.language put_instance
unfolding instance_parts
instance_prints =
    let closed = before_mark RightParen (optional connections) _ (perhaps connections-exact refl) (optional_prints _ _ connections_prints) in
    placed_prints _ _ _ put_instance (opening_first (optional connections ◂ mark RightParen).language _ closed) (λ x out. ap (put_mark RightParen) (no_connection x.1.1 (put_opening x.0 x.1.0 out)))

-- ---- items

names_end : Prints (names ◂ mark Semicolon).language (λ ns out. put_mark Semicolon (put_names ns out))
names_end = before_mark Semicolon names _ names-exact names_prints

ranged_names : Prints (optional range ∙∙ (names ◂ mark Semicolon)).language (λ x out. put_mark Semicolon (put_names x.1 (put_optional put_range x.0 out)))
ranged_names = seq_prints (optional range) (names ◂ mark Semicolon).language _ _ (perhaps range-exact refl) (optional_prints _ _ range_prints) names_end

port_item_prints : Prints port_item.language put_item
unfolding port_item_parts
port_item_prints =
    let typed = seq_prints (optional net_type) (optional range ∙∙ (names ◂ mark Semicolon)).language _ _ (perhaps net_type-exact refl) (optional_prints _ _ (net_type_prints nowhere)) ranged_names in
    placed_prints _ _ _ put_item (first_prints direction _ _ _ direction-exact refl direction_first typed) (λ x out. refl)

net_item_prints : Prints net_item.language put_item
unfolding net_item_parts
net_item_prints =
    let all = before_mark Semicolon (listed net_name) _ (with_commas net_name-exact refl (apart _ _ refl)) (listed_prints net_name put_net_name net_name-exact comma_net_name net_name_prints) in
    let ranged = seq_prints (optional range) (listed net_name ◂ mark Semicolon).language _ _ (perhaps range-exact refl) (optional_prints _ _ range_prints) all in
    placed_prints _ _ _ put_item (first_prints net_type _ _ _ net_type-exact refl net_type_first ranged) (λ x out. refl)

supply_item_prints : Prints supply_item.language put_item
unfolding supply_item_parts
supply_item_prints = placed_prints _ _ _ put_item (first_prints supply _ _ _ supply-exact refl supply_first ranged_names) (λ x out. refl)

register_item_prints : Prints register_item.language put_item
unfolding register_item_parts
register_item_prints = placed_prints _ _ _ put_item (word_comes_first Reg (names ◂ mark Semicolon).language _ names_end) (λ x out. refl)

assign_item_prints : Prints assign_item.language put_item
unfolding assign_item_parts
assign_item_prints =
    let joins = before_mark Semicolon (listed join) _ (with_commas join-exact refl (apart _ _ refl)) (listed_prints join put_join join-exact comma_join join_prints) in
    placed_prints _ _ _ put_item (word_comes_first keyword.Assign (listed join ◂ mark Semicolon).language _ joins) (λ x out. refl)

gate_item_prints : Prints gate_item.language put_item
unfolding gate_item_parts
gate_item_prints =
    let all = before_mark Semicolon (listed gate_instance) _ (with_commas gate_instance-exact refl (apart _ _ refl)) (listed_prints gate_instance put_gate_instance gate_instance-exact comma_gate_instance gate_instance_prints) in
    let delayed = seq_prints (optional delay) (listed gate_instance ◂ mark Semicolon).language _ _ (perhaps delay-exact refl) (optional_prints _ _ delay_prints) all in
    placed_prints _ _ _ put_item (first_prints gate _ _ _ gate-exact refl gate_first delayed) (λ x out. refl)

instance_item_prints : Prints instance_item.language put_item
unfolding instance_item_parts
instance_item_prints =
    let all = before_mark Semicolon (listed instance) _ (with_commas instance-exact refl (apart _ _ refl)) (listed_prints instance put_instance instance-exact comma_instance instance_prints) in
    let delayed = seq_prints (optional delay) (listed instance ◂ mark Semicolon).language _ _ (perhaps delay-exact refl) (optional_prints _ _ delay_prints) all in
    mapped_prints _ _ _ put_item (seq_prints name _ _ _ name-exact name_prints delayed) (λ x out. refl)

block_item_prints : Prints block_item.language put_item
unfolding block_item_parts
block_item_prints = mapped_prints _ _ _ put_item (block_prints true) (λ x out. refl)

pub item_prints : Prints item.language put_item
unfolding item_parts
item_prints =
    either_prints _ _ put_item port_item_prints (either_prints _ _ put_item net_item_prints (either_prints _ _ put_item supply_item_prints (either_prints _ _ put_item register_item_prints (either_prints _ _ put_item assign_item_prints (either_prints _ _ put_item gate_item_prints (either_prints _ _ put_item block_item_prints instance_item_prints))))))
