-- Trees that good tokens spell declare good names.
use Rattle.std.specs.Prelude.{ℕ, zero, suc, Bool, true, false, IfSome, List, [], ◌∷◌, ◌++◌, Option, Some, None, unwrap_or}
use Rattle.std.specs.List.{AllByRecursion}
use Rattle.sg_text.specs.declared.places.Place.{Place}
use Rattle.sg_text.specs.declared.words.Keyword.TheVariants as keyword
use Rattle.grammar.specs.Rule.{◌∙∙◌, ◌▸◌, ◌◂◌, followed, mapped, no_kind, nothing, one as one_of}
use Rattle.grammar.specs.Stated.{separated_options}
use Rattle.vl_token.specs.declared.symbols.Symbol.TheVariants.{AndAndAnd, Colon, Comma, LeftBrace, LeftBracket, LeftParen, Minus, Point, RightBrace, RightBracket, RightParen, Semicolon}
use Rattle.vl_token.specs.declared.symbols.Symbol.TheVariants as symbol
use Rattle.vl_token.specs.Tokens.{Lexeme, Settings}
use Rattle.vl_tree.specs.Amounts.{limit, specparam}
use Rattle.vl_tree.specs.Checks.{Delayed, arguments, arguments_of, arguments_parts, between, check, check_name, check_parts, delayed_signals, event, from_checktime, from_stamptime, last_arguments, spare, threshold_and_notifier, trailing, trailing_name}
use Rattle.vl_tree.specs.Modules.{head, head_parts, head_port, head_port_parts, module_parts, module_rule, module_word as module_word_rule, part, part_parts, port_declaration, port_declaration_parts, port_list, port_list_parts, source}
use Rattle.vl_tree.specs.Paths.{path, terms}
use Rattle.vl_tree.specs.Primitives.{primitive}
use Rattle.vl_tree.specs.Specify.{block, block_parts, check_item, check_item_parts, path_item, path_item_parts, specify_item, specify_item_parts, specparam_item, specparam_item_parts, style, style_item, style_item_parts}
use Rattle.vl_tree.specs.declared.check_names.CheckName.{CheckName}
use Rattle.vl_tree.specs.declared.check_names.CheckName.TheVariants.{OneLimit, Period, TwoLimits, Width}
use Rattle.vl_tree.specs.declared.check_names.OneLimitCheck.{OneLimitCheck}
use Rattle.vl_tree.specs.declared.check_names.OneLimitCheck.TheVariants as one
use Rattle.vl_tree.specs.declared.names.Direction.{Direction}
use Rattle.vl_tree.specs.declared.names.NetType.{NetType}
use Rattle.vl_tree.specs.declared.names.Supply.{Supply}
use Rattle.vl_tree.specs.declared.specify.PulseStyle.{PulseStyle}
use Rattle.sg_logic.specs.declared.gates.GateKind.{GateKind}
use Rattle.elab_model.specs.Members as members
use Rattle.vl_tree.specs.Expressions.{delay, expression, expression_parts, expression_to, max_braces, name, names, names_parts, range, select, signal_parts, signal_rule, sized_parts, sized_rule}
use Rattle.vl_tree.specs.Items.{assign_item, assign_item_parts, block_item, block_item_parts, connections, connections_parts, direction, gate, gate_instance, gate_instance_parts, gate_item, gate_item_parts, instance, instance_item, instance_item_parts, instance_parts, item, item_parts, join, join_parts, named_connection, named_connection_parts, net_item, net_item_parts, net_name, net_name_parts, net_type, port_item, port_item_parts, register_item, register_item_parts, supply, supply_item, supply_item_parts}
use Rattle.vl_tree.specs.Kinds.{bits_of, is_sized, is_symbol, kind_of}
use Rattle.vl_tree.specs.Rules.{Grammar, either, listed, many, mark, optional, placed, word}
use Rattle.vl_tree.specs.Tree.{Connections, Expression, Expressions, NamedConnection, Named, by_name, by_order, concatenation, expressions, signal, sized}
use Rattle.vl_tree.specs.Tree as tree
use Rattle.vl_tree.specs.declared.names.Range.{Range}
use Rattle.written_names.proofs.DeclaredNames.{AreNamed, HasNamesIn, HaveNamesIn, IsNamed, IsNamedCheck, IsNamedConnection, IsNamedGate, IsNamedHead, IsNamedHeadPort, IsNamedInstance, IsNamedItem, IsNamedJoin, IsNamedModule, IsNamedNet, IsNamedPart, IsNamedSpecify}
use Rattle.written_names.proofs.WordLaws.{AreGood, name_is}
use Rattle.written_names.proofs.Yields.{Yields, any, before, behind, in_turn, made_of, of_either, of_listed, of_many, of_nothing, of_optional, of_options, of_rest, of_second, with_its_place}

-- ---- names

pub names_are : (ts : List Lexeme) → AreGood ts → Yields ts (AllByRecursion IsNamed) names
unfolding names_parts
names_are ts good = of_listed ts IsNamed name (name_is ts good)

-- ---- expressions

signal_is : (ts : List Lexeme) → AreGood ts → Yields ts HasNamesIn signal_rule
unfolding signal_parts
signal_is ts good =
    made_of ts HasNamesIn (λ x. signal x.0 x.1) (name ∙∙ optional select)
    (λ i j x h. (in_turn ts IsNamed (λ o. Unit {0}) name (optional select) (name_is ts good) (any ts (optional select)) i j x h).0)

sized_is : (ts : List Lexeme) → Yields ts HasNamesIn sized_rule
unfolding sized_parts
sized_is ts = made_of ts HasNamesIn (λ t. sized t.place (bits_of t.meaning)) (one_of kind_of is_sized) (λ i j t h. tt)

have_names : (es : List Expression) → AllByRecursion HasNamesIn es → HaveNamesIn (expressions es)
have_names [] h = tt
have_names (e ∷ es) h = (h.0, have_names es h.1)

expression_to_is : (ts : List Lexeme) → AreGood ts → (d : ℕ) → Yields ts HasNamesIn (expression_to d)
unfolding expression_parts
expression_to_is ts good zero = of_either ts HasNamesIn signal_rule (either sized_rule nothing) (signal_is ts good) (of_either ts HasNamesIn sized_rule nothing (sized_is ts) (of_nothing ts HasNamesIn))
expression_to_is ts good (suc d) =
    of_either ts HasNamesIn signal_rule (either sized_rule (either braces nothing)) (signal_is ts good)
    (of_either ts HasNamesIn sized_rule (either braces nothing) (sized_is ts)
    (of_either ts HasNamesIn braces nothing
    (made_of ts HasNamesIn (λ (x : Place × List Expression). concatenation x.0 (expressions x.1)) (placed inner)
    (λ i j x h. have_names x.1 (with_its_place ts (AllByRecursion HasNamesIn) inner
    (behind ts (AllByRecursion HasNamesIn) (mark LeftBrace) (listed (expression_to d) ◂ mark RightBrace)
    (before ts (AllByRecursion HasNamesIn) (listed (expression_to d)) (mark RightBrace) (of_listed ts HasNamesIn (expression_to d) (expression_to_is ts good d)))) i j x h)))
    (of_nothing ts HasNamesIn)))
  where
    inner : Grammar (List Expression)
    inner = mark LeftBrace ▸ (listed (expression_to d) ◂ mark RightBrace)

    braces : Grammar Expression
    braces = mapped (λ (x : Place × List Expression). concatenation x.0 (expressions x.1)) (placed inner)

pub expression_is : (ts : List Lexeme) → AreGood ts → Yields ts HasNamesIn expression
expression_is ts good = expression_to_is ts good max_braces

-- ---- items

net_name_is : (ts : List Lexeme) → AreGood ts → Yields ts IsNamedNet net_name
unfolding net_name_parts
net_name_is ts good =
    made_of ts IsNamedNet (λ (x : Named × Option Expression). record { name = x.0; value = x.1 }) (name ∙∙ optional (mark symbol.Assign ▸ expression))
    (in_turn ts IsNamed (λ o. IfSome o HasNamesIn) name (optional (mark symbol.Assign ▸ expression)) (name_is ts good)
    (of_optional ts HasNamesIn (mark symbol.Assign ▸ expression) (behind ts HasNamesIn (mark symbol.Assign) expression (expression_is ts good))))

join_is : (ts : List Lexeme) → AreGood ts → Yields ts IsNamedJoin join
unfolding join_parts
join_is ts good =
    made_of ts IsNamedJoin (λ (x : Place × (Expression × Expression)). record { place = x.0; left = x.1.0; right = x.1.1 }) (placed (expression ∙∙ (mark symbol.Assign ▸ expression)))
    (with_its_place ts (λ (x : Expression × Expression). HasNamesIn x.0 × HasNamesIn x.1) (expression ∙∙ (mark symbol.Assign ▸ expression))
    (in_turn ts HasNamesIn HasNamesIn expression (mark symbol.Assign ▸ expression) (expression_is ts good) (behind ts HasNamesIn (mark symbol.Assign) expression (expression_is ts good))))

gate_instance_is : (ts : List Lexeme) → AreGood ts → Yields ts IsNamedGate gate_instance
unfolding gate_instance_parts
gate_instance_is ts good =
    made_of ts IsNamedGate (λ (x : Place × (Option Named × List Expression)). record { place = x.0; name = x.1.0; terminals = x.1.1 }) (placed (optional name ∙∙ (mark LeftParen ▸ (listed expression ◂ mark RightParen))))
    (with_its_place ts (λ (x : Option Named × List Expression). AllByRecursion HasNamesIn x.1) (optional name ∙∙ (mark LeftParen ▸ (listed expression ◂ mark RightParen)))
    (λ i j x h. (in_turn ts (λ o. Unit {0}) (AllByRecursion HasNamesIn) (optional name) (mark LeftParen ▸ (listed expression ◂ mark RightParen)) (any ts (optional name))
    (behind ts (AllByRecursion HasNamesIn) (mark LeftParen) (listed expression ◂ mark RightParen)
    (before ts (AllByRecursion HasNamesIn) (listed expression) (mark RightParen) (of_listed ts HasNamesIn expression (expression_is ts good)))) i j x h).1))

named_connection_is : (ts : List Lexeme) → AreGood ts → Yields ts IsNamedConnection named_connection
unfolding named_connection_parts
named_connection_is ts good =
    made_of ts IsNamedConnection (λ (x : Place × (Named × Option Expression)). record { place = x.0; port = x.1.0; value = x.1.1 }) (placed (mark Point ▸ (name ∙∙ value)))
    (with_its_place ts (λ (x : Named × Option Expression). IfSome x.1 HasNamesIn) (mark Point ▸ (name ∙∙ value))
    (behind ts (λ (x : Named × Option Expression). IfSome x.1 HasNamesIn) (mark Point) (name ∙∙ value)
    (λ i j x h. (in_turn ts IsNamed (λ o. IfSome o HasNamesIn) name value (name_is ts good)
    (behind ts (λ o. IfSome o HasNamesIn) (mark LeftParen) (optional expression ◂ mark RightParen)
    (before ts (λ o. IfSome o HasNamesIn) (optional expression) (mark RightParen) (of_optional ts HasNamesIn expression (expression_is ts good)))) i j x h).1)))
  where
    value : Grammar (Option Expression)
    value = mark LeftParen ▸ (optional expression ◂ mark RightParen)

connections_are : (ts : List Lexeme) → AreGood ts → Yields ts AreNamed connections
unfolding connections_parts
connections_are ts good =
    of_either ts AreNamed (mapped by_order (separated_options kind_of expression (is_symbol Comma))) (mapped by_name (listed named_connection))
    (made_of ts AreNamed by_order (separated_options kind_of expression (is_symbol Comma)) (of_options ts HasNamesIn expression (expression_is ts good)))
    (made_of ts AreNamed by_name (listed named_connection) (of_listed ts IsNamedConnection named_connection (named_connection_is ts good)))

some_connections : (o : Option Connections) → IfSome o AreNamed → AreNamed (unwrap_or o (by_order []))
some_connections None h = tt
some_connections (Some c) h = h

instance_is : (ts : List Lexeme) → AreGood ts → Yields ts IsNamedInstance instance
unfolding instance_parts
instance_is ts good =
    made_of ts IsNamedInstance (λ (x : Place × (Option Named × Option Connections)). record { place = x.0; name = x.1.0; connections = unwrap_or x.1.1 (by_order []) }) (placed (optional name ∙∙ inner))
    (with_its_place ts (λ (x : Option Named × Option Connections). IfSome x.0 IsNamed × AreNamed (unwrap_or x.1 (by_order []))) (optional name ∙∙ inner)
    (λ i j x h. let r = in_turn ts (λ o. IfSome o IsNamed) (λ o. IfSome o AreNamed) (optional name) inner (of_optional ts IsNamed name (name_is ts good))
    (behind ts (λ o. IfSome o AreNamed) (mark LeftParen) (optional connections ◂ mark RightParen)
    (before ts (λ o. IfSome o AreNamed) (optional connections) (mark RightParen) (of_optional ts AreNamed connections (connections_are ts good)))) i j x h in (r.0, some_connections x.1 r.1)))
  where
    inner : Grammar (Option Connections)
    inner = mark LeftParen ▸ (optional connections ◂ mark RightParen)

-- ---- timing checks

or_missing : {A : Type 0} (P : A → Type 0) (missing : A) (o : Option A) → P missing → IfSome o P → P (unwrap_or o missing)
or_missing P missing None m h = m
or_missing P missing (Some x) m h = h

of_trailing : {A : Type 0} (ts : List Lexeme) (P : A → Type 0) (missing : A) (a : Grammar A) → P missing → Yields ts P a → Yields ts P (trailing missing a)
of_trailing ts P missing a m f =
    made_of ts P (λ o. unwrap_or o missing) (optional (mark Comma ▸ a)) (λ i j o h. or_missing P missing o m (of_optional ts P (mark Comma ▸ a) (behind ts P (mark Comma) a f) i j o h))

abbrev IsDelayed : Delayed → Type 0
IsDelayed d = IfSome d.0 IsNamed × IfSome d.1 IsNamed

some_name : (ts : List Lexeme) → AreGood ts → Yields ts (λ o. IfSome o IsNamed) (optional name)
some_name ts good = of_optional ts IsNamed name (name_is ts good)

trailing_name_is : (ts : List Lexeme) → AreGood ts → Yields ts (λ o. IfSome o IsNamed) trailing_name
trailing_name_is ts good = of_trailing ts (λ o. IfSome o IsNamed) None (optional name) tt (some_name ts good)

delayed_are : (ts : List Lexeme) → AreGood ts → Yields ts IsDelayed delayed_signals
delayed_are ts good =
    of_trailing ts IsDelayed (None, None) (optional name ∙∙ trailing_name) (tt, tt)
    (in_turn ts (λ o. IfSome o IsNamed) (λ o. IfSome o IsNamed) (optional name) trailing_name (some_name ts good) (trailing_name_is ts good))

checktime_is : (ts : List Lexeme) → AreGood ts → (limited : Bool) → Yields ts IsDelayed (from_checktime limited)
checktime_is ts good limited = of_trailing ts IsDelayed (None, None) (spare limited ▸ delayed_signals) (tt, tt) (behind ts IsDelayed (spare limited) delayed_signals (delayed_are ts good))

stamptime_is : (ts : List Lexeme) → AreGood ts → (limited : Bool) → Yields ts IsDelayed (from_stamptime limited)
stamptime_is ts good limited = of_trailing ts IsDelayed (None, None) (spare limited ▸ from_checktime limited) (tt, tt) (behind ts IsDelayed (spare limited) (from_checktime limited) (checktime_is ts good limited))

last_are : (ts : List Lexeme) → AreGood ts → (limited : Bool) → Yields ts (λ (x : Option Named × Delayed). IsDelayed x.1) (last_arguments limited)
last_are ts good limited =
    of_trailing ts (λ (x : Option Named × Delayed). IsDelayed x.1) (None, (None, None)) (optional name ∙∙ from_stamptime limited) (tt, tt)
    (of_second ts IsDelayed (optional name) (from_stamptime limited) (stamptime_is ts good limited))

both_listed : (f g : Option Named) → IfSome f IsNamed → IfSome g IsNamed → AllByRecursion IsNamed (members.listed f ++ members.listed g)
both_listed None None h k = tt
both_listed None (Some y) h k = (k, tt)
both_listed (Some x) None h k = (h, tt)
both_listed (Some x) (Some y) h k = (h, (k, tt))

between_is : (place : Place) (check : OneLimitCheck) (first second : tree.Event) (l : tree.Limit) (n : Option Named) → IsNamedCheck (between place check first second l n)
between_is place one.Setup first second l n = tt
between_is place one.Hold first second l n = tt
between_is place one.Recovery first second l n = tt
between_is place one.Removal first second l n = tt
between_is place one.Skew first second l n = tt

abbrev TwoParts : Type 0
TwoParts = tree.Event × (tree.Event × (tree.Limit × (tree.Limit × (Option Named × Delayed))))

arguments_are : (ts : List Lexeme) → AreGood ts → (limited : Bool) (place : Place) (check : CheckName) → Yields ts IsNamedCheck (arguments_of limited place check)
arguments_are ts good limited place (OneLimit c) =
    made_of ts IsNamedCheck (λ (x : tree.Event × (tree.Event × (tree.Limit × Option Named))). between place c x.0 x.1.0 x.1.1.0 x.1.1.1) (event ∙∙ (mark Comma ▸ (event ∙∙ (mark Comma ▸ (limit false ∙∙ trailing_name)))))
    (λ i j x h. between_is place c x.0 x.1.0 x.1.1.0 x.1.1.1)
arguments_are ts good limited place (TwoLimits c) =
    made_of ts IsNamedCheck (λ (x : TwoParts). tree.two_limit_check place c x.0 x.1.0 x.1.1.0 x.1.1.1.0 x.1.1.1.1.0 x.1.1.1.1.1.0 x.1.1.1.1.1.1) (event ∙∙ (mark Comma ▸ second))
    (λ i j x h. let d = of_second ts (λ (y : tree.Event × (tree.Limit × (tree.Limit × (Option Named × Delayed)))). IsDelayed y.1.1.1.1) event (mark Comma ▸ second)
    (behind ts (λ (y : tree.Event × (tree.Limit × (tree.Limit × (Option Named × Delayed)))). IsDelayed y.1.1.1.1) (mark Comma) second
    (of_second ts (λ (y : tree.Limit × (tree.Limit × (Option Named × Delayed))). IsDelayed y.1.1.1) event (mark Comma ▸ third)
    (behind ts (λ (y : tree.Limit × (tree.Limit × (Option Named × Delayed))). IsDelayed y.1.1.1) (mark Comma) third
    (of_second ts (λ (y : tree.Limit × (Option Named × Delayed)). IsDelayed y.1.1) (limit true) (mark Comma ▸ fourth)
    (behind ts (λ (y : tree.Limit × (Option Named × Delayed)). IsDelayed y.1.1) (mark Comma) fourth
    (of_second ts (λ (y : Option Named × Delayed). IsDelayed y.1) (limit true) (last_arguments limited) (last_are ts good limited))))))) i j x h in both_listed x.1.1.1.1.1.0 x.1.1.1.1.1.1 d.0 d.1)
  where
    fourth : Grammar (tree.Limit × (Option Named × Delayed))
    fourth = limit true ∙∙ last_arguments limited

    third : Grammar (tree.Limit × (tree.Limit × (Option Named × Delayed)))
    third = limit true ∙∙ (mark Comma ▸ fourth)

    second : Grammar (tree.Event × (tree.Limit × (tree.Limit × (Option Named × Delayed))))
    second = event ∙∙ (mark Comma ▸ third)
arguments_are ts good limited place Width =
    made_of ts IsNamedCheck (λ (x : tree.Event × (tree.Limit × (Option tree.Limit × Option Named))). tree.width_check place x.0 x.1.0 x.1.1.0 x.1.1.1) (event ∙∙ (mark Comma ▸ (limit false ∙∙ threshold_and_notifier))) (λ i j x h. tt)
arguments_are ts good limited place Period =
    made_of ts IsNamedCheck (λ (x : tree.Event × (tree.Limit × Option Named)). tree.period_check place x.0 x.1.0 x.1.1) (event ∙∙ (mark Comma ▸ (limit false ∙∙ trailing_name))) (λ i j x h. tt)

in_parentheses : (ts : List Lexeme) → AreGood ts → (limited : Bool) (place : Place) (name : CheckName) → Yields ts IsNamedCheck (arguments limited place name)
unfolding arguments_parts
in_parentheses ts good limited place name =
    behind ts IsNamedCheck (mark LeftParen) (arguments_of limited place name ◂ mark RightParen) (before ts IsNamedCheck (arguments_of limited place name) (mark RightParen) (arguments_are ts good limited place name))

check_is : (ts : List Lexeme) → AreGood ts → (limited : Bool) → Yields ts IsNamedCheck (check limited)
unfolding check_parts
check_is ts good limited =
    made_of ts IsNamedCheck (λ (x : (Place × CheckName) × tree.Check). x.1) (followed (is_symbol LeftParen) no_kind false (placed check_name) (λ x. arguments limited x.0 x.1))
    (λ i j x h. in_parentheses ts good limited x.0.0 x.0.1 h.0 j x.1 h.2)

specify_item_is : (ts : List Lexeme) → AreGood ts → (limited : Bool) → Yields ts IsNamedSpecify (specify_item limited)
unfolding specify_item_parts specparam_item_parts path_item_parts style_item_parts check_item_parts
specify_item_is ts good limited =
    of_either ts IsNamedSpecify specparam_item (either (path_item limited) (either style_item (check_item limited)))
    (made_of ts IsNamedSpecify (λ (x : Place × List tree.Specparam). tree.specparams x.0 x.1) (placed (word keyword.SpecParam ▸ (listed specparam ◂ mark Semicolon))) (λ i j x h. tt))
    (of_either ts IsNamedSpecify (path_item limited) (either style_item (check_item limited)) (made_of ts IsNamedSpecify tree.a_path (path limited ◂ mark Semicolon) (λ i j x h. tt))
    (of_either ts IsNamedSpecify style_item (check_item limited)
    (made_of ts IsNamedSpecify (λ (x : Place × (PulseStyle × List tree.Term)). tree.pulse_style x.0 x.1.0 x.1.1) (placed (style ∙∙ (terms ◂ mark Semicolon))) (λ i j x h. tt))
    (made_of ts IsNamedSpecify tree.a_check (check limited ◂ mark Semicolon) (before ts IsNamedCheck (check limited) (mark Semicolon) (check_is ts good limited)))))

abbrev IsNamedBlock : tree.SpecifyBlock → Type 0
IsNamedBlock b = AllByRecursion IsNamedSpecify b.items

block_is : (ts : List Lexeme) → AreGood ts → (limited : Bool) → Yields ts IsNamedBlock (block limited)
unfolding block_parts
block_is ts good limited =
    made_of ts IsNamedBlock (λ (x : Place × List tree.SpecifyItem). record { place = x.0; items = x.1 }) (placed (word keyword.Specify ▸ (many (specify_item limited) ◂ word keyword.EndSpecify)))
    (with_its_place ts (AllByRecursion IsNamedSpecify) (word keyword.Specify ▸ (many (specify_item limited) ◂ word keyword.EndSpecify))
    (behind ts (AllByRecursion IsNamedSpecify) (word keyword.Specify) (many (specify_item limited) ◂ word keyword.EndSpecify)
    (before ts (AllByRecursion IsNamedSpecify) (many (specify_item limited)) (word keyword.EndSpecify) (of_many ts IsNamedSpecify (specify_item limited) (specify_item_is ts good limited)))))

-- ---- items

port_item_is : (ts : List Lexeme) → Yields ts IsNamedItem port_item
unfolding port_item_parts
port_item_is ts =
    made_of ts IsNamedItem (λ (x : Place × (Direction × (Option NetType × (Option Range × List Named)))). tree.ports x.0 x.1.0 x.1.1.0 x.1.1.1.0 x.1.1.1.1)
    (placed (direction ∙∙ (optional net_type ∙∙ (optional range ∙∙ (names ◂ mark Semicolon))))) (λ i j x h. tt)

net_item_is : (ts : List Lexeme) → AreGood ts → Yields ts IsNamedItem net_item
unfolding net_item_parts
net_item_is ts good =
    made_of ts IsNamedItem (λ (x : Place × (NetType × (Option Range × List tree.NetName))). tree.nets x.0 x.1.0 x.1.1.0 x.1.1.1) (placed (net_type ∙∙ (optional range ∙∙ (listed net_name ◂ mark Semicolon))))
    (with_its_place ts (λ (x : NetType × (Option Range × List tree.NetName)). AllByRecursion IsNamedNet x.1.1) (net_type ∙∙ (optional range ∙∙ (listed net_name ◂ mark Semicolon)))
    (of_second ts (λ (x : Option Range × List tree.NetName). AllByRecursion IsNamedNet x.1) net_type (optional range ∙∙ (listed net_name ◂ mark Semicolon))
    (of_second ts (AllByRecursion IsNamedNet) (optional range) (listed net_name ◂ mark Semicolon) (before ts (AllByRecursion IsNamedNet) (listed net_name) (mark Semicolon) (of_listed ts IsNamedNet net_name (net_name_is ts good))))))

supply_item_is : (ts : List Lexeme) → AreGood ts → Yields ts IsNamedItem supply_item
unfolding supply_item_parts
supply_item_is ts good =
    made_of ts IsNamedItem (λ (x : Place × (Supply × (Option Range × List Named))). tree.supplies x.0 x.1.0 x.1.1.0 x.1.1.1) (placed (supply ∙∙ (optional range ∙∙ (names ◂ mark Semicolon))))
    (with_its_place ts (λ (x : Supply × (Option Range × List Named)). AllByRecursion IsNamed x.1.1) (supply ∙∙ (optional range ∙∙ (names ◂ mark Semicolon)))
    (of_second ts (λ (x : Option Range × List Named). AllByRecursion IsNamed x.1) supply (optional range ∙∙ (names ◂ mark Semicolon))
    (of_second ts (AllByRecursion IsNamed) (optional range) (names ◂ mark Semicolon) (before ts (AllByRecursion IsNamed) names (mark Semicolon) (names_are ts good)))))

register_item_is : (ts : List Lexeme) → AreGood ts → Yields ts IsNamedItem register_item
unfolding register_item_parts
register_item_is ts good =
    made_of ts IsNamedItem (λ (x : Place × List Named). tree.registers x.0 x.1) (placed (word keyword.Reg ▸ (names ◂ mark Semicolon)))
    (with_its_place ts (AllByRecursion IsNamed) (word keyword.Reg ▸ (names ◂ mark Semicolon))
    (behind ts (AllByRecursion IsNamed) (word keyword.Reg) (names ◂ mark Semicolon) (before ts (AllByRecursion IsNamed) names (mark Semicolon) (names_are ts good))))

assign_item_is : (ts : List Lexeme) → AreGood ts → Yields ts IsNamedItem assign_item
unfolding assign_item_parts
assign_item_is ts good =
    made_of ts IsNamedItem (λ (x : Place × List tree.Join). tree.assigns x.0 x.1) (placed (word keyword.Assign ▸ (listed join ◂ mark Semicolon)))
    (with_its_place ts (AllByRecursion IsNamedJoin) (word keyword.Assign ▸ (listed join ◂ mark Semicolon))
    (behind ts (AllByRecursion IsNamedJoin) (word keyword.Assign) (listed join ◂ mark Semicolon) (before ts (AllByRecursion IsNamedJoin) (listed join) (mark Semicolon) (of_listed ts IsNamedJoin join (join_is ts good)))))

gate_item_is : (ts : List Lexeme) → AreGood ts → Yields ts IsNamedItem gate_item
unfolding gate_item_parts
gate_item_is ts good =
    made_of ts IsNamedItem (λ (x : Place × (GateKind × (Option tree.Delay × List tree.GateInstance))). tree.gates x.0 x.1.0 x.1.1.0 x.1.1.1) (placed (gate ∙∙ (optional delay ∙∙ (listed gate_instance ◂ mark Semicolon))))
    (with_its_place ts (λ (x : GateKind × (Option tree.Delay × List tree.GateInstance)). AllByRecursion IsNamedGate x.1.1) (gate ∙∙ (optional delay ∙∙ (listed gate_instance ◂ mark Semicolon)))
    (of_second ts (λ (x : Option tree.Delay × List tree.GateInstance). AllByRecursion IsNamedGate x.1) gate (optional delay ∙∙ (listed gate_instance ◂ mark Semicolon))
    (of_second ts (AllByRecursion IsNamedGate) (optional delay) (listed gate_instance ◂ mark Semicolon)
    (before ts (AllByRecursion IsNamedGate) (listed gate_instance) (mark Semicolon) (of_listed ts IsNamedGate gate_instance (gate_instance_is ts good))))))

instance_item_is : (ts : List Lexeme) → AreGood ts → Yields ts IsNamedItem instance_item
unfolding instance_item_parts
instance_item_is ts good =
    made_of ts IsNamedItem (λ (x : Named × (Option tree.Delay × List tree.Instance)). tree.instances x.0 x.1.0 x.1.1) (name ∙∙ (optional delay ∙∙ (listed instance ◂ mark Semicolon)))
    (of_second ts (λ (x : Option tree.Delay × List tree.Instance). AllByRecursion IsNamedInstance x.1) name (optional delay ∙∙ (listed instance ◂ mark Semicolon))
    (of_second ts (AllByRecursion IsNamedInstance) (optional delay) (listed instance ◂ mark Semicolon)
    (before ts (AllByRecursion IsNamedInstance) (listed instance) (mark Semicolon) (of_listed ts IsNamedInstance instance (instance_is ts good)))))

block_item_is : (ts : List Lexeme) → AreGood ts → Yields ts IsNamedItem block_item
unfolding block_item_parts
block_item_is ts good = made_of ts IsNamedItem tree.specify_block (block true) (block_is ts good true)

item_is : (ts : List Lexeme) → AreGood ts → Yields ts IsNamedItem item
unfolding item_parts
item_is ts good =
    of_either ts IsNamedItem port_item (either net_item (either supply_item (either register_item (either assign_item (either gate_item (either block_item instance_item)))))) (port_item_is ts)
    (of_either ts IsNamedItem net_item (either supply_item (either register_item (either assign_item (either gate_item (either block_item instance_item))))) (net_item_is ts good)
    (of_either ts IsNamedItem supply_item (either register_item (either assign_item (either gate_item (either block_item instance_item)))) (supply_item_is ts good)
    (of_either ts IsNamedItem register_item (either assign_item (either gate_item (either block_item instance_item))) (register_item_is ts good)
    (of_either ts IsNamedItem assign_item (either gate_item (either block_item instance_item)) (assign_item_is ts good)
    (of_either ts IsNamedItem gate_item (either block_item instance_item) (gate_item_is ts good) (of_either ts IsNamedItem block_item instance_item (block_item_is ts good) (instance_item_is ts good)))))))

-- ---- modules

abbrev IsNamedPort : tree.PortDeclaration → Type 0
IsNamedPort d = IsNamed d.name

port_declaration_is : (ts : List Lexeme) → AreGood ts → Yields ts IsNamedPort port_declaration
unfolding port_declaration_parts
port_declaration_is ts good =
    made_of ts IsNamedPort (λ (x : Place × (Direction × (Option NetType × (Option Range × Named)))). record { place = x.0; direction = x.1.0; net = x.1.1.0; range = x.1.1.1.0; name = x.1.1.1.1 })
    (placed (direction ∙∙ (optional net_type ∙∙ (optional range ∙∙ name))))
    (with_its_place ts (λ (x : Direction × (Option NetType × (Option Range × Named))). IsNamed x.1.1.1) (direction ∙∙ (optional net_type ∙∙ (optional range ∙∙ name)))
    (of_second ts (λ (x : Option NetType × (Option Range × Named)). IsNamed x.1.1) direction (optional net_type ∙∙ (optional range ∙∙ name))
    (of_second ts (λ (x : Option Range × Named). IsNamed x.1) (optional net_type) (optional range ∙∙ name) (of_second ts IsNamed (optional range) name (name_is ts good)))))

head_port_is : (ts : List Lexeme) → AreGood ts → Yields ts IsNamedHeadPort head_port
unfolding head_port_parts
head_port_is ts good =
    of_either ts IsNamedHeadPort (mapped tree.declared_port port_declaration) (mapped tree.named_port name) (made_of ts IsNamedHeadPort tree.declared_port port_declaration (port_declaration_is ts good))
    (made_of ts IsNamedHeadPort tree.named_port name (name_is ts good))

head_is : (ts : List Lexeme) → AreGood ts → Yields ts IsNamedHead head
unfolding head_parts
head_is ts good =
    of_either ts IsNamedHead (mapped tree.head_names names) (mapped (λ (x : tree.PortDeclaration × List tree.HeadPort). tree.head_declarations x.0 x.1) (port_declaration ∙∙ many (mark Comma ▸ head_port)))
    (made_of ts IsNamedHead tree.head_names names (names_are ts good))
    (made_of ts IsNamedHead (λ (x : tree.PortDeclaration × List tree.HeadPort). tree.head_declarations x.0 x.1) (port_declaration ∙∙ many (mark Comma ▸ head_port))
    (in_turn ts IsNamedPort (AllByRecursion IsNamedHeadPort) port_declaration (many (mark Comma ▸ head_port)) (port_declaration_is ts good) (of_rest ts IsNamedHeadPort head_port (head_port_is ts good))))

port_list_is : (ts : List Lexeme) → AreGood ts → Yields ts (λ o. IfSome o IsNamedHead) port_list
unfolding port_list_parts
port_list_is ts good =
    behind ts (λ o. IfSome o IsNamedHead) (mark LeftParen) (optional head ◂ mark RightParen) (before ts (λ o. IfSome o IsNamedHead) (optional head) (mark RightParen) (of_optional ts IsNamedHead head (head_is ts good)))

abbrev Later : Type 0
Later = Named × (Option (Option tree.Head) × List tree.Item)

module_is : (ts : List Lexeme) → AreGood ts → Yields ts IsNamedModule module_rule
unfolding module_parts
module_is ts good =
    made_of ts IsNamedModule (λ (x : (Place × Settings) × Later). record { place = x.0.0; settings = x.0.1; name = x.1.0; head = x.1.1.0; items = x.1.1.1 }) (module_word_rule ∙∙ (name ∙∙ (optional port_list ∙∙ body)))
    (λ i j x h. let r = of_second ts (λ (y : Later). IsNamed y.0 × (IfSome y.1.0 (λ o. IfSome o IsNamedHead) × AllByRecursion IsNamedItem y.1.1)) module_word_rule (name ∙∙ (optional port_list ∙∙ body))
    (in_turn ts IsNamed (λ (y : Option (Option tree.Head) × List tree.Item). IfSome y.0 (λ o. IfSome o IsNamedHead) × AllByRecursion IsNamedItem y.1) name (optional port_list ∙∙ body) (name_is ts good)
    (in_turn ts (λ o. IfSome o (λ p. IfSome p IsNamedHead)) (AllByRecursion IsNamedItem) (optional port_list) body (of_optional ts (λ o. IfSome o IsNamedHead) port_list (port_list_is ts good))
    (behind ts (AllByRecursion IsNamedItem) (mark Semicolon) (many item ◂ word keyword.EndModule)
    (before ts (AllByRecursion IsNamedItem) (many item) (word keyword.EndModule) (of_many ts IsNamedItem item (item_is ts good)))))) i j x h
    in record { name = r.0; head = r.1.0; items = r.1.1 })
  where
    body : Grammar (List tree.Item)
    body = mark Semicolon ▸ (many item ◂ word keyword.EndModule)

part_is : (ts : List Lexeme) → AreGood ts → Yields ts IsNamedPart part
unfolding part_parts
part_is ts good =
    of_either ts IsNamedPart (mapped tree.a_module module_rule) (mapped tree.a_primitive primitive) (made_of ts IsNamedPart tree.a_module module_rule (module_is ts good))
    (made_of ts IsNamedPart tree.a_primitive primitive (any ts primitive))

-- the tree that good tokens spell is named
pub source_is : (ts : List Lexeme) → AreGood ts → Yields ts (AllByRecursion IsNamedPart) source
source_is ts good = of_many ts IsNamedPart part (part_is ts good)
