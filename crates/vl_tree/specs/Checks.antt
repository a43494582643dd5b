-- The grammar of timing checks (IEEE 1364-2005, clause 15 and annex A.7.5).
use Rattle.std.specs.Prelude.{Bool, true, false, ◌||◌, not, Option, None, unwrap_or}
use Rattle.sg_text.specs.declared.places.Place.{Place}
use Rattle.grammar.specs.Rule.{◌∙∙◌, ◌▸◌, ◌◂◌, one, quoted, mapped, named, no_kind, followed, only_if}
use Rattle.vl_token.specs.declared.symbols.Symbol.TheVariants.{AndAndAnd, Comma, LeftParen, RightParen, LeftBracket}
use Rattle.vl_tree.specs.declared.check_names.CheckName.{CheckName}
use Rattle.vl_tree.specs.declared.check_names.CheckName.TheVariants.{OneLimit, TwoLimits, Width, Period}
use Rattle.vl_tree.specs.declared.check_names.OneLimitCheck.{OneLimitCheck}
use Rattle.vl_tree.specs.declared.check_names.OneLimitCheck.TheVariants.{Setup}
use Rattle.vl_tree.specs.Amounts.{limit}
use Rattle.vl_tree.specs.Conditions.{condition, condition_continues}
use Rattle.vl_tree.specs.Expressions.{name}
use Rattle.vl_tree.specs.Kinds.{Kind, kind_of, is_name, is_check, is_symbol, check_of_meaning}
use Rattle.vl_tree.specs.Paths.{term, check_edge, check_edge_starts}
use Rattle.vl_tree.specs.Rules.{Grammar, mark, placed, optional}
use Rattle.vl_tree.specs.Tree.{Named, Event, Limit, Check, one_limit_check, two_limit_check, width_check, period_check}

-- event = [ check-edge ] term [ "&&&" condition ]
unfoldable pub event_parts : Grammar Event
event_parts = mapped (λ x. record { place = x.0; edge = x.1.0; term = x.1.1.0; condition = x.1.1.1 }) (placed (optional check_edge ∙∙ (term ∙∙ optional (mark AndAndAnd ▸ condition))))

abbrev pub event_starts : Kind → Bool
event_starts k = check_edge_starts k || is_name k

abbrev pub event_continues : Kind → Bool
event_continues k = is_symbol LeftBracket k || (is_symbol AndAndAnd k || condition_continues k)

abbrev pub event : Grammar Event
event = named event_starts event_continues event_parts

-- [ "," a ], and what stands for it where it is missing at the end
abbrev pub trailing : {A : Type 0} → A → Grammar A → Grammar A
trailing missing a = mapped (λ o. unwrap_or o missing) (optional (mark Comma ▸ a))

-- [ "," [ name ] ]: a notifier, or the signal that a delayed copy of the data is
abbrev pub trailing_name : Grammar (Option Named)
trailing_name = trailing None (optional name)

-- [ "," [ threshold ] [ "," [ notifier ] ] ]
abbrev pub threshold_and_notifier : Grammar (Option Limit × Option Named)
threshold_and_notifier = trailing (None, None) (optional (limit false) ∙∙ trailing_name)

-- An argument that may not be filled. Where that isn't limited it may have a token that doesn't end it.
abbrev pub fills : Kind → Bool
fills k = not (is_symbol Comma k || is_symbol RightParen k)

abbrev pub spare : Bool → Grammar (Unit {0})
spare limited = mapped (λ _. tt) (optional (only_if (not limited) (quoted kind_of fills)))

-- the names of the delayed copies of the reference and of the data
abbrev pub Delayed : Type 0
Delayed = Option Named × Option Named

-- [ "," [ delayed-reference ] [ "," [ delayed-data ] ] ]
abbrev pub delayed_signals : Grammar Delayed
delayed_signals = trailing (None, None) (optional name ∙∙ trailing_name)

-- The arguments of $setuphold and $recrem behind the limits (15.2.3, 15.2.6 and 15.8): a notifier, the conditions of the time
-- stamp and of the time check, which may not be filled, and the delayed signals.
abbrev pub from_checktime : Bool → Grammar Delayed
from_checktime limited = trailing (None, None) (spare limited ▸ delayed_signals)

abbrev pub from_stamptime : Bool → Grammar Delayed
from_stamptime limited = trailing (None, None) (spare limited ▸ from_checktime limited)

-- [ "," [ notifier ] from-stamptime ]
abbrev pub last_arguments : Bool → Grammar (Option Named × Delayed)
last_arguments limited = trailing (None, (None, None)) (optional name ∙∙ from_stamptime limited)

-- in $setup the data stands before the reference
abbrev pub between : Place → OneLimitCheck → Event → Event → Limit → Option Named → Check
between place Setup first second l n = one_limit_check place Setup second first l n
between place check first second l n = one_limit_check place check first second l n

-- the arguments of each check
abbrev pub arguments_of : Bool → Place → CheckName → Grammar Check
arguments_of limited place (OneLimit check) =
    mapped (λ x. between place check x.0 x.1.0 x.1.1.0 x.1.1.1)
    (event ∙∙ (mark Comma ▸ (event ∙∙ (mark Comma ▸ (limit false ∙∙ trailing_name)))))
arguments_of limited place (TwoLimits check) =
    mapped (λ x. two_limit_check place check x.0 x.1.0 x.1.1.0 x.1.1.1.0 x.1.1.1.1.0 x.1.1.1.1.1.0 x.1.1.1.1.1.1)
    (event ∙∙ (mark Comma ▸ (event ∙∙ (mark Comma ▸ (limit true ∙∙ (mark Comma ▸ (limit true ∙∙ last_arguments limited)))))))
arguments_of limited place Width = mapped (λ x. width_check place x.0 x.1.0 x.1.1.0 x.1.1.1) (event ∙∙ (mark Comma ▸ (limit false ∙∙ threshold_and_notifier)))
arguments_of limited place Period = mapped (λ x. period_check place x.0 x.1.0 x.1.1) (event ∙∙ (mark Comma ▸ (limit false ∙∙ trailing_name)))

-- "(" arguments ")"
unfoldable pub arguments_parts : Bool → Place → CheckName → Grammar Check
arguments_parts limited place check = mark LeftParen ▸ (arguments_of limited place check ◂ mark RightParen)

abbrev pub arguments : Bool → Place → CheckName → Grammar Check
arguments limited place check = named (is_symbol LeftParen) no_kind (arguments_parts limited place check)

-- a check's name
abbrev pub check_name : Grammar CheckName
check_name = mapped (λ t. check_of_meaning t.meaning) (one kind_of is_check)

-- check = name "(" arguments ")"
unfoldable pub check_parts : Bool → Grammar Check
check_parts limited = mapped (λ x. x.1) (followed (is_symbol LeftParen) no_kind false (placed check_name) (λ x. arguments limited x.0 x.1))

abbrev pub check : Bool → Grammar Check
check limited = named is_check no_kind (check_parts limited)
