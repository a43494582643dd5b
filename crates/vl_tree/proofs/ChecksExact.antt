-- Each rule of timing checks is read exactly.
use Rattle.std.proofs.Common.{Bool, true, false, refl}
use Rattle.std.specs.Prelude.{not}
use Rattle.std.proofs.lemmas.Bool.{and_right}
use Rattle.sg_text.specs.declared.places.Place.{Place}
use Rattle.grammar.specs.Exact.{Apart}
use Rattle.grammar.specs.Rule.{no_kind}
use Rattle.grammar.proofs.Laws.{quoted-exact, only_if-exact, followed-exact}
use Rattle.vl_token.specs.declared.symbols.Symbol.TheVariants.{AndAndAnd, Comma, LeftParen, RightParen}
use Rattle.vl_tree.specs.declared.check_names.CheckName.{CheckName}
use Rattle.vl_tree.specs.declared.check_names.CheckName.TheVariants.{OneLimit, TwoLimits, Width, Period}
use Rattle.vl_tree.specs.declared.check_names.TwoLimitCheck.{TwoLimitCheck}
use Rattle.vl_tree.specs.Checks.{event_parts, event, trailing_name, threshold_and_notifier, fills, spare, delayed_signals, from_checktime, from_stamptime, last_arguments, arguments_of, arguments_parts, arguments, check_name, check_parts, check}
use Rattle.vl_tree.specs.Kinds.{kind_of, is_check, is_symbol}
use Rattle.vl_tree.specs.Rules.{placed}
use Rattle.vl_tree.proofs.AllKinds.{apart, is_within}
use Rattle.vl_tree.proofs.Building.{IsExact, token, the_mark, then, made, behind, before, called, with_place, perhaps}
use Rattle.vl_tree.proofs.AmountsExact.{limit-exact}
use Rattle.vl_tree.proofs.ConditionsExact.{condition-exact}
use Rattle.vl_tree.proofs.ExpressionsExact.{name-exact}
use Rattle.vl_tree.proofs.PathsExact.{term-exact, check_edge-exact}

pub event-exact : IsExact event
unfolding event_parts
event-exact =
    let held = perhaps (behind (the_mark AndAndAnd) condition-exact (apart _ _ refl)) refl in
    called _ _ (made _ (with_place (then (perhaps check_edge-exact refl) (then term-exact held (apart _ _ refl)) (apart _ _ refl)) refl)) refl (is_within _ _ refl) (is_within _ _ refl)

-- ---- arguments that may be missing

pub trailing_name-exact : IsExact trailing_name
trailing_name-exact = made _ (perhaps (behind (the_mark Comma) (perhaps name-exact refl) (apart _ _ refl)) refl)

pub threshold_and_notifier-exact : IsExact threshold_and_notifier
threshold_and_notifier-exact = made _ (perhaps (behind (the_mark Comma) (then (perhaps (limit-exact false) refl) trailing_name-exact (apart _ _ refl)) (apart _ _ refl)) refl)

-- ---- arguments that may not be filled, and those behind them

pub spare-exact : (limited : Bool) → IsExact (spare limited)
spare-exact limited = made _ (perhaps (only_if-exact kind_of (not limited) _ (quoted-exact kind_of fills)) (and_right (not limited) false refl))

pub delayed_signals-exact : IsExact delayed_signals
delayed_signals-exact = made _ (perhaps (behind (the_mark Comma) (then (perhaps name-exact refl) trailing_name-exact (apart _ _ refl)) (apart _ _ refl)) refl)

pub from_checktime-exact : (limited : Bool) → IsExact (from_checktime limited)
from_checktime-exact true = made _ (perhaps (behind (the_mark Comma) (behind (spare-exact true) delayed_signals-exact (apart _ _ refl)) (apart _ _ refl)) refl)
from_checktime-exact false = made _ (perhaps (behind (the_mark Comma) (behind (spare-exact false) delayed_signals-exact (apart _ _ refl)) (apart _ _ refl)) refl)

pub from_stamptime-exact : (limited : Bool) → IsExact (from_stamptime limited)
from_stamptime-exact true = made _ (perhaps (behind (the_mark Comma) (behind (spare-exact true) (from_checktime-exact true) (apart _ _ refl)) (apart _ _ refl)) refl)
from_stamptime-exact false = made _ (perhaps (behind (the_mark Comma) (behind (spare-exact false) (from_checktime-exact false) (apart _ _ refl)) (apart _ _ refl)) refl)

pub last_arguments-exact : (limited : Bool) → IsExact (last_arguments limited)
last_arguments-exact true = made _ (perhaps (behind (the_mark Comma) (then (perhaps name-exact refl) (from_stamptime-exact true) (apart _ _ refl)) (apart _ _ refl)) refl)
last_arguments-exact false = made _ (perhaps (behind (the_mark Comma) (then (perhaps name-exact refl) (from_stamptime-exact false) (apart _ _ refl)) (apart _ _ refl)) refl)

-- ---- checks

pub arguments_of-exact : (limited : Bool) (place : Place) (name : CheckName) → IsExact (arguments_of limited place name)
arguments_of-exact limited place (OneLimit c) =
    let limits = behind (the_mark Comma) (then (limit-exact false) trailing_name-exact (apart _ _ refl)) (apart _ _ refl) in
    made _ (then event-exact (behind (the_mark Comma) (then event-exact limits (apart _ _ refl)) (apart _ _ refl)) (apart _ _ refl))
arguments_of-exact limited place (TwoLimits c) =
    let second = behind (the_mark Comma) (then (limit-exact true) (last_arguments-exact limited) (apart _ _ refl)) (apart _ _ refl) in
    let limits = behind (the_mark Comma) (then (limit-exact true) second (apart _ _ refl)) (apart _ _ refl) in
    made _ (then event-exact (behind (the_mark Comma) (then event-exact limits (apart _ _ refl)) (apart _ _ refl)) (apart _ _ refl))
arguments_of-exact limited place Width =
    let limits = behind (the_mark Comma) (then (limit-exact false) threshold_and_notifier-exact (apart _ _ refl)) (apart _ _ refl) in
    made _ (then event-exact limits (apart _ _ refl))
arguments_of-exact limited place Period =
    let limits = behind (the_mark Comma) (then (limit-exact false) trailing_name-exact (apart _ _ refl)) (apart _ _ refl) in
    made _ (then event-exact limits (apart _ _ refl))

two_limits_close : (limited : Bool) (place : Place) (c : TwoLimitCheck) → Apart (arguments_of limited place (TwoLimits c)).continues (is_symbol RightParen)
two_limits_close true place c = apart _ _ refl
two_limits_close false place c = apart _ _ refl

pub arguments-exact : (limited : Bool) (place : Place) (name : CheckName) → IsExact (arguments limited place name)
unfolding arguments_parts
arguments-exact limited place (OneLimit c) =
    let closed = before (arguments_of-exact limited place (OneLimit c)) (the_mark RightParen) (apart _ _ refl) in
    called _ _ (behind (the_mark LeftParen) closed (apart _ _ refl)) refl (is_within _ _ refl) (is_within _ _ refl)
arguments-exact limited place (TwoLimits c) =
    let closed = before (arguments_of-exact limited place (TwoLimits c)) (the_mark RightParen) (two_limits_close limited place c) in
    called _ _ (behind (the_mark LeftParen) closed (apart _ _ refl)) refl (is_within _ _ refl) (is_within _ _ refl)
arguments-exact limited place Width =
    let closed = before (arguments_of-exact limited place Width) (the_mark RightParen) (apart _ _ refl) in
    called _ _ (behind (the_mark LeftParen) closed (apart _ _ refl)) refl (is_within _ _ refl) (is_within _ _ refl)
arguments-exact limited place Period =
    let closed = before (arguments_of-exact limited place Period) (the_mark RightParen) (apart _ _ refl) in
    called _ _ (behind (the_mark LeftParen) closed (apart _ _ refl)) refl (is_within _ _ refl) (is_within _ _ refl)

pub check_name-exact : IsExact check_name
check_name-exact = token _ is_check

pub check-exact : (limited : Bool) → IsExact (check limited)
unfolding check_parts
check-exact limited = called _ _ (made _ (followed-exact kind_of (is_symbol LeftParen) no_kind false (placed check_name) (λ x. arguments limited x.0 x.1) (with_place check_name-exact refl) (λ x. arguments-exact limited x.0 x.1) (λ x k p. p) (λ x k p. p) (λ x p. p) (apart _ _ refl)))
    refl (is_within _ _ refl) (is_within _ _ refl)
