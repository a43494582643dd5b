-- What is put for timing checks spells them.
use Rattle.std.proofs.Common.{◌≡◌, ℕ, Bool, true, false, List, length, map, Option, Some, None, refl, sym, subst, inl, inr, ◌∙◌}
use Rattle.std.specs.Prelude.{◌⊎◌, not, slice_get, unwrap_or}
use Rattle.sg_text.specs.declared.places.Place.{Place}
use Rattle.grammar.specs.Language.{sequence}
use Rattle.grammar.specs.Reads.{Appends}
use Rattle.grammar.specs.Rule.{◌∙∙◌, ◌▸◌, ◌◂◌, quoted, only_if}
use Rattle.grammar.proofs.Extents.{starts_so}
use Rattle.grammar.proofs.Printing as printing
use Rattle.vl_token.specs.declared.symbols.Symbol.TheVariants.{AndAndAnd, Comma, LeftParen, RightParen}
use Rattle.vl_token.specs.declared.tokens.Token.{Token}
use Rattle.vl_token.specs.Seen.{lexeme}
use Rattle.vl_token.specs.Tokens.{Lexeme, system_token}
use Rattle.vl_tree.specs.declared.check_names.CheckName.{CheckName}
use Rattle.vl_tree.specs.declared.check_names.CheckName.TheVariants.{OneLimit, TwoLimits, Width, Period}
use Rattle.vl_tree.specs.declared.check_names.OneLimitCheck.{OneLimitCheck}
use Rattle.vl_tree.specs.declared.check_names.OneLimitCheck.TheVariants.{Setup, Hold, Recovery, Removal, Skew}
use Rattle.vl_tree.specs.declared.check_names.TwoLimitCheck.TheVariants.{SetupHold, RecRem}
use Rattle.vl_tree.specs.Amounts.{limit}
use Rattle.vl_tree.specs.CheckNames.{check_rows}
use Rattle.vl_tree.specs.Checks.{event_parts, event, trailing, trailing_name, threshold_and_notifier, fills, spare, Delayed, delayed_signals, from_checktime, from_stamptime, last_arguments, between, arguments_of, arguments_parts, arguments, check_name, check_parts, check}
use Rattle.vl_tree.specs.Conditions.{condition}
use Rattle.vl_tree.specs.Expressions.{name}
use Rattle.vl_tree.specs.Kinds.{kind_of, kind_of_meaning, is_check, check_of_meaning}
use Rattle.vl_tree.specs.Paths.{term, check_edge}
use Rattle.vl_print.specs.Printing.{Tokens, put_token, put_mark, put_optional, put_name}
use Rattle.vl_tree.specs.Rules.{Grammar, mark, placed, optional}
use Rattle.vl_print.specs.SpecifyPrinting.{put_term, put_limit, put_next_limit, put_edge, put_event_term, put_held, put_event, check_text, put_notifier, put_events, put_threshold_and_notifier, put_delayed, put_last_arguments, put_arguments, name_of_check, place_of_check, put_in_parens, put_check}
use Rattle.vl_tree.specs.Tree.{Named, Term, Word, EdgeWord, Event, Limit, Check}
use Rattle.vl_tree.proofs.AmountsExact.{limit-exact}
use Rattle.vl_print.proofs.AmountsPrinted.{limit_prints}
use Rattle.vl_tree.proofs.Building.{with_place, perhaps}
use Rattle.vl_tree.proofs.ChecksExact.{event-exact, spare-exact, arguments_of-exact, check_name-exact}
use Rattle.vl_print.proofs.ConditionsPrinted.{condition_prints}
use Rattle.vl_tree.proofs.ExpressionsExact.{name-exact}
use Rattle.vl_print.proofs.ExpressionsPrinted.{name_prints}
use Rattle.vl_tree.proofs.PathsExact.{term-exact, check_edge-exact}
use Rattle.vl_print.proofs.PathsPrinted.{term_prints, term_own, check_edge_first}
use Rattle.vl_print.proofs.Printed.{Prints, PrintsAt, Own, IsSpelled, at_end, token_printed, mapped_prints, seq_prints, optional_prints, placed_prints, behind_mark, before_mark, begins_behind, own_seq}

-- ---- events

abbrev EventRest : Type 0
EventRest = Term × Option (List Word)

abbrev event_rest : Grammar EventRest
event_rest = term ∙∙ optional (mark AndAndAnd ▸ condition)

abbrev put_event_rest : EventRest → Tokens → Tokens
put_event_rest x out = put_optional put_held x.1 (put_term x.0 out)

held_prints : Prints (optional (mark AndAndAnd ▸ condition)).language (put_optional put_held)
held_prints = optional_prints _ _ (behind_mark AndAndAnd condition.language _ condition_prints)

event_rest_prints : Prints event_rest.language put_event_rest
event_rest_prints = seq_prints term (optional (mark AndAndAnd ▸ condition)).language _ _ term-exact term_prints held_prints

event_rest_own : Own event_rest.language put_event_rest
event_rest_own = own_seq term (optional (mark AndAndAnd ▸ condition)).language _ _ term-exact refl term_prints held_prints term_own

abbrev put_event_parts : Place → Option EdgeWord × EventRest → Tokens → Tokens
put_event_parts p x out = put_optional put_held x.1.1 (put_event_term p x.0 x.1.0 out)

-- an event's place is that of its edge, or of its term
event_first : PrintsAt (optional check_edge ∙∙ event_rest).language put_event_parts
event_first p (None, y) (ts, i, j, (t, at, place, (m, s, u))) out =
    let there : slice_get (map lexeme ts) m ≡ Some t = subst (λ (k : ℕ). slice_get (map lexeme ts) k ≡ Some t) (sym s) at in
    let new = put_event_rest y out in (
      printing.appends_seq kind_of (optional check_edge) event_rest.language (perhaps check_edge-exact refl) out out new None y (printing.appends_none check_edge.language out) (event_rest_prints y (ts, m, j, u) out),
      event_rest_own.begins p y (ts, m, j, (t, there, place, u)) out,
    )
event_first p (Some e, y) (ts, i, j, (t, at, place, (m, s, u))) out =
    let mid = put_edge p e out in
    let f = check_edge_first p e (ts, i, m, (t, at, place, s)) out in
    let q = event_rest_prints y (ts, m, j, u) mid in (
      printing.appends_seq kind_of (optional check_edge) event_rest.language (perhaps check_edge-exact refl) out mid (put_event_rest y mid) (Some e) y (printing.appends_some check_edge.language out mid e f.0) q,
      begins_behind event_rest.language p out mid (put_event_rest y mid) y (starts_so kind_of check_edge check_edge-exact refl mid (length out) e (length mid) f.0.spells).0 f.1 q,
    )

event_prints : Prints event.language put_event
unfolding event_parts
event_prints = placed_prints _ _ _ put_event event_first (λ x out. refl)

-- ---- arguments that may be missing

-- nothing is put where the argument is missing
missing_printed : {A : Type 0} (missing : A) (a : Grammar A) (out : Tokens) → Appends (trailing missing a).language out out missing
missing_printed missing a out = printing.appends_mapped (λ o. unwrap_or o missing) (optional (mark Comma ▸ a)).language out out None (printing.appends_none (mark Comma ▸ a).language out)

put_as_nothing : {A : Type 0} (missing : A) (a : Grammar A) (put : A → Tokens → Tokens) (out : Tokens) → put missing out ≡ out → Appends (trailing missing a).language out (put missing out) missing
put_as_nothing missing a put out nothing = rw nothing (missing_printed missing a out)

-- anything else is put behind a comma
there_printed : {A : Type 0} (missing : A) (a : Grammar A) (put put_a : A → Tokens → Tokens) → Prints a.language put_a → ((out : Tokens) → put missing out ≡ out)
    → (x : A) → IsSpelled (mark Comma ▸ a).language x → (out : Tokens) → (x ≡ missing) ⊎ ((out : Tokens) → put x out ≡ put_a x (put_mark Comma out)) → Appends (trailing missing a).language out (put x out) x
there_printed missing a put put_a prints nothing x spelled out (inl same) = subst (λ z. Appends (trailing missing a).language out (put z out) z) (sym same) (put_as_nothing missing a put out (nothing out))
there_printed missing a put put_a prints nothing x spelled out (inr same) =
    let new = put_a x (put_mark Comma out) in
    let some = printing.appends_some (mark Comma ▸ a).language out new x (behind_mark Comma a.language put_a prints x spelled out) in
    rw (same out) (printing.appends_mapped (λ o. unwrap_or o missing) (optional (mark Comma ▸ a)).language out new (Some x) some)

trailing_prints : {A : Type 0} (missing : A) (a : Grammar A) (put put_a : A → Tokens → Tokens) → Prints a.language put_a → ((out : Tokens) → put missing out ≡ out)
    → ((x : A) → (x ≡ missing) ⊎ ((out : Tokens) → put x out ≡ put_a x (put_mark Comma out))) → Prints (trailing missing a).language put
trailing_prints missing a put put_a prints nothing something y (ts, i, j, (None, e, s)) out =
    subst (λ z. Appends (trailing missing a).language out (put z out) z) e (put_as_nothing missing a put out (nothing out))
trailing_prints missing a put put_a prints nothing something y (ts, i, j, (Some x, e, s)) out =
    subst (λ z. Appends (trailing missing a).language out (put z out) z) e (there_printed missing a put put_a prints nothing x (ts, i, j, s) out (something x))

a_name : (x : Option Named) → (x ≡ None) ⊎ ((out : Tokens) → put_notifier x out ≡ put_optional put_name x (put_mark Comma out))
a_name None = inl refl
a_name (Some n) = inr (λ out. refl)

optional_name_prints : Prints (optional name).language (put_optional put_name)
optional_name_prints = optional_prints name.language put_name name_prints

trailing_name_prints : Prints trailing_name.language put_notifier
trailing_name_prints = trailing_prints None (optional name) put_notifier (put_optional put_name) optional_name_prints (λ out. refl) a_name

-- ---- a threshold and a notifier

abbrev Trailing : Type 0
Trailing = Option Limit × Option Named

abbrev put_trailing : Trailing → Tokens → Tokens
put_trailing x out = put_threshold_and_notifier x.0 x.1 out

abbrev put_both : Trailing → Tokens → Tokens
put_both x out = put_notifier x.1 (put_optional put_limit x.0 out)

both_print : Prints (optional (limit false) ∙∙ trailing_name).language put_both
both_print = seq_prints (optional (limit false)) trailing_name.language _ _ (perhaps (limit-exact false) refl) (optional_prints _ _ (limit_prints false)) trailing_name_prints

one_of_both : (x : Trailing) → (x ≡ (None, None)) ⊎ ((out : Tokens) → put_trailing x out ≡ put_both x (put_mark Comma out))
one_of_both (None, None) = inl refl
one_of_both (Some t, n) = inr (λ out. refl)
one_of_both (None, Some n) = inr (λ out. refl)

threshold_and_notifier_print : Prints threshold_and_notifier.language put_trailing
threshold_and_notifier_print = trailing_prints (None, None) (optional (limit false) ∙∙ trailing_name) put_trailing put_both both_print (λ out. refl) one_of_both

-- ---- delayed signals, and what stands before them

abbrev put_signals : Delayed → Tokens → Tokens
put_signals x out = put_delayed x.0 x.1 out

abbrev put_names : Delayed → Tokens → Tokens
put_names x out = put_notifier x.1 (put_optional put_name x.0 out)

names_print : Prints (optional name ∙∙ trailing_name).language put_names
names_print = seq_prints (optional name) trailing_name.language _ _ (perhaps name-exact refl) optional_name_prints trailing_name_prints

one_of_names : (x : Delayed) → (x ≡ (None, None)) ⊎ ((out : Tokens) → put_signals x out ≡ put_names x (put_mark Comma out))
one_of_names (None, None) = inl refl
one_of_names (Some r, d) = inr (λ out. refl)
one_of_names (None, Some d) = inr (λ out. refl)

delayed_signals_print : Prints delayed_signals.language put_signals
delayed_signals_print = trailing_prints (None, None) (optional name ∙∙ trailing_name) put_signals put_names names_print (λ out. refl) one_of_names

-- no token is put where none may stand
no_spare : (limited : Bool) (out : Tokens) → Appends (spare limited).language out out tt
no_spare limited out = printing.appends_mapped (λ _. tt) (optional (only_if (not limited) (quoted kind_of fills))).language out out None (printing.appends_none (only_if (not limited) (quoted kind_of fills)).language out)

behind_spare : {A : Type 0} (limited : Bool) (b : Grammar A) (put : A → Tokens → Tokens) → Prints b.language put → Prints (spare limited ▸ b).language put
behind_spare limited b put prints y (ts, i, j, ((u, x), e, (m, h, s))) out =
    subst (λ z. Appends (spare limited ▸ b).language out (put z out) z) e
    (printing.appends_mapped (λ (x : Unit {0} × _). x.1) (sequence (spare limited).language b.language) out (put x out) (tt, x)
    (printing.appends_seq kind_of (spare limited) b.language (spare-exact limited) out out (put x out) tt x (no_spare limited out) (prints x (ts, m, j, s) out)))

-- the commas before them, where one is there
abbrev put_checktime : Option Named → Option Named → Tokens → Tokens
put_checktime None None out = out
put_checktime (Some r) d out = put_delayed (Some r) d (put_mark Comma out)
put_checktime None (Some d) out = put_delayed None (Some d) (put_mark Comma out)

abbrev put_from_checktime : Delayed → Tokens → Tokens
put_from_checktime x out = put_checktime x.0 x.1 out

abbrev put_stamptime : Option Named → Option Named → Tokens → Tokens
put_stamptime None None out = out
put_stamptime (Some r) d out = put_checktime (Some r) d (put_mark Comma out)
put_stamptime None (Some d) out = put_checktime None (Some d) (put_mark Comma out)

abbrev put_from_stamptime : Delayed → Tokens → Tokens
put_from_stamptime x out = put_stamptime x.0 x.1 out

one_at_checktime : (x : Delayed) → (x ≡ (None, None)) ⊎ ((out : Tokens) → put_from_checktime x out ≡ put_signals x (put_mark Comma out))
one_at_checktime (None, None) = inl refl
one_at_checktime (Some r, d) = inr (λ out. refl)
one_at_checktime (None, Some d) = inr (λ out. refl)

one_at_stamptime : (x : Delayed) → (x ≡ (None, None)) ⊎ ((out : Tokens) → put_from_stamptime x out ≡ put_from_checktime x (put_mark Comma out))
one_at_stamptime (None, None) = inl refl
one_at_stamptime (Some r, d) = inr (λ out. refl)
one_at_stamptime (None, Some d) = inr (λ out. refl)

from_checktime_prints : (limited : Bool) → Prints (from_checktime limited).language put_from_checktime
from_checktime_prints limited =
    trailing_prints (None, None) (spare limited ▸ delayed_signals) put_from_checktime put_signals (behind_spare limited delayed_signals put_signals delayed_signals_print) (λ out. refl) one_at_checktime

from_stamptime_prints : (limited : Bool) → Prints (from_stamptime limited).language put_from_stamptime
from_stamptime_prints limited =
    trailing_prints (None, None) (spare limited ▸ from_checktime limited) put_from_stamptime put_from_checktime (behind_spare limited (from_checktime limited) put_from_checktime (from_checktime_prints limited)) (λ out. refl) one_at_stamptime

-- ---- a notifier and what stands behind it

abbrev Last : Type 0
Last = Option Named × Delayed

abbrev put_last : Last → Tokens → Tokens
put_last x out = put_last_arguments x.0 x.1.0 x.1.1 out

abbrev put_name_and_rest : Last → Tokens → Tokens
put_name_and_rest x out = put_from_stamptime x.1 (put_optional put_name x.0 out)

one_of_last : (x : Last) → (x ≡ (None, (None, None))) ⊎ ((out : Tokens) → put_last x out ≡ put_name_and_rest x (put_mark Comma out))
one_of_last (None, (None, None)) = inl refl
one_of_last (Some n, (None, None)) = inr (λ out. refl)
one_of_last (n, (Some r, d)) = inr (λ out. refl)
one_of_last (n, (None, Some d)) = inr (λ out. refl)

last_arguments_print : (limited : Bool) → Prints (last_arguments limited).language put_last
last_arguments_print limited =
    let all = seq_prints (optional name) (from_stamptime limited).language _ _ (perhaps name-exact refl) optional_name_prints (from_stamptime_prints limited) in
    trailing_prints (None, (None, None)) (optional name ∙∙ from_stamptime limited) put_last put_name_and_rest all (λ out. refl) one_of_last

-- ---- the arguments of each check

one_limit_same : (p : Place) (c : OneLimitCheck) (a b : Event) (l : Limit) (n : Option Named) (out : Tokens) → put_arguments (between p c a b l n) out ≡ put_notifier n (put_next_limit l (put_events a b out))
one_limit_same p Setup a b l n out = refl
one_limit_same p Hold a b l n out = refl
one_limit_same p Recovery a b l n out = refl
one_limit_same p Removal a b l n out = refl
one_limit_same p Skew a b l n out = refl

arguments_of_print : (limited : Bool) (p : Place) (name : CheckName) → Prints (arguments_of limited p name).language put_arguments
arguments_of_print limited p (OneLimit c) =
    let limits = behind_mark Comma (limit false ∙∙ trailing_name).language _ (seq_prints (limit false) trailing_name.language _ _ (limit-exact false) (limit_prints false) trailing_name_prints) in
    let second = behind_mark Comma (event ∙∙ (mark Comma ▸ (limit false ∙∙ trailing_name))).language _ (seq_prints event (mark Comma ▸ (limit false ∙∙ trailing_name)).language _ _ event-exact event_prints limits) in
    let all = seq_prints event (mark Comma ▸ (event ∙∙ (mark Comma ▸ (limit false ∙∙ trailing_name)))).language _ _ event-exact event_prints second in
    mapped_prints _ _ _ put_arguments all (λ x out. one_limit_same p c x.0 x.1.0 x.1.1.0 x.1.1.1 out)
arguments_of_print limited p (TwoLimits c) =
    let last = behind_mark Comma (limit true ∙∙ last_arguments limited).language _ (seq_prints (limit true) (last_arguments limited).language _ _ (limit-exact true) (limit_prints true) (last_arguments_print limited)) in
    let limits = behind_mark Comma (limit true ∙∙ (mark Comma ▸ (limit true ∙∙ last_arguments limited))).language _ (seq_prints (limit true) (mark Comma ▸ (limit true ∙∙ last_arguments limited)).language _ _ (limit-exact true) (limit_prints true) last) in
    let second = behind_mark Comma (event ∙∙ (mark Comma ▸ (limit true ∙∙ (mark Comma ▸ (limit true ∙∙ last_arguments limited))))).language _ (seq_prints event (mark Comma ▸ (limit true ∙∙ (mark Comma ▸ (limit true ∙∙ last_arguments limited)))).language _ _ event-exact event_prints limits) in
    let all = seq_prints event (mark Comma ▸ (event ∙∙ (mark Comma ▸ (limit true ∙∙ (mark Comma ▸ (limit true ∙∙ last_arguments limited)))))).language _ _ event-exact event_prints second in
    mapped_prints _ _ _ put_arguments all (λ x out. refl)
arguments_of_print limited p Width =
    let limits = behind_mark Comma (limit false ∙∙ threshold_and_notifier).language _ (seq_prints (limit false) threshold_and_notifier.language _ _ (limit-exact false) (limit_prints false) threshold_and_notifier_print) in
    mapped_prints _ _ _ put_arguments (seq_prints event (mark Comma ▸ (limit false ∙∙ threshold_and_notifier)).language _ _ event-exact event_prints limits) (λ x out. refl)
arguments_of_print limited p Period =
    let limits = behind_mark Comma (limit false ∙∙ trailing_name).language _ (seq_prints (limit false) trailing_name.language _ _ (limit-exact false) (limit_prints false) trailing_name_prints) in
    mapped_prints _ _ _ put_arguments (seq_prints event (mark Comma ▸ (limit false ∙∙ trailing_name)).language _ _ event-exact event_prints limits) (λ x out. refl)

arguments_print : (limited : Bool) (p : Place) (name : CheckName) → Prints (arguments limited p name).language put_in_parens
unfolding arguments_parts
arguments_print limited p name =
    let closed = before_mark RightParen (arguments_of limited p name) put_arguments (arguments_of-exact limited p name) (arguments_of_print limited p name) in
    behind_mark LeftParen (arguments_of limited p name ◂ mark RightParen).language _ closed

-- ---- a check has the name and the place that its arguments are of

abbrev IsOf : Place → CheckName → Check → Type 0
IsOf p name c = (place_of_check c ≡ p) × (name_of_check c ≡ name)

between_is_of : (p : Place) (c : OneLimitCheck) (a b : Event) (l : Limit) (n : Option Named) → IsOf p (OneLimit c) (between p c a b l n)
between_is_of p Setup a b l n = (refl, refl)
between_is_of p Hold a b l n = (refl, refl)
between_is_of p Recovery a b l n = (refl, refl)
between_is_of p Removal a b l n = (refl, refl)
between_is_of p Skew a b l n = (refl, refl)

value_is_of : (limited : Bool) (p : Place) (name : CheckName) (ts : Tokens) (i : ℕ) (c : Check) (j : ℕ) → (arguments_of limited p name).language.Spells ts i c j → IsOf p name c
value_is_of limited p (OneLimit k) ts i c j (x, e, s) = subst (λ (d : Check). IsOf p (OneLimit k) d) e (between_is_of p k x.0 x.1.0 x.1.1.0 x.1.1.1)
value_is_of limited p (TwoLimits k) ts i c j (x, e, s) = subst (λ (d : Check). IsOf p (TwoLimits k) d) e (refl, refl)
value_is_of limited p Width ts i c j (x, e, s) = subst (λ (d : Check). IsOf p Width d) e (refl, refl)
value_is_of limited p Period ts i c j (x, e, s) = subst (λ (d : Check). IsOf p Period d) e (refl, refl)

is_of : (limited : Bool) (p : Place) (name : CheckName) (ts : Tokens) (i : ℕ) (c : Check) (j : ℕ) → (arguments limited p name).language.Spells ts i c j → IsOf p name c
unfolding arguments_parts
is_of limited p name ts i c j ((u, y), e, (m, h, ((z, v), f, (k, s, r)))) = subst (λ (d : Check). IsOf p name d) (f ∙ e) (value_is_of limited p name ts m z k s)

-- ---- checks

name_is : (name : CheckName) → check_of_meaning (system_token (check_text name)) ≡ name
unfolding check_rows
name_is (OneLimit Setup) = refl
name_is (OneLimit Hold) = refl
name_is (OneLimit Recovery) = refl
name_is (OneLimit Removal) = refl
name_is (OneLimit Skew) = refl
name_is (TwoLimits SetupHold) = refl
name_is (TwoLimits RecRem) = refl
name_is Width = refl
name_is Period = refl

name_is_check : (name : CheckName) → is_check (kind_of_meaning (system_token (check_text name))) ≡ true
unfolding check_rows
name_is_check (OneLimit Setup) = refl
name_is_check (OneLimit Hold) = refl
name_is_check (OneLimit Recovery) = refl
name_is_check (OneLimit Removal) = refl
name_is_check (OneLimit Skew) = refl
name_is_check (TwoLimits SetupHold) = refl
name_is_check (TwoLimits RecRem) = refl
name_is_check Width = refl
name_is_check Period = refl

name_printed : (p : Place) (name : CheckName) (out : Tokens) → Appends (placed check_name).language out (put_token (system_token (check_text name)) p out) (p, name)
name_printed p name out =
    let t : Lexeme = record { meaning = system_token (check_text name); place = p } in
    let q = token_printed (λ t. check_of_meaning t.meaning) is_check (system_token (check_text name)) p name out (name_is name) (name_is_check name) in
    record { more = q.more; is = q.is; spells = (t, at_end out t, refl, q.spells) }

check_printed : (limited : Bool) (p : Place) (name : CheckName) (c : Check) → (ts : List Token) (i j : ℕ) → (arguments limited p name).language.Spells (map lexeme ts) i c j → (out : Tokens)
    → Appends (check limited).language out (put_in_parens c (put_token (system_token (check_text name)) p out)) c
unfolding check_parts
check_printed limited p name c ts i j s out =
    let mid = put_token (system_token (check_text name)) p out in
    let new = put_in_parens c mid in
    let r = printing.appends_seq kind_of (placed check_name) (arguments limited p name).language (with_place check_name-exact refl) out mid new (p, name) c (name_printed p name out) (arguments_print limited p name c (ts, i, j, s) mid) in
    record { more = r.more; is = r.is; spells = (((p, name), c), refl, r.spells) }

pub check_prints : (limited : Bool) → Prints (check limited).language put_check
unfolding check_parts
check_prints limited c (ts, i, j, (((p, name), d), e, (m, h, s))) out =
    let same = is_of limited p name (map lexeme ts) m d j s in
    let with_name = subst (λ (k : CheckName). Appends (check limited).language out (put_in_parens d (put_token (system_token (check_text k)) p out)) d) (sym same.1) (check_printed limited p name d ts m j s out) in
    let with_place = subst (λ (q : Place). Appends (check limited).language out (put_in_parens d (put_token (system_token (check_text (name_of_check d))) q out)) d) (sym same.0) with_name in
    subst (λ (z : Check). Appends (check limited).language out (put_check z out) z) e with_place
