-- A condition without the parentheses round it is one.
use Rattle.std.specs.Prelude.{◌≡◌, ℕ, zero, suc, ◌+◌, ◌==◌, Bool, true, false, List, [], ◌∷◌, ◌++◌, ◌⊎◌, Option, Some, None, unwrap_or, if◌then◌else◌}
use Rattle.std.specs.List.{AllByRecursion}
use Rattle.std.proofs.Common.{refl, sym, ap, ◌∙◌, subst, arith, inl, inr}
use Rattle.std.proofs.lemmas.Bool.{eqb-true}
use Rattle.std.proofs.lemmas.List.Elements.{All-from_recursion}
use Rattle.cond_expr.specs.declared.scan.Phase.{Phase}
use Rattle.cond_expr.specs.declared.scan.Phase.TheVariants.{Operand, Name, Whole}
use Rattle.cond_expr.specs.declared.tokens.Tok.TheVariants as tok
use Rattle.cond_expr.specs.Grammar.{IsCondition}
use Rattle.cond_expr.specs.Kinds.{is_prefix, precedence}
use Rattle.cond_expr.specs.Token.{Tok}
use Rattle.cond_expr.proofs.AnyDepth.{verdict_is}
use Rattle.cond_expr.proofs.Scanning.{go_on, scan}
use Rattle.cond_expr.specs.Same.{in_parentheses, IsBalanced, IsCore}
use Rattle.annotation_model.specs.Same.{bare, is_balanced, is_zero, open_after, open_behind}
use Rattle.annotation_conditions.proofs.BalanceLaws.{counted_if_balanced}
use Rattle.annotation_conditions.proofs.SameLaws.{bare_is_core}
use Rattle.written_reading.specs.Named.{IsWord, IsWrittenCondition}

-- ---- the scan between two parentheses

never : (i : ℕ) → ◌≡◌ {A = Option ℕ} (Some i) None → ⊥
never i e = absurd cc

abbrev end : List Tok
end = tok.Right ∷ []

closed_none : (ts : List Tok) → open_behind None ts ≡ None
closed_none [] = refl
closed_none (t ∷ ts) = closed_none ts

none_open : (ts : List Tok) (n : ℕ) → open_behind None ts ≡ Some n → ⊥
none_open ts n e = never n (sym e ∙ closed_none ts)

by_prefix : (b : Bool) (i j open_ones : ℕ) (ts : List Tok) → (scan (ts ++ end) (i + 1) (suc open_ones) Operand ≡ None → scan ts (j + 1) open_ones Operand ≡ None)
    → go_on (if b then Some (suc open_ones, Operand) else None) (λ o p. scan (ts ++ end) (i + 1) o p) i ≡ None → go_on (if b then Some (open_ones, Operand) else None) (λ o p. scan ts (j + 1) o p) j ≡ None
by_prefix true i j n ts more h = more h
by_prefix false i j n ts more h = absurd (never i h)

by_infix : (b : Bool) (i j open_ones : ℕ) (ts : List Tok) → (scan (ts ++ end) (i + 1) (suc open_ones) Operand ≡ None → scan ts (j + 1) open_ones Operand ≡ None)
    → go_on (if b then None else Some (suc open_ones, Operand)) (λ o p. scan (ts ++ end) (i + 1) o p) i ≡ None → go_on (if b then None else Some (open_ones, Operand)) (λ o p. scan ts (j + 1) o p) j ≡ None
by_infix true i j n ts more h = absurd (never i h)
by_infix false i j n ts more h = more h

-- what passes with one parenthesis more, and its end, passes without
inner_passes : (ts : List Tok) (i j open_ones : ℕ) (phase : Phase) → open_behind (Some open_ones) ts ≡ Some 0 → scan (ts ++ end) i (suc open_ones) phase ≡ None → scan ts j open_ones phase ≡ None
inner_passes [] i j open_ones phase e h = at open_ones phase e h
  where
    at : (n : ℕ) (p : Phase) → ◌≡◌ {A = Option ℕ} (Some n) (Some 0) → scan end i (suc n) p ≡ None → scan [] j n p ≡ None
    at n Operand e h = absurd (never i h)
    at zero Name e h = refl
    at zero Whole e h = refl
    at (suc n) Name e h = absurd cc
    at (suc n) Whole e h = absurd cc
inner_passes (tok.Name name ∷ ts) i j n Operand e h = inner_passes ts (i + 1) (j + 1) n Name e h
inner_passes (tok.Name name ∷ ts) i j n Name e h = absurd (never i h)
inner_passes (tok.Name name ∷ ts) i j n Whole e h = absurd (never i h)
inner_passes (tok.Index index ∷ ts) i j n Operand e h = absurd (never i h)
inner_passes (tok.Index index ∷ ts) i j n Name e h = inner_passes ts (i + 1) (j + 1) n Whole e h
inner_passes (tok.Index index ∷ ts) i j n Whole e h = absurd (never i h)
inner_passes (tok.Const value ∷ ts) i j n Operand e h = inner_passes ts (i + 1) (j + 1) n Whole e h
inner_passes (tok.Const value ∷ ts) i j n Name e h = absurd (never i h)
inner_passes (tok.Const value ∷ ts) i j n Whole e h = absurd (never i h)
inner_passes (tok.Left ∷ ts) i j n Operand e h = inner_passes ts (i + 1) (j + 1) (suc n) Operand e h
inner_passes (tok.Left ∷ ts) i j n Name e h = absurd (never i h)
inner_passes (tok.Left ∷ ts) i j n Whole e h = absurd (never i h)
inner_passes (tok.Right ∷ ts) i j n Operand e h = absurd (never i h)
inner_passes (tok.Right ∷ ts) i j zero Name e h = absurd (none_open ts 0 e)
inner_passes (tok.Right ∷ ts) i j zero Whole e h = absurd (none_open ts 0 e)
inner_passes (tok.Right ∷ ts) i j (suc n) Name e h = inner_passes ts (i + 1) (j + 1) n Whole e h
inner_passes (tok.Right ∷ ts) i j (suc n) Whole e h = inner_passes ts (i + 1) (j + 1) n Whole e h
inner_passes (tok.Op op ∷ ts) i j n Operand e h = by_prefix (is_prefix op) i j n ts (λ k. inner_passes ts (i + 1) (j + 1) n Operand e k) h
inner_passes (tok.Op op ∷ ts) i j n Name e h = by_infix (precedence op == 0) i j n ts (λ k. inner_passes ts (i + 1) (j + 1) n Operand e k) h
inner_passes (tok.Op op ∷ ts) i j n Whole e h = by_infix (precedence op == 0) i j n ts (λ k. inner_passes ts (i + 1) (j + 1) n Operand e k) h

-- ---- conditions

passes : (ts : List Tok) → IsCondition ts → scan ts 0 0 Operand ≡ None
passes ts c = by (scan ts 0 0 Operand) refl
  where
    by : (o : Option ℕ) → scan ts 0 0 Operand ≡ o → o ≡ None
    by None e = refl
    by (Some i) e = absurd ((verdict_is ts (Some i) e).none c.0 c.1)

abbrev IsClosed : List Tok → Type 0
IsClosed ts = open_behind (Some 0) ts ≡ Some 0

closed_of : (ts : List Tok) → is_balanced ts ≡ true → IsClosed ts
closed_of ts balanced = by (open_behind (Some 0) ts) balanced
  where
    by : (o : Option ℕ) → is_zero o ≡ true → o ≡ Some 0
    by None e = absurd cc
    by (Some n) e = ap Some (eqb-true n 0 e)

-- what stands between parentheses that close each other
inner_condition : (ts : List Tok) → IsClosed ts → IsCondition (in_parentheses 1 ts) → IsCondition ts
inner_condition ts closed c = verdict_is ts None (inner_passes ts 1 0 0 Operand closed (passes (in_parentheses 1 ts) c))

-- ---- what is closed stays so in parentheses

open_more : (ts : List Tok) (m n : ℕ) → open_behind (Some m) ts ≡ Some n → open_behind (Some (suc m)) ts ≡ Some (suc n)
open_more [] m n e = (let same : m ≡ n = ap (λ o. unwrap_or o m) e in ap (λ k. Some (suc k)) same)
open_more (tok.Name name ∷ ts) m n e = open_more ts m n e
open_more (tok.Index index ∷ ts) m n e = open_more ts m n e
open_more (tok.Const value ∷ ts) m n e = open_more ts m n e
open_more (tok.Op op ∷ ts) m n e = open_more ts m n e
open_more (tok.Left ∷ ts) m n e = open_more ts (suc m) n e
open_more (tok.Right ∷ ts) zero n e = absurd (none_open ts n e)
open_more (tok.Right ∷ ts) (suc m) n e = open_more ts m n e

open_append : (xs ys : List Tok) (o : Option ℕ) → open_behind o (xs ++ ys) ≡ open_behind (open_behind o xs) ys
open_append [] ys o = refl
open_append (x ∷ xs) ys o = open_append xs ys (open_after o x)

closed_within : (n : ℕ) (ts : List Tok) → IsClosed ts → IsClosed (in_parentheses n ts)
closed_within zero ts closed = closed
closed_within (suc n) ts closed =
    let inner = in_parentheses n ts in
    open_append inner end (Some 1) ∙ ap (λ o. open_behind o end) (open_more inner 0 0 (closed_within n ts closed))

-- ---- conditions and their words

pub record IsSpelled (ts : List Tok) : Type 0 where
  pub condition : IsCondition ts
  pub words : AllByRecursion IsWord ts

pub spelled_written : (ts : List Tok) → IsSpelled ts → IsWrittenCondition ts
spelled_written ts h = record { condition = h.condition; words = All-from_recursion IsWord ts h.words }

front_of : (P : Tok → Type 0) (xs ys : List Tok) → AllByRecursion P (xs ++ ys) → AllByRecursion P xs
front_of P [] ys h = tt
front_of P (x ∷ xs) ys h = (h.0, front_of P xs ys h.1)

inner_spelled : (ts : List Tok) → IsClosed ts → IsSpelled (in_parentheses 1 ts) → IsSpelled ts
inner_spelled ts closed h = record { condition = inner_condition ts closed h.condition; words = front_of IsWord ts end h.words.1 }

within_spelled : (n : ℕ) (ts : List Tok) → (n ≡ 0) ⊎ IsClosed ts → IsSpelled (in_parentheses n ts) → IsSpelled ts
within_spelled zero ts closed h = h
within_spelled (suc n) ts (inl z) h = absurd (omega (arith, z))
within_spelled (suc n) ts (inr closed) h = within_spelled n ts (inr closed) (inner_spelled (in_parentheses n ts) (closed_within n ts closed) h)

pub bare_spelled : (ts : List Tok) → IsSpelled ts → IsSpelled (bare ts)
bare_spelled ts h = within_spelled core.pairs (bare ts) (closed core.balanced) (subst IsSpelled core.is h)
  where
    core : IsCore ts (bare ts)
    core = bare_is_core ts

    closed : (core.pairs ≡ 0) ⊎ IsBalanced (bare ts) → (core.pairs ≡ 0) ⊎ IsClosed (bare ts)
    closed (inl z) = inl z
    closed (inr b) = inr (closed_of (bare ts) (counted_if_balanced (bare ts) b))
