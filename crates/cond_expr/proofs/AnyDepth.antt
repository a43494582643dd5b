-- The scan finds the first token with which no condition of any depth begins.
use Rattle.std.proofs.Common.{◌≡◌, ℕ, zero, suc, ◌<◌, ◌≤◌, false, List, length, Option, Some, None, Result, Ok, Err, refl, sym, subst, ◌∙◌, arith, inl, inr}
use Rattle.std.specs.Prelude.{◌⊎◌, slice_get, ◌==◌}
use Rattle.std.proofs.lemmas.Bool.{cases_Bool, eqb-true}
use Rattle.std.proofs.lemmas.Option.{slice_get_within, slice_get_cases}
use Rattle.grammar.specs.Depth.{Within}
use Rattle.grammar.specs.Exact.{Exact}
use Rattle.grammar.specs.Rule.{read_all}
use Rattle.grammar.proofs.Deepening.{grows, deepening-exact}
use Rattle.grammar.proofs.Many.{many-exact}
use Rattle.grammar.proofs.Mapped.{mapped-exact}
use Rattle.grammar.proofs.One.{one-exact}
use Rattle.grammar.proofs.Whole.{all_failed, one_value, one_failing as one_fails}
use Rattle.grammar.proofs.Within.{same_within, mapped_within, named_within, either_within, seq_within, behind_within, many_within}
use Rattle.cond_expr.specs.Token.{Tok}
use Rattle.cond_expr.specs.declared.scan.Phase.TheVariants.{Operand, Whole}
use Rattle.cond_expr.specs.Kinds.{Kind, name_kind, index_kind, constant_kind, left_kind, right_kind, operator_kind, kind_of, is_left, is_right, is_unary, is_binary, is_binary_up_to, operator_of}
use Rattle.cond_expr.specs.Tree.{Cond, unary, chain_of}
use Rattle.cond_expr.specs.Grammar.{operator, quoted, atom, primary_starts, level_continues, level_parts, level, primary_parts, primary, expression, condition, FailsConditionAt, FirstFault}
use Rattle.cond_expr.specs.ScanSteps.{step}
use Rattle.cond_expr.proofs.Scanning.{scan}
use Rattle.cond_expr.specs.Exactness.{quoted-exact, level_apart, operation-exact, level-exact, primary-exact, expression-exact}
use Rattle.cond_expr.proofs.Scanned.{fault, fault-none, stops_at, level-scans, primary-scans, level_stops, step_no_more}

-- ---- more depth says more, and a few tokens need no more depth than they are

level_exact : (d n : ℕ) → Exact kind_of (level n (primary d))
level_exact d n = level-exact (primary d) (primary-exact d) refl (λ k p. p) (λ k p. p) n

level_within : (few n d e : ℕ) → Within few (primary d) (primary e) → Within few (level n (primary d)) (level n (primary e))
unfolding level_parts
level_within few zero d e w = named_within few _ _ _ _ (primary d) (primary e) w
level_within few (suc n) d e w =
    let t = level_within few n d e w in
    let x = level_exact d n in
    let op = operator (is_binary (suc n)) in
    let more = operation-exact (primary d) (primary-exact d) refl (λ k p. p) (λ k p. p) n x in
    named_within few _ _ _ _ _ _ (mapped_within few (λ x. chain_of x.0 x.1) _ _ (seq_within kind_of few (level n (primary d)) (level n (primary e)) _ _ x (many-exact kind_of _ more refl (level_apart n)) t
    (many_within kind_of few _ _ more (seq_within kind_of few op op (level n (primary d)) (level n (primary e)) (mapped-exact kind_of operator_of _ (one-exact kind_of (is_binary (suc n)))) x (same_within few op) t))))

least : (few e : ℕ) → Within few (primary 0) (primary (suc e))
unfolding primary_parts
least few e = record { spells = λ ts i x j le s. inl s; begins = λ ts i j le b. inl b }

-- a parenthesis and a unary operator take a token
step_within : (few d e : ℕ) → Within few (primary d) (primary e) → Within (suc few) (primary (suc d)) (primary (suc e))
unfolding primary_parts
step_within few d e w =
    let inside = seq_within kind_of few (level 6 (primary d)) (level 6 (primary e)) (quoted is_right) (quoted is_right) (level_exact d 6) (quoted-exact is_right) (level_within few 6 d e w) (same_within few (quoted is_right)) in
    named_within (suc few) _ _ _ _ _ _ (either_within kind_of (suc few) atom atom _ _ (same_within (suc few) atom) (either_within kind_of (suc few) _ _ _ _
    (mapped_within (suc few) (λ x. x.1) _ _ (behind_within kind_of few (quoted is_left) _ _ (quoted-exact is_left) refl (mapped_within few (λ x. x.0) _ _ inside)))
    (mapped_within (suc few) (λ x. unary x.0 x.1) _ _ (behind_within kind_of few (operator is_unary) (primary d) (primary e) (mapped-exact kind_of operator_of _ (one-exact kind_of is_unary)) refl w))))

expression_within : (few d e : ℕ) → (d ≤ e) ⊎ (few ≤ e) → Within few (expression d) (expression e)
expression_within few d e h = level_within few 6 d e (grows kind_of primary primary-exact (λ _. refl) least step_within few d e h)

pub condition-exact : Exact kind_of condition
condition-exact = deepening-exact kind_of expression expression-exact (λ _. refl) primary_starts (level_continues 6) (λ d k p. p) (λ d k p. p) expression_within

-- ---- all tokens

-- where no parenthesis is open, none can be closed
no_step : (k : Kind) → is_binary_up_to 6 k ≡ false → step 0 Whole k ≡ None
no_step right_kind p = refl
no_step name_kind p = refl
no_step index_kind p = refl
no_step constant_kind p = refl
no_step left_kind p = refl
no_step (operator_kind o) p = step_no_more 0 (operator_kind o) p refl

differs : (m n : ℕ) → m < n → (m == n) ≡ false
differs m n lt = elim (cases_Bool (m == n)) [ inl e ↦ absurd (omega (arith, lt, eqb-true m n e)) | inr e ↦ e ]

module _ (ts : List Tok) where
  abbrev found : Option ℕ
  found = scan ts 0 0 Operand

  abbrev deep : ℕ
  deep = length ts

  -- where reading ends with a condition, the scan ends too, or fails at the next token
  after_condition : (c : Cond ℕ) (j : ℕ) → condition.read ts 0 ≡ Ok (c, j) → ((j ≡ length ts) × (found ≡ None)) ⊎ ((j < length ts) × (found ≡ Some j))
  after_condition c j r = go (slice_get ts j) refl
    where
      there : found ≡ fault ts j 0 Whole
      there = (level-scans ts deep (primary-scans ts deep) 6 0 (omega arith)).passes c j r 0

      within : j ≤ length ts
      within = condition-exact.within ts 0 j (condition-exact.whole ts 0 c j (condition-exact.found ts 0 c j r).0) (omega arith)

      ends : slice_get ts j ≡ None → j ≡ length ts
      ends e = elim (slice_get_cases ts j).1 [
        | inl p ↦ absurd (let f : None ≡ Some p.0 = sym e ∙ p.2 in cc)
        | inr p ↦ omega (arith, p.0, within)
      ]

      go : (o : Option Tok) → slice_get ts j ≡ o → ((j ≡ length ts) × (found ≡ None)) ⊎ ((j < length ts) × (found ≡ Some j))
      go None e = inl (ends e, there ∙ fault-none ts j 0 Whole e)
      go (Some t) e = inr (slice_get_within ts j t e, there ∙ stops_at ts j 0 Whole t e (no_step (kind_of t) (rw e at (level_stops ts deep 6 0 c j r))))

  abbrev stands_as : Option ℕ → Type 0
  stands_as v = FirstFault ts v

  fails_at : (e : ℕ) → found ≡ Some e → read_all condition ts ≡ Err e → FirstFault ts found
  fails_at e is r = subst stands_as (sym is) (all_failed kind_of condition condition-exact ts e r)

  pub verdict : FirstFault ts found
  verdict = by_reading (condition.read ts 0) refl
    where
      by_reading : (r : Result (Cond ℕ × ℕ) ℕ) → condition.read ts 0 ≡ r → FirstFault ts found
      by_reading (Ok x) r = elim (after_condition x.0 x.1 r) [
        | inl p ↦ subst stands_as (sym p.1) (x.0, subst (λ (m : ℕ). condition.language.Spells ts 0 x.0 m) p.0 (condition-exact.found ts 0 x.0 x.1 r).0)
        | inr p ↦ fails_at x.1 p.1 (rw r (rw (differs x.1 (length ts) p.0) refl))
      ]
      by_reading (Err e) r = fails_at e ((level-scans ts deep (primary-scans ts deep) 6 0 (omega arith)).fails e r 0) (rw r refl)

-- the same, where what the scan finds is known
pub verdict_is : (ts : List Tok) (v : Option ℕ) → scan ts 0 0 Operand ≡ v → FirstFault ts v
verdict_is ts v is = subst (λ (w : Option ℕ). FirstFault ts w) is (verdict ts)

-- ---- one tree and one failing token

pub one_tree : (ts : List Tok) (d e : ℕ) (x y : Cond ℕ) → (expression d).language.Spells ts 0 x (length ts) → (expression e).language.Spells ts 0 y (length ts) → x ≡ y
one_tree ts d e x y s t = one_value kind_of condition condition-exact ts x y (d, s) (e, t)

pub one_failing : (ts : List Tok) (e f : ℕ) → FailsConditionAt ts e → FailsConditionAt ts f → e ≡ f
one_failing ts e f p q = one_fails kind_of condition condition-exact ts e f p q
