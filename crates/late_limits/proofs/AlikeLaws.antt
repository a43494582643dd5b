-- Limits don't matter for signals; and what is so of each check of a scope.
use Rattle.std.specs.Prelude.{◌≡◌, ℕ, zero, suc, ◌+◌, ◌<◌, ◌==◌, ◌&&◌, ℤ, All, Bool, true, false, cond, List, [], ◌∷◌, ◌++◌, drop, length, map, filter, flat_map, slice_index_or, zip, refl}
use Rattle.std.specs.List.{enumerate_from}
use Rattle.std.proofs.Common.{◌∙◌, ap, subst, arith}
use Rattle.std.proofs.lemmas.Bool.{eqb-true}
use Rattle.std.proofs.lemmas.List.Elements.{All-cons, All-head, All-nil, All-tail}
use Rattle.sg_circuit.specs.declared.checks.Check.{Check}
use Rattle.sg_circuit.specs.declared.checks.CheckTiming.{CheckTiming}
use Rattle.sg_circuit.specs.Signals.{first_of_each, is_window, signal_nets, signals, takes_lates}
use Rattle.late_limits.specs.Adjustments.{with_limits}
use Rattle.late_limits.proofs.NumberLaws.{test_same}

abbrev pub without_limits : CheckTiming → CheckTiming
without_limits t = record t { limits = [] }

abbrev pub window_of : ℕ × (Check × CheckTiming) → ℕ × CheckTiming
window_of w = (w.0, w.1.1)

abbrev nets_in : List (ℕ × (Check × CheckTiming)) → List ℕ
nets_in ws = flat_map (λ w. signal_nets w.1) (map window_of ws)

abbrev nets_from : (scope : ℕ) → ℕ → List Check → List CheckTiming → List ℕ
nets_from scope n checks timings = nets_in (filter (is_window scope) (enumerate_from n (zip checks timings)))

taken : (n : ℕ) (k : Check) (t u : CheckTiming) (b d : Bool) (ws vs : List (ℕ × (Check × CheckTiming))) → b ≡ d → signal_nets t ≡ signal_nets u → nets_in ws ≡ nets_in vs
    → nets_in (cond b ((n, (k, t)) ∷ ws) ws) ≡ nets_in (cond d ((n, (k, u)) ∷ vs) vs)
taken n k t u b d ws vs same here behind = ap (λ q. nets_in (cond q ((n, (k, t)) ∷ ws) ws)) same ∙ by d
  where
    by : (q : Bool) → nets_in (cond q ((n, (k, t)) ∷ ws) ws) ≡ nets_in (cond q ((n, (k, u)) ∷ vs) vs)
    by true = ap (λ ns. ns ++ nets_in ws) here ∙ ap (λ ns. signal_nets u ++ ns) behind
    by false = behind

nets-alike : (scope n : ℕ) (checks : List Check) (ts us : List CheckTiming) → map without_limits ts ≡ map without_limits us → nets_from scope n checks ts ≡ nets_from scope n checks us
nets-alike scope n [] ts us e = refl
nets-alike scope n (k ∷ ks) [] [] e = refl
nets-alike scope n (k ∷ ks) [] (u ∷ us) e = absurd (let l : 0 ≡ suc (length (map without_limits us)) = ap length e in omega arith)
nets-alike scope n (k ∷ ks) (t ∷ ts) [] e = absurd (let l : suc (length (map without_limits ts)) ≡ 0 = ap length e in omega arith)
nets-alike scope n (k ∷ ks) (t ∷ ts) (u ∷ us) e =
    let same : without_limits t ≡ without_limits u = ap (λ xs. slice_index_or xs 0 (without_limits t)) e in
    taken n k t u (is_window scope (n, (k, t))) (is_window scope (n, (k, u))) _ _
    (ap (λ (x : CheckTiming). (k.scope == scope) && takes_lates x.kind) same) (ap (λ (x : CheckTiming). signal_nets x) same) (nets-alike scope (n + 1) ks ts us (ap (drop 1) e))

-- a scope has the same signals where timing checks are the same but for their limits
pub signals-alike : (checks : List Check) (ts us : List CheckTiming) (scope : ℕ) → map without_limits ts ≡ map without_limits us → signals checks ts scope ≡ signals checks us scope
signals-alike checks ts us scope e = ap (first_of_each []) (nets-alike scope 0 checks ts us e)

pub limits-alike : (ts : List CheckTiming) (ls : List (List ℤ)) → map without_limits (with_limits ts ls) ≡ map without_limits ts
limits-alike [] ls = refl
limits-alike (t ∷ ts) [] = refl
limits-alike (t ∷ ts) (l ∷ ls) = ap (λ xs. without_limits t ∷ xs) (limits-alike ts ls)

-- what is so of each check of a scope that takes limits below 0
pub windows-all : (P : CheckTiming → Type 0) (scope n : ℕ) (cs : List Check) (ts : List CheckTiming)
    → ((k : ℕ) (d : Check) (e : CheckTiming) → k < length cs → k < length ts → (slice_index_or cs k d).scope ≡ scope → takes_lates (slice_index_or ts k e).kind ≡ true → P (slice_index_or ts k e))
    → All (λ (w : ℕ × CheckTiming). P w.1) (map window_of (filter (is_window scope) (enumerate_from n (zip cs ts))))
windows-all P scope n [] ts h = All-nil (λ (w : ℕ × CheckTiming). P w.1)
windows-all P scope n (c ∷ cs) [] h = All-nil (λ (w : ℕ × CheckTiming). P w.1)
windows-all P scope n (c ∷ cs) (t ∷ ts) h =
    by (c.scope == scope) (takes_lates t.kind) refl refl (windows-all P scope (n + 1) cs ts (λ k d e l m. h (suc k) d e (omega arith) (omega arith)))
  where
    rest : List (ℕ × (Check × CheckTiming))
    rest = filter (is_window scope) (enumerate_from (n + 1) (zip cs ts))

    by : (a b : Bool) → (c.scope == scope) ≡ a → takes_lates t.kind ≡ b → All (λ (w : ℕ × CheckTiming). P w.1) (map window_of rest)
        → All (λ (w : ℕ × CheckTiming). P w.1) (map window_of (cond (a && b) ((n, (c, t)) ∷ rest) rest))
    by true true e f r = All-cons (λ (w : ℕ × CheckTiming). P w.1) (n, t) (map window_of rest) (h 0 c t (omega arith) (omega arith) (eqb-true c.scope scope e) f) r
    by true false e f r = r
    by false b e f r = r

pub windows-at : (P : CheckTiming → Type 0) (scope n : ℕ) (cs : List Check) (ts : List CheckTiming) → All (λ (w : ℕ × CheckTiming). P w.1) (map window_of (filter (is_window scope) (enumerate_from n (zip cs ts))))
    → (k : ℕ) (d : Check) (e : CheckTiming) → k < length cs → k < length ts → (slice_index_or cs k d).scope ≡ scope → takes_lates (slice_index_or ts k e).kind ≡ true → P (slice_index_or ts k e)
windows-at P scope n [] ts h k d e l m o f = absurd (omega arith)
windows-at P scope n (c ∷ cs) [] h k d e l m o f = absurd (omega arith)
windows-at P scope n (c ∷ cs) (t ∷ ts) h zero d e l m o f =
    let yes : is_window scope (n, (c, t)) ≡ true = ap (λ b. b && takes_lates t.kind) (test_same c.scope scope o) ∙ f in
    let rest : List (ℕ × (Check × CheckTiming)) = filter (is_window scope) (enumerate_from (n + 1) (zip cs ts)) in
    All-head (λ (w : ℕ × CheckTiming). P w.1) (n, t) (map window_of rest) (subst (λ b. All (λ (w : ℕ × CheckTiming). P w.1) (map window_of (cond b ((n, (c, t)) ∷ rest) rest))) yes h)
windows-at P scope n (c ∷ cs) (t ∷ ts) h (suc k) d e l m o f = windows-at P scope (n + 1) cs ts (behind (is_window scope (n, (c, t))) h) k d e (omega arith) (omega arith) o f
  where
    rest : List (ℕ × (Check × CheckTiming))
    rest = filter (is_window scope) (enumerate_from (n + 1) (zip cs ts))

    behind : (b : Bool) → All (λ (w : ℕ × CheckTiming). P w.1) (map window_of (cond b ((n, (c, t)) ∷ rest) rest)) → All (λ (w : ℕ × CheckTiming). P w.1) (map window_of rest)
    behind true g = All-tail (λ (w : ℕ × CheckTiming). P w.1) (n, t) (map window_of rest) g
    behind false g = g
