-- How many signals scopes have.
use Rattle.std.specs.Prelude.{◌≡◌, ℕ, ◌+◌, ◌<◌, List, [], ◌∷◌, ◌++◌, length, map}
use Rattle.std.specs.List.{range_with_len}
use Rattle.std.proofs.Common.{sym, ◌∙◌, ap, subst, arith}
use Rattle.std.proofs.lemmas.List.FromFn.{map-range_with_len_more}
use Rattle.sg_circuit.specs.declared.checks.Check.{Check}
use Rattle.sg_circuit.specs.declared.checks.CheckTiming.{CheckTiming}
use Rattle.sg_circuit.specs.FanOut.{readers_at}
use Rattle.sg_circuit.specs.Signals.{signals}
use Rattle.late_limits.specs.Found.{signals_at, window_numbers, AreAmong, AreWindows}
use Rattle.late_limits.proofs.RangeLaws.{map-same}
use Rattle.late_limits.proofs.WindowLaws.{signals-own, windows-among}

-- one scope more
pub counts-more : (timings : List CheckTiming) (table : List (List ℕ)) (scope : ℕ) (counts more checks met : List ℕ) (count : ℕ) → counts ≡ map (λ s. length (signals_at timings (readers_at table s))) (range_with_len 0 scope)
    → checks ≡ readers_at table scope → met ≡ signals_at timings checks → count ≡ length met → more ≡ counts ++ count ∷ [] → more ≡ map (λ s. length (signals_at timings (readers_at table s))) (range_with_len 0 (scope + 1))
counts-more timings table scope counts more checks met count h of is n new =
    let at : count ≡ length (signals_at timings (readers_at table scope)) = n ∙ ap length (is ∙ ap (signals_at timings) of) in
    new ∙ (ap (λ cs. cs ++ count ∷ []) h ∙ (ap (λ k. map (λ s. length (signals_at timings (readers_at table s))) (range_with_len 0 scope) ++ k ∷ []) at
    ∙ sym (map-range_with_len_more (λ s. length (signals_at timings (readers_at table s))) 0 scope scope (omega arith))))

-- what the table tells
pub read-among : (checks seen_checks : List Check) (timings seen_timings seen : List CheckTiming) (table : List (List ℕ)) → seen_checks ≡ checks → seen_timings ≡ timings → seen ≡ timings → AreWindows seen_checks seen_timings table → AreAmong (length seen) table
read-among checks seen_checks timings seen_timings seen table e f g h = subst (λ ts. AreAmong (length ts) table) (f ∙ sym g) (windows-among seen_checks seen_timings table h)

pub counts-are : (checks seen_checks : List Check) (timings seen_timings seen : List CheckTiming) (table : List (List ℕ)) (counts : List ℕ) (scopes n : ℕ) → seen_checks ≡ checks → seen_timings ≡ timings → seen ≡ timings → AreWindows seen_checks seen_timings table
    → length table ≡ scopes → scopes ≡ n → counts ≡ map (λ s. length (signals_at seen (readers_at table s))) (range_with_len 0 scopes) → counts ≡ map (λ s. length (signals checks timings s)) (range_with_len 0 n)
counts-are checks seen_checks timings seen_timings seen table counts scopes n e f g h many same is =
    is ∙ (map-same (λ s. length (signals_at seen (readers_at table s))) (λ s. length (signals checks timings s)) scopes
    (λ s l. ap length (ap (λ ts. signals_at ts (readers_at table s)) g ∙ (ap (signals_at timings) (h.each s (subst (λ m. s < m) (sym many) l) ∙ (ap (λ cs. window_numbers cs seen_timings s) e ∙ ap (λ ts. window_numbers checks ts s) f))
    ∙ sym (signals-own checks timings s)))) ∙ ap (λ m. map (λ s. length (signals checks timings s)) (range_with_len 0 m)) same)
