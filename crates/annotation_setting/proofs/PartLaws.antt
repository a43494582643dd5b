-- Limits that are set part by part are set as a whole: of a check with one limit the second of the two that are kept is as before.
use Rattle.std.specs.Prelude.{◌≡◌, ℕ, suc, ◌<◌, ℤ, pos, Bool, true, false, All, List, [], ◌∷◌, length, slice_index_or, refl}
use Rattle.std.proofs.Common.{sym, ap, arith}
use Rattle.sg_circuit.specs.Signals.{takes_lates}
use Rattle.sg_circuit.specs.declared.checks.CheckTiming.{CheckTiming}
use Rattle.late_limits.specs.Adjustments.{with_limits}
use Rattle.circuit_open.proofs.ChangeLaws.{both}
use Rattle.annotation_setting.specs.Limits.{limited, set_limits}

whole : (two : Bool) (new old : List ℤ) → length new ≡ 2 → length old ≡ 2 → (two ≡ false → slice_index_or old 1 (pos 0) ≡ slice_index_or new 1 (pos 0)) → set_limits two new old ≡ new
whole two new [] n m e = absurd (omega arith)
whole two new (x ∷ []) n m e = absurd (omega arith)
whole two new (x ∷ y ∷ z ∷ zs) n m e = absurd (omega arith)
whole two [] (x ∷ y ∷ []) n m e = absurd (omega arith)
whole two (v ∷ []) (x ∷ y ∷ []) n m e = absurd (omega arith)
whole true (v ∷ w ∷ []) (x ∷ y ∷ []) n m e = refl
whole false (v ∷ w ∷ []) (x ∷ y ∷ []) n m e = ap (λ z. v ∷ z ∷ []) (e refl)
whole two (v ∷ w ∷ u ∷ us) (x ∷ y ∷ []) n m e = absurd (omega arith)

pub limited-whole : (ls : List (List ℤ)) (ts : List CheckTiming) → length ls ≡ length ts → ((i : ℕ) → i < length ls → length (slice_index_or ls i []) ≡ 2) → All (λ t. length t.limits ≡ 2) ts
    → ((i : ℕ) (t : CheckTiming) → i < length ls → takes_lates (slice_index_or ts i t).kind ≡ false → slice_index_or (slice_index_or ls i []) 1 (pos 0) ≡ slice_index_or (slice_index_or ts i t).limits 1 (pos 0))
    → limited ls ts ≡ with_limits ts ls
limited-whole [] [] n pairs two kept = refl
limited-whole [] (t ∷ ts) n pairs two kept = absurd (omega arith)
limited-whole (l ∷ ls) [] n pairs two kept = absurd (omega arith)
limited-whole (l ∷ ls) (t ∷ ts) n pairs two kept =
    both (record t { limits = set_limits (takes_lates t.kind) l t.limits }) (record t { limits = l }) (limited ls ts) (with_limits ts ls)
    (ap (λ (xs : List ℤ). record t { limits = xs }) (whole (takes_lates t.kind) l t.limits (pairs 0 (omega arith)) (two 0 t (omega arith)) (λ e. sym (kept 0 t (omega arith) e))))
    (limited-whole ls ts (omega arith) (λ i m. pairs (suc i) (omega arith)) (λ i d m. two (suc i) d (omega arith)) (λ i d m. kept (suc i) d (omega arith)))
