-- What is pending and not due now is later.
use Rattle.std.specs.Prelude.{◌≡◌, ◌≢◌, ℕ, zero, suc, ◌≤◌, ◌<◌, ◌||◌, Bool, true, false, List, [], ◌∷◌, ◌++◌, reverse, slice_index_or, refl}
use Rattle.std.proofs.Common.{sym, subst, arith}
use Rattle.std.proofs.lemmas.Bool.Decides.{nat_tests}
use Rattle.std.proofs.lemmas.List.{reverse-append}
use Rattle.sg_logic.specs.declared.values.Value.{Value}
use Rattle.sg_model.specs.Values.{value_at}
use Rattle.sg_model.specs.Agenda.{list_at}
use Rattle.sg_model.specs.Pending.{Follows, IsPending}
use Rattle.sg_model.specs.Round.{any_due, is_due}
use Rattle.fan_round.specs.Rounds.{ArePending}

pub neither : (a b : Bool) → (a || b) ≡ false → (a ≡ false) × (b ≡ false)
neither true b h = absurd (let q : true ≡ false = h in cc)
neither false b h = (refl, h)

-- times rise up to the first pair, which isn't now
follows_later : (xs : List (ℕ × Value)) (p : ℕ × Value) (present : Value) (now : ℕ) → Follows (xs ++ p ∷ []) present now → p.0 ≢ now → Follows (xs ++ p ∷ []) present (suc now)
follows_later [] p present now h n = let l : now ≤ p.0 = h.2 in (h.0, tt, (let m : suc now ≤ p.0 = omega arith in m), tt)
follows_later (x ∷ []) p present now h n =
    let rest = follows_later [] p present now h.3 n in
    let first : suc now ≤ p.0 = rest.2 in
    let rises : p.0 < x.0 = h.1 in
    (h.0, h.1, (let m : suc now ≤ x.0 = omega arith in m), rest)
follows_later (x ∷ y ∷ ys) p present now h n =
    let rest = follows_later (y ∷ ys) p present now h.3 n in
    let first : suc now ≤ y.0 = rest.2 in
    let rises : y.0 < x.0 = h.1 in
    (h.0, h.1, (let m : suc now ≤ x.0 = omega arith in m), rest)

pending_later : (list : List (ℕ × Value)) (present : Value) (now : ℕ) → IsPending list present now → is_due now list ≡ false → IsPending list present (suc now)
pending_later [] present now h n = tt
pending_later (p ∷ ps) present now h n =
    let apart : p.0 ≢ now = grind (arith, nat_tests, n) in
    let turned = reverse-append (p ∷ []) ps in
    subst (λ xs. Follows xs present (suc now)) (sym turned) (follows_later (reverse ps) p present now (subst (λ xs. Follows xs present now) turned h) apart)

due_at : (now : ℕ) (lists : List (List (ℕ × Value))) (e : ℕ) → any_due now lists ≡ false → is_due now (list_at lists e) ≡ false
due_at now [] e h = refl
due_at now (x ∷ xs) zero h = (neither (is_due now x) (any_due now xs) h).0
due_at now (x ∷ xs) (suc e) h = due_at now xs e (neither (is_due now x) (any_due now xs) h).1

pub all_pending_later : (driven : List ℕ) (values : List Value) (lists : List (List (ℕ × Value))) (now : ℕ) → ArePending driven values lists now → any_due now lists ≡ false → ArePending driven values lists (suc now)
all_pending_later driven values lists now h n = record { each = λ e l. pending_later (list_at lists e) (value_at values (slice_index_or driven e 0)) now (h.each e l) (due_at now lists e n) }
