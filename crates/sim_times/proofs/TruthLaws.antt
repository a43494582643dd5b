-- The calls that a watcher got are truthful, one time after another.
use Rattle.std.specs.Prelude.{◌≡◌, ℕ, zero, suc, ◌&&◌, Bool, true, false, not, if◌then◌else◌, List, [], ◌∷◌, ◌++◌, length, map, refl}
use Rattle.std.proofs.Common.{sym, ◌∙◌, ap, subst, arith}
use Rattle.std.proofs.lemmas.List.{append-nil}
use Rattle.sg_logic.specs.declared.values.Value.{Value}
use Rattle.sg_logic.specs.Values.{is_same}
use Rattle.sg_model.specs.Values.{are_same, value_at}
use Rattle.sg_model.proofs.PlacedLaws.{same-true}
use Rattle.sg_model.proofs.PlacingSteps.{same-self}
use Rattle.time_checks.specs.declared.changes.Change.{Change}
use Rattle.sim_times.specs.Watching.{AreDifferences, AreNextCalls, AreTruthful, AreTruthfulAfter, Call, EndWith, HasTold, IsNextCall, call_of, end_call, net_change}
use Rattle.sim_times.specs.Runs.{calls_at}
use Rattle.sim_times.proofs.CallLaws.{changed_none}

-- one call more, which tells what differs from the values that the last one told
after_more : (x : Call) (xs : List Call) (values : List Value) (c : Call) → AreTruthfulAfter x.values xs → EndWith (x ∷ xs) values → AreDifferences values c.values c.changed → AreTruthfulAfter x.values (xs ++ c ∷ [])
after_more x [] values c t e d = (subst (λ vs. AreDifferences vs c.values c.changed) (sym e) d, tt)
after_more x (y ∷ ys) values c t e d = (t.0, after_more y ys values c t.1 e d)

truthful_more : (calls : List Call) (values : List Value) (c : Call) → AreTruthful calls → EndWith calls values → AreDifferences values c.values c.changed → AreTruthful (calls ++ c ∷ [])
truthful_more [] values c t e d = tt
truthful_more (x ∷ xs) values c t e d = after_more x xs values c t e d

end_after : (x : Call) (xs : List Call) (c : Call) → EndWith (x ∷ xs ++ c ∷ []) c.values
end_after x [] c = refl
end_after x (y ∷ ys) c = end_after y ys c

end_more : (calls : List Call) (c : Call) → EndWith (calls ++ c ∷ []) c.values
end_more [] c = refl
end_more (x ∷ xs) c = end_after x xs c

-- values that are the same
both : (a b : Bool) → (a && b) ≡ true → (a ≡ true) × (b ≡ true)
both true b e = (refl, e)
both false b e = absurd (let k : false ≡ true = e in cc)

same_values : (vs ws : List Value) → are_same vs ws ≡ true → vs ≡ ws
same_values [] [] h = refl
same_values [] (w ∷ ws) h = absurd (let k : false ≡ true = h in cc)
same_values (v ∷ vs) [] h = absurd (let k : false ≡ true = h in cc)
same_values (v ∷ vs) (w ∷ ws) h =
    let p = both (is_same v w) (are_same vs ws) h in
    ap (λ x. x ∷ vs) (same-true v w p.0) ∙ ap (λ xs. w ∷ xs) (same_values vs ws p.1)

no_change : (values : List Value) → AreDifferences values values []
no_change values = record { nets = record { each = λ k. ap (λ b. if b then 1 else 0) (sym (ap not (same-self (value_at values k) (value_at values k) refl))) }; values = λ i d l. absurd (omega arith) }

-- nothing was told yet
pub told_none : (stands : List Call → Type 0) (values : List Value) → stands [] → HasTold stands values
told_none stands values h = record { calls = []; stood = h; truthful = tt; last = tt }

-- a call may come
next_one : (stands : List Call → Type 0) (told values : List Value) (time : ℕ) (changed : List Change) → HasTold stands told → AreDifferences told values (map net_change changed) → IsNextCall stands (call_of time changed values)
next_one stands told values time changed h d = record { calls = h.calls; stood = h.stood; truthful = truthful_more h.calls told (call_of time changed values) h.truthful h.last d }

pub next_end : (stands : List Call → Type 0) (values : List Value) (end : ℕ) → HasTold stands values → IsNextCall stands (end_call end values)
next_end stands values end h = record { calls = h.calls; stood = h.stood; truthful = truthful_more h.calls values (end_call end values) h.truthful h.last (no_change values) }

-- and so may those of a time
pub next_calls : (stands : List Call → Type 0) (told values : List Value) (now : ℕ) (changed : List Change) → HasTold stands told → AreDifferences told values (map net_change changed) → AreNextCalls stands (calls_at now changed values)
next_calls stands told values zero changed h d = next_one stands told values 0 changed h d
next_calls stands told values (suc now) [] h d = record { calls = h.calls; stood = h.stood; truthful = subst AreTruthful (sym (append-nil h.calls)) h.truthful }
next_calls stands told values (suc now) (c ∷ cs) h d = next_one stands told values (suc now) (c ∷ cs) h d

-- they came
told_one : (stands after : List Call → Type 0) (told values : List Value) (time : ℕ) (changed : List Change) → HasTold stands told → AreDifferences told values (map net_change changed)
    → ((calls : List Call) → stands calls → AreTruthful (calls ++ call_of time changed values ∷ []) → after (calls ++ call_of time changed values ∷ [])) → HasTold after values
told_one stands after told values time changed h d each =
    let c : Call = call_of time changed values in
    let truth : AreTruthful (h.calls ++ c ∷ []) = truthful_more h.calls told c h.truthful h.last d in
    record { calls = h.calls ++ c ∷ []; stood = each h.calls h.stood truth; truthful = truth; last = end_more h.calls c }

pub told_more : (stands after : List Call → Type 0) (told values : List Value) (now : ℕ) (changed : List Change) → HasTold stands told → AreDifferences told values (map net_change changed) → length values ≡ length told
    → ((calls : List Call) → stands calls → AreTruthful (calls ++ calls_at now changed values) → after (calls ++ calls_at now changed values)) → HasTold after values
told_more stands after told values zero changed h d l each = told_one stands after told values 0 changed h d each
told_more stands after told values (suc now) [] h d l each =
    let same : told ≡ values = sym (same_values values told (changed_none told values l d)) in
    let truth : AreTruthful (h.calls ++ []) = subst AreTruthful (sym (append-nil h.calls)) h.truthful in
    record {
      calls = h.calls ++ [];
      stood = each h.calls h.stood truth;
      truthful = truth;
      last = subst (λ cs. EndWith cs values) (sym (append-nil h.calls)) (subst (EndWith h.calls) same h.last);
    }
told_more stands after told values (suc now) (c ∷ cs) h d l each = told_one stands after told values (suc now) (c ∷ cs) h d each
