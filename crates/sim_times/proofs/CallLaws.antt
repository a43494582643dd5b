-- The calls of the times of a run, one time after another.
use Rattle.std.specs.Prelude.{◌≡◌, ℕ, zero, suc, ◌+◌, ◌<◌, ◌≤◌, ◌&&◌, Bool, true, false, not, if◌then◌else◌, List, [], ◌∷◌, ◌++◌, length, map, refl}
use Rattle.std.proofs.Common.{sym, ◌∙◌, ap, subst, arith}
use Rattle.std.proofs.lemmas.List.{append-nil, append_assoc}
use Rattle.sg_logic.specs.declared.values.Value.{Value}
use Rattle.sg_logic.specs.Values.{is_same}
use Rattle.sg_model.specs.Values.{are_same}
use Rattle.sg_model.specs.Machine.{Machine, Snapshot}
use Rattle.sg_model.specs.Time.{Run}
use Rattle.sg_model.specs.Run.{lasts, lasts_before, last_change}
use Rattle.sg_model.specs.Quiet.{IsSeen, with_copies}
use Rattle.sg_model.proofs.PlacedLaws.{same-true}
use Rattle.sg_model.proofs.PlacingSteps.{same-self}
use Rattle.sg_model.proofs.SnapshotLaws.{AddsSnapshots, AreBefore, time-lasts, copies-kept}
use Rattle.time_checks.specs.declared.changes.Change.{Change}
use Rattle.fan_round.specs.Lists.{occurrences}
use Rattle.fan_round.specs.Nets.{differs}
use Rattle.sim_times.specs.Watching.{Call, AreCalls, none_yet, at_zero, same_again, one_more, AreDifferences, AreTruthful, AreTruthfulAfter, IsCall, Got, Broke, net_change, call_of}
use Rattle.sim_times.specs.Runs.{HasBegun, calls_at, changed_since, last_after}
use Rattle.fan_round.proofs.ListLaws.{occurs_here}

both : (a b : Bool) → (a && b) ≡ true → (a ≡ true) × (b ≡ true)
both true b e = (refl, e)
both false b e = absurd (let k : false ≡ true = e in cc)

-- where no net differs the values are the same
pub same-none : (before after : List Value) → length after ≡ length before → ((k : ℕ) → differs before after k ≡ false) → are_same after before ≡ true
same-none [] [] l h = refl
same-none [] (w ∷ ws) l h = absurd (omega arith)
same-none (v ∷ vs) [] l h = absurd (omega arith)
same-none (v ∷ vs) (w ∷ ws) l h =
    let here : is_same w v ≡ true = same-self w v (sym (same-true v w (not_false (is_same v w) (h 0)))) in
    ap (λ b. b && are_same ws vs) here ∙ same-none vs ws (omega arith) (λ k. h (suc k))
  where
    not_false : (b : Bool) → not b ≡ false → b ≡ true
    not_false true e = refl
    not_false false e = absurd (let k : true ≡ false = e in cc)

-- and there alone
pub none-same : (before after : List Value) → are_same after before ≡ true → (k : ℕ) → differs before after k ≡ false
none-same [] [] e k = refl
none-same [] (w ∷ ws) e k = absurd (let f : false ≡ true = e in cc)
none-same (v ∷ vs) [] e k = absurd (let f : false ≡ true = e in cc)
none-same (v ∷ vs) (w ∷ ws) e zero = ap not (same-self v w (sym (same-true w v (both (is_same w v) (are_same ws vs) e).0)))
none-same (v ∷ vs) (w ∷ ws) e (suc k) = none-same vs ws (both (is_same w v) (are_same ws vs) e).1 k

pub same-self_all : (values : List Value) → are_same values values ≡ true
same-self_all [] = refl
same-self_all (v ∷ vs) = ap (λ b. b && are_same vs vs) (same-self v v refl) ∙ same-self_all vs

-- no change was told
pub changed_none : (before after : List Value) → length after ≡ length before → AreDifferences before after (map net_change []) → are_same after before ≡ true
changed_none before after l h = same-none before after l (λ k. none (differs before after k) (h.nets.each k))
  where
    none : (b : Bool) → ◌≡◌ {A = ℕ} 0 (if b then 1 else 0) → b ≡ false
    none true e = absurd (let k : ◌≡◌ {A = ℕ} 0 1 = e in omega arith)
    none false e = refl

-- some change was told
pub changed_some : (before after : List Value) (c : Change) (cs : List Change) → AreDifferences before after (map net_change (c ∷ cs)) → are_same after before ≡ false
changed_some before after c cs h = at (are_same after before) refl
  where
    some : (b : Bool) (n : ℕ) → n + 1 ≡ (if b then 1 else 0) → b ≡ true
    some true n e = refl
    some false n e = absurd (let k : n + 1 ≡ 0 = e in omega arith)

    rest : List ℕ
    rest = map (λ x. x.net) (map net_change cs)

    here : differs before after c.net ≡ true
    here = some (differs before after c.net) (occurrences c.net rest) (sym (occurs_here c.net c.net rest refl) ∙ h.nets.each c.net)

    at : (b : Bool) → are_same after before ≡ b → b ≡ false
    at true e = absurd (let k : true ≡ false = sym here ∙ none-same before after e c.net in cc)
    at false e = refl

-- no snapshot is as late as the next time
pub begun_before : (now : ℕ) (first : List Value) (r : Run) → HasBegun now first r → AreBefore r.snapshots now
begun_before zero first r h = subst (λ ss. AreBefore ss 0) (sym h.0) tt
begun_before (suc now) first r h =
    let l : h.0.last ≤ now = h.1 in
    subst (λ ss. AreBefore ss (suc now)) (sym h.0.is) (omega arith)

none_calls : (first : List Value) (ss : List Snapshot) (calls : List Call) → AreCalls first ss calls → ss ≡ [] → calls ≡ []
none_calls first ss calls none_yet e = refl
none_calls first ss all (at_zero s call h) e = absurd (let k : s ∷ [] ≡ [] = e in cc)
none_calls first ss all (same_again s t older calls f h) e = absurd (let k : s ∷ t ∷ older ≡ [] = e in cc)
none_calls first ss all (one_more s t older calls call f h i) e = absurd (let k : s ∷ t ∷ older ≡ [] = e in cc)

-- the calls after one time more
pub calls_more : (first told values : List Value) (now : ℕ) (r next : Run) (made : List Call) (changed : List Change) → AddsSnapshots now r next → HasBegun now first r → told ≡ r.state.values → values ≡ next.state.values
    → length values ≡ length told → AreDifferences told values (map net_change changed) → AreCalls first (lasts r.snapshots) made → AreCalls first (lasts next.snapshots) (made ++ calls_at now changed values)
calls_more first told values zero r next made changed adds begun e v l h are =
    let none : made ≡ [] = none_calls first (lasts r.snapshots) made are (ap lasts begun.0) in
    let s : Snapshot = record { time = 0; values = next.state.values } in
    let ss : lasts next.snapshots ≡ s ∷ [] = time-lasts 0 r next adds (begun_before 0 first r begun) ∙ ap (λ xs. s ∷ lasts xs) begun.0 in
    let call : IsCall first s (call_of 0 changed values) = record { time = refl; values = v; changed = subst (λ t. AreDifferences t next.state.values (map net_change changed)) (e ∙ begun.1) (subst (λ t. AreDifferences told t (map net_change changed)) v h) } in
    subst (λ xs. AreCalls first xs (made ++ call_of 0 changed values ∷ [])) (sym ss) (subst (λ cs. AreCalls first (s ∷ []) (cs ++ call_of 0 changed values ∷ [])) (sym none) (at_zero s (call_of 0 changed values) call))
calls_more first told values (suc now) r next made changed adds begun e v l h are = at changed h
  where
    t : Snapshot
    t = record { time = begun.0.last; values = r.state.values }

    older : List Snapshot
    older = lasts_before begun.0.last begun.0.older

    was : lasts r.snapshots ≡ t ∷ older
    was = ap lasts begun.0.is

    s : Snapshot
    s = record { time = suc now; values = next.state.values }

    ss : lasts next.snapshots ≡ s ∷ t ∷ older
    ss = time-lasts (suc now) r next adds (begun_before (suc now) first r begun) ∙ ap (λ xs. s ∷ xs) was

    old : AreCalls first (t ∷ older) made
    old = subst (λ xs. AreCalls first xs made) was are

    at : (changed : List Change) → AreDifferences told values (map net_change changed) → AreCalls first (lasts next.snapshots) (made ++ calls_at (suc now) changed values)
    at [] h =
        let same : are_same next.state.values r.state.values ≡ true = ap (λ x. are_same x r.state.values) (sym v) ∙ (ap (λ x. are_same values x) (sym e) ∙ changed_none told values l h) in
        subst (λ cs. AreCalls first (lasts next.snapshots) cs) (sym (append-nil made)) (subst (λ xs. AreCalls first xs made) (sym ss) (same_again s t older made same old))
    at (c ∷ cs) h =
        let other : are_same next.state.values r.state.values ≡ false = ap (λ x. are_same x r.state.values) (sym v) ∙ (ap (λ x. are_same values x) (sym e) ∙ changed_some told values c cs h) in
        let call : IsCall r.state.values s (call_of (suc now) (c ∷ cs) values) = record { time = refl; values = v; changed = subst (λ x. AreDifferences x next.state.values (map net_change (c ∷ cs))) e (subst (λ x. AreDifferences told x (map net_change (c ∷ cs))) v h) } in
        subst (λ xs. AreCalls first xs (made ++ call_of (suc now) (c ∷ cs) values ∷ [])) (sym ss) (one_more s t older made (call_of (suc now) (c ∷ cs) values) other old call)

-- the last time that differs, after one time more
pub last_more : (first told values : List Value) (now : ℕ) (r next : Run) (changed : List Change) → AddsSnapshots now r next → HasBegun now first r → told ≡ r.state.values → values ≡ next.state.values
    → length values ≡ length told → AreDifferences told values (map net_change changed) → last_after now changed (last_change first (lasts r.snapshots)) ≡ last_change first (lasts next.snapshots)
last_more first told values zero r next changed adds begun e v l h =
    let s : Snapshot = record { time = 0; values = next.state.values } in
    let ss : lasts next.snapshots ≡ s ∷ [] = time-lasts 0 r next adds (begun_before 0 first r begun) ∙ ap (λ xs. s ∷ lasts xs) begun.0 in
    at changed (last_change first (lasts r.snapshots)) (ap (λ xs. last_change first (lasts xs)) begun.0) ∙ (sym (zero_both (are_same next.state.values first)) ∙ ap (last_change first) (sym ss))
  where
    at : (changed : List Change) (last : ℕ) → last ≡ 0 → last_after 0 changed last ≡ 0
    at [] last n = n
    at (c ∷ cs) last n = refl

    zero_both : (b : Bool) → ◌≡◌ {A = ℕ} (if b then 0 else 0) 0
    zero_both true = refl
    zero_both false = refl
last_more first told values (suc now) r next changed adds begun e v l h = at changed h
  where
    t : Snapshot
    t = record { time = begun.0.last; values = r.state.values }

    older : List Snapshot
    older = lasts_before begun.0.last begun.0.older

    was : lasts r.snapshots ≡ t ∷ older
    was = ap lasts begun.0.is

    s : Snapshot
    s = record { time = suc now; values = next.state.values }

    ss : lasts next.snapshots ≡ s ∷ t ∷ older
    ss = time-lasts (suc now) r next adds (begun_before (suc now) first r begun) ∙ ap (λ xs. s ∷ xs) was

    at : (changed : List Change) → AreDifferences told values (map net_change changed) → last_after (suc now) changed (last_change first (lasts r.snapshots)) ≡ last_change first (lasts next.snapshots)
    at [] h =
        let same : are_same next.state.values r.state.values ≡ true = ap (λ x. are_same x r.state.values) (sym v) ∙ (ap (λ x. are_same values x) (sym e) ∙ changed_none told values l h) in
        let late : last_change first (s ∷ t ∷ older) ≡ last_change first (t ∷ older) = ap (λ b. if b then last_change first (t ∷ older) else suc now) same in
        ap (last_change first) was ∙ (sym late ∙ ap (last_change first) (sym ss))
    at (c ∷ cs) h =
        let other : are_same next.state.values r.state.values ≡ false = ap (λ x. are_same x r.state.values) (sym v) ∙ (ap (λ x. are_same values x) (sym e) ∙ changed_some told values c cs h) in
        let late : last_change first (s ∷ t ∷ older) ≡ suc now = ap (λ b. if b then last_change first (t ∷ older) else suc now) other in
        sym late ∙ ap (last_change first) (sym ss)

-- and after an earlier one
pub since_after : (now earlier : ℕ) (changed : List Change) (last : ℕ) → (now ≡ 0 → earlier ≡ 0) → last_after now changed (changed_since earlier last) ≡ changed_since earlier (last_after now changed last)
since_after now earlier [] last none = refl
since_after zero earlier (c ∷ cs) last none = ap (λ n. changed_since n 0) (sym (none refl))
since_after (suc now) zero (c ∷ cs) last none = refl
since_after (suc now) (suc earlier) (c ∷ cs) last none = refl

-- skipped times have no call and are no change
pub calls_kept : (first : List Value) (made : List Call) (k : ℕ) (m : Machine) (now : ℕ) (r : Run) (seen : IsSeen r) → seen.last < now → AreCalls first (lasts r.snapshots) made → AreCalls first (lasts (with_copies k m now r).snapshots) made
calls_kept first made k m now r seen l h =
    copies-kept (λ ss. AreCalls first ss made) (λ t last values older h. same_again (record { time = t; values = values }) (record { time = last; values = values }) older made (same-self_all values) h) k m now r seen l h

pub last_kept : (first : List Value) (k : ℕ) (m : Machine) (now : ℕ) (r : Run) (seen : IsSeen r) → seen.last < now → last_change first (lasts r.snapshots) ≡ last_change first (lasts (with_copies k m now r).snapshots)
last_kept first k m now r seen l =
    copies-kept (λ ss. last_change first (lasts r.snapshots) ≡ last_change first ss) (λ t time values older h. h ∙ sym (ap (λ b. if b then last_change first (record { time = time; values = values } ∷ older) else t) (same-self_all values))) k m now r seen l refl

-- calls that are truthful with more behind them are so without
after-front : (before : List Value) (calls more : List Call) → AreTruthfulAfter before (calls ++ more) → AreTruthfulAfter before calls
after-front before [] more h = tt
after-front before (c ∷ cs) more h = (h.0, after-front c.values cs more h.1)

pub truthful-front : (calls more : List Call) → AreTruthful (calls ++ more) → AreTruthful calls
truthful-front [] more h = tt
truthful-front (c ∷ cs) more h = after-front c.values cs more h

-- what a watcher and a shelf stand for, call after call
pub got_start : {W S : Type 0} (stands : W → S → List Call → Type 0) (w : W) (s : S) → Got stands w w s s []
got_start stands w s = record { each = λ calls h truth. subst (stands w s) (sym (append-nil calls)) h }

pub got_more : {W S : Type 0} (stands : W → S → List Call → Type 0) (w w1 w2 : W) (s s1 s2 : S) (made more : List Call)
    → Got stands w w1 s s1 made → Got stands w1 w2 s1 s2 more → Got stands w w2 s s2 (made ++ more)
got_more stands w w1 w2 s s1 s2 made more g h = record {
  each = λ calls t truth.
      (let both : AreTruthful ((calls ++ made) ++ more) = subst AreTruthful (sym (append_assoc calls made more)) truth in
      subst (stands w2 s2) (append_assoc calls made more) (h.each (calls ++ made) (g.each calls t (truthful-front (calls ++ made) more both)) both));
}

pub broke_more : {W S : Type 0} (stands broken : W → S → List Call → Type 0) (w w1 w2 : W) (s s1 s2 : S) (made more : List Call)
    → Got stands w w1 s s1 made → Broke stands broken w1 w2 s1 s2 more → Broke stands broken w w2 s s2 (made ++ more)
broke_more stands broken w w1 w2 s s1 s2 made more g h = record {
  each = λ calls t truth.
      (let both : AreTruthful ((calls ++ made) ++ more) = subst AreTruthful (sym (append_assoc calls made more)) truth in
      subst (broken w2 s2) (append_assoc calls made more) (h.each (calls ++ made) (g.each calls t (truthful-front (calls ++ made) more both)) both));
}
