-- How a run ends.
use Rattle.std.specs.Prelude.{◌≡◌, ℕ, zero, suc, ◌+◌, ◌-◌, ◌<◌, ◌≤◌, ◌⊎◌, List, [], ◌∷◌, ◌++◌, Some, Result, Ok, Err, OnOk, OnErr, refl}
use Rattle.std.proofs.Common.{sym, ◌∙◌, ap, subst, arith, inl, inr}
use Rattle.sg_logic.specs.declared.values.Value.{Value}
use Rattle.sg_model.specs.Machine.{Machine, Violation}
use Rattle.sg_model.specs.Time.{Run, time_of}
use Rattle.sg_model.specs.Run.{times_from, lasts, last_change}
use Rattle.sg_model.proofs.RunSteps.{times-spent}
use Rattle.sim_times.specs.Times.{Kept, count_shown, evaluations_of}
use Rattle.sim_times.specs.Watching.{Call, AreCalls, Got, Broke, end_call}
use Rattle.sim_times.specs.Runs.{AllCallsFrom, CallsFrom, CallsMadeFrom, HasEndedFrom, HasEndedTimesFrom, HasStoppedFrom, IsEndOfCall, IsOriginOf, Origin, RunMade, Setting, StopMade, TimeEndsAs, TimeMade, changed_since, run_from, times_to}
use Rattle.sim_times.specs.declared.runs.SimEnd.{SimEnd}
use Rattle.sim_times.specs.declared.runs.SimEnd.TheVariants.{RoundsSpent, WatchFailed, NoMemory}
use Rattle.sim_times.proofs.CallLaws.{got_more, broke_more}
use Rattle.sim_times.proofs.RunLaws.{whole, times-append, times-evaluations, time-evaluations, CameTo, Came, AllCameTo, AllCame, setting_of}

-- so many times ended
ended_at : (s : Setting) (o : Origin) (n : ℕ) (run : Run) (found : List Violation) (changed : ℕ) → n ≤ o.left → run_from s o n ≡ whole run → found ≡ run.violations → changed ≡ changed_since o.last (last_change o.first (lasts run.snapshots)) → HasEndedTimesFrom s o n found changed
ended_at s o n run found changed l e v c = record {
  within = l;
  unspent = ap (λ f. f.spent) e;
  violations = v ∙ sym (ap (λ f. f.run.violations) e);
  last = c ∙ sym (ap (λ f. changed_since o.last (last_change o.first (lasts f.run.snapshots))) e);
}

calls_from : (s : Setting) (o : Origin) (n : ℕ) (run : Run) (made : List Call) → run_from s o n ≡ whole run → AreCalls o.first (lasts run.snapshots) (o.told ++ made) → CallsFrom s o n made
calls_from s o n run made e h = subst (λ f. AreCalls o.first (lasts f.run.snapshots) (o.told ++ made)) (sym e) h

-- the run over some times, from where the first of them ended
rest_of : (s : Setting) (o : Origin) (n left many now : ℕ) (run : Run) → run_from s o n ≡ whole run → n + left ≡ many → o.from + n ≡ now → run_from s o many ≡ times_from left s.bound s.machine s.sets now run
rest_of s o n left many now run e l at =
    ap (run_from s o) (sym l) ∙ (times-append n left s.bound s.machine s.sets o.from o.run run e ∙ ap (λ t. times_from left s.bound s.machine s.sets t run) at)

no_more : (s : Setting) (o : Origin) (n left many : ℕ) (run : Run) → run_from s o n ≡ whole run → n + left ≡ many → run.evaluations ≤ (run_from s o many).evaluations
no_more s o n left many run e l = subst (λ f. run.evaluations ≤ f.evaluations) (sym (rest_of s o n left many (o.from + n) run e l refl)) (times-evaluations left s.bound s.machine s.sets (o.from + n) run)

-- a time is as many times away as come before it
times_to_is : (from many time : ℕ) → from + many ≡ time → times_to from time ≡ many
times_to_is zero many time e = let is : time ≡ many = omega arith in is
times_to_is (suc from) many time e = let is : time - suc from ≡ many = omega arith in is

-- what was taken is what was counted
since : (a b c n steps : ℕ) → b ≡ steps + a → c + a ≡ b + n → c - steps ≡ n
since a b c n steps e f = omega arith

taken : (a b steps : ℕ) → b ≡ steps + a → b - steps ≡ a
taken a b steps e = omega arith

-- what a call leaves
abbrev pub CallEnds : {W S : Type 0} → (W → S → List Call → Type 0) → (W → S → List Call → Type 0) → W → W → S → S → List Call → Result (Unit {0}) SimEnd → Type 0
CallEnds standing broken w w' s s' made (Ok u) = Got standing w w' s s' made
CallEnds standing broken w w' s s' made (Err e) = Broke standing broken w w' s s' made

pub call_ends : {W S : Type 0} (standing broken : W → S → List Call → Type 0) (w w' : W) (s s' : S) (made : List Call) (result : Result (Unit {0}) SimEnd) → OnOk result (Got standing w w' s s' made) → OnErr result (Broke standing broken w w' s s' made) → CallEnds standing broken w w' s s' made result
call_ends standing broken w w' s s' made (Ok u) g b = g
call_ends standing broken w w' s s' made (Err e) g b = b

-- a time was spent, or there was no memory for it
ends_in_time : {W S : Type 0} (st : Setting) (o : Origin) (many now left : ℕ) (stands after : Run → Type 0) (kept : Kept) (standing broken : W → S → List Call → Type 0) (w w' : W) (s s' : S) (counted steps steps1 steps2 : ℕ) (c : CameTo st o now stands kept (λ made. Got standing w w' s s' made) steps steps1) (e : SimEnd)
    → TimeEndsAs (time_of st.bound st.machine st.sets now c.run) now c.run after counted steps1 steps2 (Err e) → c.times + suc left ≡ many → HasEndedTimesFrom st o c.times kept.violations kept.last
    → HasStoppedFrom standing broken w w' s s' st o many kept.violations kept.last (steps2 - steps) (Err e)
ends_in_time st o many now left stands after kept standing broken w w' s s' counted steps steps1 steps2 c (RoundsSpent time net) t l here =
    let n : ℕ = t.1.0 in
    let is : run_from st o many ≡ record { run = c.run; spent = Some (now, Some net); evaluations = n } =
    rest_of st o c.times (suc left) many now c.run c.upto l c.at ∙ times-spent left st.bound st.machine st.sets now c.run (Some net) n t.1.1 in
    let to : times_to o.from now ≡ c.times = times_to_is o.from c.times now c.at in
    let P : ℕ → Type 0 = λ x. HasStoppedFrom standing broken w w' s s' st o many kept.violations kept.last (steps2 - steps) (Err (RoundsSpent x net)) in
    subst P (sym t.0) (
      ap (λ f. f.spent) is,
      subst (λ x. HasEndedTimesFrom st o x kept.violations kept.last) (sym to) here,
      since c.run.evaluations steps1 steps2 n steps c.took t.1.2.taken ∙ sym (ap (λ f. f.evaluations) is),
      (c.made, subst (λ x. CallsFrom st o x c.made) (sym to) (calls_from st o c.times c.run c.made c.upto c.are), c.calls),
    )
ends_in_time st o many now left stands after kept standing broken w w' s s' counted steps steps1 steps2 c WatchFailed t l here = absurd t
ends_in_time st o many now left stands after kept standing broken w w' s s' counted steps steps1 steps2 c NoMemory t l here =
    let n : ℕ = t.0 in
    let le : evaluations_of (time_of st.bound st.machine st.sets now c.run) ≤ (run_from st o many).evaluations =
    subst (λ f. evaluations_of (time_of st.bound st.machine st.sets now c.run) ≤ f.evaluations) (sym (rest_of st o c.times (suc left) many now c.run c.upto l c.at)) (time-evaluations left st.bound st.machine st.sets now c.run) in
    let x : n ≤ evaluations_of (time_of st.bound st.machine st.sets now c.run) = t.1 in
    let y : steps2 - steps ≡ n = since c.run.evaluations steps1 steps2 n steps c.took t.2.taken in
    (through (steps2 - steps) n _ _ y x le, (c.times, here, (c.made, calls_from st o c.times c.run c.made c.upto c.are, inl c.calls)))
  where
    through : (a b d f : ℕ) → a ≡ b → b ≤ d → d ≤ f → a ≤ f
    through a b d f p q r = omega arith

counts_in_time : (st : Setting) (o : Origin) (now : ℕ) (stands after : Run → Type 0) (kept : Kept) (got : List Call → Type 0) (counted steps steps1 steps2 : ℕ) (c : CameTo st o now stands kept got steps steps1) (e : SimEnd)
    → TimeEndsAs (time_of st.bound st.machine st.sets now c.run) now c.run after counted steps1 steps2 (Err e) → counted ≡ count_shown (steps2 - steps)
counts_in_time st o now stands after kept got counted steps steps1 steps2 c (RoundsSpent time net) t = t.1.2.count ∙ ap count_shown (sym (since c.run.evaluations steps1 steps2 t.1.0 steps c.took t.1.2.taken))
counts_in_time st o now stands after kept got counted steps steps1 steps2 c WatchFailed t = absurd t
counts_in_time st o now stands after kept got counted steps steps1 steps2 c NoMemory t = t.2.count ∙ ap count_shown (sym (since c.run.evaluations steps1 steps2 t.0 steps c.took t.2.taken))

pub stopped_in_time : {W S : Type 0} (m : Machine) (sets : ℕ → List (ℕ × Value)) (bound from until now : ℕ) (stood : Run → Type 0) (before : Kept) (stands after late : Run → Type 0) (kept kept' : Kept) (standing broken : W → S → List Call → Type 0) (w w' : W) (s s' : S) (counted steps steps1 steps2 : ℕ) (e : SimEnd)
    → now ≤ until → AllCameTo m sets bound from until now stood before stands kept (λ made. Got standing w w' s s' made) steps steps1 → TimeMade m sets bound now stands after counted steps1 steps2 (Err e)
    → ((r : Run) → stands r → kept.violations ≡ r.violations) → kept' ≡ kept → StopMade m sets bound from until stood late before standing broken w w' s s' kept' counted (steps2 - steps) (Err e)
stopped_in_time m sets bound from until now stood before stands after late kept kept' standing broken w w' s s' counted steps steps1 steps2 e l came made holds same =
    subst (λ k. StopMade m sets bound from until stood late before standing broken w w' s s' k counted (steps2 - steps) (Err e)) (sym same)
    (record {
      ended = λ first end o u i h.
          (let c = came.each first end o u i h in
          let at : o.from + c.times ≡ now = c.at in
          let from_is : o.from ≡ from = i.at in
          let left : o.from + o.left ≡ suc end = i.is.left in
          let many : times_to from (suc until) ≡ c.times + suc (until - now) = times_to_is from (c.times + suc (until - now)) (suc until) (omega arith) in
          ends_in_time (setting_of m sets bound end first) o (times_to from (suc until)) now (until - now) stands after kept standing broken w w' s s' counted steps steps1 steps2 c e (made.each c.run c.stood) (sym many)
          (ended_at (setting_of m sets bound end first) o c.times c.run kept.violations kept.last (omega arith) c.upto (holds c.run c.stood) c.last));
      shown = λ end o u i h.
          (let c = came.each o.run.state end o u i h in
          counts_in_time (setting_of m sets bound end o.run.state) o now stands after kept (λ made. Got standing w w' s s' made) counted steps steps1 steps2 c e (made.each c.run c.stood));
      left = tt;
    })

-- the call of a time was refused
ends_in_call : {W S : Type 0} (st : Setting) (o : Origin) (many now left : ℕ) (stands : Run → Type 0) (kept : Kept) (standing broken : W → S → List Call → Type 0) (w w1 w2 : W) (s s1 s2 : S) (untold : List Call) (steps steps1 : ℕ) (c : Came st o now stands kept (λ made. Got standing w w1 s s1 made) untold steps steps1) (e : SimEnd)
    → IsEndOfCall (Err e) → Broke standing broken w1 w2 s1 s2 untold → suc c.times + left ≡ many → HasEndedTimesFrom st o (suc c.times) kept.violations kept.last
    → HasStoppedFrom standing broken w w2 s s2 st o many kept.violations kept.last (steps1 - steps) (Err e)
ends_in_call st o many now left stands kept standing broken w w1 w2 s s1 s2 untold steps steps1 c (RoundsSpent time net) x broke l here = absurd x
ends_in_call st o many now left stands kept standing broken w w1 w2 s s1 s2 untold steps steps1 c WatchFailed x broke l here = (
  suc c.times,
  here,
  taken c.run.evaluations steps1 steps c.took ∙ sym (ap (λ f. f.evaluations) c.upto),
  (c.made ++ untold, calls_from st o (suc c.times) c.run (c.made ++ untold) c.upto c.are, broke_more standing broken w w1 w2 s s1 s2 c.made untold c.calls broke),
)
ends_in_call st o many now left stands kept standing broken w w1 w2 s s1 s2 untold steps steps1 c NoMemory x broke l here = (
  subst (λ n. n ≤ (run_from st o many).evaluations) (sym (taken c.run.evaluations steps1 steps c.took)) (no_more st o (suc c.times) left many c.run c.upto l),
  (suc c.times, here, (c.made ++ untold, calls_from st o (suc c.times) c.run (c.made ++ untold) c.upto c.are, inr (broke_more standing broken w w1 w2 s s1 s2 c.made untold c.calls broke))),
)

pub stopped_in_call : {W S : Type 0} (m : Machine) (sets : ℕ → List (ℕ × Value)) (bound from until now : ℕ) (stood : Run → Type 0) (before : Kept) (stands late : Run → Type 0) (kept : Kept) (standing broken : W → S → List Call → Type 0) (w w1 w2 : W) (s s1 s2 : S) (untold : List Call) (counted steps steps1 : ℕ) (e : SimEnd)
    → now ≤ until → AllCame m sets bound from until now stood before stands kept (λ made. Got standing w w1 s s1 made) untold steps steps1 → IsEndOfCall (Err e) → Broke standing broken w1 w2 s1 s2 untold
    → ((r : Run) → stands r → kept.violations ≡ r.violations) → ((r : Run) → stands r → counted ≡ count_shown r.evaluations) → StopMade m sets bound from until stood late before standing broken w w2 s s2 kept counted (steps1 - steps) (Err e)
stopped_in_call m sets bound from until now stood before stands late kept standing broken w w1 w2 s s1 s2 untold counted steps steps1 e l came call broke holds counts = record {
  ended = λ first end o u i h.
      (let c = came.each first end o u i h in
      let at : o.from + c.times ≡ now = c.at in
      let from_is : o.from ≡ from = i.at in
      let left : o.from + o.left ≡ suc end = i.is.left in
      let many : times_to from (suc until) ≡ suc c.times + (until - now) = times_to_is from (suc c.times + (until - now)) (suc until) (omega arith) in
      ends_in_call (setting_of m sets bound end first) o (times_to from (suc until)) now (until - now) stands kept standing broken w w1 w2 s s1 s2 untold steps steps1 c e call broke (sym many)
      (ended_at (setting_of m sets bound end first) o (suc c.times) c.run kept.violations kept.last (omega arith) c.upto (holds c.run c.stood) c.last));
  shown = λ end o u i h. (let c = came.each o.run.state end o u i h in counts c.run c.stood ∙ ap count_shown (sym (taken c.run.evaluations steps1 steps c.took)));
  left = tt;
}

-- all of the times were made
pub all_made : {W S : Type 0} (m : Machine) (sets : ℕ → List (ℕ × Value)) (bound from until now : ℕ) (stood : Run → Type 0) (before : Kept) (stands : ℕ → Run → Type 0) (kept : Kept) (standing broken : W → S → List Call → Type 0) (w w' : W) (s s' : S) (counted steps steps1 : ℕ) (u : Unit {0})
    → until < now → now ≤ until + 1 → AllCameTo m sets bound from until now stood before (stands now) kept (λ made. Got standing w w' s s' made) steps steps1
    → ((r : Run) → stands now r → kept.violations ≡ r.violations) → ((r : Run) → stands now r → counted ≡ count_shown r.evaluations) → StopMade m sets bound from until stood (stands (until + 1)) before standing broken w w' s s' kept counted (steps1 - steps) (Ok u)
all_made m sets bound from until now stood before stands kept standing broken w w' s s' counted steps steps1 u over within came holds counts = record {
  ended = λ first end o l i h.
      (let c = came.each first end o l i h in
      let at : o.from + c.times ≡ now = c.at in
      let left : o.from + o.left ≡ suc end = i.is.left in
      let is : run_from (setting_of m sets bound end first) o (times_to from (suc until)) ≡ whole c.run = ap (run_from (setting_of m sets bound end first) o) (many c.times o.from i.at at) ∙ c.upto in (
        subst (λ n. HasEndedTimesFrom (setting_of m sets bound end first) o n kept.violations kept.last) (sym (many c.times o.from i.at at)) (ended_at (setting_of m sets bound end first) o c.times c.run kept.violations kept.last (omega arith) c.upto (holds c.run c.stood) c.last),
        taken c.run.evaluations steps1 steps c.took ∙ sym (ap (λ f. f.evaluations) is),
        (c.made, calls_from (setting_of m sets bound end first) o (times_to from (suc until)) c.run c.made is c.are, c.calls),
      ));
  shown = λ end o l i h. (let c = came.each o.run.state end o l i h in counts c.run c.stood ∙ ap count_shown (sym (taken c.run.evaluations steps1 steps c.took)));
  left = λ first end o l i h.
      (let c = came.each first end o l i h in
      let is : run_from (setting_of m sets bound end first) o (times_to from (suc until)) ≡ whole c.run = ap (run_from (setting_of m sets bound end first) o) (many c.times o.from i.at c.at) ∙ c.upto in
      subst (λ f. stands (until + 1) f.run) (sym is) (subst (λ n. stands n c.run) is_next c.stood));
}
  where
    is_next : now ≡ until + 1
    is_next = omega arith

    many : (times start : ℕ) → start ≡ from → start + times ≡ now → times_to from (suc until) ≡ times
    many times start p q = times_to_is from times (suc until) (omega arith)

-- they were all of the times to the end
all_left : (from end : ℕ) (before : Kept) (o : Origin) → IsOriginOf from end before o → times_to from (suc end) ≡ o.left
all_left from end before o i =
    let at : o.from ≡ from = i.at in
    let left : o.from + o.left ≡ suc end = i.is.left in
    times_to_is from o.left (suc end) (omega arith)

-- what ended a run before the last call ended the whole
ends_before : {W S : Type 0} (st : Setting) (o : Origin) (standing broken : W → S → List Call → Type 0) (w w' : W) (s s' : S) (found : List Violation) (changed taken : ℕ) (e : SimEnd) → HasStoppedFrom standing broken w w' s s' st o o.left found changed taken (Err e)
    → HasEndedFrom standing broken w w' s s' st o found changed taken (Err e)
ends_before st o standing broken w w' s s' found changed taken (RoundsSpent time net) h = h
ends_before st o standing broken w w' s s' found changed taken WatchFailed h = (h.0, h.1, h.2, (h.3.0, inl h.3.1, h.3.2))
ends_before st o standing broken w w' s s' found changed taken NoMemory h = (h.0, (h.1.0, h.1.1, at h.1.2.2))
  where
    at : Got standing w w' s s' h.1.2.0 ⊎ Broke standing broken w w' s s' h.1.2.0
        → ((made : List Call) × CallsFrom st o h.1.0 made × Got standing w w' s s' made) ⊎ ((made : List Call) × CallsMadeFrom st o h.1.0 made × Broke standing broken w w' s s' made)
    at (inl got) = inl (h.1.2.0, h.1.2.1, got)
    at (inr broke) = inr (h.1.2.0, inl h.1.2.1, broke)

pub stopped_before : {W S : Type 0} (m : Machine) (sets : ℕ → List (ℕ × Value)) (bound from end : ℕ) (stood late : Run → Type 0) (before : Kept) (standing broken : W → S → List Call → Type 0) (w w' : W) (s s' : S) (kept : Kept) (counted taken : ℕ) (e : SimEnd)
    → StopMade m sets bound from end stood late before standing broken w w' s s' kept counted taken (Err e) → RunMade m sets bound from end stood before standing broken w w' s s' kept counted taken (Err e)
stopped_before m sets bound from end stood late before standing broken w w' s s' kept counted taken e made = record {
  ended = λ first o i h.
      ends_before (setting_of m sets bound end first) o standing broken w w' s s' kept.violations kept.last taken e
      (subst (λ n. HasStoppedFrom standing broken w w' s s' (setting_of m sets bound end first) o n kept.violations kept.last taken (Err e)) (all_left from end before o i) (made.ended first end o (omega arith) i h));
  shown = λ o i h. made.shown end o (omega arith) i h;
}

-- all times were made, and so was the last call
ends_with : {W S : Type 0} (st : Setting) (o : Origin) (standing broken : W → S → List Call → Type 0) (w w1 w2 : W) (s s1 s2 : S) (values : List Value) (found : List Violation) (changed taken : ℕ) (u : Unit {0}) (result : Result (Unit {0}) SimEnd)
    → HasStoppedFrom standing broken w w1 s s1 st o o.left found changed taken (Ok u) → values ≡ (run_from st o o.left).run.state.values → IsEndOfCall result → CallEnds standing broken w1 w2 s1 s2 (end_call st.end values ∷ []) result
    → HasEndedFrom standing broken w w2 s s2 st o found changed taken result
ends_with st o standing broken w w1 w2 s s1 s2 values found changed taken u result h v x g = at result x g
  where
    front : List Call
    front = h.2.0

    made : List Call
    made = front ++ end_call st.end values ∷ []

    all : AllCallsFrom st o made
    all = record { calls = front; are = h.2.1; all = ap (λ vs. front ++ end_call st.end vs ∷ []) v }

    at : (result : Result (Unit {0}) SimEnd) → IsEndOfCall result → CallEnds standing broken w1 w2 s1 s2 (end_call st.end values ∷ []) result → HasEndedFrom standing broken w w2 s s2 st o found changed taken result
    at (Ok v) x g = (h.0, h.1, (made, all, got_more standing w w1 w2 s s1 s2 front (end_call st.end values ∷ []) h.2.2 g))
    at (Err (RoundsSpent time net)) x g = absurd x
    at (Err WatchFailed) x g = (o.left, h.0, h.1, (made, inr (refl, all), broke_more standing broken w w1 w2 s s1 s2 front (end_call st.end values ∷ []) h.2.2 g))
    at (Err NoMemory) x g = (subst (λ n. n ≤ (run_from st o o.left).evaluations) (sym h.1) (omega arith), (o.left, h.0, inr (made, inr (refl, all), broke_more standing broken w w1 w2 s s1 s2 front (end_call st.end values ∷ []) h.2.2 g)))

pub all_told : {W S : Type 0} (m : Machine) (sets : ℕ → List (ℕ × Value)) (bound from end : ℕ) (stood late : Run → Type 0) (before : Kept) (standing broken : W → S → List Call → Type 0) (w w1 w2 : W) (s s1 s2 : S) (values : List Value) (kept : Kept) (counted taken : ℕ) (u : Unit {0}) (result : Result (Unit {0}) SimEnd)
    → StopMade m sets bound from end stood late before standing broken w w1 s s1 kept counted taken (Ok u) → ((r : Run) → late r → values ≡ r.state.values)
    → IsEndOfCall result → CallEnds standing broken w1 w2 s1 s2 (end_call end values ∷ []) result → RunMade m sets bound from end stood before standing broken w w2 s s2 kept counted taken result
all_told m sets bound from end stood late before standing broken w w1 w2 s s1 s2 values kept counted taken u result made shows call told_last = record {
  ended = λ first o i h.
      (let st : Setting = setting_of m sets bound end first in
      let is : times_to from (suc end) ≡ o.left = all_left from end before o i in
      ends_with st o standing broken w w1 w2 s s1 s2 values kept.violations kept.last taken u result
      (subst (λ n. HasStoppedFrom standing broken w w1 s s1 st o n kept.violations kept.last taken (Ok u)) is (made.ended first end o (omega arith) i h))
      (shows (run_from st o o.left).run (subst (λ n. late (run_from st o n).run) is (made.left first end o (omega arith) i h)))
      call told_last);
  shown = λ o i h. made.shown end o (omega arith) i h;
}
