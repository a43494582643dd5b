-- The rounds of a time, one turn after another.
use Rattle.std.specs.Prelude.{◌≡◌, ℕ, zero, suc, ◌+◌, ◌≤◌, Bool, true, false, if◌then◌else◌, List, [], refl}
use Rattle.std.proofs.Common.{sym, ◌∙◌, ap, subst, arith}
use Rattle.sg_logic.specs.declared.values.Value.{Value}
use Rattle.sg_model.specs.Machine.{Machine}
use Rattle.sg_model.specs.Round.{round}
use Rattle.sg_model.specs.Time as model
use Rattle.sg_model.specs.Time.{Run, Ended, rounds, needs_round, with_round, with_snapshot, flips_of, is_empty, spent_net, count_differing}
use Rattle.sg_model.proofs.RunSteps.{rounds-round, rounds-spent, rounds-toggle, rounds-toggle_spent, rounds-whole}
use Rattle.sim_times.specs.declared.times.Turn.TheVariants as turn
use Rattle.sim_times.specs.declared.times.Turn.{Turn}
use Rattle.sim_times.specs.declared.times.TimeEnd.{TimeEnd}
use Rattle.sim_times.specs.declared.times.TimeEnd.TheVariants.{Whole, Spent, NoMemory}
use Rattle.sim_times.specs.Times.{count_shown, Took, IsCounted, evaluations_of, Needs, AfterRound, AfterSnapshot, Names, WentOn, EndedWhole, StopsWithin, TurnEnds, ToggledOn, NothingToggled, NoneEvaluated, ToggleEnds, EndsAs, RoundsEnd}

-- the rounds of a time never evaluate fewer than before them
pub rounds-evaluations : (left : ℕ) (m : Machine) (now : ℕ) (must : Bool) (handed : List (ℕ × Value)) (r : Run) → r.evaluations ≤ evaluations_of (rounds left m now must handed r)
unfolding rounds
rounds-evaluations zero m now must handed r = at (needs_round now must handed r.state) (is_empty (flips_of m (with_snapshot m now r)))
  where
    same : r.evaluations ≤ r.evaluations
    same = omega arith

    at : (b c : Bool) → r.evaluations ≤ evaluations_of (if b then model.Spent (spent_net m now handed r) r.evaluations else (if c then model.Whole (with_snapshot m now r) else model.Spent (spent_net m now (flips_of m (with_snapshot m now r)) (with_snapshot m now r)) r.evaluations))
    at true c = same
    at false true = same
    at false false = same
rounds-evaluations (suc left) m now must handed r = at (needs_round now must handed r.state) (is_empty (flips_of m (with_snapshot m now r))) (λ handed r. rounds-evaluations left m now false handed r)
  where
    more : (a b c : ℕ) → a + b ≤ c → a ≤ c
    more a b c h = omega arith

    at : (b c : Bool) → ((handed : List (ℕ × Value)) (r : Run) → r.evaluations ≤ evaluations_of (rounds left m now false handed r))
        → r.evaluations ≤ evaluations_of (if b then rounds left m now false [] (with_round m now must handed r) else (if c then model.Whole (with_snapshot m now r) else rounds left m now false [] (with_round m now false (flips_of m (with_snapshot m now r)) (with_snapshot m now r))))
    at true c rest = more r.evaluations (if must then _ else _) _ (rest [] (with_round m now must handed r))
    at false true rest = omega arith
    at false false rest = more r.evaluations (count_differing r.state.values (round m now (flips_of m (with_snapshot m now r)) r.state).values m.inputs) _ (rest [] (with_round m now false (flips_of m (with_snapshot m now r)) (with_snapshot m now r)))

-- nothing more was counted
pub counted_same : (r : Run) (counted counted' steps steps' : ℕ) → counted ≡ count_shown r.evaluations → counted' ≡ counted → steps' ≡ steps → IsCounted r.evaluations r counted' steps steps'
counted_same r counted counted' steps steps' e f g = record { count = f ∙ e; taken = ap (λ n. n + r.evaluations) g }

-- a round was needed and took place
pub went_round : (m : Machine) (now : ℕ) (must : Bool) (handed same : List (ℕ × Value)) (stands mid after : Run → Type 0) (steps steps' : ℕ) (answer : Bool) → answer ≡ true → Needs now must handed stands answer → same ≡ handed
    → ((r : Run) → stands r → mid r) → AfterRound m now must same mid after steps steps' → WentOn m now must handed stands after steps steps'
went_round m now must handed same stands mid after steps steps' answer e needs h keeps went = record {
  each = λ r k.
      (let a = subst (λ x. AfterRound m now must x mid after steps steps') h went in
      let w = a.each r (keeps r k) in
      (with_round m now must handed r, w.0, w.1, λ left. rounds-round left m now must handed r (sym (needs.each r k) ∙ e)));
}

-- it was needed and there was no memory for it
pub stopped_round : (m : Machine) (now : ℕ) (must : Bool) (handed : List (ℕ × Value)) (stands : Run → Type 0) (counted counted' steps steps' : ℕ) → ((r : Run) → stands r → counted ≡ count_shown r.evaluations) → counted' ≡ counted → steps' ≡ steps
    → StopsWithin m now must handed stands counted' steps steps'
stopped_round m now must handed stands counted counted' steps steps' counts e f = record {
  each = λ r k. (r.evaluations, counted_same r counted counted' steps steps' (counts r k) e f, λ left. rounds-evaluations left m now must handed r);
}

-- no round was needed, and what then came of a snapshot
pub turned_toggle : (m : Machine) (now : ℕ) (must : Bool) (handed : List (ℕ × Value)) (stands mid after : Run → Type 0) (counted steps steps' : ℕ) (answer : Bool) (end : Turn) → answer ≡ false → Needs now must handed stands answer
    → ((r : Run) → stands r → mid r) → ToggleEnds m now mid after counted steps steps' end → TurnEnds m now must handed stands after counted steps steps' end
turned_toggle m now must handed stands mid after counted steps steps' answer turn.Round e needs keeps t = record {
  each = λ r k.
      (let s : Run = with_snapshot m now r in
      let w = t.each r (keeps r k) in
      (with_round m now false (flips_of m s) s, w.1, w.2, λ left. rounds-toggle left m now must handed r (sym (needs.each r k) ∙ e) w.0));
}
turned_toggle m now must handed stands mid after counted steps steps' answer turn.End e needs keeps t = record {
  each = λ r k.
      (let w = t.each r (keeps r k) in
      (with_snapshot m now r, w.1, ap (λ n. n + r.evaluations) w.2, λ left. rounds-whole left m now must handed r (sym (needs.each r k) ∙ e) w.0));
}
turned_toggle m now must handed stands mid after counted steps steps' answer turn.NoMemory e needs keeps t = record {
  each = λ r k. (r.evaluations, t.each r (keeps r k), λ left. rounds-evaluations left m now must handed r);
}

-- the toggles took place
pub toggled_round : (m m' : Machine) (now : ℕ) (flips : List (ℕ × Value)) (stands mid after : Run → Type 0) (steps steps' : ℕ) → m' ≡ m → AfterSnapshot m now stands mid flips → is_empty flips ≡ false → AfterRound m' now false flips mid after steps steps'
    → ToggledOn m now stands after steps steps'
toggled_round m m' now flips stands mid after steps steps' e snap some went = record {
  each = λ r k.
      (let s : Run = with_snapshot m now r in
      let a = snap.each r k in
      let w = (subst (λ x. AfterRound m now false x mid after steps steps') a.1 (subst (λ x. AfterRound x now false flips mid after steps steps') e went)).each s a.0 in
      (ap is_empty (sym a.1) ∙ some, w.0, w.1));
}

pub nothing_toggled : (m : Machine) (now : ℕ) (flips : List (ℕ × Value)) (stands after : Run → Type 0) (steps : ℕ) → AfterSnapshot m now stands after flips → is_empty flips ≡ true → NothingToggled m now stands after steps steps
nothing_toggled m now flips stands after steps snap none = record {
  each = λ r k. (let a = snap.each r k in (ap is_empty (sym a.1) ∙ none, a.0, refl));
}

pub none_evaluated : (stands : Run → Type 0) (counted counted' steps steps' : ℕ) → ((r : Run) → stands r → counted ≡ count_shown r.evaluations) → counted' ≡ counted → steps' ≡ steps → NoneEvaluated stands counted' steps steps'
none_evaluated stands counted counted' steps steps' counts e f = record { each = λ r k. counted_same r counted counted' steps steps' (counts r k) e f }

-- no round was left for a pending transition
pub spent_due : (m m' : Machine) (now : ℕ) (same : List (ℕ × Value)) (stands mid after : Run → Type 0) (counted counted' : ℕ) (net : ℕ) (answer : Bool) → m' ≡ m → answer ≡ true → Needs now false [] stands answer → same ≡ []
    → ((r : Run) → stands r → mid r) → Names m' now same mid net → ((r : Run) → stands r → counted ≡ count_shown r.evaluations) → counted' ≡ counted → RoundsEnd 0 m now false [] stands after counted' 0 0 (Spent net)
spent_due m m' now same stands mid after counted counted' net answer p e needs h keeps names counts f = record {
  each = λ r k.
      (let n = subst (λ x. Names m now x mid net) h (subst (λ x. Names x now same mid net) p names) in
      (r.evaluations, rounds-spent m now false [] r (sym (needs.each r k) ∙ e) ∙ ap (λ x. model.Spent x r.evaluations) (n.each r (keeps r k)), counted_same r counted counted' 0 0 (counts r k) f refl));
}

-- no round was left for a toggle
pub spent_toggle : (m m1 m2 : Machine) (now : ℕ) (flips : List (ℕ × Value)) (stands mid late after : Run → Type 0) (counted counted' : ℕ) (net : ℕ) (answer : Bool) → m1 ≡ m → m2 ≡ m → answer ≡ false → Needs now false [] stands answer
    → ((r : Run) → stands r → mid r) → AfterSnapshot m1 now mid late flips → is_empty flips ≡ false → Names m2 now flips late net → ((r : Run) → stands r → counted ≡ count_shown r.evaluations) → counted' ≡ counted
    → RoundsEnd 0 m now false [] stands after counted' 0 0 (Spent net)
spent_toggle m m1 m2 now flips stands mid late after counted counted' net answer p q e needs keeps snap some names counts f = record {
  each = λ r k.
      (let s : Run = with_snapshot m now r in
      let a = (subst (λ x. AfterSnapshot x now mid late flips) p snap).each r (keeps r k) in
      let n = subst (λ x. Names m now x late net) a.1 (subst (λ x. Names x now flips late net) q names) in
      (r.evaluations, rounds-toggle_spent m now false [] r (sym (needs.each r k) ∙ e) (ap is_empty (sym a.1) ∙ some) ∙ ap (λ x. model.Spent x r.evaluations) (n.each s a.0), counted_same r counted counted' 0 0 (counts r k) f refl));
}

-- nothing was left to do
pub whole_last : (m m1 : Machine) (now : ℕ) (flips : List (ℕ × Value)) (stands mid after : Run → Type 0) (counted : ℕ) (answer : Bool) → m1 ≡ m → answer ≡ false → Needs now false [] stands answer
    → ((r : Run) → stands r → mid r) → AfterSnapshot m1 now mid after flips → is_empty flips ≡ true → RoundsEnd 0 m now false [] stands after counted 0 0 Whole
whole_last m m1 now flips stands mid after counted answer p e needs keeps snap none = record {
  each = λ r k.
      (let s : Run = with_snapshot m now r in
      let a = (subst (λ x. AfterSnapshot x now mid after flips) p snap).each r (keeps r k) in
      (s, rounds-whole 0 m now false [] r (sym (needs.each r k) ∙ e) (ap is_empty (sym a.1) ∙ none), a.0, refl));
}

pub no_memory_last : (m : Machine) (now : ℕ) (stands after : Run → Type 0) (counted counted' : ℕ) → ((r : Run) → stands r → counted ≡ count_shown r.evaluations) → counted' ≡ counted → RoundsEnd 0 m now false [] stands after counted' 0 0 NoMemory
no_memory_last m now stands after counted counted' counts f = record {
  each = λ r k. (r.evaluations, rounds-evaluations 0 m now false [] r, counted_same r counted counted' 0 0 (counts r k) f refl);
}

-- from what is left comes what all comes to
pub record StillGoes (left bound : ℕ) (m : Machine) (now : ℕ) (must first : Bool) (later handed : List (ℕ × Value)) (stands after : Run → Type 0) (steps steps' : ℕ) : Type 0 where
  pub each : (r : Run) → stands r → (next : Run) × after next × Took steps steps' r next × (rounds bound m now first handed r ≡ rounds left m now must later next)

pub still_starts : (bound : ℕ) (m : Machine) (now : ℕ) (first : Bool) (handed : List (ℕ × Value)) (stands : Run → Type 0) (steps left : ℕ) → left ≡ bound → StillGoes left bound m now first first handed handed stands stands steps steps
still_starts bound m now first handed stands steps left e = record { each = λ r h. (r, h, refl, ap (λ n. rounds n m now first handed r) (sym e)) }

took_on : (a b c : Run) (s s1 s2 : ℕ) → Took s s1 a b → Took s1 s2 b c → Took s s2 a c
took_on a b c s s1 s2 h k = let x : s1 + a.evaluations ≡ s + b.evaluations = h in let y : s2 + b.evaluations ≡ s1 + c.evaluations = k in omega arith

pub still_goes : (left bound : ℕ) (m : Machine) (now : ℕ) (must first : Bool) (later later' handed : List (ℕ × Value)) (stands mid after : Run → Type 0) (steps steps1 steps2 : ℕ) → StillGoes (suc left) bound m now must first later handed stands mid steps steps1
    → WentOn m now must later mid after steps1 steps2 → later' ≡ [] → StillGoes left bound m now false first later' handed stands after steps steps2
still_goes left bound m now must first later later' handed stands mid after steps steps1 steps2 still went none = record {
  each = λ r h.
      (let a = still.each r h in
      let w = went.each a.0 a.1 in
      (w.0, w.1, took_on r a.0 w.0 steps steps1 steps2 a.2 w.2, a.3 ∙ (w.3 left ∙ ap (λ x. rounds left m now false x w.0) (sym none))));
}

-- the time ended in a turn
pub still_whole : (left bound : ℕ) (m : Machine) (now : ℕ) (must first : Bool) (later handed : List (ℕ × Value)) (stands mid after : Run → Type 0) (counted steps steps1 steps2 : ℕ) → StillGoes left bound m now must first later handed stands mid steps steps1
    → EndedWhole m now must later mid after steps1 steps2 → RoundsEnd bound m now first handed stands after counted steps steps2 Whole
still_whole left bound m now must first later handed stands mid after counted steps steps1 steps2 still whole = record {
  each = λ r h.
      (let a = still.each r h in
      let w = whole.each a.0 a.1 in
      (w.0, a.3 ∙ w.3 left, w.1, took_on r a.0 w.0 steps steps1 steps2 a.2 w.2));
}

counted_since : (n : ℕ) (a b : Run) (counted s s1 s2 : ℕ) → Took s s1 a b → IsCounted n b counted s1 s2 → IsCounted n a counted s s2
counted_since n a b counted s s1 s2 h k = let x : s1 + a.evaluations ≡ s + b.evaluations = h in let y : s2 + b.evaluations ≡ s1 + n = k.taken in record { count = k.count; taken = omega arith }

pub still_stopped : (left bound : ℕ) (m : Machine) (now : ℕ) (must first : Bool) (later handed : List (ℕ × Value)) (stands mid after : Run → Type 0) (counted steps steps1 steps2 : ℕ) → StillGoes left bound m now must first later handed stands mid steps steps1
    → StopsWithin m now must later mid counted steps1 steps2 → RoundsEnd bound m now first handed stands after counted steps steps2 NoMemory
still_stopped left bound m now must first later handed stands mid after counted steps steps1 steps2 still stopped = record {
  each = λ r h.
      (let a = still.each r h in
      let w = stopped.each a.0 a.1 in
      (w.0, subst (λ e. w.0 ≤ evaluations_of e) (sym a.3) (w.2 left), counted_since w.0 r a.0 counted steps steps1 steps2 a.2 w.1));
}

-- and with no round left
ends_since : (e f : Ended) (a b : Run) (after : Run → Type 0) (counted s s1 : ℕ) (end : TimeEnd) → e ≡ f → Took s s1 a b → EndsAs f b after counted 0 0 end → EndsAs e a after counted s s1 end
ends_since e f a b after counted s s1 Whole q h k =
    let x : s1 + a.evaluations ≡ s + b.evaluations = h in
    let next : Run = k.0 in
    let y : 0 + b.evaluations ≡ 0 + next.evaluations = k.3 in
    (next, q ∙ k.1, k.2, (let z : s1 + a.evaluations ≡ s + next.evaluations = omega arith in z))
ends_since e f a b after counted s s1 (Spent net) q h k =
    let x : s1 + a.evaluations ≡ s + b.evaluations = h in
    let y : 0 + b.evaluations ≡ 0 + k.0 = k.2.taken in
    (k.0, q ∙ k.1, record { count = k.2.count; taken = omega arith })
ends_since e f a b after counted s s1 NoMemory q h k =
    let x : s1 + a.evaluations ≡ s + b.evaluations = h in
    let y : 0 + b.evaluations ≡ 0 + k.0 = k.2.taken in
    (k.0, subst (λ z. k.0 ≤ evaluations_of z) (sym q) k.1, record { count = k.2.count; taken = omega arith })

pub still_ends : (bound : ℕ) (m : Machine) (now : ℕ) (must first : Bool) (later handed : List (ℕ × Value)) (stands mid after : Run → Type 0) (counted steps steps1 left : ℕ) (end : TimeEnd) → left ≡ 0 → must ≡ false → later ≡ [] → StillGoes left bound m now must first later handed stands mid steps steps1
    → RoundsEnd 0 m now false [] mid after counted 0 0 end → RoundsEnd bound m now first handed stands after counted steps steps1 end
still_ends bound m now must first later handed stands mid after counted steps steps1 left end z n none still ends = record {
  each = λ r h.
      (let a = still.each r h in
      let same : rounds left m now must later a.0 ≡ rounds 0 m now false [] a.0 = ap (λ k. rounds k m now must later a.0) z ∙ (ap (λ b. rounds 0 m now b later a.0) n ∙ ap (λ x. rounds 0 m now false x a.0) none) in
      ends_since _ _ r a.0 after counted steps steps1 end (a.3 ∙ same) a.2 (ends.each a.0 a.1));
}

-- where nothing is handed in
pub needs_none : (now : ℕ) (must : Bool) (handed : List (ℕ × Value)) (stands : Run → Type 0) (answer : Bool) → handed ≡ [] → Needs now must handed stands answer → Needs now must [] stands answer
needs_none now must handed stands answer e h = subst (λ x. Needs now must x stands answer) e h
