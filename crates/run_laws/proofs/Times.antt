-- The times of a run, one after another, under sets of nets that leave them alike.
use Rattle.std.specs.Prelude.{◌≡◌, ℕ, zero, suc, ◌+◌, ◌<◌, ◌==◌, true, false, List, [], length, Some, None, refl}
use Rattle.std.proofs.Common.{sym, ◌∙◌, ap, subst, arith}
use Rattle.sg_logic.specs.declared.values.Value.{Value}
use Rattle.sg_model.specs.Machine.{Machine}
use Rattle.sg_model.specs.Round.{values_after}
use Rattle.sg_model.specs.Time.{Run, Ended, Whole, Spent, time_of}
use Rattle.sg_model.specs.Run.{Finished, times_from}
use Rattle.sg_model.specs.FanOut.{IsSteady}
use Rattle.sg_model.proofs.RunSteps.{times-none, times-whole, times-spent}
use Rattle.fan_round.specs.Rounds.{AreSettled}
use Rattle.run_laws.proofs.Rounds.{Again, Like, Settled, first_again, rounds_settle}

-- at each time that a run reaches, other sets leave the nets alike, and are none where its own are none
pub record SetsAlike (m : Machine) (sets sets' : ℕ → List (ℕ × Value)) (bound end : ℕ) (Reached : ℕ → Run → Type 0) : Type 0 where
  pub next : (t : ℕ) (r next : Run) → t < end → Reached t r → time_of bound m sets t r ≡ Whole next → Reached (suc t) next
  pub same : (t : ℕ) (r next : Run) → t < end → Reached t r → time_of bound m sets t r ≡ Whole next → values_after m t (sets' t) r.state ≡ values_after m t (sets t) r.state
  pub none : (t : ℕ) (r next : Run) → 0 < t → t < end → Reached t r → time_of bound m sets t r ≡ Whole next → sets t ≡ [] → sets' t ≡ []

pub record SameEnd (f g : Finished) : Type 0 where
  pub whole : g.spent ≡ None
  pub like : Like f.run g.run

positive : (n : ℕ) → (n == 0) ≡ false → 0 < n
positive zero h = absurd (let q : true ≡ false = h in cc)
positive (suc n) h = omega arith

pub times_again : (n bound : ℕ) (m : Machine) → IsSteady m → (sets sets' : ℕ → List (ℕ × Value)) (now end : ℕ) (Reached : ℕ → Run → Type 0) (r q : Run) → now + n ≡ end → SetsAlike m sets sets' bound end Reached → Reached now r → Like r q
    → length r.state.states ≡ length r.state.lists → ((now == 0) ≡ false → AreSettled m r.state.values r.state.lists r.state.states) → (times_from n bound m sets now r).spent ≡ None
    → SameEnd (times_from n bound m sets now r) (times_from n bound m sets' now q)
times_again zero bound m steady sets sets' now end Reached r q l alike here h many settled none = record {
  whole = ap (λ f. f.spent) (times-none bound m sets' now q);
  like = subst (λ x. Like x.run (times_from zero bound m sets' now q).run) (sym (times-none bound m sets now r)) (subst (λ x. Like r x.run) (sym (times-none bound m sets' now q)) h);
}
times_again (suc n) bound m steady sets sets' now end Reached r q l alike here h many settled none =
    at (time_of bound m sets now r) refl (λ r' q' here' h' s. times_again n bound m steady sets sets' (suc now) end Reached r' q' (omega arith) alike here' h' s.many (λ e. s.settled))
  where
    at : (e : Ended) → time_of bound m sets now r ≡ e
        → ((r' q' : Run) → Reached (suc now) r' → Like r' q' → Settled m r' → (times_from n bound m sets (suc now) r').spent ≡ None → SameEnd (times_from n bound m sets (suc now) r') (times_from n bound m sets' (suc now) q'))
        → SameEnd (times_from (suc n) bound m sets now r) (times_from (suc n) bound m sets' now q)
    at (Spent net evaluations) e rest = absurd (let k : Some (now, net) ≡ None = sym (ap (λ f. f.spent) (times-spent n bound m sets now r net evaluations e)) ∙ none in cc)
    at (Whole next) e rest =
        let early : now < end = omega arith in
        let a : Again next (time_of bound m sets' now q) = first_again m steady now bound (now == 0) (sets now) (sets' now) r q next h (record {
          same = alike.same now r next early here e;
          none = λ f. alike.none now r next (positive now f) early here e;
          many = many;
          settled = settled;
        }) e in
        let on : times_from (suc n) bound m sets now r ≡ times_from n bound m sets (suc now) next = times-whole n bound m sets now r next e in
        let on' : times_from (suc n) bound m sets' now q ≡ times_from n bound m sets' (suc now) a.run = times-whole n bound m sets' now q a.run a.is in
        let s = rounds_settle m now bound (now == 0) (sets now) r next many settled e in
        let end_is = rest next a.run (alike.next now r next early here e) a.like s (sym (ap (λ f. f.spent) on) ∙ none) in
        subst (λ x. SameEnd x (times_from (suc n) bound m sets' now q)) (sym on) (subst (λ x. SameEnd (times_from n bound m sets (suc now) next) x) (sym on') end_is)
