-- A run whose times all ended, in two parts, and the snapshots that its times leave.
use Rattle.std.specs.Prelude.{◌≡◌, ℕ, zero, suc, ◌+◌, ◌≤◌, ◌==◌, List, [], ◌∷◌, ◌++◌, Some, None, refl}
use Rattle.std.proofs.Common.{sym, ◌∙◌, ap, subst, arith}
use Rattle.sg_logic.specs.declared.values.Value.{Value}
use Rattle.sg_model.specs.Machine.{Machine, Snapshot}
use Rattle.sg_model.specs.Time.{Run, Ended, Whole, Spent, time_of}
use Rattle.sg_model.specs.Run.{Finished, times_from}
use Rattle.sg_model.proofs.RunSteps.{times-none, times-whole, times-spent}
use Rattle.sg_model.proofs.SnapshotLaws.{AllAt, AddsSnapshots, rounds-snapshots}
use Rattle.time_checks.specs.Falling.{DontFall}

-- the next time ended, and the run goes on from it
pub record NextEnded (left bound : ℕ) (m : Machine) (sets : ℕ → List (ℕ × Value)) (now : ℕ) (r : Run) : Type 0 where
  pub next : Run
  pub ended : time_of bound m sets now r ≡ Whole next
  pub on : times_from (suc left) bound m sets now r ≡ times_from left bound m sets (suc now) next
  pub unspent : (times_from left bound m sets (suc now) next).spent ≡ None

-- a run is the rest of one that goes on from where its first times ended
pub record IsSplit (whole first : Finished) (rest : Run → Finished) : Type 0 where
  pub unspent : first.spent ≡ None
  pub is : whole ≡ rest first.run

-- its last snapshot is that of a time, and no time is later or falls
pub record HasCome (time : ℕ) (r : Run) : Type 0 where
  pub older : List Snapshot
  pub is : r.snapshots ≡ record { time = time; values = r.state.values } ∷ older
  pub falls : DontFall time older

falls_on : (now : ℕ) (newer old : List Snapshot) → AllAt now newer → DontFall now old → DontFall now (newer ++ old)
falls_on now [] old at falls = falls
falls_on now (s ∷ newer) old at falls =
    let here : s.time ≡ now = at.0 in
    (omega arith, subst (λ t. DontFall t (newer ++ old)) (sym here) (falls_on now newer old at.1 falls))

come_falls : (time later : ℕ) (r : Run) → HasCome time r → time ≤ later → DontFall later r.snapshots
come_falls time later r h l = subst (DontFall later) (sym h.is) (l, h.falls)

module _ (bound : ℕ) (m : Machine) (sets : ℕ → List (ℕ × Value)) where
  pub next_ended : (left now : ℕ) (r : Run) → (times_from (suc left) bound m sets now r).spent ≡ None → NextEnded left bound m sets now r
  next_ended left now r unspent = at (time_of bound m sets now r) refl
    where
      at : (end : Ended) → time_of bound m sets now r ≡ end → NextEnded left bound m sets now r
      at (Whole next) e =
          let on : times_from (suc left) bound m sets now r ≡ times_from left bound m sets (suc now) next = times-whole left bound m sets now r next e in
          record { next = next; ended = e; on = on; unspent = sym (ap (λ (f : Finished). f.spent) on) ∙ unspent }
      at (Spent net evaluations) e = absurd (let k : Some (now, net) ≡ None = sym (ap (λ (f : Finished). f.spent) (times-spent left bound m sets now r net evaluations e)) ∙ unspent in cc)

  pub times_split : (a b now : ℕ) (r : Run) → (times_from (a + b) bound m sets now r).spent ≡ None
      → IsSplit (times_from (a + b) bound m sets now r) (times_from a bound m sets now r) (λ q. times_from b bound m sets (now + a) q)
  times_split zero b now r unspent =
      let n : zero + b ≡ b = omega arith in
      let t : now ≡ now + zero = omega arith in
      let none : times_from zero bound m sets now r ≡ record { run = r; spent = None; evaluations = r.evaluations } = times-none bound m sets now r in
      record {
        unspent = ap (λ (f : Finished). f.spent) none;
        is = ap (λ k. times_from k bound m sets now r) n ∙ (ap (λ x. times_from b bound m sets x r) t ∙ ap (λ (f : Finished). times_from b bound m sets (now + zero) f.run) (sym none));
      }
  times_split (suc a) b now r unspent =
      let n : suc a + b ≡ suc (a + b) = omega arith in
      let t : suc now + a ≡ now + suc a = omega arith in
      let e = next_ended (a + b) now r (subst (λ k. (times_from k bound m sets now r).spent ≡ None) n unspent) in
      let rest = times_split a b (suc now) e.next e.unspent in
      let first : times_from (suc a) bound m sets now r ≡ times_from a bound m sets (suc now) e.next = times-whole a bound m sets now r e.next e.ended in
      record {
        unspent = ap (λ (f : Finished). f.spent) first ∙ rest.unspent;
        is = ap (λ k. times_from k bound m sets now r) n
            ∙ (e.on ∙ (rest.is ∙ (ap (λ x. times_from b bound m sets x (times_from a bound m sets (suc now) e.next).run) t ∙ ap (λ (f : Finished). times_from b bound m sets (now + suc a) f.run) (sym first))));
      }

  time_comes : (now : ℕ) (r next : Run) → DontFall now r.snapshots → time_of bound m sets now r ≡ Whole next → HasCome now next
  time_comes now r next falls e =
      let a : AddsSnapshots now r next = rounds-snapshots bound m now (now == 0) (sets now) r next e in
      record { older = a.newer ++ r.snapshots; is = a.is; falls = falls_on now a.newer r.snapshots a.at falls }

  pub times_come : (left now : ℕ) (r : Run) → DontFall now r.snapshots → (times_from (suc left) bound m sets now r).spent ≡ None → HasCome (now + left) (times_from (suc left) bound m sets now r).run
  times_come zero now r falls unspent =
      let t : now ≡ now + zero = omega arith in
      let e = next_ended zero now r unspent in
      let is : times_from (suc zero) bound m sets now r ≡ record { run = e.next; spent = None; evaluations = e.next.evaluations } = e.on ∙ times-none bound m sets (suc now) e.next in
      subst (λ (f : Finished). HasCome (now + zero) f.run) (sym is) (subst (λ x. HasCome x e.next) t (time_comes now r e.next falls e.ended))
  times_come (suc left) now r falls unspent =
      let t : suc now + left ≡ now + suc left = omega arith in
      let e = next_ended (suc left) now r unspent in
      let rest = times_come left (suc now) e.next (come_falls now (suc now) e.next (time_comes now r e.next falls e.ended) (omega arith)) e.unspent in
      subst (λ (f : Finished). HasCome (now + suc left) f.run) (sym e.on) (subst (λ x. HasCome x (times_from (suc left) bound m sets (suc now) e.next).run) t rest)
