-- The calls that a watcher of a run gets, and what it and a shelf stand for.
use Rattle.std.specs.Prelude.{◌≡◌, ℕ, pos, true, false, List, [], ◌∷◌, ◌++◌, All, map}
use Rattle.sg_logic.specs.declared.values.Value.{Value}
use Rattle.sg_circuit.specs.Circuit.{Circuit}
use Rattle.sg_model.specs.Values.{are_same, value_at}
use Rattle.sg_model.specs.Machine.{Snapshot}
use Rattle.fan_round.specs.Lists.{IsListOf}
use Rattle.fan_round.specs.Nets.{differs}
use Rattle.time_checks.specs.declared.changes.Change.{Change}

-- a net that changed
pub record NetChange : Type 0 where
  pub net : ℕ
  pub before : Value
  pub after : Value

-- one call: the time, the nets that changed since the call before, and all nets as they are
pub record Call : Type 0 where
  pub time : ℕ
  pub changed : List NetChange
  pub values : List Value

-- these are the nets whose values differ, each once, in any order
pub record AreDifferences (before after : List Value) (changed : List NetChange) : Type 0 where
  pub nets : IsListOf (differs before after) (map (λ c. c.net) changed)
  pub values : All (λ c. (c.before ≡ value_at before c.net) × (c.after ≡ value_at after c.net)) changed

-- the call for a snapshot, by the values that were told before
pub record IsCall (before : List Value) (s : Snapshot) (call : Call) : Type 0 where
  pub time : call.time ≡ s.time
  pub values : call.values ≡ s.values
  pub changed : AreDifferences before s.values call.changed

-- the calls of the times that ended, by the last snapshots of these times, the latest first: one at time 0, and one at
-- each later time that differs from the time before
pub data AreCalls (first : List Value) : List Snapshot → List Call → Type 0 where
  none_yet : AreCalls first [] []
  at_zero : (s : Snapshot) (call : Call) → IsCall first s call → AreCalls first (s ∷ []) (call ∷ [])
  same_again : (s t : Snapshot) (older : List Snapshot) (calls : List Call) → are_same s.values t.values ≡ true → AreCalls first (t ∷ older) calls → AreCalls first (s ∷ t ∷ older) calls
  one_more : (s t : Snapshot) (older : List Snapshot) (calls : List Call) (call : Call) → are_same s.values t.values ≡ false → AreCalls first (t ∷ older) calls → IsCall t.values s call → AreCalls first (s ∷ t ∷ older) (calls ++ call ∷ [])

-- each call tells exactly the nets whose values differ from those of the call before it
abbrev pub AreTruthfulAfter : List Value → List Call → Type 0
AreTruthfulAfter before [] = Unit {0}
AreTruthfulAfter before (c ∷ cs) = AreDifferences before c.values c.changed × AreTruthfulAfter c.values cs

-- and so do all but the first, which has none before it
abbrev pub AreTruthful : List Call → Type 0
AreTruthful [] = Unit {0}
AreTruthful (c ∷ cs) = AreTruthfulAfter c.values cs

-- these calls continue a truthful list of calls, for which a watcher and its shelf stand, to a truthful list
pub record AreNextCalls (stands : List Call → Type 0) (made : List Call) : Type 0 where
  pub calls : List Call
  pub stood : stands calls
  pub truthful : AreTruthful (calls ++ made)

abbrev pub IsNextCall : (List Call → Type 0) → Call → Type 0
IsNextCall stands call = AreNextCalls stands (call ∷ [])

-- a circuit of nothing
abbrev pub no_circuit : Circuit
no_circuit = record { tick = pos 0; nets = []; elements = []; udps = []; checks = []; check_timings = []; check_conditions = []; scopes = []; zeroed = [] }

-- the last call, at the end, says that nothing changed
abbrev pub end_call : ℕ → List Value → Call
end_call time values = record { time = time; changed = []; values = values }

-- a change, as a call has it
abbrev pub net_change : Change → NetChange
net_change c = record { net = c.net; before = c.from; after = c.to }

-- the call that these arguments make
abbrev pub call_of : ℕ → List Change → List Value → Call
call_of time changed values = record { time = time; changed = map net_change changed; values = values }

-- for each list that the watcher and the shelf stood for and that these calls continue to a truthful one, they now stand for it with these calls added
pub record Got {W S : Type 0} (stands : W → S → List Call → Type 0) (w w' : W) (s s' : S) (made : List Call) : Type 0 where
  pub each : (calls : List Call) → stands w s calls → AreTruthful (calls ++ made) → stands w' s' (calls ++ made)

-- for each such list they are broken in the last of these calls
pub record Broke {W S : Type 0} (stands broken : W → S → List Call → Type 0) (w w' : W) (s s' : S) (made : List Call) : Type 0 where
  pub each : (calls : List Call) → stands w s calls → AreTruthful (calls ++ made) → broken w' s' (calls ++ made)

-- the values that the last of some calls told are these; before the first call they may be any
abbrev pub EndWith : List Call → List Value → Type 0
EndWith [] values = Unit {0}
EndWith (c ∷ []) values = c.values ≡ values
EndWith (c ∷ d ∷ cs) values = EndWith (d ∷ cs) values

-- a watcher and its shelf stand for a truthful list of calls, the last of which told these values
pub record HasTold (stands : List Call → Type 0) (values : List Value) : Type 0 where
  pub calls : List Call
  pub stood : stands calls
  pub truthful : AreTruthful calls
  pub last : EndWith calls values
