-- The nets of a simulation, and those that changed.
use Rattle.std.specs.Prelude.{◌≡◌, ℕ, ◌+◌, ◌≤◌, Bool, not, if◌then◌else◌, List, [], ◌∷◌, length}
use Rattle.std.specs.Vec.{vec_capacity}
use Rattle.std.specs.declared.option.Option.{Option}
use Rattle.std.specs.declared.option.Option.TheVariants.{Some, None}
use Rattle.sg_logic.specs.declared.values.Value.{Value}
use Rattle.sg_logic.specs.Values.{is_same}
use Rattle.sg_model.specs.Values.{value_at}
use Rattle.sg_model.specs.Machine as model
use Rattle.fan_round.specs.declared.nets.Nets.{Nets}
use Rattle.fan_round.specs.declared.stamps.Stamp as code_stamp
use Rattle.fan_round.specs.Lists.{IsListOf}

-- whether a net's value differs
abbrev pub differs : List Value → List Value → ℕ → Bool
differs before values net = not (is_same (value_at before net) (value_at values net))

-- how many nets have the same value in both
abbrev pub count_same : List Value → List Value → ℕ
count_same [] values = 0
count_same (v ∷ vs) [] = 0
count_same (v ∷ vs) (w ∷ ws) = (if is_same v w then 1 else 0) + count_same vs ws

-- these are the nets whose values differ, each once
pub record AreChanged (before values : List Value) (nets : List ℕ) : Type 0 where
  pub as_many : length values ≡ length before
  pub each : IsListOf (differs before values) nets
  pub count : length nets + count_same before values ≡ length before

-- a stamp, as the model has it
abbrev pub stamp_seen : Option code_stamp.Stamp → Option model.Stamp
stamp_seen None = None
stamp_seen (Some s) = Some (record { time = s.time; before = s.before; after = s.after })

-- the list has the nets that the last round changed, with room for all
pub record AreNets (nets : Nets) : Type 0 where
  pub changed : AreChanged nets.before.items nets.values.items nets.changed.items
  pub stamps : length nets.stamps.items ≡ length nets.before.items
  pub room : length nets.values.items ≤ vec_capacity nets.changed
