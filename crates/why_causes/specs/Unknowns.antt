-- Words of the functions that look for inputs that are x.
use Rattle.std.specs.Prelude.{ℕ, ◌+◌, ◌&&◌, Bool, not, List, [], None, is_none, slice_index_or}
use Rattle.sg_logic.specs.Values.{is_same}
use Rattle.sg_logic.specs.declared.values.Value.TheVariants.{X}
use Rattle.sg_circuit.specs.declared.nets.Net.{Net}
use Rattle.sg_circuit.specs.declared.nets.Driver.TheVariants.{Nobody}
use Rattle.why_causes.specs.Waveform.{Waveform, value_at, last_before}
use Rattle.why_causes.specs.Causes.{is_notifier}

-- a net of some
abbrev pub net_of : List Net → ℕ → Net
net_of nets n = slice_index_or nets n (record { scope = 0; name = []; bit = None; driver = Nobody })

-- whether a net is x at a time, and no notifier that wasn't toggled yet
abbrev pub is_unknown_among : List Net → Waveform → ℕ → ℕ → Bool
is_unknown_among nets w time net = is_same (value_at w net time) X && not (is_notifier (net_of nets net).driver && is_none (last_before w net (time + 1)))
