-- The timing checks of a scope that take limits below 0, as pairs of its signals (IEEE 1364-2005, 15.2.3, 15.2.6, 15.8).
use Rattle.std.specs.Prelude.{ℕ, ◌==◌, ℤ, pos, Bool, true, false, List, map, Option, Some, None, slice_index_or}
use Rattle.std.specs.List.{position_or_len}
use Rattle.sg_circuit.specs.declared.checks.Check.{Check}
use Rattle.sg_circuit.specs.declared.checks.CheckKind.{CheckKind}
use Rattle.sg_circuit.specs.declared.checks.CheckKind.TheVariants.{Recrem}
use Rattle.sg_circuit.specs.declared.checks.CheckTiming.{CheckTiming}
use Rattle.sg_circuit.specs.declared.checks.Event.{Event}
use Rattle.sg_circuit.specs.Signals.{signals, windows}
use Rattle.neg_limits.specs.declared.pairs.Pair.{Pair}

-- the number of a signal is its place among those of its scope; of any other net it is how many they are
abbrev pub signal_number : List ℕ → (net : ℕ) → ℕ
signal_number ns net = position_or_len (λ n. n == net) ns

abbrev pub datum_number : List ℕ → Option Event → ℕ
datum_number ns None = 0
datum_number ns (Some event) = signal_number ns event.net

-- Which limit of the check's text is that of a pair: of setuphold the setup comes first. Of recrem the removal stands for the setup and the recovery for the hold, since the clock takes the
-- place of the data; the recovery comes first.
abbrev pub part_of : CheckKind → (hold : Bool) → ℕ
part_of Recrem true = 0
part_of Recrem false = 1
part_of _ true = 1
part_of _ false = 0

abbrev pub limit_of : CheckTiming → (hold : Bool) → ℤ
limit_of t hold = slice_index_or t.limits (part_of t.kind hold) (pos 0)

abbrev pub pair_of : List ℕ → CheckTiming → Pair
pair_of ns t = record { refer = signal_number ns t.refer.net; datum = datum_number ns t.datum; setup = limit_of t false; hold = limit_of t true }

-- those of a scope, in order of the checks
abbrev pub pairs : List Check → List CheckTiming → (scope : ℕ) → List Pair
pairs checks timings scope = map (λ w. pair_of (signals checks timings scope) w.1) (windows checks timings scope)
