-- The signals of a scope: the nets of those timing checks that take limits below 0. Such checks see delayed copies of their signals (IEEE 1364-2005, 15.8).
use Rattle.std.specs.Prelude.{ℕ, ◌+◌, ◌*◌, ◌<◌, ◌^◌, ◌==◌, ◌&&◌, unsigned_abs, Bool, true, false, All, List, [], ◌∷◌, length, map, filter, flat_map, zip, Option, Some, None, if◌then◌else◌}
use Rattle.std.specs.List.{enumerate_from}
use Rattle.sg_circuit.specs.declared.checks.Check.{Check}
use Rattle.sg_circuit.specs.declared.checks.CheckKind.{CheckKind}
use Rattle.sg_circuit.specs.declared.checks.CheckKind.TheVariants.{Setuphold, Recrem}
use Rattle.sg_circuit.specs.declared.checks.CheckTiming.{CheckTiming}
use Rattle.sg_circuit.specs.declared.checks.Event.{Event}
use Rattle.sg_circuit.specs.FanOut.{has}

-- the kinds of timing check that take limits below 0 (15.2.3, 15.2.6)
abbrev pub takes_lates : CheckKind → Bool
takes_lates Setuphold = true
takes_lates Recrem = true
takes_lates _ = false

-- those of a scope, by their numbers, in order
abbrev pub is_window : ℕ → ℕ × (Check × CheckTiming) → Bool
is_window scope w = (w.1.0.scope == scope) && takes_lates w.1.1.kind

abbrev pub windows : List Check → List CheckTiming → (scope : ℕ) → List (ℕ × CheckTiming)
windows checks timings scope = map (λ w. (w.0, w.1.1)) (filter (is_window scope) (enumerate_from 0 (zip checks timings)))

-- their nets, the reference before the data
abbrev pub datum_nets : Option Event → List ℕ
datum_nets None = []
datum_nets (Some event) = event.net ∷ []

abbrev pub signal_nets : CheckTiming → List ℕ
signal_nets t = t.refer.net ∷ datum_nets t.datum

-- each number once, where it stands first, without those seen before
abbrev pub first_of_each : List ℕ → List ℕ → List ℕ
first_of_each seen [] = []
first_of_each seen (n ∷ ns) = if has n seen then first_of_each seen ns else n ∷ first_of_each (n ∷ seen) ns

abbrev pub signals : List Check → List CheckTiming → (scope : ℕ) → List ℕ
signals checks timings scope = first_of_each [] (flat_map (λ w. signal_nets w.1) (windows checks timings scope))

-- limits of such checks are so short that they add up to less than 2^60 ticks from signal to signal
abbrev pub IsShort : (signals : ℕ) → CheckTiming → Type 0
IsShort signals t = All (λ l. unsigned_abs l * (signals + 1) < 2 ^ 60) t.limits

abbrev pub AreShort : List Check → List CheckTiming → (scope : ℕ) → Type 0
AreShort checks timings scope = All (λ w. IsShort (length (signals checks timings scope)) w.1) (windows checks timings scope)
