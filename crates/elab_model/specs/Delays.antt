-- Ticks: what a tick is, and the delays of gates in ticks (IEEE 1364-2005, 19.8, 7.14).
use Rattle.std.specs.Prelude.{ℕ, List, Option, Some, None, [], map, fold, if◌then◌else◌, ℤ, int_le}
use Rattle.sg_circuit.specs.Corner.{Corner}
use Rattle.sg_circuit.specs.Corner.TheVariants.{Min, Typ, Max}
use Rattle.sg_time.specs.Spelling.{Number}
use Rattle.sg_time.specs.Ticks.{tick_count}
use Rattle.vl_tree.specs.Tokens.{Timescale}
use Rattle.vl_tree.specs.Tree.{MinTypMax, one_number, three_numbers, Delay, Module, Source}
use Rattle.elab_model.specs.Hierarchy.{Instance, instances}

-- the power of ten of a second that one tick is: the least precision of the hierarchy's modules
abbrev pub precision_of : Instance → ℤ
precision_of s = s.step.definition.settings.scale.precision

abbrev pub lesser : ℤ → ℤ → ℤ
lesser p q = if int_le p q then p else q

abbrev pub tick_of : Source → Module → ℤ
tick_of source top = fold (λ p s. lesser p (precision_of s)) top.settings.scale.precision (instances source top)

-- a corner's part (7.14.1)
abbrev pub corner_part : Corner → MinTypMax → Number
corner_part corner (one_number n) = n
corner_part Min (three_numbers min typ max) = min
corner_part Typ (three_numbers min typ max) = typ
corner_part Max (three_numbers min typ max) = max

-- a module's delays in ticks
abbrev pub ticks_of : Corner → ℤ → Timescale → MinTypMax → ℕ
ticks_of corner tick scale v = tick_count (corner_part corner v) scale.unit scale.precision tick

abbrev pub delays_of : Corner → ℤ → Module → Option Delay → List ℕ
delays_of corner tick m None = []
delays_of corner tick m (Some d) = map (ticks_of corner tick m.settings.scale) d.values
