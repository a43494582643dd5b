-- Joins the definitions to the reader: what it makes of a name, a time and a fault.
use Rattle.std.specs.Prelude.{ℕ, ◌≡◌, ◌*◌, ◌/◌, ◌%◌, ◌^◌, ◌==◌, not, nat_le, List, option_map, Result, Ok, Err, if◌then◌else◌}
use Rattle.std.specs.List.{IsAmong}
use Rattle.grammar.specs.declared.ReadFault.{ReadFault}
use Rattle.grammar.specs.declared.ReadFault.TheVariants as read
use Rattle.sg_text.specs.declared.refusals.Refused.{Refused}
use Rattle.sg_text.specs.declared.refusals.Refused.TheVariants as refused
use Rattle.vcd_model.specs.declared.kinds.VcdKind.{VcdKind}
use Rattle.vcd_model.specs.declared.kinds.VcdKind.TheVariants.{Syntax, NotWholeTick, TooLarge}
use Rattle.vcd_model.specs.Faults.{Fault}
use Rattle.vcd_model.specs.Inputs.{Called}
use Rattle.vcd_model.specs.Values.{denominator, numerator, ticks, Scale}
use Rattle.vcd_stim.specs.declared.clock.Moment.{Moment}
use Rattle.vcd_stim.specs.declared.names.Called as code_called
use Rattle.vcd_stim.specs.declared.times.Scale as code_scale

abbrev pub told : VcdKind → ℕ → Refused VcdKind
told kind byte = refused.Fault kind (record { file = 0; byte = byte })

abbrev pub RefusesOneOf : List Fault → Refused VcdKind → Type 0
RefusesOneOf fs (refused.Fault kind place) = IsAmong fs (record { kind = kind; place = place })
RefusesOneOf fs refused.NoMemory = Unit {0}

abbrev pub refusal_of : ReadFault → Refused VcdKind
refusal_of read.Memory = refused.NoMemory
refusal_of (read.At byte) = told Syntax byte

abbrev pub called_seen : code_called.Called → Called
called_seen c = (c.name.now, option_map (λ r. r.now) c.range)

abbrev pub scale_seen : code_scale.Scale → Scale
scale_seen s = record { unit = s.unit; tick = s.tick }

-- a fraction as a whole number of ticks below 2 ^ 60, or why it isn't one
abbrev pub fraction_ticks : ℕ → ℕ → Result ℕ VcdKind
fraction_ticks n d = if not ((n % d) == 0) then Err NotWholeTick else if nat_le (2 ^ 60 * d) n then Err TooLarge else Ok (n / d)

abbrev pub time_ticks : Scale → ℕ → Result ℕ VcdKind
time_ticks scale t = fraction_ticks (numerator scale t) (denominator scale)

-- a time that is a whole number of ticks
pub record IsMoment (scale : Scale) (t : ℕ) (m : Moment) : Type 0 where
  pub number_is : m.number ≡ t
  pub ticks_are : m.ticks ≡ ticks scale t
