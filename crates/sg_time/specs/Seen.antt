-- A decimal as the definitions see it.
use Rattle.std.specs.Prelude.{Result, Ok, Err}
use Rattle.sg_time.specs.declared.decimal.Decimal.{Decimal}
use Rattle.sg_time.specs.declared.decimal.TimeError.{TimeError}
use Rattle.sg_time.specs.Spelling.{Number}

abbrev pub number : Decimal → Number
number d = record { negative = d.negative; digits = d.digits; exponent = d.exponent }

-- what reading a decimal gave
abbrev pub outcome : Result Decimal TimeError → Result Number TimeError
outcome (Ok d) = Ok (number d)
outcome (Err e) = Err e
