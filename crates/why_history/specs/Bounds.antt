-- Violations whose numbers a circuit has.
use Rattle.std.specs.Prelude.{◌<◌, ◌^◌, length}
use Rattle.sg_circuit.specs.Circuit.{Circuit}
use Rattle.time_checks.specs.declared.violations.Violation as code_violation

-- a violation of a check that there is, at times that there are
abbrev pub IsBounded : Circuit → code_violation.Violation → Type 0
IsBounded c v = (v.check < length c.check_timings) × (v.refer_time < 2 ^ 63) × (v.datum_time < 2 ^ 63)
