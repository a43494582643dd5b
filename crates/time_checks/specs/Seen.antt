-- What the code's violations stand for.
use Rattle.std.specs.Prelude.{◌≡◌, List, ◌++◌}
use Rattle.sg_model.specs.Machine as model
use Rattle.time_checks.specs.declared.violations.Violation.{Violation}
use Rattle.time_checks.specs.Parts.{part_number}

abbrev pub violation_seen : Violation → model.Violation
violation_seen v = record { check = v.check; part = part_number v.part; refer_time = v.refer_time; datum_time = v.datum_time; limit = v.limit }

-- a list goes on, maybe, where another ends
pub record Continues {A : Type 0} (old new : List A) : Type 0 where
  pub more : List A
  pub is : new ≡ old ++ more
