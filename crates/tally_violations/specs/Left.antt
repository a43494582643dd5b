-- The violations that waivers leave.
use Rattle.std.specs.Prelude.{ℕ, ◌&&◌, Bool, true, not, List, filter, nat_lt, nat_le, bytes_eq, Option, Some, None}
use Rattle.std.specs.Borrow.{Bor}
use Rattle.std.specs.List.{list_any}
use Rattle.tally_violations.specs.declared.violations.Violation.{Violation}
use Rattle.tally_violations.specs.declared.waivers.Waiver.{Waiver}

abbrev pub is_named : Option (Bor (List ℕ)) → List ℕ → Bool
is_named None word = true
is_named (Some name) word = bytes_eq name.now word

abbrev pub is_from : Option ℕ → ℕ → Bool
is_from None time = true
is_from (Some from) time = nat_le from time

abbrev pub is_to : Option ℕ → ℕ → Bool
is_to None time = true
is_to (Some to) time = nat_lt time to

abbrev pub waives : Waiver → Violation → Bool
waives w v = is_named w.instance v.instance.now && is_named w.check v.check.now && is_from w.from v.time && is_to w.to v.time

abbrev pub is_left : List Waiver → Violation → Bool
is_left ws v = not (list_any (λ w. waives w v) ws)

abbrev pub left_by : List Waiver → List Violation → List Violation
left_by ws vs = filter (is_left ws) vs

-- a waiver is unused that takes no violation
abbrev pub is_unused : List Violation → Waiver → Bool
is_unused vs w = not (list_any (λ v. waives w v) vs)

abbrev pub unused : List Violation → List Waiver → List Waiver
unused vs ws = filter (is_unused vs) ws
