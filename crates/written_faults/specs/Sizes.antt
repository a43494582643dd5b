-- Words of contracts: the ways in which a size is wrong, and sizes of which one is.
use Rattle.std.specs.Prelude.{ℕ, ◌<◌, ◌%◌, ◌^◌, ◌==◌, ℤ, unsigned_abs, not, Bool, nat_le, List, take}
use Rattle.std.specs.List.{list_any}
use Rattle.sg_delay.specs.declared.limits.Limit.{Limit}
use Rattle.sg_circuit.specs.Closed.{limit_count}
use Rattle.sg_circuit.specs.Timings.{Timing}
use Rattle.sg_circuit.specs.TimingsSeen.{limit_seen}
use Rattle.sg_circuit.specs.Paths as specify
use Rattle.sg_circuit.specs.Circuit.{Kind}
use Rattle.sg_circuit.specs.declared.checks.CheckKind.{CheckKind}
use Rattle.sg_circuit.specs.declared.checks.CheckTiming.{CheckTiming}
use Rattle.written_model.specs.declared.parts.Part.{Part}
use Rattle.written_model.specs.Entries.{numbers_of, parts_of}
use Rattle.written_model.specs.Faults.{sizes_of}
use Rattle.written_faults.specs.declared.sizes.SizeFault.{SizeFault}
use Rattle.written_faults.specs.declared.sizes.SizeFault.TheVariants as fault
use Rattle.written_faults.specs.Delayed.{any_delayed}

abbrev pub is_wrong : SizeFault → ℕ → Bool
is_wrong (fault.OffGrid precision) n = not (n % precision == 0)
is_wrong fault.TooLong n = nat_le (10 ^ 18) n

-- a precision is a tick at least
abbrev pub HasPrecision : SizeFault → Type 0
HasPrecision (fault.OffGrid precision) = 0 < precision
HasPrecision fault.TooLong = Unit {0}

-- whether a size of a transition is wrong
abbrev pub transition_size : (ℕ → Bool) → Timing → Bool
transition_size wrong t = list_any wrong (sizes_of (numbers_of t))

-- of a transition with this delay and these limits in the code
abbrev pub has_size_of : (ℕ → Bool) → ℕ × Limit → Bool
has_size_of wrong p = transition_size wrong (record { delay = p.0; limits = limit_seen p.1 })

-- of some transitions
abbrev pub any_size : (ℕ → Bool) → List Timing → Bool
any_size wrong timings = list_any (transition_size wrong) timings

-- of a path
abbrev pub path_size : (ℕ → Bool) → specify.Path → Bool
path_size wrong p = any_size wrong p.timings

-- of an element
abbrev pub delayed_size : (ℕ → Bool) → Kind → Bool
delayed_size wrong kind = any_delayed (any_size wrong) (path_size wrong) kind

-- of the limits that a timing check has
abbrev pub limit_size : (ℕ → Bool) → CheckKind → List ℤ → Bool
limit_size wrong kind limits = list_any (λ l. wrong (unsigned_abs l)) (take (limit_count kind) limits)

-- of its parts
abbrev pub check_size : (ℕ → Bool) → CheckTiming → Bool
check_size wrong t = list_any (λ (p : Part × ℤ). wrong (unsigned_abs p.1)) (parts_of t.kind t.limits)
