-- The code's violations and waivers, as the definitions see them.
use Rattle.std.specs.Prelude.{ℕ, ◌≡◌, ◌++◌, List, [], ◌∷◌, map, option_map, Result, Ok, Err}
use Rattle.std.specs.Global.{Vec}
use Rattle.tally_violations.specs.Violations as violations
use Rattle.tally_violations.specs.Waivers as waivers
use Rattle.tally_violations.specs.Rows as rows
use Rattle.tally_violations.specs.declared.rows.Row.{Row}
use Rattle.tally_violations.specs.declared.rows.Row.TheVariants as row
use Rattle.tally_violations.specs.declared.rows.Unread.{Unread}
use Rattle.tally_violations.specs.declared.rows.Unread.TheVariants as unread
use Rattle.tally_violations.specs.declared.violations.Violation.{Violation}
use Rattle.tally_violations.specs.declared.waivers.Waiver.{Waiver}

abbrev pub violation_seen : Violation → violations.Violation
violation_seen v = record { instance = v.instance.now; check = v.check.now; time = v.time; short = v.short }

abbrev pub waiver_seen : Waiver → waivers.Waiver
waiver_seen w = record { line = w.line; instance = option_map (λ n. n.now) w.instance; check = option_map (λ n. n.now) w.check; from = w.from; to = w.to }

abbrev pub row_seen : {X Y : Type 0} → (X → Y) → Row X → rows.Row Y
row_seen f row.Passed = rows.passed
row_seen f (row.Told x) = rows.told (f x)
row_seen f row.Faulty = rows.faulty

-- a reader gives what rows say
abbrev pub ReadsAs : {X Y : Type 0} → (X → Y) → Result (List Y) ℕ → Result (Vec X) Unread → Type 0
ReadsAs f said (Ok v) = said ≡ Ok (map f v.items)
ReadsAs f said (Err (unread.Line n)) = said ≡ Err n
ReadsAs f said (Err unread.NoMemory) = Unit {0}

-- a row adds what it tells; one without a form stops, with its line
abbrev pub AddsRow : {X : Type 0} → Row X → (line : ℕ) → (old new : List X) → Result Unit Unread → Type 0
AddsRow row.Passed line old new (Ok _) = new ≡ old
AddsRow (row.Told x) line old new (Ok _) = new ≡ old ++ x ∷ []
AddsRow row.Faulty line old new (Ok _) = ⊥
AddsRow r line old new (Err (unread.Line n)) = (r ≡ row.Faulty) × (n ≡ line)
AddsRow r line old new (Err unread.NoMemory) = Unit {0}
