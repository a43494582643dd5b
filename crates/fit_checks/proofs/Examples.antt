-- Worked examples of checks with a condition of the time stamp and one of the time check, computed by the definitions.
use Rattle.std.specs.Prelude.{◌≡◌, ℕ, pos, true, false, List, [], ◌∷◌, Option, Some, None, refl}
use Rattle.sg_logic.specs.declared.values.Value.{Value}
use Rattle.sg_logic.specs.declared.values.Value.TheVariants.{Zero, One, X}
use Rattle.cond_expr.specs.Tree.{Cond, binary, constant, leaf}
use Rattle.cond_expr.specs.Values.{enables}
use Rattle.cond_expr.specs.declared.tokens.Op.TheVariants.{AndAnd, CaseUnequal, Equal}
use Rattle.sg_circuit.specs.declared.checks.CheckKind.{CheckKind}
use Rattle.sg_circuit.specs.declared.checks.CheckKind.TheVariants as kind
use Rattle.sg_circuit.specs.declared.checks.CheckTiming.{CheckTiming}
use Rattle.sg_circuit.specs.declared.checks.Event.{Event}
use Rattle.sg_model.specs.Machine.{Snapshot, Violation}
use Rattle.time_checks.specs.declared.violations.Part.{Part}
use Rattle.time_checks.specs.declared.violations.Part.TheVariants.{Setup, Hold, Recovery, Removal}
use Rattle.time_checks.specs.Adjusted.{plain_check}
use Rattle.time_checks.specs.Parts.{part_number}
use Rattle.fit_checks.specs.Conditioned.{Conditions, conditioned}
use Rattle.fit_checks.specs.Halves.{both, first_half, second_half}

-- net 0 is the clock, net 1 the data, net 2 a condition
abbrev snap : ℕ → Value → Value → Value → Snapshot
snap time clock datum condition = record { time = time; values = clock ∷ datum ∷ condition ∷ [] }

abbrev cond1 : Cond ℕ
cond1 = leaf 2

abbrev clk : Option (Cond ℕ) → Event
clk condition = record { net = 0; edge = Some (record { has = true ∷ false ∷ true ∷ true ∷ false ∷ false ∷ [] }); condition = condition }

abbrev data1 : Option (Cond ℕ) → Event
data1 condition = record { net = 1; edge = None; condition = condition }

-- a limit of 10 and one of 3
abbrev timing : CheckKind → CheckTiming
timing kind = record { kind = kind; refer = clk None; datum = Some (data1 None); limits = pos 10 ∷ pos 3 ∷ []; threshold = 0; late = None }

abbrev one_limit : CheckKind → Event → Event → ℕ → CheckTiming
one_limit kind refer datum limit = record { kind = kind; refer = refer; datum = Some datum; limits = pos limit ∷ pos 0 ∷ []; threshold = 0; late = None }

-- where the time stamp and the time check need cond1
abbrev at_check : Conditions
at_check = record { stamp = None; check = Some cond1 }

abbrev at_stamp : Conditions
at_stamp = record { stamp = Some cond1; check = None }

abbrev of : Part → ℕ → ℕ → ℕ → Violation
of part refer datum limit = record { check = 0; part = part_number part; refer_time = refer; datum_time = datum; limit = pos limit }

abbrev told : Conditions → CheckKind → List Snapshot → List Violation
told c kind snapshots = conditioned 0 c (plain_check (timing kind)) snapshots

-- The standard's own example (15.8.2): $setuphold (clk, data, tsetup, thold, ntfr, , cond1) is $setup (data, clk &&& cond1, tsetup, ntfr) and $hold (clk, data &&& cond1, thold, ntfr).
own_setup : first_half at_check (timing kind.Setuphold) ≡ one_limit kind.Setup (clk (Some cond1)) (data1 None) 10
own_setup = refl

own_hold : second_half at_check (timing kind.Setuphold) ≡ one_limit kind.Hold (clk None) (data1 (Some cond1)) 3
own_hold = refl

-- with a condition of the time stamp the terminals change places
stamp_setup : first_half at_stamp (timing kind.Setuphold) ≡ one_limit kind.Setup (clk None) (data1 (Some cond1)) 10
stamp_setup = refl

stamp_hold : second_half at_stamp (timing kind.Setuphold) ≡ one_limit kind.Hold (clk (Some cond1)) (data1 None) 3
stamp_hold = refl

-- of $recrem (control, clock, recovery, removal) the first half is $recovery
own_recovery : first_half at_check (timing kind.Recrem) ≡ one_limit kind.Recovery (clk None) (data1 (Some cond1)) 10
own_recovery = refl

own_removal : second_half at_check (timing kind.Recrem) ≡ one_limit kind.Removal (clk (Some cond1)) (data1 None) 3
own_removal = refl

-- data at 95, where the condition has one value, and clock at 100, where it has another
abbrev setup_run : (at_data at_clock : Value) → List Snapshot
setup_run at_data at_clock = snap 100 One One at_clock ∷ snap 98 Zero One at_clock ∷ snap 95 Zero One at_data ∷ snap 0 Zero Zero at_data ∷ []

-- clock at 100, and data at 102
abbrev hold_run : (at_clock at_data : Value) → List Snapshot
hold_run at_clock at_data = snap 102 One One at_data ∷ snap 101 One Zero at_data ∷ snap 100 One Zero at_clock ∷ snap 0 Zero Zero at_clock ∷ []

-- the time stamp of setup is that of the data
setup_stamped : told at_stamp kind.Setuphold (setup_run One Zero) ≡ of Setup 100 95 10 ∷ []
setup_stamped = refl

setup_not_stamped : told at_stamp kind.Setuphold (setup_run Zero One) ≡ []
setup_not_stamped = refl

setup_checked : told at_check kind.Setuphold (setup_run Zero One) ≡ of Setup 100 95 10 ∷ []
setup_checked = refl

setup_not_checked : told at_check kind.Setuphold (setup_run One Zero) ≡ []
setup_not_checked = refl

-- that of hold is that of the clock
hold_stamped : told at_stamp kind.Setuphold (hold_run One Zero) ≡ of Hold 100 102 3 ∷ []
hold_stamped = refl

hold_not_stamped : told at_stamp kind.Setuphold (hold_run Zero One) ≡ []
hold_not_stamped = refl

hold_checked : told at_check kind.Setuphold (hold_run Zero One) ≡ of Hold 100 102 3 ∷ []
hold_checked = refl

hold_not_checked : told at_check kind.Setuphold (hold_run One Zero) ≡ []
hold_not_checked = refl

-- a condition that is x holds no event
setup_unknown : told at_check kind.Setuphold (setup_run One X) ≡ []
setup_unknown = refl

-- recovery, in the window of hold, stamps the control, and removal, in that of setup, the clock
recovery_stamped : told at_stamp kind.Recrem (hold_run One Zero) ≡ of Recovery 100 102 10 ∷ []
recovery_stamped = refl

recovery_not_stamped : told at_stamp kind.Recrem (hold_run Zero One) ≡ []
recovery_not_stamped = refl

removal_stamped : told at_stamp kind.Recrem (snap 100 One One Zero ∷ snap 99 Zero One Zero ∷ snap 98 Zero One One ∷ snap 0 Zero Zero One ∷ []) ≡ of Removal 100 98 3 ∷ []
removal_stamped = refl

-- A condition that stands on a terminal and another one: a == b, which enables where it is x too (15.6), becomes (a == b) !== 1'b0.
joined : both (Some (leaf 3)) (Some cond1) ≡ Some (binary AndAnd (leaf 3) (leaf 2))
joined = refl

joined_equality : both (Some (binary Equal (leaf 3) (constant One))) (Some cond1) ≡ Some (binary AndAnd (binary CaseUnequal (binary Equal (leaf 3) (constant One)) (constant Zero)) (leaf 2))
joined_equality = refl

equality_of_x : enables (X ∷ X ∷ One ∷ X ∷ []) (binary AndAnd (binary CaseUnequal (binary Equal (leaf 3) (constant One)) (constant Zero)) (leaf 2)) ≡ true
equality_of_x = refl
