-- Worked examples of timing checks, computed by the definitions.
use Rattle.std.specs.Prelude.{◌≡◌, ℕ, ℤ, pos, negsuc, true, false, List, [], ◌∷◌, Option, Some, None, refl}
use Rattle.sg_logic.specs.declared.values.Value.{Value}
use Rattle.sg_logic.specs.declared.values.Value.TheVariants.{Zero, One, X}
use Rattle.cond_expr.specs.Tree.{Cond, leaf, constant, binary}
use Rattle.cond_expr.specs.declared.tokens.Op.TheVariants.{Equal}
use Rattle.sg_circuit.specs.declared.checks.CheckKind.{CheckKind}
use Rattle.sg_circuit.specs.declared.checks.CheckKind.TheVariants as check
use Rattle.sg_circuit.specs.declared.checks.Event.{Event}
use Rattle.sg_circuit.specs.declared.checks.CheckTiming.{CheckTiming}
use Rattle.time_checks.specs.Adjusted.{AdjustedCheck, plain_check, window_of}
use Rattle.sg_model.specs.Machine.{Snapshot, Violation}
use Rattle.time_checks.specs.declared.violations.Part.{Part}
use Rattle.time_checks.specs.declared.violations.Part.TheVariants.{Setup, Hold, Recovery, Removal, Width, Period, Skew}
use Rattle.time_checks.specs.Parts.{part_number}
use Rattle.time_checks.specs.Violations.{violations, violations_since}

-- net 0 is the clock, net 1 the data, net 2 a signal of a condition
abbrev snap : ℕ → Value → Value → Snapshot
snap time clock datum = record { time = time; values = clock ∷ datum ∷ X ∷ [] }

abbrev rise : Option (Cond ℕ) → Event
rise condition = record { net = 0; edge = Some (record { has = true ∷ false ∷ true ∷ true ∷ false ∷ false ∷ [] }); condition = condition }

abbrev change : Event
change = record { net = 1; edge = None; condition = None }

abbrev of_kind : CheckKind → ℕ → ℕ → AdjustedCheck
of_kind kind first second = plain_check (record { kind = kind; refer = rise None; datum = Some change; limits = pos first ∷ pos second ∷ []; threshold = 0; late = None })

abbrev of_clock : CheckKind → ℕ → ℕ → AdjustedCheck
of_clock kind limit threshold = plain_check (record { kind = kind; refer = rise None; datum = None; limits = pos limit ∷ pos 0 ∷ []; threshold = threshold; late = None })

-- the clock rises, and the data changes, at these times; in one snapshot; in two snapshots of one time
abbrev data_then_clock : ℕ → ℕ → List Snapshot
data_then_clock datum clock = snap clock One One ∷ snap datum Zero One ∷ snap 0 Zero Zero ∷ []

abbrev clock_then_data : ℕ → ℕ → List Snapshot
clock_then_data clock datum = snap datum One One ∷ snap clock One Zero ∷ snap 0 Zero Zero ∷ []

abbrev together : ℕ → List Snapshot
together time = snap time One One ∷ snap 0 Zero Zero ∷ []

-- the clock is up from 1000 to a time, or rises at 1000 and at a later time
abbrev up_until : ℕ → List Snapshot
up_until time = snap time Zero Zero ∷ snap 1000 One Zero ∷ snap 0 Zero Zero ∷ []

abbrev up_again : ℕ → List Snapshot
up_again time = snap time One Zero ∷ snap 1010 Zero Zero ∷ snap 1000 One Zero ∷ snap 0 Zero Zero ∷ []

abbrev of : Part → ℕ → ℕ → ℕ → Violation
of part refer datum limit = record { check = 0; part = part_number part; refer_time = refer; datum_time = datum; limit = pos limit }

-- setup: both ends are outside
setup_90 : violations (of_kind check.Setup 10 0 ∷ []) (data_then_clock 90 100) ≡ []
setup_90 = refl

setup_91 : violations (of_kind check.Setup 10 0 ∷ []) (data_then_clock 91 100) ≡ of Setup 100 91 10 ∷ []
setup_91 = refl

setup_99 : violations (of_kind check.Setup 10 0 ∷ []) (data_then_clock 99 100) ≡ of Setup 100 99 10 ∷ []
setup_99 = refl

setup_in_turn : violations (of_kind check.Setup 10 0 ∷ []) (data_then_clock 100 100) ≡ []
setup_in_turn = refl

setup_together : violations (of_kind check.Setup 10 0 ∷ []) (together 100) ≡ []
setup_together = refl

-- of two data events the later one is told
setup_of_two : violations (of_kind check.Setup 10 0 ∷ []) (snap 100 One Zero ∷ snap 97 Zero Zero ∷ snap 93 Zero One ∷ snap 0 Zero Zero ∷ []) ≡ of Setup 100 97 10 ∷ []
setup_of_two = refl

-- a data event that is known from before the snapshots counts as one among them
setup_known_95 : violations_since (record { refer = None; datum = Some 95 } ∷ []) (of_kind check.Setup 10 0 ∷ []) (snap 100 One Zero ∷ snap 95 Zero Zero ∷ []) ≡ of Setup 100 95 10 ∷ []
setup_known_95 = refl

setup_known_90 : violations_since (record { refer = None; datum = Some 90 } ∷ []) (of_kind check.Setup 10 0 ∷ []) (snap 100 One Zero ∷ snap 95 Zero Zero ∷ []) ≡ []
setup_known_90 = refl

-- removal likewise
removal_90 : violations (of_kind check.Removal 10 0 ∷ []) (data_then_clock 90 100) ≡ []
removal_90 = refl

removal_91 : violations (of_kind check.Removal 10 0 ∷ []) (data_then_clock 91 100) ≡ of Removal 100 91 10 ∷ []
removal_91 = refl

removal_together : violations (of_kind check.Removal 10 0 ∷ []) (together 100) ≡ []
removal_together = refl

-- hold: the beginning is inside, the end outside
hold_99 : violations (of_kind check.Hold 3 0 ∷ []) (data_then_clock 99 100) ≡ []
hold_99 = refl

hold_together : violations (of_kind check.Hold 3 0 ∷ []) (together 100) ≡ of Hold 100 100 3 ∷ []
hold_together = refl

hold_data_first : violations (of_kind check.Hold 3 0 ∷ []) (data_then_clock 100 100) ≡ of Hold 100 100 3 ∷ []
hold_data_first = refl

hold_clock_first : violations (of_kind check.Hold 3 0 ∷ []) (clock_then_data 100 100) ≡ of Hold 100 100 3 ∷ []
hold_clock_first = refl

hold_102 : violations (of_kind check.Hold 3 0 ∷ []) (clock_then_data 100 102) ≡ of Hold 100 102 3 ∷ []
hold_102 = refl

hold_103 : violations (of_kind check.Hold 3 0 ∷ []) (clock_then_data 100 103) ≡ []
hold_103 = refl

-- a limit of 0 is never violated
hold_none : violations (of_kind check.Hold 0 0 ∷ []) (together 100) ≡ []
hold_none = refl

-- recovery likewise
recovery_together : violations (of_kind check.Recovery 3 0 ∷ []) (together 100) ≡ of Recovery 100 100 3 ∷ []
recovery_together = refl

recovery_102 : violations (of_kind check.Recovery 3 0 ∷ []) (clock_then_data 100 102) ≡ of Recovery 100 102 3 ∷ []
recovery_102 = refl

recovery_103 : violations (of_kind check.Recovery 3 0 ∷ []) (clock_then_data 100 103) ≡ []
recovery_103 = refl

-- two parts, the first before the second, each with its limit
both_parts : violations (of_kind check.Setuphold 10 3 ∷ []) (snap 100 One Zero ∷ snap 91 Zero One ∷ snap 0 Zero Zero ∷ []) ≡ of Setup 100 91 10 ∷ of Hold 100 100 3 ∷ []
both_parts = refl

setup_part : violations (of_kind check.Setuphold 10 3 ∷ []) (data_then_clock 91 100) ≡ of Setup 100 91 10 ∷ []
setup_part = refl

no_setup_part : violations (of_kind check.Setuphold 10 3 ∷ []) (data_then_clock 90 100) ≡ []
no_setup_part = refl

hold_part : violations (of_kind check.Setuphold 10 3 ∷ []) (clock_then_data 100 102) ≡ of Hold 100 102 3 ∷ []
hold_part = refl

no_hold_part : violations (of_kind check.Setuphold 10 3 ∷ []) (clock_then_data 100 103) ≡ []
no_hold_part = refl

recovery_part : violations (of_kind check.Recrem 3 10 ∷ []) (clock_then_data 100 102) ≡ of Recovery 100 102 3 ∷ []
recovery_part = refl

no_recovery_part : violations (of_kind check.Recrem 3 10 ∷ []) (clock_then_data 100 103) ≡ []
no_recovery_part = refl

removal_part : violations (of_kind check.Recrem 3 10 ∷ []) (data_then_clock 91 100) ≡ of Removal 100 91 10 ∷ []
removal_part = refl

no_removal_part : violations (of_kind check.Recrem 3 10 ∷ []) (data_then_clock 90 100) ≡ []
no_removal_part = refl

-- width: the threshold and the limit are both outside
width_20 : violations (of_clock check.Width 100 20 ∷ []) (up_until 1020) ≡ []
width_20 = refl

width_21 : violations (of_clock check.Width 100 20 ∷ []) (up_until 1021) ≡ of Width 1000 1021 100 ∷ []
width_21 = refl

width_99 : violations (of_clock check.Width 100 20 ∷ []) (up_until 1099) ≡ of Width 1000 1099 100 ∷ []
width_99 = refl

width_100 : violations (of_clock check.Width 100 20 ∷ []) (up_until 1100) ≡ []
width_100 = refl

-- from 0 over x to 1 are two edges, of which the later one counts
width_over_x : violations (of_clock check.Width 100 20 ∷ []) (snap 1130 Zero Zero ∷ snap 1040 One Zero ∷ snap 1000 X Zero ∷ snap 0 Zero Zero ∷ []) ≡ of Width 1040 1130 100 ∷ []
width_over_x = refl

-- period: both ends are outside
period_100 : violations (of_clock check.Period 100 0 ∷ []) (up_again 1100) ≡ []
period_100 = refl

period_99 : violations (of_clock check.Period 100 0 ∷ []) (up_again 1099) ≡ of Period 1000 1099 100 ∷ []
period_99 = refl

-- two edges of one time have no period between them
period_0 : violations (of_clock check.Period 100 0 ∷ []) (snap 1000 One Zero ∷ snap 1000 Zero Zero ∷ snap 1000 One Zero ∷ snap 0 Zero Zero ∷ []) ≡ []
period_0 = refl

-- skew: more than the limit, after the latest reference event
skew_110 : violations (of_kind check.Skew 10 0 ∷ []) (clock_then_data 100 110) ≡ []
skew_110 = refl

skew_111 : violations (of_kind check.Skew 10 0 ∷ []) (clock_then_data 100 111) ≡ of Skew 100 111 10 ∷ []
skew_111 = refl

skew_together : violations (of_kind check.Skew 10 0 ∷ []) (together 100) ≡ []
skew_together = refl

skew_of_two : violations (of_kind check.Skew 10 0 ∷ []) (snap 111 One One ∷ snap 101 One Zero ∷ snap 100 Zero Zero ∷ snap 90 One Zero ∷ snap 0 Zero Zero ∷ []) ≡ []
skew_of_two = refl

-- a condition that is x enables by == and not by itself
abbrev under : Cond ℕ → AdjustedCheck
under condition = plain_check (record { kind = check.Hold; refer = rise (Some condition); datum = Some change; limits = pos 3 ∷ pos 0 ∷ []; threshold = 0; late = None })

enabled_by_equality : violations (under (binary Equal (leaf 2) (constant One)) ∷ []) (together 100) ≡ of Hold 100 100 3 ∷ []
enabled_by_equality = refl

not_enabled : violations (under (leaf 2) ∷ []) (together 100) ≡ []
not_enabled = refl

-- checks in their order, by their numbers; the first snapshot has no events
in_order : violations (of_kind check.Hold 3 0 ∷ of_kind check.Recovery 3 0 ∷ []) (together 100) ≡ of Hold 100 100 3 ∷ record { check = 1; part = part_number Recovery; refer_time = 100; datum_time = 100; limit = pos 3 } ∷ []
in_order = refl

first_of_all : violations (of_kind check.Hold 3 0 ∷ []) (snap 0 One One ∷ []) ≡ []
first_of_all = refl

-- setup -2 and hold 5, of which the clock is seen 2 late: net 3 is the late clock; the windows are 0 and 3, and the clock's time is told as it was
abbrev late_clock : AdjustedCheck
late_clock = record {
  kind = check.Setuphold;
  refer = rise None;
  datum = Some change;
  limits = negsuc 1 ∷ pos 5 ∷ [];
  windows = pos 0 ∷ pos 3 ∷ [];
  threshold = 0;
  refer_delay = 2;
  datum_delay = 0;
}

abbrev timing_of : CheckKind → ℤ → ℤ → CheckTiming
timing_of kind first second = record { kind = kind; refer = rise None; datum = Some change; limits = first ∷ second ∷ []; threshold = 0; late = None }

setup_of_late_clock : window_of [] 0 (timing_of check.Setuphold (negsuc 1) (pos 5)) 2 0 (0, Setup) ≡ pos 0
setup_of_late_clock = refl

hold_of_late_clock : window_of [] 0 (timing_of check.Setuphold (negsuc 1) (pos 5)) 2 0 (1, Hold) ≡ pos 3
hold_of_late_clock = refl

-- of recrem the recovery is moved as a hold is, and the removal as a setup is
recovery_is_a_hold : window_of [] 0 (timing_of check.Recrem (pos 5) (negsuc 1)) 2 0 (0, Recovery) ≡ pos 3
recovery_is_a_hold = refl

removal_is_a_setup : window_of [] 0 (timing_of check.Recrem (pos 5) (negsuc 1)) 2 0 (1, Removal) ≡ pos 0
removal_is_a_setup = refl

-- what is taken as 0 is moved from there
zeroed_setup : window_of (record { check = 0; part = 0; value = negsuc 1 } ∷ []) 0 (timing_of check.Setuphold (negsuc 1) (pos 5)) 3 1 (0, Setup) ≡ pos 2
zeroed_setup = refl

-- the late clock rises at 102, and the data changes then or 2 later
held_late_102 : violations (late_clock ∷ []) (clock_then_data 102 102) ≡ record { check = 0; part = 1; refer_time = 100; datum_time = 102; limit = pos 5 } ∷ []
held_late_102 = refl

held_late_104 : violations (late_clock ∷ []) (clock_then_data 102 104) ≡ record { check = 0; part = 1; refer_time = 100; datum_time = 104; limit = pos 5 } ∷ []
held_late_104 = refl

held_late_105 : violations (late_clock ∷ []) (clock_then_data 102 105) ≡ []
held_late_105 = refl

-- a time is told as 0 at the least
told_at_0 : violations (late_clock ∷ []) (clock_then_data 1 1) ≡ record { check = 0; part = 1; refer_time = 0; datum_time = 1; limit = pos 5 } ∷ []
told_at_0 = refl
