-- Worked examples of limits below 0, and of limits that are too large, reckoned by hand: timing checks of the top, with the reference R, net 1, and the data D, net 2.
use Rattle.std.specs.Prelude.{◌≡◌, refl, ℤ, pos, neg_ℤ, Bool, true, false, ℕ, List, [], ◌∷◌, map, Option, Some, None, codes}
use Rattle.sg_text.specs.declared.places.Place.{Place}
use Rattle.sg_logic.specs.declared.edges.TheConstants.{POSEDGE}
use Rattle.sg_delay.specs.declared.corners.Corner.TheVariants.{Typ}
use Rattle.sg_circuit.specs.declared.scopes.Port.TheVariants.{Input}
use Rattle.sg_circuit.specs.declared.checks.Check.{Check}
use Rattle.sg_circuit.specs.declared.checks.CheckKind.{CheckKind}
use Rattle.sg_circuit.specs.declared.checks.CheckKind.TheVariants.{Setup, Setuphold}
use Rattle.sg_circuit.specs.declared.checks.CheckTiming.{CheckTiming}
use Rattle.sg_circuit.specs.Checks.{CheckConditions}
use Rattle.sg_circuit.specs.Circuit.{Circuit}
use Rattle.sdf_tree.specs.declared.tree.WindowCheck.TheVariants as window
use Rattle.sdf_tree.specs.Written.{the_top}
use Rattle.sdf_tree.specs.Meant.{Triple, window_check, a_check, Sdf}
use Rattle.annotation_model.specs.Given.{given}
use Rattle.annotation_model.specs.Spots.{all_checked, limits_after}
use Rattle.annotation_model.specs.Annotated.{too_large}
use Rattle.annotation_model.proofs.Samples.{at_line, cell, entry, event, from, lone, nanoseconds, rising, scalar, scope}

abbrev check : CheckKind → Check
check kind = record {
  scope = 0;
  kind = kind;
  refer = record { name = codes "R"; bit = None };
  datum = Some (record { name = codes "D"; bit = None });
  notifier = None;
  place = at_line 5;
}

abbrev timing : CheckKind → CheckTiming
timing kind = record { kind = kind; refer = event 1 (Some POSEDGE); datum = Some (event 2 None); limits = pos 9 ∷ pos 0 ∷ []; threshold = 0; late = None }

abbrev no_words : CheckKind → CheckConditions
no_words kind = record { refer = None; datum = None }

-- with a check of each of these kinds
abbrev checked : List CheckKind → Circuit
checked kinds = record {
  tick = neg_ℤ (pos 12);
  nets = [];
  elements = [];
  udps = [];
  checks = map check kinds;
  check_timings = map timing kinds;
  check_conditions = map no_words kinds;
  scopes = scope None (codes "m") (codes "m") false (neg_ℤ (pos 12)) (scalar (codes "R") Input 1 ∷ scalar (codes "D") Input 2 ∷ []) ∷ [];
  zeroed = [];
}

-- so many thousandths of a nanosecond
abbrev thousandths : (negative : Bool) → ℕ → Triple
thousandths negative n = lone (record { negative = negative; digits = n; exponent = neg_ℤ (pos 3) })

-- a file with one entry, of a setup and a hold
abbrev one_entry : (setup hold : Triple) → Sdf
one_entry setup hold = nanoseconds (cell (codes "m") the_top (entry 1 (a_check (window_check window.SetupHold (from (codes "D")) (rising (codes "R")) setup hold)) ∷ []) ∷ [])

abbrev limits : List CheckKind → Sdf → List (List ℤ)
limits kinds sdf = map (limits_after (checked kinds) sdf Typ (given sdf)) (all_checked (checked kinds))

abbrev is_refused_at : List CheckKind → Sdf → Option Place
is_refused_at kinds sdf = too_large (checked kinds) sdf Typ

-- ---- limits below 0

pub setup_below_0 : limits (Setuphold ∷ Setup ∷ []) (one_entry (thousandths true 40) (thousandths false 90)) ≡ (neg_ℤ (pos 40) ∷ pos 90 ∷ []) ∷ (pos 0 ∷ pos 0 ∷ []) ∷ []
setup_below_0 = refl

-- ---- limits that are too large: R and D have delayed copies, so that a limit of $setuphold weighs three times

pub third_of_the_limit : is_refused_at (Setuphold ∷ []) (one_entry (thousandths false 384307168202282325) (thousandths false 0)) ≡ None
third_of_the_limit = refl

pub more_than_a_third : is_refused_at (Setuphold ∷ []) (one_entry (thousandths false 384307168202282326) (thousandths false 0)) ≡ Some (at_line 1)
more_than_a_third = refl

pub more_than_a_third_below_0 : is_refused_at (Setuphold ∷ []) (one_entry (thousandths false 0) (thousandths true 384307168202282326)) ≡ Some (at_line 1)
more_than_a_third_below_0 = refl

pub weighs_once : is_refused_at (Setup ∷ []) (one_entry (thousandths false 384307168202282326) (thousandths false 0)) ≡ None
weighs_once = refl

pub whole_limit : is_refused_at (Setup ∷ []) (one_entry (thousandths false 1152921504606846976) (thousandths false 0)) ≡ Some (at_line 1)
whole_limit = refl
