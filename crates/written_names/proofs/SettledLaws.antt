-- The circuit of a netlist is settled.
use Rattle.std.specs.Prelude.{◌≡◌, ℕ, ℤ, pos, ◌≤ℤ◌, All, List, [], ◌∷◌, Option, false, length, map}
use Rattle.std.specs.List.{AllByRecursion}
use Rattle.std.proofs.Common.{refl, subst, sym, ap}
use Rattle.std.proofs.lemmas.List.Elements.{All-from_recursion}
use Rattle.sg_circuit.specs.Circuit.{Circuit}
use Rattle.sg_circuit.specs.Signals.{takes_lates}
use Rattle.sg_circuit.specs.declared.checks.CheckTiming.{CheckTiming}
use Rattle.sg_delay.specs.declared.corners.Corner.{Corner}
use Rattle.circuit_model.specs.CheckUses.{CheckUse as Check_use, check_uses, timing_of_use, two_limits}
use Rattle.circuit_model.specs.Circuits.{circuit}
use Rattle.late_limits.specs.Adjusted.{IsAdjustedFrom}
use Rattle.elab_laws.proofs.Lists.{all-anyway, all-map, all-weaker}
use Rattle.vcd_laws.specs.Reading.{IsRead}
use Rattle.written_giving.specs.AnnotatedBack.{IsSettled}
use Rattle.written_names.proofs.AdjustedAgain.{own_adjusted}
use Rattle.written_names.proofs.CheckUseLaws.{IsAboveZero, IsGoodUse, above, uses_are_good}
use Rattle.written_names.proofs.ReadModules.{instances_spelled}

-- ---- two limits

two : (ls : List ℤ) → length (two_limits ls) ≡ 2
two [] = refl
two (l ∷ []) = refl
two (l ∷ m ∷ more) = refl

two_above : (ls : List ℤ) → AllByRecursion IsAboveZero ls → AllByRecursion IsAboveZero (two_limits ls)
two_above [] h = (above 0, (above 0, tt))
two_above (l ∷ []) h = (h.0, (above 0, tt))
two_above (l ∷ m ∷ more) h = (h.0, (h.1.0, tt))

-- ---- timing checks

abbrev IsPair : CheckTiming → Type 0
IsPair t = length t.limits ≡ 2

abbrev AreAbove : CheckTiming → Type 0
AreAbove t = takes_lates t.kind ≡ false → All (λ l. pos 0 ≤ℤ l) t.limits

pairs : (us : List Check_use) → All IsPair (map timing_of_use us)
pairs us = All-from_recursion IsPair (map timing_of_use us) (all-map IsPair timing_of_use us (all-anyway (λ u. IsPair (timing_of_use u)) us (λ u. two u.limits)))

use_above : (u : Check_use) → IsGoodUse u → AreAbove (timing_of_use u)
use_above u h e = All-from_recursion IsAboveZero (two_limits u.limits) (two_above u.limits (h.limits e))

limits : (us : List Check_use) → AllByRecursion IsGoodUse us → All AreAbove (map timing_of_use us)
limits us h = All-from_recursion AreAbove (map timing_of_use us) (all-map AreAbove timing_of_use us (all-weaker IsGoodUse (λ u. AreAbove (timing_of_use u)) us use_above h))

-- ---- circuits

-- adjusting leaves the checks
timings_same : (c made : Circuit) → IsAdjustedFrom c made → made.check_timings ≡ c.check_timings
timings_same c made a = ap (λ (m : Circuit). m.check_timings) a.made_is

pub read_settled : (texts : List (List ℕ)) (name : Option (List ℕ)) (corner : Corner) (c : Circuit) → IsRead texts name corner c → IsSettled c
read_settled texts name corner c read =
    let top = read.is_elaborated.top in
    let uses = check_uses read.tree top corner in
    let same : c.check_timings ≡ map timing_of_use uses = timings_same (circuit read.tree top corner) c read.is_elaborated.is_circuit in
    record {
      adjusted = own_adjusted (circuit read.tree top corner) c read.is_elaborated.is_circuit;
      pairs = subst (All IsPair) (sym same) (pairs uses);
      limits = subst (All AreAbove) (sym same) (limits uses (uses_are_good read.tree top corner (instances_spelled texts name corner c read)));
    }
