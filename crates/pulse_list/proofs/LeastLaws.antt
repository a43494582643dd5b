-- Of an agenda with one driver, whose earliest transition is from `now` on, no transition is below `now`.
use Rattle.std.proofs.Common.{◌≡◌, ℕ, zero, suc, ◌≤◌, List, [], ◌∷◌, reverse, length, arith}
use Rattle.sg_logic.specs.declared.values.Value.{Value}
use Rattle.sg_model.specs.Agenda.{list_at, AllRise, IsLeastTime, NoneBelow, NothingBelow, Rises}
use Rattle.sg_model.proofs.LeastLaws.{below_least, nothing_below-earlier}
use Rattle.pulse_list.proofs.EarliestLaws.{none_below-reverse}

-- where the one list rises, all do
all_rise-one : (lists : List (List (ℕ × Value))) → length lists ≡ 1 → Rises (reverse (list_at lists 0)) → AllRise lists
all_rise-one [] one r = absurd (omega arith)
all_rise-one (x ∷ []) one r = only
  where
    only : AllRise (x ∷ [])
    only zero d l = r
    only (suc i) d l = absurd (omega arith)
all_rise-one (x ∷ y ∷ ys) one r = absurd (omega arith)

pub below_now : (lists : List (List (ℕ × Value))) (now first : ℕ) → length lists ≡ 1 → IsLeastTime lists first → Rises (reverse (list_at lists 0)) → now ≤ first → NothingBelow now lists
below_now lists now first one least rising from = nothing_below-earlier now first lists from (below_least lists first (all_rise-one lists one rising) least)

pub latest_first : (lists : List (List (ℕ × Value))) (now first : ℕ) → length lists ≡ 1 → IsLeastTime lists first → Rises (reverse (list_at lists 0)) → now ≤ first → NoneBelow now (reverse (list_at lists 0))
latest_first lists now first one least rising from = none_below-reverse now (list_at lists 0) (below_now lists now first one least rising from 0 (omega arith))
