-- What one call after another set is the annotated circuit, and it is adjusted.
use Rattle.std.specs.Prelude.{◌≡◌, ℕ, ◌<◌, ℤ, All, List, [], length, map, slice_index_or, Option}
use Rattle.std.specs.Global.{Box}
use Rattle.std.proofs.Common.{◌∙◌, ap, subst, sym}
use Rattle.sg_delay.specs.declared.corners.Corner.{Corner}
use Rattle.sg_circuit.specs.Circuit.{Circuit}
use Rattle.sg_circuit.specs.declared.checks.CheckTiming.{CheckTiming}
use Rattle.sg_circuit.specs.declared.elements.LegTiming.{LegTiming}
use Rattle.late_limits.specs.Adjusted.{IsAdjustedFrom}
use Rattle.late_limits.specs.Adjustments as late
use Rattle.sdf_tree.specs.Meant.{Sdf}
use Rattle.annotation_model.specs.Annotated.{annotated_by}
use Rattle.annotation_model.specs.Given.{Given}
use Rattle.annotation_model.specs.Spots.{all_checked, limits_after, spot_after, spots}
use Rattle.annotation_setting.specs.Limits.{limited, with_all_limits, AreLimitsOf, AreSmallAt}
use Rattle.annotation_setting.specs.Table.{timings_seen}
use Rattle.annotation_setting.specs.Timings.{with_timings}
use Rattle.annotation_setting.proofs.AnnotatedLaws.{all-annotated}
use Rattle.annotation_setting.proofs.LikeLaws.{like-before}
use Rattle.annotation_setting.proofs.PartLaws.{limited-whole}

-- ---- limits that are set behind the timings

pub timed-small : (c start timed : Circuit) (timings : List (Option (Box LegTiming))) (check : ℕ) (limits : List ℤ) → start ≡ c → timed ≡ with_timings timings start → AreSmallAt c check limits → AreSmallAt timed check limits
timed-small c start timed timings check limits at_first times h = subst (λ (d : Circuit). AreSmallAt d check limits) (sym (times ∙ ap (with_timings timings) at_first)) h

-- ---- all of it

module _ (c start timed done : Circuit) (timings : List (Option (Box LegTiming))) (limits : List (List ℤ)) (fit : AreLimitsOf c limits) (at_first : start ≡ c) (times : timed ≡ with_timings timings start)
    (last : done ≡ with_all_limits limits timed) (pairs : (i : ℕ) → i < length limits → length (slice_index_or limits i []) ≡ 2) (two : All (λ (t : CheckTiming). length t.limits ≡ 2) timed.check_timings) where
  is : timed ≡ with_timings timings c
  is = times ∙ ap (with_timings timings) at_first

  set : limited limits c.check_timings ≡ late.with_limits c.check_timings limits
  set =
      limited-whole limits c.check_timings fit.each_check pairs (subst (λ ts. All (λ (t : CheckTiming). length t.limits ≡ 2) ts) (ap (λ (d : Circuit). d.check_timings) is) two)
      (λ i t l. fit.kept i l t)

  done-is : done ≡ with_all_limits limits (with_timings timings c)
  done-is = last ∙ ap (with_all_limits limits) is

  -- what was found fits
  pub set-like : late.IsLike c limits done
  set-like = subst (late.IsLike c limits) (sym done-is) (like-before c timings limits set)

  pub set-adjusted : (new : Circuit) → IsAdjustedFrom done new → (sdf : Sdf) (corner : Corner) (gs : List Given) → timings_seen (spots c) timings ≡ map (spot_after c sdf corner gs) (spots c)
      → limits ≡ map (limits_after c sdf corner gs) (all_checked c) → IsAdjustedFrom (annotated_by c sdf corner gs) new
  set-adjusted new made sdf corner gs timings_are limits_are = subst (λ (d : Circuit). IsAdjustedFrom d new) (done-is ∙ all-annotated c sdf corner gs timings limits fit.each_check set timings_are limits_are) made
