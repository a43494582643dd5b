-- One entry more, at each place.
use Rattle.annotation_model.specs.Spots.{is_for_spot, applied_at, timings_of, is_for_check, limits_with}
use Rattle.annotation_model.proofs.AfterLaws.{after-more}
use Rattle.annotation_model.proofs.laws.entries_one_after_another.Goals as goal

pub returns : goal.returns
returns c = λ circuit sdf corner gs g. record {
  spot = λ s. after-more (λ h. is_for_spot circuit sdf.divider h s) (λ h. applied_at circuit sdf corner h s) gs g (timings_of s);
  check = λ k. after-more (λ h. is_for_check circuit sdf.divider h k) (λ h. limits_with circuit sdf corner h k) gs g k.timing.limits;
}
