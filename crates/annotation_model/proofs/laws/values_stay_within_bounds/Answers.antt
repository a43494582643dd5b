-- Each place, entry by entry.
use Rattle.annotation_model.proofs.KeptPlaces.{stay}
use Rattle.annotation_model.proofs.laws.values_stay_within_bounds.Goals as goal

pub returns : goal.returns
returns c = λ circuit sdf corner fits. stay circuit sdf corner fits
