-- What times say.
use Rattle.std.proofs.Common.{ℕ, ◌≡◌, List, false, ap, ◌∙◌}
use Rattle.std.specs.Prelude.{Option, Result}
use Rattle.sg_time.specs.declared.decimal.TimeError.{TimeError}
use Rattle.sg_time.specs.Spelling.{Number}
use Rattle.sg_time.proofs.SaysLaws.{says_parts}
use Rattle.stim_read.specs.Forms.{AreDecimals, has_sign, time_from, time_in}
use Rattle.stim_read.specs.Seen.{decimals}

pub are-decimals : AreDecimals decimals
unfolding decimals
are-decimals text = says_parts text

pub time-is : (text : List ℕ) (said : Result Number TimeError) (time : Option Number) → has_sign text ≡ false → said ≡ decimals text → time ≡ time_from said → time ≡ time_in decimals text
time-is text said time n e is = rw n (is ∙ ap time_from e)
