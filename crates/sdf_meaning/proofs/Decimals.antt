-- What a word of few bytes is as a decimal.
use Rattle.std.proofs.Common.{◌≡◌, ◌^◌, ℕ, true, List, length, Result, refl, ◌∙◌}
use Rattle.std.specs.Prelude.{nat_lt, Ok, Err}
use Rattle.std.specs.Result.{is_err}
use Rattle.sg_time.specs.declared.decimal.Decimal.{Decimal}
use Rattle.sg_time.specs.declared.decimal.TimeError.{TimeError}
use Rattle.sg_time.specs.Reading.{parts_of, said_of}
use Rattle.sg_time.specs.Seen.{outcome}
use Rattle.sg_time.specs.Spelling.{Number}
use Rattle.sdf_tree.specs.Meant.{decimal_of}

pub short_decimal : (text : List ℕ) (o : Result Number TimeError) → nat_lt (length text) (2 ^ 30) ≡ true → o ≡ said_of (parts_of text) → o ≡ decimal_of text
short_decimal text o h e = e ∙ rw h refl

-- a decimal is refused as it is seen
pub same_refused : (r : Result Decimal TimeError) → is_err r ≡ is_err (outcome r)
same_refused (Ok d) = refl
same_refused (Err e) = refl
