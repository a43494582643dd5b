-- The better of two candidates.
use Rattle.std.specs.Prelude.{nat_lt, Bool, if◌then◌else◌, Option, Some, None}
use Rattle.why_causes.specs.declared.changes.Candidate.{Candidate}
use Rattle.why_causes.specs.Candidates.{time_of}

-- the better of two, where one may beat another; the first, where the second doesn't beat it
abbrev pub better_of : {A : Type 0} → (A → A → Bool) → Option A → Option A → Option A
better_of beats None other = other
better_of beats (Some a) None = Some a
better_of beats (Some a) (Some b) = if beats b a then Some b else Some a

-- a later one beats an earlier one, or the other way round
abbrev pub is_later : Candidate → Candidate → Bool
is_later c d = nat_lt (time_of d) (time_of c)

abbrev pub is_earlier : Candidate → Candidate → Bool
is_earlier c d = nat_lt (time_of c) (time_of d)

abbrev pub later_of : Option Candidate → Option Candidate → Option Candidate
later_of best other = better_of is_later best other

abbrev pub earlier_of : Option Candidate → Option Candidate → Option Candidate
earlier_of best other = better_of is_earlier best other
