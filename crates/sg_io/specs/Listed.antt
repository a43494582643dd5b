-- Calls that are numbered from 0, and the list of those that are to fail.
use Rattle.std.specs.Prelude.{ℕ, ◌==◌, List, [], ◌∷◌, ◌++◌, Option, find, reverse}
use Rattle.std.specs.Option.{option_map}
use Rattle.sg_io.specs.Faults.{next_count}
use Rattle.sg_io.specs.declared.listed.FailingCall.{FailingCall}

-- how many calls were made, as far as the counter goes, and those that are to fail, in the order in which they were listed
pub record Calls : Type 0 where
  pub made : ℕ
  pub failing : List FailingCall

-- after how many bytes the next call fails, if it is listed; of several listings the last holds
unfoldable pub fails_after : Calls → Option ℕ
fails_after calls = option_map (λ f. f.taken) (find (λ f. f.call == calls.made) (reverse calls.failing))

-- one call more was made
abbrev pub after_call : Calls → Calls
after_call calls = record calls { made = next_count calls.made }

-- one listing more
abbrev pub with_listing : Calls → ℕ → ℕ → Calls
with_listing calls call taken = record calls { failing = calls.failing ++ record { call = call; taken = taken } ∷ [] }
