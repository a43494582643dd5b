-- The definitions at small values.
use Rattle.std.specs.Prelude.{ℕ, ◌≡◌, ◌-◌, ◌^◌, List, [], ◌∷◌, Some, None, codes, refl}
use Rattle.sg_io.specs.Faults.{next_count}
use Rattle.sg_io.specs.Files.{File, bytes_of, content_of}
use Rattle.sg_io.specs.Listed.{Calls, fails_after, after_call}

abbrev files : List File
files = record { name = codes "a.v"; bytes = codes "wire" } ∷ record { name = codes "b.v"; bytes = [] } ∷ []

a_file_is_found : bytes_of (codes "a.v") files ≡ Some (codes "wire")
a_file_is_found = refl

an_empty_file_is_found : bytes_of (codes "b.v") files ≡ Some []
an_empty_file_is_found = refl

no_file_has_part_of_a_name : bytes_of (codes "a") files ≡ None
no_file_has_part_of_a_name = refl

a_file_not_held_counts_as_empty : content_of (codes "c.v") files ≡ []
a_file_not_held_counts_as_empty = refl

-- call 1 is listed twice, call 4 once
abbrev calls_at : ℕ → Calls
calls_at n = record { made = n; failing = record { call = 1; taken = 5 } ∷ record { call = 4; taken = 0 } ∷ record { call = 1; taken = 2 } ∷ [] }

an_unlisted_call_does_not_fail : fails_after (calls_at 0) ≡ None
unfolding fails_after
an_unlisted_call_does_not_fail = refl

the_last_listing_holds : fails_after (calls_at 1) ≡ Some 2
unfolding fails_after
the_last_listing_holds = refl

the_next_call_has_the_next_number : after_call (calls_at 3) ≡ calls_at 4
the_next_call_has_the_next_number = refl

a_counter_stays_at_its_last_value : next_count (2 ^ 64 - 1) ≡ 2 ^ 64 - 1
a_counter_stays_at_its_last_value = refl
