-- Words of the functions that follow a chain.
use Rattle.std.specs.Prelude.{ℕ, ◌<◌, Bool, false, if◌then◌else◌, List, Option, Some, None, slice_index_or}
use Rattle.why_causes.specs.declared.links.Link.{Link}
use Rattle.why_causes.specs.declared.links.Cause.{Cause}
use Rattle.why_causes.specs.declared.links.Cause.TheVariants.{Nothing, NeverSet, Linked}

-- a cause that is an event is one of so many
abbrev pub IsWithin : ℕ → Cause → Type 0
IsWithin n Nothing = Unit {0}
IsWithin n (NeverSet element input) = Unit {0}
IsWithin n (Linked link) = link.event < n

-- a cause that is an event which wasn't seen yet
abbrev pub new_link : List Bool → Cause → Option Link
new_link seen Nothing = None
new_link seen (NeverSet element input) = None
new_link seen (Linked link) = if slice_index_or seen link.event false then None else Some link
