-- Those so far that may be the top.
use Rattle.std.proofs.Common.{◌≡◌, take, map, filter}
use Rattle.fit_parts.specs.Below.{is_seen, may_be_top}
use Rattle.fit_parts.specs.Parts.{heading_seen}
use Rattle.fit_parts.proofs.tops.candidates.Given as goal

abbrev pub invariant-loop-part : goal.invariant-loop-part
invariant-loop-part l = map heading_seen l.list.items ≡ filter (may_be_top (λ n. is_seen n l.used.keys)) (map heading_seen (take l.part-index l.read))
