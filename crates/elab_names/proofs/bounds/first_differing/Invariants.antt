-- The first name with another range is still to come.
use Rattle.std.proofs.Common.{Bor, ℕ, List, nat_eq, map, drop, []}
use Rattle.indexmap.specs.IndexMap.{get}
use lib.Pointwise.{pointwise}
use Rattle.elab_declared.specs.Words.{first_of}
use Rattle.elab_names.specs.GivenRanges.{differing_places, view_range}
use Rattle.elab_names.proofs.KnownRanges.{IsToCome}
use Rattle.elab_names.proofs.bounds.first_differing.Given as goal

abbrev pub invariant-loop-given : goal.invariant-loop-given
invariant-loop-given l = IsToCome (λ q. get (λ (a : Bor (List ℕ)) (b : Bor (List ℕ)). pointwise nat_eq a.now b.now) l.known q) (map view_range (drop l.given-index l.ranges)) (first_of (differing_places [] (map view_range l.ranges)))
