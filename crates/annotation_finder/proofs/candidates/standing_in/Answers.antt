-- What stands in one scope more was found.
use Rattle.std.proofs.Common.{[], ◌<◌, ◌++◌, ◌∙◌, ap, length}
use Rattle.std.proofs.lemmas.List.Elements.{All-nil, All-same}
use Rattle.annotation_places.specs.Places.{lookups_of}
use Rattle.annotation_finder.proofs.CandidateSteps.{gathered-more, gathered-all, all-more}
use Rattle.annotation_finder.proofs.candidates.standing_in.Goals as goal

pub loop-scope-init : goal.loop-scope-init
loop-scope-init c = record { items = c.new-found.ensures.items; within = All-same (λ k. k < length c.args.places.now.spots.items) _ [] c.new-found.ensures.items (All-nil (λ k. k < length c.args.places.now.spots.items)) }

pub loop-scope-preserved : goal.loop-scope-preserved
loop-scope-preserved c =
    let e = c.in_ok-extend_from_slice.ensures.items ∙ ap (λ ks. c.loop-scope.found.items ++ ks) c.standing.ensures.items in
    record {
      items = gathered-more (lookups_of c.args.places.now).standing [] c.args.scopes.now c.loop-scope.scope-index 0
          c.loop-scope.found.items c.extend_from_slice.new.self.items c.loop-scope-test.true c.loop-scope.invariant.items e;
      within = all-more (λ k. k < length c.args.places.now.spots.items) c.loop-scope.found.items c.standing.result.now c.extend_from_slice.new.self.items c.in_ok-extend_from_slice.ensures.items c.loop-scope.invariant.within c.standing.ensures.within;
    }

pub returns : goal.returns
returns c = record {
  items = gathered-all (lookups_of c.args.places.now).standing [] c.args.scopes.now c.loop-scope.scope-index
      c.loop-scope.found.items c.loop-scope-test.false c.loop-scope.invariant.items;
  within = c.loop-scope.invariant.within;
}
