-- The scopes below one more were found.
use Rattle.std.proofs.Common.{[], ◌<◌, ◌++◌, ◌∙◌, ap, length}
use Rattle.std.proofs.lemmas.List.Elements.{All-nil, All-same}
use Rattle.annotation_index.specs.Candidates.{descend}
use Rattle.annotation_places.specs.Places.{lookups_of}
use Rattle.annotation_scopes.specs.Walks.{names_seen}
use Rattle.annotation_finder.proofs.CandidateSteps.{gathered-more, gathered-all, all-more}
use Rattle.annotation_finder.proofs.candidates.scopes_below.Goals as goal

pub loop-scope-init : goal.loop-scope-init
loop-scope-init c = record { items = c.new-below.ensures.items; within = All-same (λ s. s < length c.args.places.now.parts.now.scopes.items) _ [] c.new-below.ensures.items (All-nil (λ s. s < length c.args.places.now.parts.now.scopes.items)) }

pub loop-scope-preserved : goal.loop-scope-preserved
loop-scope-preserved c = record {
  items = gathered-more (descend (lookups_of c.args.places.now).inside (names_seen c.args.names.now)) [] c.args.scopes.now c.loop-scope.scope-index 0
      c.loop-scope.below.items c.append.new.self.items c.loop-scope-test.true c.loop-scope.invariant.items
      (c.in_ok-append.ensures.items ∙ ap (λ ss. c.loop-scope.below.items ++ ss) c.in_ok-descend.ensures.items);
  within = all-more (λ s. s < length c.args.places.now.parts.now.scopes.items) c.loop-scope.below.items c.in_ok-descend.field-0.items c.append.new.self.items c.in_ok-append.ensures.items
      c.loop-scope.invariant.within c.in_ok-descend.ensures.within;
}

pub returns : goal.returns
returns c = record {
  items = gathered-all (descend (lookups_of c.args.places.now).inside (names_seen c.args.names.now)) [] c.args.scopes.now c.loop-scope.scope-index
      c.loop-scope.below.items c.loop-scope-test.false c.loop-scope.invariant.items;
  within = c.loop-scope.invariant.within;
}
