-- One scope more, or all.
use Rattle.std.proofs.Common.{◌<◌, ◌++◌, All, length, ◌∙◌, ap, sym, subst}
use Rattle.std.proofs.lemmas.List.Elements.{All-append}
use Rattle.annotation_places.specs.Places.{lookups_of}
use Rattle.annotation_scopes.proofs.WalkLaws.{more_below, all_below}
use Rattle.annotation_scopes.proofs.walks.below.Goals as goal

pub loop-scope-preserved : goal.loop-scope-preserved
loop-scope-preserved c = (
  more_below (λ s. (lookups_of c.args.places.now).inside s c.args.name.now) c.args.scopes.now c.loop-scope.found.items c.extend_from_slice.new.self.items c.loop-scope.scope-index 0 c.loop-scope-test.true
      (c.in_ok-extend_from_slice.ensures.items ∙ ap (λ xs. c.loop-scope.found.items ++ xs) c.inside.ensures.items) c.loop-scope.invariant.0,
  subst (λ xs. All (λ s. s < length c.args.places.now.parts.now.scopes.items) xs) (sym c.in_ok-extend_from_slice.ensures.items)
      (All-append (λ s. s < length c.args.places.now.parts.now.scopes.items) c.loop-scope.found.items c.inside.result.now c.loop-scope.invariant.1 c.inside.ensures.within),
)

pub returns-clause-items : goal.returns-clause-items
returns-clause-items c =
    all_below (λ s. (lookups_of c.args.places.now).inside s c.args.name.now) c.args.scopes.now c.loop-scope.found.items c.loop-scope.scope-index c.loop-scope-test.false c.loop-scope.invariant.0
