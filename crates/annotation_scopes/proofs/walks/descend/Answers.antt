-- One name more, or all.
use Rattle.std.proofs.Common.{ap, ◌∙◌}
use Rattle.std.specs.List.{flat_map}
use Rattle.annotation_places.specs.Places.{lookups_of}
use Rattle.annotation_scopes.proofs.WalkLaws.{from_one, one_within, one_down, all_down}
use Rattle.annotation_scopes.proofs.walks.descend.Goals as goal

pub loop-name-init : goal.loop-name-init
loop-name-init c = (from_one (lookups_of c.args.places.now).inside c.args.names.now c.in_ok-scopes.scopes.items c.args.scope c.in_ok-scopes.ensures.items, one_within _ c.in_ok-scopes.scopes.items c.args.scope c.requires.scope c.in_ok-scopes.ensures.items)

pub loop-name-preserved : goal.loop-name-preserved
loop-name-preserved c = (
  one_down (lookups_of c.args.places.now).inside c.args.names.now c.loop-name.name-index _ c.name-item.result c.deref.result.now c.loop-name.scopes.items c.in_ok-scopes-2.scopes.items _ c.loop-name-test.true c.name-item.is c.deref.ensures.value
      (c.in_ok-scopes-2.ensures.items ∙ ap (λ xs. flat_map (λ s. (lookups_of c.args.places.now).inside s c.deref.result.now) xs) c.deref-in-loop-name.ensures.value) c.loop-name.invariant.0,
  c.in_ok-scopes-2.ensures.within,
)

pub returns-clause-items : goal.returns-clause-items
returns-clause-items c = all_down (lookups_of c.args.places.now).inside c.args.names.now c.loop-name.name-index c.loop-name.scopes.items _ c.loop-name-test.false c.loop-name.invariant.0
