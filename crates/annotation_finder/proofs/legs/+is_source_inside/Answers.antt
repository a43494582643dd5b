-- It is found inside one of the scopes of the first name, or in none.
use Rattle.std.proofs.Common.{◌∙◌, ◌-◌, ap, sym, length, take, drop}
use Rattle.std.specs.List.{list_any}
use Rattle.sg_circuit.specs.Seen.{circuit_seen}
use Rattle.annotation_index.specs.Candidates.{descend, is_source_at}
use Rattle.annotation_places.specs.Places.{lookups_of}
use Rattle.annotation_scopes.specs.Walks.{names_seen}
use Rattle.annotation_finder.proofs.LegLaws.{found_inside, none_inside, none_at_all, inside_first}
use Rattle.annotation_finder.proofs.legs.+is_source_inside.Goals as goal

pub returns-then-is_source_inside : goal.returns-then-is_source_inside
returns-then-is_source_inside t c =
    found_inside (is_source_at (circuit_seen c.args.places.now.parts.now) c.args.name.now c.args.bit c.args.net) (descend (lookups_of c.args.places.now).inside (names_seen (take (length c.args.path.now - 1) (drop 1 c.args.path.now))))
    c.inside-inner-items.result.now c.loop-inner.inner-index 0 c.loop-inner-test.true (sym c.is_source_inside.ensures ∙ c.if-is_source_inside.true)
    ∙ ap (list_any (is_source_at (circuit_seen c.args.places.now.parts.now) c.args.name.now c.args.bit c.args.net))
    (inside_first (lookups_of c.args.places.now) c.args.path.now c.first-item.result c.deref.result.now c.inside-inner-items.result.now c.args.scope c.in-len1-up.len_at_least c.first-item.is c.deref.ensures.value c.inside-inner-items.ensures.items)

pub loop-inner-preserved : goal.loop-inner-preserved
loop-inner-preserved t c =
    none_inside (is_source_at (circuit_seen c.args.places.now.parts.now) c.args.name.now c.args.bit c.args.net) (descend (lookups_of c.args.places.now).inside (names_seen (take (length c.args.path.now - 1) (drop 1 c.args.path.now))))
    c.inside-inner-items.result.now c.loop-inner.inner-index 0 c.loop-inner-test.true c.loop-inner.invariant (sym c.is_source_inside.ensures ∙ c.if-is_source_inside.false)

pub returns : goal.returns
returns t c =
    none_at_all (is_source_at (circuit_seen c.args.places.now.parts.now) c.args.name.now c.args.bit c.args.net) (descend (lookups_of c.args.places.now).inside (names_seen (take (length c.args.path.now - 1) (drop 1 c.args.path.now))))
    c.inside-inner-items.result.now c.loop-inner.inner-index c.loop-inner-test.false c.loop-inner.invariant
    ∙ ap (list_any (is_source_at (circuit_seen c.args.places.now.parts.now) c.args.name.now c.args.bit c.args.net))
    (inside_first (lookups_of c.args.places.now) c.args.path.now c.first-item.result c.deref.result.now c.inside-inner-items.result.now c.args.scope c.in-len1-up.len_at_least c.first-item.is c.deref.ensures.value c.inside-inner-items.ensures.items)
