-- The indexes that were made are those of the circuit.
use Rattle.annotation_places.proofs.PlaceLaws.{all_made}
use Rattle.annotation_places.proofs.places.Places.of.Goals as goal

pub returns-clause-places : goal.returns-clause-places
returns-clause-places c =
    all_made (record {
      parts = c.parts-parts.result;
      spots = c.in_ok-spots.field-0.spots;
      firsts = c.in_ok-spots.field-0.firsts;
      inside = c.in_ok-inside.inside;
      modules = c.in_ok-modules.modules;
      standing = c.in_ok-standing.standing;
      referring = c.in_ok-referring.referring;
      variables = c.in_ok-variables.variables;
    }) c.args.circuit.now c.deref.result.now c.parts-parts.ensures.seen c.parts-parts.ensures.closed c.parts-parts.ensures.indexed c.in_ok-spots.ensures.rows c.in_ok-spots.ensures.few
    c.in_ok-spots.ensures.firsts c.in_ok-inside.ensures c.in_ok-modules.ensures c.deref.ensures.value c.in_ok-standing.ensures c.in_ok-referring.ensures c.in_ok-variables.ensures
