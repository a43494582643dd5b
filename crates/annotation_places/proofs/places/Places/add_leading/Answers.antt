-- Numbers of legs and paths alone lead to a net.
use Rattle.sg_circuit.specs.Seen.{circuit_seen}
use Rattle.annotation_places.proofs.LedBy.{led_within}
use Rattle.annotation_places.proofs.places.Places.add_leading.Goals as goal

pub returns-clause-within : goal.returns-clause-within
returns-clause-within c =
    led_within (circuit_seen c.args.self.now.parts.now) c.args.self.now.spots.items c.args.self.now.firsts.items c.requires.places.closed c.requires.places.rows c.requires.places.firsts c.args.net
