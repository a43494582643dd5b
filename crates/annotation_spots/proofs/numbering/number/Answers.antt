-- What was numbered are the circuit's.
use Rattle.annotation_spots.proofs.Numbered.{rows-numbered, firsts-numbered}
use Rattle.annotation_spots.proofs.numbering.number.Goals as goal

pub returns-clause-rows : goal.returns-clause-rows
returns-clause-rows c = rows-numbered c.args.circuit.now c.parts.result.now c.deref.result.now c.number_elements.result c.parts.ensures.seen c.parts.ensures.indexed c.deref.ensures.value c.number_elements.ensures.rows

pub returns-clause-firsts : goal.returns-clause-firsts
returns-clause-firsts c = firsts-numbered c.args.circuit.now c.parts.result.now c.deref.result.now c.number_elements.result c.parts.ensures.seen c.parts.ensures.indexed c.deref.ensures.value c.number_elements.ensures.firsts
