use Rattle.sg_circuit.specs.Circuit.{element_at}
use Rattle.sg_circuit.specs.Seen.{circuit_seen}
use Rattle.annotation_model.specs.Finding.{check_at}
use Rattle.written_faults.specs.Depths.{check_deep, delayed_deep}
use Rattle.written_faults.proofs.AnyLaws.{first_fails, first_passes}
use Rattle.written_faults.proofs.DepthLaws.{depths_found}
use Rattle.written_faults.proofs.ScopeLaws.{checks_there, elements_there}
use Rattle.written_faults.proofs.depths.has_deep.Goals as goal

pub has_elements-requires-clause-numbers : goal.has_elements-requires-clause-numbers
has_elements-requires-clause-numbers c = elements_there c.args.parts.now c.args.groups.now c.requires.groups c.args.scope c.requires.scope c.of.result.now c.of.ensures

pub has_checks-requires-clause-numbers : goal.has_checks-requires-clause-numbers
has_checks-requires-clause-numbers c = checks_there c.args.parts.now c.args.groups.now c.requires.groups c.args.scope c.requires.scope c.of-else-has_elements.result.now c.of-else-has_elements.ensures

pub returns-then-has_elements : goal.returns-then-has_elements
returns-then-has_elements c =
    let parts = c.args.parts.now in
    first_passes (λ n. delayed_deep (element_at (circuit_seen parts) n).kind) (λ n. check_deep (check_at (circuit_seen parts) n)) c.of.result.now _ _ c.has_elements.result _
    (depths_found parts c.args.groups.now c.args.scope c.requires.closed c.requires.groups c.requires.scope) c.of.ensures c.has_elements.ensures c.if-has_elements.true

pub returns-else-has_elements : goal.returns-else-has_elements
returns-else-has_elements c =
    let parts = c.args.parts.now in
    first_fails (λ n. delayed_deep (element_at (circuit_seen parts) n).kind) (λ n. check_deep (check_at (circuit_seen parts) n)) c.of.result.now _ c.of-else-has_elements.result.now _ c.has_elements.result c.has_checks.result _
    (depths_found parts c.args.groups.now c.args.scope c.requires.closed c.requires.groups c.requires.scope) c.of.ensures c.of-else-has_elements.ensures c.has_elements.ensures c.if-has_elements.false c.has_checks.ensures
