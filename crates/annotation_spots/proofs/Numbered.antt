-- What was numbered from the code's elements is right of the circuit that they stand for.
use Rattle.std.specs.Prelude.{◌≡◌, List, IfOk, Result}
use Rattle.std.proofs.Common.{◌∙◌, ap}
use Rattle.sg_circuit.specs.Circuit.{Circuit}
use Rattle.sg_circuit.specs.Pins.{starts_from}
use Rattle.sg_circuit.specs.Seen.{circuit_seen, AreIndexed}
use Rattle.sg_circuit.specs.declared.circuits.Parts.{Parts}
use Rattle.sg_circuit.specs.declared.elements.Element as code_element
use Rattle.sg_circuit.proofs.PinLaws.{if_ok_then}
use Rattle.annotation_spots.specs.Counts.{counts_of, rows_from}
use Rattle.annotation_spots.specs.Rows.{AreFirsts, AreRows}
use Rattle.annotation_spots.specs.declared.numbering.Numbering.{Numbering}
use Rattle.annotation_spots.proofs.CountLaws.{counts-of_circuit}
use Rattle.annotation_spots.proofs.RowLaws.{are_rows, are_firsts}

pub rows-numbered : {E : Type 0} (c : Circuit) (parts : Parts) (elements : List code_element.Element) (r : Result Numbering E) → circuit_seen parts ≡ c → AreIndexed parts → elements ≡ parts.elements.items
    → IfOk r (λ n. n.spots.items ≡ rows_from 0 (counts_of elements)) → IfOk r (λ n. AreRows c n.spots.items)
rows-numbered c parts elements r seen h same =
    if_ok_then r (λ n. n.spots.items ≡ rows_from 0 (counts_of elements)) (λ n. AreRows c n.spots.items)
    (λ n e. are_rows c n.spots.items (e ∙ ap (λ es. rows_from 0 (counts_of es)) same ∙ ap (rows_from 0) (counts-of_circuit parts c seen h)))

pub firsts-numbered : {E : Type 0} (c : Circuit) (parts : Parts) (elements : List code_element.Element) (r : Result Numbering E) → circuit_seen parts ≡ c → AreIndexed parts → elements ≡ parts.elements.items
    → IfOk r (λ n. n.firsts.items ≡ starts_from 0 (counts_of elements)) → IfOk r (λ n. AreFirsts c n.firsts.items)
firsts-numbered c parts elements r seen h same =
    if_ok_then r (λ n. n.firsts.items ≡ starts_from 0 (counts_of elements)) (λ n. AreFirsts c n.firsts.items)
    (λ n e. are_firsts c n.firsts.items (e ∙ ap (λ es. starts_from 0 (counts_of es)) same ∙ ap (starts_from 0) (counts-of_circuit parts c seen h)))
