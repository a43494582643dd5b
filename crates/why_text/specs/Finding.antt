-- Nets and violations by how they are written.
use Rattle.std.specs.Prelude.{ℕ, List, bytes_eq, find, length, Option}
use Rattle.std.specs.List.{position_from, range_with_len}
use Rattle.sg_model.specs.Machine.{Violation}
use Rattle.sg_circuit.specs.Circuit.{Circuit}
use Rattle.wave_out.specs.Texts.{line}
use Rattle.run_report.specs.Report.{net_text, violation_line}

-- the first net whose path is a name
abbrev pub net_called : Circuit → List ℕ → Option ℕ
net_called c name = find (λ n. bytes_eq (net_text c n) name) (range_with_len 0 (length c.nets))

-- the place of the first violation whose line of the report is a text
abbrev pub violation_called : Circuit → List Violation → List ℕ → Option ℕ
violation_called c vs name = position_from (λ v. bytes_eq (violation_line c v) (line name)) 0 vs
