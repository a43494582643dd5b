-- The candidates have each place, and those that pass are picked.
use Rattle.annotation_model.specs.Finding.{is_found_spot, is_found_check}
use Rattle.annotation_index.specs.Candidates.{spots_for, checks_for}
use Rattle.annotation_index.proofs.CandidateLaws.{each_spot, each_check}
use Rattle.annotation_index.proofs.PickLaws.{picked_all}
use Rattle.annotation_index.proofs.ScopeLaws.{descended, of_cell}
use Rattle.annotation_index.proofs.SourceLaws.{source_down}
use Rattle.annotation_index.proofs.laws.index_is_exact.Goals as goal

pub returns : goal.returns
returns c = λ circuit sdf g l closed of_circuit. record {
  down = descended circuit l of_circuit;
  cell = of_cell circuit l of_circuit sdf.divider g.cell_type g.instance;
  spots = λ scopes are marks found.
      picked_all (is_found_spot circuit sdf g) (spots_for circuit sdf.divider l g.entry.kind scopes) marks found (each_spot circuit sdf g l closed of_circuit scopes are);
  source = λ from net below. source_down circuit l of_circuit sdf.divider from net below;
  checks = λ scopes are marks found.
      picked_all (is_found_check circuit sdf g) (checks_for circuit sdf.divider l g.entry.kind scopes) marks found (each_check circuit sdf g l closed of_circuit scopes are);
}
