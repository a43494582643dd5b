-- Annotated circuits as the definition sees them.
use Rattle.std.specs.Prelude.{map}
use Rattle.run_report.specs.Reporting.{unmatched_seen}
use Rattle.signoff_phases.specs.declared.annotation.Annotated as code_annotated
use Rattle.signoff_phases.specs.Phases.{Annotated}

abbrev pub annotated_seen : code_annotated.Annotated → Annotated
annotated_seen a = record { circuit = a.circuit; unmatched = map (unmatched_seen a.sdf.items) a.unmatched.items }
