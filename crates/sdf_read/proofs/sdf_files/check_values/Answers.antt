-- Of the first faults the meaning tells the first that there is.
use Rattle.sdf_tree.specs.Seen.{view_file}
use Rattle.sdf_read.proofs.JoinedPhases.{values_faultless, values_at_fault}
use Rattle.sdf_read.proofs.sdf_files.check_values.Goals as goal

pub returns-clause-faultless : goal.returns-clause-faultless
returns-clause-faultless c =
    let ps = view_file c.args.file.now in
    values_faultless c.file_bad_number.result c.file_crossing.result ps c.refuse_values.result c.file_bad_number.ensures c.file_crossing.ensures (c.refuse_values.ensures.faultless ps)

pub returns-clause-refused : goal.returns-clause-refused
returns-clause-refused c =
    let ps = view_file c.args.file.now in
    values_at_fault c.file_bad_number.result c.file_crossing.result ps c.refuse_values.result c.file_bad_number.ensures c.file_crossing.ensures (c.refuse_values.ensures.refused ps)
