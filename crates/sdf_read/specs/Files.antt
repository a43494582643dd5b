-- The state between the parts of a file, as the definitions see it.
use Rattle.sdf_tree.specs.Files.{FileState}
use Rattle.sdf_read.specs.declared.files.State.{State}

abbrev pub state : State → FileState
state s = record { heads = s.heads; divider = s.divider }
