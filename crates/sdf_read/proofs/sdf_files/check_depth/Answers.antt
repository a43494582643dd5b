-- The first parenthesis that is too deep.
use Rattle.std.proofs.Common.{refl}
use Rattle.sdf_read.proofs.sdf_files.check_depth.Goals as goal

pub returns-in-Some-clause-refused : goal.returns-in-Some-clause-refused
returns-in-Some-clause-refused c = (c.in-Some.at, c.in-Some.ensures, refl, c.place_of_fault.ensures)
