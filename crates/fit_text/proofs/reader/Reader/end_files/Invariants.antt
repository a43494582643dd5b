-- Each round takes a branch.
use Rattle.std.specs.Prelude.{length}
use Rattle.fit_text.proofs.reader.Reader.end_files.Given as goal

abbrev pub decreases-loop-branch : goal.decreases-loop-branch
decreases-loop-branch l = length l.open.items
