-- The files so far.
use Rattle.std.proofs.Common.{◌≡◌, take}
use Rattle.vl_lex.specs.Seen.{texts}
use Rattle.fit_netlist.specs.Phases.{as_read}
use Rattle.fit_netlist.proofs.changing.unchanged.Given as goal

abbrev pub invariant-loop-file : goal.invariant-loop-file
invariant-loop-file l = l.list.items ≡ as_read (texts (take l.file-index l.files))
