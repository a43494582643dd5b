-- Those so far are there.
use Rattle.std.proofs.Common.{map, take}
use Rattle.vl_tree.specs.Seen.{view_specparam}
use Rattle.specify_values.specs.Seen.{AddsSpecparams}
use Rattle.specify_values.proofs.gathering.add_specparams.Given as goal

abbrev pub invariant-loop-specparam : goal.invariant-loop-specparam
invariant-loop-specparam l = AddsSpecparams (map view_specparam (take l.specparam-index l.specparams)) l.initial.items l.items
