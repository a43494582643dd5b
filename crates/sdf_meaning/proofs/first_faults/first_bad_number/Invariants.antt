-- The first fault is still to come.
use Rattle.std.proofs.Common.{◌≡◌, drop, map}
use Rattle.std.specs.List.{flat_map}
use Rattle.sdf_meaning.specs.FirstFaults.{bad_number}
use Rattle.sdf_meaning.proofs.first_faults.first_bad_number.Given as goal

abbrev pub invariant-loop-part : goal.invariant-loop-part
invariant-loop-part g l =
    let t = g.T.Valued in
    bad_number (flat_map t.numbers (map t.view (drop l.part-index l.parts))) ≡ bad_number (flat_map t.numbers (map t.view l.parts))
