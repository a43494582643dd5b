-- The first fault is still to come.
use Rattle.std.proofs.Common.{◌≡◌, drop, map}
use Rattle.std.specs.List.{flat_map}
use Rattle.sdf_meaning.specs.FirstFaults.{crossing}
use Rattle.sdf_meaning.proofs.first_faults.first_crossing.Given as goal

abbrev pub invariant-loop-part : goal.invariant-loop-part
invariant-loop-part g l =
    let t = g.T.Valued in
    crossing (flat_map t.crossings (map t.view (drop l.part-index l.parts))) ≡ crossing (flat_map t.crossings (map t.view l.parts))
