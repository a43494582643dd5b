-- One variable more.
use Rattle.stim_read.specs.ByName.{place_in}
use Rattle.stim_read.proofs.ByNameLaws.{next-place}
use Rattle.stim_read.proofs.top_inputs.places_of.Goals as goal

pub loop-place-preserved : goal.loop-place-preserved
loop-place-preserved c =
    next-place c.args.circuit.now c.args.variables.now c.loop-place.place c.index-variables-place.result (place_in c.loop-place.places) (place_in c.add_variable.new.places)
    c.loop-place-test.true c.index-variables-place.is c.loop-place.invariant c.in_ok-add_variable.ensures
