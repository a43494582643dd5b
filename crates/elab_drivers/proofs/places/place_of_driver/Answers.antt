-- What drives the net is found among the inputs, or else among the elements.
use Rattle.std.proofs.Common.{inl, inr}
use Rattle.elab_drivers.proofs.Found.{found-place, found-input, not-taken}
use Rattle.elab_drivers.proofs.places.place_of_driver.Goals as goal

pub unreachable-requires : goal.unreachable-requires
unreachable-requires c =
    not-taken (λ e. e.output) c.args.net c.args.inputs.now c.args.elements.now c.input_of.result c.element_of.result
    c.input_of.ensures c.in_default.is c.element_of.ensures c.in-None.is c.requires.driven

pub returns-in-Some : goal.returns-in-Some
returns-in-Some c =
    inl (found-input c.args.net c.args.inputs.now c.args.input_places.now c.input_of.result c.in-Some.input _ c.input_of.ensures c.in-Some.is c.requires.input_places)

pub returns : goal.returns
returns c =
    inr (found-place (λ e. e.output) c.args.net c.args.elements.now c.args.places.now c.element_of.result c.in-Some-element_of.element _
    c.element_of.ensures c.in-Some-element_of.is c.requires.places)
