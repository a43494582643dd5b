-- An element is the second driver, or one more.
use Rattle.std.proofs.Common.{rules, ◌++◌, ◌<◌, map, take, length, arith}
use Rattle.elab_numbering.specs.Driving.{by_elements}
use Rattle.elab_numbering.proofs.LoopLemmas.{element-next, element-second}
use Rattle.elab_numbering.proofs.driving.drive_outputs.Goals as goal

pub returns-then-not-note-clause-second : goal.returns-then-not-note-clause-second
returns-then-not-note-clause-second c = λ ds s.
    let lt : c.loop-place.place < length c.args.elements.now = omega arith in
    element-second ds c.args.elements.now c.loop-place.place c.index-elements-place.result lt (search rules)
    (c.if-not-note.ensures.noted (ds ++ by_elements 0 (take c.loop-place.place (map (λ e. e.output) c.args.elements.now))) (c.loop-place.invariant.so_far ds s))

pub loop-place-preserved : goal.loop-place-preserved
loop-place-preserved c = record {
  nets = search rules;
  so_far = λ ds s.
      let lt : c.loop-place.place < length c.args.elements.now = omega arith in
      element-next c.note.new.drivers.items ds c.args.elements.now c.loop-place.place c.index-elements-place.result lt (search rules)
      (c.if-not-note.ensures.noted (ds ++ by_elements 0 (take c.loop-place.place (map (λ e. e.output) c.args.elements.now))) (c.loop-place.invariant.so_far ds s));
}
