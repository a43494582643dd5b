-- The texts so far, followed by those that are left, are all.
use Rattle.std.proofs.Common.{◌≡◌, ◌++◌, map}
use Rattle.std.specs.Vec.Iter.{into_iter_items}
use Rattle.fit_top.specs.Work.{input_seen}
use Rattle.fit_top.proofs.inputs.texts_of.Given as goal

abbrev pub invariant-loop-input : goal.invariant-loop-input
invariant-loop-input l =
    map (λ t. t.items) l.texts.items ++ map (λ i. (input_seen i).bytes) (into_iter_items l.input-iterator) ≡ map (λ i. (input_seen i).bytes) (into_iter_items l.initial.input-iterator)
