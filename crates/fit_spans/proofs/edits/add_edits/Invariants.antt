-- The texts stay.
use Rattle.std.specs.Prelude.{◌≡◌, length, map}
use Rattle.fit_spans.proofs.edits.add_edits.Given as goal

abbrev pub invariant-loop-edit : goal.invariant-loop-edit
invariant-loop-edit l = map (λ f. f.text) l.files ≡ map (λ f. f.text) l.fn.files

abbrev pub decreases-loop-edit : goal.decreases-loop-edit
decreases-loop-edit l = length l.edits.items
