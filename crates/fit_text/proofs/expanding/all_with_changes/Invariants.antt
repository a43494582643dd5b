-- The texts so far.
use Rattle.std.specs.Prelude.{◌≡◌, map, take}
use Rattle.fit_text.specs.Expanded.{texts}
use Rattle.fit_text.proofs.expanding.all_with_changes.Given as goal

abbrev pub invariant-loop-file : goal.invariant-loop-file
invariant-loop-file l = map (λ f. f.text) l.list.items ≡ texts (take l.file-index l.files)
