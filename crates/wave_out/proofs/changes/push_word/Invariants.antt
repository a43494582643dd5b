use Rattle.std.proofs.Common.{◌≡◌, ◌++◌, ◌<◌, length}
use Rattle.std.specs.Prelude.{All}
use Rattle.wave_out.specs.Lines.{lines_of}
use Rattle.wave_out.specs.Marks.{bools, trues}
use Rattle.wave_out.proofs.changes.push_word.Given as goal

-- the lines of the variables that are left complete the text
abbrev pub invariant-loop-left : goal.invariant-loop-left
invariant-loop-left g l = record {
  within : All (λ k. k < length l.variables) (trues l.first (bools 64 l.left));
  text : l.text.items ++ lines_of l.variables (trues l.first (bools 64 l.left)) (g.N.Nets.values l.nets) ≡ l.fn.text.items ++ lines_of l.variables (trues l.first (bools 64 l.word)) (g.N.Nets.values l.nets);
}

abbrev pub decreases-loop-left : goal.decreases-loop-left
decreases-loop-left g l = l.left
