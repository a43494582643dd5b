use Rattle.std.proofs.Common.{◌≡◌, ◌<◌, ℕ, length, get_or}
use Rattle.wave_out.proofs.marks.clear_all.Given as goal

abbrev pub invariant-loop-i : goal.invariant-loop-i
invariant-loop-i l = (length l.words.items ≡ length l.fn.words.items) × ((j : ℕ) → j < l.i → get_or l.words.items j 0 ≡ 0)
