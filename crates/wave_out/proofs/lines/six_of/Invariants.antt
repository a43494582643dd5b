use Rattle.std.proofs.Common.{◌≡◌, length, take}
use Rattle.wave_out.proofs.lines.six_of.Given as goal

-- the bytes so far are copied
abbrev pub invariant-loop-i : goal.invariant-loop-i
invariant-loop-i l = (length l.six ≡ 6) × (take l.i l.six ≡ take l.i l.end)
