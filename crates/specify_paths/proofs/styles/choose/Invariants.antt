-- Those so far have the style.
use Rattle.std.proofs.Common.{◌≡◌, ℕ, take}
use Rattle.specify_paths.specs.Words.{style_at, with_style}
use Rattle.specify_paths.proofs.styles.choose.Given as goal

abbrev pub invariant-loop-bit : goal.invariant-loop-bit
invariant-loop-bit l = (i : ℕ) → style_at l.styles i ≡ with_style (style_at l.initial.styles) l.style (take l.bit-index l.bits) i
