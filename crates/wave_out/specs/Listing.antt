-- What a block has of the variables that are marked, while their marks are taken.
use Rattle.std.specs.Prelude.{◌≡◌, ◌<◌, ℕ, All, List, ◌++◌, length}
use Rattle.sg_logic.specs.declared.values.Value.{Value}
use Rattle.wave_out.specs.declared.marks.Marks.{Marks}
use Rattle.wave_out.specs.Lines.{lines_of}
use Rattle.wave_out.specs.Marks.{listed, AreMarks, IsDone}

-- of the first groups, so many, no mark is left, and the lines of the marks that are left complete the text
pub record HasListed (bits : List (List ℕ)) (values : List Value) (groups : ℕ) (old new : Marks) (before after : List ℕ) : Type 0 where
  pub marks : AreMarks new
  pub done : IsDone groups new
  pub within : All (λ k. k < length bits) (listed new)
  pub text : after ++ lines_of bits (listed new) values ≡ before ++ lines_of bits (listed old) values
