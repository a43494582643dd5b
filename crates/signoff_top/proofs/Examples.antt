-- A worked example of what is told.
use Rattle.std.specs.Prelude.{◌≡◌, ◌++◌, codes, refl}
use Rattle.std.specs.Fmt.{digits}
use Rattle.wave_out.specs.Texts.{line}
use Rattle.signoff_top.specs.Answer.{summary_lines}

-- what is told of a generated case of five stages
case_summary : summary_lines 5 10 3300 0 ≡ line (codes "stages 5") ++ line (codes "evaluations 10") ++ line (codes "last 3300") ++ line (codes "violations 0")
unfolding digits
case_summary = refl
