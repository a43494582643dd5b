-- Small worked examples of lines, of waivers, and of what a limit was missed by.
use Rattle.std.specs.Prelude.{◌≡◌, pos, negsuc, [], ◌∷◌, Some, None, Ok, Err, codes, refl}
use Rattle.tally_violations.specs.Rows.{words}
use Rattle.tally_violations.specs.Violations.{short_of, violations}
use Rattle.tally_violations.specs.Waivers.{waivers}

pub three_words : words (codes "  a bc  d ") ≡ codes "a" ∷ codes "bc" ∷ codes "d" ∷ []
unfolding words
three_words = refl

-- of a setup of 8 that sees 6 two ticks are missing
pub one_told : violations (codes "violation 15 t.f setup CK 15 D 9 limit 8\nend 20\n") ≡ Ok (record { instance = codes "t.f"; check = codes "setup"; time = 15; short = pos 2 } ∷ [])
unfolding words
one_told = refl

-- the count of a report is no violation, and a line that is cut has no form
pub line_is_cut : violations (codes "violations 0\nviolation 15 t.f setup CK 15 D") ≡ Err 2
unfolding words
line_is_cut = refl

-- limits of -2
pub setup_below_0 : short_of (codes "setup") 100 103 (negsuc 1) ≡ Some (pos 1)
setup_below_0 = refl

pub hold_below_0 : short_of (codes "hold") 100 99 (negsuc 1) ≡ Some (negsuc 0)
hold_below_0 = refl

pub skew_is_from_above : short_of (codes "skew") 400 420 (pos 15) ≡ Some (pos 5)
skew_is_from_above = refl

pub one_waiver : waivers (codes "# none\nt.f * 10 *  # all from 10 on\n") ≡ Ok (record { line = 2; instance = Some (codes "t.f"); check = None; from = Some 10; to = None } ∷ [])
unfolding words
one_waiver = refl
