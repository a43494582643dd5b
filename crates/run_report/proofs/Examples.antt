-- Small worked examples of reports.
use Rattle.std.specs.Prelude.{◌≡◌, pos, negsuc, [], ◌∷◌, ◌++◌, Some, None, codes, refl}
use Rattle.std.specs.Fmt.{digits}
use Rattle.sg_circuit.specs.declared.checks.CheckKind.TheVariants as check
use Rattle.time_checks.specs.Parts.{part_number}
use Rattle.wave_out.specs.Nested.{nested}
use Rattle.wave_out.specs.Texts.{line}
use Rattle.run_report.specs.Report.{limit_part, part_word, report_lines, stopped_lines, zeroed_line}

-- a report with an unmatched entry and two violations
pub violation_report : report_lines nested (record { line = 7; word = codes "IOPATH" } ∷ [])
    (record { check = 0; part = 1; refer_time = 25; datum_time = 26; limit = pos 3 } ∷ record { check = 1; part = 4; refer_time = 30; datum_time = 34; limit = pos 5 } ∷ []) 40 None
    ≡ line (codes "unannotated 7 IOPATH") ++ line (codes "violation 26 t.u.v hold C 25 D[3] 26 limit 3") ++ line (codes "violation 34 t width C 30 C 34 limit 5")
    ++ line (codes "violations 2") ++ line (codes "unannotated 1") ++ line (codes "end 40")
unfolding report_lines digits
violation_report = refl

-- the same two of a run that was stopped
pub stopped_report : stopped_lines nested (record { line = 7; word = codes "IOPATH" } ∷ [])
    (record { check = 0; part = 1; refer_time = 25; datum_time = 26; limit = pos 3 } ∷ record { check = 1; part = 4; refer_time = 30; datum_time = 34; limit = pos 5 } ∷ []) 35
    ≡ line (codes "unannotated 7 IOPATH") ++ line (codes "violation 26 t.u.v hold C 25 D[3] 26 limit 3") ++ line (codes "violation 34 t width C 30 C 34 limit 5")
    ++ line (codes "violations 2") ++ line (codes "unannotated 1") ++ line (codes "stopped 35")
unfolding stopped_lines digits
stopped_report = refl

pub spent_report : report_lines nested [] [] 40 (Some (10, Some 4)) ≡ line (codes "rounds spent at 10 on t.u.v.n")
unfolding report_lines digits
spent_report = refl

pub spent_bit_report : report_lines nested [] [] 40 (Some (10, Some 1)) ≡ line (codes "rounds spent at 10 on t.q[2]")
unfolding report_lines digits
spent_bit_report = refl

-- of the first check the one limit, which was -2
pub zeroed_report : zeroed_line nested (record { check = 0; part = 0; value = negsuc 1 }) ≡ line (codes "zeroed t.u.v hold C D[3] -2")
unfolding digits
zeroed_report = refl

pub second_limit : part_word (part_number (limit_part check.Setuphold 1)) ≡ codes "hold"
second_limit = refl

pub first_limit : part_word (part_number (limit_part check.Recrem 0)) ≡ codes "recovery"
first_limit = refl
