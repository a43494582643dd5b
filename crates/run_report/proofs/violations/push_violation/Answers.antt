use Rattle.std.proofs.Common.{rules, [], ◌∷◌, ◌++◌}
use Rattle.std.specs.Prelude.{codes, decimal, max}
use Rattle.std.specs.Fmt.{signed_decimal}
use Rattle.time_checks.specs.Parts.{part_number}
use Rattle.wave_out.proofs.TextLaws.{add_eight}
use Rattle.run_report.specs.Report.{check_at, datum_of, event_text, part_word, path_of}
use Rattle.run_report.proofs.violations.push_violation.Goals as goal

pub returns : goal.returns
returns c =
    let v = c.args.violation.now in
    let check = check_at c.args.circuit.now v.check in
    add_eight c.args.text.now.items
    (codes "violation " ++ decimal (max v.refer_time v.datum_time) ++ codes " " ++ path_of c.args.circuit.now check.scope ++ codes " " ++ part_word (part_number v.part))
    (codes " ") (event_text check.refer v.refer_time) (codes " ") (event_text (datum_of check) v.datum_time) (codes " limit ") (signed_decimal v.limit) (10 ∷ [])
    c.in_ok-push_part.ensures c.in_ok-push.ensures.items c.in_ok-push_refer.ensures c.in_ok-push-2.ensures.items c.in_ok-push_datum.ensures c.in_ok-extend_from_slice.ensures.items (search (rules, c.in_ok-push_signed.ensures)) c.in_ok-push-3.ensures.items
