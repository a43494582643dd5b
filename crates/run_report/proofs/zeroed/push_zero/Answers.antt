use Rattle.std.proofs.Common.{rules, [], ◌∷◌, ◌++◌}
use Rattle.std.specs.Prelude.{codes}
use Rattle.std.specs.Fmt.{signed_decimal}
use Rattle.time_checks.specs.Parts.{part_number}
use Rattle.wave_out.proofs.TextLaws.{add_six}
use Rattle.run_report.specs.Report.{check_at, limit_part, part_word, path_of, terminals_text}
use Rattle.run_report.proofs.zeroed.push_zero.Goals as goal

pub returns : goal.returns
returns c =
    let zero = c.args.zero in
    let check = check_at c.args.circuit.now zero.check in
    add_six c.args.text.now.items
    (codes "zeroed " ++ path_of c.args.circuit.now check.scope ++ codes " " ++ part_word (part_number (limit_part check.kind zero.part)))
    (codes " ") (terminals_text check) (codes " ") (signed_decimal zero.value) (10 ∷ [])
    c.in_ok-push_zeroed_part.ensures c.in_ok-push.ensures.items c.in_ok-push_terminals.ensures c.in_ok-push-2.ensures.items (search (rules, c.in_ok-push_signed.ensures)) c.in_ok-push-3.ensures.items
