-- One part, and the other.
use Rattle.written_faults.specs.Ambiguities.{limit_in}
use Rattle.written_faults.proofs.PairLaws.{first_part_differs, second_part}
use Rattle.written_faults.proofs.ambiguities.add_check.Goals as goal

pub returns-then-branch : goal.returns-then-branch
returns-then-branch c =
    first_part_differs c.args.classes.now c.args.timing.now c.args.written c.parts_of-first.result c.part_number.result c.event_codes-datum.result (limit_in c.args.seen.now) (limit_in c.add_part.new.seen) c.in_ok-add_part.field-0
    (c.parts_of-first.ensures c.args.timing.now.limits) c.part_number.ensures c.event_codes-datum.ensures c.if-branch.true c.in_ok-add_part.ensures

pub returns-in-Some : goal.returns-in-Some
returns-in-Some c =
    second_part c.add_part-in-Some.result c.args.classes.now c.args.timing.now c.args.written c.parts_of-first.result c.in-Some.second c.part_number.result c.part_number-in-Some.result c.event_codes-datum.result
    (limit_in c.args.seen.now) (limit_in c.add_part.new.seen) (limit_in c.add_part-in-Some.new.seen) c.in_ok-add_part.field-0 (c.parts_of-first.ensures c.args.timing.now.limits) c.part_number.ensures c.part_number-in-Some.ensures
    c.event_codes-datum.ensures c.in-Some.is c.if-branch.false c.in_ok-add_part.ensures c.add_part-in-Some.ensures
