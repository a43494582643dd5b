use Rattle.std.proofs.Common.{map}
use Rattle.time_checks.specs.declared.violations.Violation.{Violation}
use Rattle.time_checks.specs.AdjustedSeen.{adjusted_seen}
use Rattle.time_checks.specs.Seen.{violation_seen}
use Rattle.time_checks.proofs.JudgedLaws.{judged_two}
use Rattle.time_checks.proofs.judging.judge.Goals as goal

pub returns-in_ok-judge_part-2-clause-found : goal.returns-in_ok-judge_part-2-clause-found
returns-in_ok-judge_part-2-clause-found c =
    judged_two c.args.number (adjusted_seen c.args.check.now) c.args.now c.parts-first.result.0 c.in-Some.second c.parts-first.result.1
    (map (λ (v : Violation). violation_seen v) c.args.violations.now.items) (map (λ (v : Violation). violation_seen v) c.judge_part.new.violations.items) (map (λ (v : Violation). violation_seen v) c.judge_part-in-Some.new.violations.items)
    c.parts-first.ensures c.in-Some.is c.in_ok-judge_part.ensures.found c.in_ok-judge_part-2.ensures.found
