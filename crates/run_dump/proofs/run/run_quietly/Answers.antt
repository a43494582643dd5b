use Rattle.run_dump.proofs.RunLaws.{counts, finds, none_failed}
use Rattle.run_dump.proofs.run.run_quietly.Goals as goal

pub spent_unwatched-requires : goal.spent_unwatched-requires
spent_unwatched-requires c = none_failed _ _ c.in_ok-finished.finished.end c.new-shelf.ensures.faults c.in_ok-finished.ensures.keeps c.in_ok-finished.ensures.cause

pub returns-clause-spent : goal.returns-clause-spent
returns-clause-spent c = (finds _ _ _ _ _ _ _ _ _ _ _ _ c.in_ok-finished.ensures.ended c.in_ok-spent.ensures).1.spent_is

pub returns-clause-violations : goal.returns-clause-violations
returns-clause-violations c = (finds _ _ _ _ _ _ _ _ _ _ _ _ c.in_ok-finished.ensures.ended c.in_ok-spent.ensures).1.found_is

pub returns-clause-evaluations : goal.returns-clause-evaluations
returns-clause-evaluations c = counts _ _ _ _ _ (finds _ _ _ _ _ _ _ _ _ _ _ _ c.in_ok-finished.ensures.ended c.in_ok-spent.ensures)

pub returns-clause-last : goal.returns-clause-last
returns-clause-last c = (finds _ _ _ _ _ _ _ _ _ _ _ _ c.in_ok-finished.ensures.ended c.in_ok-spent.ensures).1.last_is
