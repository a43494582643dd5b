-- What is kept passes the test.
use Rattle.std.proofs.Common.{rules, tests, nat_lt, length}
use Rattle.std.proofs.lemmas.List.Elements.{filter_from_retain}
use Rattle.tally_violations.proofs.rows.drop_empty.Goals as goal

pub returns : goal.returns
returns c = filter_from_retain _ (λ w. nat_lt 0 (length w.now)) (λ p x b q k. search (rules, tests)) _ _ _ c.retain.ensures.filtered
