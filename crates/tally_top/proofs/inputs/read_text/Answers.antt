use Rattle.std.proofs.Common.{rules}
use Rattle.tally_top.proofs.Answered.{limit_is, text_missed, text_read}
use Rattle.tally_top.proofs.inputs.read_text.Goals as goal

pub returns-in-Ok-clause-gives : goal.returns-in-Ok-clause-gives
returns-in-Ok-clause-gives g c = λ held e. text_read _ c.args.name.now _ held c.in-Ok.text limit_is c.in-Ok.ensures.bytes e

pub returns-in-Err-Missing-clause-gives : goal.returns-in-Err-Missing-clause-gives
returns-in-Err-Missing-clause-gives g c = λ held e. text_missed _ c.args.name.now _ held _ (search rules) limit_is c.in-Err-Missing.ensures.bytes e
