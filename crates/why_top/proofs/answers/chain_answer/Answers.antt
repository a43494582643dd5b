use Rattle.why_top.proofs.Answered.{spent_case, unspent_case}
use Rattle.why_top.proofs.answers.chain_answer.Goals as goal

pub returns-in-Some : goal.returns-in-Some
returns-in-Some c = spent_case c.args.circuit.now c.args.run.now c.args.net c.args.time _ c.spent_by.result c.in-Some.spent c.spent_answer.result c.spent_by.ensures c.in-Some.is c.spent_answer.ensures

pub returns-in-None : goal.returns-in-None
returns-in-None c = unspent_case c.args.circuit.now c.args.run.now c.args.net c.args.time _ c.spent_by.result c.told_chain.result c.spent_by.ensures c.in-None.is c.told_chain.ensures
