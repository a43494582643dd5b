use Rattle.sdf_write.proofs.BackLaws.{gives_back, read_as}
use Rattle.sdf_write.proofs.writing.sdf_text.Goals as goal

pub returns-clause-read_back : goal.returns-clause-read_back
returns-clause-read_back c = λ of. read_as c.args.circuit.now c.text_of.result c.text_of.ensures.closed c.text_of.ensures.tick c.text_of.ensures.faultless c.text_of.ensures.written of

pub returns-clause-given_back : goal.returns-clause-given_back
returns-clause-given_back c = λ of settled. gives_back c.args.circuit.now c.text_of.result c.text_of.ensures.closed c.text_of.ensures.faultless of settled
