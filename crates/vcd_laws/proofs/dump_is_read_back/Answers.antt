-- The law is a lemma.
use Rattle.vcd_laws.proofs.Law.{read_again}
use Rattle.vcd_laws.proofs.dump_is_read_back.Goals as goal

pub returns : goal.returns
returns c = read_again
