use Rattle.vcd_form.proofs.Whole.{one_dump}
use Rattle.vcd_form.proofs.laws.one_dump.Goals as goal

pub returns : goal.returns
returns c = one_dump
