use Rattle.wave_out.proofs.Examples.{header_of_nested, dump_of_nested}
use Rattle.wave_out.proofs.laws.nested_texts.Goals as goal

pub returns : goal.returns
returns c = (header_of_nested, dump_of_nested)
