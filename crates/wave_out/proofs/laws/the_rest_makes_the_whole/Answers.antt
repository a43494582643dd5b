use Rattle.wave_out.proofs.RestLaws.{rest_makes_whole}
use Rattle.wave_out.proofs.laws.the_rest_makes_the_whole.Goals as goal

pub returns : goal.returns
returns c = rest_makes_whole
