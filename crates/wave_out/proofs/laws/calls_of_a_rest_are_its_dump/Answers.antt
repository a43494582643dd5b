use Rattle.wave_out.proofs.OnwardLaws.{whole_rest, spent_rest, next_times}
use Rattle.wave_out.proofs.laws.calls_of_a_rest_are_its_dump.Goals as goal

pub returns-clause-whole : goal.returns-clause-whole
returns-clause-whole c = whole_rest

pub returns-clause-spent : goal.returns-clause-spent
returns-clause-spent c = spent_rest

pub returns-clause-begun : goal.returns-clause-begun
returns-clause-begun c = next_times
