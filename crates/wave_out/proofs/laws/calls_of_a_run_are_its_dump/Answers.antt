use Rattle.wave_out.proofs.DumpLaws.{whole_run, spent_whole, begun_run, stopped_run, spent_stop, stop_begun}
use Rattle.wave_out.proofs.laws.calls_of_a_run_are_its_dump.Goals as goal

pub returns-clause-whole : goal.returns-clause-whole
returns-clause-whole c = whole_run

pub returns-clause-spent : goal.returns-clause-spent
returns-clause-spent c = spent_whole

pub returns-clause-begun : goal.returns-clause-begun
returns-clause-begun c = begun_run

pub returns-clause-stopped : goal.returns-clause-stopped
returns-clause-stopped c = stopped_run

pub returns-clause-stop_spent : goal.returns-clause-stop_spent
returns-clause-stop_spent c = spent_stop

pub returns-clause-stop_begun : goal.returns-clause-stop_begun
returns-clause-stop_begun c = stop_begun
