use Rattle.annotation_model.specs.Given.{given}
use Rattle.written_names.proofs.AnnotatedSettled.{annotated_settled}
use Rattle.written_names.proofs.SettledLaws.{read_settled}
use Rattle.written_names.proofs.Whole.{named_of}
use Rattle.written_names.proofs.laws.netlists_lead_back.Goals as goal

pub returns-clause-named : goal.returns-clause-named
returns-clause-named c = named_of

pub returns-clause-settled : goal.returns-clause-settled
returns-clause-settled c = read_settled

pub returns-clause-annotated : goal.returns-clause-annotated
returns-clause-annotated c = λ from made sdf corner settled is. annotated_settled from sdf corner (given sdf) made settled is
