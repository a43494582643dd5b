-- One element more, and its inputs are those.
use Rattle.elab_elements.specs.Puts.{put}
use Rattle.elab_elements.proofs.Putting.{one-refused}
use Rattle.elab_elements.proofs.placing.add_element.Goals as goal

pub returns-clause-refused : goal.returns-clause-refused
returns-clause-refused c =
    one-refused c.args.made.now c.push_element.result (put c.args.scope c.args.place c.args.inputs.now c.args.output c.args.kind) c.push_element.ensures.refused
