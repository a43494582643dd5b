-- From both ends.
use Rattle.specify_values.proofs.Named.{all-marks}
use Rattle.specify_values.proofs.port_names.marks_of.Goals as goal

pub returns-clause-marks : goal.returns-clause-marks
returns-clause-marks c = λ vs are.
    all-marks vs c.args.names.now c.args.text.now c.in_ok-before.before.items c.in_ok-behind.behind.items c.in_ok-before.ensures.marks c.in_ok-behind.ensures.marks are
