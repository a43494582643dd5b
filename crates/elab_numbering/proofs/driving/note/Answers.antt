-- The net has a driver, or gets this one.
use Rattle.std.proofs.Common.{rules}
use Rattle.elab_numbering.specs.Driving.{NumberedDrive}
use Rattle.elab_numbering.proofs.DriveLemmas.{note-free_by, note-taken_by}
use Rattle.elab_numbering.proofs.driving.note.Goals as goal

pub returns-then-not-is_nobody-clause-noted : goal.returns-then-not-is_nobody-clause-noted
returns-then-not-is_nobody-clause-noted c = λ ds s.
    note-taken_by c.args.drivers.now.items ds c.args.net c.index.result.now c.requires.within (search rules) (search rules) s

pub returns-clause-noted : goal.returns-clause-noted
returns-clause-noted c = λ ds s.
    let d : NumberedDrive = record { driver = c.args.driver; net = c.args.net } in
    note-free_by c.args.drivers.now.items ds d c.index.result.now c.requires.within (search rules) (search rules) c.requires.outside s
