-- The place in the half.
use Rattle.std.proofs.Common.{refl, subst, sym}
use Rattle.sim_save.specs.Refusing.{RefusesHalf}
use Rattle.sim_save.specs.Steps.{Head, Stops}
use Rattle.sim_save.proofs.BodyLaws.{no_body}
use Rattle.sim_save.proofs.ReadLaws.{left_within}
use Rattle.sim_save.proofs.reading.refusal_of.Goals as goal

pub overflow_sub-byte : goal.overflow_sub-byte
overflow_sub-byte c =
    let h = subst (Stops Head c.args.half.now) c.in-Line.is c.requires in
    left_within c.args.half.now c.in-Line.left h

pub returns-in-Line : goal.returns-in-Line
returns-in-Line c =
    let h = subst (Stops Head c.args.half.now) c.in-Line.is c.requires in
    subst (RefusesHalf c.args.half.now) (sym c.fault.ensures) (refl, refl, no_body c.args.half.now c.in-Line.left h)

pub returns-in-NoMemory : goal.returns-in-NoMemory
returns-in-NoMemory c = subst (Stops Head c.args.half.now) c.in-NoMemory.is c.requires
