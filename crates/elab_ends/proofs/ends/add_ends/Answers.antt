-- The ends of a path are added.
use Rattle.std.proofs.lemmas.Result.{on_ok_weaker}
use Rattle.elab_ends.proofs.Marking.{path-added}
use Rattle.elab_ends.proofs.ends.add_ends.Goals as goal

pub returns-clause-added : goal.returns-clause-added
returns-clause-added c =
    on_ok_weaker c.add_new.result
    (λ h m before e s.
    path-added c.args.table.now m c.args.member.now c.in-Path.path c.in_ok-places.places.items c.deref.result.now before c.add_new.new.seen c.args.bits.now.items c.add_new.new.bits.items c.in-Path.is
    c.in_ok-places.ensures.bits c.deref.ensures.value e (h m before e s))
    c.add_new.ensures.added
