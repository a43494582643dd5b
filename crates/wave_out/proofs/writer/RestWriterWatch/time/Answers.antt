use Rattle.std.proofs.Common.{subst}
use Rattle.sim_times.specs.Watching.{call_of}
use Rattle.wave_out.specs.Writing.{LeavesText}
use Rattle.wave_out.proofs.WriterLaws.{rest_holds, rest_begins}
use Rattle.wave_out.proofs.writer.RestWriterWatch.time.Goals as goal

pub returns-clause-ok : goal.returns-clause-ok
returns-clause-ok g c =
    let call = call_of c.args.time c.args.changed.now (g.N.Nets.values c.args.nets.now) in
    let old = g.S.Shelf.files c.args.shelf.now in
    let new = g.S.Shelf.files c.add.new.shelf in
    rest_holds call c.args.self.now c.add.new.self old new c.add.result (subst (λ v. LeavesText call v c.add.new.self old new c.add.result) c.self.view_is c.add.ensures.text)

pub returns-clause-err : goal.returns-clause-err
returns-clause-err g c =
    let call = call_of c.args.time c.args.changed.now (g.N.Nets.values c.args.nets.now) in
    let old = g.S.Shelf.files c.args.shelf.now in
    let new = g.S.Shelf.files c.add.new.shelf in
    rest_begins call c.args.self.now c.add.new.self old new c.add.result (subst (λ v. LeavesText call v c.add.new.self old new c.add.result) c.self.view_is c.add.ensures.text)
