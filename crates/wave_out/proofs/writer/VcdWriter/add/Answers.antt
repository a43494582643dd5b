use Rattle.std.proofs.Common.{refl}
use Rattle.std.proofs.lemmas.Result.{err_from_is_err_and}
use Rattle.sim_times.specs.Watching.{call_of}
use Rattle.wave_out.specs.Changes.{text_if}
use Rattle.wave_out.specs.Writing.{Writer}
use Rattle.wave_out.proofs.WriterLaws.{puts_part, puts_whole, some_text}
use Rattle.wave_out.proofs.writer.VcdWriter.add.Goals as goal

pub returns-in_err-append-clause-text : goal.returns-in_err-append-clause-text
returns-in_err-append-clause-text g c =
    let w : Writer = record { name = c.self.inside.name.now; circuit = c.self.inside.circuit.now; last = c.self.inside.last } in
    let call = call_of c.args.time c.args.changed.now (g.N.Nets.values c.args.nets.now) in
    let old = g.S.Shelf.files c.args.shelf.now in
    rw (err_from_is_err_and c.from_residual-in_err-append.result c.from_residual-in_err-append.ensures.1).1
    (puts_part call w c.args.self.now _ old _ (text_if c.in_ok-some.some c.make_text.new.text.items) c.deref.result.now _ c.self.view_is (some_text c.in_ok-some.some _ _ c.if-not-some.false c.deref.ensures.value) c.in_ok-some.ensures.text c.in_err-append.ensures.held refl)

pub returns-clause-text : goal.returns-clause-text
returns-clause-text g c =
    let w : Writer = record { name = c.self.inside.name.now; circuit = c.self.inside.circuit.now; last = c.self.inside.last } in
    let call = call_of c.args.time c.args.changed.now (g.N.Nets.values c.args.nets.now) in
    let old = g.S.Shelf.files c.args.shelf.now in
    puts_whole call w c.args.self.now _ old _ (text_if c.in_ok-some.some c.make_text.new.text.items) c.deref.result.now c.self.view_is (some_text c.in_ok-some.some _ _ c.if-not-some.false c.deref.ensures.value) c.in_ok-some.ensures.text c.in_ok-append.ensures.held refl
