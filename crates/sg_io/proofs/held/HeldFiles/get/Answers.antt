-- The bytes at the place of a name are those of the name.
use Rattle.std.proofs.Common.{◌≡◌, sym, Some, None}
use Rattle.sg_io.specs.Files.{bytes_of}
use Rattle.sg_io.proofs.HeldLemmas.{bytes_of-none, found}
use Rattle.sg_io.proofs.held.HeldFiles.get.Goals as goal

pub returns-in_err-place : goal.returns-in_err-place
returns-in_err-place c =
    let absent : bytes_of c.args.name.now c.self.inside.files.items ≡ None = bytes_of-none c.args.name.now c.self.inside.files.items (sym (rw c.deref.ensures.value at c.in_err-place.ensures)) in
    rw c.from_residual.ensures (cc (absent, c.self.view_is))

pub returns : goal.returns
returns c =
    let held : bytes_of c.args.name.now c.self.inside.files.items ≡ Some c.index.result.now.bytes = found c.args.name.now c.self.inside.files.items c.in_ok-place.place c.index.result.now (rw c.deref.ensures.value at c.in_ok-place.ensures) c.index.ensures in
    rw c.bytes.ensures (cc (held, c.self.view_is))
