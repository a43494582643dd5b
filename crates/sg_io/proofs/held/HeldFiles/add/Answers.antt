-- The named file has more bytes, or is made of them.
use Rattle.std.proofs.Common.{sym}
use Rattle.sg_io.proofs.HeldLemmas.{extended, still_distinct, bytes_of-none, first_bytes, on_ok}
use Rattle.sg_io.proofs.held.HeldFiles.add.Goals as goal

pub make-requires : goal.make-requires
make-requires c = bytes_of-none c.args.name.now c.self.inside.files.items (sym (rw c.deref.ensures.value at c.in-None.ensures))

pub returns-in-Some-clause-ok : goal.returns-in-Some-clause-ok
returns-in-Some-clause-ok c =
    let grown = extended c.args.name.now c.self.inside.files.items c.in-Some.place c.index_mut.result.now c.add.new.self c.args.more.now (rw c.deref.ensures.value at c.in-Some.ensures) c.index_mut.ensures.value in
    rw (← c.self.view_is) (on_ok c.add.result _ _ grown c.add.ensures.ok)

pub returns-in-Some-clause-distinct : goal.returns-in-Some-clause-distinct
returns-in-Some-clause-distinct c = λ distinct. still_distinct _ _ _ _ c.index_mut.ensures.value c.add.ensures.name (rw (← c.self.view_is) at distinct)

pub returns-in_ok-from_slice-in-None-clause-ok : goal.returns-in_ok-from_slice-in-None-clause-ok
returns-in_ok-from_slice-in-None-clause-ok c =
    let made = first_bytes c.args.name.now c.args.more.now c.self.inside.files.items c.make.new.files.items (bytes_of-none c.args.name.now c.self.inside.files.items (sym (rw c.deref.ensures.value at c.in-None.ensures))) in
    rw (← c.self.view_is) (on_ok c.make.result _ _ made (rw c.in_ok-from_slice-in-None.ensures.items at c.make.ensures.ok))
