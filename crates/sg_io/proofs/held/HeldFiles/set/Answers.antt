-- The named file is replaced, or made.
use Rattle.std.proofs.Common.{sym, ap}
use Rattle.sg_io.proofs.HeldLemmas.{replaced, still_distinct, bytes_of-none}
use Rattle.sg_io.proofs.held.HeldFiles.set.Goals as goal

pub make-requires : goal.make-requires
make-requires c = bytes_of-none c.args.name.now c.self.inside.files.items (sym (rw c.deref.ensures.value at c.in-None.ensures))

pub returns-in-Some-clause-ok : goal.returns-in-Some-clause-ok
returns-in-Some-clause-ok c =
    let after = replaced c.args.name.now c.self.inside.files.items c.in-Some.place c.index_mut.result.now c.set.new.self c.args.bytes.items (rw c.deref.ensures.value at c.in-Some.ensures) c.index_mut.ensures.value c.set.ensures in
    rw (← c.self.view_is) after

pub returns-in-Some-clause-distinct : goal.returns-in-Some-clause-distinct
returns-in-Some-clause-distinct c = λ distinct. still_distinct _ _ _ _ c.index_mut.ensures.value (ap (λ f. f.name) c.set.ensures) (rw (← c.self.view_is) at distinct)
