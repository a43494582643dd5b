-- A condition that stands in the table is bound.
use Rattle.std.proofs.Common.{refl}
use Rattle.std.proofs.lemmas.Option.{slice_get_read}
use Rattle.std.specs.Prelude.{length}
use Rattle.elab_paths.proofs.BoundOperands.{written-within, condition-bound, never-unknown}
use Rattle.elab_paths.proofs.uses.condition_of.Goals as goal

pub unreachable-requires : goal.unreachable-requires
unreachable-requires c =
    let vs = c.args.here.table.now in
    let cs = c.args.conditions.now in
    let x = c.index-conditions-written.result in
    let lt = written-within vs cs c.args.condition c.in-If.written c.in-If.is c.requires.bindable in
    let at = slice_get_read cs (length cs) c.in-If.written x refl lt c.index-conditions-written.is in
    never-unknown vs c.args.here.row.now c.requires.row.0 cs c.args.condition c.in-If.written x c.in-Err-Unknown.field-0 c.in-Err-Unknown.field-0-0 c.in-If.is at c.requires.bindable c.requires.row.1 c.in-Err-Unknown.field-0-is
    c.in-Err-Unknown.ensures.err

pub returns-in-Ok-clause-bound : goal.returns-in-Ok-clause-bound
returns-in-Ok-clause-bound c = λ net r.
    let vs = c.args.here.table.now in
    let cs = c.args.conditions.now in
    let x = c.index-conditions-written.result in
    let lt = written-within vs cs c.args.condition c.in-If.written c.in-If.is c.requires.bindable in
    let at = slice_get_read cs (length cs) c.in-If.written x refl lt c.index-conditions-written.is in
    condition-bound vs c.args.here.row.now net cs c.args.condition c.in-If.written x c.in-Ok.bound c.in-If.is at c.requires.bindable r c.in-Ok.ensures.ok

pub returns-in-Ok-clause-indexed : goal.returns-in-Ok-clause-indexed
returns-in-Ok-clause-indexed c = written-within c.args.here.table.now c.args.conditions.now c.args.condition c.in-If.written c.in-If.is c.requires.bindable
