-- A condition that stands in the table is bound.
use Rattle.std.proofs.Common.{refl}
use Rattle.std.proofs.lemmas.Option.{slice_get_read}
use Rattle.std.specs.Prelude.{length}
use Rattle.elab_checks.proofs.BoundEvents.{written-within, condition-bound, never-unknown, none-enabled}
use Rattle.elab_checks.proofs.uses.bound_at.Goals as goal

pub bounds-conditions-place : goal.bounds-conditions-place
bounds-conditions-place c = written-within c.args.here.table.now c.args.conditions.now c.args.written c.in-Some.place c.in-Some.is c.requires.bindable

pub returns-in-None : goal.returns-in-None
returns-in-None c = λ net r. none-enabled net c.args.conditions.now c.args.here.table.now c.args.written c.in-None.is

pub unreachable-requires : goal.unreachable-requires
unreachable-requires c =
    let vs = c.args.here.table.now in
    let cs = c.args.conditions.now in
    let x = c.index-conditions-place.result in
    let lt = written-within vs cs c.args.written c.in-Some.place c.in-Some.is c.requires.bindable in
    let at = slice_get_read cs (length cs) c.in-Some.place x refl lt c.index-conditions-place.is in
    never-unknown vs c.args.here.row.now c.requires.row.0 cs c.args.written c.in-Some.place x c.in-Err-Unknown.field-0 c.in-Err-Unknown.field-0-0 c.in-Some.is at c.requires.bindable c.requires.row.1 c.in-Err-Unknown.field-0-is
    c.in-Err-Unknown.ensures.err

pub returns-in-Ok : goal.returns-in-Ok
returns-in-Ok c = λ net r.
    let vs = c.args.here.table.now in
    let cs = c.args.conditions.now in
    let x = c.index-conditions-place.result in
    let lt = written-within vs cs c.args.written c.in-Some.place c.in-Some.is c.requires.bindable in
    let at = slice_get_read cs (length cs) c.in-Some.place x refl lt c.index-conditions-place.is in
    condition-bound vs c.args.here.row.now net cs c.args.written c.in-Some.place x c.in-Ok.bound c.in-Some.is at c.requires.bindable r c.in-Ok.ensures.ok
