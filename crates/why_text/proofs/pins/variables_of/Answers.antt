use Rattle.std.proofs.Common.{◌≡◌, ◌<◌, sym, subst, length, slice_index_or}
use Rattle.std.specs.Prelude.{All}
use Rattle.sg_circuit.specs.Closed.{IsClosed, width_of}
use Rattle.why_text.proofs.PinLaws.{scope_widths}
use Rattle.why_text.proofs.pins.variables_of.Goals as goal

pub returns-in-Some-clause-widths : goal.returns-in-Some-clause-widths
returns-in-Some-clause-widths c =
    let parts = c.parts.result.now in
    let scope = c.in-Some.scope.now in
    let l : c.args.scope < length parts.scopes.items = subst (λ xs. c.args.scope < length xs) c.deref.ensures.value c.in-Some.ensures.lookup.3.0 in
    let at : scope ≡ slice_index_or parts.scopes.items c.args.scope scope = subst (λ xs. scope ≡ slice_index_or xs c.args.scope scope) c.deref.ensures.value (c.in-Some.ensures.lookup.3.1 scope) in
    subst (λ xs. All (λ v. length v.bits.items ≡ width_of v.range) xs) (sym c.deref-in-Some.ensures.value)
    (scope_widths parts (subst IsClosed (sym c.parts.ensures.seen) c.parts.ensures.closed) c.args.scope scope l at)
