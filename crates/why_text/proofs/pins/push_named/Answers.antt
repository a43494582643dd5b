use Rattle.std.proofs.Common.{ap}
use Rattle.std.specs.Prelude.{is_some}
use Rattle.why_text.proofs.PinLaws.{named_here, named_is, named_later}
use Rattle.why_text.proofs.pins.push_named.Goals as goal

pub returns-in-Some-clause-text : goal.returns-in-Some-clause-text
returns-in-Some-clause-text c =
    named_here c.args.variables.now c.args.net c.loop-variable.variable-index c.variable-item.result c.deref.result.now c.in-Some.position c.args.text.now.items c.loop-variable.text.items _
    c.loop-variable-test.true c.variable-item.is c.deref.ensures.value c.loop-variable.invariant c.in-Some.ensures.place c.in_ok-push_variable_bit.ensures

pub loop-variable-preserved : goal.loop-variable-preserved
loop-variable-preserved c =
    named_later c.args.variables.now c.args.net c.loop-variable.variable-index c.variable-item.result c.deref.result.now c.position_of.result c.args.text.now.items c.loop-variable.text.items
    c.loop-variable-test.true c.variable-item.is c.deref.ensures.value c.loop-variable.invariant c.position_of.ensures.place c.in_default.not-Some

pub returns-in-Some-clause-found : goal.returns-in-Some-clause-found
returns-in-Some-clause-found c =
    ap (λ o. is_some o)
    (named_is c.args.variables.now c.args.net c.loop-variable.variable-index c.variable-item.result c.deref.result.now c.in-Some.position c.args.text.now.items c.loop-variable.text.items
    c.loop-variable-test.true c.variable-item.is c.deref.ensures.value c.loop-variable.invariant c.in-Some.ensures.place)
