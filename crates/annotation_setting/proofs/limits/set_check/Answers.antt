-- The first limit is set, and the second where there is one.
use Rattle.std.proofs.Common.{◌≡◌, ◌<◌, ap, arith, false, length, rules, true}
use Rattle.sg_circuit.specs.Signals.{takes_lates}
use Rattle.circuit_open.specs.Open.{Open}
use Rattle.annotation_setting.proofs.LimitLaws.{both-set, check-stays, each-below, each-light, first-set, here, limit-read, small-stays, two-parts}
use Rattle.annotation_setting.proofs.limits.set_check.Goals as goal

pub set_limit-requires-clause-value : goal.set_limit-requires-clause-value
set_limit-requires-clause-value c =
    let l : 0 < length c.args.limits.now = omega (arith, c.told-limits) in
    each-below c.args.opened.now.circuit c.args.check c.args.limits.now 0 _ c.requires.small l (limit-read c.args.opened.now.circuit c.args.check c.args.limits.now 0 c.requires.small l)

pub set_limit-requires-clause-light : goal.set_limit-requires-clause-light
set_limit-requires-clause-light c =
    let l : 0 < length c.args.limits.now = omega (arith, c.told-limits) in
    each-light c.args.opened.now.circuit c.args.check c.args.limits.now 0 _ c.requires.small l (limit-read c.args.opened.now.circuit c.args.check c.args.limits.now 0 c.requires.small l)

pub set_limit-requires-then-two-clause-check : goal.set_limit-requires-then-two-clause-check
set_limit-requires-then-two-clause-check c = check-stays c.set_limit.new.self.circuit c.args.opened.now.circuit c.args.check 0 _ (ap (λ (o : Open). o.circuit) c.set_limit.ensures) c.requires.check

pub set_limit-requires-then-two-clause-part : goal.set_limit-requires-then-two-clause-part
set_limit-requires-then-two-clause-part c =
    let x = c.index.result.now in
    let two : takes_lates x.kind ≡ true = search rules in
    two-parts c.set_limit.new.self.circuit c.args.opened.now.circuit c.args.check _ x (ap (λ (o : Open). o.circuit) c.set_limit.ensures) c.requires.check (here c.args.opened.now.circuit c.parts.result.now c.args.check x c.parts.ensures.seen c.index.ensures) two

pub set_limit-requires-then-two-clause-value : goal.set_limit-requires-then-two-clause-value
set_limit-requires-then-two-clause-value c =
    let l : 1 < length c.args.limits.now = omega (arith, c.told-limits) in
    each-below c.args.opened.now.circuit c.args.check c.args.limits.now 1 _ c.requires.small l (limit-read c.args.opened.now.circuit c.args.check c.args.limits.now 1 c.requires.small l)

pub set_limit-requires-then-two-clause-light : goal.set_limit-requires-then-two-clause-light
set_limit-requires-then-two-clause-light c =
    let l : 1 < length c.args.limits.now = omega (arith, c.told-limits) in
    each-light c.set_limit.new.self.circuit c.args.check c.args.limits.now 1 _
    (small-stays c.set_limit.new.self.circuit c.args.opened.now.circuit c.args.check 0 _ c.args.limits.now (ap (λ (o : Open). o.circuit) c.set_limit.ensures) c.requires.check c.requires.small) l
    (limit-read c.args.opened.now.circuit c.args.check c.args.limits.now 1 c.requires.small l)

pub returns-then-two : goal.returns-then-two
returns-then-two c =
    let x = c.index.result.now in
    let two : takes_lates x.kind ≡ true = search rules in
    both-set c.args.opened.now.circuit c.args.check c.args.opened.now.room c.args.limits.now _ _ x c.set_limit.new.self c.set_limit-then-two.new.self c.requires.check (here c.args.opened.now.circuit c.parts.result.now c.args.check x c.parts.ensures.seen c.index.ensures) two
    (limit-read c.args.opened.now.circuit c.args.check c.args.limits.now 0 c.requires.small (omega (arith, c.told-limits)))
    (limit-read c.args.opened.now.circuit c.args.check c.args.limits.now 1 c.requires.small (omega (arith, c.told-limits))) c.set_limit.ensures c.set_limit-then-two.ensures

pub returns-else-two : goal.returns-else-two
returns-else-two c =
    let x = c.index.result.now in
    let one : takes_lates x.kind ≡ false = search rules in
    first-set c.args.opened.now.circuit c.args.check c.args.opened.now.room c.args.limits.now _ x c.set_limit.new.self c.requires.check (here c.args.opened.now.circuit c.parts.result.now c.args.check x c.parts.ensures.seen c.index.ensures) one
    (limit-read c.args.opened.now.circuit c.args.check c.args.limits.now 0 c.requires.small (omega (arith, c.told-limits))) c.set_limit.ensures
