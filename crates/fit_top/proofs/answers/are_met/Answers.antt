use Rattle.std.proofs.Common.{◌∙◌, ap, map, refl, string_bytes}
use Rattle.std.specs.List.{list_any}
use Rattle.fit_top.proofs.Meetings.{met_here, met_later, met_never}
use Rattle.fit_top.proofs.answers.are_met.Goals as goal

pub loop-name-init : goal.loop-name-init
loop-name-init g c = λ is_one e. refl

pub returns-then-is_met : goal.returns-then-is_met
returns-then-is_met g c = λ is_one e.
    met_here string_bytes (λ m. list_any (is_one m) (map (λ n. n.now) c.args.inputs.now)) c.args.made.now c.loop-name.name-index _ _ c.loop-name-test.true c.is_met.result (c.is_met.ensures is_one e ∙ ap (λ t. list_any (is_one t) (map (λ n. n.now) c.args.inputs.now)) (c.as_str.ensures.value ∙ ap string_bytes c.name-item.is)) c.if-is_met.true (c.loop-name.invariant is_one e)

pub loop-name-preserved : goal.loop-name-preserved
loop-name-preserved g c = λ is_one e.
    met_later string_bytes (λ m. list_any (is_one m) (map (λ n. n.now) c.args.inputs.now)) c.args.made.now c.loop-name.name-index _ _ c.loop-name-test.true c.is_met.result (c.is_met.ensures is_one e ∙ ap (λ t. list_any (is_one t) (map (λ n. n.now) c.args.inputs.now)) (c.as_str.ensures.value ∙ ap string_bytes c.name-item.is)) c.if-is_met.false (c.loop-name.invariant is_one e)

pub returns : goal.returns
returns g c = λ is_one e. met_never string_bytes (λ m. list_any (is_one m) (map (λ n. n.now) c.args.inputs.now)) c.args.made.now c.loop-name.name-index _ c.loop-name-test.false (c.loop-name.invariant is_one e)
