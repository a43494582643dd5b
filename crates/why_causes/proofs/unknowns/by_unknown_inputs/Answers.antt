use Rattle.std.proofs.Common.{◌∙◌, ◌+◌, ℕ, ap}
use Rattle.std.specs.Prelude.{filter, is_none}
use Rattle.std.specs.List.{enumerate_from}
use Rattle.why_causes.specs.Waveform.{last_before}
use Rattle.why_causes.specs.Causes.{found, never_set, became_first}
use Rattle.why_causes.specs.declared.links.Rule.TheVariants.{Unknown}
use Rattle.why_causes.specs.Unknowns.{is_unknown_among}
use Rattle.why_causes.proofs.UnknownLaws.{position-both, never-some, never-none}
use Rattle.why_causes.proofs.unknowns.by_unknown_inputs.Goals as goal

pub returns-in-Some : goal.returns-in-Some
returns-in-Some c =
    let unknown = filter (λ (i : ℕ × ℕ). is_unknown_among c.args.nets.now c.args.trace.now c.args.change.time i.1) (enumerate_from 0 c.args.inputs.now) in
    never-some c.args.element c.args.change (never_set c.args.trace.now c.args.change.time unknown) (became_first c.args.trace.now c.args.change.time unknown) c.in-Some.input
    (c.in-Some.ensures ∙ position-both (is_unknown_among c.args.nets.now c.args.trace.now c.args.change.time) (λ n. is_none (last_before c.args.trace.now n (c.args.change.time + 1))) c.args.inputs.now)

pub returns-in-None : goal.returns-in-None
returns-in-None c =
    let unknown = filter (λ (i : ℕ × ℕ). is_unknown_among c.args.nets.now c.args.trace.now c.args.change.time i.1) (enumerate_from 0 c.args.inputs.now) in
    never-none c.args.element c.args.change (never_set c.args.trace.now c.args.change.time unknown) (became_first c.args.trace.now c.args.change.time unknown) c.found.result
    (c.in-None.ensures ∙ position-both (is_unknown_among c.args.nets.now c.args.trace.now c.args.change.time) (λ n. is_none (last_before c.args.trace.now n (c.args.change.time + 1))) c.args.inputs.now)
    (c.found.ensures ∙ ap (found c.args.element c.args.change Unknown) c.became_first-first.ensures)
