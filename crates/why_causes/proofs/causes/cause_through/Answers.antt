use Rattle.std.proofs.Common.{subst, sym, length, ◌<◌}
use Rattle.std.specs.Prelude.{All}
use Rattle.why_causes.proofs.FittingLaws.{fits}
use Rattle.why_causes.proofs.causes.cause_through.Goals.{After-index-element}
use Rattle.why_causes.proofs.causes.cause_through.Goals as goal

pub by_unknown-unknown-requires-clause-inputs : goal.by_unknown-unknown-requires-clause-inputs
by_unknown-unknown-requires-clause-inputs c =
    let own = fits c.args.parts.now c.args.number (length c.args.trace.now.first) c.index-element.result.now _ c.requires.closed c.requires.indexed c.requires.number c.requires.nets c.index-element.ensures in
    subst (All (λ n. n < length c.args.trace.now.first)) (sym c.deref.ensures) own.inputs

pub by_path-path-requires-clause-names : goal.by_path-path-requires-clause-names
by_path-path-requires-clause-names c =
    (fits c.args.parts.now c.args.number (length c.args.trace.now.first) c.index-element.result.now _ c.requires.closed c.requires.indexed c.requires.number c.requires.nets c.index-element.ensures).names

pub by_path-path-requires-clause-delays : goal.by_path-path-requires-clause-delays
by_path-path-requires-clause-delays c =
    (fits c.args.parts.now c.args.number (length c.args.trace.now.first) c.index-element.result.now _ c.requires.closed c.requires.indexed c.requires.number c.requires.nets c.index-element.ensures).delays

pub by_inputs-requires-clause-fits : goal.by_inputs-requires-clause-fits
by_inputs-requires-clause-fits c =
    fits c.args.parts.now c.args.number (length c.args.trace.now.first) c.index-element.result.now _ c.requires.closed c.requires.indexed c.requires.number c.requires.nets c.index-element.ensures
