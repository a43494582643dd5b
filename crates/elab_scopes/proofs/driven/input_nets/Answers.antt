-- The inputs of the top.
use Rattle.std.proofs.Common.{refl}
use Rattle.elab_model.specs.Hierarchy.{instances, top_instance}
use Rattle.elab_model.specs.Nets.{nets}
use Rattle.elab_scopes.proofs.driven.input_nets.Goals as goal

pub returns-in_default : goal.returns-in_default
returns-in_default c = λ top corner placed ready rows.
    let source = c.args.definitions.now in
    absurd (c.in_default.ensures source top corner (instances source top) (nets source top) (record { are_instances = refl; are_nets = refl; is_ready = ready; have_rows = rows }) placed)

pub returns : goal.returns
returns c = λ top corner placed ready rows.
    let source = c.args.definitions.now in
    c.in_ok-made.ensures (nets source top) source (top_instance top)
    (c.in-Some.ensures source top corner (instances source top) (nets source top) (record { are_instances = refl; are_nets = refl; is_ready = ready; have_rows = rows }) placed) refl
