-- What is made of the instances below the top is made of the top.
use Rattle.std.proofs.lemmas.Result.{err_from_is_err_and}
use Rattle.vl_tree.specs.Tree.{Module}
use Rattle.elab_hierarchy.specs.Tops.{StandsAt}
use Rattle.vl_elab.specs.Below.{IsBelow, RefusesBelow}
use Rattle.vl_elab.proofs.Below.{leaves, tree-refused}
use Rattle.vl_elab.proofs.Steps.{below-of}
use Rattle.vl_elab.proofs.Told.{ok-weaker, err-weaker}
use Rattle.vl_elab.proofs.circuits.circuit_below.Goals as goal

pub returns-in_err-instances-clause-refused : goal.returns-in_err-instances-clause-refused
returns-in_err-instances-clause-refused c =
    leaves _ c.from_residual.result c.in_err-instances.field-0.0 (err_from_is_err_and c.from_residual.result c.from_residual.ensures.1)
    (λ m at. tree-refused c.args.definitions.now m c.args.corner c.in_err-instances.field-0.0 (c.in_err-instances.ensures.refused m at))

pub circuit_of-requires : goal.circuit_of-requires
circuit_of-requires c =
    let m = c.requires.top.0 in
    let at = c.requires.top.1 in
    record {
      below = (
        m,
        below-of c.args.definitions.now m c.tick-tick.result c.in_ok-instances.instances.items c.deref.result.now c.deref-2.result.now (c.in_ok-instances.ensures.instances m at) c.in_ok-instances.ensures.few
            (c.in_ok-instances.ensures.faultless m at) c.deref.ensures.value c.deref-2.ensures.value (c.tick-tick.ensures m at),
      );
    }

pub returns-clause-circuit : goal.returns-clause-circuit
returns-clause-circuit c =
    ok-weaker _ (λ made. (m : Module) → StandsAt c.args.definitions.now c.args.top m → IsBelow c.args.definitions.now m c.args.corner made) c.circuit_of.result
    (λ made h m at.
    h m
    (below-of c.args.definitions.now m c.tick-tick.result c.in_ok-instances.instances.items c.deref.result.now c.deref-2.result.now (c.in_ok-instances.ensures.instances m at) c.in_ok-instances.ensures.few
    (c.in_ok-instances.ensures.faultless m at) c.deref.ensures.value c.deref-2.ensures.value (c.tick-tick.ensures m at)))
    c.circuit_of.ensures.circuit

pub returns-clause-refused : goal.returns-clause-refused
returns-clause-refused c =
    err-weaker _ (λ r. (m : Module) → StandsAt c.args.definitions.now c.args.top m → RefusesBelow c.args.definitions.now m c.args.corner r) c.circuit_of.result
    (λ r h m at.
    h m
    (below-of c.args.definitions.now m c.tick-tick.result c.in_ok-instances.instances.items c.deref.result.now c.deref-2.result.now (c.in_ok-instances.ensures.instances m at) c.in_ok-instances.ensures.few
    (c.in_ok-instances.ensures.faultless m at) c.deref.ensures.value c.deref-2.ensures.value (c.tick-tick.ensures m at)))
    c.circuit_of.ensures.refused
