-- One name more, or all.
use Rattle.std.proofs.Common.{Some, reverse, arith, ◌<◌, length, ◌∙◌}
use Rattle.sg_circuit.specs.Seen.{circuit_seen}
use Rattle.annotation_scopes.specs.Walks.{names_seen}
use Rattle.annotation_scopes.proofs.WalkLaws.{one_up, stopped, all_up}
use Rattle.annotation_scopes.proofs.walks.climb.Goals as goal

pub returns-in_err-at-clause-found : goal.returns-in_err-at-clause-found
returns-in_err-at-clause-found c =
    c.from_residual.ensures
    ∙ stopped (circuit_seen c.args.places.now.parts.now) (reverse (names_seen c.in-Some.before.now)) c.above.result _ c.in_err-at.was
    (one_up (circuit_seen c.args.places.now.parts.now) c.more.left.now c.in-Some.before.now c.in-Some.name.now c.deref.result.now c.more.at c.above.result _ c.in-Some.ensures.cases.0 c.deref.ensures.value c.above.ensures.found
    c.more.invariant.0)

pub more-smaller : goal.more-smaller
more-smaller c = (let l : length c.in-Some.before.now < length c.more.left.now = omega (arith, c.in-Some.ensures.cases.1) in l)

pub more-preserved : goal.more-preserved
more-preserved c = (
  one_up (circuit_seen c.args.places.now.parts.now) c.more.left.now c.in-Some.before.now c.in-Some.name.now c.deref.result.now c.more.at (Some c.in_ok-at.at) _ c.in-Some.ensures.cases.0 c.deref.ensures.value c.in_ok-at.ensures.found
      c.more.invariant.0,
  c.in_ok-at.ensures.within,
)

pub returns-clause-found : goal.returns-clause-found
returns-clause-found c = all_up (circuit_seen c.args.places.now.parts.now) c.more.left.now c.more.at _ c.in_default.ensures.cases c.more.invariant.0
