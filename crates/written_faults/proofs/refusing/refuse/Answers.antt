-- One scope after another; beyond them nothing has entries.
use Rattle.std.proofs.Common.{arith}
use Rattle.std.proofs.lemmas.List.{length-map}
use Rattle.sg_circuit.specs.Seen.{circuit_seen, scope_seen}
use Rattle.written_faults.proofs.RefusingLaws.{next-scope, all_faultless}
use Rattle.written_faults.proofs.refusing.refuse.Goals as goal

pub loop-scope-preserved : goal.loop-scope-preserved
loop-scope-preserved c = record {
  reached = omega (arith, c.loop-scope-test.true, c.len-scope-end.ensures, c.args.parts.now.scopes.ok.0);
  faultless = next-scope (circuit_seen c.args.parts.now) c.loop-scope.scope c.loop-scope.invariant.faultless c.in_ok-refuse_scope.ensures.faultless;
}

pub returns-clause-faultless : goal.returns-clause-faultless
returns-clause-faultless c =
    let n = length-map c.args.parts.now.scopes.items (λ s. scope_seen s) in
    all_faultless (circuit_seen c.args.parts.now) c.requires.closed c.loop-scope.scope (omega (arith, n, c.loop-scope-test.false, c.len-scope-end.ensures, c.args.parts.now.scopes.ok.0)) c.loop-scope.invariant.faultless
