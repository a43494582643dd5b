use Rattle.std.proofs.Common.{◌↔◌, IsTrue, sym, subst}
use Rattle.sg_circuit.specs.Seen.{circuit_seen}
use Rattle.settle_bound.specs.Hops.{IsHop}
use Rattle.settle_bound.proofs.hops.is_hop.Goals as goal

pub returns-in-Check : goal.returns-in-Check
returns-in-Check c = subst (λ h. IsTrue c.has_notifier.result ↔ IsHop (circuit_seen c.args.parts.now) h) (sym c.in-Check.is) c.has_notifier.ensures
