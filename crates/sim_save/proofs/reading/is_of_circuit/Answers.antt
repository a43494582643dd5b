-- The numbers of a head, one after another.
use Rattle.std.proofs.Common.{◌≡◌, eqb, length, arith}
use Rattle.std.proofs.lemmas.Bool.{OnTrue_from, eqb-true}
use Rattle.std.proofs.lemmas.Int.{ints, to_z-of_z}
use Rattle.sg_circuit.specs.Seen.{circuit_seen}
use Rattle.sim_rounds.specs.MomentsSeen.{moment_seen}
use Rattle.sim_save.specs.Faults.{IsOfCircuit}
use Rattle.sim_save.proofs.ReadLaws.{other_udps, same_circuit}
use Rattle.sim_save.proofs.reading.is_of_circuit.Goals as goal

pub returns-then-len-count_udps-clause-other : goal.returns-then-len-count_udps-clause-other
returns-then-len-count_udps-clause-other c =
    let s = c.args.saved.now in
    let many : c.len-4.result ≡ length s.moment.udps.items = omega (arith, c.len-4.ensures, s.moment.udps.ok.0) in
    other_udps c.args.parts.now s.moment s.tick s.elements c.len-4.result c.count_udps.result c.deref.result.now many c.count_udps.ensures c.deref.ensures.value c.if-len-count_udps.true

pub returns-clause-same : goal.returns-clause-same
returns-clause-same c =
    let s = c.args.saved.now in
    let p = c.args.parts.now in
    let tick : s.tick ≡ p.tick.power = first_of (omega (arith, ints, c.if-saved-parts.false), grind (arith, to_z-of_z, c.if-saved-parts.false)) in
    let elements : s.elements ≡ length p.elements.items = omega (arith, c.if-saved-len.false, c.len.ensures, p.elements.ok.0) in
    let nets : length s.moment.nets.items ≡ length p.nets.items = omega (arith, c.if-len.false, c.len-2.ensures, c.len-3.ensures, s.moment.nets.ok.0, p.nets.ok.0) in
    let udps : length s.moment.udps.items ≡ c.count_udps.result = omega (arith, c.if-len-count_udps.false, c.len-4.ensures, s.moment.udps.ok.0) in
    OnTrue_from (eqb c.len-5.result c.len-6.result) (IsOfCircuit (circuit_seen p) s.tick s.elements (moment_seen s.moment))
    (λ t.
    let n = eqb-true c.len-5.result c.len-6.result t in
    let checks : length s.moment.latest.items ≡ length p.checks.items = omega (arith, n, c.len-5.ensures, c.len-6.ensures, s.moment.latest.ok.0, p.checks.ok.0) in
    same_circuit p s.moment s.tick s.elements c.count_udps.result c.deref.result.now tick elements nets udps c.count_udps.ensures c.deref.ensures.value checks)
