-- What is read is the text's one moment.
use Rattle.std.proofs.Common.{arith, subst}
use Rattle.std.proofs.lemmas.Result.{MatchResult-from_both}
use Rattle.sg_circuit.specs.Circuit.{Circuit}
use Rattle.sim_rounds.specs.MomentsSeen.{moment_seen}
use Rattle.sim_save.specs.Faults.{IsPower}
use Rattle.sim_save.specs.Reading.{IsRead, RefusalStands}
use Rattle.sim_save.proofs.ReadLaws.{gives_back, is_power, refuses_damage}
use Rattle.sim_save.proofs.reading.read_save.Goals as goal

pub returns-clause-given_back : goal.returns-clause-given_back
returns-clause-given_back c = λ m h.
    let bytes = c.args.bytes.now in
    let circuit = c.args.circuit.now in
    let tick = c.parts.result.now.tick in
    let power = subst (λ (d : Circuit). IsPower d.tick) c.parts.ensures.seen (is_power tick.power tick.least tick.greatest) in
    let both = MatchResult-from_both c.read_text.result (λ m. IsRead bytes circuit c.args.end (moment_seen m)) (λ r. RefusalStands bytes circuit c.args.end r) c.read_text.ensures.read c.read_text.ensures.refused in
    gives_back bytes circuit c.args.end m c.read_text.result c.parts.ensures.closed power (omega arith) both h

pub returns-clause-damaged : goal.returns-clause-damaged
returns-clause-damaged c = λ m fit h.
    let bytes = c.args.bytes.now in
    let circuit = c.args.circuit.now in
    let both = MatchResult-from_both c.read_text.result (λ m. IsRead bytes circuit c.args.end (moment_seen m)) (λ r. RefusalStands bytes circuit c.args.end r) c.read_text.ensures.read c.read_text.ensures.refused in
    refuses_damage bytes circuit c.args.end m c.read_text.result both h
