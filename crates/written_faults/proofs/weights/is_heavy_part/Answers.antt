use Rattle.std.proofs.Common.{◌∙◌, ap, sym, refl}
use Rattle.sg_circuit.specs.Seen.{circuit_seen}
use Rattle.sg_circuit.specs.declared.checks.CheckTiming.{CheckTiming}
use Rattle.written_model.specs.Entries.{limit_at}
use Rattle.written_faults.specs.Weights.{is_heavy_limit}
use Rattle.written_faults.proofs.AnyLaws.{both_true, one_false}
use Rattle.written_faults.proofs.ScopeLaws.{timing_there}
use Rattle.written_faults.proofs.weights.is_heavy_part.Goals as goal

pub returns-then-is_heavy : goal.returns-then-is_heavy
returns-then-is_heavy c =
    both_true c.is_heavy.result c.is_for_some.result _ _ _ refl
    (c.is_heavy.ensures ∙ ap (λ (t : CheckTiming). is_heavy_limit c.args.signals (limit_at t.limits c.args.place)) (sym (timing_there (circuit_seen c.args.parts.now) c.requires.closed c.args.check c.index.result.now c.requires.check c.index.ensures)))
    c.if-is_heavy.true c.is_for_some.ensures

pub returns-else-is_heavy : goal.returns-else-is_heavy
returns-else-is_heavy c =
    one_false c.is_heavy.result _ _ _ refl
    (c.is_heavy.ensures ∙ ap (λ (t : CheckTiming). is_heavy_limit c.args.signals (limit_at t.limits c.args.place)) (sym (timing_there (circuit_seen c.args.parts.now) c.requires.closed c.args.check c.index.result.now c.requires.check c.index.ensures)))
    c.if-is_heavy.false
