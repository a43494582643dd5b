use Rattle.std.proofs.Common.{◌∙◌, sym, ap, map}
use Rattle.std.proofs.lemmas.Simd.{map-map}
use Rattle.sg_circuit.specs.Pins.{pins_from}
use Rattle.sg_circuit.proofs.FanLaws.{pins_are_within, pins_fan_ok}
use Rattle.time_checks.specs.declared.adjusted.AdjustedCheck as code
use Rattle.time_checks.specs.Adjusted.{AdjustedCheck}
use Rattle.time_checks.specs.AdjustedSeen.{adjusted_seen}
use Rattle.time_checks.specs.Within.{terminals}
use Rattle.time_checks.proofs.TouchLaws.{terminals-within}
use Rattle.time_checks.proofs.touching.index_of.Goals as goal

pub of_pins-requires : goal.of_pins-requires
of_pins-requires c = pins_are_within (λ (k : code.AdjustedCheck). terminals (adjusted_seen k)) c.args.nets c.args.checks.now c.in_ok-pins.pins.items c.deref.result.now (terminals-within c.args.checks.now c.args.nets c.requires.within) c.in_ok-pins.ensures c.deref.ensures.value

pub returns-clause-checks : goal.returns-clause-checks
returns-clause-checks c =
    pins_fan_ok c.in_ok-pins.pins.items c.deref.result.now (map (λ (k : AdjustedCheck). terminals k) (map adjusted_seen c.args.checks.now)) c.of_pins.result c.deref.ensures.value
    (c.in_ok-pins.ensures ∙ ap (pins_from 0) (sym (map-map (λ (k : AdjustedCheck). terminals k) adjusted_seen c.args.checks.now))) c.of_pins.ensures.each
