use Rattle.std.proofs.Common.{◌∙◌, sym, ap, arith, ◌+◌, ◌<◌, [], length, take, ℕ, List}
use Rattle.std.proofs.lemmas.List.{map-id, get_or_default}
use Rattle.sg_circuit.specs.Pins.{pins_from}
use Rattle.sg_circuit.proofs.PinLaws.{pins_more}
use Rattle.wave_out.proofs.variables.push_pins.Goals as goal

pub loop-k-preserved : goal.loop-k-preserved
loop-k-preserved c =
    let ks = c.args.variables.now in
    let l : c.loop-k.k < length ks = omega (arith, c.loop-k-test.true, c.requires.count) in record {
      pins = pins_more (λ (bs : List ℕ). bs) ks c.loop-k.k c.of.result.now c.loop-k.pins.items c.add_pins.new.pins.items l
          (c.loop-k.invariant.pins ∙ ap (pins_from 0) (sym (map-id (take c.loop-k.k ks)))) (c.of.ensures ∙ get_or_default ks c.loop-k.k [] c.of.result.now l) c.in_ok-add_pins.ensures.pins
          ∙ ap (pins_from 0) (map-id (take (c.loop-k.k + 1) ks));
      fresh = c.in_ok-add_pins.ensures.fresh;
    }
