use Rattle.std.proofs.Common.{◌<◌, length, subst, arith}
use Rattle.std.specs.Prelude.{map}
use Rattle.sg_circuit.specs.Seen.{variable_seen}
use Rattle.written_text.specs.Places.{HasMore, bits_place}
use Rattle.written_text.proofs.PlaceLaws.{seen_at, variables_step}
use Rattle.written_text.proofs.places.place_variables.Goals as goal

pub loop-variable-preserved : goal.loop-variable-preserved
loop-variable-preserved c =
    let k = c.loop-variable.variable in
    let item = c.index-variables-variable.result in
    let at = seen_at c.args.variables.now k item c.loop-variable-test.true c.index-variables-variable.is in record {
      each = λ net l.
          let m : net < length c.loop-variable.places = omega (arith, l, c.place_bits.auto.places) in
          variables_step c.loop-variable.places c.place_bits.new.places c.args.mark k (map (λ v. variable_seen v) c.args.variables.now) (variable_seen item) net _ at.0 at.1 m
          (subst (λ ns. HasMore c.args.mark c.loop-variable.places c.place_bits.new.places (bits_place k 0 ns)) c.deref.ensures.value c.place_bits.ensures.more)
          (c.loop-variable.invariant.each net m);
      marks = c.place_bits.ensures.marks c.loop-variable.invariant.marks;
    }
