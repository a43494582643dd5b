-- The first of the nets that are left are put to.
use Rattle.std.proofs.Common.{◌∙◌}
use Rattle.vcd_stim.proofs.PutRest.{rest-faults, rest-put}
use Rattle.vcd_stim.proofs.bits.put_to_all.Goals as goal

pub loop-rest-preserved : goal.loop-rest-preserved
loop-rest-preserved c = record {
  sets_are = c.loop-rest.invariant.sets_are ∙ rest-put c.args.bits.now c.loop-rest.sets.entries c.put_to.new.sets.entries c.loop-rest.rest.now _ c.in-len1-up.len_at_least c.in_ok-put_to.ensures.0;
  faults_are = c.loop-rest.invariant.faults_are ∙ rest-faults c.args.byte c.args.bits.now c.loop-rest.rest.now _ c.in-len1-up.len_at_least c.in_ok-put_to.ensures.1;
}
