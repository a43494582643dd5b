-- One transition fewer.
use Rattle.std.proofs.Common.{◌<◌, ◌≤◌, [], length, ap, subst, sym, ◌∙◌, arith}
use Rattle.std.proofs.lemmas.List.{length-set, set-set}
use Rattle.sg_model.specs.Pending.{without_last}
use Rattle.sg_model.specs.Agenda.{list_at, with_list}
use Rattle.event_wheel.proofs.agenda.clear_from.Goals as goal

pub loop-wheel-preserved : goal.loop-wheel-preserved
loop-wheel-preserved g c =
    let t = c.loop-wheel.wheel.lists in
    let d = c.args.driver in
    let e = c.cancel.ensures.lists in
    let s : c.loop-wheel.wheel.spare ≤ c.cancel.new.self.spare = c.cancel.ensures.spare in
    let o : c.args.wheel.now.spare ≤ c.loop-wheel.wheel.spare = c.loop-wheel.invariant.spare in
    record {
      table = ap (λ ls. with_list ls d []) e ∙ (set-set t d (without_last (list_at t d)) [] ∙ c.loop-wheel.invariant.table);
      driver = subst (λ ls. d < length ls) (sym e) (rw length-set c.loop-wheel.invariant.driver);
      spare = omega arith;
      buckets = c.cancel.ensures.buckets ∙ c.loop-wheel.invariant.buckets;
    }
