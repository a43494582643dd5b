use Rattle.std.proofs.Common.{◌++◌, ◌<◌, ◌∙◌, ◌∷◌, [], ℕ, length, reverse, ap, subst, sym}
use Rattle.std.specs.Prelude.{All}
use Rattle.sg_circuit.specs.Seen.{circuit_seen}
use Rattle.written_text.specs.Instances.{marked_names}
use Rattle.written_text.proofs.InstanceLaws.{instance_is, name_step, all_front, last_is}
use Rattle.written_text.proofs.PageLaws.{scope_is}
use Rattle.written_text.proofs.instances.push_instance.Goals as goal

pub loop-next-init : goal.loop-next-init
loop-next-init c =
    let C = circuit_seen c.args.parts.now in record {
      text = ap (λ t. c.args.text.now.items ++ t) (ap (λ ss. marked_names C 32 (reverse ss)) c.in_ok-left.ensures.chain ∙ instance_is C c.args.scope);
      left = c.in_ok-left.ensures.within;
    }

pub loop-next-preserved : goal.loop-next-preserved
loop-next-preserved c =
    let parts = c.args.parts.now in
    let C = circuit_seen parts in
    let next = c.in-Some.next in
    let P : ℕ → Type 0 = λ s. s < length parts.scopes.items in
    let whole : All P (c.pop.new.self.items ++ next ∷ []) = subst (λ xs. All P xs) c.in-Some.ensures.items c.loop-next.invariant.left in
    let l : next < length parts.scopes.items = last_is P c.pop.new.self.items next whole in record {
      text =
          name_step C c.loop-next.mark next c.loop-next.left.items c.pop.new.self.items c.loop-next.text.items c.push.new.self.items c.push_name.new.text.items _ c.bytes.result.now c.in-Some.ensures.items c.in_ok-push.ensures.items
          c.in_ok-push_name.ensures (c.bytes.ensures ∙ sym (ap (λ s. s.name) (scope_is parts next c.index.result.now l c.index.ensures))) c.loop-next.invariant.text;
      left = all_front P c.pop.new.self.items (next ∷ []) whole;
    }
