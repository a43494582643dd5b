use Rattle.std.proofs.Common.{◌≡◌, ◌∙◌, ap, arith, length, sym}
use Rattle.std.proofs.lemmas.List.{length-map}
use Rattle.fan_round.specs.Nets.{stamp_seen}
use Rattle.fan_round.proofs.NetLaws.{unchanged_new}
use Rattle.sim_rounds.specs.MomentsSeen.{change_seen}
use Rattle.sim_rounds.proofs.restoring.nets_of.Goals as goal

pub returns-clause-nets : goal.returns-clause-nets
returns-clause-nets c =
    let nets = c.args.moment.now.nets in
    let values : c.in_ok-from_slice.field-0.items ≡ nets.items = c.in_ok-from_slice.ensures.items ∙ c.deref.ensures.value in
    let before : c.in_ok-from_slice-2.field-0.items ≡ nets.items = c.in_ok-from_slice-2.ensures.items ∙ c.deref-2.ensures.value in
    let many : length c.in_ok-from_slice.field-0.items ≡ length nets.items = ap length values in
    record {
      changed = unchanged_new c.in_ok-from_slice.field-0.items c.in_ok-from_slice-2.field-0.items nets.items c.in_ok-with_capacity.field-0.items values before c.in_ok-with_capacity.ensures.items;
      stamps = sym (length-map c.in_ok-stamps_of.field-0.items stamp_seen)
          ∙ (ap length c.in_ok-stamps_of.ensures ∙ (length-map c.deref-3.result.now change_seen ∙ (ap length c.deref-3.ensures.value ∙ (c.requires.as_many ∙ sym (ap length before)))));
      room = omega (arith, many, c.in_ok-with_capacity.ensures.exact, c.len.ensures, nets.ok.0);
    }
