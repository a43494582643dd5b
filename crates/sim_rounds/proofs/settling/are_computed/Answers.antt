use Rattle.std.proofs.Common.{◌∙◌, refl, subst, sym}
use Rattle.std.proofs.lemmas.List.{length-map}
use Rattle.sg_circuit.specs.Seen.{circuit_seen, element_seen}
use Rattle.sim_machine.specs.Elements.{AreTables}
use Rattle.sim_machine.proofs.ElementLaws.{all_have_room}
use Rattle.sim_rounds.proofs.settling.are_computed.Goals as goal

pub agree-requires-clause-evaluable : goal.agree-requires-clause-evaluable
agree-requires-clause-evaluable c =
    let parts = c.args.parts.now in
    record {
      closed = c.requires.closed;
      indexed = c.requires.indexed;
      tables_are = subst (λ us. AreTables us c.deref-3.result.now) c.deref.ensures.value (subst (λ ts. AreTables c.deref.result.now ts) (sym c.deref-3.ensures.value) c.in_ok-tables.ensures);
      state_of_each = c.requires.values ∙ sym (length-map parts.elements.items (element_seen parts));
      room = all_have_room (circuit_seen parts) parts c.deref-2.result.now (record { before = c.in_ok-before.before; after = c.in_ok-after.after }) c.widest-width.result refl c.deref-2.ensures.value c.widest-width.ensures c.in_ok-before.ensures.capacity c.in_ok-after.ensures.capacity;
    }
