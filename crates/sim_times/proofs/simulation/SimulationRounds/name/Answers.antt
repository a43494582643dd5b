use Rattle.std.specs.Prelude.{◌++◌, map}
use Rattle.std.proofs.Common.{◌≡◌, ℕ, List, [], ◌∙◌, sym, ap, subst}
use Rattle.sg_logic.specs.declared.values.Value.{Value}
use Rattle.sg_model.specs.Machine.{Machine}
use Rattle.sg_model.specs.Round.{changed_by, due_changes, values_after}
use Rattle.sg_stimulus.specs.Seen.{set_seen}
use Rattle.sim_times.specs.Naming.{IsLeastOf}
use Rattle.fan_round.specs.Nets.{AreChanged}
use Rattle.fan_round.proofs.PendingLaws.{pending_rises, pending_below}
use Rattle.sim_times.proofs.NamingLaws.{named_changed, named_next}
use Rattle.sim_times.proofs.SimulationLaws.{no_items}
use Rattle.sim_times.proofs.simulation.SimulationRounds.name.Goals as goal

pub returns-then-not-is_empty-clause-named : goal.returns-then-not-is_empty-clause-named
returns-then-not-is_empty-clause-named g c =
    let s = c.args.self.now in
    record {
      each = λ r h. named_changed (g.E.Elements.machine s.elements) c.args.now (map (λ x. set_seen x) s.handed.items) r s.nets.before.items s.nets.values.items s.nets.changed.items c.least_net.result h.before (ap (λ x. x.values) h.state) c.requires.ready.0.round.nets_are.changed
          (subst (λ ks. IsLeastOf ks c.least_net.result) c.deref.ensures.value c.least_net.ensures);
    }

pub change_nets-requires-clause-rise : goal.change_nets-requires-clause-rise
change_nets-requires-clause-rise g c = pending_rises c.args.self.now.outputs.items c.args.self.now.nets.values.items (g.A.Agenda.lists c.args.self.now.agenda) c.args.now c.requires.ready.0.round.in_order

pub change_nets-requires-clause-below : goal.change_nets-requires-clause-below
change_nets-requires-clause-below g c = pending_below c.args.self.now.outputs.items c.args.self.now.nets.values.items (g.A.Agenda.lists c.args.self.now.agenda) c.args.now c.requires.ready.0.round.in_order

pub returns-clause-named : goal.returns-clause-named
returns-clause-named g c =
    let s = c.args.self.now in
    let m : Machine = g.E.Elements.machine s.elements in
    let lists = g.A.Agenda.lists s.agenda in
    let handed : List (ℕ × Value) = map (λ x. set_seen x) s.handed.items in
    let new = c.change_nets.new.nets in
    let none : s.nets.changed.items ≡ [] = no_items s.nets.changed.items s.nets.changed.len c.is_empty.result c.is_empty.ensures s.nets.changed.ok.0 c.if-not-is_empty.false in
    let made : new.values.items ≡ changed_by (due_changes c.args.now m.outputs lists ++ handed) s.nets.values.items =
    c.change_nets.ensures.values ∙ (ap (λ os. changed_by (due_changes c.args.now os lists ++ map (λ x. set_seen x) c.deref-3.result.now) s.nets.values.items) (c.deref-2.ensures.value ∙ c.requires.ready.0.round.circuit.outputs)
    ∙ ap (λ hs. changed_by (due_changes c.args.now m.outputs lists ++ map (λ x. set_seen x) hs) s.nets.values.items) c.deref-3.ensures.value) in
    record {
      each = λ r h. named_next m c.args.now handed r s.nets.before.items s.nets.values.items new.values.items s.nets.changed.items new.changed.items c.least_net-2.result h.before (ap (λ x. x.values) h.state) c.requires.ready.0.round.nets_are.changed none
          (made ∙ sym (ap (λ x. values_after m c.args.now handed x) h.state))
          (subst (λ vs. AreChanged vs new.values.items new.changed.items) c.change_nets.ensures.before c.change_nets.ensures.nets.changed)
          (subst (λ ks. IsLeastOf ks c.least_net-2.result) c.deref-4.ensures.value c.least_net-2.ensures);
    }
