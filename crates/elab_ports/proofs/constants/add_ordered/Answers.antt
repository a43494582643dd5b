-- One port more, up to the end of the shorter list.
use Rattle.std.proofs.Common.{rules, [], ◌∷◌, sym, subst, length, length-append}
use Rattle.std.proofs.lemmas.Slice.Zip.{zip_turn, zip_end}
use Rattle.elab_ports.specs.Placing.{Places}
use Rattle.elab_ports.proofs.Bindings.{ordered-all, ordered_values}
use Rattle.elab_ports.proofs.Placings.{ordered-next}
use Rattle.elab_ports.proofs.constants.add_ordered.Goals as goal

pub loop-port-preserved : goal.loop-port-preserved
loop-port-preserved c =
    let z =
    zip_turn c.args.ports.now c.args.values.now c.loop-port.yielded c.into_iter-port-iterator.result c.loop-port.port-iterator c.next.new.self c.next.result (search rules) (search rules)
    c.loop-port.yielded_by
    (c.in-Some.port, c.in-Some.value) c.in-Some.is c.next.ensures.steps in (
      (tt, tt),
      tt,
      subst (λ n. Places c.args.parent.now c.args.child.now (ordered_values n c.args.ports.now c.args.values.now) c.args.list.now.items c.add_value.new.list.items)
          (sym (length-append c.loop-port.yielded ((c.in-Some.port, c.in-Some.value) ∷ [])))
          (ordered-next c.args.parent.now c.args.child.now c.args.ports.now c.args.values.now (length c.loop-port.yielded) c.in-Some.port.now c.in-Some.value.now c.args.list.now.items c.loop-port.list.items c.add_value.new.list.items
          z.0 z.1 (z.2 c.in-Some.port.now) (z.3 c.in-Some.value.now) c.loop-port.invariant.2 c.in_ok-add_value.ensures),
    )

pub returns : goal.returns
returns c =
    let n =
    zip_end c.args.ports.now c.args.values.now c.loop-port.yielded c.into_iter-port-iterator.result c.loop-port.port-iterator c.next.new.self c.next.result (search rules) (search rules)
    c.loop-port.yielded_by
    c.in-None.is c.next.ensures.steps in
    subst (λ es. Places c.args.parent.now c.args.child.now es c.args.list.now.items c.loop-port.list.items) (ordered-all c.args.ports.now c.args.values.now (length c.loop-port.yielded) n)
    c.loop-port.invariant.2
