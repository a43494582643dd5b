-- One more is put, and a refusal on the way is one of all.
use Rattle.std.proofs.Common.{map, flat_map, ◌-◌, ◌<◌, subst, length}
use Rattle.std.specs.List.{range_with_len}
use Rattle.std.proofs.lemmas.Result.{err_from_is_err_and}
use Rattle.elab_elements.specs.Puts.{Puts, RefusesPuts}
use Rattle.vl_tree.specs.Seen.{view_name}
use Rattle.elab_elements.specs.Words.{variable_puts, port_legs}
use Rattle.elab_elements.proofs.Left.{numbers-more, numbers-refused}
use Rattle.elab_elements.proofs.Putting.{exit-by}
use Rattle.elab_elements.proofs.legs.add_all_legs.Goals as goal

pub loop-variable-preserved : goal.loop-variable-preserved
loop-variable-preserved c = record {
  few = c.add_variable_legs.ensures.few;
  left = numbers-more (port_legs c.args.scope (map view_name c.args.ports.now) c.args.place c.args.table.now c.args.inner.now c.args.outer.now)
      (flat_map (port_legs c.args.scope (map view_name c.args.ports.now) c.args.place c.args.table.now c.args.inner.now c.args.outer.now)
      (range_with_len 0 (length c.args.table.now - 0))) c.loop-variable.variable (length c.args.table.now)
      c.args.made.now c.loop-variable.made c.add_variable_legs.new.made (subst (λ n. c.loop-variable.variable < n) c.len-count.ensures c.loop-variable-test.true) c.loop-variable.invariant.left
      (subst (λ p. Puts c.loop-variable.made c.add_variable_legs.new.made (variable_puts c.args.scope p c.args.table.now c.args.inner.now c.args.outer.now c.loop-variable.variable)) c.place_of-place.ensures c.in_ok-add_variable_legs.ensures.puts);
}

pub returns-in_err-add_variable_legs-clause-refused : goal.returns-in_err-add_variable_legs-clause-refused
returns-in_err-add_variable_legs-clause-refused c =
    exit-by (RefusesPuts c.args.made.now (flat_map (port_legs c.args.scope (map view_name c.args.ports.now) c.args.place c.args.table.now c.args.inner.now c.args.outer.now)
    (range_with_len 0 (length c.args.table.now - 0)))) c.from_residual.result c.in_err-add_variable_legs.field-0.0
    (err_from_is_err_and c.from_residual.result c.from_residual.ensures.1)
    (numbers-refused (port_legs c.args.scope (map view_name c.args.ports.now) c.args.place c.args.table.now c.args.inner.now c.args.outer.now)
    (flat_map (port_legs c.args.scope (map view_name c.args.ports.now) c.args.place c.args.table.now c.args.inner.now c.args.outer.now)
    (range_with_len 0 (length c.args.table.now - 0))) c.loop-variable.variable (length c.args.table.now)
    c.args.made.now c.loop-variable.made c.in_err-add_variable_legs.field-0.0 (subst (λ n. c.loop-variable.variable < n) c.len-count.ensures c.loop-variable-test.true) c.loop-variable.invariant.left
    (subst (λ p. RefusesPuts c.loop-variable.made (variable_puts c.args.scope p c.args.table.now c.args.inner.now c.args.outer.now c.loop-variable.variable) c.in_err-add_variable_legs.field-0.0) c.place_of-place.ensures c.in_err-add_variable_legs.ensures.refused))
