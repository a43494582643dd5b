-- The row that the connections leave is what the bits are bound to.
use Rattle.std.specs.Prelude.{◌≡◌, ℕ, List, None, length, map, replicate, slice_get}
use Rattle.std.specs.List.{fold}
use Rattle.std.specs.Option.{option_and_then}
use Rattle.std.proofs.Common.{sym, ◌∙◌, ap}
use Rattle.sg_text.specs.declared.places.Place.{Place}
use Rattle.vl_tree.specs.Tree.{Named, Connections, Module}
use Rattle.elab_model.specs.Bits.{bits}
use Rattle.elab_model.specs.Connections.{port_values}
use Rattle.elab_model.specs.Names.{Variable, variables}
use Rattle.elab_model.specs.Ports.{port_list}
use Rattle.elab_laws.specs.Handing.{all_bits}
use Rattle.elab_laws.proofs.Apart.{variables-apart}
use Rattle.elab_laws.proofs.Lists.{all-anyway}
use Rattle.elab_ports.specs.Binding.{bind}
use Rattle.elab_ports.specs.Bound.{bound_in, AreConnected, AreOf}
use Rattle.elab_ports.proofs.Fitting.{pairs-apart, values-fit}
use Rattle.elab_ports.proofs.Pairs.{pairs, values, values-are, value-is, none-bound}
use Rattle.elab_ports.proofs.Updates.{row_of, row-same, row-none, updates, bound-all}

module-row : (vs : List Variable) (m : Module) (at : Place) (x : Connections) → AreConnected vs m at x
    → fold (bind vs (variables m)) (replicate (length (all_bits (variables m))) None) (port_values x (port_list m)) ≡ row_of (bound_in vs x (port_list m)) (variables m)
module-row vs m at x c =
    let xs = pairs x (port_list m) in
    ap (λ row. fold (bind vs (variables m)) row (port_values x (port_list m))) (sym (row-none (variables m)))
    ∙ ap (fold (bind vs (variables m)) (row_of (λ n p. None) (variables m))) (sym (values-are x (port_list m)))
    ∙ bound-all vs (variables m) (λ n p. None) (values xs) (variables-apart m) (values-fit vs m at x c)
    ∙ row-same (updates vs (λ n p. None) (values xs)) (bound_in vs x (port_list m)) (variables m)
    (all-anyway (λ v. (p : ℕ) → updates vs (λ n p. None) (values xs) v.name p ≡ bound_in vs x (port_list m) v.name p) (variables m)
    (λ v p. none-bound vs v.name p xs (pairs-apart vs m at x c.declared c.connected) ∙ ap (option_and_then (λ e. slice_get (bits vs e) p)) (value-is x (port_list m) v.name)))

pub bound-row : (vs child : List Variable) (m : Module) (at : Place) (x : Connections) (ports : List Named) → AreOf m child ports → AreConnected vs m at x
    → fold (bind vs child) (replicate (length (all_bits child)) None) (port_values x ports) ≡ map (λ b. bound_in vs x ports b.0.name b.1) (all_bits child)
bound-row vs child m at x ports o c = rw (o.table, o.list) (module-row vs m at x c)
