-- The table of a module whose declarations have no fault.
use Rattle.std.specs.Prelude.{◌≡◌, ℕ, ◌≤◌, List, [], ◌++◌, map, length, bytes_eq}
use Rattle.std.specs.Borrow.{Bor}
use Rattle.std.specs.List.{AllByRecursion, IsDistinct}
use Rattle.std.proofs.Common.{sym, ◌∙◌, ap, subst}
use Rattle.sg_circuit.specs.Closed.{width_of}
use Rattle.vl_tree.specs.declared.modules.PortDeclaration.{PortDeclaration}
use Rattle.vl_tree.specs.Seen.{view_port_declaration}
use Rattle.vl_tree.specs.Tree.{Module}
use Rattle.elab_laws.proofs.NoFaults.{front, back}
use Rattle.elab_model.specs.Faults.{Fault}
use Rattle.elab_model.specs.Names.{variables, variable_names}
use Rattle.elab_model.specs.NameFaults.{declaration_faults, name_faults, twice_in_list, two_directions, two_nets, two_instances, no_port, no_direction, two_ranges, too_wide}
use Rattle.elab_model.specs.Ports as model
use Rattle.elab_declared.specs.declared.nets.NetDeclaration.{NetDeclaration}
use Rattle.elab_declared.specs.Words.{view_net}
use Rattle.elab_variables.specs.declared.tables.Row.{Row}
use Rattle.elab_variables.specs.Naming.{key_texts}
use Rattle.elab_variables.specs.Rows.{rows_said, placed, bit_count}
use Rattle.elab_variables.specs.Tables.{variables_seen, starts_are, IsTable}
use Rattle.elab_variables.proofs.NoneTooWide.{rows-narrow}
use Rattle.elab_variables.proofs.SaidVariables.{names-distinct, variables-said, length-said}
use Rattle.elab_variables.proofs.TableSeen.{counted, length-placed, placed-starts, placed-wide, placed-counted}

fifth-empty : (a b c d e f : List Fault) → a ++ (b ++ (c ++ (d ++ (e ++ (f ++ []))))) ≡ [] → e ≡ []
fifth-empty a b c d e f h =
    let p = back a (b ++ (c ++ (d ++ (e ++ (f ++ []))))) h in
    let q = back b (c ++ (d ++ (e ++ (f ++ [])))) p in
    let r = back c (d ++ (e ++ (f ++ []))) q in
    let s = back d (e ++ (f ++ [])) r in
    front e (f ++ []) s

ports-listed : (m : Module) → declaration_faults m ≡ [] → no_port m ≡ []
ports-listed m h = fifth-empty (twice_in_list m) (two_directions m) (two_nets m) (two_instances m) (no_port m) (no_direction m) (front (name_faults m) (two_ranges m ++ too_wide m) h)

none-wide : (m : Module) → declaration_faults m ≡ [] → too_wide m ≡ []
none-wide m h = back (two_ranges m) (too_wide m) (back (name_faults m) (two_ranges m ++ too_wide m) h)

-- the code's lists are those of the module
pub record Are (m : Module) (keys : List (Bor (List ℕ))) (ports : List PortDeclaration) (nets : List NetDeclaration) : Type 0 where
  pub faultless : declaration_faults m ≡ []
  pub named : key_texts keys ≡ variable_names m
  pub as_ports : map view_port_declaration ports ≡ model.port_declarations m
  pub as_nets : map view_net nets ≡ model.net_declarations m

module _ (m : Module) (keys : List (Bor (List ℕ))) (ports : List PortDeclaration) (nets : List NetDeclaration) (are : Are m keys ports nets) where
  pub are-distinct : IsDistinct bytes_eq (key_texts keys)
  are-distinct = names-distinct m keys are.named

  pub are-narrow : AllByRecursion (λ r. width_of r.range ≤ 65536) (rows_said ports nets keys)
  are-narrow = rows-narrow m ports nets keys (none-wide m are.faultless) are.as_ports are.as_nets

  as-long : (rows : List Row) → rows ≡ placed 0 (rows_said ports nets keys) → length keys ≡ length rows
  as-long rows e = length-said ports nets keys ∙ sym (ap length e ∙ length-placed 0 (rows_said ports nets keys))

  pub is-table : (rows : List Row) (bits : ℕ) → rows ≡ placed 0 (rows_said ports nets keys) → bits ≡ bit_count (rows_said ports nets keys) → IsTable keys rows bits
  is-table rows bits e h = record {
    same = as-long rows e;
    starts = subst (starts_are 0) (sym e) (placed-starts 0 (rows_said ports nets keys));
    wide = subst (AllByRecursion (λ r. width_of r.range ≤ 65536)) (sym e) (placed-wide 0 (rows_said ports nets keys) are-narrow);
    count = h ∙ placed-counted 0 (rows_said ports nets keys) ∙ ap bit_count (sym e) ∙ counted keys rows (as-long rows e);
  }

  pub are-variables : (rows : List Row) → rows ≡ placed 0 (rows_said ports nets keys) → variables_seen keys rows ≡ variables m
  are-variables rows e = ap (variables_seen keys) e ∙ variables-said m ports nets keys (ports-listed m are.faultless) are.as_ports are.as_nets are.named
