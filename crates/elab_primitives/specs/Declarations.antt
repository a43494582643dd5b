-- The names that the code keeps of a primitive's declarations.
use Rattle.std.specs.Prelude.{◌≡◌, ℕ, ◌+◌, List, Bool, map, length, bytes_eq}
use Rattle.std.specs.List.{list_any}
use Rattle.vl_tree.specs.declared.names.Name as name
use Rattle.vl_tree.specs.Seen.{view_name}
use Rattle.vl_tree.specs.Tree.{Primitive}
use Rattle.elab_model.specs.Primitives.{outputs, inputs, regs}
use Rattle.elab_model.specs.PrimitiveFaults.{declared_names}
use Rattle.elab_primitives.specs.declared.declared.Declared as code

pub record IsDeclared (p : Primitive) (d : code.Declared) : Type 0 where
  pub names : map view_name d.names.items ≡ declared_names p
  pub after_outputs : d.after_outputs ≡ length (outputs p)
  pub after_inputs : d.after_inputs ≡ length (outputs p) + length (inputs p)
  pub after_regs : d.after_regs ≡ length (outputs p) + length (inputs p) + length (regs p)

-- whether a text is that of one of the code's names
abbrev pub is_one_of : List name.Name → List ℕ → Bool
is_one_of names text = list_any (λ n. bytes_eq text n.text.now) names
