-- A scope is that of its instance.
use Rattle.std.specs.Prelude.{◌≡◌, ℕ, List, Bool, Option, map, refl}
use Rattle.sg_circuit.specs.Circuit.{Scope, Variable as ScopeVariable}
use Rattle.vl_tree.specs.Tree.{Module, Source}
use Rattle.elab_model.specs.Hierarchy.{Instance, is_leaf}
use Rattle.elab_model.specs.Names.{variables}
use Rattle.elab_model.specs.Nets.{OwnNet}
use Rattle.elab_model.specs.Scopes.{parent_of, scope_variable, scope_of}

pub scope-shown : (all : List OwnNet) (source : Source) (s : Instance) (m : Module) (parent : Option ℕ) (name word : List ℕ) (leaf : Bool) (list : List ScopeVariable)
    → m ≡ s.step.definition → parent ≡ parent_of s.above → name ≡ s.step.name → word ≡ m.name.text → leaf ≡ is_leaf source s → list ≡ map (scope_variable all source s) (variables s.step.definition)
    → ◌≡◌ {A = Scope}
    (record { parent = parent; name = name; module_name = word; unit = m.settings.scale.unit; precision = m.settings.scale.precision; is_leaf = leaf; variables = list })
    (scope_of all source s)
scope-shown all source s m parent name word leaf list d p n w l v = rw (w, d, p, n, l, v) refl
