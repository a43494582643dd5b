-- The scopes: one for each instance, with its variables (IEEE 1364-2005, 12.7).
use Rattle.std.specs.Prelude.{ℕ, List, [], ◌∷◌, Option, Some, None, map}
use Rattle.sg_circuit.specs.Circuit.{Scope, Variable as ScopeVariable}
use Rattle.vl_tree.specs.Tree.{Source}
use Rattle.elab_model.specs.Names.{Variable, variables}
use Rattle.elab_model.specs.Bits.{positions}
use Rattle.elab_model.specs.Hierarchy.{Step, Instance, is_leaf}
use Rattle.elab_model.specs.Homes.{home_of}
use Rattle.elab_model.specs.Nets.{OwnNet, number_of}

abbrev pub scope_variable : List OwnNet → Source → Instance → Variable → ScopeVariable
scope_variable all source s v = record {
  name = v.name;
  range = v.range;
  is_reg = v.is_reg;
  port = v.port;
  bits = map (λ p. number_of all (home_of source s v.name p)) (positions v.range);
}

abbrev pub parent_of : List Step → Option ℕ
parent_of [] = None
parent_of (p ∷ above) = Some p.number

abbrev pub scope_of : List OwnNet → Source → Instance → Scope
scope_of all source s = record {
  parent = parent_of s.above;
  name = s.step.name;
  module_name = s.step.definition.name.text;
  unit = s.step.definition.settings.scale.unit;
  precision = s.step.definition.settings.scale.precision;
  is_leaf = is_leaf source s;
  variables = map (scope_variable all source s) (variables s.step.definition);
}
