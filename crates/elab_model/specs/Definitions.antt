-- The definitions of a netlist: modules and primitives, by their names (IEEE 1364-2005, 12.1, 8.1).
use Rattle.std.specs.Prelude.{ℕ, List, Option, Some, None, find, bytes_eq}
use Rattle.std.specs.Option.{option_and_then}
use Rattle.vl_tree.specs.Tree.{Named, Module, Primitive, Part, a_module, a_primitive, Source}

abbrev pub name_of : Part → Named
name_of (a_module m) = m.name
name_of (a_primitive p) = p.name

-- what a name defines: the first of that name
abbrev pub definition_of : Source → List ℕ → Option Part
definition_of source n = find (λ d. bytes_eq n (name_of d).text) source

abbrev pub as_module : Part → Option Module
as_module (a_module m) = Some m
as_module (a_primitive p) = None

abbrev pub as_primitive : Part → Option Primitive
as_primitive (a_module m) = None
as_primitive (a_primitive p) = Some p

abbrev pub module_of : Source → List ℕ → Option Module
module_of source n = option_and_then as_module (definition_of source n)

abbrev pub primitive_of : Source → List ℕ → Option Primitive
primitive_of source n = option_and_then as_primitive (definition_of source n)
