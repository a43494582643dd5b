-- What is there, followed by what is left, is the whole.
use Rattle.std.proofs.Common.{◌≡◌, ◌++◌, map, flat_map, drop}
use Rattle.vl_tree.specs.Seen.{view_name, view_primitive_declaration}
use Rattle.elab_model.specs.Primitives.{regs_of}
use Rattle.elab_primitives.proofs.names.add_regs.Given as goal

abbrev pub invariant-loop-declaration : goal.invariant-loop-declaration
invariant-loop-declaration l =
    map view_name l.names.items ++ flat_map regs_of (map view_primitive_declaration (drop l.declaration-index l.declarations))
    ≡ map view_name l.initial.names.items ++ flat_map regs_of (map view_primitive_declaration l.declarations)
