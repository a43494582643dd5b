-- What is known, with the names of what is left, is the whole.
use Rattle.std.proofs.Common.{◌≡◌, flat_map, drop}
use Rattle.elab_variables.specs.Naming.{key_texts, with_names}
use Rattle.elab_variables.proofs.naming.add_all.Given as goal

abbrev pub invariant-loop-part : goal.invariant-loop-part
invariant-loop-part g l =
    let p = g.P.Naming in
    with_names (key_texts l.known.keys) (flat_map p.names (drop l.part-index l.parts)) ≡ with_names (key_texts l.initial.known.keys) (flat_map p.names l.parts)
