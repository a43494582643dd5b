use Rattle.std.proofs.Common.{◌++◌, ◌∙◌, ◌∷◌, [], ap, sym}
use Rattle.std.specs.Prelude.{codes}
use Rattle.sg_circuit.specs.Circuit.{scope_at}
use Rattle.sg_circuit.specs.Seen.{circuit_seen}
use Rattle.written_model.specs.Names.{names_to}
use Rattle.written_model.specs.Text.{instance_text}
use Rattle.written_model.specs.Tree.{cell_type_of}
use Rattle.written_text.proofs.InstanceLaws.{five_added}
use Rattle.written_text.proofs.PageLaws.{scope_is}
use Rattle.written_text.proofs.instances.push_cell_line.Goals as goal

pub returns : goal.returns
returns c =
    let parts = c.args.parts.now in
    let C = circuit_seen parts in
    let s = c.args.scope in
    five_added c.extend_from_slice-3.result c.args.text.now.items (codes "(CELL (CELLTYPE \"") (cell_type_of (scope_at C s).module_name) (codes "\") (INSTANCE") (instance_text (names_to C s)) (codes ")") (10 ∷ [])
    c.extend_from_slice.new.self.items c.push_cell_type.new.text.items c.extend_from_slice-2.new.self.items c.push_instance.new.text.items c.extend_from_slice-3.new.self.items
    c.in_ok-extend_from_slice.ensures.items
    (c.in_ok-push_cell_type.ensures ∙ ap (λ n. c.extend_from_slice.new.self.items ++ cell_type_of n) (c.bytes.ensures ∙ sym (ap (λ x. x.module_name) (scope_is parts s c.index.result.now c.requires.scope c.index.ensures))))
    c.in_ok-extend_from_slice-2.ensures.items c.in_ok-push_instance.ensures c.extend_from_slice-3.ensures.items
