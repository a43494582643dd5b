-- What all say is what the rows are.
use Rattle.std.proofs.Common.{sym, subst, ◌≡◌, ◌≤◌, OnOk, IfOk}
use Rattle.std.specs.List.{AllByRecursion}
use Rattle.sg_circuit.specs.Closed.{width_of}
use Rattle.elab_variables.specs.Rows.{bit_count, placed}
use Rattle.elab_variables.proofs.Telling.{all-said}
use Rattle.elab_variables.proofs.rows.fill.Goals as goal

pub set_starts-requires : goal.set_starts-requires
set_starts-requires c =
    let said = all-said c.args.names.now.keys c.args.ports.now c.args.nets.now c.args.rows.now c.note_all.new.rows c.note_all-2.new.rows c.requires.blank c.note_all.ensures c.note_all-2.ensures in
    record { wide = subst (λ rs. AllByRecursion (λ r. width_of r.range ≤ 65536) rs) (sym said) c.requires.wide }

pub returns-clause-rows : goal.returns-clause-rows
returns-clause-rows c =
    let said = all-said c.args.names.now.keys c.args.ports.now c.args.nets.now c.args.rows.now c.note_all.new.rows c.note_all-2.new.rows c.requires.blank c.note_all.ensures c.note_all-2.ensures in
    subst (λ rs. OnOk c.set_starts.result (c.set_starts.new.rows ≡ placed 0 rs)) said c.set_starts.ensures.rows

pub returns-clause-count : goal.returns-clause-count
returns-clause-count c =
    let said = all-said c.args.names.now.keys c.args.ports.now c.args.nets.now c.args.rows.now c.note_all.new.rows c.note_all-2.new.rows c.requires.blank c.note_all.ensures c.note_all-2.ensures in
    subst (λ rs. IfOk c.set_starts.result (λ bits. bits ≡ bit_count rs)) said c.set_starts.ensures.count
