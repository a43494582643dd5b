-- The nets of one copy more are there, and at the end those of all.
use Rattle.std.proofs.Common.{List}
use Rattle.std.proofs.lemmas.Result.{err_from_is_err_and}
use Rattle.sg_circuit.specs.declared.nets.Net.{Net}
use Rattle.elab_modules.specs.PlacedCopy.{PlacedCopy}
use Rattle.elab_nets.specs.Copies.{copy_nets}
use Rattle.elab_nets.proofs.ChildRows.{refuses-more}
use Rattle.elab_nets.proofs.Counts.{handed-on}
use Rattle.elab_nets.proofs.LateNets.{one-copy_more, all-copies, within-all}
use Rattle.elab_nets.proofs.copies.add_copies.Goals as goal

pub returns-in_err-add_copy-clause-refused : goal.returns-in_err-add_copy-clause-refused
returns-in_err-add_copy-clause-refused c =
    let nets_of : PlacedCopy → List Net = λ (p : PlacedCopy). copy_nets c.args.scope c.args.table.now p.copy in
    let copies = c.args.copies.now in
    let e = c.in_err-add_copy.field-0.0 in
    handed-on c.from_residual.result _ e (err_from_is_err_and c.from_residual.result c.from_residual.ensures.1)
    (refuses-more _ _ e (within-all nets_of copies c.loop-placed.placed-index _ c.args.nets.now.items c.loop-placed.nets.items c.loop-placed-test.true c.loop-placed.invariant.nets)
    (c.in_err-add_copy.ensures.refused 0))

pub loop-placed-preserved : goal.loop-placed-preserved
loop-placed-preserved c =
    let nets_of : PlacedCopy → List Net = λ (p : PlacedCopy). copy_nets c.args.scope c.args.table.now p.copy in
    record {
      few = c.add_copy.ensures.few;
      nets = one-copy_more nets_of c.args.copies.now c.loop-placed.placed-index _ c.args.nets.now.items c.loop-placed.nets.items c.add_copy.new.nets.items c.loop-placed-test.true c.loop-placed.invariant.nets
          c.in_ok-add_copy.ensures.nets;
    }

pub returns-clause-nets : goal.returns-clause-nets
returns-clause-nets c =
    let nets_of : PlacedCopy → List Net = λ (p : PlacedCopy). copy_nets c.args.scope c.args.table.now p.copy in
    all-copies nets_of c.args.copies.now c.loop-placed.placed-index c.args.nets.now.items c.loop-placed.nets.items c.loop-placed-test.false c.loop-placed.invariant.nets
