-- The copy is found by its bits.
use Rattle.specify_checks.proofs.CopyPlaces.{bits-found}
use Rattle.specify_checks.proofs.copies.place_of.Goals as goal

pub returns : goal.returns
returns c = λ named m ready.
    bits-found m c.args.table.now c.args.copies.now ready c.args.signal c.named_bit-named.result _ c.find.result (c.named_bit-named.ensures.bit named) c.requires c.named_bit-named.ensures.row c.find.ensures
