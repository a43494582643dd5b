use Rattle.std.proofs.Common.{◌<◌, length, slice_set, refl, sym, subst, arith}
use Rattle.immediate_list.specs.declared.standings.Standing.TheVariants.{Listed}
use Rattle.immediate_list.specs.Standings.{AreListed}
use Rattle.immediate_list.proofs.ListedLaws.{enlisted}
use Rattle.immediate_list.proofs.standings.enlist.Goals as goal

pub add-requires : goal.add-requires
add-requires c =
    let step = enlisted c.args.front.now.standings.items c.args.front.now.drivers.items c.args.driver (Listed c.args.value) refl c.requires.listed c.requires.driver c.requires.free in
    let l : length c.args.front.now.drivers.items < length c.args.front.now.standings.items = step.1 in
    omega (arith, l, c.requires.room)

pub returns-clause-listed : goal.returns-clause-listed
returns-clause-listed c =
    let step = enlisted c.args.front.now.standings.items c.args.front.now.drivers.items c.args.driver (Listed c.args.value) refl c.requires.listed c.requires.driver c.requires.free in
    subst (λ ds. AreListed (slice_set c.args.front.now.standings.items c.args.driver (Listed c.args.value)) ds) (sym c.add.ensures.items) step.0
