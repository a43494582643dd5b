-- What looking at the members of a module tells.
use Rattle.std.proofs.Common.{rules, ◌≡◌, Some}
use Rattle.elab_modules.specs.declared.library.Ready.TheVariants as ready
use Rattle.elab_modules.proofs.Listing.{one-checked, one-told}
use Rattle.elab_modules.proofs.checks.check_part.Goals as goal

pub returns-in-Some-Module-clause-checked : goal.returns-in-Some-Module-clause-checked
returns-in-Some-Module-clause-checked c =
    let there : c.args.part.now ≡ Some (ready.Module c.in-Some-Module.prepared) = search rules in
    one-checked c.args.definitions.now c.args.corner c.args.tick.power c.args.part.now c.in-Some-Module.prepared c.check_members.new.gate_delays.items c.check_members.result there
    c.check_members.ensures.delays c.check_members.ensures.faultless

pub returns-in-Some-Module-clause-refused : goal.returns-in-Some-Module-clause-refused
returns-in-Some-Module-clause-refused c =
    let there : c.args.part.now ≡ Some (ready.Module c.in-Some-Module.prepared) = search rules in
    one-told c.args.definitions.now c.args.corner c.args.tick.power c.args.part.now c.in-Some-Module.prepared c.check_members.result there c.check_members.ensures.refused
