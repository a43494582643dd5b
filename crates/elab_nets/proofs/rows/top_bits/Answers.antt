-- The top is the first instance.
use Rattle.std.proofs.Common.{◌∙◌, ap, sym, length}
use Rattle.elab_laws.specs.Handing.{all_bits}
use Rattle.elab_modules.proofs.FoundModules.{lent, none-lent}
use Rattle.elab_nets.proofs.AllRows.{first-of, is-top}
use Rattle.elab_nets.proofs.Mine.{found, prepared-is}
use Rattle.elab_nets.proofs.rows.top_bits.Goals as goal

pub returns-in_default-find_module : goal.returns-in_default-find_module
returns-in_default-find_module c = λ source top corner given.
    let p = c.in-Some.top.now in
    let of = first-of source top corner c.args.library.now c.args.instances.now given p (sym c.in-Some.ensures.value) in
    absurd (found source top corner c.args.library.now c.args.instances.now given 0 p of (none-lent c.find_module.result _ c.in_default-find_module.is c.find_module.ensures))

pub returns : goal.returns
returns c = λ source top corner given.
    let p = c.in-Some.top.now in
    let of = first-of source top corner c.args.library.now c.args.instances.now given p (sym c.in-Some.ensures.value) in
    let prepared = prepared-is source top corner c.args.library.now c.args.instances.now given 0 p of c.in-Some-find_module.prepared.now (lent c.find_module.result c.in-Some-find_module.prepared _ c.in-Some-find_module.is c.find_module.ensures) in
    c.bits.ensures ∙ ap (λ vs. length (all_bits vs)) (prepared.table ∙ is-top source top p of)
