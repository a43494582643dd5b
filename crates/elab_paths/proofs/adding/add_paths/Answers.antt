-- What the calls leave is the whole.
use Rattle.std.proofs.Common.{◌∙◌, ◌≤◌, ap, length, refl, subst, sym}
use Rattle.std.proofs.lemmas.List.{with_items_is}
use Rattle.std.proofs.lemmas.Result.{err_from_is_err_and}
use Rattle.elab_elements.proofs.Putting.{exit-by}
use Rattle.elab_paths.specs.Filling.{paths_among, filled}
use Rattle.elab_paths.proofs.WholeCircuit.{are-standing, have-all_paths, uses-enough}
use Rattle.elab_paths.proofs.adding.add_paths.Goals as goal

pub returns-in_err-uses-clause-refused : goal.returns-in_err-uses-clause-refused
returns-in_err-uses-clause-refused c =
    exit-by _ c.from_residual.result c.in_err-uses.field-0.0 (err_from_is_err_and c.from_residual.result c.from_residual.ensures.1)
    (λ source top corner h.
    c.in_err-uses.ensures.refused source top corner (are-standing source top corner c.args.library.now c.args.modules.now c.args.instances.now c.args.rows.now c.args.made.now h))

pub fill_paths-requires : goal.fill_paths-requires
fill_paths-requires c =
    let source = c.requires.given.0 in
    let top = c.requires.given.1.0 in
    let corner = c.requires.given.1.1.0 in
    let h = c.requires.given.1.1.1 in
    subst (λ us. paths_among c.deref_mut.result.now ≤ length us) (sym c.deref.ensures.value)
    (subst (λ es. paths_among es ≤ length c.in_ok-uses.uses.uses.items) (sym c.deref_mut.ensures.value)
    (uses-enough source top corner c.args.library.now c.args.modules.now c.args.instances.now c.args.rows.now c.args.made.now h c.in_ok-uses.uses
    (c.in_ok-uses.ensures.uses source top corner (are-standing source top corner c.args.library.now c.args.modules.now c.args.instances.now c.args.rows.now c.args.made.now h))))

pub returns-clause-paths : goal.returns-clause-paths
returns-clause-paths c = λ source top corner h.
    have-all_paths source top corner c.args.library.now c.args.modules.now c.args.instances.now c.args.rows.now c.args.made.now h c.in_ok-uses.uses
    (c.in_ok-uses.ensures.uses source top corner (are-standing source top corner c.args.library.now c.args.modules.now c.args.instances.now c.args.rows.now c.args.made.now h)) _
    (with_items_is c.args.made.now.elements c.fill_paths.new.elements (c.fill_paths.auto.elements ∙ c.deref_mut.ensures.len) ∙ c.fill_paths.ensures
    ∙ ap (λ us. filled us c.deref_mut.result.now) c.deref.ensures.value ∙ ap (filled c.in_ok-uses.uses.uses.items) c.deref_mut.ensures.value)
    refl c.in_ok-uses.ensures.few
