-- The names are those of the modules.
use Rattle.fit_inside.specs.Seen.{is_kept}
use Rattle.fit_inside.proofs.FlatLaws.{flat-of}
use Rattle.fit_inside.proofs.flat.is_flat.Goals as goal

pub returns : goal.returns
returns c =
    flat-of (λ n. is_kept n c.in_ok-modules.modules.keys) c.args.tree.now.parts.items c.deref.result.now c.deref-2.result.now c.all_flat.result c.deref.ensures.value c.deref-2.ensures.value
    c.in_ok-modules.ensures c.all_flat.ensures
