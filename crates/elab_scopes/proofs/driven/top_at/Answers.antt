-- The first instance is the top.
use Rattle.std.proofs.Common.{sym}
use Rattle.elab_model.specs.Hierarchy.{top_instance}
use Rattle.elab_scopes.proofs.PlacedAt.{stands-first, some-first}
use Rattle.elab_scopes.proofs.driven.top_at.Goals as goal

pub returns-in_err-top : goal.returns-in_err-top
returns-in_err-top c = λ source top corner ss all read placed.
    absurd (some-first source top corner c.args.library.now c.args.rows.now ss all c.args.instances.now (sym c.in_err-top.ensures.value) read placed)

pub returns : goal.returns
returns c = λ source top corner ss all read placed.
    c.here_at.ensures source top corner ss all (top_instance top)
    (stands-first source top corner c.args.library.now c.args.rows.now ss all c.args.instances.now c.in_ok-top.top.now (sym c.in_ok-top.ensures.value) read placed)
