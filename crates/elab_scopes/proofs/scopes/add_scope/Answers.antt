-- One scope more.
use Rattle.std.proofs.Common.{◌∙◌, ap, map, ◌++◌, ◌∷◌, []}
use Rattle.std.proofs.lemmas.List.{map_push}
use Rattle.sg_circuit.specs.Seen.{scope_seen}
use Rattle.elab_scopes.proofs.Standing.{number-is}
use Rattle.elab_scopes.proofs.scopes.add_scope.Goals as goal

pub returns-in_default : goal.returns-in_default
returns-in_default c = λ source top corner ss all s st t. absurd (c.in_default.ensures source top corner ss all s st)

pub returns : goal.returns
returns c = λ source top corner ss all s st t.
    let shown = c.in_ok-scope.ensures all source s (c.in-Some.ensures source top corner ss all s st) st.is_placed
    (number-is source top corner c.args.library.now c.args.rows.now ss all c.args.number c.args.placed.now s st) t in
    ap (map (λ x. scope_seen x)) c.in_ok-push.ensures.items ∙ map_push (λ x. scope_seen x) c.args.scopes.now.items c.in_ok-scope.scope
    ∙ ap (λ x. map (λ y. scope_seen y) c.args.scopes.now.items ++ x ∷ []) shown
