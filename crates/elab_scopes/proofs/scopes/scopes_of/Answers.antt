-- One instance more.
use Rattle.std.proofs.Common.{◌≤◌, ◌∙◌, ap, sym, subst, refl, map, length}
use Rattle.std.proofs.lemmas.List.{take_all}
use Rattle.sg_circuit.specs.Seen.{scope_seen}
use Rattle.elab_model.specs.Hierarchy.{instances}
use Rattle.elab_model.specs.Nets.{nets}
use Rattle.elab_model.specs.Scopes.{scope_of}
use Rattle.elab_scopes.proofs.PlacedAt.{placed-at, placed-length, own-at, below-length, stands-at}
use Rattle.elab_scopes.proofs.Standing.{within-limit}
use Rattle.elab_scopes.proofs.Steps.{maps-next}
use Rattle.elab_scopes.proofs.scopes.scopes_of.Goals as goal

pub loop-number-preserved : goal.loop-number-preserved
loop-number-preserved c = λ top corner ss all read placed tree.
    let source = c.args.definitions.now in
    let ps = c.args.instances.now in
    let i = c.loop-number.number in
    let p = c.index-instances-number.result in
    let r = placed-at source ps ss i p c.loop-number-test.true c.index-instances-number.is placed in
    maps-next (λ s. scope_seen s) (scope_of all source) c.loop-number.scopes.items c.add_scope.new.scopes.items (scope_of all source r.own) ss i r.own
    (below-length source ps ss i c.loop-number-test.true placed)
    (c.in_ok-add_scope.ensures source top corner ss all r.own (stands-at source top corner c.args.library.now c.args.rows.now ss all p i r read)
    (within-limit source top ss i p r read.are_instances tree))
    (ap (scope_of all source) (sym (own-at source p i ss r))) (c.loop-number.invariant top corner ss all read placed tree)

pub returns : goal.returns
returns c = λ top corner placed ready rows tree.
    let source = c.args.definitions.now in
    let ss = instances source top in
    let all = nets source top in
    let le : length ss ≤ c.loop-number.number = subst (λ n. n ≤ c.loop-number.number) (placed-length source c.args.instances.now ss placed) c.loop-number-test.false in
    c.loop-number.invariant top corner ss all (record { are_instances = refl; are_nets = refl; is_ready = ready; have_rows = rows }) placed tree
    ∙ ap (map (scope_of all source)) (take_all c.loop-number.number ss le)
