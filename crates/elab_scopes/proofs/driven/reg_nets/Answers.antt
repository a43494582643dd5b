-- One instance more.
use Rattle.std.proofs.Common.{◌≤◌, ◌∙◌, ◌++◌, ap, sym, subst, refl, length}
use Rattle.std.specs.Prelude.{flat_map}
use Rattle.std.proofs.lemmas.List.{take_all}
use Rattle.elab_model.specs.Drivers.{reg_drives}
use Rattle.elab_model.specs.Hierarchy.{instances}
use Rattle.elab_model.specs.Names.{variables}
use Rattle.elab_model.specs.Nets.{nets, number_of}
use Rattle.elab_scopes.specs.Driven.{drive_numbers}
use Rattle.elab_scopes.proofs.PlacedAt.{placed-at, placed-length, own-at, below-length, stands-at}
use Rattle.elab_scopes.proofs.Steps.{flats-next}
use Rattle.elab_scopes.proofs.driven.reg_nets.Goals as goal

pub loop-number-preserved : goal.loop-number-preserved
loop-number-preserved c = λ top corner ss all read placed.
    let source = c.args.definitions.now in
    let ps = c.args.instances.now in
    let i = c.loop-number.number in
    let p = c.index-instances-number.result in
    let r = placed-at source ps ss i p c.loop-number-test.true c.index-instances-number.is placed in
    flats-next (λ d. number_of all d.spot) (λ s. flat_map (reg_drives source s) (variables s.step.definition)) c.loop-number.nets.items c.add_regs_at.new.made.items ss i r.own
    (below-length source ps ss i c.loop-number-test.true placed)
    (c.in_ok-add_regs_at.ensures source top corner ss all r.own (stands-at source top corner c.args.library.now c.args.rows.now ss all p i r read)
    ∙ ap (λ s. c.loop-number.nets.items ++ drive_numbers all (flat_map (reg_drives source s) (variables s.step.definition))) (sym (own-at source p i ss r)))
    (c.loop-number.invariant top corner ss all read placed)

pub returns : goal.returns
returns c = λ top corner placed ready rows.
    let source = c.args.definitions.now in
    let ss = instances source top in
    let all = nets source top in
    let le : length ss ≤ c.loop-number.number = subst (λ n. n ≤ c.loop-number.number) (placed-length source c.args.instances.now ss placed) c.loop-number-test.false in
    c.loop-number.invariant top corner ss all (record { are_instances = refl; are_nets = refl; is_ready = ready; have_rows = rows }) placed
    ∙ ap (λ xs. drive_numbers all (flat_map (λ s. flat_map (reg_drives source s) (variables s.step.definition)) xs)) (take_all c.loop-number.number ss le)
