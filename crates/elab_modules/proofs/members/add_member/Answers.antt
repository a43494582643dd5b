-- The delays that are written of a gate or a primitive are the member's.
use Rattle.std.proofs.Common.{◌≤◌, ap, option_map, sym, subst}
use Rattle.std.proofs.lemmas.Result.{IfOk-weaker}
use Rattle.vl_tree.specs.Seen.{view_delay}
use Rattle.elab_model.specs.TerminalFaults.{delay_faults}
use Rattle.elab_model.proofs.TerminalLaws.{three-at-most}
use Rattle.elab_variables.specs.Seen.{view_member}
use Rattle.elab_modules.specs.Ready.{member_delays}
use Rattle.elab_modules.specs.Telling.{Tells, StandsFor, delay_of, most_of}
use Rattle.elab_modules.proofs.members.add_member.Goals as goal

pub add_delays-requires-clause-most : goal.add_delays-requires-clause-most
add_delays-requires-clause-most c = subst (λ n. n ≤ 3) (sym c.most_delays-most.ensures) (three-at-most c.in-Gate.kind)

pub returns-in-Gate-clause-told : goal.returns-in-Gate-clause-told
returns-in-Gate-clause-told c = λ m p.
    subst (λ x. Tells (delay_faults (most_of (view_member x)) c.args.corner c.args.tick.power m (delay_of (view_member x))) c.add_delays.result) (sym c.in-Gate.is)
    (subst (λ n. Tells (delay_faults n c.args.corner c.args.tick.power m (option_map view_delay c.in-Gate.delay.now)) c.add_delays.result) c.most_delays-most.ensures
    (c.add_delays.ensures.told m (ap (λ m. m.settings.scale) (sym p.definition))))

pub returns-in-Gate-clause-place : goal.returns-in-Gate-clause-place
returns-in-Gate-clause-place c =
    IfOk-weaker c.add_delays.result _ _
    (λ i h m p.
    subst (λ x. StandsFor c.add_delays.new.table.items i (member_delays c.args.corner c.args.tick.power m (view_member x))) (sym c.in-Gate.is) (h m (ap (λ m. m.settings.scale) (sym p.definition))))
    c.add_delays.ensures.place

pub returns-in-Instance-clause-told : goal.returns-in-Instance-clause-told
returns-in-Instance-clause-told c = λ m p.
    subst (λ x. Tells (delay_faults (most_of (view_member x)) c.args.corner c.args.tick.power m (delay_of (view_member x))) c.add_delays-in-Instance.result) (sym c.in-Instance.is)
    (c.add_delays-in-Instance.ensures.told m (ap (λ m. m.settings.scale) (sym p.definition)))

pub returns-in-Instance-clause-place : goal.returns-in-Instance-clause-place
returns-in-Instance-clause-place c =
    IfOk-weaker c.add_delays-in-Instance.result _ _
    (λ i h m p.
    subst (λ x. StandsFor c.add_delays-in-Instance.new.table.items i (member_delays c.args.corner c.args.tick.power m (view_member x))) (sym c.in-Instance.is)
    (h m (ap (λ m. m.settings.scale) (sym p.definition))))
    c.add_delays-in-Instance.ensures.place
