-- The two cases of the rule.
use Rattle.std.proofs.Common.{◌≡◌, ℕ, Option, Some, None, ap, ◌∙◌, sym, reverse, []}
use Rattle.std.specs.Option.{IsSomeAnd}
use Rattle.std.proofs.lemmas.List.{set-get_or}
use Rattle.sg_logic.specs.declared.values.Value.{Value}
use Rattle.sg_model.proofs.AgendaLaws.{EndsWith, inertial-other, inertial-same, then_list}
use Rattle.sg_model.specs.Agenda.{list_at, with_list}
use Rattle.sg_model.specs.Pending.{put}
use Rattle.pulse_list.proofs.placing.place_inertial.Goals as goal

ends : (o : Option (ℕ × Value)) (v : Value) → IsSomeAnd o (λ p. p.1 ≡ v) → EndsWith o v
ends None v h = h
ends (Some p) v h = h

is_ended : (o : Option (ℕ × Value)) (v : Value) → EndsWith o v → IsSomeAnd o (λ p. p.1 ≡ v)
is_ended None v h = h
is_ended (Some p) v h = h

pub returns-clause-lists : goal.returns-clause-lists
returns-clause-lists g c =
    let table = g.A.Agenda.lists c.args.agenda.now in
    then_list table (g.A.Agenda.lists c.clear.new.self) _ c.args.driver [] (λ b. reverse (put (reverse b) c.args.present c.args.time c.args.value)) c.requires.driver c.clear.ensures.lists c.put_last.ensures.lists
    ∙ ap (λ b. with_list table c.args.driver b) (sym (inertial-other (list_at table c.args.driver) c.args.present c.args.value c.args.time (λ e. c.if-ends_with.ensures.no (is_ended _ c.args.value e))))

pub returns-then-ends_with-clause-lists : goal.returns-then-ends_with-clause-lists
returns-then-ends_with-clause-lists g c =
    let table = g.A.Agenda.lists c.args.agenda.now in
    sym (ap (λ b. with_list table c.args.driver b) (inertial-same (list_at table c.args.driver) c.args.present c.args.value c.args.time (ends _ c.args.value c.if-ends_with.ensures.yes)) ∙ set-get_or table c.args.driver [])
