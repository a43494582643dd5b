-- All of one driver's transitions are gone, all others stay.
use Rattle.std.proofs.Common.{rules, ◌≡◌, ◌≤◌, filter}
use Rattle.std.proofs.lemmas.Fn.{filter_same}
use Rattle.std.proofs.lemmas.List.Kept.{AllPairs-filter}
use Rattle.std.proofs.Common.{subst, sym}
use Rattle.pulse_list.specs.declared.plain.Pending.{Pending}
use Rattle.pulse_list.specs.Plain.{Falls}
use Rattle.pulse_list.proofs.PairsLaws.{filtered, is_not_of}
use Rattle.pulse_list.proofs.plain.remove_all.Goals as goal

pub returns-clause-pairs : goal.returns-clause-pairs
returns-clause-pairs c =
    let kept : c.retain.new.self.items ≡ filter (is_not_of c.args.driver) c.args.pending.now.items = filter_same _ _ _ (λ x b f' k. search rules) _ _ c.retain.ensures.filtered in
    rw kept (filtered c.args.pending.now.items c.args.driver)

pub returns-clause-falls : goal.returns-clause-falls
returns-clause-falls c =
    let kept : c.retain.new.self.items ≡ filter (is_not_of c.args.driver) c.args.pending.now.items = filter_same _ _ _ (λ x b f' k. search rules) _ _ c.retain.ensures.filtered in
    subst Falls (sym kept) (AllPairs-filter (λ (p q : Pending). q.time ≤ p.time) (is_not_of c.args.driver) c.args.pending.now.items c.requires.falls)
