use Rattle.std.proofs.Common.{◌≡◌, ◌<◌, ◌∙◌, length, sym, ap, subst, arith}
use Rattle.immediate_list.specs.declared.standings.Standing.TheVariants.{OnAgenda}
use Rattle.immediate_list.specs.Standings.{is_listed, AreListed}
use Rattle.immediate_list.proofs.ListedLaws.{none_listed}
use Rattle.std.proofs.lemmas.List.{get_or_default}
use Rattle.immediate_list.proofs.flushing.release.Goals as goal

pub returns-then-is_listed-clause-lists : goal.returns-then-is_listed-clause-lists
returns-then-is_listed-clause-lists g c = c.flush.ensures.lists c.args.time

pub returns-then-is_listed-clause-spare : goal.returns-then-is_listed-clause-spare
returns-then-is_listed-clause-spare g c =
    let none : length c.flush.new.front.drivers.items ≡ 0 = ap length c.flush.ensures.drivers in
    omega (arith, c.flush.ensures.spare, none)

pub returns-then-is_listed-clause-free : goal.returns-then-is_listed-clause-free
returns-then-is_listed-clause-free g c =
    none_listed c.flush.new.front.standings.items c.args.driver (subst (λ ds. AreListed c.flush.new.front.standings.items ds) c.flush.ensures.drivers c.flush.ensures.is.listed) (subst (λ n. c.args.driver < n) (sym c.flush.ensures.many) c.requires.driver)

pub returns-else-is_listed-clause-free : goal.returns-else-is_listed-clause-free
returns-else-is_listed-clause-free g c =
    ap (λ s. is_listed s) (get_or_default c.args.front.now.standings.items c.args.driver OnAgenda _ c.requires.driver ∙ sym c.index.ensures) ∙ (sym c.is_listed.ensures ∙ c.if-is_listed.false)
