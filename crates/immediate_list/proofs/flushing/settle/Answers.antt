use Rattle.std.proofs.Common.{◌<◌, ◌∙◌, sym, subst}
use Rattle.std.specs.Vec.{vec_capacity}
use Rattle.std.proofs.lemmas.List.{get_or-set_same, length-set}
use Rattle.immediate_list.specs.declared.standings.Standing.TheVariants.{OnAgenda}
use Rattle.immediate_list.proofs.TableLaws.{immediate-settled}
use Rattle.immediate_list.proofs.flushing.settle.Goals as goal

pub returns-clause-is : goal.returns-clause-is
returns-clause-is g c =
    (immediate-settled c.args.time c.release.new.front.standings.items c.release.new.front.drivers.items (vec_capacity c.release.new.front.drivers) (g.A.Agenda.spare c.release.new.agenda) (g.A.Agenda.lists c.release.new.agenda) c.args.driver
    c.release.ensures.is (subst (λ n. c.args.driver < n) (sym c.release.ensures.many) c.requires.driver) c.release.ensures.free).0

pub returns-clause-lists : goal.returns-clause-lists
returns-clause-lists g c =
    (immediate-settled c.args.time c.release.new.front.standings.items c.release.new.front.drivers.items (vec_capacity c.release.new.front.drivers) (g.A.Agenda.spare c.release.new.agenda) (g.A.Agenda.lists c.release.new.agenda) c.args.driver
    c.release.ensures.is (subst (λ n. c.args.driver < n) (sym c.release.ensures.many) c.requires.driver) c.release.ensures.free).1 ∙ c.release.ensures.lists

pub returns-clause-settled : goal.returns-clause-settled
returns-clause-settled g c = get_or-set_same c.release.new.front.standings.items c.args.driver OnAgenda OnAgenda (subst (λ n. c.args.driver < n) (sym c.release.ensures.many) c.requires.driver)

pub returns-clause-many : goal.returns-clause-many
returns-clause-many g c = length-set c.release.new.front.standings.items c.args.driver OnAgenda ∙ c.release.ensures.many
