use Rattle.std.proofs.Common.{◌<◌, ◌∙◌, refl, sym, ap, subst, length}
use Rattle.std.proofs.lemmas.List.{get_or_default, length_push}
use Rattle.immediate_list.specs.declared.standings.Standing.TheVariants.{OnAgenda}
use Rattle.immediate_list.specs.Standings.{AreListed}
use Rattle.immediate_list.proofs.ListedLaws.{unlisted, listed_value}
use Rattle.immediate_list.proofs.standings.unlist.Goals as goal

pub index-requires : goal.index-requires
index-requires c =
    let step = unlisted c.args.front.now.standings.items c.pop.new.self.items c.in_ok-driver.driver c.args.after c.requires.after (subst (λ ds. AreListed c.args.front.now.standings.items ds) c.in_ok-driver.ensures.items c.requires.listed) in
    subst (λ n. c.in_ok-driver.driver < n) (sym c.args.front.now.standings.ok.0) step.0

pub unreachable-requires : goal.unreachable-requires
unreachable-requires c =
    let step = unlisted c.args.front.now.standings.items c.pop.new.self.items c.in_ok-driver.driver c.args.after c.requires.after (subst (λ ds. AreListed c.args.front.now.standings.items ds) c.in_ok-driver.ensures.items c.requires.listed) in
    let value = listed_value c.args.front.now.standings.items c.in_ok-driver.driver step.1 in
    c.in_default.not-Listed value.0 (c.index.ensures ∙ (get_or_default c.args.front.now.standings.items c.in_ok-driver.driver _ OnAgenda step.0 ∙ value.1))

pub index_mut-requires : goal.index_mut-requires
index_mut-requires c =
    let step = unlisted c.args.front.now.standings.items c.pop.new.self.items c.in_ok-driver.driver c.args.after c.requires.after (subst (λ ds. AreListed c.args.front.now.standings.items ds) c.in_ok-driver.ensures.items c.requires.listed) in
    subst (λ n. c.in_ok-driver.driver < n) (sym c.args.front.now.standings.ok.0) step.0

pub returns-clause-some : goal.returns-clause-some
returns-clause-some c =
    let step = unlisted c.args.front.now.standings.items c.pop.new.self.items c.in_ok-driver.driver c.args.after c.requires.after (subst (λ ds. AreListed c.args.front.now.standings.items ds) c.in_ok-driver.ensures.items c.requires.listed) in
    record {
      driver = step.0;
      was = get_or_default c.args.front.now.standings.items c.in_ok-driver.driver OnAgenda _ step.0 ∙ (sym c.index.ensures ∙ c.in-Listed.is);
      standings = refl;
      fewer = sym (ap length c.in_ok-driver.ensures.items ∙ length_push c.pop.new.self.items c.in_ok-driver.driver);
    }

pub returns-clause-listed : goal.returns-clause-listed
returns-clause-listed c = (unlisted c.args.front.now.standings.items c.pop.new.self.items c.in_ok-driver.driver c.args.after c.requires.after (subst (λ ds. AreListed c.args.front.now.standings.items ds) c.in_ok-driver.ensures.items c.requires.listed)).2
