-- What the name defines stands at its place.
use Rattle.std.proofs.Common.{◌∙◌, sym, ap}
use Rattle.vl_tree.specs.Seen.{view_part}
use Rattle.elab_model.specs.Definitions.{as_module}
use Rattle.elab_hierarchy.proofs.Found.{place-below, module-found, primitive-found, nothing-found}
use Rattle.elab_hierarchy.proofs.definitions.Definitions.module.Goals as goal

pub part-requires : goal.part-requires
part-requires c = place-below c.args.self.now c.args.name.now c.in-Some.place (sym c.find.ensures ∙ c.in-Some.is)

pub returns-in-Module-clause-found : goal.returns-in-Module-clause-found
returns-in-Module-clause-found c =
    module-found c.args.self.now c.args.name.now c.in-Some.place _ _ (sym c.find.ensures ∙ c.in-Some.is) c.part.ensures (ap view_part c.in-Module.is)

pub returns-in-Primitive-clause-none : goal.returns-in-Primitive-clause-none
returns-in-Primitive-clause-none c =
    primitive-found c.args.self.now c.args.name.now c.in-Some.place _ (sym c.find.ensures ∙ c.in-Some.is) c.part.ensures (ap (λ p. as_module (view_part p)) c.in-Primitive.is)

pub returns-in-None-clause-none : goal.returns-in-None-clause-none
returns-in-None-clause-none c = nothing-found c.args.self.now c.args.name.now (sym c.find.ensures ∙ c.in-None.is)
