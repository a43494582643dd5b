-- The names stand as the definitions do.
use Rattle.std.proofs.Common.{◌∙◌, ap}
use Rattle.elab_hierarchy.specs.Named.{place_of}
use Rattle.elab_hierarchy.proofs.Found.{place-named}
use Rattle.elab_hierarchy.proofs.definitions.Definitions.find.Goals as goal

pub returns : goal.returns
returns c = c.get_index_of.ensures.index ∙ place-named c.args.name.now c.self.inside.names.keys _ c.self.invariant ∙ ap (λ s. place_of s c.args.name.now) c.self.view_is
