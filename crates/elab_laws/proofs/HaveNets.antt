-- Elements all of whose nets are there.
use Rattle.std.specs.Prelude.{List, flat_map}
use Rattle.std.specs.List.{AllByRecursion}
use Rattle.vl_tree.specs.Tree.{Module, Source}
use Rattle.elab_model.specs.Elements.{Component}
use Rattle.elab_model.specs.Nets.{nets}
use Rattle.elab_laws.proofs.Lists.{In, all-flat_in, all-from}
use Rattle.elab_laws.specs.ElementLaws.{HasNets}

-- what these elements drive and read are nets
abbrev pub HaveNets : Source → Module → List Component → Type 0
HaveNets source top es = AllByRecursion (HasNets (nets source top)) es

-- over what comes of each element of a list
pub all-flat_from : {A B : Type 0} (P : B → Type 0) (f : A → List B) (xs : List A) → ((x : A) → In x xs → AllByRecursion P (f x)) → AllByRecursion P (flat_map f xs)
all-flat_from P f xs h = all-flat_in P f xs (all-from (λ x. AllByRecursion P (f x)) xs h)
