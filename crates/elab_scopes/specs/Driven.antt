-- Nets by their numbers, as a list of drives says them.
use Rattle.std.specs.Prelude.{◌≡◌, ℕ, List, ◌++◌, map, find, bytes_eq}
use Rattle.sg_text.specs.declared.places.Place.{Place}
use Rattle.vl_tree.specs.Tree.{PortDeclaration, Module}
use Rattle.elab_model.specs.Drivers.{Drive, port_place}
use Rattle.elab_model.specs.Names.{Variable}
use Rattle.elab_model.specs.Nets.{OwnNet, number_of}
use Rattle.elab_model.specs.Ports.{port_declarations}
use Rattle.elab_scopes.specs.declared.driven.DrivenNets.{DrivenNets}

abbrev pub drive_numbers : List OwnNet → List Drive → List ℕ
drive_numbers all ds = map (λ d. number_of all d.spot) ds

abbrev pub drive_places : List Drive → List Place
drive_places ds = map (λ d. d.place) ds

abbrev pub AreNumbers : List OwnNet → List Drive → List ℕ → Type 0
AreNumbers all ds numbers = numbers ≡ drive_numbers all ds

pub record AreDriven (all : List OwnNet) (ds : List Drive) (made : DrivenNets) : Type 0 where
  pub nets : AreNumbers all ds made.nets.items
  pub places : made.places.items ≡ drive_places ds

-- these are driven too
pub record AddsDriven (all : List OwnNet) (ds : List Drive) (old new : DrivenNets) : Type 0 where
  pub nets : new.nets.items ≡ old.nets.items ++ drive_numbers all ds
  pub places : new.places.items ≡ old.places.items ++ drive_places ds

abbrev pub same_place : Place → ℕ → Place
same_place p n = p

-- where a variable is first declared as a port by these, and else where `f` says
abbrev pub place_in : List PortDeclaration → (Variable → Place) → Variable → Place
place_in ds f v = port_place (find (λ d. bytes_eq v.name d.name.text) ds) (f v)

abbrev pub declared_place : Module → Variable → Place
declared_place m v = place_in (port_declarations m) (λ v. m.name.place) v
