-- What placing the instances below one adds to the list, and what refuses it.
use Rattle.std.specs.Prelude.{◌≡◌, ◌⊎◌, ℕ, zero, suc, ◌+◌, ◌<◌, ◌≤◌, ◌==◌, ◌^◌, List, [], ◌∷◌, ◌++◌, true, false, flat_map, length, bytes_eq}
use Rattle.std.specs.Global.{Vec}
use Rattle.std.specs.List.{IsAmong, list_any}
use Rattle.sg_text.specs.declared.places.Place.{Place}
use Rattle.sg_text.specs.declared.refusals.Refused.{Refused}
use Rattle.sg_text.specs.declared.refusals.Refused.TheVariants as refused
use Rattle.vl_tree.specs.Tree.{by_order, Module, Source}
use Rattle.elab_model.specs.declared.kinds.ElabKind.{ElabKind}
use Rattle.elab_model.specs.declared.kinds.ElabKind.TheVariants.{SelfInstance, TooDeep, TooMany}
use Rattle.elab_model.specs.Faults.{fault}
use Rattle.elab_model.specs.Hierarchy.{Step, Instance, children_at, instances_from}
use Rattle.elab_model.specs.HierarchyFaults.{has_round, self_instances, past_limit, first_too_deep, count_limit}
use Rattle.elab_hierarchy.specs.Children.{IsTree}
use Rattle.elab_hierarchy.specs.Placing.{ArePlaced}
use Rattle.elab_hierarchy.specs.Tops.{StandsAt}
use Rattle.elab_hierarchy.specs.declared.children.Child.{Child}
use Rattle.elab_hierarchy.specs.declared.instances.Placed.{Placed}

-- the instances below one that has so many levels below it
abbrev pub below : Source → ℕ → Instance → List Instance
below source zero s = []
below source (suc levels) s = flat_map (instances_from source levels) (children_at source (suc levels) s)

-- a top with so many levels below it
abbrev pub top_with : ℕ → Module → Instance
top_with levels m = record {
  step = record { definition = m; name = m.name.text; place = m.name.place; member = 0; connections = by_order []; number = 0; levels = levels };
  above = [];
}

-- a definition is in the chain where a step has its name
abbrev pub IsChain : Source → List ℕ → List Step → Type 0
IsChain source chain steps = (i : ℕ) (m : Module) → StandsAt source i m → list_any (λ k. k == i) chain ≡ list_any (λ t. bytes_eq m.name.text t.definition.name.text) steps

-- the code is at this instance, the last of so many; it lies in no round
pub record IsAt (source : Source) (all : List (Vec Child)) (levels definition number : ℕ) (chain : List ℕ) (count : ℕ) (s : Instance) : Type 0 where
  pub tree : IsTree source all
  pub stands : StandsAt source definition s.step.definition
  pub numbered : s.step.number ≡ number
  pub leveled : s.step.levels ≡ levels
  pub chained : IsChain source chain (s.step ∷ s.above)
  pub no_round : has_round (s.step ∷ s.above) ≡ false
  pub last : count ≡ suc number

-- no instance in one of these closes a round, or is past the limit
abbrev pub AreFaultless : Source → List Instance → Type 0
AreFaultless source ss = (flat_map (self_instances source) ss ≡ []) × (flat_map (past_limit source) ss ≡ [])

pub record Grown (source : Source) (levels : ℕ) (s : Instance) (old new : List Placed) : Type 0 where
  pub added : List Placed
  pub grown : new ≡ old ++ added
  pub placed : ArePlaced source added (below source levels s)
  pub faultless : AreFaultless source (instances_from source levels s)

-- the first instance past the limit of levels lies in this one, before which these stand
abbrev pub IsTooDeep : Source → List Instance → Instance → ElabKind → Place → Type 0
IsTooDeep source before at kind place = (flat_map (past_limit source) before ≡ []) × IsAmong (first_too_deep (past_limit source at)) (fault kind place)

-- of these instances, the first of which has the number, one has an instance that closes a round or the first one past the limit of levels, or is the first past the count
pub record BreaksAt (source : Source) (number : ℕ) (list : List Instance) (kind : ElabKind) (place : Place) : Type 0 where
  pub before : List Instance
  pub at : Instance
  pub after : List Instance
  pub cut : list ≡ before ++ at ∷ after
  pub fails : IsAmong (self_instances source at) (fault kind place)
      ⊎ (IsTooDeep source before at kind place ⊎ ((number + length before ≡ count_limit) × (kind ≡ TooMany) × (place ≡ at.step.place)))

abbrev pub Breaks : Source → ℕ → List Instance → Refused ElabKind → Type 0
Breaks source number list (refused.Fault kind place) = BreaksAt source number list kind place
Breaks source number list refused.NoMemory = Unit {0}

-- an instance may be placed next
pub record Passes (levels definition : ℕ) (chain : List ℕ) (count : ℕ) : Type 0 where
  pub other : list_any (λ k. k == definition) chain ≡ false
  pub level : 0 < levels
  pub room : count < 2 ^ 22

-- why it may not
abbrev pub Reason : ℕ → ℕ → List ℕ → ℕ → ElabKind → Type 0
Reason levels definition chain count kind =
    ((list_any (λ k. k == definition) chain ≡ true) × (kind ≡ SelfInstance)) ⊎ (((levels ≡ 0) × (kind ≡ TooDeep)) ⊎ ((0 < levels) × (2 ^ 22 ≤ count) × (kind ≡ TooMany)))

abbrev pub RefusesChild : ℕ → Child → List ℕ → ℕ → Refused ElabKind → Type 0
RefusesChild levels c chain count (refused.Fault kind place) = (place ≡ c.text.now.place) × Reason levels c.definition chain count kind
RefusesChild levels c chain count refused.NoMemory = ⊥

-- an instance that ends there
abbrev pub ended : Placed → ℕ → Placed
ended p n = record { definition = p.definition; parent = p.parent; member = p.member; text = p.text; end = n }
