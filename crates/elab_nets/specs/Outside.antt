-- What lies outside the bits of an instance, as numbers.
use Rattle.std.specs.Prelude.{◌≡◌, ℕ, List, [], ◌∷◌, ◌++◌, Bool, Option, Some, None, length, if◌then◌else◌}
use Rattle.std.specs.List.{range_with_len}
use Rattle.vl_tree.specs.Tree.{Source}
use Rattle.vl_tree.specs.Seen.{view_instance}
use Rattle.vl_tree.specs.declared.items.Instance as code
use Rattle.elab_model.specs.Elements.{bound_above, leg_source}
use Rattle.elab_model.specs.Hierarchy.{Step, Instance, has_no_child}
use Rattle.elab_model.specs.Homes.{has_leg, home}
use Rattle.elab_model.specs.Names.{Variable}
use Rattle.elab_model.specs.Nets.{OwnNet, unbound_nets, constant_nets, number_of}
use Rattle.elab_laws.specs.Handing.{given_by}
use Rattle.elab_laws.specs.NumberLaws.{numbers_in}
use Rattle.elab_ports.specs.Bound.{AreConnected}
use Rattle.elab_modules.specs.declared.prepared.Prepared.{Prepared}
use Rattle.elab_modules.specs.Ready.{IsPrepared}
use Rattle.elab_nets.specs.Numbers.{HasNumbers}

-- the number of the net that lies outside a bit of an instance: what a Leg reads, and else the parent's net that the bit is bound to, if it is bound to one
abbrev pub outer_number : List OwnNet → Source → Step → List Step → Variable × ℕ → Option ℕ
outer_number all source s [] b = None
outer_number all source s (parent ∷ above) b =
    if has_leg source s b.0.name
    then Some (number_of all (leg_source source s (parent ∷ above) b.0.name b.1 (bound_above s (parent ∷ above) b.0.name b.1)))
    else given_by (λ m q. number_of all (home source parent above m q)) (bound_above s (parent ∷ above) b.0.name b.1)

-- the nets that lie outside an instance and are none of the parent's variables
abbrev pub outside_nets : Source → Instance → Instance → List OwnNet
outside_nets source s c = unbound_nets source s c ++ constant_nets source s c

-- an instance in another, with the texts, tables and numbers that the code has of them; the nets outside it have the numbers from `next` on
pub record IsChild (all : List OwnNet) (source : Source) (s c : Instance) (table : List Variable) (row : List ℕ) (child : Prepared) (text : code.Instance) (leaf : Bool) (scope next : ℕ) : Type 0 where
  pub numbers : HasNumbers all source s table row
  pub above : c.above ≡ s.step ∷ s.above
  pub prepared : IsPrepared child c.step.definition
  pub connections : c.step.connections ≡ (view_instance text).connections
  pub connected : AreConnected table c.step.definition (view_instance text).place (view_instance text).connections
  pub is_leaf : has_no_child source c.step ≡ leaf
  pub number : s.step.number ≡ scope
  pub outside : numbers_in all (outside_nets source s c) ≡ range_with_len next (length (outside_nets source s c))
