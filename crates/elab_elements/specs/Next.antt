-- Where the instances in an instance stand, member by member.
use Rattle.std.specs.Prelude.{◌≡◌, ℕ, zero, suc, ◌<◌, List, [], ◌∷◌, ◌++◌, drop, filter_map}
use Rattle.std.specs.List.{AllByRecursion, enumerate_from}
use Rattle.vl_tree.specs.Tree.{Source}
use Rattle.elab_model.specs.Hierarchy.{Instance, child_of_member, children_from, children}
use Rattle.elab_model.specs.Members.{Member, members}

-- the instances that these members are, from a member's number on, of which the first has the number next
abbrev pub children_of : Source → ℕ → Instance → ℕ → ℕ → List Member → List Instance
children_of source zero s next k ms = []
children_of source (suc levels) s next k ms = children_from source levels (s.step ∷ s.above) next (filter_map (λ i. child_of_member source i.0 i.1) (enumerate_from k ms))

-- the instance of the member k, or else that of the first member behind it that is one, has the number next
pub record IsNext (source : Source) (s : Instance) (k next : ℕ) : Type 0 where
  pub before : List Instance
  pub earlier : AllByRecursion (λ c. c.step.member < k) before
  pub rest : children source s ≡ before ++ children_of source s.step.levels s next k (drop k (members s.step.definition))
