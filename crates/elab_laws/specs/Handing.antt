-- The numbers of the nets of an instance's bits, from those of its parent's.
use Rattle.std.specs.Prelude.{◌≡◌, length, ℕ, suc, List, [], ◌∷◌, Option, Some, None, map, flat_map}
use Rattle.elab_model.specs.Bits.{Bit, net, constant, positions}
use Rattle.elab_model.specs.Hierarchy.{Step, Instance}
use Rattle.elab_model.specs.Homes.{home, home_of, same_above}
use Rattle.elab_model.specs.Names.{Variable, variables}
use Rattle.elab_model.specs.Nets.{OwnNet, number_of, nets, variable_nets}
use Rattle.vl_tree.specs.Tree.{Module, Source}

-- the bits of variables, in order
abbrev pub variable_bits : Variable → List (Variable × ℕ)
variable_bits v = map (λ p. (v, p)) (positions v.range)

abbrev pub all_bits : List Variable → List (Variable × ℕ)
all_bits vs = flat_map variable_bits vs

-- each bit takes the number that it is given, or the next that is free
abbrev pub numbered : ℕ → List (Option ℕ) → List ℕ
numbered next [] = []
numbered next (None ∷ os) = next ∷ numbered (suc next) os
numbered next (Some k ∷ os) = k ∷ numbered next os

-- how many take a new one
abbrev pub new_count : List (Option ℕ) → ℕ
new_count [] = 0
new_count (None ∷ os) = suc (new_count os)
new_count (Some k ∷ os) = new_count os

-- the number of the parent's net that a bit is, if it is one
abbrev pub given_by : (List ℕ → ℕ → ℕ) → Option Bit → Option ℕ
given_by number None = None
given_by number (Some (net m q)) = Some (number m q)
given_by number (Some (constant at v)) = None

abbrev pub given : List OwnNet → Source → Step → List Step → List ℕ → ℕ → Option ℕ
given os source s [] n p = None
given os source s (parent ∷ above) n p = given_by (λ m q. number_of os (home source parent above m q)) (same_above source s parent n p)

-- the same of a bit of a variable of an instance, and the number of its net
abbrev pub given_at : List OwnNet → Source → Instance → Variable × ℕ → Option ℕ
given_at os source s b = given os source s.step s.above b.0.name b.1

abbrev pub number_at : List OwnNet → Source → Instance → Variable × ℕ → ℕ
number_at os source s b = number_of os (home_of source s b.0.name b.1)

-- the numbers of an instance's bits, where these instances come before it
pub record IsHandedDown (source : Source) (top : Module) (s : Instance) (next : ℕ) : Type 0 where
  pub numbers : map (number_at (nets source top) source s) (all_bits (variables s.step.definition)) ≡ numbered next (map (given_at (nets source top) source s) (all_bits (variables s.step.definition)))
  pub count : new_count (map (given_at (nets source top) source s) (all_bits (variables s.step.definition))) ≡ length (variable_nets source s)
