-- The nets of an instance's own are those of the bits that are given none.
use Rattle.std.specs.Prelude.{◌≡◌, ℕ, List, [], ◌∷◌, map, flat_map, refl}
use Rattle.std.proofs.Common.{◌∙◌, ap, inl, inr}
use Rattle.vl_tree.specs.Tree.{Source}
use Rattle.elab_model.specs.Hierarchy.{Instance}
use Rattle.elab_model.specs.Names.{Variable, variables}
use Rattle.elab_model.specs.Nets.{OwnNet, variable_nets}
use Rattle.elab_laws.specs.Handing.{all_bits, given_at}
use Rattle.elab_laws.proofs.Handed.{Rises, one-bit, owned_at, variable_nets-bits}
use Rattle.elab_nets.specs.Own.{net_at, new_nets}
use Rattle.elab_model.specs.Numbered.{undriven}

nets-of_bits : (all : List OwnNet) (source : Source) (s : Instance) → Rises s → (bs : List (Variable × ℕ)) → map undriven (flat_map (owned_at source s) bs) ≡ new_nets s.step.number bs (map (given_at all source s) bs)
nets-of_bits all source s rises [] = refl
nets-of_bits all source s rises (b ∷ bs) =
    elim (one-bit all source s.step s.above b.0 b.1 rises) [
      | inl r ↦ rw (r.none, r.owned) (ap (λ xs. net_at s.step.number b ∷ xs) (nets-of_bits all source s rises bs))
      | inr r ↦ rw (r.some, r.not_owned) (nets-of_bits all source s rises bs)
    ]

pub own-nets : (all : List OwnNet) (source : Source) (s : Instance) → Rises s
    → map undriven (variable_nets source s) ≡ new_nets s.step.number (all_bits (variables s.step.definition)) (map (given_at all source s) (all_bits (variables s.step.definition)))
own-nets all source s rises = ap (map undriven) (variable_nets-bits source s (variables s.step.definition)) ∙ nets-of_bits all source s rises (all_bits (variables s.step.definition))
