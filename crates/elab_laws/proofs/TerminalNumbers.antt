-- The numbers of the inputs of a gate or a primitive.
use Rattle.std.specs.Prelude.{◌≡◌, ℕ, suc, ◌+◌, List, [], ◌∷◌, map, flat_map, length, refl}
use Rattle.std.specs.List.{enumerate_from, range_with_len}
use Rattle.std.proofs.Common.{◌∙◌, ap, add-one}
use Rattle.vl_tree.specs.Tree.{Source}
use Rattle.elab_model.specs.Bits.{Bit, net, constant}
use Rattle.elab_model.specs.Elements.{input_spot}
use Rattle.elab_model.specs.Hierarchy.{Instance}
use Rattle.elab_model.specs.Homes.{terminal, home_of}
use Rattle.elab_model.specs.Nets.{OwnNet, terminal_net, number_of}
use Rattle.elab_laws.specs.Given.{number_of_bit}
use Rattle.elab_laws.specs.Handing.{numbered}
use Rattle.elab_laws.specs.NumberLaws.{numbers_in, TerminalsAreNumbered}

abbrev first : ℕ → List ℕ → ℕ
first d [] = d
first d (n ∷ ns) = n

abbrev rest : List ℕ → List ℕ
rest [] = []
rest (n ∷ ns) = ns

inputs-from : (all : List OwnNet) (source : Source) (s : Instance) (k i next : ℕ) (m : List ℕ) (q : ℕ) (os bs : List Bit)
    → numbers_in all (flat_map (terminal_net s k (net m q ∷ os)) (enumerate_from i bs)) ≡ range_with_len next (length (flat_map (terminal_net s k (net m q ∷ os)) (enumerate_from i bs)))
    → map (λ i. number_of all (input_spot source s k i)) (enumerate_from i bs) ≡ numbered next (map (number_of_bit (λ n p. number_of all (home_of source s n p))) bs)
inputs-from all source s k i next m q os [] e = refl
inputs-from all source s k i next m q os (net n p ∷ bs) e = ap (λ xs. number_of all (home_of source s n p) ∷ xs) (inputs-from all source s k (i + 1) next m q os bs e)
inputs-from all source s k i next m q os (constant at v ∷ bs) e =
    let here : number_of all (terminal s.step.number k i) ≡ next = ap (first next) e in
    let others = flat_map (terminal_net s k (net m q ∷ os)) (enumerate_from (i + 1) bs) in
    let later : numbers_in all others ≡ range_with_len (suc next) (length others) = ap rest e ∙ ap (λ a. range_with_len a (length others)) (add-one next) in
    ap (λ n. n ∷ map (λ i. number_of all (input_spot source s k i)) (enumerate_from (i + 1) bs)) here ∙ ap (λ xs. next ∷ xs) (inputs-from all source s k (i + 1) (suc next) m q os bs later)

pub terminals-are_numbered : TerminalsAreNumbered
terminals-are_numbered all source s k next inputs os m q e = inputs-from all source s k 0 next m q os inputs e
