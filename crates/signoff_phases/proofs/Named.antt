-- The files of a design are among its names.
use Rattle.std.proofs.Common.{◌≡◌, sym, subst, refl, lit<, arith, ℕ, List, ◌∷◌, ◌++◌}
use Rattle.std.proofs.lemmas.List.Elements.{Contains-append_left, Contains-append_right}
use Rattle.std.specs.Option.{option_to_list}
use Rattle.std.specs.Prelude.{Some, Contains}
use Rattle.run_words.specs.Words.{Design, design_names}

pub netlist_among : (d : Design) (before after : List (List ℕ)) (name : List ℕ) → d.netlists ≡ before ++ name ∷ after → Contains (design_names d) name
netlist_among d before after name e =
    Contains-append_left d.netlists (option_to_list d.sdf) name (subst (λ ns. Contains ns name) (sym e) (Contains-append_right before (name ∷ after) name (0, omega arith, refl)))

pub sdf_among : (d : Design) (name : List ℕ) → d.sdf ≡ Some name → Contains (design_names d) name
sdf_among d name e = Contains-append_right d.netlists (option_to_list d.sdf) name (subst (λ o. Contains (option_to_list o) name) (sym e) (0, lit< tt, refl))
