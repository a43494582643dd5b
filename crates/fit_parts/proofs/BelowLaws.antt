-- What is below the top.
use Rattle.std.specs.Prelude.{◌≡◌, ℕ, Bool, true, List, All}
use Rattle.std.proofs.Common.{◌∙◌, ap, sym, subst}
use Rattle.vl_tree.specs.Tree.{Part, Source}
use Rattle.fit_parts.specs.Below.{IsBelow, IsClosedBelow, has_instances, is_top}
use Rattle.fit_parts.specs.Trees.{name_of, used_by}

-- a set that holds the top, and with each part what that uses, holds all of it
pub below-held : (below : List ℕ → Bool) (tree : Source) (top n : List ℕ) → IsClosedBelow below tree → below top ≡ true → IsBelow tree top n → below n ≡ true
below-held below tree top n closed held (is_top m e) = ap below e ∙ held
below-held below tree top n closed held (has_instances p m b among used) =
    let h : below (name_of p) ≡ true = below-held below tree top (name_of p) closed held b in
    let c = subst (λ (q : Part). below (name_of q) ≡ true → All (λ m. below m ≡ true) (used_by q)) among.2 (closed among.0 p among.1) in
    subst (λ (m : List ℕ). below m ≡ true) used.2 (c h used.0 m used.1)
