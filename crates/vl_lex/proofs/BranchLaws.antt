-- Branches, the innermost first or last.
use Rattle.std.proofs.Common.{◌≡◌, ℕ, zero, suc, ◌-◌, List, [], ◌∷◌, ◌++◌, length, take, refl, sym, ap, ◌∙◌, arith}
use Rattle.std.specs.Prelude.{reverse}
use Rattle.std.proofs.lemmas.List.{reverse-append}
use Rattle.vl_lex.specs.Directives.{outer}
use Rattle.vl_lex.specs.declared.branches.Branch.{Branch}

outer_more : (x : Branch) (xs ys : List Branch) → outer ((x ∷ xs) ++ ys) ≡ outer (x ∷ xs) ++ ys
outer_more x xs ys = refl

outer_behind : (bs : List Branch) (x y : Branch) → outer ((bs ++ x ∷ []) ++ y ∷ []) ≡ outer (bs ++ x ∷ []) ++ y ∷ []
outer_behind [] x y = refl
outer_behind (b ∷ bs) x y = refl

snoc : (b : Branch) (bs : List Branch) → reverse (b ∷ bs) ≡ reverse bs ++ b ∷ []
snoc b bs = reverse-append (b ∷ []) bs

-- all but the last one
pub outer_reverse : (bs : List Branch) (n : ℕ) → n ≡ length bs - 1 → reverse (take n bs) ≡ outer (reverse bs)
outer_reverse [] zero e = refl
outer_reverse [] (suc n) e = refl
outer_reverse (b ∷ bs) zero e = one bs (omega arith)
  where
    one : (bs : List Branch) → length bs ≡ 0 → reverse {A = Branch} [] ≡ outer (reverse (b ∷ bs))
    one [] h = refl
    one (c ∷ cs) h = absurd (omega arith)
outer_reverse (b ∷ []) (suc n) e = absurd (omega arith)
outer_reverse (b ∷ c ∷ cs) (suc n) e =
    let last : outer (reverse (c ∷ cs)) ++ b ∷ [] ≡ outer (reverse (b ∷ c ∷ cs)) = rw (snoc b (c ∷ cs), snoc c cs) (sym (outer_behind (reverse cs) c b)) in
    snoc b (take n (c ∷ cs)) ∙ ap (λ l. l ++ b ∷ []) (outer_reverse (c ∷ cs) n (omega arith)) ∙ last
