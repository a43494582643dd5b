-- Whether the nets of a chain are below a number, part by part.
use Rattle.std.proofs.Common.{◌≡◌, ◌∙◌, sym, rules, ap, subst, ℕ, ◌+◌, ◌<◌, List, length, map, get_or, Box, Vec, Global}
use Rattle.std.specs.Prelude.{◌↔◌, Bool, true, false, IsTrue}
use Rattle.cond_expr.specs.declared.tokens.Op.{Op}
use Rattle.cond_expr.specs.declared.tree.Node.{Node}
use Rattle.cond_expr.specs.declared.tree.Node.TheVariants.{Chain}
use Rattle.cond_expr.specs.Tree.{Cond, binary, chain_of, view}
use Rattle.cond_expr.specs.Values.{AreBelow}
use Rattle.cond_expr.specs.Begun.{view_part}
use Rattle.cond_expr.proofs.Views.{view_chain}
use Rattle.cond_expr.proofs.Chains.{front, front_more, front_all}
use Rattle.cond_expr.proofs.Below.{part_below}

-- a condition is some first one with these parts behind it, and up to the part k its nets are below the number
pub record IsBelowUpTo (n : ℕ) (whole : Cond ℕ) (xs : List (Op × Node ℕ)) (k : ℕ) : Type 0 where
  pub first : Cond ℕ
  pub whole_is : whole ≡ chain_of first (map view_part xs)
  pub are : AreBelow n (front first xs k)

pub below_at_first : (n : ℕ) (node first' : Node ℕ) (first : Box (Node ℕ) Global) (rest : Vec (Op × Node ℕ) Global) (xs : List (Op × Node ℕ)) → node ≡ Chain first rest → first' ≡ first.value → xs ≡ rest.items → AreBelow n (view first') → IsBelowUpTo n (view node) xs 0
below_at_first n node first' first rest xs is same items h = record {
  first = view first.value;
  whole_is = ap view is ∙ view_chain first rest ∙ ap (λ ys. chain_of (view first.value) (map view_part ys)) (sym items);
  are = subst (λ k. AreBelow n (view k)) same h;
}

pub below_more : (n : ℕ) (whole : Cond ℕ) (xs : List (Op × Node ℕ)) (k : ℕ) (x : Op × Node ℕ) → IsBelowUpTo n whole xs k → k < length xs → x ≡ get_or xs k x → AreBelow n (view x.1) → IsBelowUpTo n whole xs (k + 1)
below_more n whole xs k x h below at part =
    let both : AreBelow n (binary (get_or xs k x).0 (front h.first xs k) (view (get_or xs k x).1)) = (h.are, subst (λ (y : Op × Node ℕ). AreBelow n (view y.1)) at part) in
    record { first = h.first; whole_is = h.whole_is; are = subst (AreBelow n) (sym (front_more h.first xs k x below)) both }

pub below_at_end : (n : ℕ) (whole : Cond ℕ) (xs : List (Op × Node ℕ)) (k : ℕ) → IsBelowUpTo n whole xs k → k ≡ length xs → AreBelow n whole
below_at_end n whole xs k h e = subst (AreBelow n) (ap (front h.first xs) e ∙ front_all h.first xs ∙ sym h.whole_is) h.are

-- a whole that is below has each part below
pub part_of_below : (n : ℕ) (whole : Cond ℕ) (xs : List (Op × Node ℕ)) (k : ℕ) (x : Op × Node ℕ) → IsBelowUpTo n whole xs k → k < length xs → x ≡ get_or xs k x → AreBelow n whole → AreBelow n (view x.1)
part_of_below n whole xs k x h below at are =
    subst (λ (y : Op × Node ℕ). AreBelow n (view y.1)) (sym at) (part_below n h.first xs k x (subst (AreBelow n) h.whole_is are) below)

-- what a false test says of what implies it
pub not_all : (b : Bool) (P Q : Type 0) → (IsTrue b ↔ P) → b ≡ false → (Q → P) → IsTrue false ↔ Q
not_all b P Q h e f = ((λ t. absurd cc), (λ q. (let t : IsTrue b = h.1 (f q) in cc)))

pub all_are : (Q : Type 0) → Q → IsTrue true ↔ Q
all_are Q q = ((λ _. q), (λ _. search rules))
