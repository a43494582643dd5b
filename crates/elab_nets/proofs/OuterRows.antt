-- Outer rows stay where they are while others are added.
use Rattle.std.specs.Prelude.{◌≡◌, ℕ, ◌+◌, ◌==◌, List, [], ◌∷◌, ◌++◌, true, false, Option, length, map}
use Rattle.std.proofs.Common.{sym, ◌∙◌, ap, arith, inl, inr, subst, append_assoc, length-append}
use Rattle.std.proofs.lemmas.Bool.{eq-eqb}
use Rattle.std.proofs.lemmas.List.{map-append}
use Rattle.vl_tree.specs.Tree.{Module, Source}
use Rattle.elab_model.specs.Hierarchy.{Instance, children, instances}
use Rattle.elab_laws.proofs.Lists.{In, Pairwise, all-in, all-append, in-left, in-right}
use Rattle.elab_laws.proofs.NoFaults.{all-from}
use Rattle.elab_laws.proofs.Numbers.{number}
use Rattle.elab_laws.proofs.PartsApart.{children-apart}
use Rattle.elab_nets.specs.Rows.{part_of}
use Rattle.elab_nets.specs.Turns.{AddsOutside, HasOuterRow, bits_of}
use Rattle.elab_nets.proofs.Children.{child-in}
use Rattle.elab_nets.proofs.Filters.{from-map}
use Rattle.elab_nets.proofs.Placings.{same-instance}
use Rattle.elab_nets.proofs.RowParts.{part-grown}

pub kept-outer : (source : Source) (top : Module) (old new : List (Option ℕ)) (places later : List ℕ) (cs : List Instance) (c : Instance) → AddsOutside source top old new places later cs → (In c.step.number (map number cs) → ⊥)
    → HasOuterRow source top old places c → HasOuterRow source top new later c
kept-outer source top old new places later cs c a other h =
    let l : length new ≡ length old + length a.more = ap length a.grown ∙ length-append old a.more in
    let w = h.within in
    record {
      start = h.start;
      there = a.others c.step.number other ∙ h.there;
      within = omega arith;
      outer = ap (λ xs. part_of xs h.start (length (bits_of c))) a.grown ∙ part-grown old a.more h.start (length (bits_of c)) w ∙ h.outer;
    }

across : {A : Type 0} (R : A → A → Type 0) (xs ys : List A) (x y : A) → Pairwise R (xs ++ ys) → In x xs → In y ys → R x y
across R [] ys x y h i j = absurd i
across R (z ∷ xs) ys x y h (inl e) j = subst (λ w. R w y) (sym e) (all-in (R z) y (xs ++ ys) h.0 (in-right y xs ys j))
across R (z ∷ xs) ys x y h (inr i) j = across R xs ys x y h.1 i j

-- two children of an instance have two numbers
apart : (source : Source) (top : Module) (s : Instance) → In s (instances source top) → (done cs rest : List Instance) → children source s ≡ done ++ (cs ++ rest) → (c : Instance) → In c done → In c.step.number (map number cs) → ⊥
apart source top s there done cs rest e c i j =
    let r = from-map number c.step.number cs j in
    let later = in-left r.0 cs rest r.1 in
    let inside : In c (children source s) = subst (In c) (sym e) (in-left c done (cs ++ rest) i) in
    let beside : In r.0 (children source s) = subst (In r.0) (sym e) (in-right r.0 done (cs ++ rest) later) in
    let same : c ≡ r.0 = same-instance source top c r.0 (child-in source top s c there inside) (child-in source top s r.0 there beside) (sym r.2) in
    let differ : (c.step.member == r.0.step.member) ≡ false =
    across (λ c d. (c.step.member == d.step.member) ≡ false) done (cs ++ rest) c r.0 (subst (Pairwise (λ c d. (c.step.member == d.step.member) ≡ false)) e (children-apart source s.step.levels s)) i later in
    let equal : (c.step.member == r.0.step.member) ≡ true = eq-eqb c.step.member r.0.step.member (ap (λ x. x.step.member) same) in
    let f : true ≡ false = sym equal ∙ differ in
    cc

pub both-added : (source : Source) (top : Module) (s : Instance) → In s (instances source top) → (done cs rest : List Instance) → children source s ≡ done ++ (cs ++ rest) → (old mid new : List (Option ℕ)) (places between later : List ℕ)
    → AddsOutside source top old mid places between done → AddsOutside source top mid new between later cs → AddsOutside source top old new places later (done ++ cs)
both-added source top s there done cs rest e old mid new places between later a b = record {
  more = a.more ++ b.more;
  grown = b.grown ∙ ap (λ xs. xs ++ b.more) a.grown ∙ append_assoc old a.more b.more;
  same_count = b.same_count ∙ a.same_count;
  rows = all-append (HasOuterRow source top new later) done cs
      (all-from (HasOuterRow source top new later) done
      (λ c i. kept-outer source top mid new between later cs c b (apart source top s there done cs rest e c i) (all-in (HasOuterRow source top mid between) c done a.rows i)))
      b.rows;
  others = λ j other.
      b.others j (λ i. other (subst (In j) (sym (map-append number done cs)) (in-right j (map number done) (map number cs) i)))
      ∙ a.others j (λ i. other (subst (In j) (sym (map-append number done cs)) (in-left j (map number done) (map number cs) i)));
}
