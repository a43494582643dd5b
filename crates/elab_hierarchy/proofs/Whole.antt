-- The top, and all below it; and what the code's steps come to.
use Rattle.std.specs.Prelude.{◌≡◌, ℕ, suc, ◌+◌, ◌-◌, ◌<◌, ◌≤◌, List, [], ◌∷◌, ◌++◌, Some, None, Result, Err, IfErr, length, slice_index_or, take, refl}
use Rattle.std.specs.Global.{Vec}
use Rattle.std.proofs.Common.{sym, ◌∙◌, ap, arith, subst, length-append}
use Rattle.std.proofs.Math.Seq.{take-append_seam}
use Rattle.std.proofs.lemmas.Option.{get_or_from_slice_get, slice_get_within, slice_get-get_or}
use Rattle.sg_text.specs.declared.refusals.Refused.{Refused}
use Rattle.vl_tree.specs.Tree.{Module, Source}
use Rattle.elab_laws.proofs.Lists.{all-get}
use Rattle.elab_model.specs.declared.kinds.ElabKind.{ElabKind}
use Rattle.elab_model.specs.Hierarchy.{Instance, children_in, instances_from}
use Rattle.elab_hierarchy.specs.Children.{AreChildren, AreWithin, AreAllWithin, IsTree}
use Rattle.elab_hierarchy.specs.Growing.{IsAt, Grown, ended, top_with}
use Rattle.elab_hierarchy.specs.Placing.{ArePlaced}
use Rattle.elab_hierarchy.specs.Tops.{StandsAt}
use Rattle.elab_hierarchy.specs.declared.children.Child.{Child}
use Rattle.elab_hierarchy.specs.declared.instances.Placed.{Placed}
use Rattle.elab_hierarchy.proofs.Going.{Going, longer, begun, chain-one}
use Rattle.elab_hierarchy.proofs.Sizes.{with-below}

-- the exit of a call that refuses
pub refuses : {A : Type 0} (Q : Refused ElabKind → Type 0) (result : Result A (Refused ElabKind)) (e : Refused ElabKind) → ((x : Refused ElabKind) × (result ≡ Err x) × (x ≡ e)) → Q e → IfErr result Q
refuses Q result e (x, r, s) h = rw r (subst Q (sym s) h)

-- the last of the chain leaves it
pub pop-last : (chain old new : List ℕ) (x n : ℕ) → old ≡ chain ++ x ∷ [] → n ≡ length old → new ≡ take (n - 1) old → new ≡ chain
pop-last chain old new x n e f h =
    let l : length old ≡ length chain + 1 = ap length e ∙ length-append chain (x ∷ []) in
    let k : n - 1 ≡ length chain = omega arith in
    h ∙ ap (λ m. take m old) k ∙ ap (take (length chain)) e ∙ take-append_seam chain (x ∷ [])

-- the children at a place
pub begun-at : (source : Source) (all : List (Vec Child)) (n definition number : ℕ) (chain : List ℕ) (s : Instance) (cs : List Child) (v : Vec Child) (old : List Placed)
    → IsAt source all n definition number chain (length old) s → cs ≡ v.items → v ≡ slice_index_or all definition v → Going source n s cs 0 old old
begun-at source all n definition number chain s cs v old h e is =
    let r = h.tree.each definition s.step.definition h.stands in
    let f : cs ≡ r.list.items = e ∙ ap (λ w. w.items) (is ∙ get_or_from_slice_get all definition r.list v r.there) in
    begun source n s cs old (subst (λ xs. AreChildren source xs (children_in source s.step.definition)) (sym f) r.are) (h.last ∙ ap suc (sym h.numbered)) h.no_round

-- a child's definition is one of those
pub child-within : (n : ℕ) (all : List (Vec Child)) (definition : ℕ) (v : Vec Child) (cs : List Child) (k : ℕ) (d x : Child) → AreAllWithin n all → definition < length all → v ≡ slice_index_or all definition v
    → cs ≡ v.items → k < length cs → x ≡ slice_index_or cs k d → x.definition < n
child-within n all definition v cs k d x h lt is e below at =
    let a : AreWithin n v.items = all-get (λ w. AreWithin n w.items) all definition v h (slice_get-get_or all definition v lt ∙ ap Some (sym is)) in
    all-get (λ c. c.definition < n) cs k x (subst (AreWithin n) (sym e) a) (slice_get-get_or cs k d below ∙ ap Some (sym at))

-- the code is at the top
pub at-top : (source : Source) (all : List (Vec Child)) (n top : ℕ) (chain : List ℕ) (count : ℕ) (m : Module) → IsTree source all → StandsAt source top m → chain ≡ top ∷ [] → count ≡ 1
    → IsAt source all n top 0 chain count (top_with n m)
at-top source all n top chain count m tree stands e f = record {
  tree = tree;
  stands = stands;
  numbered = refl;
  leveled = refl;
  chained = rw e (chain-one source top (top_with n m).step tree.once stands);
  no_round = refl;
  last = f;
}

abbrev pub placed_top : ℕ → Placed
placed_top top = record { definition = top; parent = None; member = 0; text = None; end = 0 }

pub top-placed : (source : Source) (n top : ℕ) (m : Module) (mid after new : List Placed) → StandsAt source top m → mid ≡ placed_top top ∷ [] → Grown source n (top_with n m) mid after
    → ((before behind : List Placed) (q : Placed) → after ≡ before ++ q ∷ behind → 0 ≡ length before → new ≡ before ++ ended q (length after) ∷ behind)
    → ArePlaced source new (instances_from source n (top_with n m))
top-placed source n top m mid after new stands e g set =
    let r = longer source n (top_with n m) [] mid after new (placed_top top) e g set in
    subst (λ xs. ArePlaced source xs (instances_from source n (top_with n m))) (sym r.list)
    (subst (ArePlaced source (ended (placed_top top) (length after) ∷ r.added)) (sym (with-below source n (top_with n m)))
    (record { definition = stands; parent = refl; member = refl; text = record { name = refl; place = refl; connections = refl }; end = r.at_end ∙ r.count }, r.placed))

-- no module stands past the end
pub none-outside : (source : Source) (all : List (Vec Child)) (top : ℕ) (m : Module) → IsTree source all → length all ≤ top → StandsAt source top m → ⊥
none-outside source all top m tree past stands =
    let r = tree.each top m stands in
    let lt : top < length all = slice_get_within all top r.list r.there in
    absurd (omega arith)
