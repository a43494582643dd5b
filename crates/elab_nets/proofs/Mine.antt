-- The instance of a number, whose turn it is.
use Rattle.std.specs.Prelude.{◌≡◌, ℕ, zero, suc, ◌+◌, ◌<◌, ◌==◌, List, [], ◌∷◌, ◌++◌, Bool, ◌&&◌, not, Some, None, is_some, flat_map, length, map, slice_get, take, refl}
use Rattle.std.proofs.Common.{sym, ◌∙◌, ap, arith, subst, length-append}
use Rattle.std.proofs.lemmas.List.{length-map}
use Rattle.std.proofs.lemmas.Option.{slice_get_within}
use Rattle.sg_delay.specs.declared.corners.Corner.{Corner}
use Rattle.vl_tree.specs.Tree.{Module, Source}
use Rattle.elab_model.specs.Hierarchy.{Step, Instance, instances, is_empty, is_leaf}
use Rattle.elab_model.specs.Members.{members}
use Rattle.elab_model.specs.Nets.{nets, nets_of, variable_nets}
use Rattle.elab_model.specs.Scopes.{parent_of}
use Rattle.elab_laws.specs.Handing.{number_at}
use Rattle.elab_laws.proofs.Lists.{In, all-in}
use Rattle.elab_hierarchy.specs.declared.instances.Placed.{Placed}
use Rattle.elab_hierarchy.specs.Placing.{IsPlaced}
use Rattle.elab_modules.specs.declared.library.Library.{Library}
use Rattle.elab_modules.specs.declared.prepared.Prepared.{Prepared}
use Rattle.elab_modules.specs.Reached.{IsReached, IsReadyAt}
use Rattle.elab_modules.specs.Ready.{IsPrepared}
use Rattle.elab_laws.specs.NumberLaws.{nets_before}
use Rattle.elab_modules.specs.Finding.{module_at}
use Rattle.elab_nets.specs.Turns.{AreThrough, AreUpTo, HasInnerRow, HasTurn, IsBegun, IsGiven, IsMine, bits_of}
use Rattle.elab_model.specs.Numbered.{undriven}
use Rattle.elab_nets.specs.declared.rows.Rows.{Rows}
use Rattle.elab_nets.proofs.InnerRows.{front-is, own-due}
use Rattle.elab_modules.proofs.FoundModules.{is-found, is-prepared}
use Rattle.elab_hierarchy.proofs.FaultlessTree.{no-children_at_limit}
use Rattle.elab_nets.proofs.Placings.{is-there, lone-is, number-is, placed-at, placed-count}
use Rattle.elab_nets.proofs.RowParts.{get-behind}
use Rattle.elab_nets.proofs.UpTo.{new-inner, one-more}

-- a list, round the element at a place
pub record IsSplit {A : Type 0} (xs : List A) (n : ℕ) : Type 0 where
  pub before : List A
  pub element : A
  pub after : List A
  pub whole : xs ≡ before ++ element ∷ after
  pub count : length before ≡ n

pub split-at : {A : Type 0} (xs : List A) (n : ℕ) → n < length xs → IsSplit xs n
split-at [] n lt = absurd (omega arith)
split-at (x ∷ xs) zero lt = record { before = []; element = x; after = xs; whole = refl; count = refl }
split-at (x ∷ xs) (suc n) lt = let r = split-at xs n (omega arith) in record { before = x ∷ r.before; element = r.element; after = r.after; whole = ap (λ ys. x ∷ ys) r.whole; count = ap suc r.count }

-- the instance of a number, in both lists
pub record IsOf (source : Source) (top : Module) (n : ℕ) (p : Placed) : Type 0 where
  pub split : IsSplit (instances source top) n
  pub placed : IsPlaced source p split.element

pub is-of : (source : Source) (top : Module) (corner : Corner) (library : Library) (list : List Placed) → IsGiven source top corner library list → (n : ℕ) (p : Placed) → slice_get list n ≡ Some p → IsOf source top n p
is-of source top corner library list given n p e =
    let l = slice_get_within list n p e in
    let c = placed-count source list (instances source top) given.instances_are in
    let r = split-at (instances source top) n (omega arith) in
    let z : n ≡ length r.before + 0 = let k = r.count in omega arith in
    let g : slice_get (instances source top) n ≡ Some r.element = ap (λ xs. slice_get xs n) r.whole ∙ ap (slice_get (r.before ++ r.element ∷ r.after)) z ∙ get-behind r.before (r.element ∷ r.after) 0 in
    let q = placed-at source list (instances source top) given.instances_are n r.element g in
    let f : Some q.0 ≡ Some p = sym q.1 ∙ e in
    let h : q.0 ≡ p = cc in
    record { split = r; placed = subst (λ x. IsPlaced source x r.element) h q.2 }

module _ (source : Source) (top : Module) (corner : Corner) (library : Library) (list : List Placed) (given : IsGiven source top corner library list) (n : ℕ) (p : Placed) (of : IsOf source top n p) where
  abbrev s : Instance
  s = of.split.element

  pub there : In s (instances source top)
  there = is-there source top of.split.before of.split.after s of.split.whole

  ready-at : IsReadyAt source corner top library s.step.definition p.definition
  ready-at = (all-in (IsReached source corner top library) s (instances source top) given.ready.reached there).stands p.definition of.placed.definition

  pub found : module_at (slice_get library.parts.items p.definition) ≡ None → ⊥
  found e = is-found source library.parts.items p.definition s.step.definition given.ready.ready of.placed.definition ready-at.ready e

  pub prepared-is : (q : Prepared) → module_at (slice_get library.parts.items p.definition) ≡ Some q → IsPrepared q s.step.definition
  prepared-is q e = is-prepared source library.parts.items p.definition s.step.definition q given.ready.ready of.placed.definition e

  pub number_here : s.step.number ≡ n
  number_here = number-is source top of.split.before of.split.after s of.split.whole ∙ of.split.count

  has-parent : (above : List Step) → is_some (parent_of above) ≡ not (is_empty above)
  has-parent [] = refl
  has-parent (x ∷ xs) = refl

  pub leaf-here : is_leaf source s ≡ (is_some p.parent && p.end == n + 1)
  leaf-here =
      sym (ap (λ b. b && p.end == n + 1) (ap is_some of.placed.parent ∙ has-parent s.above)
      ∙ ap (λ b. not (is_empty s.above) && b) (ap (λ k. p.end == k + 1) (sym number_here) ∙ lone-is source s.step p.end (no-children_at_limit source top s given.tree there) of.placed.end))

  pub count-here : (rows : Rows) → AreUpTo source top rows n → length rows.nets.items ≡ length (flat_map (nets_of source) of.split.before)
  count-here rows up =
      ap length up.all ∙ length-map (flat_map (nets_of source) (take n (instances source top))) undriven
      ∙ ap (λ k. length (flat_map (nets_of source) (take k (instances source top)))) (sym of.split.count)
      ∙ ap (λ xs. length (flat_map (nets_of source) (take (length of.split.before) xs))) of.split.whole
      ∙ ap (λ xs. length (flat_map (nets_of source) xs)) (front-is of.split.before of.split.after s)

  abbrev pub is-mine : (rows : Rows) (q : Prepared) (leaf : Bool) → AreUpTo source top rows n → IsPrepared q s.step.definition → leaf ≡ (is_some p.parent && p.end == n + 1) → IsMine source top corner rows q.table n leaf
  is-mine rows q leaf up prepared e = record {
    sound = given.ready.sound;
    before = of.split.before;
    s = s;
    after = of.split.after;
    here = of.split.whole;
    table_is = prepared.table;
    number_is = number_here;
    leaf_is = leaf-here ∙ sym e;
    nets_there = count-here rows up;
    outer_row = up.outer s there (own-due source top s there n number_here);
  }

  abbrev pub is-turn : (old begun rows : Rows) (q : Prepared) → AreUpTo source top old n → IsBegun source top s old begun → IsPrepared q s.step.definition → rows.inner ≡ begun.inner → rows.starts ≡ begun.starts
      → rows.outer_starts ≡ begun.outer_starts → HasTurn source top corner library list rows q.table n
  is-turn old begun rows q up b prepared i e o = record {
    given = given;
    before = of.split.before;
    s = s;
    after = of.split.after;
    here = of.split.whole;
    table_is = prepared.table;
    number_is = number_here;
    inner = subst (λ xs. HasInnerRow source top xs rows.starts.items s) (sym (ap (λ v. v.items) i ∙ b.row))
        (subst (λ ys. HasInnerRow source top (old.inner.items ++ map (number_at (nets source top) source s) (bits_of s)) ys s) (sym (ap (λ v. v.items) e ∙ b.start))
        (new-inner source top old.inner.items _ old.starts.items s (up.start_count ∙ sym number_here) refl));
    outer_count = ap (λ v. length v.items) (o ∙ b.same.1.0) ∙ up.outer_count;
  }

  pub count-begun : (old begun : Rows) → AreUpTo source top old n → IsBegun source top s old begun → length begun.nets.items ≡ nets_before source of.split.before s []
  count-begun old begun up b =
      let c = count-here old up in
      let l1 : length begun.nets.items ≡ length old.nets.items + length (map undriven (variable_nets source s)) = ap length b.made ∙ length-append old.nets.items (map undriven (variable_nets source s)) in
      let l2 = length-map (variable_nets source s) undriven in
      omega arith

  -- its turn is over
  pub turn-done : (r0 r1 r2 r3 r4 : Rows) (next : ℕ) → AreUpTo source top r0 n → IsBegun source top s r0 r1
      → r2.member_starts.items ≡ r1.member_starts.items ++ length r1.firsts.items ∷ []
      → r2.end_starts.items ≡ r1.end_starts.items ++ length r1.ends.items ∷ []
      → (r2.nets ≡ r1.nets) × ((r2.inner ≡ r1.inner) × ((r2.starts ≡ r1.starts) × ((r2.outer ≡ r1.outer) × ((r2.outer_starts ≡ r1.outer_starts) × ((r2.firsts ≡ r1.firsts) × (r2.ends ≡ r1.ends))))))
      → length r2.nets.items ≡ nets_before source of.split.before s [] → AreThrough source top of.split.before s (length (members s.step.definition)) next r2 r3
      → r4.firsts.items ≡ r3.firsts.items ++ length r3.nets.items ∷ []
      → (r4.nets ≡ r3.nets) × ((r4.inner ≡ r3.inner) × ((r4.starts ≡ r3.starts) × ((r4.outer ≡ r3.outer) × ((r4.outer_starts ≡ r3.outer_starts) × ((r4.member_starts ≡ r3.member_starts)
      × ((r4.ends ≡ r3.ends) × (r4.end_starts ≡ r3.end_starts)))))))
      → AreUpTo source top r4 (n + 1)
  turn-done r0 r1 r2 r3 r4 next up begun m2 e2 same2 count through f4 same4 =
      subst (λ k. AreUpTo source top r4 (k + 1)) of.split.count
      (one-more source top of.split.before of.split.after s of.split.whole r0 r1 r2 r3 r4 next (subst (AreUpTo source top r0) (sym of.split.count) up) begun m2 e2 same2 count through f4 same4)
