-- The first outer row, and the rows of all instances.
use Rattle.std.specs.Prelude.{◌≡◌, ℕ, zero, suc, ◌+◌, ◌<◌, ◌≤◌, List, [], ◌∷◌, ◌++◌, Option, Some, None, flat_map, length, map, slice_get, take, replicate, refl}
use Rattle.std.specs.List.{AllByRecursion}
use Rattle.std.proofs.Common.{sym, ◌∙◌, ap, arith, inl, inr, subst, length-append}
use Rattle.std.proofs.lemmas.List.{length-map, take_all}
use Rattle.sg_delay.specs.declared.corners.Corner.{Corner}
use Rattle.vl_tree.specs.Tree.{Module, Source}
use Rattle.elab_model.specs.Hierarchy.{Step, Instance, instances, top_instance, levels_below_top}
use Rattle.elab_model.specs.Names.{Variable, variables}
use Rattle.elab_model.specs.Nets.{nets, nets_of}
use Rattle.elab_laws.specs.Handing.{all_bits}
use Rattle.elab_laws.proofs.Lists.{In, all-in}
use Rattle.elab_laws.proofs.Handed.{Rises, instances-rise}
use Rattle.elab_laws.proofs.Parents.{has-parent}
use Rattle.elab_nets.specs.Rows.{part_of, HaveRows}
use Rattle.elab_nets.specs.Turns.{AreUpTo, HasOuterRow, IsDue, IsGiven}
use Rattle.elab_hierarchy.specs.declared.instances.Placed.{Placed}
use Rattle.elab_modules.specs.declared.library.Library.{Library}
use Rattle.elab_model.specs.Numbered.{undriven}
use Rattle.elab_nets.specs.declared.rows.Rows.{Rows}
use Rattle.elab_nets.proofs.Placings.{number-is, is-there, placed-count}
use Rattle.elab_nets.proofs.Mine.{IsOf, is-of}
use Rattle.elab_nets.proofs.RowParts.{get-behind}

-- ---- before the first turn

all-none : (n : ℕ) (bs : List (Variable × ℕ)) → n ≡ length bs → ◌≡◌ {A = List (Option ℕ)} (replicate n None) (map (λ b. None) bs)
all-none zero [] e = refl
all-none zero (b ∷ bs) e = absurd (omega arith)
all-none (suc n) [] e = absurd (omega arith)
all-none (suc n) (b ∷ bs) e = ap (λ xs. None ∷ xs) (all-none n bs (omega arith))

count-all : {A : Type 0} (n : ℕ) (x : A) → length (replicate n x) ≡ n
count-all zero x = refl
count-all (suc n) x = ap suc (count-all n x)

-- nothing lies above the top alone
top-is : (source : Source) (top : Module) (t : Instance) → In t (instances source top) → t.above ≡ [] → t ≡ top_instance top
top-is source top t there e = elim (has-parent source levels_below_top (top_instance top) t refl there) [ inl f ↦ f | inr r ↦ absurd (not_both r.above) ]
  where
    not_both : {p : Step} {ps : List Step} → t.above ≡ p ∷ ps → ⊥
    not_both {p} {ps} f = let g : [] ≡ p ∷ ps = sym e ∙ f in cc

pub none-yet : (source : Source) (top : Module) (rows : Rows) (width count : ℕ) → rows.nets.items ≡ [] → rows.starts.items ≡ [] → rows.member_starts.items ≡ [] → rows.end_starts.items ≡ []
    → rows.outer_starts.items ≡ replicate count 0
    → rows.outer.items ≡ replicate width None → count ≡ length (instances source top) → width ≡ length (all_bits (variables top)) → AreUpTo source top rows 0
none-yet source top rows width count n s m e p o c w = record {
  all = n;
  start_count = ap length s;
  member_count = ap length m;
  end_count = ap length e;
  outer_count = ap length p ∙ count-all count 0 ∙ c;
  own = λ before after t e lt. absurd (omega arith);
  outer = λ t there. by t there t.above refl;
}
  where
    the_top : HasOuterRow source top rows.outer.items rows.outer_starts.items (top_instance top)
    the_top =
        let total : length rows.outer.items ≡ width = ap length o ∙ count-all width None in
        let whole : take width (replicate width None) ≡ replicate width None = take_all width (replicate width None) (let k = count-all {A = Option ℕ} width None in omega arith) in
        record {
          start = 0;
          there = ap (λ xs. slice_get xs 0) p ∙ ap (λ k. slice_get (replicate k 0) 0) c;
          within = omega arith;
          outer = ap (λ k. part_of rows.outer.items 0 k) (sym w) ∙ ap (take width) o ∙ whole ∙ all-none width (all_bits (variables top)) w;
        }

    by : (t : Instance) → In t (instances source top) → (above : List Step) → t.above ≡ above → IsDue 0 above → HasOuterRow source top rows.outer.items rows.outer_starts.items t
    by t there [] e due = subst (HasOuterRow source top rows.outer.items rows.outer_starts.items) (sym (top-is source top t there e)) the_top
    by t there (q ∷ qs) e due = absurd (omega arith)

-- ---- after the last

all-due : (source : Source) (top : Module) (before after : List Instance) (s : Instance) → instances source top ≡ before ++ s ∷ after → IsDue (length (instances source top)) s.above
all-due source top before after s e = by s.above (all-in Rises s (instances source top) (instances-rise source top) (is-there source top before after s e))
  where
    by : (above : List Step) → AllByRecursion (λ a. a.number < s.step.number) above → IsDue (length (instances source top)) above
    by [] h = tt
    by (p ∷ over) h =
        let lt : p.number < s.step.number = h.0 in
        let n = number-is source top before after s e in
        let l : length (instances source top) ≡ length before + suc (length after) = ap length e ∙ length-append before (s ∷ after) in
        omega arith

pub have-rows : (source : Source) (top : Module) (rows : Rows) (count : ℕ) → count ≡ length (instances source top) → AreUpTo source top rows count → length rows.nets.items ≤ 4194304 → HaveRows source top rows
have-rows source top rows count c h few =
    let whole : take count (instances source top) ≡ instances source top = take_all count (instances source top) (omega arith) in
    let all : rows.nets.items ≡ map undriven (nets source top) = h.all ∙ ap (λ xs. map undriven (flat_map (nets_of source) xs)) whole in
    let total : length rows.nets.items ≡ length (nets source top) = ap length all ∙ length-map (nets source top) undriven in
    record {
      all = all;
      few = omega arith;
      each = λ before after s e.
          let n = number-is source top before after s e in
          let l : length (instances source top) ≡ length before + suc (length after) = ap length e ∙ length-append before (s ∷ after) in
          let lt : length before < count = omega arith in
          let o = h.own before after s e lt in
          let i = o.0 in
          let f = o.1.0 in
          let d = o.1.1 in
          let u = h.outer s (is-there source top before after s e) (subst (λ k. IsDue k s.above) (sym c) (all-due source top before after s e)) in
          record {
            start = i.start;
            starts = ap (slice_get rows.starts.items) (sym n) ∙ i.there;
            inner = i.inner;
            inner_within = i.within;
            outside = u.start;
            outer_starts = ap (slice_get rows.outer_starts.items) (sym n) ∙ u.there;
            outer = u.outer;
            outer_within = u.within;
            member = f.start;
            member_starts = ap (slice_get rows.member_starts.items) (sym n) ∙ f.there;
            firsts = f.firsts;
            end = d.start;
            end_starts = ap (slice_get rows.end_starts.items) (sym n) ∙ d.there;
            ends = d.ends;
            ends_within = d.within;
          };
    }

-- ---- the first instance is the top

pub first-of : (source : Source) (top : Module) (corner : Corner) (library : Library) (list : List Placed) → IsGiven source top corner library list → (p : Placed) → slice_get list 0 ≡ Some p → IsOf source top 0 p
first-of source top corner library list given p e = is-of source top corner library list given 0 p e

pub is-top : (source : Source) (top : Module) (p : Placed) (of : IsOf source top 0 p) → variables of.split.element.step.definition ≡ variables top
is-top source top p of =
    let t : slice_get (instances source top) 0 ≡ Some (top_instance top) = refl in
    let z : 0 ≡ length of.split.before + 0 = let k = of.split.count in omega arith in
    let g : slice_get (instances source top) 0 ≡ Some of.split.element =
    ap (λ xs. slice_get xs 0) of.split.whole ∙ ap (slice_get (of.split.before ++ of.split.element ∷ of.split.after)) z ∙ get-behind of.split.before (of.split.element ∷ of.split.after) 0 in
    let f : Some (top_instance top) ≡ Some of.split.element = sym t ∙ g in
    let h : top_instance top ≡ of.split.element = cc in
    ap (λ x. variables x.step.definition) (sym h)

-- in all, before the first turn
pub start : (source : Source) (top : Module) (corner : Corner) (library : Library) (list : List Placed) (rows : Rows) → IsGiven source top corner library list → (width : ℕ) → width ≡ length (all_bits (variables top))
    → rows.nets.items ≡ [] → rows.starts.items ≡ [] → rows.member_starts.items ≡ [] → rows.end_starts.items ≡ [] → rows.outer_starts.items ≡ replicate (length list) 0
    → rows.outer.items ≡ replicate width None → AreUpTo source top rows 0
start source top corner library list rows given width w n s m e p o =
    none-yet source top rows width (length list) n s m e p o (placed-count source list (instances source top) given.instances_are) w
