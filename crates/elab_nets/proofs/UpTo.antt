-- One instance more has had its turn.
use Rattle.std.specs.Prelude.{◌≡◌, ◌⊎◌, ℕ, zero, suc, ◌+◌, ◌<◌, List, [], ◌∷◌, ◌++◌, Option, Some, flat_map, length, map, slice_get, take, drop, refl}
use Rattle.std.specs.List.{enumerate_from, range_with_len}
use Rattle.std.proofs.Common.{sym, ◌∙◌, ap, arith, inl, inr, subst, append_assoc, append-nil, length-append}
use Rattle.std.proofs.lemmas.Grind.{flat_map-append}
use Rattle.std.proofs.lemmas.List.{length-map, map-append, take_all, drop_all}
use Rattle.std.proofs.lemmas.List.FromFn.{map-range_with_len_more}
use Rattle.sg_circuit.specs.declared.nets.Net.{Net}
use Rattle.vl_tree.specs.Tree.{Module, Source}
use Rattle.elab_model.specs.Ends.{first_ends, path_ends}
use Rattle.elab_model.specs.Hierarchy.{Step, Instance, children, children_from, instances, is_empty}
use Rattle.elab_model.specs.Members.{members}
use Rattle.elab_model.specs.Nets.{nets, nets_of, variable_nets, member_nets}
use Rattle.elab_laws.specs.Handing.{number_at}
use Rattle.elab_laws.proofs.Lists.{In, all-in}
use Rattle.elab_laws.proofs.Numbers.{number}
use Rattle.elab_laws.proofs.PartsApart.{children-above}
use Rattle.elab_laws.proofs.Parents.{parent-of}
use Rattle.elab_laws.specs.NumberLaws.{nets_before}
use Rattle.elab_nets.specs.Rows.{first_of_member}
use Rattle.elab_nets.specs.Turns.{AreUpTo, AreThrough, AddsOutside, HasEnds, HasFirsts, HasInnerRow, HasOuterRow, IsBegun, IsDue, bits_of, children_among, end_number, members_of}
use Rattle.elab_model.specs.Numbered.{undriven}
use Rattle.elab_nets.specs.declared.rows.Rows.{Rows}
use Rattle.elab_nets.proofs.Children.{child-in}
use Rattle.elab_nets.proofs.EndRows.{kept-ends, new-ends}
use Rattle.elab_nets.proofs.InnerRows.{front-is, front-next}
use Rattle.elab_nets.proofs.MemberTurns.{count-there}
use Rattle.elab_nets.proofs.Filters.{from-map}
use Rattle.elab_nets.proofs.OuterRows.{kept-outer}
use Rattle.elab_nets.proofs.Placings.{number-is, is-there, same-instance}
use Rattle.elab_nets.proofs.RowParts.{get-grown, get-behind, at-end, part-grown, part-behind}

-- ---- rows that stand stay

pub kept-inner : (source : Source) (top : Module) (numbers more places later : List ℕ) (s : Instance) → HasInnerRow source top numbers places s → HasInnerRow source top (numbers ++ more) (places ++ later) s
kept-inner source top numbers more places later s h =
    let w = h.within in
    let l = length-append numbers more in
    record {
      start = h.start;
      there = get-grown places later s.step.number h.start h.there;
      within = omega arith;
      inner = part-grown numbers more h.start (length (bits_of s)) w ∙ h.inner;
    }

pub kept-firsts : (source : Source) (numbers more places later : List ℕ) (before : List Instance) (s : Instance) → HasFirsts source numbers places before s → HasFirsts source (numbers ++ more) (places ++ later) before s
kept-firsts source numbers more places later before s h = record {
  start = h.start;
  there = get-grown places later s.step.number h.start h.there;
  firsts = λ k le. get-grown numbers more (h.start + k) (first_of_member source before s k) (h.firsts k le);
}

-- ---- and new ones come behind

pub new-inner : (source : Source) (top : Module) (numbers row places : List ℕ) (s : Instance) → length places ≡ s.step.number → row ≡ map (number_at (nets source top) source s) (bits_of s)
    → HasInnerRow source top (numbers ++ row) (places ++ length numbers ∷ []) s
new-inner source top numbers row places s e r =
    let count : length row ≡ length (bits_of s) = ap length r ∙ length-map (bits_of s) (number_at (nets source top) source s) in
    let l = length-append numbers row in
    record { start = length numbers; there = at-end places (length numbers) s.step.number e; within = omega arith; inner = part-behind numbers row (length (bits_of s)) count ∙ r }

get-range : (f : ℕ → ℕ) (a m k : ℕ) → k < m → slice_get (map f (range_with_len a m)) k ≡ Some (f (a + k))
get-range f a zero k lt = absurd (omega arith)
get-range f a (suc m) zero lt = let n : a ≡ a + 0 = omega arith in ap (λ x. Some (f x)) n
get-range f a (suc m) (suc k) lt = let n : (a + 1) + k ≡ a + suc k = omega arith in get-range f (a + 1) m k (omega arith) ∙ ap (λ x. Some (f x)) n

pub new-firsts : (source : Source) (numbers places : List ℕ) (before : List Instance) (s : Instance) → length places ≡ s.step.number
    → HasFirsts source (numbers ++ map (first_of_member source before s) (range_with_len 0 (length (members s.step.definition) + 1))) (places ++ length numbers ∷ []) before s
new-firsts source numbers places before s e = record {
  start = length numbers;
  there = at-end places (length numbers) s.step.number e;
  firsts = λ k le.
      let f = first_of_member source before s in
      let z : 0 + k ≡ k = omega arith in
      get-behind numbers (map f (range_with_len 0 (length (members s.step.definition) + 1))) k ∙ get-range f 0 (length (members s.step.definition) + 1) k (omega arith) ∙ ap (λ x. Some (f x)) z;
}

-- ---- lists of instances

head-of : Instance → List Instance → Instance
head-of d [] = d
head-of d (x ∷ xs) = x

pub split-same : (xs ys zs ws : List Instance) (s t : Instance) → xs ++ s ∷ ys ≡ zs ++ t ∷ ws → length xs ≡ length zs → (xs ≡ zs) × (s ≡ t)
split-same [] ys [] ws s t e n = let f : s ≡ t = cc in (refl, f)
split-same [] ys (z ∷ zs) ws s t e n = absurd (omega arith)
split-same (x ∷ xs) ys [] ws s t e n = absurd (omega arith)
split-same (x ∷ xs) ys (z ∷ zs) ws s t e n =
    let f : x ≡ z = cc in
    let g : xs ++ s ∷ ys ≡ zs ++ t ∷ ws = cc in
    let m : length xs ≡ length zs = omega arith in
    let r = split-same xs ys zs ws s t g m in
    (ap (λ y. y ∷ xs) f ∙ ap (λ ys. z ∷ ys) r.0, r.1)

numbered-count : {A : Type 0} (a : ℕ) (xs : List A) → length (enumerate_from a xs) ≡ length xs
numbered-count a [] = refl
numbered-count a (x ∷ xs) = ap suc (numbered-count (a + 1) xs)

module _ (source : Source) (top : Module) (before after : List Instance) (s : Instance) (here : instances source top ≡ before ++ s ∷ after) where
  abbrev end : ℕ
  end = length (members s.step.definition)

  pub all-members : take end (members_of s) ≡ members_of s
  all-members = take_all end (members_of s) (let n = numbered-count 0 (members s.step.definition) in omega arith)

  pub no-members : drop end (members_of s) ≡ []
  no-members = drop_all end (members_of s) (let n = numbered-count 0 (members s.step.definition) in omega arith)

  -- the nets of the instances up to it
  pub nets-up_to : (old new : List Net) → old ≡ map undriven (flat_map (nets_of source) (take (length before) (instances source top)))
      → new ≡ (old ++ map undriven (variable_nets source s)) ++ map undriven (flat_map (member_nets source s) (take end (members_of s)))
      → new ≡ map undriven (flat_map (nets_of source) (take (length before + 1) (instances source top)))
  nets-up_to old new o n =
      let f = flat_map (nets_of source) in
      let ms = flat_map (member_nets source s) (members_of s) in
      let vn = variable_nets source s in
      n ∙ ap (λ xs. (old ++ map undriven vn) ++ map undriven (flat_map (member_nets source s) xs)) all-members
      ∙ append_assoc old (map undriven vn) (map undriven ms) ∙ ap (λ xs. old ++ xs) (sym (map-append undriven vn ms))
      ∙ ap (λ xs. xs ++ map undriven (nets_of source s)) (o ∙ ap (λ xs. map undriven (f (take (length before) xs))) here ∙ ap (λ xs. map undriven (f xs)) (front-is before after s))
      ∙ sym (map-append undriven (f before) (nets_of source s))
      ∙ ap (λ xs. map undriven (f before ++ xs)) (sym (append-nil (nets_of source s)))
      ∙ ap (map undriven) (sym (flat_map-append (nets_of source) before (s ∷ [])))
      ∙ ap (λ xs. map undriven (f xs)) (sym (front-next before after s)) ∙ ap (λ xs. map undriven (f (take (length before + 1) xs))) (sym here)

  -- what is due stands, or is a child
  pub due-stands : (old new : List (Option ℕ)) (places later : List ℕ) → AddsOutside source top old new places later (children source s)
      → ((t : Instance) → In t (instances source top) → IsDue (length before) t.above → HasOuterRow source top old places t)
      → (t : Instance) → In t (instances source top) → IsDue (length before + 1) t.above → HasOuterRow source top new later t
  due-stands old new places later a h t there = by t.above refl
    where
      number_here : s.step.number ≡ length before
      number_here = number-is source top before after s here

      stays : IsDue (length before) t.above → HasOuterRow source top new later t
      stays due = kept-outer source top old new places later (children source s) t a
          (λ i. let r = from-map number t.step.number (children source s) i in
          let inside : In r.0 (instances source top) = child-in source top s r.0 (is-there source top before after s here) r.1 in
          let same : t ≡ r.0 = same-instance source top t r.0 there inside (sym r.2) in
          let above : r.0.above ≡ s.step ∷ s.above = all-in (λ c. c.above ≡ s.step ∷ s.above) r.0 (children source s) (children-above source s.step.levels s) r.1 in
          let d : s.step.number < length before = subst (IsDue (length before)) (ap (λ x. x.above) same ∙ above) due in
          let n : s.step.number ≡ length before = number_here in
          absurd (omega arith))
          (h t there due)

      by : (above : List Step) → t.above ≡ above → IsDue (length before + 1) above → HasOuterRow source top new later t
      by [] e due = stays (subst (IsDue (length before)) (sym e) tt)
      by (p ∷ over) e due = elim (either p.number (length before) due) [
        | inl lt ↦ stays (subst (IsDue (length before)) (sym e) lt)
        | inr same ↦ (
            let r = parent-of source top t there (ap is_empty e) in
            let f : r.parent.step ∷ r.parent.above ≡ p ∷ over = sym r.above ∙ e in
            let g : r.parent.step ≡ p = cc in
            let n : r.parent.step.number ≡ s.step.number = ap (λ x. x.number) g ∙ same ∙ sym number_here in
            let m : r.parent ≡ s = same-instance source top r.parent s r.there (is-there source top before after s here) n in
            all-in (HasOuterRow source top new later) t (children source s) a.rows (subst (λ x. In t (children source x)) m r.child))
      ]
        where
          either : (a b : ℕ) → a < b + 1 → (a < b) ⊎ (a ≡ b)
          either a b lt = grind arith

  -- all that has been made is there, and what has been added
  pub up-to_more : (old new : Rows) → AreUpTo source top old (length before)
      → new.nets.items ≡ (old.nets.items ++ map undriven (variable_nets source s)) ++ map undriven (flat_map (member_nets source s) (take end (members_of s)))
      → new.inner.items ≡ old.inner.items ++ map (number_at (nets source top) source s) (bits_of s)
      → new.starts.items ≡ old.starts.items ++ length old.inner.items ∷ []
      → new.member_starts.items ≡ old.member_starts.items ++ length old.firsts.items ∷ []
      → new.firsts.items ≡ old.firsts.items ++ map (first_of_member source before s) (range_with_len 0 (end + 1))
      → new.ends.items ≡ old.ends.items ++ map (end_number source top s) (path_ends s.step.definition)
      → new.end_starts.items ≡ old.end_starts.items ++ length old.ends.items ∷ []
      → AddsOutside source top old.outer.items new.outer.items old.outer_starts.items new.outer_starts.items (children source s) → AreUpTo source top new (length before + 1)
  up-to_more old new h made inner starts members firsts ends end_starts outside = record {
    all = nets-up_to old.nets.items new.nets.items h.all made;
    start_count = ap length starts ∙ length-append old.starts.items (length old.inner.items ∷ []) ∙ ap (λ n. n + 1) h.start_count;
    member_count = ap length members ∙ length-append old.member_starts.items (length old.firsts.items ∷ []) ∙ ap (λ n. n + 1) h.member_count;
    end_count = ap length end_starts ∙ length-append old.end_starts.items (length old.ends.items ∷ []) ∙ ap (λ n. n + 1) h.end_count;
    outer_count = outside.same_count ∙ h.outer_count;
    own = λ b a t e lt. elim (either (length b) (length before) lt) [ inl l ↦ kept b a t e l | inr l ↦ mine b a t e l ];
    outer = due-stands old.outer.items new.outer.items old.outer_starts.items new.outer_starts.items outside h.outer;
  }
    where
      Own : Rows → List Instance → Instance → Type 0
      Own rows b t = HasInnerRow source top rows.inner.items rows.starts.items t × (HasFirsts source rows.firsts.items rows.member_starts.items b t × HasEnds source top rows.ends.items rows.end_starts.items t)

      number_here : s.step.number ≡ length before
      number_here = number-is source top before after s here

      either : (a b : ℕ) → a < b + 1 → (a < b) ⊎ (a ≡ b)
      either a b lt = grind arith

      -- by the lists
      by_lists : (b : List Instance) (t : Instance) → HasInnerRow source top (old.inner.items ++ map (number_at (nets source top) source s) (bits_of s)) (old.starts.items ++ length old.inner.items ∷ []) t
          → HasFirsts source (old.firsts.items ++ map (first_of_member source before s) (range_with_len 0 (end + 1))) (old.member_starts.items ++ length old.firsts.items ∷ []) b t
          → HasEnds source top (old.ends.items ++ map (end_number source top s) (path_ends s.step.definition)) (old.end_starts.items ++ length old.ends.items ∷ []) t → Own new b t
      by_lists b t i f e = (
        subst (λ xs. HasInnerRow source top xs new.starts.items t) (sym inner) (subst (λ ys. HasInnerRow source top (old.inner.items ++ map (number_at (nets source top) source s) (bits_of s)) ys t) (sym starts) i),
        (
          subst (λ xs. HasFirsts source xs new.member_starts.items b t) (sym firsts)
              (subst (λ ys. HasFirsts source (old.firsts.items ++ map (first_of_member source before s) (range_with_len 0 (end + 1))) ys b t) (sym members) f),
          subst (λ xs. HasEnds source top xs new.end_starts.items t) (sym ends)
              (subst (λ ys. HasEnds source top (old.ends.items ++ map (end_number source top s) (path_ends s.step.definition)) ys t) (sym end_starts) e),
        ),
      )

      kept : (b a : List Instance) (t : Instance) → instances source top ≡ b ++ t ∷ a → length b < length before → Own new b t
      kept b a t e lt =
          let o = h.own b a t e lt in
          by_lists b t (kept-inner source top old.inner.items _ old.starts.items _ t o.0) (kept-firsts source old.firsts.items _ old.member_starts.items _ b t o.1.0)
          (kept-ends source top old.ends.items _ old.end_starts.items _ t o.1.1)

      mine : (b a : List Instance) (t : Instance) → instances source top ≡ b ++ t ∷ a → length b ≡ length before → Own new b t
      mine b a t e n =
          let r = split-same before after b a s t (sym here ∙ e) (sym n) in
          subst (λ x. Own new x t) r.0 (subst (λ x. Own new before x) r.1
          (by_lists before s (new-inner source top old.inner.items _ old.starts.items s (h.start_count ∙ sym number_here) refl)
          (new-firsts source old.firsts.items old.member_starts.items before s (h.member_count ∙ sym number_here))
          (new-ends source top old.ends.items old.end_starts.items s (h.end_count ∙ sym number_here))))

  -- the turn of an instance, step by step
  pub one-more : (r0 r1 r2 r3 r4 : Rows) (next : ℕ) → AreUpTo source top r0 (length before) → IsBegun source top s r0 r1
      → r2.member_starts.items ≡ r1.member_starts.items ++ length r1.firsts.items ∷ []
      → r2.end_starts.items ≡ r1.end_starts.items ++ length r1.ends.items ∷ []
      → (r2.nets ≡ r1.nets) × ((r2.inner ≡ r1.inner) × ((r2.starts ≡ r1.starts) × ((r2.outer ≡ r1.outer) × ((r2.outer_starts ≡ r1.outer_starts) × ((r2.firsts ≡ r1.firsts) × (r2.ends ≡ r1.ends))))))
      → length r2.nets.items ≡ nets_before source before s [] → AreThrough source top before s end next r2 r3
      → r4.firsts.items ≡ r3.firsts.items ++ length r3.nets.items ∷ []
      → (r4.nets ≡ r3.nets) × ((r4.inner ≡ r3.inner) × ((r4.starts ≡ r3.starts) × ((r4.outer ≡ r3.outer) × ((r4.outer_starts ≡ r3.outer_starts) × ((r4.member_starts ≡ r3.member_starts)
      × ((r4.ends ≡ r3.ends) × (r4.end_starts ≡ r3.end_starts)))))))
      → AreUpTo source top r4 (length before + 1)
  one-more r0 r1 r2 r3 r4 next h begun m2 e2 same2 count t f4 same4 =
      let z : 0 + end ≡ end = omega arith in
      let f = first_of_member source before s in
      let last : length r3.nets.items ≡ f end = count-there source top before s end next r2 r3 count t in
      let all : children source s ≡ t.done = t.rest ∙ ap (λ xs. t.done ++ children_from source t.levels (s.step ∷ s.above) next (children_among source xs)) no-members ∙ append-nil t.done in
      up-to_more r0 r4 h
      (ap (λ v. v.items) same4.0 ∙ t.made ∙ ap (λ v. v.items ++ map undriven (flat_map (member_nets source s) (take end (members_of s)))) same2.0
      ∙ ap (λ xs. xs ++ map undriven (flat_map (member_nets source s) (take end (members_of s)))) begun.made)
      (ap (λ v. v.items) (same4.1.0 ∙ t.same.0 ∙ same2.1.0) ∙ begun.row)
      (ap (λ v. v.items) (same4.1.1.0 ∙ t.same.1.0 ∙ same2.1.1.0) ∙ begun.start)
      (ap (λ v. v.items) (same4.1.1.1.1.1.0 ∙ t.same.1.1.0) ∙ m2 ∙ ap (λ v. v.items ++ length r1.firsts.items ∷ []) begun.same.1.1.1.0 ∙ ap (λ v. r0.member_starts.items ++ length v.items ∷ []) begun.same.1.1.0)
      (f4 ∙ ap (λ xs. xs ++ length r3.nets.items ∷ []) t.first_nets ∙ ap (λ n. (r2.firsts.items ++ map f (range_with_len 0 end)) ++ n ∷ []) last
      ∙ append_assoc r2.firsts.items (map f (range_with_len 0 end)) (f end ∷ []) ∙ ap (λ xs. r2.firsts.items ++ xs) (sym (map-range_with_len_more f 0 end end z))
      ∙ ap (λ v. v.items ++ map f (range_with_len 0 (end + 1))) (same2.1.1.1.1.1.0 ∙ begun.same.1.1.0))
      (ap (λ v. v.items) same4.1.1.1.1.1.1.0 ∙ t.ends ∙ ap (λ v. v.items ++ map (end_number source top s) (flat_map (first_ends s.step.definition) (take end (members_of s))))
      (same2.1.1.1.1.1.1 ∙ begun.same.1.1.1.1.0)
      ∙ ap (λ xs. r0.ends.items ++ map (end_number source top s) (flat_map (first_ends s.step.definition) xs)) all-members)
      (ap (λ v. v.items) (same4.1.1.1.1.1.1.1 ∙ t.same.1.1.1) ∙ e2 ∙ ap (λ v. v.items ++ length r1.ends.items ∷ []) begun.same.1.1.1.1.1 ∙ ap (λ v. r0.end_starts.items ++ length v.items ∷ [])
      begun.same.1.1.1.1.0)
      (subst (λ cs. AddsOutside source top r0.outer.items r4.outer.items r0.outer_starts.items r4.outer_starts.items cs) (sym all)
      (subst (λ v. AddsOutside source top v.items r4.outer.items r0.outer_starts.items r4.outer_starts.items t.done) (same2.1.1.1.0 ∙ begun.same.0)
      (subst (λ v. AddsOutside source top r2.outer.items v.items r0.outer_starts.items r4.outer_starts.items t.done) (sym same4.1.1.1.0)
      (subst (λ v. AddsOutside source top r2.outer.items r3.outer.items v.items r4.outer_starts.items t.done) (same2.1.1.1.1.0 ∙ begun.same.1.0)
      (subst (λ v. AddsOutside source top r2.outer.items r3.outer.items r2.outer_starts.items v.items t.done) (sym same4.1.1.1.1.0) t.outside)))))
