-- The members of an instance are seen to one after another.
use Rattle.std.specs.Prelude.{◌≡◌, ℕ, zero, suc, ◌+◌, ◌<◌, List, [], ◌∷◌, ◌++◌, Some, flat_map, length, map, slice_get, take, drop, refl, slice_index_or}
use Rattle.std.specs.List.{range_with_len}
use Rattle.std.proofs.Common.{sym, ◌∙◌, ap, arith, subst, append_assoc, append-nil, length-append}
use Rattle.std.proofs.lemmas.Grind.{flat_map-append}
use Rattle.std.proofs.lemmas.List.{length-map, map-append, take-append-drop}
use Rattle.std.proofs.lemmas.List.FromFn.{map-range_with_len_more}
use Rattle.std.proofs.lemmas.Option.{slice_get_read}
use Rattle.sg_delay.specs.declared.corners.Corner.{Corner}
use Rattle.vl_tree.specs.Tree.{Module, Source}
use Rattle.elab_model.specs.Ends.{first_ends}
use Rattle.elab_model.specs.Hierarchy.{Instance, children, children_at, children_from, instances}
use Rattle.elab_model.specs.Members.{Member, members}
use Rattle.elab_model.specs.Names.{Variable}
use Rattle.elab_model.specs.Nets.{member_nets}
use Rattle.elab_laws.proofs.Lists.{In}
use Rattle.elab_hierarchy.specs.Placing.{tree_faults}
use Rattle.elab_hierarchy.specs.declared.instances.Placed.{Placed}
use Rattle.elab_variables.specs.Seen.{view_member}
use Rattle.elab_variables.specs.declared.member_list.Member as code_member
use Rattle.elab_modules.specs.declared.library.Library.{Library}
use Rattle.elab_modules.specs.declared.prepared.Prepared.{Prepared}
use Rattle.elab_modules.specs.Ready.{IsPrepared}
use Rattle.elab_laws.specs.NumberLaws.{nets_before}
use Rattle.elab_nets.specs.Members.{HasMember}
use Rattle.elab_nets.specs.Rows.{first_of_member}
use Rattle.elab_nets.specs.Turns.{HasInnerRow, HasTurn, IsNext, IsSeenTo, AreThrough, AddsOutside, children_among, end_number, members_of}
use Rattle.elab_model.specs.Numbered.{undriven}
use Rattle.elab_nets.specs.declared.rows.Rows.{Rows}
use Rattle.elab_nets.proofs.ChildRows.{none-added}
use Rattle.elab_nets.proofs.NumberedLists.{next-is, taken}
use Rattle.elab_nets.proofs.OuterRows.{both-added}
use Rattle.elab_hierarchy.proofs.FaultlessTree.{no-children_at_limit}
use Rattle.elab_nets.proofs.Placings.{is-there}

-- ---- so many nets are there before a member

pub count-there : (source : Source) (top : Module) (before : List Instance) (s : Instance) (k next : ℕ) (old new : Rows) → length old.nets.items ≡ nets_before source before s [] → AreThrough source top before s k next old new
    → length new.nets.items ≡ nets_before source before s (take k (members_of s))
count-there source top before s k next old new e h =
    let f = flat_map (member_nets source s) (take k (members_of s)) in
    let l1 : length new.nets.items ≡ length (old.nets.items ++ map undriven f) = ap length h.made in
    let l2 = length-append old.nets.items (map undriven f) in
    let l3 = length-map f undriven in
    omega arith

abbrev pub is-next : (source : Source) (top : Module) (before : List Instance) (s : Instance) (k next : ℕ) (old new : Rows) (x : Member) → length old.nets.items ≡ nets_before source before s [] → AreThrough source top before s k next old new
    → slice_get (members s.step.definition) k ≡ Some x → IsNext source before s (k, x) next (length new.nets.items)
is-next source top before s k next old new x e h g = record {
  front = take k (members_of s);
  behind = drop (k + 1) (members_of s);
  split = sym (take-append-drop k (members_of s)) ∙ ap (λ xs. take k (members_of s) ++ xs) (next-is (members s.step.definition) k x g);
  there = g;
  nets_there = count-there source top before s k next old new e h;
  levels = h.levels;
  done = h.done;
  rest = h.rest ∙ ap (λ xs. h.done ++ children_from source h.levels (s.step ∷ s.above) next (children_among source xs)) (next-is (members s.step.definition) k x g);
}

-- one member more
pub one-through : (source : Source) (top : Module) (before after_s : List Instance) (s : Instance) (k next later : ℕ) (old new pushed last : Rows) (x : Member) → instances source top ≡ before ++ s ∷ after_s
    → (count : length old.nets.items ≡ nets_before source before s []) → (h : AreThrough source top before s k next old new) → slice_get (members s.step.definition) k ≡ Some x
    → pushed.firsts.items ≡ new.firsts.items ++ length new.nets.items ∷ [] → pushed.nets ≡ new.nets → pushed.outer ≡ new.outer → pushed.outer_starts ≡ new.outer_starts
    → (pushed.inner ≡ new.inner) × ((pushed.starts ≡ new.starts) × ((pushed.member_starts ≡ new.member_starts) × ((pushed.end_starts ≡ new.end_starts) × (pushed.ends ≡ new.ends))))
    → IsSeenTo source top s (k, x) h.levels next later (drop (k + 1) (members_of s)) pushed last → AreThrough source top before s (k + 1) later old last
one-through source top before after_s s k next later old new pushed last x here count h g f n o p same seen =
    let c : length new.nets.items ≡ first_of_member source before s k = count-there source top before s k next old new count h in
    let split : children source s ≡ h.done ++ (seen.cs ++ children_from source h.levels (s.step ∷ s.above) later (children_among source (drop (k + 1) (members_of s)))) =
    h.rest ∙ ap (λ xs. h.done ++ children_from source h.levels (s.step ∷ s.above) next (children_among source xs)) (next-is (members s.step.definition) k x g) ∙ ap (λ xs. h.done ++ xs) seen.split in
    let z : 0 + k ≡ k = omega arith in
    let m = s.step.definition in
    let number = end_number source top s in
    record {
      made = seen.made ∙ ap (λ v. v.items ++ map undriven (member_nets source s (k, x))) n ∙ ap (λ xs. xs ++ map undriven (member_nets source s (k, x))) h.made
          ∙ append_assoc old.nets.items (map undriven (flat_map (member_nets source s) (take k (members_of s)))) (map undriven (member_nets source s (k, x)))
          ∙ ap (λ xs. old.nets.items ++ xs)
          (sym (map-append undriven (flat_map (member_nets source s) (take k (members_of s))) (member_nets source s (k, x)))
          ∙ ap (λ ys. map undriven (flat_map (member_nets source s) (take k (members_of s)) ++ ys)) (sym (append-nil (member_nets source s (k, x))))
          ∙ ap (map undriven) (sym (flat_map-append (member_nets source s) (take k (members_of s)) ((k, x) ∷ [])) ∙ ap (flat_map (member_nets source s)) (sym (taken (members s.step.definition) k x g))));
      first_nets = ap (λ v. v.items) seen.same.1.1.0 ∙ f ∙ ap (λ m. new.firsts.items ++ m ∷ []) c ∙ ap (λ xs. xs ++ first_of_member source before s k ∷ []) h.first_nets
          ∙ append_assoc old.firsts.items (map (first_of_member source before s) (range_with_len 0 k)) (first_of_member source before s k ∷ [])
          ∙ ap (λ xs. old.firsts.items ++ xs) (sym (map-range_with_len_more (first_of_member source before s) 0 k k z));
      ends = seen.ends ∙ ap (λ v. v.items ++ map number (first_ends m (k, x))) same.1.1.1.1 ∙ ap (λ xs. xs ++ map number (first_ends m (k, x))) h.ends
          ∙ append_assoc old.ends.items (map number (flat_map (first_ends m) (take k (members_of s)))) (map number (first_ends m (k, x)))
          ∙ ap (λ xs. old.ends.items ++ xs)
          (sym (map-append number (flat_map (first_ends m) (take k (members_of s))) (first_ends m (k, x)))
          ∙ ap (λ ys. map number (flat_map (first_ends m) (take k (members_of s)) ++ ys)) (sym (append-nil (first_ends m (k, x))))
          ∙ ap (map number) (sym (flat_map-append (first_ends m) (take k (members_of s)) ((k, x) ∷ [])) ∙ ap (flat_map (first_ends m)) (sym (taken (members m) k x g))));
      levels = h.levels;
      done = h.done ++ seen.cs;
      rest = split ∙ sym (append_assoc h.done seen.cs _);
      outside = both-added source top s (is-there source top before after_s s here) h.done seen.cs _ split old.outer.items new.outer.items last.outer.items old.outer_starts.items new.outer_starts.items last.outer_starts.items
          h.outside
          (subst (λ v. AddsOutside source top v.items last.outer.items new.outer_starts.items last.outer_starts.items seen.cs) o
          (subst (λ v. AddsOutside source top pushed.outer.items last.outer.items v.items last.outer_starts.items seen.cs) p seen.outside));
      same = (seen.same.0 ∙ same.0 ∙ h.same.0, (seen.same.1.0 ∙ same.1.0 ∙ h.same.1.0, (seen.same.1.1.1.0 ∙ same.1.1.0 ∙ h.same.1.1.0, seen.same.1.1.1.1 ∙ same.1.1.1.0 ∙ h.same.1.1.1)));
    }

-- ---- in the turn of an instance

abbrev pub turn-later : (source : Source) (top : Module) (corner : Corner) (library : Library) (placed : List Placed) (old new : Rows) (table : List Variable) (number : ℕ) → HasTurn source top corner library placed old table number
    → new.inner ≡ old.inner → new.starts ≡ old.starts → length new.outer_starts.items ≡ length old.outer_starts.items → HasTurn source top corner library placed new table number
turn-later source top corner library placed old new table number turn i s n = record {
  given = turn.given;
  before = turn.before;
  s = turn.s;
  after = turn.after;
  here = turn.here;
  table_is = turn.table_is;
  number_is = turn.number_is;
  inner = subst (λ v. HasInnerRow source top v.items new.starts.items turn.s) (sym i) (subst (λ v. HasInnerRow source top old.inner.items v.items turn.s) (sym s) turn.inner);
  outer_count = n ∙ turn.outer_count;
}

first-children : (source : Source) (top : Module) (s : Instance) (next : ℕ) → tree_faults source top ≡ [] → In s (instances source top) → suc s.step.number ≡ next
    → (d : ℕ) × (children source s ≡ children_from source d (s.step ∷ s.above) next (children_among source (members_of s)))
first-children source top s next tree there e = by s.step.levels refl
  where
    by : (n : ℕ) → s.step.levels ≡ n → (d : ℕ) × (children_at source n s ≡ children_from source d (s.step ∷ s.above) next (children_among source (members_of s)))
    by zero l = (0, ap (children_from source 0 (s.step ∷ s.above) next) (sym (no-children_at_limit source top s tree there l)))
    by (suc d) l = (d, ap (λ k. children_from source d (s.step ∷ s.above) k (children_among source (members_of s))) e)

pub none-through : (source : Source) (top : Module) (corner : Corner) (library : Library) (placed : List Placed) (rows : Rows) (table : List Variable) (number : ℕ) (turn : HasTurn source top corner library placed rows table number)
    → AreThrough source top turn.before turn.s 0 (number + 1) rows rows
none-through source top corner library placed rows table number turn =
    let e : suc turn.s.step.number ≡ number + 1 = let n = turn.number_is in omega arith in
    let r = first-children source top turn.s (number + 1) turn.given.tree (is-there source top turn.before turn.after turn.s turn.here) e in
    record {
      made = sym (append-nil rows.nets.items);
      first_nets = sym (append-nil rows.firsts.items);
      ends = sym (append-nil rows.ends.items);
      levels = r.0;
      done = [];
      rest = r.1;
      outside = none-added source top rows.outer.items rows.outer_starts.items;
      same = (refl, (refl, (refl, refl)));
    }

pub get-map : {A B : Type 0} (f : A → B) (xs : List A) (k : ℕ) (x : A) → slice_get xs k ≡ Some x → slice_get (map f xs) k ≡ Some (f x)
get-map f [] k x e = cc
get-map f (y ∷ ys) zero x e = let g : y ≡ x = cc in ap (λ z. Some (f z)) g
get-map f (y ∷ ys) (suc k) x e = get-map f ys k x e

-- the member at a place of the code's list
pub member-at : (p : Prepared) (m : Module) (items : List code_member.Member) (k : ℕ) (x : code_member.Member) → IsPrepared p m → items ≡ p.members.items → k < length items → x ≡ slice_index_or items k x
    → slice_get (members m) k ≡ Some (view_member x)
member-at p m items k x prepared e lt is =
    let a : slice_get items k ≡ Some x = slice_get_read items (length items) k x refl lt is in
    let b : slice_get p.members.items k ≡ Some x = ap (λ xs. slice_get xs k) (sym e) ∙ a in
    ap (λ xs. slice_get xs k) (sym prepared.members) ∙ get-map view_member p.members.items k x b

-- and a member of the definition in its place
pub has-member : (s : Instance) (prepared : Prepared) (scope k : ℕ) (x y : Member) → x ≡ y → IsPrepared prepared s.step.definition → s.step.number ≡ scope → slice_get (members s.step.definition) k ≡ Some x
    → HasMember s prepared scope k y
has-member s prepared scope k x y is ready number there = record { ready = ready; number = number; there = there ∙ ap (λ z. Some z) is }
