-- The children of modules, as the code gathers them.
use Rattle.std.specs.Prelude.{◌≡◌, ℕ, zero, suc, ◌+◌, ◌<◌, List, [], ◌∷◌, ◌++◌, Option, Some, None, option_to_list, map, filter_map, length, slice_get, slice_index_or, refl}
use Rattle.std.specs.Global.{Vec}
use Rattle.std.specs.List.{cons_option, enumerate_from}
use Rattle.std.proofs.Common.{sym, ◌∙◌, ap, subst, take, drop, drop-cons, append_assoc, append-nil, add-one}
use Rattle.std.proofs.Math.Seq.{take-length, drop-length}
use Rattle.std.proofs.lemmas.List.{map-append, take_more}
use Rattle.vl_tree.specs.declared.modules.Part as code_part
use Rattle.vl_tree.specs.Seen.{view_part}
use Rattle.vl_tree.specs.Tree.{Module, Part, a_module, Source}
use Rattle.elab_laws.proofs.Lists.{all-append}
use Rattle.elab_model.specs.Hierarchy.{Child, child_of_member}
use Rattle.elab_model.specs.HierarchyFaults.{two_definitions}
use Rattle.elab_model.specs.Members.{Member}
use Rattle.elab_variables.specs.declared.member_list.Member as code_member
use Rattle.elab_variables.specs.Seen.{view_member}
use Rattle.elab_hierarchy.specs.Children.{AreChildren, IsChildAnswer, AreWithin, AreAllChildren, AreAllWithin, HasChildren, IsTree, part_children}
use Rattle.elab_hierarchy.specs.declared.children.Child as code_child

pub children-append : (source : Source) (cs es : List code_child.Child) (ds fs : List Child) → AreChildren source cs ds → AreChildren source es fs → AreChildren source (cs ++ es) (ds ++ fs)
children-append source [] es [] fs h k = k
children-append source [] es (d ∷ ds) fs h k = absurd h
children-append source (c ∷ cs) es [] fs h k = absurd h
children-append source (c ∷ cs) es (d ∷ ds) fs h k = (h.0, children-append source cs es ds fs h.1 k)

abbrev pub children_among : Source → ℕ → List Member → List Child
children_among source k ms = filter_map (λ i. child_of_member source i.0 i.1) (enumerate_from k ms)

-- the children among the first k members
pub record AreGathered (source : Source) (cs : List code_child.Child) (ms : List code_member.Member) (k : ℕ) : Type 0 where
  pub done : List Child
  pub are : AreChildren source cs done
  pub rest : done ++ children_among source k (map view_member (drop k ms)) ≡ children_among source 0 (map view_member ms)
  pub within : AreWithin (length source) cs

pub none-gathered : (source : Source) (ms : List code_member.Member) → AreGathered source [] ms 0
none-gathered source ms = record { done = []; are = tt; rest = refl; within = tt }

one-rest : (source : Source) (d : code_member.Member) (ms : List code_member.Member) (k : ℕ) → k < length ms
    → children_among source k (map view_member (drop k ms))
    ≡ cons_option (child_of_member source k (view_member (slice_index_or ms k d))) (children_among source (k + 1) (map view_member (drop (suc k) ms)))
one-rest source d ms k lt = ap (λ xs. children_among source k (map view_member xs)) (drop-cons ms k d lt)

pub one-more : (source : Source) (d : code_member.Member) (cs new : List code_child.Child) (ms : List code_member.Member) (k : ℕ) (o : Option code_child.Child) → k < length ms
    → IsChildAnswer source (child_of_member source k (view_member (slice_index_or ms k d))) o → new ≡ cs ++ option_to_list o → AreGathered source cs ms k → AreGathered source new ms (k + 1)
one-more source d cs new ms k o lt answer grown h =
    by (child_of_member source k (view_member (slice_index_or ms k d))) o answer grown (ap (λ xs. h.done ++ xs) (sym (one-rest source d ms k lt)) ∙ h.rest)
  where
    by : (a : Option Child) (o : Option code_child.Child) → IsChildAnswer source a o → new ≡ cs ++ option_to_list o
        → h.done ++ cons_option a (children_among source (k + 1) (map view_member (drop (suc k) ms))) ≡ children_among source 0 (map view_member ms) → AreGathered source new ms (k + 1)
    by None (Some c) t g e = absurd t
    by (Some a) None t g e = absurd t
    by None None t g e =
        let is : new ≡ cs = g ∙ append-nil cs in
        record { done = h.done; are = subst (λ xs. AreChildren source xs h.done) (sym is) h.are; rest = rw add-one (rw add-one at e); within = subst (AreWithin (length source)) (sym is) h.within }
    by (Some a) (Some c) t g e = record {
      done = h.done ++ a ∷ [];
      are = subst (λ xs. AreChildren source xs (h.done ++ a ∷ [])) (sym g) (children-append source cs (c ∷ []) h.done (a ∷ []) h.are (t.1, tt));
      rest = append_assoc h.done (a ∷ []) (children_among source (k + 1) (map view_member (drop (k + 1) ms))) ∙ rw add-one (rw add-one at e);
      within = subst (AreWithin (length source)) (sym g) (all-append (λ x. x.definition < length source) cs (c ∷ []) h.within (t.0, tt));
    }

pub all-gathered : (source : Source) (cs : List code_child.Child) (ms : List code_member.Member) (k : ℕ) → k ≡ length ms → AreGathered source cs ms k
    → AreChildren source cs (children_among source 0 (map view_member ms))
all-gathered source cs ms k e h =
    let none : drop k ms ≡ [] = ap (λ n. drop n ms) e ∙ drop-length ms in
    subst (AreChildren source cs) (sym (append-nil h.done) ∙ ap (λ xs. h.done ++ children_among source k (map view_member xs)) (sym none) ∙ h.rest) h.are

-- ---- the children of each definition

pub all-children-append : (source : Source) (vs ws : List (Vec code_child.Child)) (ps qs : List Part) → AreAllChildren source vs ps → AreAllChildren source ws qs
    → AreAllChildren source (vs ++ ws) (ps ++ qs)
all-children-append source [] ws [] qs h k = k
all-children-append source [] ws (p ∷ ps) qs h k = absurd h
all-children-append source (v ∷ vs) ws [] qs h k = absurd h
all-children-append source (v ∷ vs) ws (p ∷ ps) qs h k = (h.0, all-children-append source vs ws ps qs h.1 k)

pub all-children-length : (source : Source) (vs : List (Vec code_child.Child)) (ps : List Part) → AreAllChildren source vs ps → length vs ≡ length ps
all-children-length source [] [] h = refl
all-children-length source [] (p ∷ ps) h = absurd h
all-children-length source (v ∷ vs) [] h = absurd h
all-children-length source (v ∷ vs) (p ∷ ps) h = ap suc (all-children-length source vs ps h.1)

has-children : (source : Source) (vs : List (Vec code_child.Child)) (ps : List Part) (i : ℕ) (m : Module) → AreAllChildren source vs ps → slice_get ps i ≡ Some (a_module m) → HasChildren source vs i m
has-children source [] [] i m h e = cc
has-children source [] (p ∷ ps) i m h e = absurd h
has-children source (v ∷ vs) [] i m h e = absurd h
has-children source (v ∷ vs) (p ∷ ps) zero m h e =
    let is : p ≡ a_module m = cc in record { list = v; there = refl; are = subst (λ q. AreChildren source v.items (part_children source q)) is h.0 }
has-children source (v ∷ vs) (p ∷ ps) (suc i) m h e = let r = has-children source vs ps i m h.1 e in record { list = r.list; there = r.there; are = r.are }

-- the children of the first k definitions
pub record AreAllGathered (source : Source) (all : List (Vec code_child.Child)) (parts : List code_part.Part) (k : ℕ) : Type 0 where
  pub are : AreAllChildren source all (map view_part (take k parts))
  pub within : AreAllWithin (length source) all

pub one-gathered : (source : Source) (d : code_part.Part) (all new : List (Vec code_child.Child)) (v : Vec code_child.Child) (parts : List code_part.Part) (k : ℕ) → k < length parts → new ≡ all ++ v ∷ []
    → AreChildren source v.items (part_children source (view_part (slice_index_or parts k d))) → AreWithin (length source) v.items
    → AreAllGathered source all parts k → AreAllGathered source new parts (k + 1)
one-gathered source d all new v parts k lt grown are within h = record {
  are = subst (λ xs. AreAllChildren source xs (map view_part (take (k + 1) parts))) (sym grown)
      (subst (AreAllChildren source (all ++ v ∷ [])) (sym (ap (map view_part) (take_more parts k d lt) ∙ map-append view_part (take k parts) (slice_index_or parts k d ∷ [])))
      (all-children-append source all (v ∷ []) (map view_part (take k parts)) (view_part (slice_index_or parts k d) ∷ []) h.are (are, tt)));
  within = subst (AreAllWithin (length source)) (sym grown) (all-append (λ w. AreWithin (length source) w.items) all (v ∷ []) h.within (within, tt));
}

whole-gathered : (source : Source) (all : List (Vec code_child.Child)) (parts : List code_part.Part) (k : ℕ) → k ≡ length parts → map view_part parts ≡ source → AreAllGathered source all parts k
    → AreAllChildren source all source
whole-gathered source all parts k e is h =
    subst (AreAllChildren source all) (ap (λ n. map view_part (take n parts)) e ∙ ap (map view_part) (take-length parts) ∙ is) h.are

pub tree-gathered : (source : Source) (all : List (Vec code_child.Child)) (parts : List code_part.Part) (k : ℕ) → k ≡ length parts → map view_part parts ≡ source → two_definitions source ≡ []
    → AreAllGathered source all parts k → IsTree source all
tree-gathered source all parts k e is once h = record { once = once; each = λ i m stands. has-children source all source i m (whole-gathered source all parts k e is h) stands }

pub within-gathered : (source : Source) (all : List (Vec code_child.Child)) (parts : List code_part.Part) (k : ℕ) → k ≡ length parts → map view_part parts ≡ source
    → AreAllGathered source all parts k → AreAllWithin (length all) all
within-gathered source all parts k e is h =
    subst (λ n. AreAllWithin n all) (sym (all-children-length source all source (whole-gathered source all parts k e is h))) h.within
