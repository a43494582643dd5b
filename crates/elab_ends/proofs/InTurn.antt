-- The ends of members, one after another.
use Rattle.std.specs.Prelude.{◌≡◌, ◌⊎◌, ℕ, zero, suc, ◌+◌, ◌<◌, List, [], ◌∷◌, ◌++◌, Bool, true, false, Some, flat_map, length, map, refl, replicate, slice_get, slice_index_or, take, drop}
use Rattle.std.specs.List.{enumerate_from}
use Rattle.std.proofs.Common.{arith, sym, ◌∙◌, ap, inl, inr, subst, append-nil}
use Rattle.std.proofs.Math.Nat.{eq-or-lt_of_le}
use Rattle.std.proofs.lemmas.Grind.{flat_map-append}
use Rattle.std.proofs.lemmas.List.{drop_all, get_or-map, get_or-replicate, length-append, length-map, length-replicate, take_all, take_more}
use Rattle.std.proofs.lemmas.List.FromFn.{get_or-enumerate_from, length-enumerate_from}
use Rattle.std.proofs.lemmas.Option.{slice_get-get_or}
use Rattle.vl_tree.specs.Tree.{Module}
use Rattle.elab_laws.specs.Handing.{all_bits}
use Rattle.elab_model.specs.Ends.{ends, first_ends}
use Rattle.elab_model.specs.Members.{Member, members}
use Rattle.elab_model.specs.Names.{variables}
use Rattle.elab_variables.specs.Seen.{view_member}
use Rattle.elab_variables.specs.declared.member_list.Member as code_member
use Rattle.elab_ends.specs.declared.ends.PathEnds.{PathEnds}
use Rattle.elab_ends.specs.Ends.{AreEnds, ends_before}
use Rattle.elab_ends.specs.Seen.{AreInRow, bits_seen}
use Rattle.elab_ends.specs.Words.{AreFirst, HasAdded, HasSeen}

pub flat-more : {A B : Type 0} (f : A → List B) (xs : List A) (k : ℕ) (d : A) → k < length xs → flat_map f (take (k + 1) xs) ≡ flat_map f (take k xs) ++ f (slice_index_or xs k d)
flat-more f xs k d lt =
    ap (flat_map f) (take_more xs k d lt) ∙ flat_map-append f (take k xs) (slice_index_or xs k d ∷ []) ∙ ap (λ ys. flat_map f (take k xs) ++ ys) (append-nil (f (slice_index_or xs k d)))

-- what is behind a list stands at its end
at-end : (xs : List ℕ) (x i : ℕ) → i ≡ length xs → slice_get (xs ++ x ∷ []) i ≡ Some x
at-end [] x i e = ap (λ k. slice_get (x ∷ []) k) e
at-end (y ∷ xs) x zero e = absurd (omega (arith, e))
at-end (y ∷ xs) x (suc i) e = at-end xs x i (omega (arith, e))

within : (xs : List ℕ) (x i : ℕ) → i < length xs → slice_get (xs ++ x ∷ []) i ≡ slice_get xs i
within [] x i lt = absurd (omega (arith, lt))
within (y ∷ xs) x zero lt = refl
within (y ∷ xs) x (suc i) lt = within xs x i (omega (arith, lt))

-- where one more begins
pub starts-more : (before : ℕ → ℕ) (k : ℕ) (starts next : List ℕ) (n : ℕ) → length starts ≡ k → ((i : ℕ) → i < k → slice_get starts i ≡ Some (before i)) → n ≡ before k → next ≡ starts ++ n ∷ [] → (i : ℕ) → i < k + 1
    → slice_get next i ≡ Some (before i)
starts-more before k starts next n counted h count e i lt = by (eq-or-lt_of_le (omega (arith, lt)))
  where
    by : (i ≡ k) ⊎ (i < k) → slice_get next i ≡ Some (before i)
    by (inl f) = ap (λ xs. slice_get xs i) e ∙ at-end starts n i (f ∙ sym counted) ∙ ap Some (count ∙ ap before (sym f))
    by (inr l) = ap (λ xs. slice_get xs i) e ∙ within starts n i (subst (λ c. i < c) (sym counted) l) ∙ h i l

pub counted-more : (k : ℕ) (starts next : List ℕ) (n : ℕ) → length starts ≡ k → next ≡ starts ++ n ∷ [] → length next ≡ k + 1
counted-more k starts next n h e = ap length e ∙ length-append starts (n ∷ []) ∙ ap (λ c. c + 1) h

-- a member of the code is the definition's
pub record IsNext (m : Module) (k : ℕ) (x : Member) : Type 0 where
  pub within : k < length (members m)
  pub there : slice_index_or (members m) k x ≡ x

pub is-next : (m : Module) (code : List code_member.Member) (k : ℕ) (x : code_member.Member) → map view_member code ≡ members m → k < length code → x ≡ slice_index_or code k x → IsNext m k (view_member x)
is-next m code k x is lt at = record {
  within = subst (λ c. k < c) (sym (length-map code view_member) ∙ ap length is) lt;
  there = ap (λ ms. slice_index_or ms k (view_member x)) (sym is) ∙ get_or-map view_member code k x (view_member x) lt ∙ ap view_member (sym at);
}

module _ (m : Module) where
  pub first-none : (seen : List Bool) → seen ≡ replicate (length (all_bits (variables m))) false → AreFirst m 0 seen [] []
  first-none seen e = record {
    marked = λ i lt.
        ap (λ marks. slice_get marks i) e
        ∙ slice_get-get_or (replicate (length (all_bits (variables m))) false) i true (subst (λ n. i < n) (sym (length-replicate (length (all_bits (variables m))) false)) lt)
        ∙ ap Some (get_or-replicate (length (all_bits (variables m))) i false true lt);
    these = refl;
    counted = refl;
    before = λ i lt. absurd (omega (arith, lt));
  }

  -- so many ends come before the next member
  count-is : (k : ℕ) (seen : List Bool) (bits starts : List ℕ) → AreFirst m k seen bits starts → length bits ≡ ends_before m k
  count-is k seen bits starts h = sym (length-map bits _) ∙ ap length h.these

  pub first-more : (k : ℕ) (x : Member) (seen marks : List Bool) (bits new starts next : List ℕ) (n : ℕ) → k < length (members m) → slice_index_or (members m) k x ≡ x → AreFirst m k seen bits starts
      → n ≡ length bits → next ≡ starts ++ n ∷ [] → HasAdded m (ends m x) (flat_map (ends m) (take k (members m))) marks bits new → AreFirst m (k + 1) marks new next
  first-more k x seen marks bits new starts next n lt is h count e added = record {
    marked = subst (HasSeen m marks) (ap (λ y. flat_map (ends m) (take k (members m)) ++ ends m y) (sym is) ∙ sym (flat-more (ends m) (members m) k x lt)) added.marked;
    these =
        added.bits ∙ ap (λ bs. bs ++ first_ends m (k, x)) h.these
        ∙ sym (flat-more (first_ends m) (enumerate_from 0 (members m)) k (0, x) (subst (λ n. k < n) (sym (length-enumerate_from 0 (members m))) lt)
        ∙ ap (λ y. flat_map (first_ends m) (take k (enumerate_from 0 (members m))) ++ first_ends m y) (get_or-enumerate_from 0 (members m) k (0, x) lt ∙ ap (λ y. (0 + k, y)) is ∙ ap (λ j. (j, x)) (omega arith)));
    counted = counted-more k starts next n h.counted e;
    before = starts-more (ends_before m) k starts next n h.counted h.before (count ∙ count-is k seen bits starts h) e;
  }

  pub as-ends : (k : ℕ) (seen : List Bool) (bits starts : List ℕ) (made : PathEnds) (n : ℕ) → length (members m) ≡ k → AreFirst m k seen bits starts → AreInRow (variables m) bits
      → n ≡ length bits → made.starts.items ≡ starts ++ n ∷ [] → made.bits.items ≡ bits → AreEnds m made
  as-ends k seen bits starts made n all h row count e same = record {
    bits = ap (bits_seen (variables m)) same ∙ h.these ∙ ap (flat_map (first_ends m)) (take_all k (enumerate_from 0 (members m)) (omega (arith, length-enumerate_from 0 (members m), all)));
    in_row = subst (AreInRow (variables m)) (sym same) row;
    counted = counted-more k starts made.starts.items n h.counted e ∙ ap (λ c. c + 1) (sym all);
    starts = λ i le. starts-more (ends_before m) k starts made.starts.items n h.counted h.before (count ∙ count-is k seen bits starts h) e i (omega (arith, le, all));
  }

  -- the next of the code's members
  pub member-more : (code : List code_member.Member) (k : ℕ) (x : code_member.Member) (seen marks : List Bool) (bits new starts next : List ℕ) (n : ℕ) → map view_member code ≡ members m → k < length code
      → x ≡ slice_index_or code k x → AreFirst m k seen bits starts → n ≡ length bits → next ≡ starts ++ n ∷ [] → HasAdded m (ends m (view_member x)) (flat_map (ends m) (take k (members m))) marks bits new
      → AreFirst m (k + 1) marks new next
  member-more code k x seen marks bits new starts next n is lt at h count e added =
      let next_one = is-next m code k x is lt at in
      first-more k (view_member x) seen marks bits new starts next n next_one.within next_one.there h count e added

-- marks that were lent stand for all
pub lent : (len : ℕ) (marks seen : List Bool) → len ≡ length seen → length marks ≡ length seen → take len (marks ++ drop (length marks) seen) ≡ marks
lent len marks seen l e =
    ap (λ xs. take len (marks ++ xs)) (drop_all (length marks) seen (omega (arith, e))) ∙ ap (take len) (append-nil marks) ∙ take_all len marks (omega (arith, l, e))
