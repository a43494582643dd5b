-- What members ask for, one after another.
use Rattle.std.specs.Prelude.{◌≡◌, ℕ, ◌+◌, ◌<◌, List, [], ◌∷◌, ◌++◌, flat_map, length, map, slice_index_or, take}
use Rattle.std.proofs.Common.{sym, ◌∙◌, ap, arith, subst}
use Rattle.std.proofs.lemmas.List.{length-map, take_all}
use Rattle.sg_text.specs.declared.places.Place.{Place}
use Rattle.vl_tree.specs.Tree.{Module}
use Rattle.elab_ends.specs.Seen.{bit_seen}
use Rattle.elab_ends.proofs.InTurn.{flat-more, counted-more, is-next, starts-more}
use Rattle.elab_lates.specs.declared.copies.ModuleCopies.{ModuleCopies}
use Rattle.elab_lates.specs.declared.making.Asked.{Asked}
use Rattle.elab_lates.specs.Copies.{lates_before, AreCopies}
use Rattle.elab_lates.specs.Seen.{placed_seen, AreCopiesInRow}
use Rattle.elab_lates.specs.Words.{HasAsked, AreAsked}
use Rattle.elab_laws.proofs.Copies.{copies-taken, module_copies-first}
use Rattle.elab_model.specs.Ends.{first_bits}
use Rattle.elab_model.specs.Lates.{DelayedCopy, copies, first_copies}
use Rattle.elab_model.specs.Members.{members}
use Rattle.elab_model.specs.Names.{variables}
use Rattle.elab_variables.specs.Seen.{view_member}
use Rattle.elab_variables.specs.declared.member_list.Member as code_member

abbrev pub asked_by : Module → ℕ → List (Place × DelayedCopy)
asked_by m k = flat_map (copies (variables m)) (take k (members m))

module _ (m : Module) where
  -- so many copies come before the next member
  count-is : (k : ℕ) (a : Asked) → HasAsked m (asked_by m k) a → length a.copies.items ≡ lates_before m k
  count-is k a h = sym (length-map a.copies.items (placed_seen (variables m))) ∙ ap length (h.copies ∙ sym (copies-taken m k))

  pub one-more : (code : List code_member.Member) (k : ℕ) (x : code_member.Member) (a new : Asked) (starts next : List ℕ) (n : ℕ) → map view_member code ≡ members m → k < length code → x ≡ slice_index_or code k x
      → AreAsked m k a starts → n ≡ length a.copies.items → next ≡ starts ++ n ∷ [] → HasAsked m (asked_by m k ++ copies (variables m) (view_member x)) new → AreAsked m (k + 1) new next
  one-more code k x a new starts next n is lt at h count e added =
      let one = is-next m code k x is lt at in record {
        asked = subst (λ cs. HasAsked m cs new)
            (ap (λ y. asked_by m k ++ copies (variables m) y) (sym one.there) ∙ sym (flat-more (copies (variables m)) (members m) k (view_member x) one.within)) added;
        counted = counted-more k starts next n h.counted e;
        before = starts-more (lates_before m) k starts next n h.counted h.before (count ∙ count-is k a h.asked) e;
      }

  pub all-asked : (k : ℕ) (a : Asked) (starts : List ℕ) (made : ModuleCopies) (n : ℕ) → length (members m) ≡ k → AreAsked m k a starts → n ≡ length a.copies.items → made.starts.items ≡ starts ++ n ∷ []
      → made.copies.items ≡ a.copies.items → made.index.keys ≡ a.index.keys → made.signals ≡ length a.signals.keys → AreCopies m made
  all-asked k a starts made n all h count e copies_same index_same signals_same =
      let whole : take k (members m) ≡ members m = take_all k (members m) (omega (arith, all)) in
      record {
        copies = ap (map (placed_seen (variables m))) copies_same ∙ h.asked.copies ∙ ap (λ ms. first_copies [] (flat_map (copies (variables m)) ms)) whole ∙ sym (module_copies-first m);
        in_row = subst (AreCopiesInRow (variables m)) (sym copies_same) h.asked.in_row;
        counted = counted-more k starts made.starts.items n h.counted e ∙ ap (λ c. c + 1) (sym all);
        starts = λ i le. starts-more (lates_before m) k starts made.starts.items n h.counted h.before (count ∙ count-is k a h.asked) e i (omega (arith, le, all));
        signals =
            signals_same ∙ sym (length-map a.signals.keys (bit_seen (variables m))) ∙ ap length h.asked.signals
            ∙ ap (λ ms. length (first_bits [] (map (λ (c : Place × DelayedCopy). c.1.signal) (flat_map (copies (variables m)) ms)))) whole;
        indexed = index_same ∙ h.asked.indexed ∙ ap (map (λ x. x.copy)) (sym copies_same);
      }
