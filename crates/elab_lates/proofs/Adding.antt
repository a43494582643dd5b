-- One more copy that is asked for.
use Rattle.std.specs.Prelude.{◌≡◌, ℕ, ◌<◌, List, [], ◌∷◌, ◌++◌, Bool, true, false, not, nat_eq, length, map, refl, if◌then◌else◌}
use Rattle.std.specs.List.{list_any}
use Rattle.std.proofs.Common.{sym, ◌∙◌, ap, subst, append-nil}
use Rattle.std.proofs.lemmas.List.{map-append}
use Rattle.std.proofs.lemmas.List.Elements.{All-push, recursion_from_All}
use Rattle.sg_text.specs.declared.places.Place.{Place}
use Rattle.vl_tree.specs.Tree.{Module}
use Rattle.elab_ends.specs.Seen.{bit_seen, bits_seen, AreInRow}
use Rattle.elab_lates.specs.declared.copies.DelayedCopy as code
use Rattle.elab_lates.specs.declared.copies.PlacedCopy.{PlacedCopy}
use Rattle.elab_lates.specs.declared.making.Asked.{Asked}
use Rattle.elab_lates.specs.Seen.{placed_seen, AreCopiesInRow, IsCopyInRow}
use Rattle.elab_lates.specs.Words.{HasAsked}
use Rattle.elab_lates.proofs.Tests.{any-first, any-first_bit, signal_of, signal-told, same, any-seen, any-bit}
use Rattle.elab_laws.specs.Handing.{all_bits}
use Rattle.elab_laws.proofs.Copies.{copy_of, first_copies-append}
use Rattle.elab_laws.proofs.Ends.{is_one_of, first_bits-append}
use Rattle.elab_model.specs.Ends.{first_bits}
use Rattle.elab_model.specs.Lates.{DelayedCopy, is_same_copy, first_copies}
use Rattle.elab_model.specs.Names.{variables}

-- whether the code's index had it
pub had : (t new : Bool) → new ≡ not t → new ≡ false → t ≡ true
had true new e f = refl
had false new e f = cc

pub had-not : (t new : Bool) → new ≡ not t → new ≡ true → t ≡ false
had-not true new e f = cc
had-not false new e f = refl

copies-more : (before : List (Place × DelayedCopy)) (x : Place × DelayedCopy) (t : Bool) → list_any (is_same_copy x.1) (map copy_of before) ≡ t
    → first_copies [] before ++ (if t then [] else x ∷ []) ≡ first_copies [] (before ++ x ∷ [])
copies-more before x t e = ap (λ b. first_copies [] before ++ (if b then [] else x ∷ [])) (sym e) ∙ sym (first_copies-append [] before (x ∷ []))

signals-more : (before : List (Place × DelayedCopy)) (x : Place × DelayedCopy) (t : Bool) → is_one_of (signal_of x) (map signal_of before) ≡ t
    → first_bits [] (map signal_of before) ++ (if t then [] else signal_of x ∷ []) ≡ first_bits [] (map signal_of (before ++ x ∷ []))
signals-more before x t e =
    ap (λ b. first_bits [] (map signal_of before) ++ (if b then [] else signal_of x ∷ [])) (sym e) ∙ sym (first_bits-append [] (map signal_of before) (signal_of x ∷ []))
    ∙ ap (first_bits []) (sym (map-append signal_of before (x ∷ [])))

module _ (m : Module) (before : List (Place × DelayedCopy)) (a : Asked) (h : HasAsked m before a) (c : PlacedCopy) (row : IsCopyInRow (variables m) c.copy) where
  abbrev x : Place × DelayedCopy
  x = placed_seen (variables m) c

  told : list_any (same c.copy) a.index.keys ≡ list_any (is_same_copy x.1) (map copy_of before)
  told =
      ap (list_any (same c.copy)) h.indexed ∙ any-seen m c.copy row a.copies.items (recursion_from_All (λ (d : PlacedCopy). IsCopyInRow (variables m) d.copy) a.copies.items h.in_row)
      ∙ ap (λ ds. list_any (is_same_copy x.1) (map copy_of ds)) h.copies ∙ any-first x.1 before

  signal-found : list_any (nat_eq c.copy.signal) a.signals.keys ≡ is_one_of (signal_of x) (map signal_of before)
  signal-found =
      any-bit m c.copy.signal row.0 a.signals.keys (recursion_from_All (λ (j : ℕ). j < length (all_bits (variables m))) a.signals.keys h.signals_in_row)
      ∙ ap (is_one_of (signal_of x)) h.signals ∙ any-first_bit (signal_of x) (map signal_of before)

  -- one that is known adds nothing
  pub known : (index : List code.DelayedCopy) → list_any (same c.copy) a.index.keys ≡ true → index ≡ (if list_any (same c.copy) a.index.keys then a.index.keys else a.index.keys ++ c.copy ∷ [])
      → (new : Asked) → new.copies ≡ a.copies → new.signals ≡ a.signals → new.index.keys ≡ index → HasAsked m (before ++ x ∷ []) new
  known index e i new copies signals is =
      let there = sym told ∙ e in
      record {
        copies = ap (λ v. map (placed_seen (variables m)) v.items) copies ∙ h.copies ∙ sym (append-nil (first_copies [] before)) ∙ copies-more before x true there;
        in_row = subst (λ v. AreCopiesInRow (variables m) v.items) (sym copies) h.in_row;
        indexed = is ∙ i ∙ ap (λ b. if b then a.index.keys else a.index.keys ++ c.copy ∷ []) e ∙ h.indexed ∙ ap (λ v. map (λ d. d.copy) v.items) (sym copies);
        signals =
            ap (λ s. bits_seen (variables m) s.keys) signals ∙ h.signals ∙ sym (append-nil (first_bits [] (map signal_of before)))
            ∙ signals-more before x true (signal-told x.1 before there);
        signals_in_row = subst (λ s. AreInRow (variables m) s.keys) (sym signals) h.signals_in_row;
      }

  signals-after : (t : Bool) → list_any (nat_eq c.copy.signal) a.signals.keys ≡ t → (new : List ℕ) → new ≡ (if t then a.signals.keys else a.signals.keys ++ c.copy.signal ∷ [])
      → bits_seen (variables m) new ≡ first_bits [] (map signal_of (before ++ x ∷ []))
  signals-after true t new e = ap (bits_seen (variables m)) e ∙ h.signals ∙ sym (append-nil (first_bits [] (map signal_of before))) ∙ signals-more before x true (sym signal-found ∙ t)
  signals-after false t new e =
      ap (bits_seen (variables m)) e ∙ map-append (bit_seen (variables m)) a.signals.keys (c.copy.signal ∷ []) ∙ ap (λ bs. bs ++ signal_of x ∷ []) h.signals
      ∙ signals-more before x false (sym signal-found ∙ t)

  signals-row : (t : Bool) (new : List ℕ) → new ≡ (if t then a.signals.keys else a.signals.keys ++ c.copy.signal ∷ []) → AreInRow (variables m) new
  signals-row true new e = subst (AreInRow (variables m)) (sym e) h.signals_in_row
  signals-row false new e = subst (AreInRow (variables m)) (sym e) (All-push (λ (j : ℕ). j < length (all_bits (variables m))) a.signals.keys c.copy.signal h.signals_in_row row.0)

  -- a new one is added
  pub added : list_any (same c.copy) a.index.keys ≡ false → (new : Asked)
      → new.index.keys ≡ (if list_any (same c.copy) a.index.keys then a.index.keys else a.index.keys ++ c.copy ∷ [])
      → new.signals.keys ≡ (if list_any (nat_eq c.copy.signal) a.signals.keys then a.signals.keys else a.signals.keys ++ c.copy.signal ∷ [])
      → new.copies.items ≡ a.copies.items ++ c ∷ [] → HasAsked m (before ++ x ∷ []) new
  added e new index signals copies = record {
    copies = ap (map (placed_seen (variables m))) copies ∙ map-append (placed_seen (variables m)) a.copies.items (c ∷ []) ∙ ap (λ cs. cs ++ x ∷ []) h.copies ∙ copies-more before x false (sym told ∙ e);
    in_row = subst (AreCopiesInRow (variables m)) (sym copies) (All-push (λ (d : PlacedCopy). IsCopyInRow (variables m) d.copy) a.copies.items c h.in_row row);
    indexed =
        index ∙ ap (λ b. if b then a.index.keys else a.index.keys ++ c.copy ∷ []) e ∙ ap (λ ks. ks ++ c.copy ∷ []) h.indexed ∙ sym (map-append (λ (d : PlacedCopy). d.copy) a.copies.items (c ∷ []))
        ∙ ap (map (λ (d : PlacedCopy). d.copy)) (sym copies);
    signals = signals-after (list_any (nat_eq c.copy.signal) a.signals.keys) refl new.signals.keys signals;
    signals_in_row = signals-row (list_any (nat_eq c.copy.signal) a.signals.keys) new.signals.keys signals;
  }
