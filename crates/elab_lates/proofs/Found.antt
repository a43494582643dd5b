-- A member's own copies, and the place of a copy.
use Rattle.std.specs.Prelude.{◌≡◌, ◌⊎◌, ℕ, ◌+◌, ◌-◌, ◌<◌, ◌≤◌, List, [], ◌∷◌, Option, None, Some, MatchOption, drop, length, map, position, refl, slice_get, take, cond}
use Rattle.std.specs.Borrow.{Bor}
use Rattle.std.specs.List.{AllByRecursion, position_from}
use Rattle.std.specs.Option.{option_map}
use Rattle.std.proofs.Common.{◌∙◌, ap, arith, inl, inr, subst}
use Rattle.std.proofs.lemmas.Iterator.Adapters.{position_from-zero}
use Rattle.std.proofs.lemmas.List.Elements.{recursion_from_All}
use Rattle.sg_text.specs.declared.places.Place.{Place}
use Rattle.vl_tree.specs.Tree.{Module}
use Rattle.elab_ends.proofs.Spans.{is-within, is-part}
use Rattle.elab_lates.specs.declared.copies.DelayedCopy as code
use Rattle.elab_lates.specs.declared.copies.ModuleCopies.{ModuleCopies}
use Rattle.elab_lates.specs.declared.copies.PlacedCopy.{PlacedCopy}
use Rattle.elab_lates.specs.Copies.{AreCopies}
use Rattle.elab_lates.specs.Seen.{copy_seen, placed_seen, IsCopyInRow}
use Rattle.elab_lates.specs.Words.{IsOwn}
use Rattle.elab_lates.proofs.Tests.{same, copies-same}
use Rattle.elab_model.specs.Lates.{DelayedCopy, is_same_copy, module_copies, own_copies}
use Rattle.elab_model.specs.Members.{Member, members}
use Rattle.elab_model.specs.Names.{variables}

not-past : (first end count : ℕ) → (first ≤ end) × (end ≤ count) → (end < first) ⊎ (count < end) → ⊥
not-past first end count h (inl lt) = let le = h.0 in omega arith
not-past first end count h (inr lt) = let le = h.1 in omega arith

module _ (m : Module) (c : ModuleCopies) (are : AreCopies m c) (k : ℕ) (i : Member) (there : slice_get (members m) k ≡ Some i) where
  not-outside : (first end count : ℕ) → slice_get c.starts.items k ≡ Some first → slice_get c.starts.items (k + 1) ≡ Some end → count ≡ length c.copies.items → (end < first) ⊎ (count < end) → ⊥
  not-outside first end count f g n h =
      not-past first end (length c.copies.items) (is-within (own_copies m) (members m) (placed_seen (variables m)) c.copies.items c.starts.items are.copies are.starts k i there first end f g)
      (subst (λ x. (end < first) ⊎ (x < end)) n h)

  are-own : (first end : ℕ) (part : List PlacedCopy) → slice_get c.starts.items k ≡ Some first → slice_get c.starts.items (k + 1) ≡ Some end → part ≡ take (end - first) (drop first c.copies.items)
      → map (placed_seen (variables m)) part ≡ own_copies m (k, i)
  are-own first end part f g p = is-part (own_copies m) (members m) (placed_seen (variables m)) c.copies.items c.starts.items are.copies are.starts k i there first end part f g p

  pub own-by : (first end : ℕ) (all : List PlacedCopy) (r : Option (Bor (List PlacedCopy))) → slice_get c.starts.items k ≡ Some first → slice_get c.starts.items (k + 1) ≡ Some end → all ≡ c.copies.items
      → MatchOption r ((end < first) ⊎ (length all < end)) (λ x. (first ≤ end) × (end ≤ length all) × (x.now ≡ take (end - first) (drop first all)) × (length x.now + first ≡ end))
      → IsOwn m (k, i) (option_map (λ p. p.now) r)
  own-by first end all None f g e h = not-outside first end (length all) f g (ap length e) h
  own-by first end all (Some x) f g e h = are-own first end x.now f g (h.2 ∙ ap (λ xs. take (end - first) (drop first xs)) e)

-- ---- where a copy stands

position-seen : (m : Module) (c : code.DelayedCopy) → IsCopyInRow (variables m) c → (n : ℕ) (ds : List PlacedCopy) → AllByRecursion (λ d. IsCopyInRow (variables m) d.copy) ds
    → position_from (same c) n (map (λ d. d.copy) ds) ≡ position_from (λ (d : Place × DelayedCopy). is_same_copy (copy_seen (variables m) c) d.1) n (map (placed_seen (variables m)) ds)
position-seen m c h n [] g = refl
position-seen m c h n (d ∷ ds) g =
    ap (λ b. cond b (Some n) (position_from (same c) (n + 1) (map (λ d. d.copy) ds))) (copies-same m c d.copy h g.0)
    ∙ ap (cond (is_same_copy (copy_seen (variables m) c) (copy_seen (variables m) d.copy)) (Some n)) (position-seen m c h (n + 1) ds g.1)

pub found : (m : Module) (made : ModuleCopies) → AreCopies m made → (c : code.DelayedCopy) → IsCopyInRow (variables m) c
    → position (same c) made.index.keys ≡ position_from (λ (d : Place × DelayedCopy). is_same_copy (copy_seen (variables m) c) d.1) 0 (module_copies m)
found m made are c h =
    position_from-zero (same c) made.index.keys ∙ ap (position_from (same c) 0) are.indexed
    ∙ position-seen m c h 0 made.copies.items (recursion_from_All (λ (d : PlacedCopy). IsCopyInRow (variables m) d.copy) made.copies.items are.in_row)
    ∙ ap (position_from (λ (d : Place × DelayedCopy). is_same_copy (copy_seen (variables m) c) d.1) 0) are.copies
