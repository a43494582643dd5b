-- The bits of which there are delayed copies that no text names: none stands twice.
use Rattle.std.specs.Prelude.{◌≡◌, ℕ, List, [], ◌∷◌, ◌++◌, Bool, true, false, ◌&&◌, is_none, Option, Some, None, filter, flat_map, map, refl, if◌then◌else◌}
use Rattle.std.specs.List.{AllByRecursion, enumerate_from}
use Rattle.std.proofs.Common.{sym, ◌∙◌, ap, subst}
use Rattle.std.proofs.lemmas.List.{map-append}
use Rattle.std.proofs.lemmas.List.Elements.{filter-append}
use Rattle.sg_text.specs.declared.places.Place.{Place}
use Rattle.vl_tree.specs.Tree.{Module}
use Rattle.elab_model.specs.Lates.{DelayedCopy, is_same_name, is_unnamed, copies, own_copies, module_copies}
use Rattle.elab_model.specs.Members.{Member, members}
use Rattle.elab_model.specs.Names.{variables}
use Rattle.elab_model.specs.Terms.{NetBit, is_same_bit}
use Rattle.elab_laws.proofs.Apart.{late_bits}
use Rattle.elab_laws.proofs.Copies.{AreOtherCopies, first_copies-apart, module_copies-apart}
use Rattle.elab_laws.proofs.Ends.{AreOtherBits}
use Rattle.elab_laws.proofs.Lists.{Pairwise, Cross, pairwise-pieces}

abbrev signal_of : Place × DelayedCopy → NetBit
signal_of c = c.1.signal

-- copies without names differ in what they copy
unnamed-tell : (c d : Place × DelayedCopy) → is_unnamed c ≡ true → is_unnamed d ≡ true → AreOtherCopies c d → AreOtherBits c.1.signal d.1.signal
unnamed-tell c d h g e = by c.1.named d.1.named h g (is_same_bit c.1.signal d.1.signal) e
  where
    by : (a b : Option NetBit) → is_none a ≡ true → is_none b ≡ true → (t : Bool) → (t && is_same_name a b) ≡ false → t ≡ false
    by None None h g true e = cc
    by None None h g false e = refl
    by None (Some x) h g t e = cc
    by (Some x) b h g t e = cc

signals-apart : (cs : List (Place × DelayedCopy)) → Pairwise AreOtherCopies cs → Pairwise AreOtherBits (map signal_of (filter is_unnamed cs))
signals-apart [] h = tt
signals-apart (c ∷ cs) h = by (is_unnamed c) refl (signals-apart cs h.1)
  where
    each : (ds : List (Place × DelayedCopy)) → is_unnamed c ≡ true → AllByRecursion (AreOtherCopies c) ds → AllByRecursion (AreOtherBits c.1.signal) (map signal_of (filter is_unnamed ds))
    each [] e k = tt
    each (d ∷ ds) e k = one (is_unnamed d) refl (each ds e k.1)
      where
        one : (t : Bool) → is_unnamed d ≡ t → AllByRecursion (AreOtherBits c.1.signal) (map signal_of (filter is_unnamed ds))
            → AllByRecursion (AreOtherBits c.1.signal) (map signal_of (if t then d ∷ filter is_unnamed ds else filter is_unnamed ds))
        one true g r = (unnamed-tell c d e g k.0, r)
        one false g r = r

    by : (t : Bool) → is_unnamed c ≡ t → Pairwise AreOtherBits (map signal_of (filter is_unnamed cs)) → Pairwise AreOtherBits (map signal_of (if t then c ∷ filter is_unnamed cs else filter is_unnamed cs))
    by true e r = (each cs e h.0, r)
    by false e r = r

-- of one member
pub late_bits-apart : (m : Module) (x : ℕ × Member) → Pairwise AreOtherBits (late_bits m x)
late_bits-apart m x = signals-apart (own_copies m x) (first_copies-apart _ (copies (variables m) x.1))

-- and of two members
late_bits-flat : (m : Module) (xs : List (ℕ × Member)) → flat_map (late_bits m) xs ≡ map signal_of (filter is_unnamed (flat_map (own_copies m) xs))
late_bits-flat m [] = refl
late_bits-flat m (x ∷ xs) =
    ap (λ bs. late_bits m x ++ bs) (late_bits-flat m xs)
    ∙ sym (map-append signal_of (filter is_unnamed (own_copies m x)) (filter is_unnamed (flat_map (own_copies m) xs)))
    ∙ ap (map signal_of) (sym (filter-append is_unnamed (own_copies m x) (flat_map (own_copies m) xs)))

pub late_bits-cross : (m : Module) → Pairwise (λ x y. Cross AreOtherBits (late_bits m x) (late_bits m y)) (enumerate_from 0 (members m))
late_bits-cross m =
    pairwise-pieces AreOtherBits (late_bits m) (enumerate_from 0 (members m))
    (subst (Pairwise AreOtherBits) (sym (late_bits-flat m (enumerate_from 0 (members m)))) (signals-apart (module_copies m) (module_copies-apart m)))
