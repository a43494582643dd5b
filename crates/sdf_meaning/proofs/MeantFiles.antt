-- A file's parts, one after another.
use Rattle.std.proofs.Common.{◌≡◌, ◌∙◌, sym, ap, refl, List, [], ◌∷◌, ◌++◌, append_assoc, map}
use Rattle.std.specs.Prelude.{Some}
use Rattle.std.specs.List.{flat_map}
use Rattle.std.specs.Vec.Iter.{into_iter_items, into_iter_len, into_iter_steps}
use Rattle.std.specs.declared.vec.IntoIter.{IntoIter}
use Rattle.std.proofs.lemmas.List.{append-nil}
use Rattle.sdf_tree.specs.Meant.{Sdf, Cell, cell_of, cells_in, dividers_in, last_or, units_in}
use Rattle.sdf_tree.specs.Written.{FilePart, text_head, divider_head, unit_head, value_head, a_head, a_cell}
use Rattle.sdf_meaning.specs.FileSteps.{with_part}
use Rattle.sdf_meaning.proofs.Moving.{none_left}

-- what a file says that says this so far, with these parts behind
abbrev pub with_parts : Sdf → List FilePart → Sdf
with_parts s ps = record {
  unit = last_or s.unit (flat_map units_in ps);
  divider = last_or s.divider (flat_map dividers_in ps);
  cells = s.cells ++ flat_map cells_in ps;
}

one_part : (s : Sdf) (p : FilePart) (ps : List FilePart) → with_parts (with_part s p) ps ≡ with_parts s (p ∷ ps)
one_part s (a_head text_head) ps = refl
one_part s (a_head (divider_head d)) ps = refl
one_part s (a_head (unit_head u)) ps = refl
one_part s (a_head (value_head v)) ps = refl
one_part s (a_cell c) ps =
    ap (λ (cs : List Cell). record { unit = last_or s.unit (flat_map units_in ps); divider = last_or s.divider (flat_map dividers_in ps); cells = cs })
    (append_assoc s.cells (cell_of c ∷ []) (flat_map cells_in ps))

no_part : (s : Sdf) → with_parts s [] ≡ s
no_part s = ap (λ (cs : List Cell). record { unit = s.unit; divider = s.divider; cells = cs }) (append-nil s.cells)

module _ {X Z : Type 0} (view : X → FilePart) where
  pub parts_begin : (s : IntoIter X Z) (xs : List X) (here first : Sdf) → here ≡ first → into_iter_items s ≡ xs → with_parts here (map view (into_iter_items s)) ≡ with_parts first (map view xs)
  parts_begin s xs here first is e = ap (λ (l : List X). with_parts here (map view l)) e ∙ ap (λ (f : Sdf). with_parts f (map view xs)) is

  pub parts_go_on : (s t : IntoIter X Z) (here next all : Sdf) (x : X) → into_iter_steps s (Some x) t → next ≡ with_part here (view x) → with_parts here (map view (into_iter_items s)) ≡ all
      → with_parts next (map view (into_iter_items t)) ≡ all
  parts_go_on s t here next all x step is so_far =
      ap (λ (n : Sdf). with_parts n (map view (into_iter_items t))) is
      ∙ (one_part here (view x) (map view (into_iter_items t))
      ∙ (ap (λ (l : List X). with_parts here (map view l)) (sym step.0) ∙ so_far))

  pub parts_end : (s : IntoIter X Z) (here all : Sdf) → into_iter_len s ≡ 0 → with_parts here (map view (into_iter_items s)) ≡ all → here ≡ all
  parts_end s here all none so_far = sym (no_part here) ∙ (ap (λ (l : List X). with_parts here (map view l)) (sym (none_left s none)) ∙ so_far)
