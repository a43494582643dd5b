-- Limits after entries: of a check that has one limit no entry changes the second of the two that are kept.
use Rattle.std.specs.Prelude.{◌≡◌, ℕ, ℤ, pos, ◌&&◌, Bool, true, false, if◌then◌else◌, List, [], ◌∷◌, Option, None, slice_index_or, refl}
use Rattle.std.specs.List.{filter}
use Rattle.std.proofs.Common.{◌∙◌, ap, arith}
use Rattle.sg_delay.specs.declared.corners.Corner.{Corner}
use Rattle.sg_circuit.specs.Checks.{CheckConditions}
use Rattle.sg_circuit.specs.Circuit.{Circuit}
use Rattle.sg_circuit.specs.Signals.{takes_lates}
use Rattle.sg_circuit.specs.declared.checks.CheckKind.{CheckKind}
use Rattle.sg_circuit.specs.declared.checks.CheckTiming.{CheckTiming}
use Rattle.sdf_tree.specs.declared.words.Divider.{Divider}
use Rattle.sdf_tree.specs.Meant.{CellCheck, EntryKind, io_path, device, port_delay, interconnect, path_pulse, a_check, skipped_entry, Sdf, Triple}
use Rattle.annotation_model.specs.Applied.{Bounds, Grid, chosen_if, limit_or, with_limits}
use Rattle.annotation_model.specs.Given.{Given}
use Rattle.annotation_model.specs.Matching.{fits_check, given_by, limits_for, none_given}
use Rattle.annotation_model.specs.Scopes.{is_of_cell}
use Rattle.annotation_model.specs.Spots.{Checked, after, bounds, given_to, grid, is_for_check, limits_after, limits_with}

-- the second part is given to kinds that have it
none-for_one : (check : CellCheck) (k : CheckKind) → takes_lates k ≡ false → (limits_for check k).1 ≡ None
none-for_one check k e = grind arith

none-by : (c : Circuit) (divider : Divider) (g : Given) (kind : EntryKind) (s : ℕ) (t : CheckTiming) (w : CheckConditions) → takes_lates t.kind ≡ false → (given_by c divider g kind s t w).1 ≡ None
none-by c divider g (io_path condition from to ds) s t w e = refl
none-by c divider g (device output ds) s t w e = refl
none-by c divider g (port_delay port ds) s t w e = refl
none-by c divider g (interconnect from to ds) s t w e = refl
none-by c divider g (path_pulse percent ports reject error) s t w e = refl
none-by c divider g (a_check check) s t w e = by (is_of_cell c divider g.cell_type g.instance s && fits_check c divider check s t w)
  where
    by : (b : Bool) → (if b then limits_for check t.kind else none_given).1 ≡ None
    by true = none-for_one check t.kind e
    by false = refl
none-by c divider g (skipped_entry word) s t w e = refl

second-kept : (b : Bounds) (g : Grid) (l : Option Triple × Option Triple) (limits : List ℤ) → l.1 ≡ None → slice_index_or (with_limits b g l limits) 1 (pos 0) ≡ slice_index_or limits 1 (pos 0)
second-kept b g l [] e = refl
second-kept b g l (x ∷ []) e = refl
second-kept b g l (x ∷ y ∷ rest) e = ap (λ o. limit_or b.signed (chosen_if g o) y) e

module _ (c : Circuit) (sdf : Sdf) (corner : Corner) (k : Checked) (one : takes_lates k.timing.kind ≡ false) where
  after-entries : (gs : List Given) (limits : List ℤ) → slice_index_or (after (λ g. limits_with c sdf corner g k) gs limits) 1 (pos 0) ≡ slice_index_or limits 1 (pos 0)
  after-entries [] limits = refl
  after-entries (g ∷ gs) limits =
      after-entries gs (limits_with c sdf corner g k limits)
      ∙ second-kept (bounds c k) (grid c sdf corner k.check.scope) (given_to c sdf.divider g k) limits (none-by c sdf.divider g g.entry.kind k.check.scope k.timing k.written one)

  pub second-after : (gs : List Given) → slice_index_or (limits_after c sdf corner gs k) 1 (pos 0) ≡ slice_index_or k.timing.limits 1 (pos 0)
  second-after gs = after-entries (filter (λ g. is_for_check c sdf.divider g k) gs) k.timing.limits
