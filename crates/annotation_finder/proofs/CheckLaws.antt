-- Timing checks, and what is asked of them.
use Rattle.std.specs.Prelude.{◌≡◌, refl, ℕ, zero, suc, ◌<◌, ◌&&◌, nat_lt, Bool, true, false, if◌then◌else◌, List, [], ◌∷◌, length, map, slice_index_or, Option, Some, None}
use Rattle.std.specs.Option.{option_map}
use Rattle.std.proofs.Common.{ap, sym, ◌∙◌, subst, arith}
use Rattle.std.proofs.Math.Bool.{and_assoc}
use Rattle.std.proofs.lemmas.Bool.Decides.{nat_tests}
use Rattle.std.proofs.lemmas.List.{get_or-map, get_or_default, length-map}
use Rattle.cond_expr.specs.Token.{Tok}
use Rattle.sg_circuit.specs.Circuit.{Circuit}
use Rattle.sg_circuit.specs.Checks.{CheckConditions}
use Rattle.sg_circuit.specs.ChecksSeen.{written_seen}
use Rattle.sg_circuit.specs.Closed.{IsClosed}
use Rattle.sg_circuit.specs.Seen.{circuit_seen, scope_seen}
use Rattle.sg_circuit.specs.declared.circuits.Parts.{Parts}
use Rattle.sg_circuit.specs.declared.checks.CheckConditions as code_conditions
use Rattle.sg_circuit.specs.declared.scopes.Scope as code_scope
use Rattle.sg_circuit.specs.declared.checks.Check.{Check}
use Rattle.sg_circuit.specs.declared.checks.CheckTiming.{CheckTiming}
use Rattle.sg_circuit.specs.declared.checks.Event.{Event}
use Rattle.sdf_tree.specs.declared.tree.Edge.{Edge}
use Rattle.sdf_tree.specs.declared.words.Divider.{Divider}
use Rattle.sdf_tree.specs.Written.{Terminal}
use Rattle.sdf_tree.specs.Meant.{Triple, CellCheck, EntryKind, io_path, device, port_delay, interconnect, path_pulse, a_check, skipped_entry}
use Rattle.annotation_model.specs.Given.{Given}
use Rattle.annotation_model.specs.Scopes.{is_of_cell}
use Rattle.annotation_model.specs.Matching.{fits_event, fits_datum, fits_check, terminals_of, limits_for, given_by, none_given}
use Rattle.annotation_model.specs.Spots.{Checked, checked, all_checked, is_given, is_for_check}
use Rattle.annotation_model.specs.Finding.{no_check, check_at}
use Rattle.annotation_places.proofs.PlaceLaws.{length-checked}
use Rattle.annotation_finder.specs.Finding.{is_marked}
use Rattle.annotation_finder.specs.Sought.{Named}
use Rattle.annotation_finder.specs.Checks.{SoughtTerminal, SoughtTerminals, terminal_for, terminals_for, datum_fits, events_fit, check_fits, check_passes}

-- ---- the three tables of checks

-- what stands at a place of each
pub checked_at : (ks : List Check) (ts : List CheckTiming) (ws : List CheckConditions) (i : ℕ) (d : Checked) (k : Check) (t : CheckTiming) (w : CheckConditions)
    → i < length ks → length ts ≡ length ks → length ws ≡ length ks
    → slice_index_or (checked ks ts ws) i d ≡ record { check = slice_index_or ks i k; timing = slice_index_or ts i t; written = slice_index_or ws i w }
checked_at [] ts ws i d k t w l m n = absurd (omega arith)
checked_at (x ∷ ks) [] ws i d k t w l m n = absurd (omega arith)
checked_at (x ∷ ks) (y ∷ ts) [] i d k t w l m n = absurd (omega arith)
checked_at (x ∷ ks) (y ∷ ts) (z ∷ ws) zero d k t w l m n = refl
checked_at (x ∷ ks) (y ∷ ts) (z ∷ ws) (suc i) d k t w l m n = checked_at ks ts ws i d k t w (omega arith) (omega arith) (omega arith)

-- what the code's tables have at a place
module _ (parts : Parts) (closed : IsClosed (circuit_seen parts)) (k : ℕ) (within : k < length parts.checks.items) where
  pub timing_within : k < length parts.check_timings.items
  timing_within = let n = closed.timing_of_each in omega (arith, n, within)

  pub conditions_within : k < length parts.check_conditions.items
  conditions_within =
      let n = closed.conditions_of_each in
      let m = length-map parts.check_conditions.items (written_seen parts.conditions.items) in
      omega (arith, n, m, within)

  pub check_scope : (x : Check) → x ≡ slice_index_or parts.checks.items k x → x.scope < length parts.scopes.items
  check_scope x e =
      let n = length-map parts.scopes.items (λ (s : code_scope.Scope). scope_seen s) in
      let l : x.scope < length (circuit_seen parts).scopes = subst (λ (y : Check). y.scope < length (circuit_seen parts).scopes) (sym e) (closed.check_scopes k x within) in
      omega (arith, n, l)

  table_at : (x : Check) (y : CheckTiming) (z : code_conditions.CheckConditions) → x ≡ slice_index_or parts.checks.items k x → y ≡ slice_index_or parts.check_timings.items k y
      → z ≡ slice_index_or parts.check_conditions.items k z → check_at (circuit_seen parts) k ≡ record { check = x; timing = y; written = written_seen parts.conditions.items z }
  table_at x y z e f g =
      checked_at parts.checks.items parts.check_timings.items (map (written_seen parts.conditions.items) parts.check_conditions.items) k no_check x y (written_seen parts.conditions.items z)
      within closed.timing_of_each closed.conditions_of_each
      ∙ (ap (λ c. record { check = c; timing = slice_index_or parts.check_timings.items k y; written = slice_index_or seen k (written_seen parts.conditions.items z) }) (sym e)
      ∙ (ap (λ t. record { check = x; timing = t; written = slice_index_or seen k (written_seen parts.conditions.items z) }) (sym f)
      ∙ ap (λ w. record { check = x; timing = y; written = w })
      (get_or-map (written_seen parts.conditions.items) parts.check_conditions.items k z (written_seen parts.conditions.items z) conditions_within ∙ ap (written_seen parts.conditions.items) (sym g))))
    where
      seen : List CheckConditions
      seen = map (written_seen parts.conditions.items) parts.check_conditions.items

  counted : nat_lt k (length (all_checked (circuit_seen parts))) ≡ true
  counted = let n = length-checked parts.checks.items parts.check_timings.items (map (written_seen parts.conditions.items) parts.check_conditions.items) closed.timing_of_each closed.conditions_of_each in grind (arith, nat_tests)

  pub place_passes : (marks : List Bool) (check : CellCheck) (t : SoughtTerminals) (x : Check) (y : CheckTiming) (z : code_conditions.CheckConditions) → x ≡ slice_index_or parts.checks.items k x
      → y ≡ slice_index_or parts.check_timings.items k y → z ≡ slice_index_or parts.check_conditions.items k z
      → check_passes (circuit_seen parts) marks check t k
      ≡ (is_marked marks x.scope && (events_fit (circuit_seen parts) x.scope t y (written_seen parts.conditions.items z) && is_given (limits_for check y.kind)))
  place_passes marks check t x y z e f g =
      ap (λ b. b && check_fits (circuit_seen parts) (is_marked marks) check t (check_at (circuit_seen parts) k)) counted
      ∙ ap (check_fits (circuit_seen parts) (is_marked marks) check t) (table_at x y z e f g)

-- the mark of a scope, as it was read, settles it, or the rest does
mark_is : (marks : List Bool) (n s : ℕ) (b : Bool) → length marks ≡ n → s < n → b ≡ slice_index_or marks s b → is_marked marks s ≡ b
mark_is marks n s b e l r = get_or_default marks s false b (omega (arith, e, l)) ∙ sym r

pub unmarked : (passes rest : Bool) (marks : List Bool) (n s : ℕ) (b : Bool) → length marks ≡ n → s < n → b ≡ slice_index_or marks s b → passes ≡ (is_marked marks s && rest) → b ≡ false → false ≡ passes
unmarked passes rest marks n s b e l r p m = sym (p ∙ ap (λ x. x && rest) (mark_is marks n s b e l r ∙ m))

pub marked : (passes rest found : Bool) (marks : List Bool) (n s : ℕ) (b : Bool) → length marks ≡ n → s < n → b ≡ slice_index_or marks s b → passes ≡ (is_marked marks s && rest) → b ≡ true → found ≡ rest
    → found ≡ passes
marked passes rest found marks n s b e l r p m f = f ∙ sym (p ∙ ap (λ x. x && rest) (mark_is marks n s b e l r ∙ m))

-- ---- terminals

pub same_terminal : (p q : Named) (edge : Option Edge) (v w : Option (List Tok)) → p ≡ q → v ≡ w
    → ◌≡◌ {A = SoughtTerminal} (record { port = p; edge = edge; condition = v }) (record { port = q; edge = edge; condition = w })
same_terminal p q edge v w e f =
    ap {B = SoughtTerminal} (λ x. record { port = x; edge = edge; condition = v }) e ∙ ap {B = SoughtTerminal} (λ x. record { port = q; edge = edge; condition = x }) f

pub same_both : (a b c d : SoughtTerminal) → a ≡ b → c ≡ d → ◌≡◌ {A = SoughtTerminals} (record { refer = a; datum = Some c }) (record { refer = b; datum = Some d })
same_both a b c d e f = ap {B = SoughtTerminals} (λ x. record { refer = x; datum = Some c }) e ∙ ap {B = SoughtTerminals} (λ x. record { refer = b; datum = Some x }) f

pub same_one : (a b : SoughtTerminal) → a ≡ b → ◌≡◌ {A = SoughtTerminals} (record { refer = a; datum = None }) (record { refer = b; datum = None })
same_one a b e = ap {B = SoughtTerminals} (λ x. record { refer = x; datum = None }) e

-- ---- what fits

same_datum : (c : Circuit) (divider : Divider) (s : ℕ) (terminal : Option Terminal) (event : Option Event) (written : Option (List Tok))
    → datum_fits c s (option_map (terminal_for divider) terminal) event written ≡ fits_datum c divider s terminal event written
same_datum c divider s None event written = refl
same_datum c divider s (Some t) None written = refl
same_datum c divider s (Some t) (Some e) written = refl

same_events : (c : Circuit) (divider : Divider) (check : CellCheck) (s : ℕ) (timing : CheckTiming) (written : CheckConditions)
    → events_fit c s (terminals_for divider check) timing written ≡ fits_check c divider check s timing written
same_events c divider check s timing written =
    ap (λ b. fits_event c divider s (terminals_of check).0 timing.refer written.refer && b) (same_datum c divider s (terminals_of check).1 timing.datum written.datum)

given_if : (b : Bool) (limits : Option Triple × Option Triple) → is_given (if b then limits else none_given) ≡ (b && is_given limits)
given_if true limits = refl
given_if false limits = refl

pub same_check : (c : Circuit) (divider : Divider) (g : Given) (check : CellCheck) (cell : ℕ → Bool) (k : Checked) → g.entry.kind ≡ a_check check
    → cell k.check.scope ≡ is_of_cell c divider g.cell_type g.instance k.check.scope → check_fits c cell check (terminals_for divider check) k ≡ is_for_check c divider g k
same_check c divider g check cell k e of_cell =
    ap (λ b. b && (events_fit c k.check.scope (terminals_for divider check) k.timing k.written && is_given (limits_for check k.timing.kind))) of_cell
    ∙ (ap (λ b. is_of_cell c divider g.cell_type g.instance k.check.scope && (b && is_given (limits_for check k.timing.kind))) (same_events c divider check k.check.scope k.timing k.written)
    ∙ (sym (and_assoc (is_of_cell c divider g.cell_type g.instance k.check.scope) (fits_check c divider check k.check.scope k.timing k.written) (is_given (limits_for check k.timing.kind)))
    ∙ (sym (given_if (is_of_cell c divider g.cell_type g.instance k.check.scope && fits_check c divider check k.check.scope k.timing k.written) (limits_for check k.timing.kind))
    ∙ ap (λ kind. is_given (given_by c divider g kind k.check.scope k.timing k.written)) (sym e))))

-- an entry of something else is for no timing check
abbrev pub IsOther : EntryKind → Type 0
IsOther (a_check check) = ⊥
IsOther _ = Unit {0}

pub other_check : (c : Circuit) (divider : Divider) (g : Given) (kind : EntryKind) (k : Checked) → IsOther kind → is_given (given_by c divider g kind k.check.scope k.timing k.written) ≡ false
other_check c divider g (a_check check) k h = absurd h
other_check c divider g (io_path condition from to ds) k h = refl
other_check c divider g (device port ds) k h = refl
other_check c divider g (port_delay port ds) k h = refl
other_check c divider g (interconnect from to ds) k h = refl
other_check c divider g (path_pulse percent ports reject error) k h = refl
other_check c divider g (skipped_entry skipped) k h = refl
