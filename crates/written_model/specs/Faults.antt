-- Why a circuit can't be written as an SDF file that gives it back. Each fault stands in a scope.
use Rattle.std.specs.Prelude.{◌≡◌, ◌≢◌, ℕ, suc, ◌+◌, ◌-◌, ◌*◌, ◌%◌, ◌^◌, ◌==◌, ◌&&◌, ◌||◌, not, max, nat_le, nat_lt, ◌-ℤ◌, unsigned_abs, ◌⊎◌, Bool, true, false, List, [], ◌∷◌, ◌++◌, length, map, Option, Some, None, flat_map, slice_get}
use Rattle.std.specs.List.{list_any}
use Rattle.sg_time.specs.Ticks.{above}
use Rattle.cond_expr.specs.declared.tokens.Tok.TheVariants as tok
use Rattle.cond_expr.specs.Token.{Tok}
use Rattle.sg_circuit.specs.declared.checks.CheckKind.{CheckKind}
use Rattle.sg_circuit.specs.declared.checks.CheckKind.TheVariants as kind
use Rattle.sg_circuit.specs.declared.checks.Event.{Event}
use Rattle.sg_circuit.specs.Signals.{signals}
use Rattle.sg_circuit.specs.Circuit.{Circuit, scope_at}
use Rattle.sdf_tree.specs.Written.{PathCondition, always, otherwise, if_words}
use Rattle.annotation_model.specs.Same.{fits_edge, fits_words}
use Rattle.annotation_model.specs.Spots.{Checked, all_checked}
use Rattle.written_model.specs.declared.errors.WriteError.{WriteError}
use Rattle.written_model.specs.declared.errors.WriteError.TheVariants as error
use Rattle.written_model.specs.declared.parts.Part.{Part}
use Rattle.written_model.specs.declared.parts.Part.TheVariants as part
use Rattle.written_model.specs.Entries.{Numbers, LegEntry, PathEntry, EventKey, CheckKey, CheckEntry, legs, path_entries, check_entries}
use Rattle.written_model.specs.Text.{text}

-- ---- Ambiguous: two entries are for the same, and give it different values

pub record Disagree {A K V : Type 0} (key : A → K) (value : A → V) (es : List A) : Type 0 where
  pub one : A
  pub other : A
  pub place : ℕ
  pub other_place : ℕ
  pub stands : slice_get es place ≡ Some one
  pub other_stands : slice_get es other_place ≡ Some other
  pub same : key one ≡ key other
  pub differ : value one ≢ value other

abbrev pub IsAmbiguous : Circuit → ℕ → Type 0
IsAmbiguous c s = Disagree (λ (e : PathEntry). e.key) (λ (e : PathEntry). e.numbers) (path_entries c s) ⊎ Disagree (λ (e : CheckEntry). e.key) (λ (e : CheckEntry). e.limit) (check_entries c s)

-- ---- OffGrid: a time that is rounded where it is read, since it isn't a multiple of the precision (IEEE 1364-2005, 19.8)

abbrev pub sizes_of : Numbers → List ℕ
sizes_of n = n.delay ∷ n.reject ∷ n.error ∷ []

-- the sizes of a scope's delays and limits
abbrev pub sizes : Circuit → ℕ → List ℕ
sizes c s =
    flat_map (λ (e : LegEntry). flat_map sizes_of e.numbers) (legs c s)
    ++ (flat_map (λ (e : PathEntry). flat_map sizes_of e.numbers) (path_entries c s) ++ map (λ (e : CheckEntry). unsigned_abs e.limit) (check_entries c s))

-- so many ticks a precision is
abbrev pub precision_of : Circuit → ℕ → ℕ
precision_of c s = 10 ^ above ((scope_at c s).precision -ℤ c.tick)

abbrev pub is_off_grid : Circuit → ℕ → Bool
is_off_grid c s = list_any (λ n. not (n % precision_of c s == 0)) (sizes c s)

-- ---- TooDeep: a condition whose parentheses nest over 27, which five more enclose in the file

-- how deep parentheses nest, where so many are open
abbrev pub depth_from : ℕ → List Tok → ℕ
depth_from unclosed [] = unclosed
depth_from unclosed (tok.Left ∷ ts) = depth_from (suc unclosed) ts
depth_from unclosed (tok.Right ∷ ts) = max unclosed (depth_from (unclosed - 1) ts)
depth_from unclosed (t ∷ ts) = depth_from unclosed ts

abbrev pub path_conditions : PathCondition → List (List Tok)
path_conditions always = []
path_conditions (if_words words) = words ∷ []
path_conditions otherwise = []

abbrev pub event_conditions : Option (List Tok) → List (List Tok)
event_conditions None = []
event_conditions (Some words) = words ∷ []

abbrev pub datum_conditions : Option EventKey → List (List Tok)
datum_conditions None = []
datum_conditions (Some k) = event_conditions k.condition

-- a scope's conditions
abbrev pub conditions : Circuit → ℕ → List (List Tok)
conditions c s =
    flat_map (λ (e : PathEntry). path_conditions e.key.condition) (path_entries c s)
    ++ flat_map (λ (e : CheckEntry). event_conditions e.key.refer.condition ++ datum_conditions e.key.datum) (check_entries c s)

abbrev pub is_too_deep : Circuit → ℕ → Bool
is_too_deep c s = list_any (λ ts. nat_lt 27 (depth_from 0 ts)) (conditions c s)

-- ---- TooLong: a size of more than 18 digits, or of 2^60 ticks and more as often as it weighs where it is read

-- whether an entry for an event of a key is for an event too
abbrev pub is_for_event : EventKey → Event → Option (List Tok) → Bool
is_for_event k e written = (k.net == e.net) && (fits_edge k.edge e.edge && fits_words k.condition written)

abbrev pub is_for_datum : Option EventKey → Option Event → Option (List Tok) → Bool
is_for_datum None e written = true
is_for_datum (Some k) None written = false
is_for_datum (Some k) (Some e) written = is_for_event k e written

-- a part of setuphold or recrem
abbrev pub is_part_of : Part → CheckKind → Bool
is_part_of part.Setup kind.Setuphold = true
is_part_of part.Hold kind.Setuphold = true
is_part_of part.Recovery kind.Recrem = true
is_part_of part.Removal kind.Recrem = true
is_part_of _ _ = false

-- whether an entry is for a part of such a check of a scope
abbrev pub is_for_window : ℕ → CheckKey → Checked → Bool
is_for_window s k w = (w.check.scope == s) && (is_part_of k.part w.timing.kind && (is_for_event k.refer w.timing.refer w.written.refer && is_for_datum k.datum w.timing.datum w.written.datum))

-- such a limit weighs one more than its scope has signals with delayed copies (IEEE 1364-2005, 15.8)
abbrev pub is_heavy : Circuit → ℕ → CheckEntry → Bool
is_heavy c s e = nat_le (2 ^ 60) (unsigned_abs e.limit * (length (signals c.checks c.check_timings s) + 1)) && list_any (is_for_window s e.key) (all_checked c)

abbrev pub is_too_long : Circuit → ℕ → Bool
is_too_long c s = list_any (λ n. nat_le (10 ^ 18) n) (sizes c s) || list_any (is_heavy c s) (check_entries c s)

-- ---- TooLarge: a text of more than 2^28 bytes, which no reader takes; told of the top

abbrev pub is_too_large : Circuit → Bool
is_too_large c = nat_lt (2 ^ 28) (length (text c))

-- ---- all of them

-- a fault stands in the scope that is told; want of memory is free
abbrev pub FaultStands : Circuit → WriteError → Type 0
FaultStands c (error.Ambiguous s) = IsAmbiguous c s
FaultStands c (error.OffGrid s) = is_off_grid c s ≡ true
FaultStands c (error.TooDeep s) = is_too_deep c s ≡ true
FaultStands c (error.TooLong s) = is_too_long c s ≡ true
FaultStands c (error.TooLarge s) = (s ≡ 0) × (is_too_large c ≡ true)
FaultStands c error.NoMemory = Unit {0}

-- no scope has one of its own
pub record AreFaultless (c : Circuit) : Type 0 where
  pub unambiguous : (s : ℕ) → IsAmbiguous c s → ⊥
  pub on_grid : (s : ℕ) → is_off_grid c s ≡ false
  pub shallow : (s : ℕ) → is_too_deep c s ≡ false
  pub short : (s : ℕ) → is_too_long c s ≡ false

-- none stands
pub record IsFaultless (c : Circuit) : Type 0 where
  pub scopes : AreFaultless c
  pub small : is_too_large c ≡ false
