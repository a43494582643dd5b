-- A circuit has no faults where its scopes have none.
use Rattle.std.proofs.Common.{◌≡◌, refl, sym, ◌∙◌, ap, subst, ℕ, zero, suc, ◌+◌, ◌<◌, ◌≤◌, ◌^◌, Bool, false, List, [], ◌∷◌, ◌++◌, length, map, Some, slice_get, slice_index_or, inl, inr, arith}
use Rattle.std.specs.Prelude.{◌⊎◌, ◌==◌, ◌%◌, ◌-ℤ◌, ◌||◌, All, cond, flat_map, not, nat_le, nat_lt, unsigned_abs}
use Rattle.std.specs.List.{list_any, range_with_len}
use Rattle.std.proofs.lemmas.Bool.{cases_lt, ne_eqb}
use Rattle.std.proofs.lemmas.List.{get_or-map, length-map}
use Rattle.std.proofs.lemmas.List.Elements.{All-cons, All-map, All-nil, All-head, All-tail}
use Rattle.std.proofs.lemmas.List.FromFn.{get_or-range_with_len, length-range_with_len}
use Rattle.cond_expr.specs.Token.{Tok}
use Rattle.sg_time.specs.Ticks.{above}
use Rattle.sg_circuit.specs.declared.checks.Check.{Check}
use Rattle.sg_circuit.specs.declared.checks.CheckTiming.{CheckTiming}
use Rattle.sg_circuit.specs.declared.circuits.Parts.{Parts}
use Rattle.sg_circuit.specs.declared.scopes.Scope as code_scope
use Rattle.sg_circuit.specs.Checks.{CheckConditions}
use Rattle.sg_circuit.specs.Circuit.{Circuit, Kind, Gate, Udp, Pass, Leg, Path, Late}
use Rattle.sg_circuit.specs.Closed.{IsClosed}
use Rattle.sg_circuit.specs.Seen.{circuit_seen, scope_seen}
use Rattle.sg_circuit.specs.Signals.{signals}
use Rattle.annotation_model.specs.Spots.{Spot, leg_spot, path_spot, Checked, checked, all_checked, scope_of, spots, spots_in, spots_of}
use Rattle.written_model.specs.Entries.{LegEntry, PathEntry, CheckEntry, legs, legs_at, path_entries, paths_at, check_entries, checks_at, numbers_of, path_key, check_entry, parts_of}
use Rattle.written_model.specs.Faults.{AreFaultless, Disagree, IsAmbiguous, is_off_grid, is_heavy, precision_of, sizes, sizes_of, path_conditions, event_conditions, datum_conditions, depth_from}
use Rattle.written_faults.specs.Refusing.{IsFaultlessScope}
use Rattle.written_faults.proofs.GatherLaws.{all-flat, flat-none}

-- ---- precisions and counts of signals

-- a precision is a tick at least
pub some_ticks : (n p : ℕ) → p ≡ 10 ^ n → 0 < p
some_ticks n p e = subst (λ q. 0 < q) (sym e) (by n)
  where
    by : (m : ℕ) → 0 < 10 ^ m
    by zero = omega arith
    by (suc m) = let h = by m in omega (arith, h)

pub grid_told : (parts : Parts) (s : ℕ) (S : code_scope.Scope) (p : ℕ) (r b : Bool) → s < length parts.scopes.items → S ≡ slice_index_or parts.scopes.items s S → p ≡ 10 ^ above (S.scale.precision.power -ℤ parts.tick.power)
    → r ≡ list_any (λ n. not (n % p == 0)) (sizes (circuit_seen parts) s) → r ≡ b → is_off_grid (circuit_seen parts) s ≡ b
grid_told parts s S p r b l at ticks told e =
    ap (λ q. list_any (λ n. not (n % q == 0)) (sizes (circuit_seen parts) s)) (sym (ticks ∙ sym same)) ∙ (sym told ∙ e)
  where
    same : precision_of (circuit_seen parts) s ≡ 10 ^ above (S.scale.precision.power -ℤ parts.tick.power)
    same = ap (λ x. 10 ^ above (x.precision -ℤ parts.tick.power)) (get_or-map (λ x. scope_seen x) parts.scopes.items s S _ l ∙ ap (λ x. scope_seen x) (sym at))

module _ (ks : List Check) (ts : List CheckTiming) (scopes : ℕ) (counts : List ℕ) (are : counts ≡ map (λ s. length (signals ks ts s)) (range_with_len 0 scopes)) (s : ℕ) (within : s < scopes) where
  pub count_of_each : length counts ≡ scopes
  count_of_each = ap length are ∙ (length-map (range_with_len 0 scopes) (λ s. length (signals ks ts s)) ∙ length-range_with_len 0 scopes)

  pub count_is : slice_index_or counts s 0 ≡ length (signals ks ts s)
  count_is =
      ap (λ xs. slice_index_or xs s 0) are
      ∙ (get_or-map (λ s. length (signals ks ts s)) (range_with_len 0 scopes) s 0 0 (let n = length-range_with_len 0 scopes in omega (arith, n, within))
      ∙ ap (λ n. length (signals ks ts n)) (get_or-range_with_len 0 scopes s 0 within ∙ (let e : 0 + s ≡ s = omega arith in e)))

-- ---- one scope more

pub next-scope : (c : Circuit) (n : ℕ) → ((s : ℕ) → s < n → IsFaultlessScope c s) → IsFaultlessScope c n → (s : ℕ) → s < n + 1 → IsFaultlessScope c s
next-scope c n before here s l = by (cases_lt s n)
  where
    by : (s < n) ⊎ (n ≤ s) → IsFaultlessScope c s
    by (inl m) = before s m
    by (inr m) = subst (IsFaultlessScope c) (let e : n ≡ s = omega (arith, l, m) in e) here

-- ---- beyond the scopes nothing has entries

module _ (s n : ℕ) (beyond : n ≤ s) where
  other : (m : ℕ) → m < n → (m == s) ≡ false
  other m l = ne_eqb m s (λ e. absurd (omega (arith, e, l, beyond)))

  spots-within : (scope : ℕ) (inputs : List ℕ) (output : ℕ) (k : Kind) → scope < n → All (λ x. scope_of x < n) (spots_in scope inputs output k)
  spots-within scope inputs output (Gate kind delays) l = All-nil (λ (x : Spot). scope_of x < n)
  spots-within scope inputs output (Udp primitive before delays) l = All-nil (λ (x : Spot). scope_of x < n)
  spots-within scope inputs output (Pass constant) l = All-nil (λ (x : Spot). scope_of x < n)
  spots-within scope inputs output (Leg timings) l = All-cons (λ (x : Spot). scope_of x < n) (leg_spot scope inputs output timings) [] l (All-nil (λ (x : Spot). scope_of x < n))
  spots-within scope inputs output (Path paths style) l = All-map (λ (x : Spot). scope_of x < n) (path_spot scope output) paths (λ k d m. l)
  spots-within scope inputs output (Late delay) l = All-nil (λ (x : Spot). scope_of x < n)

  no-leg : (x : Spot) → scope_of x < n → legs_at s x ≡ []
  no-leg (leg_spot scope inputs output timings) l = ap (λ b. cond b (record { net = output; numbers = map numbers_of timings } ∷ []) []) (other scope l)
  no-leg (path_spot scope output path) l = refl

  no-path : (x : Spot) → scope_of x < n → paths_at s x ≡ []
  no-path (leg_spot scope inputs output timings) l = refl
  no-path (path_spot scope output path) l = ap (λ b. cond b (record { key = path_key output path; numbers = map numbers_of path.timings } ∷ []) []) (other scope l)

  no-check : (w : Checked) → w.check.scope < n → checks_at s w ≡ []
  no-check w l = ap (λ b. cond b (map (check_entry w) (parts_of w.timing.kind w.timing.limits)) []) (other w.check.scope l)

  checked-within : (ks : List Check) (ts : List CheckTiming) (ws : List CheckConditions) → All (λ k. k.scope < n) ks → All (λ (w : Checked). w.check.scope < n) (checked ks ts ws)
  checked-within [] ts ws h = All-nil (λ (w : Checked). w.check.scope < n)
  checked-within (k ∷ ks) [] ws h = All-nil (λ (w : Checked). w.check.scope < n)
  checked-within (k ∷ ks) (t ∷ ts) [] h = All-nil (λ (w : Checked). w.check.scope < n)
  checked-within (k ∷ ks) (t ∷ ts) (w ∷ ws) h =
      All-cons (λ (x : Checked). x.check.scope < n) (record { check = k; timing = t; written = w }) (checked ks ts ws) (All-head (λ (x : Check). x.scope < n) k ks h) (checked-within ks ts ws (All-tail (λ (x : Check). x.scope < n) k ks h))

module _ (c : Circuit) (s : ℕ) where
  -- a scope without entries has no faults
  record HasNothing : Type 0 where
    legs_none : legs c s ≡ []
    paths_none : path_entries c s ≡ []
    checks_none : check_entries c s ≡ []

  abbrev sizes_in : List LegEntry → List PathEntry → List CheckEntry → List ℕ
  sizes_in ls ps ks = flat_map (λ (e : LegEntry). flat_map sizes_of e.numbers) ls ++ (flat_map (λ (e : PathEntry). flat_map sizes_of e.numbers) ps ++ map (λ (e : CheckEntry). unsigned_abs e.limit) ks)

  no-sizes : HasNothing → (test : ℕ → Bool) → list_any test (sizes c s) ≡ false
  no-sizes h test =
      ap (λ ls. list_any test (sizes_in ls (path_entries c s) (check_entries c s))) h.legs_none
      ∙ (ap (λ ps. list_any test (sizes_in [] ps (check_entries c s))) h.paths_none ∙ ap (λ ks. list_any test (sizes_in [] [] ks)) h.checks_none)

  abbrev deep : List Tok → Bool
  deep ts = nat_lt 27 (depth_from 0 ts)

  no-faults : HasNothing → IsFaultlessScope c s
  no-faults h = record {
    unambiguous = λ a. apart a;
    on_grid = no-sizes h (λ n. not (n % precision_of c s == 0));
    shallow =
        ap (λ ps. list_any deep (flat_map (λ (e : PathEntry). path_conditions e.key.condition) ps ++ flat_map (λ (e : CheckEntry). event_conditions e.key.refer.condition ++ datum_conditions e.key.datum) (check_entries c s))) h.paths_none
        ∙ ap (λ ks. list_any deep (flat_map (λ (e : CheckEntry). event_conditions e.key.refer.condition ++ datum_conditions e.key.datum) ks)) h.checks_none;
    short = ap (λ b. b || list_any (is_heavy c s) (check_entries c s)) (no-sizes h (λ n. nat_le (10 ^ 18) n)) ∙ ap (λ ks. list_any (is_heavy c s) ks) h.checks_none;
  }
    where
      nowhere : {A K V : Type 0} (key : A → K) (value : A → V) (es : List A) → es ≡ [] → Disagree key value es → ⊥
      nowhere key value es none d = absurd (let h : slice_get [] d.place ≡ Some d.one = ap (λ xs. slice_get xs d.place) (sym none) ∙ d.stands in cc)

      apart : IsAmbiguous c s → ⊥
      apart (inl d) = nowhere (λ (e : PathEntry). e.key) (λ (e : PathEntry). e.numbers) (path_entries c s) h.paths_none d
      apart (inr d) = nowhere (λ (e : CheckEntry). e.key) (λ (e : CheckEntry). e.limit) (check_entries c s) h.checks_none d

-- ---- all scopes

module _ (c : Circuit) (closed : IsClosed c) where
  beyond-scopes : (s : ℕ) → length c.scopes ≤ s → HasNothing c s
  beyond-scopes s beyond =
      let n = length c.scopes in
      let within : All (λ x. scope_of x < n) (spots c) = all-flat (λ (x : Spot). scope_of x < n) spots_of c.elements (λ k d l. let e = slice_index_or c.elements k d in spots-within s n beyond e.scope e.inputs e.output e.kind (closed.element_scopes k d l)) in
      let there : All (λ (w : Checked). w.check.scope < n) (all_checked c) = checked-within s n beyond c.checks c.check_timings c.check_conditions closed.check_scopes in record {
        legs_none = flat-none (legs_at s) (spots c) (λ k d l. no-leg s n beyond (slice_index_or (spots c) k d) (within k d l));
        paths_none = flat-none (paths_at s) (spots c) (λ k d l. no-path s n beyond (slice_index_or (spots c) k d) (within k d l));
        checks_none = flat-none (checks_at s) (all_checked c) (λ k d l. no-check s n beyond (slice_index_or (all_checked c) k d) (there k d l));
      }

  pub all_faultless : (n : ℕ) → length c.scopes ≤ n → ((s : ℕ) → s < n → IsFaultlessScope c s) → AreFaultless c
  all_faultless n many h = record {
    unambiguous = λ s. (each s).unambiguous;
    on_grid = λ s. (each s).on_grid;
    shallow = λ s. (each s).shallow;
    short = λ s. (each s).short;
  }
    where
      each : (s : ℕ) → IsFaultlessScope c s
      each s = by (cases_lt s n)
        where
          by : (s < n) ⊎ (n ≤ s) → IsFaultlessScope c s
          by (inl l) = h s l
          by (inr l) = no-faults c s (beyond-scopes s (omega (arith, l, many)))
