-- What is written of a circuit whose names lead back, and that has no fault, is good.
use Rattle.std.specs.Prelude.{◌≡◌, ◌≢◌, ℕ, zero, suc, ◌+◌, ◌<◌, ◌≤◌, ◌^◌, ◌==◌, nat_le, nat_lt, ℤ, pos, unsigned_abs, Bool, true, false, All, Contains, IfSome, List, [], ◌∷◌, ◌++◌, map, length, flat_map, Option, Some, None, cond, option_map, unwrap_or, slice_get, slice_index_or, if◌then◌else◌}
use Rattle.std.specs.List.{AllByRecursion, list_any, position_from}
use Rattle.std.proofs.Common.{refl, sym, subst, ◌∙◌, inl, inr, arith}
use Rattle.std.proofs.lemmas.Bool.{cases_lt, eq-eqb, eqb-true, le-leb, lt-ltb, or_parts}
use Rattle.std.proofs.lemmas.List.{length-map}
use Rattle.std.proofs.lemmas.List.Elements.{recursion_from_All}
use Rattle.cond_expr.specs.Token.{Tok}
use Rattle.sg_logic.specs.declared.edges.Edge as netlist
use Rattle.sg_logic.specs.declared.edges.TheConstants.{POSEDGE, NEGEDGE}
use Rattle.sg_circuit.specs.declared.checks.Event.{Event}
use Rattle.sg_circuit.specs.declared.scopes.Port.{Port}
use Rattle.sg_circuit.specs.Closed.{IsClosed, IsTiming, AreTimings, HasDelays}
use Rattle.sg_circuit.specs.Paths as specify
use Rattle.sg_circuit.specs.Timings.{Timing, limits_or}
use Rattle.sg_circuit.specs.Circuit.{Circuit, Element, Kind, Gate, Udp, Pass, Leg, Path, Late, Variable, Scope, scope_at}
use Rattle.annotation_model.specs.Same.{is_edge}
use Rattle.annotation_model.specs.Spots.{Spot, leg_spot, path_spot, spots_in, spots_of, spots, timings_of, Checked, all_checked}
use Rattle.sdf_tree.specs.declared.tree.Edge.TheVariants.{Posedge, Negedge}
use Rattle.sdf_tree.specs.Written.{PathCondition, always, otherwise, if_words}
use Rattle.written_model.specs.declared.parts.Part.{Part}
use Rattle.written_model.specs.Entries as entries
use Rattle.written_model.specs.Entries.{Numbers, numbers_of, edge_of, LegEntry, PathEntry, EventKey, CheckEntry, legs_at, path_key, paths_at, path_entries, event_key, check_entry, checks_at, check_entries, path_rank, check_rank}
use Rattle.written_model.specs.Faults.{sizes_of, sizes, is_heavy, depth_from, path_conditions, event_conditions, datum_conditions, conditions, AreFaultless}
use Rattle.written_model.specs.Names.{bit_at, name_of, below, names_in}
use Rattle.written_model.specs.Tree.{datum_of}
use Rattle.written_reading.specs.Named.{IsWrittenCondition, IsVariableText, IsNetOf, IsNamedSpot, IsNamedCheck, IsNamed}
use Rattle.written_reading.proofs.CellTokens.{IsGoodScope, each_of}
use Rattle.written_reading.proofs.CheckTokens.{IsGoodEvent, IsGoodCheck}
use Rattle.written_reading.proofs.DelayTokens.{AreShort, IsOrdered}
use Rattle.written_reading.proofs.EntryTokens.{IsGoodWords, IsGoodCondition, IsGoodPath, IsGoodLeg}
use Rattle.written_reading.proofs.Lists.{all_append, all_front, all_back, all_flat, all_pieces, all_map, all_mapped, all_by_rank, all_with, none_passes}
use Rattle.written_reading.proofs.PortTokens.{IsWritten}

-- ---- names of nets

-- a list that has a number has a place of it
some_place : (bits : List ℕ) (net i : ℕ) → Contains bits net → position_from (λ n. n == net) i bits ≡ None → ⊥
some_place [] net i c e = omega (arith, c.1)
some_place (b ∷ bs) net i c e = by (b == net) refl c e (λ d f. some_place bs net (i + 1) d f)
  where
    by : (t : Bool) → (b == net) ≡ t → Contains (b ∷ bs) net → cond t (Some i) (position_from (λ n. n == net) (i + 1) bs) ≡ None → (Contains bs net → position_from (λ n. n == net) (i + 1) bs ≡ None → ⊥) → ⊥
    by true h c e more = cc
    by false h (zero, lt, is) e more = let f : (b == net) ≡ true = eq-eqb b net is in let g : true ≡ false = sym f ∙ h in absurd cc
    by false h (suc k, lt, is) e more = more (k, omega (arith, lt), is) e

module _ (is : Port → Type 0) (net : ℕ) where
  first_named : (vs : List Variable) → AllByRecursion IsVariableText vs → (place : ℕ) (v : Variable) → slice_get vs place ≡ Some v → Contains v.bits net → (name_of vs net).name ≢ []
  first_named [] text place v at has = absurd cc
  first_named (w ∷ ws) text place v at has = by (position_from (λ n. n == net) 0 w.bits) refl (λ k e. first_named ws text.1 k v e has)
    where
      first_has : (v : Variable) → Some w ≡ Some v → Contains v.bits net → Contains w.bits net
      first_has v e h = let same : w ≡ v = cc in subst (λ (x : Variable). Contains x.bits net) (sym same) h

      behind : (place : ℕ) → slice_get (w ∷ ws) place ≡ Some v → position_from (λ n. n == net) 0 w.bits ≡ None → ((k : ℕ) → slice_get ws k ≡ Some v → (name_of ws net).name ≢ []) → (name_of ws net).name ≢ []
      behind zero e none more = absurd (some_place w.bits net 0 (first_has v e has) none)
      behind (suc k) e none more = more k e

      by : (o : Option ℕ) → position_from (λ n. n == net) 0 w.bits ≡ o → ((k : ℕ) → slice_get ws k ≡ Some v → (name_of ws net).name ≢ []) → (unwrap_or (option_map (bit_at w) o) (name_of ws net)).name ≢ []
      by (Some k) e more = text.0.name.some
      by None e more = behind place at e more

  net_named : (vs : List Variable) → AllByRecursion IsVariableText vs → IsNetOf is vs net → (name_of vs net).name ≢ []
  net_named vs text n = first_named vs text n.place n.variable n.stands n.has

-- ---- spots

abbrev IsTimed : Spot → Type 0
IsTimed spot = AreTimings (timings_of spot)

path_timings : (s output : ℕ) (ps : List specify.Path) → AllByRecursion (λ p. AreTimings p.timings) ps → AllByRecursion IsTimed (map (path_spot s output) ps)
path_timings s output [] h = tt
path_timings s output (p ∷ ps) h = (h.0, path_timings s output ps h.1)

kind_timings : (s : ℕ) (inputs : List ℕ) (output : ℕ) (k : Kind) → HasDelays k → AllByRecursion IsTimed (spots_in s inputs output k)
kind_timings s inputs output (Leg timings) h = (h, tt)
kind_timings s inputs output (Path paths style) h = path_timings s output paths (recursion_from_All _ paths h)
kind_timings s inputs output (Gate kind delays) h = tt
kind_timings s inputs output (Udp primitive first delays) h = tt
kind_timings s inputs output (Pass constant) h = tt
kind_timings s inputs output (Late delay) h = tt

spots_timed : (c : Circuit) → IsClosed c → AllByRecursion IsTimed (spots c)
spots_timed c closed = all_flat IsTimed spots_of c.elements (each_of (λ (e : Element). HasDelays e.kind) _ (λ e h. kind_timings e.scope e.inputs e.output e.kind h) c.elements (recursion_from_All _ c.elements closed.has_delays))

-- ---- the variables of a scope

abbrev blank : Scope
blank = record { parent = None; name = []; module_name = []; unit = pos 0; precision = pos 0; is_leaf = false; variables = [] }

scope_text : (c : Circuit) → IsNamed c → (s : ℕ) → AllByRecursion IsVariableText (scope_at c s).variables
scope_text c named s = by c.scopes s (recursion_from_All _ c.scopes named.variables)
  where
    by : (ss : List Scope) (n : ℕ) → AllByRecursion (λ (x : Scope). All IsVariableText x.variables) ss → AllByRecursion IsVariableText (slice_index_or ss n blank).variables
    by [] n h = tt
    by (x ∷ xs) zero h = recursion_from_All _ x.variables h.0
    by (x ∷ xs) (suc n) h = by xs n h.1

-- ---- sizes, edges and conditions

few : (most n : ℕ) → nat_le most n ≡ false → n < most
few most n e = elim (cases_lt n most) [
  | inl lt ↦ lt
  | inr ge ↦ let f : true ≡ false = sym (le-leb most n ge) ∙ e in absurd cc
]

not_more : (most n : ℕ) → nat_lt most n ≡ false → n ≤ most
not_more most n e = elim (cases_lt most n) [
  | inl lt ↦ let f : true ≡ false = sym (lt-ltb most n lt) ∙ e in absurd cc
  | inr ge ↦ ge
]

abbrev IsFew : ℕ → Type 0
IsFew n = nat_le (10 ^ 18) n ≡ false

are_short : (n : Numbers) → AllByRecursion IsFew (sizes_of n) → AreShort n
are_short n h = record { delay = few (10 ^ 18) n.delay h.0; reject = few (10 ^ 18) n.reject h.1.0; error = few (10 ^ 18) n.error h.1.1.0 }

all_short : (ns : List Numbers) → AllByRecursion IsFew (flat_map sizes_of ns) → AllByRecursion AreShort ns
all_short ns h = each_of _ AreShort are_short ns (all_pieces IsFew sizes_of ns h)

edge_written : (edge : Option netlist.Edge) → IfSome (edge_of edge) IsWritten
edge_written edge = by (is_edge (Some POSEDGE) edge) (is_edge (Some NEGEDGE) edge)
  where
    by : (a b : Bool) → IfSome (if a then Some Posedge else if b then Some Negedge else None) IsWritten
    by true b = tt
    by false true = tt
    by false false = tt

good_words : (ts : List Tok) → IsWrittenCondition ts → nat_lt 27 (depth_from 0 ts) ≡ false → IsGoodWords ts
good_words ts h e = record { written = h; shallow = not_more 27 (depth_from 0 ts) e }

good_condition : (c : PathCondition) → AllByRecursion IsGoodWords (path_conditions c) → IsGoodCondition c
good_condition always h = tt
good_condition otherwise h = tt
good_condition (if_words ws) h = h.0

event_condition : (o : Option (List Tok)) → AllByRecursion IsGoodWords (event_conditions o) → IfSome o IsGoodWords
event_condition None h = tt
event_condition (Some ws) h = h.0

limits_ordered : (delay : ℕ) (o : Option (ℕ × ℕ)) → IfSome o (λ l. l.0 ≤ l.1) → (limits_or delay o).0 ≤ (limits_or delay o).1
limits_ordered delay None h = omega arith
limits_ordered delay (Some l) h = h

timing_ordered : (t : Timing) → IsTiming t → IsOrdered (numbers_of t)
timing_ordered t h = limits_ordered t.delay t.limits h.ordered

module _ (c : Circuit) (named : IsNamed c) (closed : IsClosed c) (clean : AreFaultless c) where
  -- ---- names

  within : (ss : List Scope) (n p : ℕ) → (slice_index_or ss n blank).parent ≡ Some p → n < length ss
  within [] n p e = absurd cc
  within (x ∷ xs) zero p e = omega arith
  within (x ∷ xs) (suc n) p e = let l = within xs n p e in omega (arith, l)

  not_top : (s p : ℕ) → (scope_at c s).parent ≡ Some p → 0 < s
  not_top zero p e = let f : Some p ≡ None = sym e ∙ named.top in absurd cc
  not_top (suc s) p e = omega arith

  names_good : (turns s : ℕ) → AllByRecursion (λ n. n ≢ []) (names_in turns c s)
  names_good zero s = tt
  names_good (suc turns) s = by (scope_at c s).parent refl (λ p. names_good turns p)
    where
      by : (o : Option ℕ) → (scope_at c s).parent ≡ o → ((p : ℕ) → AllByRecursion (λ n. n ≢ []) (names_in turns c p)) → AllByRecursion (λ n. n ≢ []) (below (names_in turns c) (scope_at c s).name o)
      by None e above = tt
      by (Some p) e above = all_append (λ n. n ≢ []) (names_in turns c p) ((scope_at c s).name ∷ []) (above p) ((named.scope_names s (not_top s p e) (within c.scopes s p e)).some, tt)

  module _ (s : ℕ) where
    abbrev vs : List Variable
    vs = (scope_at c s).variables

    abbrev HasName : ℕ → Type 0
    HasName net = (name_of vs net).name ≢ []

    has_name : (is : Port → Type 0) (scope net : ℕ) → scope ≡ s → IsNetOf is (scope_at c scope).variables net → HasName net
    has_name is scope net e n = net_named is net vs (scope_text c named s) (subst (λ (k : ℕ). IsNetOf is (scope_at c k).variables net) e n)

    -- ---- what faults are absent

    size_parts : AllByRecursion IsFew (sizes c s)
    size_parts = none_passes (λ n. nat_le (10 ^ 18) n) (sizes c s) (or_parts (list_any (λ n. nat_le (10 ^ 18) n) (sizes c s)) (list_any (is_heavy c s) (check_entries c s)) (clean.short s)).0

    abbrev leg_sizes : LegEntry → List ℕ
    leg_sizes e = flat_map sizes_of e.numbers

    abbrev path_sizes : PathEntry → List ℕ
    path_sizes e = flat_map sizes_of e.numbers

    abbrev limit_size : CheckEntry → ℕ
    limit_size e = unsigned_abs e.limit

    short_legs : AllByRecursion (λ (e : LegEntry). AllByRecursion IsFew (leg_sizes e)) (entries.legs c s)
    short_legs = all_pieces IsFew leg_sizes (entries.legs c s) (all_front IsFew (flat_map leg_sizes (entries.legs c s)) (flat_map path_sizes (path_entries c s) ++ map limit_size (check_entries c s)) size_parts)

    later_sizes : AllByRecursion IsFew (flat_map path_sizes (path_entries c s) ++ map limit_size (check_entries c s))
    later_sizes = all_back IsFew (flat_map leg_sizes (entries.legs c s)) (flat_map path_sizes (path_entries c s) ++ map limit_size (check_entries c s)) size_parts

    short_paths : AllByRecursion (λ (e : PathEntry). AllByRecursion IsFew (path_sizes e)) (path_entries c s)
    short_paths = all_pieces IsFew path_sizes (path_entries c s) (all_front IsFew (flat_map path_sizes (path_entries c s)) (map limit_size (check_entries c s)) later_sizes)

    short_limits : AllByRecursion (λ (e : CheckEntry). IsFew (limit_size e)) (check_entries c s)
    short_limits = all_mapped IsFew limit_size (check_entries c s) (all_back IsFew (flat_map path_sizes (path_entries c s)) (map limit_size (check_entries c s)) later_sizes)

    all_words : AllByRecursion IsGoodWords (conditions c s)
    all_words = all_with IsWrittenCondition (λ ts. nat_lt 27 (depth_from 0 ts) ≡ false) IsGoodWords good_words (conditions c s) (recursion_from_All IsWrittenCondition (conditions c s) (named.conditions s)) (none_passes (λ ts. nat_lt 27 (depth_from 0 ts)) (conditions c s) (clean.shallow s))

    abbrev in_path : PathEntry → List (List Tok)
    in_path e = path_conditions e.key.condition

    abbrev in_check : CheckEntry → List (List Tok)
    in_check e = event_conditions e.key.refer.condition ++ datum_conditions e.key.datum

    path_words : AllByRecursion (λ (e : PathEntry). AllByRecursion IsGoodWords (in_path e)) (path_entries c s)
    path_words = all_pieces IsGoodWords in_path (path_entries c s) (all_front IsGoodWords (flat_map in_path (path_entries c s)) (flat_map in_check (check_entries c s)) all_words)

    check_words : AllByRecursion (λ (e : CheckEntry). AllByRecursion IsGoodWords (in_check e)) (check_entries c s)
    check_words = all_pieces IsGoodWords in_check (check_entries c s) (all_back IsGoodWords (flat_map in_path (path_entries c s)) (flat_map in_check (check_entries c s)) all_words)

    -- ---- legs

    abbrev LegStands : LegEntry → Type 0
    LegStands e = HasName e.net × ((length e.numbers ≡ 12) × AllByRecursion IsOrdered e.numbers)

    twelve : (ts : List Timing) → AreTimings ts → length (map numbers_of ts) ≡ 12
    twelve ts h = length-map ts numbers_of ∙ h.0

    ordered : (ts : List Timing) → AreTimings ts → AllByRecursion IsOrdered (map numbers_of ts)
    ordered ts h = all_map IsOrdered numbers_of ts (each_of IsTiming (λ t. IsOrdered (numbers_of t)) timing_ordered ts (recursion_from_All IsTiming ts h.1))

    spot_legs : (spot : Spot) → IsNamedSpot c spot → IsTimed spot → AllByRecursion LegStands (legs_at s spot)
    spot_legs (path_spot scope output path) n t = tt
    spot_legs (leg_spot scope inputs output timings) n t = by (scope == s) refl
      where
        by : (b : Bool) → (scope == s) ≡ b → AllByRecursion LegStands (if b then record { net = output; numbers = map numbers_of timings } ∷ [] else [])
        by false e = tt
        by true e = ((has_name _ scope output (eqb-true scope s e) n, (twelve timings t, ordered timings t)), tt)

    legs_stand : AllByRecursion LegStands (entries.legs c s)
    legs_stand = all_flat LegStands (legs_at s) (spots c) (all_with (IsNamedSpot c) IsTimed _ spot_legs (spots c) (recursion_from_All (IsNamedSpot c) (spots c) named.spots) (spots_timed c closed))

    good_legs : AllByRecursion (IsGoodLeg vs) (entries.legs c s)
    good_legs = all_with LegStands (λ (e : LegEntry). AllByRecursion IsFew (leg_sizes e)) (IsGoodLeg vs) (λ e h k. record { named = h.0; twelve = h.1.0; short = all_short e.numbers k; ordered = h.1.1 }) (entries.legs c s) legs_stand short_legs

    -- ---- paths

    record PathStands (e : PathEntry) : Type 0 where
      input : HasName e.key.input
      output : HasName e.key.output
      edge : IfSome e.key.edge IsWritten
      twelve : length e.numbers ≡ 12
      ordered : AllByRecursion IsOrdered e.numbers

    spot_paths : (spot : Spot) → IsNamedSpot c spot → IsTimed spot → AllByRecursion PathStands (paths_at s spot)
    spot_paths (leg_spot scope inputs output timings) n t = tt
    spot_paths (path_spot scope output path) n t = by (scope == s) refl
      where
        by : (b : Bool) → (scope == s) ≡ b → AllByRecursion PathStands (if b then record { key = path_key output path; numbers = map numbers_of path.timings } ∷ [] else [])
        by false e = tt
        by true e = (record { input = has_name _ scope path.input (eqb-true scope s e) n.0; output = has_name _ scope output (eqb-true scope s e) n.1; edge = edge_written path.edge; twelve = twelve path.timings t; ordered = ordered path.timings t }, tt)

    paths_stand : AllByRecursion PathStands (path_entries c s)
    paths_stand = all_flat PathStands (paths_at s) (spots c) (all_with (IsNamedSpot c) IsTimed _ spot_paths (spots c) (recursion_from_All (IsNamedSpot c) (spots c) named.spots) (spots_timed c closed))

    record PathSays (e : PathEntry) : Type 0 where
      condition : IsGoodCondition e.key.condition
      short : AllByRecursion AreShort e.numbers

    paths_say : AllByRecursion PathSays (path_entries c s)
    paths_say =
        all_with (λ (e : PathEntry). AllByRecursion IsGoodWords (in_path e)) (λ (e : PathEntry). AllByRecursion IsFew (path_sizes e)) PathSays (λ e h k. record { condition = good_condition e.key.condition h; short = all_short e.numbers k }) (path_entries c s) path_words short_paths

    good_paths : AllByRecursion (IsGoodPath vs) (entries.paths c s)
    good_paths =
        all_by_rank (IsGoodPath vs) (λ (e : PathEntry). path_rank e.key) (path_entries c s)
        (all_with PathStands PathSays (IsGoodPath vs) (λ e h k. record { input = h.input; output = h.output; edge = h.edge; condition = k.condition; twelve = h.twelve; short = k.short; ordered = h.ordered }) (path_entries c s) paths_stand paths_say)

    -- ---- checks

    abbrev EventStands : EventKey → Type 0
    EventStands k = HasName k.net × IfSome k.edge IsWritten

    record CheckStands (e : CheckEntry) : Type 0 where
      refer : EventStands e.key.refer
      datum : IfSome e.key.datum EventStands

    datum_stands : (k : Checked) (o : Option Event) → k.check.scope ≡ s → IfSome o (λ e. IsNetOf (λ p. Unit {0}) (scope_at c k.check.scope).variables e.net) → IfSome (option_map (λ (e : Event). event_key e k.written.datum) o) EventStands
    datum_stands k None e h = tt
    datum_stands k (Some d) e h = (has_name _ k.check.scope d.net e h, edge_written d.edge)

    entry_stands : (k : Checked) → IsNamedCheck c k → k.check.scope ≡ s → (p : Part × ℤ) → CheckStands (check_entry k p)
    entry_stands k n e p = record { refer = (has_name _ k.check.scope k.timing.refer.net e n.refer, edge_written k.timing.refer.edge); datum = datum_stands k k.timing.datum e n.datum }

    each_part : (k : Checked) → IsNamedCheck c k → k.check.scope ≡ s → (ps : List (Part × ℤ)) → AllByRecursion CheckStands (map (check_entry k) ps)
    each_part k n e [] = tt
    each_part k n e (p ∷ ps) = (entry_stands k n e p, each_part k n e ps)

    checked_stands : (k : Checked) → IsNamedCheck c k → AllByRecursion CheckStands (checks_at s k)
    checked_stands k n = by (k.check.scope == s) refl
      where
        by : (b : Bool) → (k.check.scope == s) ≡ b → AllByRecursion CheckStands (if b then map (check_entry k) (entries.parts_of k.timing.kind k.timing.limits) else [])
        by false e = tt
        by true e = each_part k n (eqb-true k.check.scope s e) (entries.parts_of k.timing.kind k.timing.limits)

    checks_stand : AllByRecursion CheckStands (check_entries c s)
    checks_stand = all_flat CheckStands (checks_at s) (all_checked c) (each_of (IsNamedCheck c) _ checked_stands (all_checked c) (recursion_from_All (IsNamedCheck c) (all_checked c) named.checks))

    good_event : (k : EventKey) → EventStands k → AllByRecursion IsGoodWords (event_conditions k.condition) → IsGoodEvent vs k
    good_event k h w = record { named = h.0; edge = h.1; condition = event_condition k.condition w }

    good_datum : (e : CheckEntry) (o : Option EventKey) → IsGoodEvent vs e.key.refer → IfSome o EventStands → AllByRecursion IsGoodWords (datum_conditions o) → IsGoodEvent vs (unwrap_or o e.key.refer)
    good_datum e None refer h w = refer
    good_datum e (Some k) refer h w = good_event k h w

    record CheckSays (e : CheckEntry) : Type 0 where
      refer : IsGoodEvent vs e.key.refer
      datum : IsGoodEvent vs (datum_of e.key)

    check_says : (e : CheckEntry) → CheckStands e → AllByRecursion IsGoodWords (in_check e) → CheckSays e
    check_says e h w =
        let refer = good_event e.key.refer h.refer (all_front IsGoodWords (event_conditions e.key.refer.condition) (datum_conditions e.key.datum) w) in
        record { refer = refer; datum = good_datum e e.key.datum refer h.datum (all_back IsGoodWords (event_conditions e.key.refer.condition) (datum_conditions e.key.datum) w) }

    good_checks : AllByRecursion (IsGoodCheck vs) (entries.checks c s)
    good_checks =
        all_by_rank (IsGoodCheck vs) (λ (e : CheckEntry). check_rank e.key) (check_entries c s)
        (all_with CheckSays (λ (e : CheckEntry). IsFew (limit_size e)) (IsGoodCheck vs) (λ e h k. record { refer = h.refer; datum = h.datum; limit = few (10 ^ 18) (limit_size e) k }) (check_entries c s)
        (all_with CheckStands (λ (e : CheckEntry). AllByRecursion IsGoodWords (in_check e)) CheckSays check_says (check_entries c s) checks_stand check_words) short_limits)

    pub good_scope : IsGoodScope c s
    good_scope = record { legs = good_legs; paths = good_paths; checks = good_checks; names = names_good (length c.scopes) s }

  pub good_scopes : (ss : List ℕ) → AllByRecursion (IsGoodScope c) ss
  good_scopes [] = tt
  good_scopes (s ∷ ss) = (good_scope s, good_scopes ss)
