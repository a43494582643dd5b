-- Which legs and paths the entries of a scope are for.
use Rattle.std.proofs.Common.{◌≡◌, ◌<◌, true, false, List, [], ◌∷◌, ◌++◌, length, refl, sym, ◌∙◌, ap, subst, inl, inr}
use Rattle.std.specs.Prelude.{ℕ, ◌==◌, ◌&&◌, map}
use Rattle.std.specs.List.{filter, flat_map, range_with_len}
use Rattle.std.proofs.lemmas.List.{map-append}
use Rattle.sg_circuit.specs.Circuit.{Circuit, scope_at}
use Rattle.sg_circuit.specs.Closed.{IsClosed}
use Rattle.sg_circuit.specs.Paths as specify
use Rattle.sg_circuit.specs.Timings.{Timing}
use Rattle.sdf_tree.specs.declared.words.Divider.TheVariants.{Slash}
use Rattle.annotation_model.specs.Given.{Given}
use Rattle.annotation_model.specs.Spots.{Spot, leg_spot, path_spot, spots, scope_of, is_for_spot}
use Rattle.sdf_tree.specs.Written as written
use Rattle.sdf_tree.specs.Meant.{kind_of_check}
use Rattle.annotation_model.specs.Matching.{fits_leg, fits_path}
use Rattle.annotation_model.specs.Scopes.{is_of_cell}
use Rattle.written_model.specs.Names.{names_to}
use Rattle.written_model.specs.declared.parts.Part.{Part}
use Rattle.written_model.specs.declared.parts.Part.TheVariants as part
use Rattle.written_model.specs.Entries.{LegEntry, PathEntry, CheckEntry, legs, paths, path_entries, checks, check_entries, check_rank, path_rank, edge_of, condition_of, by_rank}
use Rattle.written_model.specs.Tree.{cell_type_of, instance_of, check_body}
use Rattle.written_reading.specs.Named.{IsNamed, IsNamedSpot, IsInputOf, IsOutputOf}
use Rattle.written_giving.proofs.KeyLaws.{edge-own, condition-own}
use Rattle.written_giving.proofs.MatchLaws.{PathFits, leg-for, leg-own, path-for, path-own}
use Rattle.written_giving.proofs.MemberLaws.{Mem, in-append, in-flat, in-map, in-filter, each-of-all}
use Rattle.written_giving.proofs.SpotLaws.{path_entry_of, leg_entry_of, path-entry, leg-entry}
use Rattle.written_giving.proofs.TreeLaws.{leg_given, path_given, check_given, given_of, delay_values}
use Rattle.std.proofs.Math.Bool.{and-false}

-- a part of a check is for no leg and no path
leg-no-check : (c : Circuit) (g : Given) (r : ℕ) (is : List ℕ) (o : ℕ) (p : Part) (refer datum : written.Terminal) (v : written.Value) → fits_leg c Slash g (kind_of_check (check_body p refer datum v)) r is o ≡ false
leg-no-check c g r is o part.Setup refer datum v = refl
leg-no-check c g r is o part.Hold refer datum v = refl
leg-no-check c g r is o part.Recovery refer datum v = refl
leg-no-check c g r is o part.Removal refer datum v = refl
leg-no-check c g r is o part.Skew refer datum v = refl
leg-no-check c g r is o part.Width refer datum v = refl
leg-no-check c g r is o part.Period refer datum v = refl

path-no-check : (c : Circuit) (r o : ℕ) (q : specify.Path) (p : Part) (refer datum : written.Terminal) (v : written.Value) → fits_path c Slash (kind_of_check (check_body p refer datum v)) r o q ≡ false
path-no-check c r o q part.Setup refer datum v = refl
path-no-check c r o q part.Hold refer datum v = refl
path-no-check c r o q part.Recovery refer datum v = refl
path-no-check c r o q part.Removal refer datum v = refl
path-no-check c r o q part.Skew refer datum v = refl
path-no-check c r o q part.Width refer datum v = refl
path-no-check c r o q part.Period refer datum v = refl

pub check-none : (c : Circuit) (s : ℕ) (e : CheckEntry) (x : Spot) → is_for_spot c Slash (check_given c s e) x ≡ false
check-none c s e (leg_spot r is o ts) = leg-no-check c (check_given c s e) r is o e.key.part _ _ _
check-none c s e (path_spot r o p) =
    ap (λ t. is_of_cell c Slash (cell_type_of (scope_at c s).module_name) (instance_of (names_to c s)) r && t) (path-no-check c r o p e.key.part _ _ _)
    ∙ and-false (is_of_cell c Slash (cell_type_of (scope_at c s).module_name) (instance_of (names_to c s)) r)

-- a leg's entry is for no path
pub leg-none : (c : Circuit) (s : ℕ) (e : LegEntry) (r o : ℕ) (p : specify.Path) → is_for_spot c Slash (leg_given c s e) (path_spot r o p) ≡ false
leg-none c s e r o p = and-false (is_of_cell c Slash (cell_type_of (scope_at c s).module_name) (instance_of (names_to c s)) r)

map-flat-out : {A B C : Type 0} (h : B → C) (f : A → List B) (xs : List A) → map h (flat_map f xs) ≡ flat_map (λ x. map h (f x)) xs
map-flat-out h f [] = refl
map-flat-out h f (x ∷ xs) = map-append h (f x) (flat_map f xs) ∙ ap (λ ys. map h (f x) ++ ys) (map-flat-out h f xs)

-- what is by rank is among them
pub ranked-in : {A : Type 0} (rank : A → ℕ) (xs : List A) (x : A) → Mem x (by_rank rank xs) → Mem x xs
ranked-in rank xs x m = let r = in-flat (λ n. filter (λ y. rank y == n) xs) (0 ∷ 1 ∷ 2 ∷ 3 ∷ 4 ∷ []) x m in (in-filter (λ y. rank y == r.0) xs x r.2).0

-- what a list by rank gives is in pieces
pub ranked-pieces : {A : Type 0} (rank : A → ℕ) (h : A → Given) (xs : List A) → map h (by_rank rank xs) ≡ flat_map (λ n. map h (filter (λ x. rank x == n) xs)) (range_with_len 0 5)
ranked-pieces rank h xs = map-flat-out h (λ n. filter (λ x. rank x == n) xs) (0 ∷ 1 ∷ 2 ∷ 3 ∷ 4 ∷ [])

-- ---- the entries of a scope

pub data IsGivenOf (c : Circuit) (s : ℕ) : Given → Type 0 where
  a_leg : (e : LegEntry) → Mem e (legs c s) → IsGivenOf c s (leg_given c s e)
  a_path : (e : PathEntry) → Mem e (path_entries c s) → IsGivenOf c s (path_given c s e)
  a_check : (e : CheckEntry) → Mem e (check_entries c s) → IsGivenOf c s (check_given c s e)

pub given-is : (c : Circuit) (s : ℕ) (g : Given) → Mem g (given_of c s) → IsGivenOf c s g
given-is c s g m = elim (in-append (map (leg_given c s) (legs c s)) (map (path_given c s) (paths c s) ++ map (check_given c s) (checks c s)) g m) [
  | inl n ↦ (let r = in-map (leg_given c s) (legs c s) g n in subst (IsGivenOf c s) (sym r.2) (a_leg r.0 r.1))
  | inr n ↦ elim (in-append (map (path_given c s) (paths c s)) (map (check_given c s) (checks c s)) g n) [
    | inl k ↦ (let r = in-map (path_given c s) (paths c s) g k in subst (IsGivenOf c s) (sym r.2) (a_path r.0 (ranked-in (λ (e : PathEntry). path_rank e.key) (path_entries c s) r.0 r.1)))
    | inr k ↦ (let r = in-map (check_given c s) (checks c s) g k in subst (IsGivenOf c s) (sym r.2) (a_check r.0 (ranked-in (λ (e : CheckEntry). check_rank e.key) (check_entries c s) r.0 r.1)))
  ]
]

module _ (c : Circuit) (closed : IsClosed c) (named : IsNamed c) where
  named-spot : (x : Spot) → Mem x (spots c) → IsNamedSpot c x
  named-spot x m = each-of-all (IsNamedSpot c) (spots c) named.spots x m

  leg-input : (s : ℕ) (e : LegEntry) → Mem e (legs c s) → IsInputOf (scope_at c s).variables e.net
  leg-input s e m =
      let p = leg-entry c s e m in subst (λ (y : LegEntry). IsInputOf (scope_at c s).variables y.net) (sym p.is) (named-spot (leg_spot s p.inputs p.output p.timings) p.among)

  path-ends : (s : ℕ) (e : PathEntry) → Mem e (path_entries c s) → IsInputOf (scope_at c s).variables e.key.input × IsOutputOf (scope_at c s).variables e.key.output
  path-ends s e m =
      let p = path-entry c s e m in
      subst (λ (y : PathEntry). IsInputOf (scope_at c s).variables y.key.input × IsOutputOf (scope_at c s).variables y.key.output) (sym p.is) (named-spot (path_spot s p.output p.path) p.among)

  pub leg-given-for : (s : ℕ) (e : LegEntry) (r : ℕ) (is : List ℕ) (o : ℕ) (ts : List Timing) → s < length c.scopes → r < length c.scopes → Mem e (legs c s)
      → is_for_spot c Slash (leg_given c s e) (leg_spot r is o ts) ≡ true → (s ≡ r) × (e.net ≡ o)
  leg-given-for s e r is o ts l k m t = leg-for c closed named s e.net l (leg-input s e m) (delay_values e.numbers) r is o k t

  pub path-given-for : (s : ℕ) (e : PathEntry) (r o : ℕ) (p : specify.Path) → s < length c.scopes → r < length c.scopes → Mem e (path_entries c s) → is_for_spot c Slash (path_given c s e) (path_spot r o p) ≡ true
      → PathFits c closed named s e.key.input e.key.output e.key.edge e.key.condition r o p
  path-given-for s e r o p l k m t =
      let q = path-ends s e m in path-for c closed named s e.key.input e.key.output e.key.edge e.key.condition (delay_values e.numbers) l q.0 q.1 r o p k t

  -- an entry of a scope is for places of that scope alone
  pub given-scope : (s : ℕ) (g : Given) (x : Spot) → s < length c.scopes → scope_of x < length c.scopes → IsGivenOf c s g → is_for_spot c Slash g x ≡ true → s ≡ scope_of x
  given-scope s g (leg_spot r is o ts) l k (a_leg e m) t = (leg-given-for s e r is o ts l k m t).0
  given-scope s g (leg_spot r is o ts) l k (a_path e m) t = absurd (let z : false ≡ true = t in cc)
  given-scope s g (leg_spot r is o ts) l k (a_check e m) t = absurd (let z : false ≡ true = sym (check-none c s e (leg_spot r is o ts)) ∙ t in cc)
  given-scope s g (path_spot r o p) l k (a_leg e m) t = absurd (let z : false ≡ true = sym (leg-none c s e r o p) ∙ t in cc)
  given-scope s g (path_spot r o p) l k (a_path e m) t = (path-given-for s e r o p l k m t).scope
  given-scope s g (path_spot r o p) l k (a_check e m) t = absurd (let z : false ≡ true = sym (check-none c s e (path_spot r o p)) ∙ t in cc)

  -- a path's entry is for the path, and a leg's for the leg
  pub path-given-own : (s o : ℕ) (p : specify.Path) → s < length c.scopes → Mem (path_spot s o p) (spots c) → is_for_spot c Slash (path_given c s (path_entry_of o p)) (path_spot s o p) ≡ true
  path-given-own s o p l m =
      let q = named-spot (path_spot s o p) m in
      path-own c closed named s p.input o (edge_of p.edge) (condition_of p.condition) (delay_values (path_entry_of o p).numbers) l q.0 q.1 p refl (edge-own p.edge) (condition-own p.condition)

  pub leg-given-own : (s : ℕ) (is : List ℕ) (o : ℕ) (ts : List Timing) → s < length c.scopes → Mem (leg_spot s is o ts) (spots c) → is_for_spot c Slash (leg_given c s (leg_entry_of o ts)) (leg_spot s is o ts) ≡ true
  leg-given-own s is o ts l m = leg-own c closed named s o l (named-spot (leg_spot s is o ts) m) (delay_values (leg_entry_of o ts).numbers) is
