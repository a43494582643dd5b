-- What a circuit has that differs from another in delays and limits alone: its names, and two limits a check.
use Rattle.std.specs.Prelude.{◌≡◌, ℕ, ℤ, pos, ◌<◌, ◌==◌, Bool, true, false, All, IfSome, IsSome, List, [], ◌∷◌, ◌++◌, length, map, None, if◌then◌else◌}
use Rattle.std.specs.List.{AllByRecursion, flat_map}
use Rattle.std.proofs.Common.{refl, sym, ◌∙◌, ap, subst}
use Rattle.std.proofs.lemmas.Grind.{flat_map-append}
use Rattle.std.proofs.lemmas.List.{length-map}
use Rattle.std.proofs.lemmas.List.Elements.{All-from_recursion, All-weaker, recursion_from_All}
use Rattle.std.proofs.lemmas.List.Folds.{flat_map-map}
use Rattle.cond_expr.specs.Token.{Tok}
use Rattle.sg_circuit.specs.Checks.{CheckConditions}
use Rattle.sg_circuit.specs.Circuit.{Circuit, scope_at}
use Rattle.sg_circuit.specs.declared.checks.Check.{Check}
use Rattle.sg_circuit.specs.declared.checks.CheckKind.{CheckKind}
use Rattle.sg_circuit.specs.declared.checks.CheckKind.TheVariants as kind
use Rattle.sg_circuit.specs.declared.checks.CheckTiming.{CheckTiming}
use Rattle.annotation_model.specs.Spots.{Checked, Spot, all_checked, checked, leg_spot, path_spot, spots}
use Rattle.elab_laws.proofs.Lists.{all-map, all-map_back, all-weaker, flat-same}
use Rattle.written_model.specs.Entries.{CheckEntry, PathEntry, check_entries, check_entry, checks_at, numbers_of, parts_of, path_entries, path_key, paths_at}
use Rattle.written_model.specs.Faults.{conditions, datum_conditions, event_conditions, path_conditions}
use Rattle.written_reading.specs.Named.{AreApart, IsNamed, IsNamedCheck, IsNamedSpot, IsNameText, IsVariableOf, IsVariableText, IsWrittenCondition}
use Rattle.written_giving.specs.AnnotatedBack.{IsLike, stripped_check}
use Rattle.written_giving.proofs.FromLaws.{bare_checked, checked-alike}
use Rattle.written_giving.proofs.SpotLaws.{bare_spot, spots-alike}

flat_twice : {A B C : Type 0} (g : B → List C) (f : A → List B) (xs : List A) → flat_map g (flat_map f xs) ≡ flat_map (λ x. flat_map g (f x)) xs
flat_twice g f [] = refl
flat_twice g f (x ∷ xs) = flat_map-append g (f x) (flat_map f xs) ∙ ap (λ ys. flat_map g (f x) ++ ys) (flat_twice g f xs)

-- ---- conditions of paths

abbrev entry_conditions : PathEntry → List (List Tok)
entry_conditions e = path_conditions e.key.condition

abbrev spot_conditions : ℕ → Spot → List (List Tok)
spot_conditions s x = flat_map entry_conditions (paths_at s x)

spot_bare : (s : ℕ) (x : Spot) → spot_conditions s x ≡ spot_conditions s (bare_spot x)
spot_bare s (leg_spot scope inputs output timings) = refl
spot_bare s (path_spot scope output p) = by (scope == s)
  where
    by : (b : Bool) → flat_map entry_conditions (if b then record { key = path_key output p; numbers = map numbers_of p.timings } ∷ [] else []) ≡ flat_map entry_conditions (if b then record { key = path_key output p; numbers = [] } ∷ [] else [])
    by true = refl
    by false = refl

paths_by_spot : (c : Circuit) (s : ℕ) → flat_map entry_conditions (path_entries c s) ≡ flat_map (spot_conditions s) (map bare_spot (spots c))
paths_by_spot c s =
    flat_twice entry_conditions (paths_at s) (spots c)
    ∙ (flat-same (spot_conditions s) (λ x. spot_conditions s (bare_spot x)) (spots c) (spot_bare s) ∙ sym (flat_map-map (spot_conditions s) bare_spot (spots c)))

-- ---- conditions of timing checks

abbrev own_conditions : CheckEntry → List (List Tok)
own_conditions e = event_conditions e.key.refer.condition ++ datum_conditions e.key.datum

abbrev checked_conditions : ℕ → Checked → List (List Tok)
checked_conditions s k = flat_map own_conditions (checks_at s k)

-- a check has as many entries as its kind has parts
parts_bare : (k : Checked) (d : CheckKind) (ls ms : List ℤ) → flat_map own_conditions (map (check_entry k) (parts_of d ls)) ≡ flat_map own_conditions (map (check_entry (bare_checked k)) (parts_of d ms))
parts_bare k kind.Setup ls ms = refl
parts_bare k kind.Hold ls ms = refl
parts_bare k kind.Recovery ls ms = refl
parts_bare k kind.Removal ls ms = refl
parts_bare k kind.Skew ls ms = refl
parts_bare k kind.Setuphold ls ms = refl
parts_bare k kind.Recrem ls ms = refl
parts_bare k kind.Width ls ms = refl
parts_bare k kind.Period ls ms = refl

checked_bare : (s : ℕ) (k : Checked) → checked_conditions s k ≡ checked_conditions s (bare_checked k)
checked_bare s k = by (k.check.scope == s)
  where
    by : (b : Bool) → flat_map own_conditions (if b then map (check_entry k) (parts_of k.timing.kind k.timing.limits) else [])
        ≡ flat_map own_conditions (if b then map (check_entry (bare_checked k)) (parts_of k.timing.kind (map (λ (l : ℤ). pos 0) k.timing.limits)) else [])
    by true = parts_bare k k.timing.kind k.timing.limits (map (λ (l : ℤ). pos 0) k.timing.limits)
    by false = refl

checks_by_check : (c : Circuit) (s : ℕ) → flat_map own_conditions (check_entries c s) ≡ flat_map (checked_conditions s) (map bare_checked (all_checked c))
checks_by_check c s =
    flat_twice own_conditions (checks_at s) (all_checked c)
    ∙ (flat-same (checked_conditions s) (λ k. checked_conditions s (bare_checked k)) (all_checked c) (checked_bare s) ∙ sym (flat_map-map (checked_conditions s) bare_checked (all_checked c)))

-- ---- what is so without delays and limits

spot_as_bare : (c : Circuit) (x : Spot) → IsNamedSpot c x → IsNamedSpot c (bare_spot x)
spot_as_bare c (leg_spot s inputs output timings) h = h
spot_as_bare c (path_spot s output p) h = h

spot_from_bare : (c : Circuit) (x : Spot) → IsNamedSpot c (bare_spot x) → IsNamedSpot c x
spot_from_bare c (leg_spot s inputs output timings) h = h
spot_from_bare c (path_spot s output p) h = h

check_as_bare : (c : Circuit) (k : Checked) → IsNamedCheck c k → IsNamedCheck c (bare_checked k)
check_as_bare c k h = record { refer = h.refer; datum = h.datum }

check_from_bare : (c : Circuit) (k : Checked) → IsNamedCheck c (bare_checked k) → IsNamedCheck c k
check_from_bare c k h = record { refer = h.refer; datum = h.datum }

-- what holds of each of some holds of each of others that are the same when some of it is left out
by_bare : {A : Type 0} (P : A → Type 0) (bare : A → A) → ((x : A) → P x → P (bare x)) → ((x : A) → P (bare x) → P x) → (xs ys : List A) → map bare xs ≡ map bare ys → All P ys → All P xs
by_bare P bare to from xs ys e h =
    All-from_recursion P xs
    (all-weaker (λ x. P (bare x)) P xs from (all-map_back P bare xs (subst (AllByRecursion P) (sym e) (all-map P bare ys (all-weaker P (λ y. P (bare y)) ys to (recursion_from_All P ys h))))))

module _ (c other : Circuit) (like : IsLike c other) where
  checks_same : other.checks ≡ c.checks
  checks_same = ap (λ (x : Circuit). x.checks) like

  timings_same : map stripped_check other.check_timings ≡ map stripped_check c.check_timings
  timings_same = ap (λ (x : Circuit). x.check_timings) like

  written_same : other.check_conditions ≡ c.check_conditions
  written_same = ap (λ (x : Circuit). x.check_conditions) like

  spots_same : map bare_spot (spots other) ≡ map bare_spot (spots c)
  spots_same = spots-alike other.elements c.elements (ap (λ (x : Circuit). x.elements) like)

  all_checked_same : map bare_checked (all_checked other) ≡ map bare_checked (all_checked c)
  all_checked_same =
      ap (λ (ks : List Check). map bare_checked (checked ks other.check_timings other.check_conditions)) checks_same
      ∙ (ap (λ (ws : List CheckConditions). map bare_checked (checked c.checks other.check_timings ws)) written_same ∙ checked-alike c.checks other.check_timings c.check_timings c.check_conditions timings_same)

  conditions_same : (s : ℕ) → conditions other s ≡ conditions c s
  conditions_same s =
      let paths = paths_by_spot other s ∙ (ap (flat_map (spot_conditions s)) spots_same ∙ sym (paths_by_spot c s)) in
      let checks = checks_by_check other s ∙ (ap (flat_map (checked_conditions s)) all_checked_same ∙ sym (checks_by_check c s)) in
      ap (λ xs. xs ++ flat_map own_conditions (check_entries other s)) paths ∙ ap (λ xs. flat_map entry_conditions (path_entries c s) ++ xs) checks

  -- ---- names

  check_same : (k : Checked) → IsNamedCheck c k → IsNamedCheck other k
  check_same k h = record {
    refer = subst (λ (x : Circuit). IsVariableOf (scope_at x k.check.scope).variables k.timing.refer.net) (sym like) h.refer;
    datum = subst (λ (x : Circuit). IfSome k.timing.datum (λ e. IsVariableOf (scope_at x k.check.scope).variables e.net)) (sym like) h.datum;
  }

  pub like_named : IsNamed c → IsNamed other
  like_named named = record {
    top = subst (λ (x : Circuit). (scope_at x 0).parent ≡ None) (sym like) named.top;
    others = subst (λ (x : Circuit). (s : ℕ) → 0 < s → s < length x.scopes → IsSome (scope_at x s).parent) (sym like) named.others;
    scope_names = subst (λ (x : Circuit). (s : ℕ) → 0 < s → s < length x.scopes → IsNameText (scope_at x s).name) (sym like) named.scope_names;
    siblings = subst
        (λ (x : Circuit). (s t : ℕ) → s < length x.scopes → t < length x.scopes → (scope_at x s).parent ≡ (scope_at x t).parent → (scope_at x s).name ≡ (scope_at x t).name → s ≡ t) (sym like) named.siblings;
    variables = subst (λ (x : Circuit). All (λ s. All IsVariableText s.variables) x.scopes) (sym like) named.variables;
    apart = subst (λ (x : Circuit). All (λ s. AreApart s.variables) x.scopes) (sym like) named.apart;
    spots = subst (λ (x : Circuit). All (IsNamedSpot x) (spots other)) (sym like) (by_bare (IsNamedSpot c) bare_spot (spot_as_bare c) (spot_from_bare c) (spots other) (spots c) spots_same named.spots);
    checks = All-weaker (IsNamedCheck c) (IsNamedCheck other) check_same (all_checked other)
        (by_bare (IsNamedCheck c) bare_checked (check_as_bare c) (check_from_bare c) (all_checked other) (all_checked c) all_checked_same named.checks);
    conditions = λ s. subst (All IsWrittenCondition) (sym (conditions_same s)) (named.conditions s);
  }

  -- ---- limits

  abbrev IsPair : CheckTiming → Type 0
  IsPair t = length t.limits ≡ 2

  pub like_pairs : All (λ t. length t.limits ≡ 2) c.check_timings → All (λ t. length t.limits ≡ 2) other.check_timings
  like_pairs pairs =
      by_bare IsPair stripped_check (λ t h. length-map t.limits (λ (l : ℤ). pos 0) ∙ h) (λ t h. sym (length-map t.limits (λ (l : ℤ). pos 0)) ∙ h) other.check_timings c.check_timings timings_same pairs
