-- A circuit that is like another has the same places, and what entries do there is the same.
use Rattle.std.proofs.Common.{◌≡◌, suc, Bool, true, false, List, [], ◌∷◌, length, drop, refl, sym, ◌∙◌, ap, subst, arith}
use Rattle.std.specs.Prelude.{ℕ, ◌+◌, ℤ, cond, map, Option, Some, None, is_some, if◌then◌else◌, slice_index_or}
use Rattle.std.specs.List.{filter}
use Rattle.std.proofs.lemmas.Bool.{or_parts}
use Rattle.sg_delay.specs.declared.corners.Corner.{Corner}
use Rattle.sg_circuit.specs.declared.checks.Check.{Check}
use Rattle.sg_circuit.specs.declared.checks.CheckTiming.{CheckTiming}
use Rattle.sg_circuit.specs.Checks.{CheckConditions}
use Rattle.sg_circuit.specs.Circuit.{Circuit, Scope, scope_at}
use Rattle.sg_circuit.specs.Signals.{takes_lates, signals}
use Rattle.late_limits.proofs.AlikeLaws.{without_limits, signals-alike}
use Rattle.sdf_tree.specs.declared.words.Divider.{Divider}
use Rattle.sdf_tree.specs.declared.words.Divider.TheVariants.{Slash}
use Rattle.sdf_tree.specs.Meant.{Triple, Sdf, EntryKind, io_path, device, port_delay, interconnect, path_pulse, a_check, skipped_entry}
use Rattle.annotation_model.specs.Applied.{Grid, Bounds, applied, limit_or, chosen_if, with_limits}
use Rattle.annotation_model.specs.Given.{Given}
use Rattle.annotation_model.specs.Matching.{given_by}
use Rattle.annotation_model.specs.Spots.{after, grid, Spot, spots, scope_of, timings_of, is_for_spot, applied_at, spot_after, Checked, checked, all_checked, given_to, is_given, weight_of, bounds, limits_with, limits_after}
use Rattle.written_giving.specs.AnnotatedBack.{stripped_element, stripped_check, IsLike}
use Rattle.written_giving.proofs.AlikeLaws as alike
use Rattle.written_giving.proofs.FaultLaws.{scope_grid}
use Rattle.written_giving.proofs.MemberLaws.{Mem, in-map, map-in}
use Rattle.written_giving.proofs.PlaceLaws.{unplaced, map-fused}
use Rattle.written_giving.proofs.SpotLaws.{bare_spot, for-alike, scope-alike, spots-alike}
use Rattle.written_giving.proofs.StepLaws.{stepped, after-stepped, after-same}

-- ---- checks without limits

abbrev pub bare_checked : Checked → Checked
bare_checked k = record { check = k.check; timing = stripped_check k.timing; written = k.written }

given-bare : (c : Circuit) (d : Divider) (g : Given) (k : Checked) → given_to c d g k ≡ given_to c d g (bare_checked k)
given-bare c d g k = by g.entry.kind
  where
    by : (e : EntryKind) → given_by c d g e k.check.scope k.timing k.written ≡ given_by c d g e k.check.scope (stripped_check k.timing) k.written
    by (a_check check) = refl
    by (port_delay port ds) = refl
    by (interconnect from to ds) = refl
    by (io_path condition from to ds) = refl
    by (device port ds) = refl
    by (path_pulse percent ports reject error) = refl
    by (skipped_entry skipped) = refl

pub given-checked : (c : Circuit) (d : Divider) (g : Given) (j k : Checked) → bare_checked j ≡ bare_checked k → given_to c d g j ≡ given_to c d g k
given-checked c d g j k e = given-bare c d g j ∙ (ap (given_to c d g) e ∙ sym (given-bare c d g k))

pub checked-alike : (ks : List Check) (ts us : List CheckTiming) (ws : List CheckConditions) → map stripped_check ts ≡ map stripped_check us → map bare_checked (checked ks ts ws) ≡ map bare_checked (checked ks us ws)
checked-alike [] ts us ws e = refl
checked-alike (k ∷ ks) [] [] ws e = refl
checked-alike (k ∷ ks) [] (u ∷ us) ws e = absurd (let l : 0 ≡ suc (length (map stripped_check us)) = ap length e in omega (arith, l))
checked-alike (k ∷ ks) (t ∷ ts) [] ws e = absurd (let l : suc (length (map stripped_check ts)) ≡ 0 = ap length e in omega (arith, l))
checked-alike (k ∷ ks) (t ∷ ts) (u ∷ us) [] e = refl
checked-alike (k ∷ ks) (t ∷ ts) (u ∷ us) (w ∷ ws) e =
    let same : stripped_check t ≡ stripped_check u = ap (λ xs. slice_index_or xs 0 (stripped_check t)) e in
    ap {B = List Checked} (λ x. record { check = k; timing = x; written = w } ∷ map bare_checked (checked ks ts ws)) same
    ∙ ap (λ xs. bare_checked (record { check = k; timing = u; written = w }) ∷ xs) (checked-alike ks ts us ws (ap (drop 1) e))

-- what entries make of two limits is what they make of each
module _ (b : Bounds) (n : Grid) (give : Given → Option Triple × Option Triple) where
  abbrev first : List Given → ℤ → ℤ
  first gs z = after (λ g w. limit_or b.signed (chosen_if n (give g).0) w) gs z

  abbrev second : List Given → ℤ → ℤ
  second gs z = after (λ g w. limit_or b.signed (chosen_if n (give g).1) w) gs z

  pub both-after : (gs : List Given) (x y : ℤ) → after (λ g ls. with_limits b n (give g) ls) (filter (λ g. is_given (give g)) gs) (x ∷ y ∷ []) ≡ first gs x ∷ second gs y ∷ []
  both-after [] x y = refl
  both-after (g ∷ gs) x y = by (is_given (give g)) refl (λ v w. both-after gs v w)
    where
      none : (o : Option Triple) → is_some o ≡ false → o ≡ None
      none None e = refl
      none (Some t) e = absurd cc

      rest : List Given
      rest = filter (λ h. is_given (give h)) gs

      by : (t : Bool) → is_given (give g) ≡ t → ((v w : ℤ) → after (λ h ls. with_limits b n (give h) ls) rest (v ∷ w ∷ []) ≡ first gs v ∷ second gs w ∷ [])
          → after (λ h ls. with_limits b n (give h) ls) (cond t (g ∷ rest) rest) (x ∷ y ∷ []) ≡ first (g ∷ gs) x ∷ second (g ∷ gs) y ∷ []
      by true f rec = rec (limit_or b.signed (chosen_if n (give g).0) x) (limit_or b.signed (chosen_if n (give g).1) y)
      by false f rec =
          let p = or_parts (is_some (give g).0) (is_some (give g).1) f in
          rec x y
          ∙ (ap (λ o. first gs (limit_or b.signed (chosen_if n o) x) ∷ second gs y ∷ []) (sym (none (give g).0 p.0))
          ∙ ap (λ o. first (g ∷ gs) x ∷ second gs (limit_or b.signed (chosen_if n o) y) ∷ []) (sym (none (give g).1 p.1)))

-- ---- a circuit that is like another, and a file with the tick as its unit

module _ (c from : Circuit) (like : IsLike c from) (sdf : Sdf) (corner : Corner) (unit : sdf.unit ≡ c.tick) (divider : sdf.divider ≡ Slash) where
  pub scopes-are : from.scopes ≡ c.scopes
  scopes-are = ap (λ (x : Circuit). x.scopes) like

  tick-is : from.tick ≡ c.tick
  tick-is = ap (λ (x : Circuit). x.tick) like

  pub elements-are : map stripped_element from.elements ≡ map stripped_element c.elements
  elements-are = ap (λ (x : Circuit). x.elements) like

  pub timings-are : map stripped_check from.check_timings ≡ map stripped_check c.check_timings
  timings-are = ap (λ (x : Circuit). x.check_timings) like

  pub grid-is : (s r : ℕ) → s ≡ r → grid from sdf corner s ≡ scope_grid c corner r
  grid-is s r e =
      ap (grid from sdf corner) e
      ∙ (ap {B = Grid} (λ u. record { corner = corner; unit = u; precision = (scope_at from r).precision; tick = from.tick }) unit
      ∙ (ap {B = Grid} (λ (x : Scope). record { corner = corner; unit = c.tick; precision = x.precision; tick = from.tick }) (alike.same from c scopes-are r)
      ∙ ap {B = Grid} (λ t. record { corner = corner; unit = c.tick; precision = (scope_at c r).precision; tick = t }) tick-is))

  -- ---- legs and paths

  pub for-is : (g : Given) (x y : Spot) → bare_spot x ≡ bare_spot y → is_for_spot from sdf.divider g x ≡ is_for_spot c Slash (unplaced g) y
  for-is g x y e =
      ap (λ d. is_for_spot from d g x) divider ∙ (alike.spot-unplaced from Slash g x ∙ (alike.spot-alike from c scopes-are Slash (unplaced g) x ∙ for-alike c Slash (unplaced g) x y e))

  spots-are : map bare_spot (spots from) ≡ map bare_spot (spots c)
  spots-are = spots-alike from.elements c.elements elements-are

  -- each spot has its like
  pub spot-to : (x : Spot) → Mem x (spots from) → (y : Spot) × Mem y (spots c) × (bare_spot x ≡ bare_spot y)
  spot-to x m = in-map bare_spot (spots c) (bare_spot x) (subst (Mem (bare_spot x)) spots-are (map-in bare_spot (spots from) x m))

  pub spot-back : (y : Spot) → Mem y (spots c) → (x : Spot) × Mem x (spots from) × (bare_spot y ≡ bare_spot x)
  spot-back y m = in-map bare_spot (spots from) (bare_spot y) (subst (Mem (bare_spot y)) (sym spots-are) (map-in bare_spot (spots c) y m))

  pub spot-after-is : (gs : List Given) (x y : Spot) → bare_spot x ≡ bare_spot y
      → spot_after from sdf corner gs x ≡ after (λ g us. stepped (λ h. is_for_spot c Slash h y) (λ h vs. applied (scope_grid c corner (scope_of y)) h.entry vs) g us) (map unplaced gs) (timings_of x)
  spot-after-is gs x y e =
      after-stepped (λ g. is_for_spot from sdf.divider g x) (λ g. applied_at from sdf corner g x) gs (timings_of x)
      ∙ after-same (stepped (λ g. is_for_spot from sdf.divider g x) (λ g. applied_at from sdf corner g x)) (λ g us. stepped (λ h. is_for_spot c Slash h y) (λ h vs. applied (scope_grid c corner (scope_of y)) h.entry vs) g us)
      unplaced gs (timings_of x)
      (λ g v. ap (λ b. if b then applied (grid from sdf corner (scope_of x)) g.entry v else v) (for-is g x y e)
      ∙ ap (λ n. if is_for_spot c Slash (unplaced g) y then applied n g.entry v else v) (grid-is (scope_of x) (scope_of y) (scope-alike x y e)))

  -- ---- timing checks

  pub checks-are : from.checks ≡ c.checks
  checks-are = ap (λ (x : Circuit). x.checks) like

  pub conditions-are : from.check_conditions ≡ c.check_conditions
  conditions-are = ap (λ (x : Circuit). x.check_conditions) like

  all-checked-are : map bare_checked (all_checked from) ≡ map bare_checked (all_checked c)
  all-checked-are =
      ap (λ ks. map bare_checked (checked ks from.check_timings from.check_conditions)) checks-are
      ∙ (ap (λ ws. map bare_checked (checked c.checks from.check_timings ws)) conditions-are ∙ checked-alike c.checks from.check_timings c.check_timings c.check_conditions timings-are)

  pub check-to : (j : Checked) → Mem j (all_checked from) → (k : Checked) × Mem k (all_checked c) × (bare_checked j ≡ bare_checked k)
  check-to j m = in-map bare_checked (all_checked c) (bare_checked j) (subst (Mem (bare_checked j)) all-checked-are (map-in bare_checked (all_checked from) j m))

  pub check-back : (k : Checked) → Mem k (all_checked c) → (j : Checked) × Mem j (all_checked from) × (bare_checked k ≡ bare_checked j)
  check-back k m = in-map bare_checked (all_checked from) (bare_checked k) (subst (Mem (bare_checked k)) (sym all-checked-are) (map-in bare_checked (all_checked c) k m))

  pub given-to-is : (g : Given) (j k : Checked) → bare_checked j ≡ bare_checked k → given_to from sdf.divider g j ≡ given_to c Slash (unplaced g) k
  given-to-is g j k e =
      ap (λ d. given_to from d g j) divider
      ∙ (alike.given-unplaced from Slash g j ∙ (alike.given-alike from c scopes-are Slash (unplaced g) j ∙ given-checked c Slash (unplaced g) j k e))

  -- limits weigh the same
  pub bounds-are : (j k : Checked) → bare_checked j ≡ bare_checked k → bounds from j ≡ bounds c k
  bounds-are j k e =
      ap {B = Bounds} (λ (x : Checked). record { signed = takes_lates x.timing.kind; weight = weight_of from (takes_lates x.timing.kind) x.check.scope }) e
      ∙ ap {B = Bounds} (λ w. record { signed = takes_lates k.timing.kind; weight = w }) (by (takes_lates k.timing.kind))
    where
      without : map without_limits from.check_timings ≡ map without_limits c.check_timings
      without =
          sym (map-fused without_limits stripped_check without_limits from.check_timings (λ t. refl))
          ∙ (ap (map without_limits) timings-are ∙ map-fused without_limits stripped_check without_limits c.check_timings (λ t. refl))

      by : (b : Bool) → weight_of from b k.check.scope ≡ weight_of c b k.check.scope
      by true = ap (λ ns. length ns + 1) (ap (λ ks. signals ks from.check_timings k.check.scope) checks-are ∙ signals-alike c.checks from.check_timings c.check_timings k.check.scope without)
      by false = refl

  abbrev pub limit_by : Checked → (Option Triple × Option Triple → Option Triple) → Given → ℤ → ℤ
  limit_by k pick g z = limit_or (takes_lates k.timing.kind) (chosen_if (scope_grid c corner k.check.scope) (pick (given_to c Slash g k))) z

  pub limits-after-are : (gs : List Given) (j k : Checked) (x y : ℤ) → bare_checked j ≡ bare_checked k → j.timing.limits ≡ x ∷ y ∷ []
      → limits_after from sdf corner gs j ≡ after (limit_by k (λ l. l.0)) (map unplaced gs) x ∷ after (limit_by k (λ l. l.1)) (map unplaced gs) y ∷ []
  limits-after-are gs j k x y e f =
      let b = bounds from j in
      let n = grid from sdf corner j.check.scope in
      ap (λ ls. after (λ g. limits_with from sdf corner g j) (filter (λ g. is_given (given_to from sdf.divider g j)) gs) ls) f
      ∙ (both-after b n (λ g. given_to from sdf.divider g j) gs x y
      ∙ (ap (λ z. z ∷ after (λ g w. limit_or b.signed (chosen_if n (given_to from sdf.divider g j).1) w) gs y ∷ [])
      (after-same (λ g w. limit_or b.signed (chosen_if n (given_to from sdf.divider g j).0) w) (limit_by k (λ l. l.0)) unplaced gs x (λ g w. one (λ l. l.0) g w))
      ∙ ap (λ z. after (limit_by k (λ l. l.0)) (map unplaced gs) x ∷ z ∷ [])
      (after-same (λ g w. limit_or b.signed (chosen_if n (given_to from sdf.divider g j).1) w) (limit_by k (λ l. l.1)) unplaced gs y (λ g w. one (λ l. l.1) g w))))
    where
      one : (pick : Option Triple × Option Triple → Option Triple) (g : Given) (w : ℤ)
          → limit_or (bounds from j).signed (chosen_if (grid from sdf corner j.check.scope) (pick (given_to from sdf.divider g j))) w ≡ limit_by k pick (unplaced g) w
      one pick g w =
          ap (λ (b : Bounds). limit_or b.signed (chosen_if (grid from sdf corner j.check.scope) (pick (given_to from sdf.divider g j))) w) (bounds-are j k e)
          ∙ (ap (λ n. limit_or (takes_lates k.timing.kind) (chosen_if n (pick (given_to from sdf.divider g j))) w) (grid-is j.check.scope k.check.scope (ap (λ (z : Checked). z.check.scope) e))
          ∙ ap (λ l. limit_or (takes_lates k.timing.kind) (chosen_if (scope_grid c corner k.check.scope) (pick l)) w) (given-to-is g j k e))
