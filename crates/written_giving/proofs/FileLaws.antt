-- No entry of a circuit's tree is too large in a circuit that is like it, and each is for something.
use Rattle.std.proofs.Common.{◌≡◌, ◌<◌, Bool, true, false, List, [], ◌∷◌, ◌++◌, length, refl, sym, ◌∙◌, ap, subst, arith, inl, inr}
use Rattle.std.specs.Prelude.{ℕ, ◌&&◌, ◌||◌, not, map, cond, Some, None, if◌then◌else◌}
use Rattle.std.specs.List.{filter, flat_map, list_any, range_with_len}
use Rattle.std.proofs.lemmas.Bool.{or_right}
use Rattle.sg_delay.specs.declared.corners.Corner.{Corner}
use Rattle.sg_circuit.specs.Circuit.{Circuit}
use Rattle.sg_circuit.specs.Closed.{IsClosed}
use Rattle.sg_circuit.specs.Timings.{Timing}
use Rattle.sdf_tree.specs.declared.words.Divider.TheVariants.{Slash}
use Rattle.sdf_tree.specs.Meant.{Sdf}
use Rattle.annotation_model.specs.Annotated.{is_for_something, is_too_large_after, first_too_large, unmatched_in, told_of}
use Rattle.annotation_model.specs.Applied.{Bounds, is_too_large, are_limits_large}
use Rattle.annotation_model.specs.Given.{Given}
use Rattle.annotation_model.specs.Spots.{grid, Spot, leg_spot, path_spot, spots, scope_of, is_for_spot, is_large_at, spot_after, Checked, all_checked, given_to, is_given, is_for_check, bounds, is_limit_large_at}
use Rattle.written_model.specs.Entries.{LegEntry, PathEntry}
use Rattle.written_model.specs.Faults.{AreFaultless}
use Rattle.written_reading.specs.Named.{IsNamed}
use Rattle.written_giving.specs.AnnotatedBack.{IsLike}
use Rattle.written_giving.proofs.CheckLaws.{check-entry}
use Rattle.written_giving.proofs.FaultLaws.{scope_grid}
use Rattle.written_giving.proofs.FromLaws.{for-is, grid-is, bounds-are, given-to-is, spot-to, spot-back, check-to, check-back}
use Rattle.written_giving.proofs.GivenLaws.{IsGivenOf, a_leg, a_path, a_check, given-is, leg-given-own, path-given-own}
use Rattle.written_giving.proofs.MemberLaws.{Mem, any-in, none-any, in-flat, in-range, map-in}
use Rattle.written_giving.proofs.PlaceLaws.{unplaced}
use Rattle.written_giving.proofs.SpotLaws.{bare_spot, spot-scope, scope-alike, path-entry, leg-entry}
use Rattle.written_giving.proofs.TreeLaws.{leg_given, path_given, given_of}
use Rattle.std.proofs.Math.Bool.{and-false}
use Rattle.written_giving.proofs.SmallLaws.{spot-small, limits-small, check-own}

module _ (c from : Circuit) (closed : IsClosed c) (named : IsNamed c) (faultless : AreFaultless c) (like : IsLike c from) (sdf : Sdf) (corner : Corner) (unit : sdf.unit ≡ c.tick) (divider : sdf.divider ≡ Slash)
    (gs : List Given) (given : map unplaced gs ≡ flat_map (given_of c) (range_with_len 0 (length c.scopes))) where
  record IsWritten (g : Given) : Type 0 where
    pub scope : ℕ
    pub within : scope < length c.scopes
    pub is : IsGivenOf c scope (unplaced g)

  written : (g : Given) → Mem g gs → IsWritten g
  written g m =
      let r = in-flat (given_of c) (range_with_len 0 (length c.scopes)) (unplaced g) (subst (Mem (unplaced g)) given (map-in unplaced gs g m)) in
      let l = in-range 0 (length c.scopes) r.0 r.1 in
      record { scope = r.0; within = omega (arith, l); is = given-is c r.0 (unplaced g) r.2 }

  -- ---- too large

  no-large-spot : (g : Given) → IsWritten g → (x : Spot) → Mem x (spots from) → (ts : List Timing) → (is_for_spot from sdf.divider g x && is_large_at from sdf corner g x ts) ≡ false
  no-large-spot g w x m ts =
      let y = spot-to c from like sdf corner unit divider x m in
      let same : is_for_spot from sdf.divider g x ≡ is_for_spot c Slash (unplaced g) y.0 = for-is c from like sdf corner unit divider g x y.0 y.2 in
      ap (λ b. b && is_large_at from sdf corner g x ts) same ∙ by y.0 y.1 y.2 (is_for_spot c Slash (unplaced g) y.0) refl
    where
      by : (y : Spot) → Mem y (spots c) → bare_spot x ≡ bare_spot y → (b : Bool) → is_for_spot c Slash (unplaced g) y ≡ b → (b && is_large_at from sdf corner g x ts) ≡ false
      by y n e true t =
          ap (λ q. is_too_large q g.entry ts) (grid-is c from like sdf corner unit divider (scope_of x) (scope_of y) (scope-alike x y e))
          ∙ spot-small c closed named faultless corner w.scope w.within (unplaced g) w.is y (spot-scope c closed y n) ts t
      by y n e false t = refl

  no-large-check : (g : Given) → IsWritten g → (j : Checked) → Mem j (all_checked from) → (is_for_check from sdf.divider g j && is_limit_large_at from sdf corner g j) ≡ false
  no-large-check g w j m =
      let k = check-to c from like sdf corner unit divider j m in
      let small : is_limit_large_at from sdf corner g j ≡ false =
      ap (λ (b : Bounds). are_limits_large b (grid from sdf corner j.check.scope) (given_to from sdf.divider g j)) (bounds-are c from like sdf corner unit divider j k.0 k.2)
      ∙ (ap (λ q. are_limits_large (bounds c k.0) q (given_to from sdf.divider g j)) (grid-is c from like sdf corner unit divider j.check.scope k.0.check.scope (ap (λ (z : Checked). z.check.scope) k.2))
      ∙ (ap (λ q. are_limits_large (bounds c k.0) (scope_grid c corner k.0.check.scope) q) (given-to-is c from like sdf corner unit divider g j k.0 k.2)
      ∙ limits-small c closed named faultless corner k.0 k.1 w.scope w.within (unplaced g) w.is)) in
      ap (λ b. is_for_check from sdf.divider g j && b) small ∙ and-false (is_for_check from sdf.divider g j)

  not-large : (g : Given) → IsWritten g → (before : List Given) → is_too_large_after from sdf corner before g ≡ false
  not-large g w before =
      ap (λ b. b || list_any (λ j. is_for_check from sdf.divider g j && is_limit_large_at from sdf corner g j) (all_checked from))
      (none-any (λ x. is_for_spot from sdf.divider g x && is_large_at from sdf corner g x (spot_after from sdf corner before x)) (spots from) (λ x m. no-large-spot g w x m (spot_after from sdf corner before x)))
      ∙ none-any (λ j. is_for_check from sdf.divider g j && is_limit_large_at from sdf corner g j) (all_checked from) (λ j m. no-large-check g w j m)

  none-large : (before rest : List Given) → ((g : Given) → Mem g rest → IsWritten g) → first_too_large from sdf corner before rest ≡ None
  none-large before [] h = refl
  none-large before (g ∷ rest) h =
      ap (λ b. if b then Some g.entry.place else first_too_large from sdf corner (before ++ g ∷ []) rest) (not-large g (h g (inl refl)) before)
      ∙ none-large (before ++ g ∷ []) rest (λ x m. h x (inr m))

  pub all-small : first_too_large from sdf corner [] gs ≡ None
  all-small = none-large [] gs written

  -- ---- for nothing

  spot-something : (g : Given) (y : Spot) → Mem y (spots c) → is_for_spot c Slash (unplaced g) y ≡ true → is_for_something from sdf g ≡ true
  spot-something g y m t =
      let x = spot-back c from like sdf corner unit divider y m in
      let for : is_for_spot from sdf.divider g x.0 ≡ true = for-is c from like sdf corner unit divider g x.0 y (sym x.2) ∙ t in
      ap (λ b. b || list_any (λ k. is_for_check from sdf.divider g k) (all_checked from)) (any-in (λ s. is_for_spot from sdf.divider g s) (spots from) x.0 x.1 for)

  check-something : (g : Given) (k : Checked) → Mem k (all_checked c) → is_given (given_to c Slash (unplaced g) k) ≡ true → is_for_something from sdf g ≡ true
  check-something g k m t =
      let j = check-back c from like sdf corner unit divider k m in
      let for : is_for_check from sdf.divider g j.0 ≡ true = ap is_given (given-to-is c from like sdf corner unit divider g j.0 k (sym j.2)) ∙ t in
      or_right (list_any (λ s. is_for_spot from sdf.divider g s) (spots from)) (list_any (λ i. is_for_check from sdf.divider g i) (all_checked from)) (any-in (λ i. is_for_check from sdf.divider g i) (all_checked from) j.0 j.1 for)

  something : (g : Given) → (s : ℕ) → s < length c.scopes → (h : Given) → unplaced g ≡ h → IsGivenOf c s h → is_for_something from sdf g ≡ true
  something g s l h e (a_leg x m) =
      let i = leg-entry c s x m in
      let y = leg_spot s i.inputs i.output i.timings in
      spot-something g y i.among
      (ap (λ z. is_for_spot c Slash z y) e ∙ (ap (λ (z : LegEntry). is_for_spot c Slash (leg_given c s z) y) i.is ∙ leg-given-own c closed named s i.inputs i.output i.timings l i.among))
  something g s l h e (a_path x m) =
      let i = path-entry c s x m in
      let y = path_spot s i.output i.path in
      spot-something g y i.among
      (ap (λ z. is_for_spot c Slash z y) e ∙ (ap (λ (z : PathEntry). is_for_spot c Slash (path_given c s z) y) i.is ∙ path-given-own c closed named s i.output i.path l i.among))
  something g s l h e (a_check x m) =
      check-something g (check-entry c s x m).of (check-entry c s x m).among (ap (λ z. is_given (given_to c Slash z (check-entry c s x m).of)) e ∙ check-own c closed named faultless corner s l x m)

  none-left : (rest : List Given) → ((g : Given) → Mem g rest → IsWritten g) → filter (λ g. not (is_for_something from sdf g)) rest ≡ []
  none-left [] h = refl
  none-left (g ∷ rest) h =
      let w = h g (inl refl) in
      ap (λ b. cond (not b) (g ∷ filter (λ g. not (is_for_something from sdf g)) rest) (filter (λ g. not (is_for_something from sdf g)) rest)) (something g w.scope w.within (unplaced g) refl w.is)
      ∙ none-left rest (λ x m. h x (inr m))

  pub all-matched : unmatched_in from sdf gs ≡ []
  all-matched = ap (map told_of) (none-left gs written)
