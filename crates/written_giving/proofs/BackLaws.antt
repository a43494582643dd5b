-- Annotation with the entries of a circuit's tree gives the circuit back.
use Rattle.std.proofs.Common.{◌≡◌, ◌<◌, Bool, true, false, List, [], ◌∷◌, length, refl, sym, ◌∙◌, ap, subst, arith}
use Rattle.std.specs.Prelude.{ℕ, ℤ, pos, negsuc, ◌≤ℤ◌, All, map, Option, Some, None, unwrap_or}
use Rattle.std.specs.List.{flat_map, range_with_len}
use Rattle.std.proofs.lemmas.Int.{ints}
use Rattle.std.proofs.lemmas.List.{length-map}
use Rattle.sg_delay.specs.declared.corners.Corner.{Corner}
use Rattle.sg_circuit.specs.declared.checks.Check.{Check}
use Rattle.sg_circuit.specs.declared.checks.CheckKind.{CheckKind}
use Rattle.sg_circuit.specs.declared.checks.CheckKind.TheVariants as kind
use Rattle.sg_circuit.specs.declared.checks.CheckTiming.{CheckTiming}
use Rattle.sg_circuit.specs.Checks.{CheckConditions}
use Rattle.sg_circuit.specs.Circuit.{Circuit, Element}
use Rattle.sg_circuit.specs.Closed.{IsClosed, IsCheckTiming, HasLimits}
use Rattle.sg_circuit.specs.Signals.{takes_lates}
use Rattle.late_limits.specs.Adjusted.{IsAdjustedFrom, adjusted, zeroes}
use Rattle.late_limits.proofs.OneLaws.{adjusted-is-one}
use Rattle.sdf_tree.specs.declared.words.Divider.TheVariants.{Slash}
use Rattle.sdf_tree.specs.Meant.{Triple, Sdf}
use Rattle.annotation_model.specs.Annotated.{annotated_element, annotated_check, annotated_by}
use Rattle.annotation_model.specs.Applied.{limit_or, chosen_if}
use Rattle.annotation_model.specs.Given.{Given}
use Rattle.annotation_model.specs.Spots.{after, Spot, spots, timings_of, spot_after, Checked, checked, all_checked, given_to, limits_after}
use Rattle.written_model.specs.declared.parts.Part.{Part}
use Rattle.written_model.specs.Entries.{limit_at}
use Rattle.written_model.specs.Faults.{AreFaultless}
use Rattle.written_reading.specs.Named.{IsNamed}
use Rattle.written_giving.specs.AnnotatedBack.{IsLike, as_number, in_numbers, IsSettled}
use Rattle.written_giving.proofs.CheckLaws.{check-among}
use Rattle.written_giving.proofs.PartLaws.{first_part, second_part, first-own, first-only, second-own, second-only, first-in, second-in}
use Rattle.written_giving.proofs.FromLaws.{bare_checked, checks-are, conditions-are, timings-are, elements-are, spot-after-is, limits-after-are}
use Rattle.written_giving.proofs.GivenLaws.{given-is}
use Rattle.written_giving.proofs.LeadLaws.{step, spot-gives}
use Rattle.written_giving.proofs.LimitLaws.{part-leads, no-second}
use Rattle.written_giving.proofs.MemberLaws.{Mem, each-of-all, in-flat, in-range}
use Rattle.written_giving.proofs.PlaceLaws.{unplaced}
use Rattle.written_giving.proofs.SpotLaws.{bare_spot, spot-timings}
use Rattle.written_giving.proofs.FaultLaws.{scope_grid}
use Rattle.written_giving.proofs.StepLaws.{skips-each}
use Rattle.written_giving.proofs.TreeLaws.{given_of}
use Rattle.written_giving.proofs.PieceLaws.{elements-back, checks-back}

module _ (c from : Circuit) (closed : IsClosed c) (named : IsNamed c) (settled : IsSettled c) (faultless : AreFaultless c) (start : IsClosed from) (like : IsLike c from) (sdf : Sdf) (corner : Corner) (unit : sdf.unit ≡ c.tick)
    (divider : sdf.divider ≡ Slash) (gs : List Given) (given : map unplaced gs ≡ flat_map (given_of c) (range_with_len 0 (length c.scopes))) where
  abbrev all : List Given
  all = flat_map (given_of c) (range_with_len 0 (length c.scopes))

  spot-back : (x y : Spot) → Mem x (spots from) → Mem y (spots c) → bare_spot x ≡ bare_spot y → spot_after from sdf corner gs x ≡ map as_number (timings_of y)
  spot-back x y m n e =
      spot-after-is c from like sdf corner unit divider gs x y e
      ∙ (ap (λ hs. after (λ g us. step c closed named faultless corner y g us) hs (timings_of x)) given ∙ spot-gives c closed named faultless corner y n (timings_of x) (spot-timings from start x m).0)

  -- ---- the limits of a check

  pair-of : (ls : List ℤ) → length ls ≡ 2 → ls ≡ limit_at ls 0 ∷ limit_at ls 1 ∷ []
  pair-of [] e = absurd (omega (arith, e))
  pair-of (x ∷ []) e = absurd (omega (arith, e))
  pair-of (x ∷ y ∷ []) e = refl
  pair-of (x ∷ y ∷ z ∷ ls) e = absurd (omega (arith, e))

  two-limits : (k : Checked) → Mem k (all_checked c) → length k.timing.limits ≡ 2
  two-limits k n = each-of-all (λ (t : CheckTiming). length t.limits ≡ 2) c.check_timings settled.pairs k.timing (check-among c k n).1

  also-two : (j k : Checked) → Mem k (all_checked c) → bare_checked j ≡ bare_checked k → length j.timing.limits ≡ 2
  also-two j k n e =
      sym (length-map j.timing.limits (λ (l : ℤ). pos 0)) ∙ (ap (λ (x : Checked). length x.timing.limits) e ∙ (length-map k.timing.limits (λ (l : ℤ). pos 0) ∙ two-limits k n))

  fits-signed : (b : Bool) (l x : ℤ) → (b ≡ false → pos 0 ≤ℤ l) → limit_or b (Some l) x ≡ l
  fits-signed true l x h = refl
  fits-signed false (pos n) x h = refl
  fits-signed false (negsuc n) x h = absurd (let z : pos 0 ≤ℤ negsuc n = h refl in grind (arith, ints))

  fits : (k : Checked) → Mem k (all_checked c) → (i : ℕ) → i < 2 → (x : ℤ) → limit_or (takes_lates k.timing.kind) (Some (limit_at k.timing.limits i)) x ≡ limit_at k.timing.limits i
  fits k n i l x =
      let two = two-limits k n in
      fits-signed (takes_lates k.timing.kind) (limit_at k.timing.limits i) x
      (λ e. each-of-all (λ (t : CheckTiming). takes_lates t.kind ≡ false → All (λ z. pos 0 ≤ℤ z) t.limits) c.check_timings settled.limits k.timing (check-among c k n).1 e i (pos 0) (omega (arith, l, two)))

  abbrev part_step : Checked → (Option Triple × Option Triple → Option Triple) → Given → ℤ → ℤ
  part_step k pick g z = limit_or (takes_lates k.timing.kind) (chosen_if (scope_grid c corner k.check.scope) (pick (given_to c Slash g k))) z

  first-back : (k : Checked) → Mem k (all_checked c) → (x : ℤ) → after (part_step k (λ l. l.0)) all x ≡ limit_at k.timing.limits 0
  first-back k n x =
      let d = k.timing.kind in
      part-leads c closed named faultless corner k n (λ l. l.0) refl (first_part d) (limit_at k.timing.limits 0) (first-in d k.timing.limits)
      (λ q refer datum t e. first-only refer datum t q d e) (λ refer datum t. ap (λ (l : Option Triple × Option Triple). l.0) (first-own refer datum t d)) (takes_lates d) (fits k n 0 (omega arith)) x

  second-back : (k : Checked) → Mem k (all_checked c) → (p : Part) → second_part k.timing.kind ≡ Some p → (x : ℤ) → after (part_step k (λ l. l.1)) all x ≡ limit_at k.timing.limits 1
  second-back k n p e x =
      let d = k.timing.kind in
      part-leads c closed named faultless corner k n (λ l. l.1) refl p (limit_at k.timing.limits 1) (second-in d k.timing.limits p e)
      (λ q refer datum t f. ap (λ (o : Option Part). unwrap_or o q) (sym (second-only refer datum t q d f) ∙ e)) (λ refer datum t. ap (λ (l : Option Triple × Option Triple). l.1) (second-own refer datum t d p e)) (takes_lates d)
      (fits k n 1 (omega arith)) x

  second-stays : (k : Checked) → Mem k (all_checked c) → second_part k.timing.kind ≡ None → (x : ℤ) → after (part_step k (λ l. l.1)) all x ≡ x
  second-stays k n e x =
      skips-each (part_step k (λ l. l.1)) (λ z. Unit {0}) x tt all
      (λ g m v t. let r = in-flat (given_of c) (range_with_len 0 (length c.scopes)) g m in
      let l = in-range 0 (length c.scopes) r.0 r.1 in
      ap (λ o. limit_or (takes_lates k.timing.kind) (chosen_if (scope_grid c corner k.check.scope) o) v) (no-second c closed named k n e r.0 (omega (arith, l)) g (given-is c r.0 g r.2))) x tt

  second-zero : (d : CheckKind) (ls : List ℤ) → second_part d ≡ None → HasLimits d ls → limit_at ls 1 ≡ pos 0
  second-zero kind.Setuphold ls e h = absurd cc
  second-zero kind.Recrem ls e h = absurd cc
  second-zero kind.Setup ls e h = h
  second-zero kind.Hold ls e h = h
  second-zero kind.Recovery ls e h = h
  second-zero kind.Removal ls e h = h
  second-zero kind.Skew ls e h = h
  second-zero kind.Width ls e h = h
  second-zero kind.Period ls e h = h

  second-limit : (j k : Checked) → Mem j (all_checked from) → Mem k (all_checked c) → bare_checked j ≡ bare_checked k → after (part_step k (λ l. l.1)) all (limit_at j.timing.limits 1) ≡ limit_at k.timing.limits 1
  second-limit j k m n e = by (second_part k.timing.kind) refl
    where
      by : (o : Option Part) → second_part k.timing.kind ≡ o → after (part_step k (λ l. l.1)) all (limit_at j.timing.limits 1) ≡ limit_at k.timing.limits 1
      by (Some p) f = second-back k n p f (limit_at j.timing.limits 1)
      by None f =
          let kinds : j.timing.kind ≡ k.timing.kind = ap (λ (x : Checked). x.timing.kind) e in
          let zero_from = second-zero j.timing.kind j.timing.limits (ap second_part kinds ∙ f) (each-of-all (IsCheckTiming (length from.nets)) from.check_timings start.check_timings j.timing (check-among from j m).1).second in
          let zero_of_c = second-zero k.timing.kind k.timing.limits f (each-of-all (IsCheckTiming (length c.nets)) c.check_timings closed.check_timings k.timing (check-among c k n).1).second in
          second-stays k n f (limit_at j.timing.limits 1) ∙ (zero_from ∙ sym zero_of_c)

  limits-back : (j k : Checked) → Mem j (all_checked from) → Mem k (all_checked c) → bare_checked j ≡ bare_checked k → limits_after from sdf corner gs j ≡ k.timing.limits
  limits-back j k m n e =
      let ls = k.timing.limits in
      let js = j.timing.limits in
      limits-after-are c from like sdf corner unit divider gs j k (limit_at js 0) (limit_at js 1) e (pair-of js (also-two j k n e))
      ∙ (ap (λ hs. after (part_step k (λ l. l.0)) hs (limit_at js 0) ∷ after (part_step k (λ l. l.1)) hs (limit_at js 1) ∷ []) given
      ∙ (ap (λ x. x ∷ after (part_step k (λ l. l.1)) all (limit_at js 1) ∷ []) (first-back k n (limit_at js 0))
      ∙ (ap (λ x. limit_at ls 0 ∷ x ∷ []) (second-limit j k m n e) ∙ sym (pair-of ls (two-limits k n)))))

  timings-back : map (annotated_check from sdf corner gs) (all_checked from) ≡ c.check_timings
  timings-back =
      checks-back from sdf corner gs from.checks from.check_timings c.check_timings from.check_conditions (timings-are c from like sdf corner unit divider)
      (closed.timing_of_each ∙ sym (ap (λ (xs : List Check). length xs) (checks-are c from like sdf corner unit divider)))
      (ap (λ (xs : List CheckConditions). length xs) (conditions-are c from like sdf corner unit divider) ∙ (closed.conditions_of_each ∙ sym (ap (λ (xs : List Check). length xs) (checks-are c from like sdf corner unit divider))))
      (λ j k m n e. limits-back j k m (subst (λ ks. Mem k (checked ks c.check_timings c.check_conditions)) (checks-are c from like sdf corner unit divider)
      (subst (λ ws. Mem k (checked from.checks c.check_timings ws)) (conditions-are c from like sdf corner unit divider) n)) e)

  -- ---- the circuit

  abbrev new_elements : List Element
  new_elements = map (annotated_element from sdf corner gs) from.elements

  -- annotation gives the circuit, but for its elements' delays
  annotated-is : annotated_by from sdf corner gs ≡ record c { elements = new_elements; zeroed = from.zeroed }
  annotated-is =
      ap {B = Circuit} (λ (x : Circuit). record x { elements = new_elements; check_timings = map (annotated_check from sdf corner gs) (all_checked from); zeroed = from.zeroed }) like
      ∙ ap {B = Circuit} (λ ts. record c { elements = new_elements; check_timings = ts; zeroed = from.zeroed }) timings-back

  pub given-back : (made : Circuit) → IsAdjustedFrom (annotated_by from sdf corner gs) made → in_numbers made ≡ in_numbers c
  given-back made h =
      let a : IsAdjustedFrom (record c { elements = new_elements; zeroed = from.zeroed }) made = subst (λ (x : Circuit). IsAdjustedFrom x made) annotated-is h in
      let back : adjusted c a.zeroed a.delays ≡ c = adjusted-is-one c (adjusted c a.zeroed a.delays) c closed (record { zeroed = a.zeroed; delays = a.delays; are = a.are; made_is = refl }) settled.adjusted in
      ap in_numbers a.made_is
      ∙ (ap {B = Circuit} (λ es. record c { elements = es; zeroed = zeroes c a.zeroed })
      (elements-back from sdf corner gs c a.delays from.elements c.elements (elements-are c from like sdf corner unit divider) (λ x y m n e. spot-back x y m n e))
      ∙ ap in_numbers back)
