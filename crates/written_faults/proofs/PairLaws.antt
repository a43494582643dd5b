-- The pairs that are read are those of the entries.
use Rattle.std.proofs.Common.{◌≡◌, refl, sym, ◌∙◌, ap, subst, ℕ, ℤ, ◌<◌, Bool, true, false, List, [], ◌∷◌, length, map, Option, Some, None, slice_get, slice_index_or}
use Rattle.std.specs.Prelude.{Result, Ok, Err, IfOk}
use Rattle.std.proofs.lemmas.List.{get_or-map}
use Rattle.std.proofs.lemmas.Option.{slice_get_read}
use Rattle.sg_circuit.specs.declared.checks.CheckConditions.{CheckConditions}
use Rattle.sg_circuit.specs.declared.checks.CheckTiming.{CheckTiming}
use Rattle.sg_circuit.specs.declared.circuits.Parts.{Parts}
use Rattle.sg_circuit.specs.declared.elements.Element as code_element
use Rattle.sg_circuit.specs.declared.elements.LegTiming.{LegTiming}
use Rattle.sg_circuit.specs.declared.paths.Path as code_path
use Rattle.sg_circuit.specs.TimingsSeen.{leg_timing_seen}
use Rattle.written_model.specs.declared.parts.Part.{Part}
use Rattle.written_model.specs.Entries.{Numbers, numbers_of, limit_at, parts_of}
use Rattle.written_faults.specs.Ambiguities.{path_pair, element_pairs, of_item, check_pairs, pairs_of_check}
use Rattle.written_faults.specs.Keys.{PathCode, EventCode, PartCode, path_code, event_codes, part_number, parts_with, part_code}
use Rattle.written_faults.specs.Reading.{Reads}
use Rattle.written_faults.proofs.ReadingLaws.{reads-more, reads-enough}

pub pair_is : (timings : List LegTiming) (classes : List ℕ) (output : ℕ) (p : code_path.Path) (code : PathCode) (T : LegTiming) → code ≡ path_code classes output p → T ≡ slice_index_or timings p.timing T → p.timing < length timings
    → ◌≡◌ {A = List (PathCode × List Numbers)} ((code, map numbers_of (leg_timing_seen T)) ∷ []) (path_pair timings classes output p ∷ [])
pair_is timings classes output p code T is at l =
    ap {B = List (PathCode × List Numbers)} (λ c. (c, map numbers_of (leg_timing_seen T)) ∷ []) is
    ∙ ap {B = List (PathCode × List Numbers)} (λ ts. (path_code classes output p, map numbers_of ts) ∷ []) (ap (λ x. leg_timing_seen x) at ∙ sym (get_or-map (λ t. leg_timing_seen t) timings p.timing T [] l))

pub element_pairs_is : (parts : Parts) (classes : List ℕ) (k : ℕ) (e : code_element.Element) → k < length parts.elements.items → e ≡ slice_index_or parts.elements.items k e
    → element_pairs parts classes e ≡ of_item (element_pairs parts classes) (slice_get parts.elements.items k)
element_pairs_is parts classes k e l at = sym (ap (of_item (element_pairs parts classes)) (slice_get_read parts.elements.items (length parts.elements.items) k e refl l at))

-- ---- timing checks

pub check_pairs_is : (parts : Parts) (classes : List ℕ) (k : ℕ) (t : CheckTiming) (w : CheckConditions) → k < length parts.check_timings.items → k < length parts.check_conditions.items → t ≡ slice_index_or parts.check_timings.items k t → w ≡ slice_index_or parts.check_conditions.items k w
    → check_pairs classes t w ≡ pairs_of_check classes (slice_get parts.check_timings.items k) (slice_get parts.check_conditions.items k)
check_pairs_is parts classes k t w l m at at' =
    sym (ap (λ o. pairs_of_check classes o (slice_get parts.check_conditions.items k)) (slice_get_read parts.check_timings.items (length parts.check_timings.items) k t refl l at)
    ∙ ap (pairs_of_check classes (Some t)) (slice_get_read parts.check_conditions.items (length parts.check_conditions.items) k w refl m at'))

-- a check with one part, and with two
pub one_part : (classes : List ℕ) (t : CheckTiming) (w : CheckConditions) (parts : Part × Option Part) (number : ℕ) (events : EventCode × Option EventCode) → parts_of t.kind t.limits ≡ parts_with parts t.limits → number ≡ part_number parts.0 → events ≡ event_codes classes t w
    → parts.1 ≡ None → ◌≡◌ {A = List (PartCode × ℤ)} (((number, events.0, events.1), limit_at t.limits 0) ∷ []) (check_pairs classes t w)
one_part classes t w parts number events are first same none =
    ap {B = List (PartCode × ℤ)} (λ n. ((n, events.0, events.1), limit_at t.limits 0) ∷ []) first
    ∙ (ap {B = List (PartCode × ℤ)} (λ (e : EventCode × Option EventCode). ((part_number parts.0, e.0, e.1), limit_at t.limits 0) ∷ []) same
    ∙ sym (ap (map (λ (p : Part × ℤ). (part_code (event_codes classes t w) p.0, p.1))) (are ∙ ap {A = Option Part} (λ o. parts_with (parts.0, o) t.limits) none)))

pub two_parts : (classes : List ℕ) (t : CheckTiming) (w : CheckConditions) (parts : Part × Option Part) (second : Part) (number other : ℕ) (events : EventCode × Option EventCode) → parts_of t.kind t.limits ≡ parts_with parts t.limits → number ≡ part_number parts.0 → other ≡ part_number second
    → events ≡ event_codes classes t w → parts.1 ≡ Some second
    → ◌≡◌ {A = List (PartCode × ℤ)} (((number, events.0, events.1), limit_at t.limits 0) ∷ ((other, events.0, events.1), limit_at t.limits 1) ∷ []) (check_pairs classes t w)
two_parts classes t w parts second number other events are first last same some =
    ap {B = List (PartCode × ℤ)} (λ n. ((n, events.0, events.1), limit_at t.limits 0) ∷ ((other, events.0, events.1), limit_at t.limits 1) ∷ []) first
    ∙ (ap {B = List (PartCode × ℤ)} (λ n. ((part_number parts.0, events.0, events.1), limit_at t.limits 0) ∷ ((n, events.0, events.1), limit_at t.limits 1) ∷ []) last
    ∙ (ap {B = List (PartCode × ℤ)} (λ (e : EventCode × Option EventCode). ((part_number parts.0, e.0, e.1), limit_at t.limits 0) ∷ ((part_number second, e.0, e.1), limit_at t.limits 1) ∷ []) same
    ∙ sym (ap (map (λ (p : Part × ℤ). (part_code (event_codes classes t w) p.0, p.1))) (are ∙ ap {A = Option Part} (λ o. parts_with (parts.0, o) t.limits) some))))

-- two of its parts differ from one before, whatever comes behind
pub first_part_differs : (classes : List ℕ) (t : CheckTiming) (w : CheckConditions) (parts : Part × Option Part) (number : ℕ) (events : EventCode × Option EventCode) (old new : PartCode → Option ℤ) (b : Bool) → parts_of t.kind t.limits ≡ parts_with parts t.limits
    → number ≡ part_number parts.0 → events ≡ event_codes classes t w → b ≡ true → Reads (((number, events.0, events.1), limit_at t.limits 0) ∷ []) old new b → Reads (check_pairs classes t w) old new true
first_part_differs classes t w parts number events old new b are first same e here = by parts.1 refl
  where
    true-here : Reads (((number, events.0, events.1), limit_at t.limits 0) ∷ []) old new true
    true-here = subst (λ c. Reads {K = PartCode} (((number, events.0, events.1), limit_at t.limits 0) ∷ []) old new c) e here

    by : (second : Option Part) → parts.1 ≡ second → Reads (check_pairs classes t w) old new true
    by None none = subst (λ qs. Reads qs old new true) (one_part classes t w parts number events are first same none) true-here
    by (Some second) some =
        subst (λ qs. Reads qs old new true) (two_parts classes t w parts second number (part_number second) events are first refl same some)
        (reads-enough (((number, events.0, events.1), limit_at t.limits 0) ∷ []) (((part_number second, events.0, events.1), limit_at t.limits 1) ∷ []) old new true-here)

-- its second part is read behind the first
pub second_part : {E : Type 0} (r : Result Bool E) (classes : List ℕ) (t : CheckTiming) (w : CheckConditions) (parts : Part × Option Part) (second : Part) (number other : ℕ) (events : EventCode × Option EventCode) (old middle new : PartCode → Option ℤ) (b : Bool)
    → parts_of t.kind t.limits ≡ parts_with parts t.limits → number ≡ part_number parts.0 → other ≡ part_number second → events ≡ event_codes classes t w → parts.1 ≡ Some second → b ≡ false
    → Reads (((number, events.0, events.1), limit_at t.limits 0) ∷ []) old middle b → IfOk r (Reads (((other, events.0, events.1), limit_at t.limits 1) ∷ []) middle new) → IfOk r (Reads (check_pairs classes t w) old new)
second_part (Ok c) classes t w parts second number other events old middle new b are first last same some e before here =
    subst (λ qs. Reads qs old new c) (two_parts classes t w parts second number other events are first last same some)
    (reads-more (((number, events.0, events.1), limit_at t.limits 0) ∷ []) (((other, events.0, events.1), limit_at t.limits 1) ∷ []) old middle new c
    (subst (λ d. Reads {K = PartCode} (((number, events.0, events.1), limit_at t.limits 0) ∷ []) old middle d) e before) here)
second_part (Err why) classes t w parts second number other events old middle new b are first last same some e before here = tt
