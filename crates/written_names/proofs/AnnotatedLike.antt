-- Annotation changes delays and limits alone.
use Rattle.std.specs.Prelude.{◌≡◌, ℕ, ℤ, pos, List, [], ◌∷◌, length, map}
use Rattle.std.specs.List.{AllByRecursion}
use Rattle.std.proofs.Common.{refl, sym, ◌∙◌, ap, arith}
use Rattle.sg_circuit.specs.Checks.{CheckConditions}
use Rattle.sg_circuit.specs.Circuit.{Circuit, Element, Kind, Gate, Udp, Pass, Leg, Path, Late}
use Rattle.sg_circuit.specs.Closed.{IsClosed}
use Rattle.sg_circuit.specs.Paths as specify
use Rattle.sg_circuit.specs.Signals.{takes_lates}
use Rattle.sg_circuit.specs.declared.checks.Check.{Check}
use Rattle.sg_circuit.specs.declared.checks.CheckTiming.{CheckTiming}
use Rattle.sg_delay.specs.declared.corners.Corner.{Corner}
use Rattle.sdf_tree.specs.Meant.{Sdf}
use Rattle.annotation_model.specs.Annotated.{annotated_by, annotated_check, annotated_element, annotated_kind, annotated_path}
use Rattle.annotation_model.specs.Given.{Given}
use Rattle.annotation_model.specs.Spots.{Checked, all_checked, checked, limits_after}
use Rattle.late_limits.specs.Adjusted.{IsAdjustedFrom, late_delay, late_element, late_kind}
use Rattle.written_giving.specs.AnnotatedBack.{IsLike, IsSettled, stripped, stripped_check, stripped_element, stripped_kind, stripped_path}
use Rattle.written_names.proofs.AnnotatedSettled.{IsFit, check_fit, own_fit, two_of}

module _ (from : Circuit) (sdf : Sdf) (corner : Corner) (gs : List Given) where
  -- ---- elements

  paths_like : (s output : ℕ) (ps : List specify.Path) → map stripped_path (map (annotated_path from sdf corner gs s output) ps) ≡ map stripped_path ps
  paths_like s output [] = refl
  paths_like s output (p ∷ ps) = ap (λ xs. stripped_path p ∷ xs) (paths_like s output ps)

  kind_like : (delay s : ℕ) (inputs : List ℕ) (output : ℕ) (k : Kind) → stripped_kind (late_kind delay (annotated_kind from sdf corner gs s inputs output k)) ≡ stripped_kind k
  kind_like delay s inputs output (Gate kind delays) = refl
  kind_like delay s inputs output (Udp primitive first delays) = refl
  kind_like delay s inputs output (Pass constant) = refl
  kind_like delay s inputs output (Leg timings) = refl
  kind_like delay s inputs output (Path paths style) = ap (λ ps. Path ps style) (paths_like s output paths)
  kind_like delay s inputs output (Late before) = refl

  elements_like : (c : Circuit) (delays : ℕ → List ℕ) (es : List Element) → map stripped_element (map (late_element c delays) (map (annotated_element from sdf corner gs) es)) ≡ map stripped_element es
  elements_like c delays [] = refl
  elements_like c delays (e ∷ es) =
      let x = annotated_element from sdf corner gs e in
      ap {B = List Element} (λ k. record e { kind = k } ∷ map stripped_element (map (late_element c delays) (map (annotated_element from sdf corner gs) es))) (kind_like (late_delay c delays x) e.scope e.inputs e.output e.kind)
      ∙ ap (λ xs. stripped_element e ∷ xs) (elements_like c delays es)

  -- ---- timing checks

  zeros : (ls : List ℤ) → length ls ≡ 2 → map (λ (l : ℤ). pos 0) ls ≡ pos 0 ∷ pos 0 ∷ []
  zeros [] two = absurd (omega (arith, two))
  zeros (l ∷ []) two = absurd (omega (arith, two))
  zeros (l ∷ m ∷ []) two = refl
  zeros (l ∷ m ∷ n ∷ more) two = absurd (omega (arith, two))

  check_like : (k : Checked) → IsFit k.timing → stripped_check (annotated_check from sdf corner gs k) ≡ stripped_check k.timing
  check_like k fit =
      let t = k.timing in
      let now = two_of (takes_lates t.kind) (limits_after from sdf corner gs k) (check_fit from sdf corner gs k fit) in
      ap {B = CheckTiming} (λ ls. record t { limits = ls }) (zeros (limits_after from sdf corner gs k) now ∙ sym (zeros t.limits (two_of (takes_lates t.kind) t.limits fit)))

  checks_like : (ks : List Check) (ts : List CheckTiming) (ws : List CheckConditions) → length ts ≡ length ks → length ws ≡ length ks → AllByRecursion IsFit ts
      → map stripped_check (map (annotated_check from sdf corner gs) (checked ks ts ws)) ≡ map stripped_check ts
  checks_like [] [] ws e f fit = refl
  checks_like [] (t ∷ ts) ws e f fit = absurd (omega (arith, e))
  checks_like (k ∷ ks) [] ws e f fit = absurd (omega (arith, e))
  checks_like (k ∷ ks) (t ∷ ts) [] e f fit = absurd (omega (arith, f))
  checks_like (k ∷ ks) (t ∷ ts) (w ∷ ws) e f fit =
      ap (λ x. x ∷ map stripped_check (map (annotated_check from sdf corner gs) (checked ks ts ws))) (check_like (record { check = k; timing = t; written = w }) fit.0)
      ∙ ap (λ xs. stripped_check t ∷ xs) (checks_like ks ts ws (omega (arith, e)) (omega (arith, f)) fit.1)

  -- ---- circuits

  pub annotated_like : (made : Circuit) → IsClosed from → IsSettled from → IsAdjustedFrom (annotated_by from sdf corner gs) made → IsLike from made
  annotated_like made closed settled a =
      let c = annotated_by from sdf corner gs in
      ap stripped a.made_is
      ∙ (ap {B = Circuit} (λ es. record from { elements = es; check_timings = map stripped_check (map (annotated_check from sdf corner gs) (all_checked from)); zeroed = [] }) (elements_like c a.delays from.elements)
      ∙ ap {B = Circuit} (λ ts. record from { elements = map stripped_element from.elements; check_timings = ts; zeroed = [] })
      (checks_like from.checks from.check_timings from.check_conditions closed.timing_of_each closed.conditions_of_each (own_fit from settled)))
