-- An adjusted circuit is adjusted from itself.
use Rattle.std.specs.Prelude.{◌≡◌, ℕ, List, [], ◌∷◌, map}
use Rattle.std.proofs.Common.{refl, sym, ◌∙◌, ap, subst}
use Rattle.sg_circuit.specs.Circuit.{Circuit, Element, Kind, Gate, Udp, Pass, Leg, Path, Late}
use Rattle.neg_limits.specs.declared.pairs.Zeroed.{Zeroed}
use Rattle.late_limits.specs.Adjusted.{adjusted, late_delay, late_element, late_kind, zeroes, IsAdjustedFrom}

late_again : (delay : ℕ) (k : Kind) → late_kind delay (late_kind delay k) ≡ late_kind delay k
late_again delay (Gate kind delays) = refl
late_again delay (Udp primitive first delays) = refl
late_again delay (Pass constant) = refl
late_again delay (Leg timings) = refl
late_again delay (Path paths style) = refl
late_again delay (Late before) = refl

elements_again : (c : Circuit) (delays : ℕ → List ℕ) (es : List Element) → map (late_element c delays) (map (late_element c delays) es) ≡ map (late_element c delays) es
elements_again c delays [] = refl
elements_again c delays (e ∷ es) =
    ap {B = List Element} (λ k. record e { kind = k } ∷ map (late_element c delays) (map (late_element c delays) es)) (late_again (late_delay c delays e) e.kind)
    ∙ ap (λ xs. late_element c delays e ∷ xs) (elements_again c delays es)

adjusted_again : (c : Circuit) (zeroed : ℕ → List Zeroed) (delays : ℕ → List ℕ) → adjusted (adjusted c zeroed delays) zeroed delays ≡ adjusted c zeroed delays
adjusted_again c zeroed delays = ap {B = Circuit} (λ es. record c { elements = es; zeroed = zeroes c zeroed }) (elements_again c delays c.elements)

pub own_adjusted : (c made : Circuit) → IsAdjustedFrom c made → IsAdjustedFrom made made
own_adjusted c made a =
    subst (λ (m : Circuit). IsAdjustedFrom m m) (sym a.made_is)
    (record { zeroed = a.zeroed; delays = a.delays; are = a.are; made_is = sym (adjusted_again c a.zeroed a.delays) })
