-- What a circuit is adjusted to is one.
use Rattle.std.specs.Prelude.{◌≡◌, ℕ, suc, ◌<◌, List, [], ◌∷◌, length, map, slice_index_or, refl}
use Rattle.std.proofs.Common.{sym, ◌∙◌, ap, arith}
use Rattle.sg_circuit.specs.Circuit.{Circuit, Element}
use Rattle.sg_circuit.specs.Closed.{IsClosed}
use Rattle.sg_circuit.specs.Signals.{signals, windows}
use Rattle.neg_limits.specs.declared.pairs.Zeroed.{Zeroed}
use Rattle.neg_limits.specs.Pairs.{delay_at}
use Rattle.neg_limits.proofs.OneLaws.{one-adjusted}
use Rattle.late_limits.specs.Pairs.{pairs, signal_number}
use Rattle.late_limits.specs.Adjusted.{adjusted, copied, late_element, late_kind, zero_of, zeroes, AreAdjusted, IsAdjustedFrom}
use Rattle.late_limits.proofs.RangeLaws.{pieces-same}

elements-one : (f g : Element → Element) (es : List Element) → ((i : ℕ) (d : Element) → i < length es → f (slice_index_or es i d) ≡ g (slice_index_or es i d)) → map f es ≡ map g es
elements-one f g [] h = refl
elements-one f g (e ∷ es) h = ap (λ x. x ∷ map f es) (h 0 e (omega arith)) ∙ ap (λ xs. g e ∷ xs) (elements-one f g es (λ i d l. h (suc i) d (omega arith)))

adjusted-one : (c : Circuit) (zs ws : ℕ → List Zeroed) (ds es : ℕ → List ℕ) → IsClosed c → AreAdjusted c.checks c.check_timings (length c.scopes) zs ds → AreAdjusted c.checks c.check_timings (length c.scopes) ws es → adjusted c zs ds ≡ adjusted c ws es
adjusted-one c zs ws ds es closed a b =
    ap {B = Circuit} (λ xs. record c { elements = xs; zeroed = zeroes c zs }) (elements-one (late_element c ds) (late_element c es) c.elements one)
    ∙ ap {B = Circuit} (λ xs. record c { elements = map (late_element c es) c.elements; zeroed = xs })
    (pieces-same (λ s. map (zero_of (windows c.checks c.check_timings s)) (zs s)) (λ s. map (zero_of (windows c.checks c.check_timings s)) (ws s)) (length c.scopes)
    (λ s l. ap (map (zero_of (windows c.checks c.check_timings s))) (same s l).0))
  where
    same : (s : ℕ) → s < length c.scopes → (zs s ≡ ws s) × (ds s ≡ es s)
    same s l = one-adjusted (length (signals c.checks c.check_timings s)) (pairs c.checks c.check_timings s) (zs s) (ws s) (ds s) (es s) (a.each s l) (b.each s l)

    one : (i : ℕ) (d : Element) → i < length c.elements → late_element c ds (slice_index_or c.elements i d) ≡ late_element c es (slice_index_or c.elements i d)
    one i d l =
        let e : Element = slice_index_or c.elements i d in
        ap {B = Element} (λ xs. record e { kind = late_kind (delay_at xs (signal_number (signals c.checks c.check_timings e.scope) (copied e.inputs))) e.kind }) (same e.scope (closed.element_scopes i d l)).1

pub adjusted-is-one : (c made other : Circuit) → IsClosed c → IsAdjustedFrom c made → IsAdjustedFrom c other → made ≡ other
adjusted-is-one c made other closed a b = a.made_is ∙ (adjusted-one c a.zeroed b.zeroed a.delays b.delays closed a.are b.are ∙ sym b.made_is)
