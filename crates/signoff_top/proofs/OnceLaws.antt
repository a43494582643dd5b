-- A circuit is adjusted in one way.
use Rattle.std.proofs.Common.{◌≡◌, ◌∙◌, sym, ap, refl, ℕ, zero, suc, ◌+◌, ◌<◌, ◌≤◌, arith, List, [], ◌∷◌, ◌++◌, All, length, map, slice_index_or}
use Rattle.std.specs.List.{flat_map, range_with_len}
use Rattle.sg_circuit.specs.Circuit.{Circuit, Element}
use Rattle.sg_circuit.specs.Signals.{signals, windows}
use Rattle.neg_limits.specs.declared.pairs.Zeroed.{Zeroed}
use Rattle.neg_limits.proofs.OneLaws.{one-adjusted}
use Rattle.late_limits.specs.Adjusted.{adjusted, late_element, late_kind, zero_of, copied, IsAdjustedFrom}
use Rattle.late_limits.specs.Pairs.{signal_number, pairs}
use Rattle.neg_limits.specs.Pairs.{delay_at}

same-range : {A : Type 0} (f g : ℕ → List A) (a n m : ℕ) → a + n ≤ m → ((k : ℕ) → k < m → f k ≡ g k) → flat_map f (range_with_len a n) ≡ flat_map g (range_with_len a n)
same-range f g a zero m within same = refl
same-range f g a (suc n) m within same =
    ap (λ xs. xs ++ flat_map f (range_with_len (a + 1) n)) (same a (omega arith)) ∙ ap (λ ys. g a ++ ys) (same-range f g (a + 1) n m (omega arith) same)

same-map : {A B : Type 0} (P : A → Type 0) (f g : A → B) (xs : List A) → All P xs → ((x : A) → P x → f x ≡ g x) → map f xs ≡ map g xs
same-map {A} {B} P f g xs all same = by xs (λ i d l. same (slice_index_or xs i d) (all i d l))
  where
    by : (ys : List A) → ((i : ℕ) (d : A) → i < length ys → f (slice_index_or ys i d) ≡ g (slice_index_or ys i d)) → map f ys ≡ map g ys
    by [] h = refl
    by (y ∷ ys) h = ap (λ x. x ∷ map f ys) (h 0 y (omega arith)) ∙ ap (λ zs. g y ∷ zs) (by ys (λ i d l. h (suc i) d (omega arith)))

-- Two circuits that are adjusted from one are the same.
pub adjusted-once : (c made other : Circuit) → All (λ e. e.scope < length c.scopes) c.elements → IsAdjustedFrom c made → IsAdjustedFrom c other → made ≡ other
adjusted-once c made other within a b =
    let count : ℕ → ℕ = λ s. length (signals c.checks c.check_timings s) in
    let one : (s : ℕ) → s < length c.scopes → (a.zeroed s ≡ b.zeroed s) × (a.delays s ≡ b.delays s) =
    λ s l. one-adjusted (count s) (pairs c.checks c.check_timings s) (a.zeroed s) (b.zeroed s) (a.delays s) (b.delays s) (a.are.each s l) (b.are.each s l) in
    let elements : map (late_element c a.delays) c.elements ≡ map (late_element c b.delays) c.elements =
    same-map (λ (e : Element). e.scope < length c.scopes) (late_element c a.delays) (late_element c b.delays) c.elements within
    (λ e l. ap (λ (ds : List ℕ). record e { kind = late_kind (delay_at ds (signal_number (signals c.checks c.check_timings e.scope) (copied e.inputs))) e.kind }) (one e.scope l).1) in
    let zeroed = same-range (λ s. map (zero_of (windows c.checks c.check_timings s)) (a.zeroed s)) (λ s. map (zero_of (windows c.checks c.check_timings s)) (b.zeroed s)) 0 (length c.scopes) (length c.scopes) (omega arith)
    (λ s l. ap (λ (zs : List Zeroed). map (zero_of (windows c.checks c.check_timings s)) zs) (one s l).0) in
    a.made_is
    ∙ (ap (λ (es : List Element). record c { elements = es; zeroed = (adjusted c a.zeroed a.delays).zeroed }) elements
    ∙ (ap (λ zs. record c { elements = map (late_element c b.delays) c.elements; zeroed = zs }) zeroed ∙ sym b.made_is))
