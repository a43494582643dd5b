-- The paths of each use stand behind those of the uses before, and so do those of the elements.
use Rattle.std.specs.Prelude.{◌≡◌, ℕ, zero, suc, ◌<◌, ◌≤◌, List, [], ◌∷◌, ◌++◌, Bool, true, false, drop, length, slice_index_or, refl, if◌then◌else◌}
use Rattle.std.specs.List.{AllByRecursion}
use Rattle.std.proofs.Common.{arith}
use Rattle.std.proofs.lemmas.List.Elements.{All-from_recursion}
use Rattle.sg_circuit.specs.Seen.{paths_of, AreApart}
use Rattle.sg_circuit.specs.declared.elements.Element as code
use Rattle.sg_circuit.specs.declared.elements.ElementKind.{ElementKind}
use Rattle.sg_circuit.specs.declared.elements.ElementKind.TheVariants as kind
use Rattle.elab_laws.proofs.Lists.{Pairwise, all-anyway, all-append}
use Rattle.elab_paths.specs.Filling.{is_path, paths_among, with_next, filled}
use Rattle.elab_paths.specs.Uses.{AreBeside}
use Rattle.elab_paths.specs.declared.uses.PathUse.{PathUse}
use Rattle.elab_paths.proofs.FilledElements.{kind-of, all-filled}

-- ---- uses

pub beside-more : (us : List PathUse) (v : PathUse) → AreBeside us → AllByRecursion (λ u. u.paths.end ≤ v.paths.start) us → AreBeside (us ++ v ∷ [])
beside-more [] v h k = (tt, tt)
beside-more (u ∷ us) v h k = (all-append (λ w. u.paths.end ≤ w.paths.start) us (v ∷ []) h.0 (k.0, tt), beside-more us v h.1 k.1)

-- ---- elements

abbrev KindsApart : ElementKind → ElementKind → Type 0
KindsApart k m = AreApart (paths_of k) (paths_of m)

plain-apart : (k m : ElementKind) → is_path k ≡ false → KindsApart k m
plain-apart (kind.Gate g d) m f = tt
plain-apart (kind.Udp u d) m f = tt
plain-apart (kind.Pass v) m f = tt
plain-apart (kind.Leg t) m f = tt
plain-apart (kind.Path span style) m f = cc
plain-apart (kind.Late d) m f = tt

before-plain : (u : PathUse) (k : ElementKind) → is_path k ≡ false → KindsApart (kind-of u) k
before-plain u (kind.Gate g d) f = tt
before-plain u (kind.Udp v d) f = tt
before-plain u (kind.Pass v) f = tt
before-plain u (kind.Leg t) f = tt
before-plain u (kind.Path span style) f = cc
before-plain u (kind.Late d) f = tt

abbrev ElementsApart : code.Element → code.Element → Type 0
ElementsApart x y = KindsApart x.kind y.kind

filled-apart : (uses : List PathUse) (es : List code.Element) → paths_among es ≤ length uses → AreBeside uses → Pairwise ElementsApart (filled uses es)
filled-apart uses [] le b = tt
filled-apart uses (e ∷ es) le b = by (is_path e.kind) refl uses le b (λ vs. filled-apart vs es)
  where
    by : (t : Bool) → is_path e.kind ≡ t → (vs : List PathUse) → (if t then suc (paths_among es) else paths_among es) ≤ length vs → AreBeside vs
        → ((ws : List PathUse) → paths_among es ≤ length ws → AreBeside ws → Pairwise ElementsApart (filled ws es))
        → Pairwise ElementsApart (if t then with_next vs e ∷ filled (drop 1 vs) es else e ∷ filled vs es)
    by true f [] le b later = absurd (omega (arith, le))
    by true f (v ∷ vs) le b later =
        let few : paths_among es ≤ length vs = omega (arith, le) in
        (all-filled (KindsApart (kind-of v)) (λ k. Unit {0}) (λ k g n. before-plain v k g) vs es few b.0 (all-anyway (λ (x : code.Element). Unit {0}) es (λ x. tt)), later vs few b.1)
    by false f vs le b later = (all-anyway (ElementsApart e) (filled vs es) (λ y. plain-apart e.kind y.kind f), later vs le b)

pairwise-at : {A : Type 0} (R : A → A → Type 0) (xs : List A) → Pairwise R xs → (i j : ℕ) (d : A) → i < j → j < length xs → R (slice_index_or xs i d) (slice_index_or xs j d)
pairwise-at R [] h i j d lt le = absurd (omega (arith, lt, le))
pairwise-at R (x ∷ xs) h i zero d lt le = absurd (omega (arith, lt))
pairwise-at R (x ∷ xs) h zero (suc j) d lt le = All-from_recursion (R x) xs h.0 j d (omega (arith, le))
pairwise-at R (x ∷ xs) h (suc i) (suc j) d lt le = pairwise-at R xs h.1 i j d (omega (arith, lt)) (omega (arith, le))

pub elements-apart : (uses : List PathUse) (es : List code.Element) → paths_among es ≤ length uses → AreBeside uses
    → (i j : ℕ) (d : code.Element) → i < j → j < length (filled uses es) → AreApart (paths_of (slice_index_or (filled uses es) i d).kind) (paths_of (slice_index_or (filled uses es) j d).kind)
elements-apart uses es le b = pairwise-at ElementsApart (filled uses es) (filled-apart uses es le b)
