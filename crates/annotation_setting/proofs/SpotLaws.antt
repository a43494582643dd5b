-- The timing of a leg, or of a path, by the kind of its element.
use Rattle.std.specs.Prelude.{◌≡◌, ℕ, zero, suc, true, false, List, [], ◌∷◌, slice_index_or, refl}
use Rattle.std.proofs.Common.{sym, ap, subst}
use Rattle.sg_circuit.specs.Timings.{Timing}
use Rattle.sg_circuit.specs.Circuit.{Circuit, Element, Kind, element_at}
use Rattle.sg_circuit.specs.Seen.{circuit_seen, kind_seen}
use Rattle.sg_circuit.specs.declared.circuits.Parts.{Parts}
use Rattle.sg_circuit.specs.declared.elements.Element as code_element
use Rattle.sg_circuit.specs.declared.elements.ElementKind.{ElementKind}
use Rattle.sg_circuit.specs.declared.elements.ElementKind.TheVariants as kind
use Rattle.circuit_open.specs.Open.{changed_at, with_kind, with_leg, with_path}
use Rattle.annotation_spots.specs.Rows.{IsIn}
use Rattle.annotation_spots.specs.declared.spots.Spot as code_spot
use Rattle.annotation_spots.proofs.CountLaws.{element-seen}
use Rattle.annotation_setting.specs.Timings.{is_leg, with_spot}

pub changed-same : {A : Type 0} (f g : A → A) (k : ℕ) (xs : List A) (d : A) → f (slice_index_or xs k d) ≡ g (slice_index_or xs k d) → changed_at f k xs ≡ changed_at g k xs
changed-same f g k [] d e = refl
changed-same f g zero (x ∷ xs) d e = ap (λ y. y ∷ xs) e
changed-same f g (suc k) (x ∷ xs) d e = ap (λ ys. x ∷ ys) (changed-same f g k xs d e)

with_kind-same : (f g : Kind → Kind) (e : ℕ) (c : Circuit) → f (element_at c e).kind ≡ g (element_at c e).kind → with_kind f e c ≡ with_kind g e c
with_kind-same f g e c same =
    let x = element_at c e in
    ap (λ es. record c { elements = es })
    (changed-same (λ (y : Element). record y { kind = f y.kind }) (λ (y : Element). record y { kind = g y.kind }) e c.elements _ (ap (λ (q : Kind). record x { kind = q }) same))

leg-is : (parts : Parts) (p : ℕ) (ts : List Timing) (k : ElementKind) → is_leg k ≡ true → with_leg ts (kind_seen parts k) ≡ with_spot p ts (kind_seen parts k)
leg-is parts p ts (kind.Gate gate delays) e = cc
leg-is parts p ts (kind.Udp udp delays) e = cc
leg-is parts p ts (kind.Pass constant) e = cc
leg-is parts p ts (kind.Leg timing) e = refl
leg-is parts p ts (kind.Path paths style) e = cc
leg-is parts p ts (kind.Late delay) e = cc

path-is : (parts : Parts) (p : ℕ) (ts : List Timing) (k : ElementKind) → is_leg k ≡ false → with_path p ts (kind_seen parts k) ≡ with_spot p ts (kind_seen parts k)
path-is parts p ts (kind.Gate gate delays) e = refl
path-is parts p ts (kind.Udp udp delays) e = refl
path-is parts p ts (kind.Pass constant) e = refl
path-is parts p ts (kind.Leg timing) e = cc
path-is parts p ts (kind.Path paths style) e = refl
path-is parts p ts (kind.Late delay) e = refl

pub leg-set : (parts : Parts) (c : Circuit) (row : code_spot.Spot) (e : code_element.Element) (ts : List Timing) → circuit_seen parts ≡ c → IsIn c row → e ≡ slice_index_or parts.elements.items row.element e
    → is_leg e.kind ≡ true → with_kind (with_leg ts) row.element c ≡ with_kind (with_spot row.path ts) row.element c
leg-set parts c row e ts seen h is leg =
    subst (λ d. with_kind (with_leg ts) row.element d ≡ with_kind (with_spot row.path ts) row.element d) seen
    (with_kind-same (with_leg ts) (with_spot row.path ts) row.element (circuit_seen parts)
    (subst (λ (x : Element). with_leg ts x.kind ≡ with_spot row.path ts x.kind) (sym (element-seen parts row e (subst (λ d. IsIn d row) (sym seen) h) is)) (leg-is parts row.path ts e.kind leg)))

pub path-set : (parts : Parts) (c : Circuit) (row : code_spot.Spot) (e : code_element.Element) (ts : List Timing) → circuit_seen parts ≡ c → IsIn c row → e ≡ slice_index_or parts.elements.items row.element e
    → is_leg e.kind ≡ false → with_kind (with_path row.path ts) row.element c ≡ with_kind (with_spot row.path ts) row.element c
path-set parts c row e ts seen h is leg =
    subst (λ d. with_kind (with_path row.path ts) row.element d ≡ with_kind (with_spot row.path ts) row.element d) seen
    (with_kind-same (with_path row.path ts) (with_spot row.path ts) row.element (circuit_seen parts)
    (subst (λ (x : Element). with_path row.path ts x.kind ≡ with_spot row.path ts x.kind) (sym (element-seen parts row e (subst (λ d. IsIn d row) (sym seen) h) is)) (path-is parts row.path ts e.kind leg)))
