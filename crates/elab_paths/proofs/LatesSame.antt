-- The Lates among the code's elements are those of the definition.
use Rattle.std.specs.Prelude.{◌≡◌, ℕ, ◌+◌, ◌==◌, ◌&&◌, List, [], ◌∷◌, Bool, true, false, filter, map, refl, if◌then◌else◌}
use Rattle.std.specs.List.{enumerate_from}
use Rattle.std.proofs.Common.{sym, ◌∙◌, ap}
use Rattle.sg_circuit.specs.Circuit.{Element}
use Rattle.sg_circuit.specs.declared.elements.Element as code
use Rattle.sg_circuit.specs.declared.elements.ElementKind.{ElementKind}
use Rattle.sg_circuit.specs.declared.elements.ElementKind.TheVariants as kind
use Rattle.sg_circuit.specs.declared.elements.UdpUse.{UdpUse}
use Rattle.sg_delay.specs.declared.corners.Corner.{Corner}
use Rattle.sg_delay.specs.declared.gates.GateDelays.{GateDelays}
use Rattle.vl_tree.specs.Tree.{Module, Source}
use Rattle.elab_model.specs.Drivers.{elements}
use Rattle.elab_model.specs.Elements.{Component}
use Rattle.elab_model.specs.Nets.{nets}
use Rattle.elab_model.specs.Numbered.{element_of}
use Rattle.late_limits.specs.Found.{is_late_kind, late_numbers}
use Rattle.circuit_model.specs.CheckUses as def
use Rattle.elab_elements.specs.Seen.{kind_in, element_in, AreElements}
use Rattle.elab_elements.specs.declared.placing.Placing.{Placing}

-- where a test passes, by numbers
abbrev places : ℕ → List Bool → List ℕ
places n [] = []
places n (b ∷ bs) = if b then n ∷ places (n + 1) bs else places (n + 1) bs

numbers-by : {A : Type 0} (test : A → Bool) (n : ℕ) (xs : List A) → map (λ e. e.0) (filter (λ e. test e.1) (enumerate_from n xs)) ≡ places n (map test xs)
numbers-by test n [] = refl
numbers-by {A} test n (x ∷ xs) = by (test x) (numbers-by test (n + 1) xs)
  where
    left : List (ℕ × A)
    left = filter (λ e. test e.1) (enumerate_from (n + 1) xs)

    by : (b : Bool) → map (λ e. e.0) left ≡ places (n + 1) (map test xs) → map (λ e. e.0) (if b then (n, x) ∷ left else left) ≡ (if b then n ∷ places (n + 1) (map test xs) else places (n + 1) (map test xs))
    by true h = ap (λ ns. n ∷ ns) h
    by false h = h

abbrev is_here : (scope : ℕ) → Element → Bool
is_here scope e = (e.scope == scope) && def.is_late e.kind

mapped : {A : Type 0} (f : A → Element) (test : A → Bool) (scope : ℕ) → ((x : A) → test x ≡ is_here scope (f x)) → (xs : List A) → map test xs ≡ map (is_here scope) (map f xs)
mapped f test scope h [] = refl
mapped f test scope h (x ∷ xs) = λ i. h x i ∷ mapped f test scope h xs i

pub lates-same : (source : Source) (top : Module) (corner : Corner) (delays : List GateDelays) (udps : List UdpUse) (made : Placing) (scope : ℕ) → AreElements source top corner delays udps made
    → late_numbers made.elements.items scope ≡ def.lates_in (elements source top corner) scope
lates-same source top corner delays udps made scope h =
    let own : code.Element → Bool = λ e. (e.scope == scope) && is_late_kind e.kind in
    let meant : Component → Bool = λ c. (c.scope == scope) && def.is_late c.kind in
    numbers-by own 0 made.elements.items
    ∙ ap (places 0)
    (mapped (element_in delays udps) own scope (λ e. ap (λ b. (e.scope == scope) && b) (kinds e.kind)) made.elements.items ∙ ap (map (is_here scope)) h.elements
    ∙ sym (mapped (element_of (nets source top)) meant scope (λ c. refl) (elements source top corner)))
    ∙ sym (numbers-by meant 0 (elements source top corner))
  where
    kinds : (k : ElementKind) → is_late_kind k ≡ def.is_late (kind_in delays udps k)
    kinds (kind.Gate g d) = refl
    kinds (kind.Udp u d) = refl
    kinds (kind.Pass v) = refl
    kinds (kind.Leg t) = refl
    kinds (kind.Path paths style) = refl
    kinds (kind.Late d) = refl
