-- What stands at the place of an instance.
use Rattle.std.specs.Prelude.{◌≡◌, ℕ, zero, suc, ◌+◌, List, [], ◌∷◌, ◌++◌, Option, Some, None, map, take, drop, length, slice_get, refl}
use Rattle.std.specs.List.{range_with_len}
use Rattle.std.proofs.Common.{sym, ◌∙◌, ap, arith, subst, inl, inr}
use Rattle.sg_delay.specs.declared.corners.Corner.{Corner}
use Rattle.vl_tree.specs.Tree.{Module, Part, a_module, a_primitive, Source}
use Rattle.elab_model.specs.Hierarchy.{Instance, instances}
use Rattle.elab_laws.proofs.Lists.{In, all-in}
use Rattle.elab_laws.proofs.Stated.{instances-have_places}
use Rattle.elab_hierarchy.specs.declared.instances.Placed.{Placed}
use Rattle.elab_hierarchy.specs.Placing.{IsPlaced, ArePlaced}
use Rattle.elab_hierarchy.specs.Tops.{StandsAt}
use Rattle.elab_nets.specs.Library.{Library}
use Rattle.elab_nets.specs.Ready as code_ready
use Rattle.elab_nets.specs.Ready.TheVariants as ready
use Rattle.elab_nets.specs.Prepared.{Prepared}
use Rattle.elab_nets.specs.ReadyOfModules.{AreReady, HasReady, IsPrepared}
use Rattle.elab_nets.specs.Reached.{IsReached, IsLibrary}

-- ---- places in a list

pub at-place : {A : Type 0} (xs : List A) (i : ℕ) (x : A) → slice_get xs i ≡ Some x → In x xs
at-place [] i x e = cc
at-place (y ∷ xs) zero x e = let g : y ≡ x = cc in inl (sym g)
at-place (y ∷ xs) (suc i) x e = inr (at-place xs i x e)

pub at-split : {A : Type 0} (xs : List A) (i : ℕ) (x : A) → slice_get xs i ≡ Some x → (xs ≡ take i xs ++ x ∷ drop (suc i) xs) × (length (take i xs) ≡ i)
at-split [] i x e = cc
at-split (y ∷ xs) zero x e = let g : y ≡ x = cc in (ap (λ z. z ∷ xs) g, refl)
at-split (y ∷ xs) (suc i) x e = let r = at-split xs i x e in (ap (λ ys. y ∷ ys) r.0, ap suc r.1)

abbrev first : ℕ → List ℕ → ℕ
first d [] = d
first d (n ∷ ns) = n

abbrev rest : List ℕ → List ℕ
rest [] = []
rest (n ∷ ns) = ns

-- what is numbered in order stands at its number
pub at-number : {A : Type 0} (f : A → ℕ) (a : ℕ) (xs : List A) (x : A) → map f xs ≡ range_with_len a (length xs) → In x xs → (j : ℕ) × (f x ≡ a + j) × (slice_get xs j ≡ Some x)
at-number f a [] x e h = absurd h
at-number f a (y ∷ xs) x e (inl g) = let z : a ≡ a + 0 = omega arith in (0, ap f g ∙ ap (first a) e ∙ z, ap (λ w. Some w) (sym g))
at-number f a (y ∷ xs) x e (inr h) =
    let r = at-number f (a + 1) xs x (ap rest e) h in
    let z : (a + 1) + r.0 ≡ a + suc r.0 = omega arith in
    (suc r.0, r.1 ∙ z, r.2)

pub number-at : {A : Type 0} (f : A → ℕ) (a : ℕ) (xs : List A) (i : ℕ) (x : A) → map f xs ≡ range_with_len a (length xs) → slice_get xs i ≡ Some x → f x ≡ a + i
number-at f a [] i x e h = cc
number-at f a (y ∷ xs) zero x e h = let g : y ≡ x = cc in let z : a ≡ a + 0 = omega arith in sym (ap f g) ∙ ap (first a) e ∙ z
number-at f a (y ∷ xs) (suc i) x e h = let z : (a + 1) + i ≡ a + suc i = omega arith in number-at f (a + 1) xs i x (ap rest e) h ∙ z

-- ---- instances

pub instance-number : (source : Source) (top : Module) (s : Instance) (i : ℕ) → slice_get (instances source top) i ≡ Some s → s.step.number ≡ i
instance-number source top s i e = number-at (λ s. s.step.number) 0 (instances source top) i s (instances-have_places source top) e ∙ omega arith

pub instance-at : (source : Source) (top : Module) (s : Instance) → In s (instances source top) → slice_get (instances source top) s.step.number ≡ Some s
instance-at source top s h =
    let r = at-number (λ s. s.step.number) 0 (instances source top) s (instances-have_places source top) h in
    let z : r.0 ≡ s.step.number = let e = r.1 in omega arith in
    subst (λ j. slice_get (instances source top) j ≡ Some s) z r.2

pub placed-at : (source : Source) (ps : List Placed) (ss : List Instance) (i : ℕ) (s : Instance) → ArePlaced source ps ss → slice_get ss i ≡ Some s → (p : Placed) × (slice_get ps i ≡ Some p) × IsPlaced source p s
placed-at source [] [] i s h e = cc
placed-at source [] (t ∷ ss) i s h e = absurd h
placed-at source (p ∷ ps) [] i s h e = absurd h
placed-at source (p ∷ ps) (t ∷ ss) zero s h e = let g : t ≡ s = cc in (p, refl, subst (IsPlaced source p) g h.0)
placed-at source (p ∷ ps) (t ∷ ss) (suc i) s h e = placed-at source ps ss i s h.1 e

pub placed-count : (source : Source) (ps : List Placed) (ss : List Instance) → ArePlaced source ps ss → length ps ≡ length ss
placed-count source [] [] h = refl
placed-count source [] (t ∷ ss) h = absurd h
placed-count source (p ∷ ps) [] h = absurd h
placed-count source (p ∷ ps) (t ∷ ss) h = ap suc (placed-count source ps ss h.1)

-- ---- what is ready

abbrev module_or : Module → Option Part → Module
module_or d None = d
module_or d (Some (a_module m)) = m
module_or d (Some (a_primitive p)) = d

-- a module that stands ready at the place of a module is that one
pub module-ready : (source : Source) (parts : List (Option code_ready.Ready)) (i : ℕ) (m : Module) → AreReady source parts → StandsAt source i m → HasReady parts i
    → (q : Prepared) × (slice_get parts i ≡ Some (Some (ready.Module q))) × IsPrepared q m
module-ready source parts i m h stands (r, e) = by r e
  where
    by : (r : code_ready.Ready) → slice_get parts i ≡ Some (Some r) → (q : Prepared) × (slice_get parts i ≡ Some (Some (ready.Module q))) × IsPrepared q m
    by (ready.Module q) e =
        let k = h.1 i (Some (ready.Module q)) e in
        let same : k.0 ≡ m = ap (module_or m) (sym k.1 ∙ stands) in
        (q, e, subst (IsPrepared q) same k.2)
    by (ready.Primitive n) e = let k = h.1 i (Some (ready.Primitive n)) e in let g : Some (a_primitive k.0) ≡ Some (a_module m) = sym k.1 ∙ stands in cc

pub instance-ready : (source : Source) (corner : Corner) (top : Module) (library : Library) (s : Instance) (p : Placed) → IsLibrary source corner top library → In s (instances source top) → IsPlaced source p s
    → (q : Prepared) × (slice_get library.parts.items p.definition ≡ Some (Some (ready.Module q))) × IsPrepared q s.step.definition
instance-ready source corner top library s p h there placed =
    let reached = all-in (IsReached source corner top library) s (instances source top) h.reached there in
    module-ready source library.parts.items p.definition s.step.definition h.ready placed.definition (reached.stands p.definition placed.definition).ready
