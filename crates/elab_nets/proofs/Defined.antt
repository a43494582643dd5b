-- What the name of a member defines.
use Rattle.std.specs.Prelude.{◌≡◌, ℕ, zero, suc, ◌+◌, ◌<◌, List, [], ◌∷◌, ◌++◌, Bool, true, false, Option, Some, None, find, length, slice_get, option_map, bytes_eq, refl, if◌then◌else◌}
use Rattle.std.specs.List.{position_from}
use Rattle.std.proofs.Common.{sym, ◌∙◌, ap, arith, inl, subst}
use Rattle.sg_delay.specs.declared.corners.Corner.{Corner}
use Rattle.vl_tree.specs.Tree.{Named, Delay, Instance as instance_text, Module, Primitive, Part, Source, a_module, a_primitive}
use Rattle.elab_hierarchy.specs.Tops.{StandsAt}
use Rattle.elab_model.specs.Definitions.{definition_of, name_of}
use Rattle.elab_model.specs.Hierarchy.{Instance, instances}
use Rattle.elab_model.specs.Members.{Member, instance, members}
use Rattle.elab_modules.specs.declared.library.Library.{Library}
use Rattle.elab_modules.specs.Reached.{IsLibrary, IsReached}
use Rattle.elab_modules.specs.Ready.{HasReady, MemberReady}
use Rattle.elab_laws.proofs.Lists.{In, all-in, in-right}
use Rattle.elab_laws.proofs.NoFaults.{all-second}
use Rattle.elab_nets.specs.Parts.{is_module}
use Rattle.elab_nets.specs.Turns.{members_of}

pub found-none : {A : Type 0} (p : A → Bool) (i : ℕ) (xs : List A) → position_from p i xs ≡ None → find p xs ≡ None
found-none p i [] h = refl
found-none {A} p i (x ∷ xs) h = by (p x) h (found-none p (i + 1) xs)
  where
    by : (b : Bool) → (if b then Some i else position_from p (i + 1) xs) ≡ None → (position_from p (i + 1) xs ≡ None → find p xs ≡ None) → (if b then Some x else find p xs) ≡ None
    by true h rest = cc
    by false h rest = rest h

-- what is found stands at the place
pub record IsFound {A : Type 0} (p : A → Bool) (i j : ℕ) (xs : List A) : Type 0 where
  pub element : A
  pub from : ℕ
  pub place : j ≡ i + from
  pub there : slice_get xs from ≡ Some element
  pub found : find p xs ≡ Some element

pub found-at : {A : Type 0} (p : A → Bool) (i j : ℕ) (xs : List A) → position_from p i xs ≡ Some j → IsFound p i j xs
found-at p i j [] h = cc
found-at {A} p i j (x ∷ xs) h = by (p x) refl h (found-at p (i + 1) j xs)
  where
    by : (b : Bool) → p x ≡ b → (if b then Some i else position_from p (i + 1) xs) ≡ Some j → (position_from p (i + 1) xs ≡ Some j → IsFound p (i + 1) j xs) → IsFound p i j (x ∷ xs)
    by true e h rest = let f : i ≡ j = cc in record { element = x; from = 0; place = omega arith; there = refl; found = ap (λ b. if b then Some x else find p xs) e }
    by false e h rest =
        let r = rest h in
        let n : j ≡ (i + 1) + r.from = r.place in
        record { element = r.element; from = suc r.from; place = omega arith; there = r.there; found = ap (λ b. if b then Some x else find p xs) e ∙ r.found }

within : {A : Type 0} (xs : List A) (i : ℕ) (x : A) → slice_get xs i ≡ Some x → i < length xs
within [] i x e = cc
within (y ∷ xs) zero x e = omega arith
within (y ∷ xs) (suc i) x e = let l : i < length xs = within xs i x e in omega arith

-- the part of a name, at its place
pub record IsDefined (source : Source) (n : List ℕ) (place : ℕ) : Type 0 where
  pub part : Part
  pub defined : definition_of source n ≡ Some part
  pub there : slice_get source place ≡ Some part
  pub below : place < length source

pub is-defined : (source : Source) (n : List ℕ) (place : ℕ) → position_from (λ d. bytes_eq n (name_of d).text) 0 source ≡ Some place → IsDefined source n place
is-defined source n place h =
    let r = found-at (λ d. bytes_eq n (name_of d).text) 0 place source h in
    let e : place ≡ r.from = let f : place ≡ 0 + r.from = r.place in omega arith in
    let t : slice_get source place ≡ Some r.element = ap (slice_get source) e ∙ r.there in
    record { part = r.element; defined = r.found; there = t; below = within source place r.element t }

-- a module or a primitive
pub as-module : (source : Source) (n : List ℕ) (place : ℕ) (b : Bool) → IsDefined source n place → option_map is_module (slice_get source place) ≡ Some b → b ≡ true
    → (m : Module) × (definition_of source n ≡ Some (a_module m)) × StandsAt source place m
as-module source n place b h e t = by h.part h.defined h.there (ap (option_map is_module) (sym h.there) ∙ e ∙ ap (λ z. Some z) t)
  where
    by : (q : Part) → definition_of source n ≡ Some q → slice_get source place ≡ Some q → Some (is_module q) ≡ Some true → (m : Module) × (definition_of source n ≡ Some (a_module m)) × StandsAt source place m
    by (a_module m) d g e = (m, d, g)
    by (a_primitive p) d g e = let f : false ≡ true = cc in cc

pub as-primitive : (source : Source) (n : List ℕ) (place : ℕ) (b : Bool) → IsDefined source n place → option_map is_module (slice_get source place) ≡ Some b → b ≡ false
    → (p : Primitive) × (definition_of source n ≡ Some (a_primitive p))
as-primitive source n place b h e t = by h.part h.defined (ap (option_map is_module) (sym h.there) ∙ e ∙ ap (λ z. Some z) t)
  where
    by : (q : Part) → definition_of source n ≡ Some q → Some (is_module q) ≡ Some false → (p : Primitive) × (definition_of source n ≡ Some (a_primitive p))
    by (a_module m) d e = let f : true ≡ false = cc in cc
    by (a_primitive p) d e = (p, d)

-- what a member names stands ready
pub names-ready : (source : Source) (top : Module) (corner : Corner) (library : Library) → IsLibrary source corner top library → (s : Instance) → In s (instances source top) → (front behind : List (ℕ × Member))
    (k place : ℕ) (n : Named) (d : Option Delay) (i : instance_text) → members_of s ≡ front ++ (k, instance n d i) ∷ behind → position_from (λ d. bytes_eq n.text (name_of d).text) 0 source ≡ Some place
    → HasReady library.parts.items place
names-ready source top corner library h s there front behind k place n d i e found =
    let r = all-in (IsReached source corner top library) s (instances source top) h.reached there in
    let each = all-second (MemberReady source library.parts.items) 0 (members s.step.definition) r.named in
    all-in (λ x. MemberReady source library.parts.items x.1) (k, instance n d i) (members_of s) each (subst (In (k, instance n d i)) (sym e) (in-right (k, instance n d i) front ((k, instance n d i) ∷ behind) (inl refl)))
    place found
