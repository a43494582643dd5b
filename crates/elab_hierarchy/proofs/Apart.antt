-- Each definition is known by its name.
use Rattle.std.specs.Prelude.{◌≡◌, ◌⊎◌, ℕ, zero, suc, ◌<◌, List, [], ◌∷◌, Bool, true, false, ◌||◌, ◌==◌, Some, map, option_map, slice_get, refl, bytes_eq}
use Rattle.std.specs.Bool.{one_answer}
use Rattle.std.specs.List.{AllByRecursion}
use Rattle.std.proofs.Common.{sym, ◌∙◌, ap, arith, inl, inr, subst}
use Rattle.std.proofs.lemmas.Bool.{eq-eqb, eqb-true}
use Rattle.std.proofs.lemmas.Slice.Eq.{bytes_eq-Decides}
use Rattle.std.proofs.lemmas.Option.{slice_get-map}
use Rattle.vl_tree.specs.Tree.{Named, Part, Module, Source, a_module}
use Rattle.elab_laws.proofs.Lists.{Pairwise, all-weaker, all-get}
use Rattle.elab_model.specs.Definitions.{name_of}
use Rattle.elab_model.specs.Faults.{fault, places_again}
use Rattle.elab_model.specs.declared.kinds.ElabKind.TheVariants.{DuplicateName}
use Rattle.elab_model.specs.HierarchyFaults.{two_definitions}
use Rattle.elab_model.specs.Names.{is_among}
use Rattle.elab_hierarchy.specs.Tops.{StandsAt}

abbrev pub Differ : Named → Named → Type 0
Differ a b = bytes_eq b.text a.text ≡ false

no-place : {A B : Type 0} (f : A → B) (ps : List A) → map f ps ≡ [] → ps ≡ []
no-place f [] e = refl
no-place f (p ∷ ps) e = cc

or-left : (a b : Bool) → (a || b) ≡ false → a ≡ false
or-left true b h = cc
or-left false b h = refl

or-right : (a b : Bool) → (a || b) ≡ false → b ≡ false
or-right true b h = cc
or-right false b h = h

-- where no name stands again, each differs from those before it
names-apart : (seen : List (List ℕ)) (ns : List Named) → places_again seen ns ≡ [] → AllByRecursion (λ n. is_among n.text seen ≡ false) ns × Pairwise Differ ns
names-apart seen [] e = (tt, tt)
names-apart seen (n ∷ ns) e = by (is_among n.text seen) refl (names-apart (n.text ∷ seen) ns)
  where
    by : (b : Bool) → is_among n.text seen ≡ b
        → (places_again (n.text ∷ seen) ns ≡ [] → AllByRecursion (λ m. is_among m.text (n.text ∷ seen) ≡ false) ns × Pairwise Differ ns)
        → AllByRecursion (λ m. is_among m.text seen ≡ false) (n ∷ ns) × Pairwise Differ (n ∷ ns)
    by true t rest = let g : n.place ∷ places_again (n.text ∷ seen) ns ≡ [] = rw t at e in cc
    by false t rest =
        let g : places_again (n.text ∷ seen) ns ≡ [] = rw t at e in
        let r = rest g in (
          (t, all-weaker (λ m. is_among m.text (n.text ∷ seen) ≡ false) (λ m. is_among m.text seen ≡ false) ns (λ m h. or-right (bytes_eq m.text n.text) (is_among m.text seen) h) r.0),
          (all-weaker (λ m. is_among m.text (n.text ∷ seen) ≡ false) (Differ n) ns (λ m h. or-left (bytes_eq m.text n.text) (is_among m.text seen) h) r.0, r.1),
        )

pairwise-get : {A : Type 0} (R : A → A → Type 0) (xs : List A) (i j : ℕ) (x y : A) → Pairwise R xs → i < j → slice_get xs i ≡ Some x → slice_get xs j ≡ Some y → R x y
pairwise-get R [] i j x y h lt e f = cc
pairwise-get R (z ∷ xs) zero zero x y h lt e f = absurd (omega arith)
pairwise-get R (z ∷ xs) zero (suc j) x y h lt e f = let g : z ≡ x = cc in subst (λ a. R a y) g (all-get (R z) xs j y h.0 f)
pairwise-get R (z ∷ xs) (suc i) zero x y h lt e f = absurd (omega arith)
pairwise-get R (z ∷ xs) (suc i) (suc j) x y h lt e f = pairwise-get R xs i j x y h.1 (omega arith) e f

three-ways : (i j : ℕ) → (i < j) ⊎ ((j < i) ⊎ (i ≡ j))
three-ways i j = grind arith

some-same : (source : Source) (i : ℕ) (p q : Part) → slice_get source i ≡ Some p → slice_get source i ≡ Some q → p ≡ q
some-same source i p q e f = cc

-- two have one name where they are one
pub same-name : (source : Source) → two_definitions source ≡ [] → (i j : ℕ) (p q : Part) → slice_get source i ≡ Some p → slice_get source j ≡ Some q
    → bytes_eq (name_of p).text (name_of q).text ≡ true → i ≡ j
same-name source once i j p q at_i at_j same =
    let apart = (names-apart [] (map name_of source) (no-place (fault DuplicateName) (places_again [] (map name_of source)) once)).1 in
    let a : slice_get (map name_of source) i ≡ Some (name_of p) = slice_get-map name_of source i ∙ ap (option_map name_of) at_i in
    let b : slice_get (map name_of source) j ≡ Some (name_of q) = slice_get-map name_of source j ∙ ap (option_map name_of) at_j in
    let is : (name_of p).text ≡ (name_of q).text = (bytes_eq-Decides (name_of p).text (name_of q).text).0 same in
    let back : bytes_eq (name_of q).text (name_of p).text ≡ true = (bytes_eq-Decides (name_of q).text (name_of p).text).1 (sym is) in
    elim (three-ways i j) [
      | inl lt ↦ (let d : bytes_eq (name_of q).text (name_of p).text ≡ false = pairwise-get Differ (map name_of source) i j (name_of p) (name_of q) apart lt a b in cc)
      | inr (inl lt) ↦ (let d : bytes_eq (name_of p).text (name_of q).text ≡ false = pairwise-get Differ (map name_of source) j i (name_of q) (name_of p) apart lt b a in cc)
      | inr (inr e) ↦ e
    ]

-- whether two modules have one name tells whether they stand at one place
pub names-tell : (source : Source) → two_definitions source ≡ [] → (i j : ℕ) (m n : Module) → StandsAt source i m → StandsAt source j n
    → (j == i) ≡ bytes_eq m.name.text n.name.text
names-tell source once i j m n at_i at_j =
    one_answer (j == i) (bytes_eq m.name.text n.name.text) (eqb-true j i, eq-eqb j i) (
      λ h. sym (same-name source once i j (a_module m) (a_module n) at_i at_j h),
      λ e. let f : a_module m ≡ a_module n = some-same source i (a_module m) (a_module n) at_i (subst (λ k. slice_get source k ≡ Some (a_module n)) e at_j) in
          (bytes_eq-Decides m.name.text n.name.text).1 (ap (λ p. (name_of p).text) f),
    )
