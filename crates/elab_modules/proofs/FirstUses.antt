-- The primitives that were met have their tables in order of first use.
use Rattle.std.specs.Prelude.{◌≡◌, ◌⊎◌, ℕ, ◌<◌, List, [], ◌∷◌, ◌++◌, Bool, true, false, ◌||◌, Some, None, filter_map, if◌then◌else◌, length, map, slice_get, refl, bytes_eq}
use Rattle.std.specs.Option.{option_and_then}
use Rattle.std.specs.List.{cons_option}
use Rattle.std.proofs.Common.{sym, ◌∙◌, ap, inl, inr, subst, set}
use Rattle.std.proofs.lemmas.Bool.{or_right}
use Rattle.std.proofs.lemmas.List.{append-nil, append_assoc, map-append}
use Rattle.std.proofs.lemmas.Slice.Eq.{bytes_eq-Decides}
use Rattle.sg_circuit.specs.declared.elements.UdpUse.{UdpUse}
use Rattle.sg_circuit.specs.Circuit.{UsedPrimitive}
use Rattle.sg_circuit.specs.Seen.{udp_seen}
use Rattle.vl_tree.specs.Tree.{Part, Primitive, Source, a_primitive}
use Rattle.elab_model.specs.Definitions.{name_of, as_primitive, primitive_of}
use Rattle.elab_model.specs.Names.{is_among}
use Rattle.elab_model.specs.Primitives.{table_of, initial_value}
use Rattle.elab_model.specs.UsedPrimitives.{first_uses, used}
use Rattle.elab_laws.proofs.Lists.{In, in-left, in-right, in-either}
use Rattle.elab_hierarchy.specs.Named.{place_of}
use Rattle.elab_hierarchy.proofs.Found.{place-first, position-none}
use Rattle.elab_modules.specs.declared.prepared.Prepared.{Prepared}
use Rattle.elab_modules.specs.declared.library.Ready as code_ready
use Rattle.elab_modules.specs.declared.library.Ready.TheVariants as ready
use Rattle.elab_modules.specs.Ready.{AreReady, HasReady}
use Rattle.elab_modules.specs.Reaching.{AreFirst}
use Rattle.elab_modules.proofs.Among.{some-is}
use Rattle.elab_modules.proofs.Replaced.{set-either}
use Rattle.elab_modules.proofs.Stocking.{Parts, put-ready, put-keeps, same-primitive, no-module}

-- ---- one primitive more

seen-before : (p x : Primitive) (seen : List (List ℕ)) → is_among p.name.text seen ≡ true → is_among p.name.text (x.name.text ∷ seen) ≡ true
seen-before p x seen e = or_right (bytes_eq p.name.text x.name.text) (is_among p.name.text seen) e

seen-last : (x : Primitive) (seen : List (List ℕ)) → is_among x.name.text (x.name.text ∷ seen) ≡ true
seen-last x seen = ap (λ b. b || is_among x.name.text seen) ((bytes_eq-Decides x.name.text x.name.text).1 refl)

-- its name was seen before, or it was met
abbrev WasMet : List (List ℕ) → List Primitive → Primitive → Type 0
WasMet seen xs p = (is_among p.name.text seen ≡ true) ⊎ In p xs

met-again : (seen : List (List ℕ)) (xs : List Primitive) (p : Primitive) → WasMet seen xs p → first_uses seen (xs ++ p ∷ []) ≡ first_uses seen xs
met-again seen [] p (inl e) = ap (λ b. if b then [] else p ∷ []) e
met-again seen [] p (inr h) = absurd h
met-again seen (x ∷ xs) p h = by (is_among x.name.text seen) refl (met-again seen xs p) (met-again (x.name.text ∷ seen) xs p)
  where
    by : (b : Bool) → is_among x.name.text seen ≡ b → (WasMet seen xs p → first_uses seen (xs ++ p ∷ []) ≡ first_uses seen xs)
        → (WasMet (x.name.text ∷ seen) xs p → first_uses (x.name.text ∷ seen) (xs ++ p ∷ []) ≡ first_uses (x.name.text ∷ seen) xs)
        → (if b then first_uses seen (xs ++ p ∷ []) else x ∷ first_uses (x.name.text ∷ seen) (xs ++ p ∷ [])) ≡ (if b then first_uses seen xs else x ∷ first_uses (x.name.text ∷ seen) xs)
    by true e same more = same (elim h [
      | inl s ↦ inl s
      | inr k ↦ elim k [ inl g ↦ inl (subst (λ q. is_among q.name.text seen ≡ true) (sym g) e) | inr m ↦ inr m ]
    ])
    by false e same more = ap (λ ys. x ∷ ys) (more (elim h [
      | inl s ↦ inl (seen-before p x seen s)
      | inr k ↦ elim k [ inl g ↦ inl (subst (λ q. is_among q.name.text (x.name.text ∷ seen) ≡ true) (sym g) (seen-last x seen)) | inr m ↦ inr m ]
    ]))

-- neither is so
record IsNew (seen : List (List ℕ)) (xs : List Primitive) (p : Primitive) : Type 0 where
  pub unseen : is_among p.name.text seen ≡ false
  pub differs : (q : Primitive) → In q xs → bytes_eq p.name.text q.name.text ≡ false

met-first : (seen : List (List ℕ)) (xs : List Primitive) (p : Primitive) → IsNew seen xs p → first_uses seen (xs ++ p ∷ []) ≡ first_uses seen xs ++ p ∷ []
met-first seen [] p h = ap (λ b. if b then [] else p ∷ []) h.unseen
met-first seen (x ∷ xs) p h = by (is_among x.name.text seen) (met-first seen xs p) (met-first (x.name.text ∷ seen) xs p)
  where
    by : (b : Bool) → (IsNew seen xs p → first_uses seen (xs ++ p ∷ []) ≡ first_uses seen xs ++ p ∷ [])
        → (IsNew (x.name.text ∷ seen) xs p → first_uses (x.name.text ∷ seen) (xs ++ p ∷ []) ≡ first_uses (x.name.text ∷ seen) xs ++ p ∷ [])
        → (if b then first_uses seen (xs ++ p ∷ []) else x ∷ first_uses (x.name.text ∷ seen) (xs ++ p ∷ [])) ≡ (if b then first_uses seen xs else x ∷ first_uses (x.name.text ∷ seen) xs) ++ p ∷ []
    by true same more = same (record { unseen = h.unseen; differs = λ q k. h.differs q (inr k) })
    by false same more = ap (λ ys. x ∷ ys) (more (record {
      unseen = ap (λ b. b || is_among p.name.text seen) (h.differs x (inl refl)) ∙ h.unseen;
      differs = λ q k. h.differs q (inr k);
    }))

all-again : (xs ys : List Primitive) → ((p : Primitive) → In p ys → In p xs) → first_uses [] (xs ++ ys) ≡ first_uses [] xs
all-again xs [] h = ap (first_uses []) (append-nil xs)
all-again xs (y ∷ ys) h =
    ap (first_uses []) (sym (append_assoc xs (y ∷ []) ys))
    ∙ all-again (xs ++ y ∷ []) ys (λ p k. in-left p xs (y ∷ []) (h p (inr k)))
    ∙ met-again [] xs y (inr (h y (inl refl)))

-- ---- the tables

pub first-none : (source : Source) (parts : Parts) (udps : List UdpUse) → udps ≡ [] → ((i : ℕ) (x : code_ready.Ready) → slice_get parts i ≡ Some (Some x) → ⊥) → AreFirst source parts udps []
first-none source parts udps none empty = record {
  tables = ap (map (λ u. udp_seen u)) none;
  stand = λ p h. absurd h;
  only = λ i k p e at. absurd (empty i (ready.Primitive k) e);
}

-- primitives that were met
pub first-again : (source : Source) (parts : Parts) (udps : List UdpUse) (met more : List Primitive) → ((p : Primitive) → In p more → In p met) → AreFirst source parts udps met
    → AreFirst source parts udps (met ++ more)
first-again source parts udps met more inside h = record {
  tables = h.tables ∙ ap (map used) (sym (all-again met more inside));
  stand = λ p k. h.stand p (elim (in-either p met more k) [ inl a ↦ a | inr b ↦ inside p b ]);
  only = λ i k p e at. in-left p met more (h.only i k p e at);
}

-- a module stands ready
pub first-module : (source : Source) (parts : Parts) (place : ℕ) (m : Prepared) (udps : List UdpUse) (met : List Primitive) → place < length parts → AreFirst source parts udps met
    → AreFirst source (set parts place (Some (ready.Module m))) udps met
first-module source parts place m udps met lt h = record {
  tables = h.tables;
  stand = λ p k i q e at. put-keeps parts place (ready.Module m) lt i (h.stand p k i q e at);
  only = λ i k p e at. elim (set-either parts place i (Some (ready.Module m)) (Some (ready.Primitive k)) e) [
    | inl x ↦ absurd (differ k (sym x.1))
    | inr y ↦ h.only i k p y at
  ];
}
  where
    differ : (k : ℕ) → ¬ (Some (ready.Module m) ≡ Some (ready.Primitive k))
    differ k e = cc

-- ---- the primitive of a name

-- the definition of a name stands at this place, and is a primitive
pub record IsOfName (source : Source) (n : List ℕ) (place : ℕ) (p : Primitive) : Type 0 where
  pub placed : place_of source n ≡ Some place
  pub there : slice_get source place ≡ Some (a_primitive p)

of-name : (source : Source) (n : List ℕ) (place : ℕ) (p : Primitive) → IsOfName source n place p → (n ≡ p.name.text) × (primitive_of source n ≡ Some p)
of-name source n place p h =
    let f = place-first source n place h.placed in
    let is : f.element ≡ a_primitive p = some-is (slice_get source place) f.element (a_primitive p) f.there h.there in (
      (bytes_eq-Decides n p.name.text).0 (subst (λ d. bytes_eq n (name_of d).text ≡ true) is f.passes),
      ap (option_and_then as_primitive) (f.first ∙ ap Some is),
    )

named-none : (source : Source) (parts : Parts) (udps : List UdpUse) (n : List ℕ) (met : List Primitive) → primitive_of source n ≡ None → AreFirst source parts udps met
    → AreFirst source parts udps (met ++ filter_map (primitive_of source) (n ∷ []))
named-none source parts udps n met e h = subst (λ ps. AreFirst source parts udps ps) (sym (ap (λ o. met ++ cons_option o []) e ∙ append-nil met)) h

pub first-undefined : (source : Source) (parts : Parts) (udps : List UdpUse) (n : List ℕ) (met : List Primitive) → place_of source n ≡ None → AreFirst source parts udps met
    → AreFirst source parts udps (met ++ filter_map (primitive_of source) (n ∷ []))
first-undefined source parts udps n met e = named-none source parts udps n met (ap (option_and_then as_primitive) (position-none (λ d. bytes_eq n (name_of d).text) source 0 e))

pub first-other : (source : Source) (parts : Parts) (udps : List UdpUse) (n : List ℕ) (place : ℕ) (q : Part) (met : List Primitive) → place_of source n ≡ Some place → slice_get source place ≡ Some q
    → as_primitive q ≡ None → AreFirst source parts udps met → AreFirst source parts udps (met ++ filter_map (primitive_of source) (n ∷ []))
first-other source parts udps n place q met e at other =
    let f = place-first source n place e in
    let is : f.element ≡ q = some-is (slice_get source place) f.element q f.there at in
    named-none source parts udps n met (ap (option_and_then as_primitive) (f.first ∙ ap Some is) ∙ other)

-- it stands ready already
pub first-had : (source : Source) (parts : Parts) (udps : List UdpUse) (n : List ℕ) (place : ℕ) (p : Primitive) (met : List Primitive) → IsOfName source n place p → AreReady source parts → HasReady parts place
    → AreFirst source parts udps met → AreFirst source parts udps (met ++ filter_map (primitive_of source) (n ∷ []))
first-had source parts udps n place p met named all has h =
    subst (λ o. AreFirst source parts udps (met ++ cons_option o [])) (sym (of-name source n place p named).1)
    (first-again source parts udps met (p ∷ []) (λ q k. elim k [ inl e ↦ subst (λ x. In x met) (sym e) (by has.0 has.1) | inr a ↦ absurd a ]) h)
  where
    by : (r : code_ready.Ready) → slice_get parts place ≡ Some (Some r) → In p met
    by (ready.Module m) e = let r = all.1 place (Some (ready.Module m)) e in absurd (no-module source place r.0 p r.1 named.there)
    by (ready.Primitive k) e = h.only place k p e named.there

-- it is made ready
pub first-primitive : (source : Source) (parts : Parts) (place number : ℕ) (n : List ℕ) (p : Primitive) (udps after : List UdpUse) (u : UdpUse) (met : List Primitive) → IsOfName source n place p
    → place < length parts → ¬ HasReady parts place → u.rows ≡ table_of p → u.first ≡ initial_value p.initial → after ≡ udps ++ u ∷ [] → AreFirst source parts udps met
    → AreFirst source (set parts place (Some (ready.Primitive number))) after (met ++ filter_map (primitive_of source) (n ∷ []))
first-primitive source parts place number n p udps after u met named lt fresh rows first grown h =
    let own = of-name source n place p named in
    let placed : place_of source p.name.text ≡ Some place = subst (λ m. place_of source m ≡ Some place) own.0 named.placed in
    let seen : udp_seen u ≡ used p = ap (λ t. record { primitive = t; first = u.first }) rows ∙ ap (λ (v : _). record { primitive = table_of p; first = v }) first in
    let new : IsNew [] met p = record { unseen = refl; differs = λ q k. differs q k placed } in
    subst (λ o. AreFirst source (set parts place (Some (ready.Primitive number))) after (met ++ cons_option o [])) (sym own.1) (record {
      tables = ap (map (λ u. udp_seen u)) grown
          ∙ (map-append (λ u. udp_seen u) udps (u ∷ []) ∙ (ap (λ ts. ts ++ udp_seen u ∷ []) h.tables ∙ (ap (λ (t : UsedPrimitive). map used (first_uses [] met) ++ t ∷ []) seen
          ∙ (sym (map-append used (first_uses [] met) (p ∷ [])) ∙ ap (map used) (sym (met-first [] met p new))))));
      stand = λ q k i x e at. elim (in-either q met (p ∷ []) k) [
        | inl a ↦ put-keeps parts place (ready.Primitive number) lt i (h.stand q a i x e at)
        | inr b ↦ elim b [
          | inl g ↦ (let here : place ≡ i = some-is (place_of source p.name.text) place i placed (subst (λ y. place_of source y.name.text ≡ Some i) g e) in
              subst (HasReady (set parts place (Some (ready.Primitive number)))) here (put-ready parts place (ready.Primitive number) lt))
          | inr a ↦ absurd a
        ]
      ];
      only = λ i k q e at. elim (set-either parts place i (Some (ready.Primitive number)) (Some (ready.Primitive k)) e) [
        | inl x ↦ in-right q met (p ∷ []) (inl (same-primitive source place q p (subst (λ j. slice_get source j ≡ Some (a_primitive q)) x.0 at) named.there))
        | inr y ↦ in-left q met (p ∷ []) (h.only i k q y at)
      ];
    })
  where
    differs : (q : Primitive) → In q met → place_of source p.name.text ≡ Some place → bytes_eq p.name.text q.name.text ≡ false
    differs q k placed = by (bytes_eq p.name.text q.name.text) refl
      where
        by : (b : Bool) → bytes_eq p.name.text q.name.text ≡ b → b ≡ false
        by false e = refl
        by true e =
            let same : p.name.text ≡ q.name.text = (bytes_eq-Decides p.name.text q.name.text).0 e in
            absurd (fresh (h.stand q k place p (subst (λ m. place_of source m ≡ Some place) same placed) named.there))
