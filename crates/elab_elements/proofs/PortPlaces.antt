-- The variables of a module without faults begin with its ports, in order.
use Rattle.std.specs.Prelude.{◌≡◌, ℕ, zero, suc, ◌<◌, List, [], ◌∷◌, ◌++◌, Bool, true, false, ◌||◌, cond, Some, bytes_eq, find, length, map, slice_get, refl, if◌then◌else◌}
use Rattle.std.proofs.Common.{sym, ◌∙◌, ap, subst}
use Rattle.std.proofs.lemmas.List.{get_or-map, length-map}
use Rattle.std.proofs.lemmas.Option.{slice_get-get_or}
use Rattle.std.proofs.lemmas.Slice.Eq.{bytes_eq-Decides}
use Rattle.sg_text.specs.declared.places.Place.{Place}
use Rattle.vl_tree.specs.Tree.{Named, Module}
use Rattle.elab_model.specs.Elements.{place_in, port_place}
use Rattle.elab_model.specs.Faults.{fault, places_again}
use Rattle.elab_model.specs.declared.kinds.ElabKind.TheVariants.{DuplicateName}
use Rattle.elab_model.specs.Hierarchy.{Instance}
use Rattle.elab_model.specs.NameFaults.{declaration_faults, name_faults, twice_in_list}
use Rattle.elab_model.specs.Names.{variable, variables, variable_names, is_among, first_of_each}
use Rattle.elab_model.specs.Ports.{port_list}
use Rattle.elab_laws.proofs.NoFaults.{front}
use Rattle.elab_variables.specs.Seen.{variable_at}

or-neither : (a b : Bool) → (a || b) ≡ false → (a ≡ false) × (b ≡ false)
or-neither true b h = cc
or-neither false b h = (refl, h)

-- what stands once was not seen before
first-unseen : (seen ns : List (List ℕ)) (k : ℕ) (n : List ℕ) → slice_get (first_of_each seen ns) k ≡ Some n → is_among n seen ≡ false
first-unseen seen [] k n h = cc
first-unseen seen (m ∷ ns) k n h = by (is_among m seen) refl h (first-unseen seen ns k n) (λ j g. first-unseen (m ∷ seen) ns j n g)
  where
    there : (k : ℕ) → is_among m seen ≡ false → slice_get (m ∷ first_of_each (m ∷ seen) ns) k ≡ Some n → ((j : ℕ) → slice_get (first_of_each (m ∷ seen) ns) j ≡ Some n → is_among n (m ∷ seen) ≡ false)
        → is_among n seen ≡ false
    there zero e h rest = let g : m ≡ n = cc in ap (λ x. is_among x seen) (sym g) ∙ e
    there (suc j) e h rest = (or-neither (bytes_eq n m) (is_among n seen) (rest j h)).1

    by : (b : Bool) → is_among m seen ≡ b → slice_get (if b then first_of_each seen ns else m ∷ first_of_each (m ∷ seen) ns) k ≡ Some n
        → (slice_get (first_of_each seen ns) k ≡ Some n → is_among n seen ≡ false)
        → ((j : ℕ) → slice_get (first_of_each (m ∷ seen) ns) j ≡ Some n → is_among n (m ∷ seen) ≡ false) → is_among n seen ≡ false
    by true e h rest later = rest h
    by false e h rest later = there k e h later

-- a name stands among ports that are distinct where it stands among all names, or nowhere
abbrev IsNamedAt : List (List ℕ) → List Named → ℕ → List ℕ → Type 0
IsNamedAt seen ports k n = (find (λ q. bytes_eq n q.text) ports ≡ slice_get ports k) × (is_among n seen ≡ false)

named-where : (seen : List (List ℕ)) (ports : List Named) (others : List (List ℕ)) (k : ℕ) (n : List ℕ) → places_again seen ports ≡ []
    → slice_get (first_of_each seen (map (λ q. q.text) ports ++ others)) k ≡ Some n → IsNamedAt seen ports k n
named-where seen [] others k n once h = (refl, first-unseen seen others k n h)
named-where seen (q ∷ qs) others k n once h = by (is_among q.text seen) refl once h (λ j once g. named-where (q.text ∷ seen) qs others j n once g)
  where
    names : List (List ℕ)
    names = map (λ q. q.text) qs ++ others

    behind : (k : ℕ) → is_among q.text seen ≡ false → slice_get (q.text ∷ first_of_each (q.text ∷ seen) names) k ≡ Some n
        → ((j : ℕ) → slice_get (first_of_each (q.text ∷ seen) names) j ≡ Some n → IsNamedAt (q.text ∷ seen) qs j n) → IsNamedAt seen (q ∷ qs) k n
    behind zero e h rest =
        let g : q.text ≡ n = cc in (
          ap (λ b. cond b (Some q) (find (λ q. bytes_eq n q.text) qs)) ((bytes_eq-Decides n q.text).1 (sym g)),
          ap (λ x. is_among x seen) (sym g) ∙ e,
        )
    behind (suc j) e h rest =
        let r = rest j h in
        let none = or-neither (bytes_eq n q.text) (is_among n seen) r.1 in
        (ap (λ b. cond b (Some q) (find (λ q. bytes_eq n q.text) qs)) none.0 ∙ r.0, none.1)

    by : (b : Bool) → is_among q.text seen ≡ b → (if b then q.place ∷ [] else []) ++ places_again (q.text ∷ seen) qs ≡ []
        → slice_get (if b then first_of_each seen names else q.text ∷ first_of_each (q.text ∷ seen) names) k ≡ Some n
        → ((j : ℕ) → places_again (q.text ∷ seen) qs ≡ [] → slice_get (first_of_each (q.text ∷ seen) names) j ≡ Some n → IsNamedAt (q.text ∷ seen) qs j n) → IsNamedAt seen (q ∷ qs) k n
    by true e once h rest = cc
    by false e once h rest = behind k e h (λ j g. rest j once g)

no-place : (ps : List Place) → map (fault DuplicateName) ps ≡ [] → ps ≡ []
no-place [] h = refl
no-place (p ∷ ps) h = cc

-- the place of the variable of a number
pub port-placed : (s : Instance) (ports : List Named) (place : Place) (k : ℕ) → declaration_faults s.step.definition ≡ [] → ports ≡ port_list s.step.definition → s.step.place ≡ place
    → k < length (variables s.step.definition) → place_in (slice_get ports k) place ≡ port_place s (variable_at (variables s.step.definition) k).name
port-placed s ports place k faultless is at lt =
    (λ i. place_in (slice_get (is i) k) (sym at i)) ∙ ap (λ o. place_in o s.step.place) (sym found)
  where
    m : Module
    m = s.step.definition

    below : k < length (variable_names m)
    below = subst (λ n. k < n) (length-map (variable_names m) (variable m)) lt

    name : List ℕ
    name = (variable_at (variables m) k).name

    named : slice_get (variable_names m) k ≡ Some name
    named = slice_get-get_or (variable_names m) k [] below ∙ ap (λ v. Some v.name) (sym (get_or-map (variable m) (variable_names m) k [] _ below))

    once : places_again [] (port_list m) ≡ []
    once = no-place (places_again [] (port_list m)) (front (twice_in_list m) _ (front (name_faults m) _ faultless))

    found : find (λ q. bytes_eq name q.text) (port_list m) ≡ slice_get (port_list m) k
    found = (named-where [] (port_list m) _ k name once named).0
