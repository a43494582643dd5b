-- The first declaration of a port, where later ones are noted before it.
use Rattle.std.specs.Prelude.{◌≡◌, ℕ, ◌+◌, ◌-◌, ◌<◌, ◌≤◌, List, [], ◌∷◌, ◌++◌, Bool, true, false, Option, Some, None, cond, find, length, map, IfSome, set, drop, replicate, refl, bytes_eq, slice_index_or}
use Rattle.std.specs.List.{AllByRecursion, position_from}
use Rattle.std.proofs.Common.{sym, ◌∙◌, ap, subst, inl, zero-add, arith}
use Rattle.std.proofs.lemmas.List.{drop_more, get_or-map, set_at, map-append, length-map}
use Rattle.std.proofs.lemmas.Slice.Eq.{bytes_eq-Decides}
use Rattle.sg_text.specs.declared.places.Place.{Place}
use Rattle.vl_tree.specs.declared.modules.PortDeclaration as code
use Rattle.vl_tree.specs.Seen.{view_port_declaration}
use Rattle.vl_tree.specs.Tree.{PortDeclaration, Module}
use Rattle.elab_model.specs.Drivers.{port_place}
use Rattle.elab_model.specs.Names.{Variable, variables}
use Rattle.elab_laws.proofs.Lists.{all-in, in-right, Pairwise}
use Rattle.elab_laws.proofs.Apart.{bytes-either, variables-apart}
use Rattle.elab_variables.specs.Seen.{place_named, variable_at}
use Rattle.elab_bits.proofs.InRow.{blank}
use Rattle.elab_ports.proofs.Rows.{split-at, place-below}
use Rattle.elab_model.specs.Ports.{port_declarations}
use Rattle.elab_scopes.specs.Driven.{place_in, declared_place}

-- ---- one declaration more

place-first : (d : PortDeclaration) (ds : List PortDeclaration) (f : Variable → Place) (v : Variable) → place_in (d ∷ []) (place_in ds f) v ≡ place_in (d ∷ ds) f v
place-first d ds f v = by (bytes_eq v.name d.name.text)
  where
    by : (b : Bool) → port_place (cond b (Some d) None) (place_in ds f v) ≡ port_place (cond b (Some d) (find (λ d. bytes_eq v.name d.name.text) ds)) (f v)
    by true = refl
    by false = refl

pub places-first : (d : PortDeclaration) (ds : List PortDeclaration) (f : Variable → Place) (vs : List Variable) → map (place_in (d ∷ []) (place_in ds f)) vs ≡ map (place_in (d ∷ ds) f) vs
places-first d ds f [] = refl
places-first d ds f (v ∷ vs) = ap (λ p. p ∷ map (place_in (d ∷ []) (place_in ds f)) vs) (place-first d ds f v) ∙ ap (λ ps. place_in (d ∷ ds) f v ∷ ps) (places-first d ds f vs)

-- ---- what is noted of one declaration

abbrev Apart : Variable → Variable → Type 0
Apart v w = bytes_eq v.name w.name ≡ false

passed : (d : PortDeclaration) (f : Variable → Place) (v : Variable) → bytes_eq v.name d.name.text ≡ false → f v ≡ place_in (d ∷ []) f v
passed d f v e = ap (λ b. port_place (cond b (Some d) None) (f v)) (sym e)

hit : (d : PortDeclaration) (f : Variable → Place) (v : Variable) → d.name.text ≡ v.name → d.name.place ≡ place_in (d ∷ []) f v
hit d f v e = ap (λ b. port_place (cond b (Some d) None) (f v)) (sym ((bytes_eq-Decides v.name d.name.text).1 (sym e)))

all-passed : (d : PortDeclaration) (f : Variable → Place) (vs : List Variable) → AllByRecursion (λ v. bytes_eq d.name.text v.name ≡ false) vs → map f vs ≡ map (place_in (d ∷ []) f) vs
all-passed d f [] h = refl
all-passed d f (v ∷ vs) h =
    ap (λ p. p ∷ map f vs) (passed d f v (bytes-either v.name d.name.text ∙ h.0)) ∙ ap (λ ps. place_in (d ∷ []) f v ∷ ps) (all-passed d f vs h.1)

between : (d : PortDeclaration) (f : Variable → Place) (before after : List Variable) (v : Variable) → d.name.text ≡ v.name → Pairwise Apart (before ++ v ∷ after)
    → map f before ++ d.name.place ∷ map f after ≡ map (place_in (d ∷ []) f) (before ++ v ∷ after)
between d f [] after v e h =
    ap (λ p. p ∷ map f after) (hit d f v e)
    ∙ ap (λ ps. place_in (d ∷ []) f v ∷ ps) (all-passed d f after (subst (λ n. AllByRecursion (λ w. bytes_eq n w.name ≡ false) after) (sym e) h.0))
between d f (b ∷ before) after v e h =
    let apart : bytes_eq b.name v.name ≡ false = all-in (Apart b) v (before ++ v ∷ after) h.0 (in-right v before (v ∷ after) (inl refl)) in
    ap (λ p. p ∷ (map f before ++ d.name.place ∷ map f after)) (passed d f b (ap (bytes_eq b.name) e ∙ apart)) ∙ ap (λ ps. place_in (d ∷ []) f b ∷ ps) (between d f before after v e h.1)

pub noted : (d : PortDeclaration) (f : Variable → Place) (m : Module) (k : ℕ) → place_named (variables m) d.name.text ≡ Some k
    → set (map f (variables m)) k d.name.place ≡ map (place_in (d ∷ []) f) (variables m)
noted d f m k e =
    let s = split-at (variables m) d.name.text k e in
    let count : length (map f s.before) ≡ k = length-map s.before f ∙ sym (zero-add (length s.before)) ∙ s.count in
    ap (λ vs. set (map f vs) k d.name.place) s.whole ∙ ap (λ ps. set ps k d.name.place) (map-append f s.before (s.found ∷ s.after))
    ∙ set_at (map f s.before) (f s.found) (map f s.after) d.name.place k count
    ∙ between d f s.before s.after s.found s.named (subst (Pairwise Apart) s.whole (variables-apart m))
    ∙ ap (map (place_in (d ∷ []) f)) (sym s.whole)

none-named : (n : List ℕ) (i : ℕ) (vs : List Variable) → position_from (λ v. bytes_eq n v.name) i vs ≡ None → AllByRecursion (λ v. bytes_eq n v.name ≡ false) vs
none-named n i [] e = tt
none-named n i (v ∷ vs) e = by (bytes_eq n v.name) refl (none-named n (i + 1) vs)
  where
    by : (b : Bool) → bytes_eq n v.name ≡ b → (position_from (λ v. bytes_eq n v.name) (i + 1) vs ≡ None → AllByRecursion (λ v. bytes_eq n v.name ≡ false) vs)
        → (bytes_eq n v.name ≡ false) × AllByRecursion (λ v. bytes_eq n v.name ≡ false) vs
    by true t h = let g : ◌≡◌ {A = Option ℕ} (Some i) None = rw t at e in cc
    by false t h = let g : position_from (λ v. bytes_eq n v.name) (i + 1) vs ≡ None = rw t at e in (t, h g)

pub not-noted : (d : PortDeclaration) (f : Variable → Place) (m : Module) → place_named (variables m) d.name.text ≡ None → map f (variables m) ≡ map (place_in (d ∷ []) f) (variables m)
not-noted d f m e = all-passed d f (variables m) (none-named d.name.text 0 (variables m) e)

-- ---- what the code writes

pub note-hit : (d : PortDeclaration) (f : Variable → Place) (m : Module) (vs : List Variable) (k : ℕ) (old new : List Place) → place_named vs d.name.text ≡ Some k → new ≡ set old k d.name.place
    → vs ≡ variables m → old ≡ map f (variables m) → new ≡ map (place_in (d ∷ []) f) (variables m)
note-hit d f m vs k old new e w t o =
    w ∙ ap (λ ps. set ps k d.name.place) o ∙ noted d f m k (ap (λ us. place_named us d.name.text) (sym t) ∙ e)

pub note-passed : (d : PortDeclaration) (f : Variable → Place) (m : Module) (vs : List Variable) (old : List Place) → place_named vs d.name.text ≡ None
    → vs ≡ variables m → old ≡ map f (variables m) → old ≡ map (place_in (d ∷ []) f) (variables m)
note-passed d f m vs old e t o = o ∙ not-noted d f m (ap (λ us. place_named us d.name.text) (sym t) ∙ e)

pub all-one : (p : Place) (vs : List Variable) (n : ℕ) → n ≡ length vs → replicate n p ≡ map (λ v. p) vs
all-one p [] n e = ap (λ k. replicate k p) e
all-one p (v ∷ vs) n e = ap (λ k. replicate k p) e ∙ ap (λ ps. p ∷ ps) (all-one p vs (length vs) refl)

pub place-within : (vs : List Variable) (n : List ℕ) (r : Option ℕ) → r ≡ place_named vs n → IfSome r (λ i. i < length vs)
place-within vs n None e = tt
place-within vs n (Some i) e = place-below vs n i (sym e)

pub places-declared : (m k : Module) (ds : List PortDeclaration) (new : List Place) → k ≡ m → ds ≡ port_declarations k → new ≡ map (place_in ds (λ v. k.name.place)) (variables m)
    → new ≡ map (declared_place m) (variables m)
places-declared m k ds new e d n = n ∙ ap (λ es. map (place_in es (λ v. k.name.place)) (variables m)) d ∙ ap (λ j. map (declared_place j) (variables m)) e

pub notes-next : (ds : List code.PortDeclaration) (i : ℕ) (blank : code.PortDeclaration) (f : Variable → Place) (m : Module) (new : List Place) → 0 < i → i ≤ length ds
    → new ≡ map (place_in (view_port_declaration (slice_index_or ds (i - 1) blank) ∷ []) (place_in (map view_port_declaration (drop i ds)) f)) (variables m)
    → new ≡ map (place_in (map view_port_declaration (drop (i - 1) ds)) f) (variables m)
notes-next ds i blank f m new some within n =
    let lt : i - 1 < length ds = omega arith in
    let again : i - 1 + 1 ≡ i = omega arith in
    let d = slice_index_or ds (i - 1) blank in
    n ∙ places-first (view_port_declaration d) (map view_port_declaration (drop i ds)) f (variables m)
    ∙ ap (λ es. map (place_in (map view_port_declaration es) f) (variables m)) (sym (drop_more ds (i - 1) blank lt ∙ ap (λ k. d ∷ drop k ds) again))

-- the place of the variable at a place
pub place-at : (m : Module) (vs : List Variable) (places : List Place) (i : ℕ) (none : Place) → i < length vs → vs ≡ variables m → places ≡ map (declared_place m) (variables m)
    → slice_index_or places i none ≡ declared_place m (variable_at vs i)
place-at m vs places i none lt t p = ap (λ ps. slice_index_or ps i none) (p ∙ ap (map (declared_place m)) (sym t)) ∙ get_or-map (declared_place m) vs i blank none lt
