-- Elements that are put one after another: what is there, followed by what is left, is the whole.
use Rattle.std.specs.Prelude.{◌≡◌, ℕ, ◌+◌, ◌-◌, ◌≤◌, List, [], ◌∷◌, ◌++◌, Result, Ok, Err, IfErr, map, length}
use Rattle.std.proofs.Common.{sym, ◌∙◌, ap, arith, subst, append_assoc, length-append}
use Rattle.std.proofs.lemmas.List.{append-nil, map-append, length-map}
use Rattle.sg_circuit.specs.declared.elements.Element as code
use Rattle.sg_text.specs.declared.places.Place.{Place}
use Rattle.sg_text.specs.declared.refusals.Refused.{Refused}
use Rattle.elab_model.specs.declared.kinds.ElabKind.{ElabKind}
use Rattle.elab_numbering.specs.Refusals.{RefusesCount}
use Rattle.elab_elements.specs.declared.placing.Placing.{Placing}
use Rattle.elab_elements.specs.Puts.{Wired, wired, Put, Puts, RefusesPuts}

abbrev pub elements_in : List Put → List Wired
elements_in ps = map (λ p. p.1) ps

abbrev pub places_in : List Put → List Place
places_in ps = map (λ p. p.0) ps

pub puts-none : (old : Placing) → Puts old old []
puts-none old = record { elements = sym (append-nil (map wired old.elements.items)); places = sym (append-nil old.places.items) }

pub puts-one : (old new : Placing) (e : code.Element) (p : Place) (w : Wired) → wired e ≡ w → new.elements.items ≡ old.elements.items ++ e ∷ [] → new.places.items ≡ old.places.items ++ p ∷ []
    → Puts old new ((p, w) ∷ [])
puts-one old new e p w is h k =
    record {
      elements = ap (map wired) h ∙ map-append wired old.elements.items (e ∷ []) ∙ ap (λ x. map wired old.elements.items ++ x ∷ []) is;
      places = k;
    }

pub puts-then : (a b c : Placing) (ps qs : List Put) → Puts a b ps → Puts b c qs → Puts a c (ps ++ qs)
puts-then a b c ps qs h k =
    record {
      elements = k.elements ∙ ap (λ xs. xs ++ elements_in qs) h.elements ∙ append_assoc (map wired a.elements.items) (elements_in ps) (elements_in qs)
          ∙ ap (λ xs. map wired a.elements.items ++ xs) (sym (map-append (λ p. p.1) ps qs));
      places = k.places ∙ ap (λ xs. xs ++ places_in qs) h.places ∙ append_assoc a.places.items (places_in ps) (places_in qs)
          ∙ ap (λ xs. a.places.items ++ xs) (sym (map-append (λ p. p.0) ps qs));
    }

pub puts-same : (old new : Placing) (ps qs : List Put) → ps ≡ qs → Puts old new ps → Puts old new qs
puts-same old new ps qs e h = subst (Puts old new) e h

-- how many there are then
pub puts-count : (old new : Placing) (ps : List Put) → Puts old new ps → length new.elements.items ≡ length old.elements.items + length ps
puts-count old new ps h =
    sym (length-map new.elements.items wired) ∙ ap length h.elements ∙ length-append (map wired old.elements.items) (elements_in ps)
    ∙ ap (λ n. n + length (elements_in ps)) (length-map old.elements.items wired) ∙ ap (λ n. length old.elements.items + n) (length-map ps (λ p. p.1))

-- ---- what is there, and what is left

pub record Completes (old : Placing) (total : List Put) (cur : Placing) (rest : List Put) : Type 0 where
  pub elements : map wired cur.elements.items ++ elements_in rest ≡ map wired old.elements.items ++ elements_in total
  pub places : cur.places.items ++ places_in rest ≡ old.places.items ++ places_in total

pub completes-more : (old cur new : Placing) (total rest ps left : List Put) → Completes old total cur rest → rest ≡ ps ++ left → Puts cur new ps → Completes old total new left
completes-more old cur new total rest ps left h e k =
    record {
      elements = ap (λ xs. xs ++ elements_in left) k.elements ∙ append_assoc (map wired cur.elements.items) (elements_in ps) (elements_in left)
          ∙ ap (λ xs. map wired cur.elements.items ++ xs) (sym (ap elements_in e ∙ map-append (λ p. p.1) ps left)) ∙ h.elements;
      places = ap (λ xs. xs ++ places_in left) k.places ∙ append_assoc cur.places.items (places_in ps) (places_in left)
          ∙ ap (λ xs. cur.places.items ++ xs) (sym (ap places_in e ∙ map-append (λ p. p.0) ps left)) ∙ h.places;
    }

pub completes-end : (old cur : Placing) (total rest : List Put) → Completes old total cur rest → rest ≡ [] → Puts old cur total
completes-end old cur total rest h e =
    record {
      elements = sym (append-nil (map wired cur.elements.items)) ∙ ap (λ ps. map wired cur.elements.items ++ elements_in ps) (sym e) ∙ h.elements;
      places = sym (append-nil cur.places.items) ∙ ap (λ ps. cur.places.items ++ places_in ps) (sym e) ∙ h.places;
    }

pub completes-count : (old cur : Placing) (total rest : List Put) → Completes old total cur rest → length cur.elements.items + length rest ≡ length old.elements.items + length total
completes-count old cur total rest h =
    sym (both cur rest) ∙ ap length h.elements ∙ both old total
  where
    both : (x : Placing) (ps : List Put) → length (map wired x.elements.items ++ elements_in ps) ≡ length x.elements.items + length ps
    both x ps =
        length-append (map wired x.elements.items) (elements_in ps) ∙ ap (λ n. n + length (elements_in ps)) (length-map x.elements.items wired)
        ∙ ap (λ n. length x.elements.items + n) (length-map ps (λ p. p.1))

-- ---- too many

pub refuses-left : (old cur : Placing) (total rest ps left : List Put) (r : Refused ElabKind) → Completes old total cur rest → rest ≡ ps ++ left → RefusesPuts cur ps r → RefusesPuts old total r
refuses-left old cur total rest ps left r h e k n le =
    let a = completes-count old cur total rest h in
    let b : length rest ≡ length ps + length left = ap length e ∙ length-append ps left in
    k n (omega arith)

pub refuses-front : (old : Placing) (ps qs : List Put) (r : Refused ElabKind) → RefusesPuts old ps r → RefusesPuts old (ps ++ qs) r
refuses-front old ps qs r k n le = let b = length-append ps qs in k n (omega arith)

pub refuses-back : (old new : Placing) (ps qs : List Put) (r : Refused ElabKind) → Puts old new ps → RefusesPuts new qs r → RefusesPuts old (ps ++ qs) r
refuses-back old new ps qs r h k n le = let a = puts-count old new ps h in let b = length-append ps qs in k n (omega arith)

pub refuses-count : {A : Type 0} (old : Placing) (ps : List Put) (cs : List A) (r : Refused ElabKind) → length ps ≤ length cs → RefusesPuts old ps r → RefusesCount (length old.elements.items + length cs) r
refuses-count old ps cs r le k = k (length old.elements.items + length cs) (omega arith)

pub one-refused : {A : Type 0} (old : Placing) (result : Result A (Refused ElabKind)) (p : Put) → IfErr result (λ r. (more : ℕ) → RefusesCount (length old.elements.items + 1 + more) r)
    → IfErr result (RefusesPuts old (p ∷ []))
one-refused old (Ok x) p h = tt
one-refused old (Err e) p h = λ total le. (let d : length old.elements.items + 1 + (total - (length old.elements.items + 1)) ≡ total = omega arith in
    subst (λ n. RefusesCount n e) d (h (total - (length old.elements.items + 1))))

pub if_err-weaker : {A : Type 0} (result : Result A (Refused ElabKind)) (P Q : Refused ElabKind → Type 0) → ((r : Refused ElabKind) → P r → Q r) → IfErr result P → IfErr result Q
if_err-weaker (Ok x) P Q f h = tt
if_err-weaker (Err e) P Q f h = f e h

-- the exit of a call that was refused
pub exit-by : {A : Type 0} (P : Refused ElabKind → Type 0) (result : Result A (Refused ElabKind)) (e : Refused ElabKind) → ((x : Refused ElabKind) × (result ≡ Err x) × (x ≡ e)) → P e → IfErr result P
exit-by P result e (x, r, s) h = subst (λ y. IfErr y P) (sym r) (subst P (sym s) h)
