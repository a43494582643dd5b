-- Times in order.
use Rattle.std.proofs.Common.{◌≡◌, ℕ, ◌<◌, ◌≤◌, List, [], ◌∷◌, ◌++◌, reverse, refl, sym, ◌∙◌, ap, subst, arith, inl, inr}
use Rattle.std.proofs.lemmas.List.{reverse-append}
use Rattle.sg_logic.specs.declared.values.Value.{Value}
use Rattle.sg_model.specs.Pending.{IsAbove}
use Rattle.sg_model.specs.Agenda.{Rises}
use Rattle.event_wheel.specs.Keys.{Has}
use Rattle.event_wheel.specs.Links.{Store}
use Rattle.event_wheel.specs.Families.{pair_of, pairs_at, IsBefore, IsAfter, IsOrdered}

-- the transitions of two lists of keys
pub pairs-append : (m : Store) (xs ys : List ℕ) → pairs_at m (xs ++ ys) ≡ pairs_at m xs ++ pairs_at m ys
pairs-append m [] ys = refl
pairs-append m (x ∷ xs) ys = ap (λ ps. pair_of (m x) ∷ ps) (pairs-append m xs ys)

pub pairs-same : (m m' : Store) (ks : List ℕ) → ((k : ℕ) → Has k ks → pair_of (m' k) ≡ pair_of (m k)) → pairs_at m' ks ≡ pairs_at m ks
pairs-same m m' [] h = refl
pairs-same m m' (k ∷ ks) h = ap (λ p. p ∷ pairs_at m' ks) (h k (inl refl)) ∙ ap (λ ps. pair_of (m k) ∷ ps) (pairs-same m m' ks (λ j g. h j (inr g)))

pub before-append : (R : ℕ → ℕ → Type 0) (t : ℕ) (ps qs : List (ℕ × Value)) → IsBefore R t ps → IsBefore R t qs → IsBefore R t (ps ++ qs)
before-append R t [] qs h g = g
before-append R t (p ∷ ps) qs h g = (h.0, before-append R t ps qs h.1 g)

pub before-parts : (R : ℕ → ℕ → Type 0) (t : ℕ) (ps qs : List (ℕ × Value)) → IsBefore R t (ps ++ qs) → IsBefore R t ps × IsBefore R t qs
before-parts R t [] qs h = (tt, h)
before-parts R t (p ∷ ps) qs h = let r = before-parts R t ps qs h.1 in ((h.0, r.0), r.1)

pub ordered-without : (R : ℕ → ℕ → Type 0) (ps : List (ℕ × Value)) (p : ℕ × Value) (qs : List (ℕ × Value)) → IsOrdered R (ps ++ p ∷ qs) → IsOrdered R (ps ++ qs)
ordered-without R [] p qs h = h.1
ordered-without R (x ∷ ps) p qs h =
    let r = before-parts R x.0 ps (p ∷ qs) h.0 in
    (before-append R x.0 ps qs r.0 r.1.1, ordered-without R ps p qs h.1)

pub ordered-with : (R : ℕ → ℕ → Type 0) (ps : List (ℕ × Value)) (p : ℕ × Value) (qs : List (ℕ × Value)) → IsAfter R p.0 ps → IsBefore R p.0 qs → IsOrdered R (ps ++ qs) → IsOrdered R (ps ++ p ∷ qs)
ordered-with R [] p qs a b h = (b, h)
ordered-with R (x ∷ ps) p qs a b h =
    let r = before-parts R x.0 ps qs h.0 in
    (before-append R x.0 ps (p ∷ qs) r.0 (a.0, r.1), ordered-with R ps p qs a.1 b h.1)

-- of two parts, the last time of the first stands before the second
pub ordered-parts : (R : ℕ → ℕ → Type 0) (ps qs : List (ℕ × Value)) → IsOrdered R (ps ++ qs) → IsOrdered R ps × IsOrdered R qs
ordered-parts R [] qs h = (tt, h)
ordered-parts R (p ∷ ps) qs h = let r = ordered-parts R ps qs h.1 in (((before-parts R p.0 ps qs h.0).0, r.0), r.1)

pub after-last : (ps : List (ℕ × Value)) (p : ℕ × Value) (t : ℕ) → IsOrdered (λ s t. s ≤ t) (ps ++ p ∷ []) → p.0 ≤ t → IsAfter (λ s t. s ≤ t) t (ps ++ p ∷ [])
after-last [] p t h l = (l, tt)
after-last (x ∷ ps) p t h l =
    let k : x.0 ≤ p.0 = (before-parts (λ s t. s ≤ t) x.0 ps (p ∷ []) h.0).1.0 in
    (omega arith, after-last ps p t h.1 l)

pub before-first : (t : ℕ) (p : ℕ × Value) (ps : List (ℕ × Value)) → IsBefore (λ s t. s ≤ t) p.0 ps → t ≤ p.0 → IsBefore (λ s t. s ≤ t) t ps
before-first t p [] h l = tt
before-first t p (q ∷ qs) h l = let k : p.0 ≤ q.0 = h.0 in (omega arith, before-first t p qs h.1 l)

-- what stands before all of a list's times stands before each
pub before-has : (R : ℕ → ℕ → Type 0) (t : ℕ) (m : Store) (ks : List ℕ) (k : ℕ) → IsBefore R t (pairs_at m ks) → Has k ks → R t (pair_of (m k)).0
before-has R t m [] k b h = absurd h
before-has R t m (x ∷ xs) k b (inl e) = subst (λ y. R t (pair_of (m y)).0) e b.0
before-has R t m (x ∷ xs) k b (inr h) = before-has R t m xs k b.1 h

-- times that stand in order by less rise
above-append : (t : ℕ) (ys : List (ℕ × Value)) (p : ℕ × Value) → IsAbove t (p ∷ []) → IsAbove t ys → IsAbove t (ys ++ p ∷ [])
above-append t [] p a h = a
above-append t (y ∷ ys) p a h = h

rises-push : (ys : List (ℕ × Value)) (p : ℕ × Value) → Rises ys → IsAfter (λ s t. t < s) p.0 ys → Rises (ys ++ p ∷ [])
rises-push [] p r a = (tt, tt)
rises-push (y ∷ ys) p r a = (above-append y.0 ys p a.0 r.0, rises-push ys p r.1 a.1)

after-reverse : (R : ℕ → ℕ → Type 0) (t : ℕ) (ps : List (ℕ × Value)) → IsBefore (λ s u. R u s) t ps → IsAfter R t (reverse ps)
after-reverse R t [] h = tt
after-reverse R t (p ∷ ps) h = subst (IsAfter R t) (sym (reverse-append (p ∷ []) ps)) (join (reverse ps) (after-reverse R t ps h.1))
  where
    join : (qs : List (ℕ × Value)) → IsAfter R t qs → IsAfter R t (qs ++ p ∷ [])
    join [] a = (h.0, tt)
    join (q ∷ qs) a = (a.0, join qs a.1)

pub rises-ordered : (ps : List (ℕ × Value)) → IsOrdered (λ s t. s < t) ps → Rises (reverse ps)
rises-ordered [] h = tt
rises-ordered (p ∷ ps) h = subst Rises (sym (reverse-append (p ∷ []) ps)) (rises-push (reverse ps) p (rises-ordered ps h.1) (after-reverse (λ s t. t < s) p.0 ps h.0))

-- what is above the last of times that rise is above all
pub after-above : (ps : List (ℕ × Value)) (t : ℕ) → IsOrdered (λ s t. s < t) ps → IsAbove t (reverse ps) → IsAfter (λ s t. s < t) t ps
after-above [] t h a = tt
after-above (p ∷ []) t h a = (a, tt)
after-above (p ∷ q ∷ ps) t h a =
    let rest : IsAfter (λ s t. s < t) t (q ∷ ps) = after-above (q ∷ ps) t h.1 (front (reverse (q ∷ ps)) (subst (IsAbove t) (reverse-append (p ∷ []) (q ∷ ps)) a) (λ e. some ps e)) in
    let k : p.0 < q.0 = h.0.0 in
    let l : q.0 < t = rest.0 in
    (omega arith, rest)
  where
    some : (zs : List (ℕ × Value)) → reverse (q ∷ zs) ≡ [] → ⊥
    some zs e = push (reverse zs) (sym (reverse-append (q ∷ []) zs) ∙ e)
      where
        push : (ws : List (ℕ × Value)) → ws ++ q ∷ [] ≡ [] → ⊥
        push [] f = cc
        push (w ∷ ws) f = cc

    front : (ys : List (ℕ × Value)) → IsAbove t (ys ++ p ∷ []) → (ys ≡ [] → ⊥) → IsAbove t ys
    front [] b n = absurd (n refl)
    front (y ∷ ys) b n = b
