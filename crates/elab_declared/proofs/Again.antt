-- Which names were seen is what counts, and not their order.
use Rattle.std.specs.Prelude.{◌≡◌, ℕ, suc, ◌<◌, List, [], ◌∷◌, ◌++◌, Bool, true, false, not, ◌||◌, Some, map, length, slice_index_or, refl, bytes_eq, if◌then◌else◌}
use Rattle.std.specs.Borrow.{Bor}
use Rattle.std.proofs.Common.{sym, ◌∙◌, ap, take, drop, ◌+◌, drop-cons}
use Rattle.std.proofs.lemmas.List.{map-append, take_more}
use Rattle.std.proofs.lemmas.Slice.Eq.{bytes_eq-Decides}
use Rattle.vl_tree.specs.declared.names.Name as code
use Rattle.vl_tree.specs.Seen.{view_name}
use Rattle.std.proofs.lemmas.List.Folds.{list_any-append}
use Rattle.vl_tree.specs.Tree.{Named}
use Rattle.elab_model.specs.Names.{is_among}
use Rattle.elab_model.specs.Faults.{places_again, texts_of}
use Rattle.elab_declared.specs.Words.{first_of, is_seen}

pub same-seen : (s t : List (List ℕ)) (ns : List Named) → ((n : List ℕ) → is_among n s ≡ is_among n t) → places_again s ns ≡ places_again t ns
same-seen s t [] h = refl
same-seen s t (n ∷ ns) h =
    ap (λ b. (if b then n.place ∷ [] else []) ++ places_again (n.text ∷ s) ns) (h n.text)
    ∙ ap (λ ps. (if is_among n.text t then n.place ∷ [] else []) ++ ps) (same-seen (n.text ∷ s) (n.text ∷ t) ns (λ m. ap (λ b. bytes_eq m n.text || b) (h m)))

last-first : (m n : List ℕ) (s : List (List ℕ)) → is_among m (n ∷ s) ≡ is_among m (s ++ n ∷ [])
last-first m n s = by (bytes_eq m n) (is_among m s) ∙ sym (list_any-append (bytes_eq m) s (n ∷ []))
  where
    by : (a b : Bool) → (a || b) ≡ (b || (a || false))
    by true true = refl
    by true false = refl
    by false true = refl
    by false false = refl

-- a name that is new is seen from then on
pub new-seen : (s : List (List ℕ)) (n : Named) (ns : List Named) → is_among n.text s ≡ false → places_again s (n ∷ ns) ≡ places_again (s ++ n.text ∷ []) ns
new-seen s n ns e = ap (λ b. (if b then n.place ∷ [] else []) ++ places_again (n.text ∷ s) ns) e ∙ same-seen (n.text ∷ s) (s ++ n.text ∷ []) ns (λ m. last-first m n.text s)

-- one that was seen is the first
pub old-seen : (s : List (List ℕ)) (n : Named) (ns : List Named) → is_among n.text s ≡ true → first_of (places_again s (n ∷ ns)) ≡ Some n.place
old-seen s n ns e = ap (λ b. first_of ((if b then n.place ∷ [] else []) ++ places_again (n.text ∷ s) ns)) e

-- ---- the names that the code has seen

abbrev pub texts : List (Bor (List ℕ)) → List (List ℕ)
texts keys = map (λ k. k.now) keys

among-texts : (n : List ℕ) (keys : List (Bor (List ℕ))) → is_among n (texts keys) ≡ is_seen n keys
among-texts n [] = refl
among-texts n (k ∷ ks) = ap (λ b. bytes_eq n k.now || b) (among-texts n ks)

not-is : (b c : Bool) → b ≡ not c → b ≡ false → c ≡ true
not-is b true e h = refl
not-is b false e h = let x : true ≡ false = sym e ∙ h in cc

not-isnt : (b c : Bool) → b ≡ not c → b ≡ true → c ≡ false
not-isnt b false e h = refl
not-isnt b true e h = let x : false ≡ true = sym e ∙ h in cc

pub found-again : (d : code.Name) (keys : List (Bor (List ℕ))) (names : List code.Name) (i : ℕ) (b : Bool) → i < length names
    → b ≡ not (is_seen (slice_index_or names i d).text.now keys) → b ≡ false
    → first_of (places_again (texts keys) (map view_name (drop i names))) ≡ first_of (places_again [] (map view_name names))
    → Some (slice_index_or names i d).place ≡ first_of (places_again [] (map view_name names))
found-again d keys names i b lt added e h =
    let n = slice_index_or names i d in
    let t : is_among n.text.now (texts keys) ≡ true = among-texts n.text.now keys ∙ not-is b (is_seen n.text.now keys) added e in
    sym (old-seen (texts keys) (view_name n) (map view_name (drop (suc i) names)) t) ∙ ap (λ ns. first_of (places_again (texts keys) (map view_name ns))) (sym (drop-cons names i d lt)) ∙ h

pub one-seen : (d : code.Name) (keys after : List (Bor (List ℕ))) (names : List code.Name) (i : ℕ) (b : Bool) → i < length names
    → b ≡ not (is_seen (slice_index_or names i d).text.now keys) → b ≡ true
    → after ≡ (if is_seen (slice_index_or names i d).text.now keys then keys else keys ++ (slice_index_or names i d).text ∷ [])
    → first_of (places_again (texts keys) (map view_name (drop i names))) ≡ first_of (places_again [] (map view_name names))
    → first_of (places_again (texts after) (map view_name (drop (suc i) names))) ≡ first_of (places_again [] (map view_name names))
one-seen d keys after names i b lt added e grown h =
    let n = slice_index_or names i d in
    let f : is_seen n.text.now keys ≡ false = not-isnt b (is_seen n.text.now keys) added e in
    let g : after ≡ keys ++ n.text ∷ [] = grown ∙ ap (λ b. if b then keys else keys ++ n.text ∷ []) f in
    let t : is_among n.text.now (texts keys) ≡ false = among-texts n.text.now keys ∙ f in
    ap (λ ks. first_of (places_again (texts ks) (map view_name (drop (suc i) names)))) g
    ∙ ap (λ ks. first_of (places_again ks (map view_name (drop (suc i) names)))) (map-append (λ k. k.now) keys (n.text ∷ []))
    ∙ ap first_of (sym (new-seen (texts keys) (view_name n) (map view_name (drop (suc i) names)) t))
    ∙ ap (λ ns. first_of (places_again (texts keys) (map view_name ns))) (sym (drop-cons names i d lt)) ∙ h

-- ---- a set of names

seen-append : (n : List ℕ) (keys : List (Bor (List ℕ))) (k : Bor (List ℕ)) → is_seen n (keys ++ k ∷ []) ≡ (is_seen n keys || (bytes_eq n k.now || false))
seen-append n keys k = list_any-append (λ y. bytes_eq n y.now) keys (k ∷ [])

or-again : (a b : Bool) → (b ≡ true → a ≡ true) → a ≡ (a || (b || false))
or-again true b h = refl
or-again false true h = let e = h refl in cc
or-again false false h = refl

-- whether a text is seen, when one more was put in
pub put-in : (n : List ℕ) (keys after : List (Bor (List ℕ))) (k : Bor (List ℕ)) → after ≡ (if is_seen k.now keys then keys else keys ++ k ∷ []) → is_seen n after ≡ (is_seen n keys || (bytes_eq n k.now || false))
put-in n keys after k e = by (is_seen k.now keys) refl
  where
    same : is_seen k.now keys ≡ true → bytes_eq n k.now ≡ true → is_seen n keys ≡ true
    same t h = let is : n ≡ k.now = (bytes_eq-Decides n k.now).0 h in ap (λ m. is_seen m keys) is ∙ t

    by : (b : Bool) → is_seen k.now keys ≡ b → is_seen n after ≡ (is_seen n keys || (bytes_eq n k.now || false))
    by true t = ap (is_seen n) (e ∙ ap (λ b. if b then keys else keys ++ k ∷ []) t) ∙ or-again (is_seen n keys) (bytes_eq n k.now) (same t)
    by false t = ap (is_seen n) (e ∙ ap (λ b. if b then keys else keys ++ k ∷ []) t) ∙ seen-append n keys k

pub set-next : (d : code.Name) (keys after : List (Bor (List ℕ))) (names : List code.Name) (i : ℕ) → i < length names
    → after ≡ (if is_seen (slice_index_or names i d).text.now keys then keys else keys ++ (slice_index_or names i d).text ∷ [])
    → ((n : List ℕ) → is_seen n keys ≡ is_among n (texts_of (map view_name (take i names)))) → (n : List ℕ) → is_seen n after ≡ is_among n (texts_of (map view_name (take (i + 1) names)))
set-next d keys after names i lt e h n =
    let k = slice_index_or names i d in
    put-in n keys after k.text e ∙ ap (λ b. b || (bytes_eq n k.text.now || false)) (h n)
    ∙ sym (ap (λ ns. is_among n (texts_of (map view_name ns))) (take_more names i d lt)
    ∙ ap (λ ns. is_among n (texts_of ns)) (map-append view_name (take i names) (k ∷ []))
    ∙ ap (is_among n) (map-append (λ m. m.text) (map view_name (take i names)) (view_name k ∷ []))
    ∙ list_any-append (bytes_eq n) (texts_of (map view_name (take i names))) (k.text.now ∷ []))
