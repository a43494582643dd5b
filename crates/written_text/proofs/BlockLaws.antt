-- A text between two lines, or nothing where it is empty.
use Rattle.std.proofs.Common.{◌≡◌, ℕ, ◌+◌, ◌<◌, ◌≤◌, List, [], ◌∷◌, ◌++◌, length, take, drop, refl, sym, ◌∙◌, ap, arith, append_assoc, append-nil, get_or, length-drop}
use Rattle.std.specs.Prelude.{Result, Ok, Err, OnOk, is_ok, flat_map, if◌then◌else◌}
use Rattle.std.proofs.lemmas.List.{take-append-drop, take-take, take_at, take_more, drop_at, drop_all}
use Rattle.std.proofs.lemmas.Grind.{flat_map-append}
use Rattle.written_model.specs.Text.{enclosed}

enclosed-some : (first last inner : List ℕ) → 0 < length inner → enclosed first last inner ≡ first ++ (inner ++ last)
enclosed-some first last [] l = absurd (omega (arith, l))
enclosed-some first last (b ∷ bs) l = refl

front : (old : List ℕ) (start inner : ℕ) → start ≤ inner → take start old ++ drop start (take inner old) ≡ take inner old
front old start inner l = ap (λ x. x ++ drop start (take inner old)) (sym (take-take start inner old l)) ∙ take-append-drop start (take inner old)

pub close_some : (old : List ℕ) (start inner : ℕ) (last : List ℕ) → start ≤ inner → 0 < length (drop inner old) → old ++ last ≡ take start old ++ enclosed (drop start (take inner old)) last (drop inner old)
close_some old start inner last l more =
    sym (ap (λ x. take start old ++ x) (enclosed-some (drop start (take inner old)) last (drop inner old) more)
    ∙ (sym (append_assoc (take start old) (drop start (take inner old)) (drop inner old ++ last))
    ∙ (ap (λ x. x ++ (drop inner old ++ last)) (front old start inner l)
    ∙ (sym (append_assoc (take inner old) (drop inner old) last) ∙ ap (λ x. x ++ last) (take-append-drop inner old)))))

pub close_none : (old : List ℕ) (start inner : ℕ) (last : List ℕ) → length old ≤ inner → take start old ≡ take start old ++ enclosed (drop start (take inner old)) last (drop inner old)
close_none old start inner last l = sym (ap (λ x. take start old ++ enclosed (drop start (take inner old)) last x) (drop_all inner old l) ∙ append-nil (take start old))

-- what begins with a first line and is closed
pub block_closed : {E : Type 0} (r : Result Unit E) (old first inside last text new : List ℕ) (start inner : ℕ) → start ≡ length old → inner ≡ length (old ++ first) → text ≡ (old ++ first) ++ inside
    → OnOk r (new ≡ take start text ++ enclosed (drop start (take inner text)) last (drop inner text)) → OnOk r (new ≡ old ++ enclosed first last inside)
block_closed (Err e) old first inside last text new start inner a b t h = tt
block_closed (Ok x) old first inside last text new start inner a b t h =
    let taken : take start text ≡ old = ap (take start) (t ∙ append_assoc old first inside) ∙ take_at old (first ++ inside) start (sym a) in
    let cut : take inner text ≡ old ++ first = ap (take inner) t ∙ take_at (old ++ first) inside inner (sym b) in
    let behind : drop start (take inner text) ≡ first = ap (drop start) cut ∙ drop_at old first start (sym a) in
    let rest : drop inner text ≡ inside = ap (drop inner) t ∙ drop_at (old ++ first) inside inner (sym b) in
    h ∙ (ap (λ o. o ++ enclosed (drop start (take inner text)) last (drop inner text)) taken
    ∙ (ap (λ f. old ++ enclosed f last (drop inner text)) behind ∙ ap (λ i. old ++ enclosed first last i) rest))

pub close_added : {E : Type 0} (r : Result Unit E) (old : List ℕ) (start inner : ℕ) (last new : List ℕ) → start ≤ inner → inner < length old → new ≡ (if is_ok r then old ++ last else old)
    → OnOk r (new ≡ take start old ++ enclosed (drop start (take inner old)) last (drop inner old))
close_added (Err e) old start inner last new l m h = tt
close_added (Ok x) old start inner last new l m h = h ∙ close_some old start inner last l (let n = length-drop inner old in omega (arith, m, n))

-- one item more of a list
pub flat_step : (f : ℕ → List ℕ) (xs : List ℕ) (i : ℕ) (start text new : List ℕ) → i < length xs → text ≡ start ++ flat_map f (take i xs) → new ≡ text ++ f (get_or xs i 0) → new ≡ start ++ flat_map f (take (i + 1) xs)
flat_step f xs i start text new l h more =
    more ∙ (ap (λ t. t ++ f (get_or xs i 0)) h ∙ (append_assoc start (flat_map f (take i xs)) (f (get_or xs i 0))
    ∙ ap (λ t. start ++ t) (sym (ap (flat_map f) (take_more xs i 0 l) ∙ (flat_map-append f (take i xs) (get_or xs i 0 ∷ []) ∙ ap (λ t. flat_map f (take i xs) ++ t) (append-nil (f (get_or xs i 0))))))))
