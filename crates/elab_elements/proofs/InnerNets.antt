-- What is driven inside at the bits of an instance: the inner nets by the nets of their bits, and the row that is made of them.
use Rattle.std.specs.Prelude.{◌≡◌, ℕ, ◌+◌, ◌<◌, ◌≤◌, ◌==◌, List, [], ◌∷◌, ◌++◌, Bool, true, false, cond, Option, Some, None, is_some, find, option_map, length, map, slice_index_or, take, unwrap_or, min, refl}
use Rattle.std.specs.Option.{option_or}
use Rattle.std.proofs.Common.{sym, ◌∙◌, ap, arith, subst}
use Rattle.std.proofs.lemmas.Bool.{eqb-true}
use Rattle.std.proofs.lemmas.List.{map-append, length-map, get_or-map, take_all, take_more}
use Rattle.std.proofs.lemmas.Slice.Zip.{length-zip, get_or-zip}
use Rattle.elab_laws.specs.NumberLaws.{second_or, driven_number}
use Rattle.elab_elements.specs.Words.{net_in, ends_in, inner_of}

-- ---- the inner nets of the bits so far

find-more : {A : Type 0} (t : A → Bool) (xs : List A) (x : A) → find t (xs ++ x ∷ []) ≡ option_or (find t xs) (cond (t x) (Some x) None)
find-more t [] x = refl
find-more t (y ∷ ys) x = by (t y) (find-more t ys x)
  where
    by : (b : Bool) → find t (ys ++ x ∷ []) ≡ option_or (find t ys) (cond (t x) (Some x) None)
        → cond b (Some y) (find t (ys ++ x ∷ [])) ≡ option_or (cond b (Some y) (find t ys)) (cond (t x) (Some x) None)
    by true h = refl
    by false h = h

-- one more
inner-more : (es : List (ℕ × ℕ)) (e : ℕ × ℕ) (net : ℕ) → inner_of (es ++ e ∷ []) net ≡ option_or (inner_of es net) (cond (e.0 == net) (Some e.1) None)
inner-more es e net = ap (option_map (λ e. e.1)) (find-more (λ e. e.0 == net) es e) ∙ by (find (λ e. e.0 == net) es) (e.0 == net)
  where
    by : (o : Option (ℕ × ℕ)) (b : Bool) → option_map (λ e. e.1) (option_or o (cond b (Some e) None)) ≡ option_or (option_map (λ e. e.1) o) (cond b (Some e.1) None)
    by (Some f) b = refl
    by None true = refl
    by None false = refl

ends-count : (row bits ends : List ℕ) → length bits ≡ length ends → length (ends_in row bits ends) ≡ length bits
ends-count row bits ends e =
    let n = length-map bits (net_in row) in
    let z : length (ends_in row bits ends) ≡ min (length (map (net_in row) bits)) (length ends) = length-zip (map (net_in row) bits) ends in
    omega (arith, n, z, e)

pub ends-more : (row bits ends : List ℕ) (i : ℕ) → length bits ≡ length ends → i < length bits
    → take (i + 1) (ends_in row bits ends) ≡ take i (ends_in row bits ends) ++ (net_in row (slice_index_or bits i 0), slice_index_or ends i 0) ∷ []
ends-more row bits ends i e lt =
    let es = ends_in row bits ends in
    let c = ends-count row bits ends e in
    let m = length-map bits (net_in row) in
    let one : slice_index_or es i (0, 0) ≡ (net_in row (slice_index_or bits i 0), slice_index_or ends i 0) =
    get_or-zip (map (net_in row) bits) ends i (0, 0) (omega (arith, m, lt)) (omega (arith, e, lt)) ∙ (λ j. (get_or-map (net_in row) bits i 0 0 lt j, slice_index_or ends i 0)) in
    take_more es i (0, 0) (omega (arith, c, lt)) ∙ ap (λ e. take i es ++ e ∷ []) one

stays : (o p : Option ℕ) → is_some o ≡ true → o ≡ option_or o p
stays None p e = cc
stays (Some n) p e = refl

goes : (o p : Option ℕ) → is_some o ≡ false → p ≡ option_or o p
goes None p e = refl
goes (Some n) p e = cc

or-none : (o : Option ℕ) → option_or o None ≡ o
or-none None = refl
or-none (Some x) = refl

-- its net has an inner net already
pub known-already : (es fs : List (ℕ × ℕ)) (e : ℕ × ℕ) (found : ℕ → Option ℕ) → fs ≡ es ++ e ∷ [] → is_some (found e.0) ≡ true → ((net : ℕ) → found net ≡ inner_of es net)
    → (net : ℕ) → found net ≡ inner_of fs net
known-already es fs e found more some h net = by (e.0 == net) refl ∙ sym (ap (λ xs. inner_of xs net) more ∙ inner-more es e net)
  where
    by : (b : Bool) → (e.0 == net) ≡ b → found net ≡ option_or (inner_of es net) (cond b (Some e.1) None)
    by false g = h net ∙ sym (or-none (inner_of es net))
    by true g =
        let there : is_some (inner_of es net) ≡ true = subst (λ k. is_some (inner_of es k) ≡ true) (eqb-true e.0 net g) (ap is_some (sym (h e.0)) ∙ some) in
        h net ∙ stays (inner_of es net) (Some e.1) there

-- it has none, and takes this one
pub known-new : (es fs : List (ℕ × ℕ)) (e : ℕ × ℕ) (old new : ℕ → Option ℕ) → fs ≡ es ++ e ∷ [] → is_some (old e.0) ≡ false → ((net : ℕ) → new net ≡ cond (e.0 == net) (Some e.1) (old net))
    → ((net : ℕ) → old net ≡ inner_of es net) → (net : ℕ) → new net ≡ inner_of fs net
known-new es fs e old new more none step h net = step net ∙ by (e.0 == net) refl ∙ sym (ap (λ xs. inner_of xs net) more ∙ inner-more es e net)
  where
    by : (b : Bool) → (e.0 == net) ≡ b → cond b (Some e.1) (old net) ≡ option_or (inner_of es net) (cond b (Some e.1) None)
    by false g = h net ∙ sym (or-none (inner_of es net))
    by true g =
        let there : is_some (inner_of es net) ≡ false = subst (λ k. is_some (inner_of es k) ≡ false) (eqb-true e.0 net g) (ap is_some (sym (h e.0)) ∙ none) in
        goes (inner_of es net) (Some e.1) there

pub all-known : (row bits ends : List ℕ) (i : ℕ) (found : ℕ → Option ℕ) → length bits ≡ length ends → length bits ≤ i → ((net : ℕ) → found net ≡ inner_of (take i (ends_in row bits ends)) net)
    → (net : ℕ) → found net ≡ inner_of (ends_in row bits ends) net
all-known row bits ends i found e le h net =
    let c = ends-count row bits ends e in
    h net ∙ ap (λ es. inner_of es net) (take_all i (ends_in row bits ends) (omega (arith, c)))

-- ---- the row of what is driven

pub one-driven : (es : List (ℕ × ℕ)) (n : ℕ) → unwrap_or (inner_of es n) n ≡ driven_number es n
one-driven es n = by (find (λ e. e.0 == n) es)
  where
    by : (o : Option (ℕ × ℕ)) → unwrap_or (option_map (λ e. e.1) o) n ≡ second_or n o
    by None = refl
    by (Some e) = refl

pub driven-more : (f : ℕ → ℕ) (row old new : List ℕ) (i m : ℕ) → i < length row → m ≡ f (slice_index_or row i 0) → new ≡ old ++ m ∷ [] → old ≡ map f (take i row) → new ≡ map f (take (i + 1) row)
driven-more f row old new i m lt is more h =
    more ∙ (λ j. h j ++ is j ∷ []) ∙ sym (ap (map f) (take_more row i 0 lt) ∙ map-append f (take i row) (slice_index_or row i 0 ∷ []))

pub all-driven : (f : ℕ → ℕ) (row new : List ℕ) (i : ℕ) → length row ≤ i → new ≡ map f (take i row) → new ≡ map f row
all-driven f row new i le h = h ∙ ap (map f) (take_all i row le)
