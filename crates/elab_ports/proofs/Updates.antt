-- Rows of what bits are bound to, as a function of name and position, and what a port that is connected changes in it.
use Rattle.std.specs.Prelude.{◌≡◌, ℕ, ◌+◌, ◌≤◌, List, [], ◌∷◌, ◌++◌, false, Option, Some, None, length, map, take, refl, bytes_eq, slice_get, replicate, if◌then◌else◌}
use Rattle.std.specs.List.{AllByRecursion, range_with_len, fold}
use Rattle.std.proofs.Common.{sym, ◌∙◌, ap, arith, subst, length-append}
use Rattle.std.proofs.lemmas.Grind.{flat_map-append}
use Rattle.std.proofs.lemmas.List.{map-append, length-map}
use Rattle.std.proofs.lemmas.List.FromFn.{length-range_with_len}
use Rattle.std.proofs.lemmas.Slice.Eq.{bytes_eq-Decides}
use Rattle.vl_tree.specs.Tree.{Expression}
use Rattle.sg_circuit.specs.Closed.{width_of}
use Rattle.elab_model.specs.Bits.{Bit, bits, positions}
use Rattle.elab_model.specs.Names.{Variable}
use Rattle.elab_laws.specs.Handing.{variable_bits, all_bits}
use Rattle.elab_laws.proofs.Apart.{bytes-either}
use Rattle.elab_laws.proofs.Lists.{all-weaker, Pairwise}
use Rattle.elab_variables.specs.Seen.{place_named}
use Rattle.elab_ports.specs.Binding.{put, put_at, room_at, bind}
use Rattle.elab_ports.proofs.Putting.{put-seam, by-places}
use Rattle.elab_ports.proofs.Rows.{SplitsFrom, split-at, front-is, room-found}

-- what each bit of a row is, by its name and its position
abbrev pub Row : Type 0
Row = List ℕ → ℕ → Option Bit

abbrev pub at_bit : Row → Variable × ℕ → Option Bit
at_bit f b = f b.0.name b.1

abbrev pub row_of : Row → List Variable → List (Option Bit)
row_of f vs = map (at_bit f) (all_bits vs)

abbrev part_of : Row → Variable → List (Option Bit)
part_of f v = map (λ p. f v.name p) (positions v.range)

map-pairs : (f : Row) (v : Variable) (ps : List ℕ) → map (at_bit f) (map (λ p. (v, p)) ps) ≡ map (λ p. f v.name p) ps
map-pairs f v [] = refl
map-pairs f v (p ∷ ps) = ap (λ xs. f v.name p ∷ xs) (map-pairs f v ps)

row-cons : (f : Row) (v : Variable) (vs : List Variable) → row_of f (v ∷ vs) ≡ part_of f v ++ row_of f vs
row-cons f v vs = map-append (at_bit f) (variable_bits v) (all_bits vs) ∙ ap (λ xs. xs ++ row_of f vs) (map-pairs f v (positions v.range))

row-append : (f : Row) (us vs : List Variable) → row_of f (us ++ vs) ≡ row_of f us ++ row_of f vs
row-append f us vs = ap (map (at_bit f)) (flat_map-append variable_bits us vs) ∙ map-append (at_bit f) (all_bits us) (all_bits vs)

row-parts : (f : Row) (before after : List Variable) (v : Variable) → row_of f (before ++ v ∷ after) ≡ row_of f before ++ (part_of f v ++ row_of f after)
row-parts f before after v = row-append f before (v ∷ after) ∙ ap (λ xs. row_of f before ++ xs) (row-cons f v after)

same-map : {A B : Type 0} (f g : A → B) (xs : List A) → ((x : A) → f x ≡ g x) → map f xs ≡ map g xs
same-map f g [] h = refl
same-map f g (x ∷ xs) h = rw (h x) (ap (λ ys. g x ∷ ys) (same-map f g xs h))

-- rows that are the same at each of the names
pub row-same : (f g : Row) (vs : List Variable) → AllByRecursion (λ v. (p : ℕ) → f v.name p ≡ g v.name p) vs → row_of f vs ≡ row_of g vs
row-same f g [] h = refl
row-same f g (v ∷ vs) h =
    row-cons f v vs ∙ ap (λ xs. xs ++ row_of f vs) (same-map (λ p. f v.name p) (λ p. g v.name p) (positions v.range) h.0) ∙ ap (λ xs. part_of g v ++ xs) (row-same f g vs h.1) ∙ sym (row-cons g v vs)

-- each other name differs
abbrev Differs : Variable → Variable → Type 0
Differs v w = bytes_eq v.name w.name ≡ false

record Others (v : Variable) (before after : List Variable) : Type 0 where
  before_differ : AllByRecursion (Differs v) before
  after_differ : AllByRecursion (Differs v) after

others-differ : (before after : List Variable) (v : Variable) → Pairwise Differs (before ++ v ∷ after) → Others v before after
others-differ [] after v h = record { before_differ = tt; after_differ = h.0 }
others-differ (u ∷ us) after v h =
    let r = others-differ us after v h.1 in
    record { before_differ = (bytes-either v.name u.name ∙ at-seam us h.0, r.before_differ); after_differ = r.after_differ }
  where
    at-seam : (us : List Variable) → AllByRecursion (Differs u) (us ++ v ∷ after) → Differs u v
    at-seam [] h = h.0
    at-seam (w ∷ us) h = at-seam us h.1

-- ---- one port

abbrev pub update : List Variable → Row → List ℕ × Expression → Row
update vs f e n p = if bytes_eq n e.0 then slice_get (bits vs e.1) p else f n p

-- a port that is connected fits the variable of its name
pub record Fits (vs child : List Variable) (e : List ℕ × Expression) : Type 0 where
  pub place : ℕ
  pub named : place_named child e.0 ≡ Some place
  pub wide : (s : SplitsFrom 0 child e.0 place) → length (bits vs e.1) ≡ width_of s.found.range

updated-elsewhere : (vs : List Variable) (f : Row) (e : List ℕ × Expression) (v : Variable) (us : List Variable) → e.0 ≡ v.name → AllByRecursion (Differs v) us
    → row_of f us ≡ row_of (update vs f e) us
updated-elsewhere vs f e v us n h =
    row-same f (update vs f e) us (all-weaker (Differs v) (λ w. (p : ℕ) → f w.name p ≡ update vs f e w.name p) us
    (λ w d p. sym (ap (λ b. if b then slice_get (bits vs e.1) p else f w.name p) (ap (bytes_eq w.name) n ∙ bytes-either w.name v.name ∙ d))) h)

updated-there : (vs : List Variable) (f : Row) (e : List ℕ × Expression) (v : Variable) → e.0 ≡ v.name → length (bits vs e.1) ≡ width_of v.range → part_of (update vs f e) v ≡ map Some (bits vs e.1)
updated-there vs f e v n w =
    same-map (λ p. update vs f e v.name p) (λ p. slice_get (bits vs e.1) p) (positions v.range)
    (λ p. ap (λ b. if b then slice_get (bits vs e.1) p else f v.name p) ((bytes_eq-Decides v.name e.0).1 (sym n)))
    ∙ ap (λ k. map (λ p. slice_get (bits vs e.1) p) (range_with_len 0 k)) (sym w)
    ∙ by-places (λ p. slice_get (bits vs e.1) p) Some 0 (bits vs e.1) (λ j x k. let z : 0 + j ≡ j = omega arith in ap (λ i. slice_get (bits vs e.1) i) z ∙ k)

length-part : (f : Row) (v : Variable) → length (part_of f v) ≡ width_of v.range
length-part f v = length-map (positions v.range) (λ p. f v.name p) ∙ length-range_with_len 0 (width_of v.range)

pub put-updated : (vs : List Variable) (f : Row) (e : List ℕ × Expression) (v : Variable) (before after : List Variable) → e.0 ≡ v.name → length (bits vs e.1) ≡ width_of v.range
    → Pairwise Differs (before ++ v ∷ after)
    → put (length (all_bits before)) (map Some (bits vs e.1)) (row_of f (before ++ v ∷ after)) ≡ row_of (update vs f e) (before ++ v ∷ after)
put-updated vs f e v before after n w apart =
    let o = others-differ before after v apart in
    let ys = map Some (bits vs e.1) in
    let l : length ys ≡ length (part_of f v) = length-map (bits vs e.1) Some ∙ w ∙ sym (length-part f v) in
    ap (put (length (all_bits before)) ys) (row-parts f before after v)
    ∙ ap (λ n. put n ys (row_of f before ++ (part_of f v ++ row_of f after))) (sym (length-map (all_bits before) (at_bit f)))
    ∙ put-seam (row_of f before) (part_of f v) (row_of f after) ys l
    ∙ ap (λ xs. xs ++ (ys ++ row_of f after)) (updated-elsewhere vs f e v before n o.before_differ)
    ∙ ap (λ xs. row_of (update vs f e) before ++ (ys ++ xs)) (updated-elsewhere vs f e v after n o.after_differ)
    ∙ ap (λ xs. row_of (update vs f e) before ++ (xs ++ row_of (update vs f e) after)) (sym (updated-there vs f e v n w))
    ∙ sym (row-parts (update vs f e) before after v)

length-row : (before after : List Variable) (v : Variable) → length (all_bits before) + width_of v.range ≤ length (all_bits (before ++ v ∷ after))
length-row before after v =
    let p : length (variable_bits v) ≡ width_of v.range = length-map (positions v.range) (λ p. (v, p)) ∙ length-range_with_len 0 (width_of v.range) in
    let e : length (all_bits (before ++ v ∷ after)) ≡ length (all_bits before) + (length (variable_bits v) + length (all_bits after)) =
    ap length (flat_map-append variable_bits before (v ∷ after)) ∙ length-append (all_bits before) (variable_bits v ++ all_bits after)
    ∙ ap (λ n. length (all_bits before) + n) (length-append (variable_bits v) (all_bits after)) in
    omega arith

-- where there is room for it
pub room-there : (vs child : List Variable) (e : List ℕ × Expression) (h : Fits vs child e) → room_at child e.0 (length (bits vs e.1)) ≡ Some (length (all_bits (take h.place child)))
room-there vs child e h =
    let s = split-at child e.0 h.place h.named in
    let w : length (bits vs e.1) ≡ width_of s.found.range = h.wide s in
    let f : length (all_bits (take h.place child)) ≡ length (all_bits s.before) = ap (λ us. length (all_bits us)) (front-is child e.0 h.place s) in
    let r : length (all_bits s.before) + width_of s.found.range ≤ length (all_bits child) = subst (λ us. length (all_bits s.before) + width_of s.found.range ≤ length (all_bits us)) (sym s.whole)
    (length-row s.before s.after s.found) in
    sym (room-found child e.0 h.place (length (bits vs e.1)) (length (all_bits (take h.place child))) h.named refl (omega arith))

pub bound-one : (vs child : List Variable) (f : Row) (e : List ℕ × Expression) → Pairwise (λ v w. bytes_eq v.name w.name ≡ false) child → Fits vs child e
    → bind vs child (row_of f child) e ≡ row_of (update vs f e) child
bound-one vs child f e apart h =
    let s = split-at child e.0 h.place h.named in
    ap (λ o. put_at o (map Some (bits vs e.1)) (row_of f child)) (room-there vs child e h)
    ∙ ap (λ us. put (length (all_bits us)) (map Some (bits vs e.1)) (row_of f child)) (front-is child e.0 h.place s)
    ∙ ap (λ us. put (length (all_bits s.before)) (map Some (bits vs e.1)) (row_of f us)) s.whole
    ∙ put-updated vs f e s.found s.before s.after s.named (h.wide s) (subst (Pairwise Differs) s.whole apart)
    ∙ ap (row_of (update vs f e)) (sym s.whole)

-- ---- all of them

abbrev pub updates : List Variable → Row → List (List ℕ × Expression) → Row
updates vs f es = fold (update vs) f es

pub bound-all : (vs child : List Variable) (f : Row) (es : List (List ℕ × Expression)) → Pairwise (λ v w. bytes_eq v.name w.name ≡ false) child → AllByRecursion (Fits vs child) es
    → fold (bind vs child) (row_of f child) es ≡ row_of (updates vs f es) child
bound-all vs child f [] apart h = refl
bound-all vs child f (e ∷ es) apart h = ap (λ xs. fold (bind vs child) xs es) (bound-one vs child f e apart h.0) ∙ bound-all vs child (update vs f e) es apart h.1

pub row-none : (vs : List Variable) → row_of (λ n p. None) vs ≡ replicate (length (all_bits vs)) None
row-none vs = each (all_bits vs)
  where
    each : (bs : List (Variable × ℕ)) → map (at_bit (λ n p. None)) bs ≡ replicate (length bs) None
    each [] = refl
    each (b ∷ bs) = ap (λ xs. None ∷ xs) (each bs)
