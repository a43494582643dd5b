-- The rows of a circuit's legs and paths, and how many stand before each element.
use Rattle.std.specs.Prelude.{◌≡◌, ◌⊎◌, ℕ, zero, suc, ◌+◌, ◌-◌, ◌<◌, ◌≤◌, List, [], ◌∷◌, ◌++◌, length, map, take, drop, slice_index_or, None, refl}
use Rattle.std.specs.List.{flat_map, range_with_len}
use Rattle.std.proofs.Common.{sym, ◌∙◌, ap, subst, arith, inl, inr, append_assoc}
use Rattle.std.proofs.lemmas.List.{length-append, length-map, take_all, take_more, length-take-le, append-nil, get_or_append_left, get_or-append_right, get_or_default, get_or-map}
use Rattle.std.proofs.lemmas.List.Concat.{get_or-flat_map}
use Rattle.std.proofs.lemmas.List.FromFn.{map-range_with_len_more, length-map-range_with_len, get_or-map-range_with_len}
use Rattle.sg_delay.specs.declared.limits.PulseStyle.{PulseStyle}
use Rattle.sg_circuit.specs.Paths as specify
use Rattle.sg_circuit.specs.Timings.{Timing}
use Rattle.sg_circuit.specs.Circuit.{Circuit, Element, Kind, Pass, Leg, Path, element_at}
use Rattle.sg_circuit.specs.Pins.{starts_from}
use Rattle.sg_circuit.proofs.PinLaws.{length-starts, starts-more}
use Rattle.annotation_model.specs.Finding.{no_spot}
use Rattle.annotation_model.specs.Spots.{Spot, leg_spot, path_spot, spots, spots_in, spots_of}
use Rattle.annotation_spots.specs.Counts.{rows_of, rows_from}
use Rattle.annotation_spots.specs.Rows.{spots_before, spot_of, AreFirsts, AreRows, IsIn}
use Rattle.annotation_spots.specs.declared.spots.Spot as code_spot

-- how many lead to the outputs of elements
abbrev pub spot_counts : List Element → List ℕ
spot_counts es = map (λ e. length (spots_of e)) es

abbrev blank : Element
blank = record { scope = 0; inputs = []; output = 0; kind = Pass None }

pub length-rows : (k : ℕ) (es : List Element) → length (rows_from k (spot_counts es)) ≡ length (flat_map spots_of es)
length-rows k [] = refl
length-rows k (e ∷ es) =
    length-append (rows_of k (length (spots_of e))) (rows_from (suc k) (spot_counts es))
    ∙ (ap (λ n. n + length (rows_from (suc k) (spot_counts es))) (length-map-range_with_len (λ p. record { element = k; path = p }) 0 (length (spots_of e)))
    ∙ (ap (λ n. length (spots_of e) + n) (length-rows (suc k) es) ∙ sym (length-append (spots_of e) (flat_map spots_of es))))

-- one row more, and the rows of one element more
pub rows-more : (e p : ℕ) (start before after : List code_spot.Spot) → before ≡ start ++ rows_of e p → after ≡ before ++ record { element = e; path = p } ∷ [] → after ≡ start ++ rows_of e (p + 1)
rows-more e p start before after h new =
    let F : ℕ → code_spot.Spot = (λ q. record { element = e; path = q }) in
    new ∙ (ap (λ rs. rs ++ F p ∷ []) h ∙ (append_assoc start (map F (range_with_len 0 p)) (F p ∷ []) ∙ ap (λ rs. start ++ rs) (sym (map-range_with_len_more F 0 p p (omega arith)))))

rows-append : (k : ℕ) (ns : List ℕ) (n : ℕ) → rows_from k (ns ++ n ∷ []) ≡ rows_from k ns ++ rows_of (k + length ns) n
rows-append k [] n = ap (λ e. rows_of e n ++ []) (let e : k ≡ k + 0 = omega arith in e) ∙ append-nil (rows_of (k + 0) n)
rows-append k (m ∷ ns) n =
    ap (λ rs. rows_of k m ++ rs) (rows-append (suc k) ns n ∙ ap (λ e. rows_from (suc k) ns ++ rows_of e n) (let e : suc k + length ns ≡ k + suc (length ns) = omega arith in e))
    ∙ sym (append_assoc (rows_of k m) (rows_from (suc k) ns) (rows_of (k + suc (length ns)) n))

length-rows_of : (e n : ℕ) → length (rows_of e n) ≡ n
length-rows_of e n = length-map-range_with_len (λ p. record { element = e; path = p }) 0 n

-- the rows of the first elements, and what is left completes the numbers before each
pub record AreNumbered (counts : List ℕ) (i : ℕ) (rows : List code_spot.Spot) (first : ℕ) (firsts : List ℕ) : Type 0 where
  pub rows_so_far : rows ≡ rows_from 0 (take i counts)
  pub many : length rows ≡ first
  pub rest : starts_from 0 counts ≡ firsts ++ starts_from first (drop i counts)

pub numbered-more : (counts : List ℕ) (i count : ℕ) (rows rows' : List code_spot.Spot) (first first' : ℕ) (firsts firsts' : List ℕ) → i < length counts → AreNumbered counts i rows first firsts → count ≡ slice_index_or counts i 0
    → rows' ≡ rows ++ rows_of i count → first' ≡ first + count → firsts' ≡ firsts ++ first ∷ [] → AreNumbered counts (i + 1) rows' first' firsts'
numbered-more counts i count rows rows' first first' firsts firsts' l h c r f s =
    let n : length (take i counts) ≡ i = length-take-le i counts (omega arith) in
    let joined : length (rows ++ rows_of i count) ≡ length rows + length (rows_of i count) = length-append rows (rows_of i count) in
    let one : length (rows_of i count) ≡ count = length-rows_of i count in
    let before : length rows ≡ first = h.many in
    let all : length rows' ≡ length (rows ++ rows_of i count) = ap length r in
    record {
      rows_so_far = r ∙ (ap (λ rs. rs ++ rows_of i count) h.rows_so_far
          ∙ (ap (λ m. rows_from 0 (take i counts) ++ rows_of i m) c
          ∙ (ap (λ e. rows_from 0 (take i counts) ++ rows_of e (slice_index_or counts i 0)) (let e : i ≡ 0 + length (take i counts) = omega arith in e)
          ∙ (sym (rows-append 0 (take i counts) (slice_index_or counts i 0)) ∙ ap (rows_from 0) (sym (take_more counts i 0 l))))));
      many = omega arith;
      rest = subst (λ fs. starts_from 0 counts ≡ fs ++ starts_from first' (drop (i + 1) counts)) (sym s)
          (subst (λ m. starts_from 0 counts ≡ (firsts ++ first ∷ []) ++ starts_from m (drop (i + 1) counts)) (let e : first + slice_index_or counts i 0 ≡ first' = omega arith in e) (starts-more counts i first firsts l h.rest));
    }

pub numbered-start : (counts : List ℕ) → AreNumbered counts 0 [] 0 []
numbered-start counts = record { rows_so_far = refl; many = refl; rest = refl }

-- a row is that of the j-th of the elements, which are numbered from k
pub record IsRowAt (k : ℕ) (es : List Element) (j : ℕ) (row : code_spot.Spot) : Type 0 where
  pub before : ℕ
  pub element : row.element ≡ k + before
  pub within : before < length es
  pub path : row.path < length (spots_of (slice_index_or es before blank))
  pub number : spots_before es before + row.path ≡ j

sides : (a b : ℕ) → (a < b) ⊎ (b ≤ a)
sides a b = grind arith

pub row-at : (k : ℕ) (es : List Element) (j : ℕ) (d : code_spot.Spot) → j < length (rows_from k (spot_counts es)) → IsRowAt k es j (slice_index_or (rows_from k (spot_counts es)) j d)
row-at k [] j d l = absurd (omega arith)
row-at k (e ∷ es) j d l =
    let own = rows_of k (length (spots_of e)) in
    let others = rows_from (suc k) (spot_counts es) in
    let n : length own ≡ length (spots_of e) = length-map-range_with_len (λ p. record { element = k; path = p }) 0 (length (spots_of e)) in
    let all : length (own ++ others) ≡ length own + length others = length-append own others in
    elim (sides j (length (spots_of e))) [
      | inl first ↦ subst (λ r. IsRowAt k (e ∷ es) j r)
          (sym (get_or_append_left own others d j (omega arith) ∙ get_or-map-range_with_len (λ p. record { element = k; path = p }) 0 (length (spots_of e)) j j d first (omega arith)))
          (record { before = 0; element = omega arith; within = omega arith; path = first; number = omega arith })
      | inr later ↦ (let h = row-at (suc k) es (j - length (spots_of e)) d (omega arith) in
          let e1 = h.element in
          let e2 = h.within in
          let e3 = h.number in
          let joined : length (spots_of e ++ flat_map spots_of (take h.before es)) ≡ length (spots_of e) + length (flat_map spots_of (take h.before es)) = length-append (spots_of e) (flat_map spots_of (take h.before es)) in
          subst (λ r. IsRowAt k (e ∷ es) j r) (sym (get_or-append_right own others (length (spots_of e)) j d n later))
          (record { before = suc h.before; element = omega arith; within = omega arith; path = h.path; number = omega arith }))
    ]

pub are_rows : (c : Circuit) (rows : List code_spot.Spot) → rows ≡ rows_from 0 (spot_counts c.elements) → AreRows c rows
are_rows c rows e = subst (λ rs. AreRows c rs) (sym e) (record {
  count = length-rows 0 c.elements;
  within = λ k d l. is_in (slice_index_or (rows_from 0 (spot_counts c.elements)) k d) k (row-at 0 c.elements k d l);
  number = λ k d l. numbered (slice_index_or (rows_from 0 (spot_counts c.elements)) k d) k (row-at 0 c.elements k d l);
})
  where
    same : (row : code_spot.Spot) (k : ℕ) → (h : IsRowAt 0 c.elements k row) → h.before ≡ row.element
    same row k h = let e = h.element in omega arith

    is_in : (row : code_spot.Spot) (k : ℕ) → IsRowAt 0 c.elements k row → IsIn c row
    is_in row k h = record {
      element = subst (λ n. n < length c.elements) (same row k h) h.within;
      path = subst (λ n. row.path < length (spots_of (slice_index_or c.elements n blank))) (same row k h) h.path;
    }

    numbered : (row : code_spot.Spot) (k : ℕ) → IsRowAt 0 c.elements k row → spots_before c.elements row.element + row.path ≡ k
    numbered row k h = subst (λ n. spots_before c.elements n + row.path ≡ k) (same row k h) h.number

-- how many stand before each
starts-at : (sum : ℕ) (es : List Element) (e d : ℕ) → e ≤ length es → slice_index_or (starts_from sum (spot_counts es)) e d ≡ sum + spots_before es e
starts-at sum [] zero d l = omega arith
starts-at sum [] (suc e) d l = absurd (omega arith)
starts-at sum (x ∷ xs) zero d l = omega arith
starts-at sum (x ∷ xs) (suc e) d l =
    let joined : length (spots_of x ++ flat_map spots_of (take e xs)) ≡ length (spots_of x) + length (flat_map spots_of (take e xs)) = length-append (spots_of x) (flat_map spots_of (take e xs)) in
    let h = starts-at (sum + length (spots_of x)) xs e d (omega arith) in
    omega arith

pub are_firsts : (c : Circuit) (firsts : List ℕ) → firsts ≡ starts_from 0 (spot_counts c.elements) → AreFirsts c firsts
are_firsts c firsts e = subst (λ fs. AreFirsts c fs) (sym e) (record {
  count = length-starts 0 (spot_counts c.elements) ∙ ap (λ n. n + 1) (length-map c.elements (λ e. length (spots_of e)));
  each = λ e d l. (let h = starts-at 0 c.elements e d l in omega arith);
})

-- ---- for those who look up a row

-- what stands at the number of a row
pub spot-of_place : (c : Circuit) (row : code_spot.Spot) (d : Spot) → IsIn c row → slice_index_or (spots c) (spots_before c.elements row.element + row.path) d ≡ spot_of c row
spot-of_place c row d h =
    get_or-flat_map spots_of c.elements row.element row.path blank d h.element h.path ∙ get_or_default (spots_of (element_at c row.element)) row.path d no_spot h.path

pub spot-of_row : (c : Circuit) (rows : List code_spot.Spot) (k : ℕ) (e : code_spot.Spot) (d : Spot) → AreRows c rows → k < length rows → slice_index_or (spots c) k d ≡ spot_of c (slice_index_or rows k e)
spot-of_row c rows k e d h l =
    ap (λ n. slice_index_or (spots c) n d) (sym (h.number k e l)) ∙ spot-of_place c (slice_index_or rows k e) d (h.within k e l)

-- that of a leg, and of a path
pub row-of_leg : (c : Circuit) (row : code_spot.Spot) (timings : List Timing) → IsIn c row → (element_at c row.element).kind ≡ Leg timings
    → (row.path ≡ 0) × (spot_of c row ≡ leg_spot (element_at c row.element).scope (element_at c row.element).inputs (element_at c row.element).output timings)
row-of_leg c row timings h e = by (element_at c row.element).scope (element_at c row.element).inputs (element_at c row.element).output (element_at c row.element).kind row.path e h.path
  where
    one : (s : ℕ) (is : List ℕ) (o p : ℕ) → p < 1 → (p ≡ 0) × (slice_index_or (leg_spot s is o timings ∷ []) p no_spot ≡ leg_spot s is o timings)
    one s is o zero l = (refl, refl)
    one s is o (suc p) l = absurd (omega arith)

    by : (s : ℕ) (is : List ℕ) (o : ℕ) (k : Kind) (p : ℕ) → k ≡ Leg timings → p < length (spots_in s is o k) → (p ≡ 0) × (slice_index_or (spots_in s is o k) p no_spot ≡ leg_spot s is o timings)
    by s is o k p e = subst (λ k. p < length (spots_in s is o k) → (p ≡ 0) × (slice_index_or (spots_in s is o k) p no_spot ≡ leg_spot s is o timings)) (sym e) (one s is o p)

pub row-of_path : (c : Circuit) (row : code_spot.Spot) (paths : List specify.Path) (style : PulseStyle) (d : specify.Path) → IsIn c row → (element_at c row.element).kind ≡ Path paths style
    → (row.path < length paths) × (spot_of c row ≡ path_spot (element_at c row.element).scope (element_at c row.element).output (slice_index_or paths row.path d))
row-of_path c row paths style d h e = by (element_at c row.element).scope (element_at c row.element).inputs (element_at c row.element).output (element_at c row.element).kind row.path e h.path
  where
    among : (s : ℕ) (o p : ℕ) → p < length (map (path_spot s o) paths) → (p < length paths) × (slice_index_or (map (path_spot s o) paths) p no_spot ≡ path_spot s o (slice_index_or paths p d))
    among s o p l = let m : p < length paths = subst (λ n. p < n) (length-map paths (path_spot s o)) l in (m, get_or-map (path_spot s o) paths p d no_spot m)

    by : (s : ℕ) (is : List ℕ) (o : ℕ) (k : Kind) (p : ℕ) → k ≡ Path paths style → p < length (spots_in s is o k) → (p < length paths) × (slice_index_or (spots_in s is o k) p no_spot ≡ path_spot s o (slice_index_or paths p d))
    by s is o k p e = subst (λ k. p < length (spots_in s is o k) → (p < length paths) × (slice_index_or (spots_in s is o k) p no_spot ≡ path_spot s o (slice_index_or paths p d))) (sym e) (among s o p)

-- how many stand before the next element
pub before-next : (es : List Element) (e : ℕ) → e < length es → spots_before es (e + 1) ≡ spots_before es e + length (spots_of (slice_index_or es e blank))
before-next [] e l = absurd (omega arith)
before-next (x ∷ xs) zero l = length-append (spots_of x) [] ∙ omega arith
before-next (x ∷ xs) (suc e) l =
    let one : spots_before (x ∷ xs) (suc e + 1) ≡ length (spots_of x) + length (flat_map spots_of (take (e + 1) xs)) = ap (spots_before (x ∷ xs)) (let e1 : suc e + 1 ≡ suc (e + 1) = omega arith in e1) ∙ length-append (spots_of x) (flat_map spots_of (take (e + 1) xs)) in
    let two : spots_before (x ∷ xs) (suc e) ≡ length (spots_of x) + length (flat_map spots_of (take e xs)) = length-append (spots_of x) (flat_map spots_of (take e xs)) in
    let h = before-next xs e (omega arith) in
    let here : length (spots_of (slice_index_or (x ∷ xs) (suc e) blank)) ≡ length (spots_of (slice_index_or xs e blank)) = refl in
    omega arith

pub before-all : (es : List Element) (e : ℕ) → length es ≤ e → spots_before es e ≡ length (flat_map spots_of es)
before-all es e l = ap (λ xs. length (flat_map spots_of xs)) (take_all e es l)
