-- Marks in the bits of words, and their numbers in order.
use Rattle.std.proofs.Common.{◌≡◌, ◌≢◌, ◌∙◌, sym, ap, refl, subst, ℕ, zero, suc, ◌+◌, ◌-◌, ◌*◌, ◌/◌, ◌%◌, ◌^◌, ◌<◌, ◌≤◌, ◌⊎◌, List, [], ◌∷◌, ◌++◌, length, get_or, arith, add-zero, zero-add, inl, inr, w64}
use Rattle.std.specs.Prelude.{◌==◌, Bool, true, false, if◌then◌else◌, All, bit_and, bit_or, replicate, slice_set}
use Rattle.std.specs.Int.{bit_at, bit_not}
use Rattle.std.proofs.lemmas.Bool.{cases_eq, cases_lt}
use Rattle.std.proofs.lemmas.List.{ext_get_or, get_or_past, get_or_read, get_or-set_other, get_or-set_same, length-set, replicate-append-replicate, set-append_left, set-append_right}
use Rattle.std.proofs.lemmas.List.Elements.{All-cons, All-nil}
use Rattle.std.proofs.lemmas.Nat.{and_le_l}
use Rattle.std.proofs.lemmas.Nat.Bits.{bit_at_lowest, bit_at-suc, bit_at-zero, bit_at_set_same, bit_at_set_other, bit_at_clear_same, bit_at_clear_other}
use Rattle.wave_out.specs.declared.marks.Marks.{Marks}
use Rattle.wave_out.specs.Marks.{bools, seen, trues, word_bit, AreMarks, IsDone, IsSized}

-- the bits of a word
pub length_bools : (n w : ℕ) → length (bools n w) ≡ n
unfolding bools
length_bools zero w = refl
length_bools (suc n) w = ap suc (length_bools n (w / 2))

pub bools_at : (n w i : ℕ) (d : Bool) → i < n → get_or (bools n w) i d ≡ (bit_at w i == 1)
unfolding bools
bools_at zero w i d l = absurd (omega arith)
bools_at (suc n) w zero d l = ap (λ b. b == 1) (sym (bit_at_lowest w))
bools_at (suc n) w (suc i) d l = bools_at n (w / 2) i d (omega arith) ∙ ap (λ b. b == 1) (sym (bit_at-suc w i))

bools_zero : (n : ℕ) → bools n 0 ≡ replicate n false
unfolding bools
bools_zero zero = refl
bools_zero (suc n) = ap (λ bs. false ∷ bs) (bools_zero n)

-- one bit is set, or cleared
bools_set : (w k : ℕ) → k < 64 → bools 64 (bit_or w (1 * 2 ^ k % 2 ^ 64)) ≡ slice_set (bools 64 w) k true
bools_set w k l = same 64 refl
  where
    same : (n : ℕ) → n ≡ 64 → bools n (bit_or w (1 * 2 ^ k % 2 ^ 64)) ≡ slice_set (bools n w) k true
    same n e =
        ext_get_or false (bools n (bit_or w (1 * 2 ^ k % 2 ^ 64))) (slice_set (bools n w) k true) (length_bools n _ ∙ sym (length-set (bools n w) k true ∙ length_bools n w))
        (λ i m. (let m' : i < n = subst (λ x. i < x) (length_bools n (bit_or w (1 * 2 ^ k % 2 ^ 64))) m in
        bools_at n (bit_or w (1 * 2 ^ k % 2 ^ 64)) i false m' ∙ elim (cases_eq i k) [
          | inl is ↦ (let there : k < length (bools n w) = omega (arith, length_bools n w) in
              ap (λ j. bit_at (bit_or w (1 * 2 ^ k % 2 ^ 64)) j == 1) is ∙ (ap (λ b. b == 1) (bit_at_set_same w64 w k l) ∙ sym (ap (λ j. get_or (slice_set (bools n w) k true) j false) is ∙ get_or-set_same (bools n w) k true false there)))
          | inr other ↦ ap (λ b. b == 1) (bit_at_set_other w64 w k l i other) ∙ sym (get_or-set_other (bools n w) k i true false other ∙ bools_at n w i false m')
        ]))

bools_cleared : (w k : ℕ) → k < 64 → bools 64 (bit_and w (bit_not w64 (1 * 2 ^ k % 2 ^ 64))) ≡ slice_set (bools 64 w) k false
bools_cleared w k l = same 64 refl
  where
    same : (n : ℕ) → n ≡ 64 → bools n (bit_and w (bit_not w64 (1 * 2 ^ k % 2 ^ 64))) ≡ slice_set (bools n w) k false
    same n e =
        ext_get_or false (bools n (bit_and w (bit_not w64 (1 * 2 ^ k % 2 ^ 64)))) (slice_set (bools n w) k false) (length_bools n _ ∙ sym (length-set (bools n w) k false ∙ length_bools n w))
        (λ i m. (let m' : i < n = subst (λ x. i < x) (length_bools n (bit_and w (bit_not w64 (1 * 2 ^ k % 2 ^ 64)))) m in
        let small : i < 64 = omega arith in
        bools_at n (bit_and w (bit_not w64 (1 * 2 ^ k % 2 ^ 64))) i false m' ∙ elim (cases_eq i k) [
          | inl is ↦ (let there : k < length (bools n w) = omega (arith, length_bools n w) in
              ap (λ j. bit_at (bit_and w (bit_not w64 (1 * 2 ^ k % 2 ^ 64))) j == 1) is ∙ (ap (λ b. b == 1) (bit_at_clear_same w64 w k l) ∙ sym (ap (λ j. get_or (slice_set (bools n w) k false) j false) is ∙ get_or-set_same (bools n w) k false false there)))
          | inr other ↦ ap (λ b. b == 1) (bit_at_clear_other w64 w k l i small other) ∙ sym (get_or-set_other (bools n w) k i false false other ∙ bools_at n w i false m')
        ]))

-- the lowest bit that is set is the first number
first_true : (k t : ℕ) (ms : List Bool) → t < length ms → get_or ms t false ≡ true → ((i : ℕ) → i < t → get_or ms i false ≡ false) → trues k ms ≡ (k + t) ∷ trues k (slice_set ms t false)
first_true k t [] l h none = absurd (omega arith)
first_true k zero (m ∷ ms) l h none = ap (λ b. if b then (k ∷ trues (suc k) ms) else trues (suc k) ms) h ∙ ap (λ j. j ∷ trues (suc k) ms) (sym (add-zero k))
first_true k (suc t) (m ∷ ms) l h none =
    let no : m ≡ false = none 0 (omega arith) in
    let moved : suc k + t ≡ k + suc t = omega arith in
    ap (λ b. if b then (k ∷ trues (suc k) ms) else trues (suc k) ms) no
    ∙ (first_true (suc k) t ms (omega arith) h (λ i n. none (suc i) (omega arith))
    ∙ (ap (λ j. j ∷ trues (suc k) (slice_set ms t false)) moved
    ∙ ap (λ b. (k + suc t) ∷ (if b then (k ∷ trues (suc k) (slice_set ms t false)) else trues (suc k) (slice_set ms t false))) (sym no)))

pub first_bit : (w t k : ℕ) → t < 64 → bit_at w t ≡ 1 → ((i : ℕ) → i < t → bit_at w i ≡ 0) → trues k (bools 64 w) ≡ (k + t) ∷ trues k (bools 64 (bit_and w (bit_not w64 (1 * 2 ^ t % 2 ^ 64))))
first_bit w t k l h none =
    first_true k t (bools 64 w) (omega (arith, length_bools 64 w)) (bools_at 64 w t false l ∙ ap (λ b. b == 1) h) (λ i n. bools_at 64 w i false (omega arith) ∙ ap (λ b. b == 1) (none i n))
    ∙ ap (λ ms. (k + t) ∷ trues k ms) (sym (bools_cleared w t l))

-- a word without one of its bits is less
pub cleared_less : (w k : ℕ) → k < 64 → bit_at w k ≡ 1 → bit_and w (bit_not w64 (1 * 2 ^ k % 2 ^ 64)) < w
cleared_less w k within set =
    let left : ℕ = bit_and w (bit_not w64 (1 * 2 ^ k % 2 ^ 64)) in
    let gone : bit_at left k ≡ 0 = bit_at_clear_same w64 w k within in
    elim (cases_eq left w) [
      | inl same ↦ absurd (let both : bit_at left k ≡ bit_at w k = ap (λ x. bit_at x k) same in omega arith)
      | inr other ↦ omega (arith, and_le_l w (bit_not w64 (1 * 2 ^ k % 2 ^ 64)))
    ]

-- the marks of words
seen_at : (ws : List ℕ) (i j d : ℕ) → j < 64 → i < length ws → seen (slice_set ws i (bit_or (get_or ws i d) (1 * 2 ^ j % 2 ^ 64))) ≡ slice_set (seen ws) (i * 64 + j) true
seen_at [] i j d l m = absurd (omega arith)
seen_at (w ∷ ws) zero j d l m =
    ap (λ bs. bs ++ seen ws) (bools_set w j l) ∙ sym (set-append_left (bools 64 w) (seen ws) j true (omega (arith, length_bools 64 w)))
    ∙ ap (λ n. slice_set (bools 64 w ++ seen ws) n true) (let e : j ≡ 0 * 64 + j = omega arith in e)
seen_at (w ∷ ws) (suc i) j d l m =
    let e : suc i * 64 + j - 64 ≡ i * 64 + j = omega arith in
    ap (λ bs. bools 64 w ++ bs) (seen_at ws i j d l (omega arith) ∙ ap (λ n. slice_set (seen ws) n true) (sym e))
    ∙ sym (set-append_right (bools 64 w) (seen ws) 64 (suc i * 64 + j) true (length_bools 64 w) (omega arith))

pub seen_set : (ws : List ℕ) (k old : ℕ) → k < 64 * length ws → old ≡ get_or ws (k / 64) old → seen (slice_set ws (k / 64) (bit_or old (1 * 2 ^ (k % 64) % 2 ^ 64))) ≡ slice_set (seen ws) k true
seen_set ws k old l e =
    ap (λ o. seen (slice_set ws (k / 64) (bit_or o (1 * 2 ^ (k % 64) % 2 ^ 64)))) e
    ∙ (seen_at ws (k / 64) (k % 64) old (omega arith) (omega arith) ∙ ap (λ n. slice_set (seen ws) n true) (let f : k / 64 * 64 + k % 64 ≡ k = omega arith in f))

pub seen_none : (ws : List ℕ) → ((j : ℕ) → get_or ws j 0 ≡ 0) → seen ws ≡ replicate (64 * length ws) false
seen_none [] h = refl
seen_none (w ∷ ws) h =
    ap (λ v. bools 64 v ++ seen ws) (h 0) ∙ (ap (λ bs. bs ++ seen ws) (bools_zero 64)
    ∙ (ap (λ bs. replicate 64 false ++ bs) (seen_none ws (λ j. h (suc j)))
    ∙ (replicate-append-replicate 64 (64 * length ws) false ∙ ap (λ n. replicate n false) (let e : 64 + 64 * length ws ≡ 64 * suc (length ws) = omega arith in e))))

-- numbers of marks, one list behind another
trues_append : (k : ℕ) (xs ys : List Bool) → trues k (xs ++ ys) ≡ trues k xs ++ trues (k + length xs) ys
trues_append k [] ys = ap (λ n. trues n ys) (sym (add-zero k))
trues_append k (x ∷ xs) ys =
    let more : trues (suc k) (xs ++ ys) ≡ trues (suc k) xs ++ trues (k + suc (length xs)) ys = trues_append (suc k) xs ys ∙ ap (λ n. trues (suc k) xs ++ trues n ys) (let e : suc k + length xs ≡ k + suc (length xs) = omega arith in e) in
    elim x as (λ b. (if b then (k ∷ trues (suc k) (xs ++ ys)) else trues (suc k) (xs ++ ys)) ≡ (if b then (k ∷ trues (suc k) xs) else trues (suc k) xs) ++ trues (k + suc (length xs)) ys) [
      | true ↦ ap (λ zs. k ∷ zs) more
      | false ↦ more
    ]

no_trues : (k n : ℕ) → trues k (replicate n false) ≡ []
no_trues k zero = refl
no_trues k (suc n) = no_trues (suc k) n

pub no_marks : (k : ℕ) → trues k (bools 64 0) ≡ []
no_marks k = ap (trues k) (bools_zero 64) ∙ no_trues k 64

pub trues_none : (k : ℕ) (ws : List ℕ) → ((j : ℕ) → get_or ws j 0 ≡ 0) → trues k (seen ws) ≡ []
trues_none k ws h = ap (trues k) (seen_none ws h) ∙ no_trues k (64 * length ws)

trues_cons : (k w : ℕ) (ws : List ℕ) → trues k (seen (w ∷ ws)) ≡ trues k (bools 64 w) ++ trues (k + 64) (seen ws)
trues_cons k w ws = trues_append k (bools 64 w) (seen ws) ∙ ap (λ n. trues k (bools 64 w) ++ trues (k + n) (seen ws)) (length_bools 64 w)

trues_zero : (k : ℕ) (ws : List ℕ) → trues k (seen (0 ∷ ws)) ≡ trues (k + 64) (seen ws)
trues_zero k ws = trues_cons k 0 ws ∙ ap (λ xs. xs ++ trues (k + 64) (seen ws)) (no_marks k)

-- the first word that isn't 0 is taken
pub first_word : (k : ℕ) (ws : List ℕ) (i x : ℕ) → i < length ws → x ≡ get_or ws i x → ((j : ℕ) → j < i → get_or ws j 0 ≡ 0) → trues k (seen ws) ≡ trues (k + i * 64) (bools 64 x) ++ trues k (seen (slice_set ws i 0))
first_word k [] i x l e h = absurd (omega arith)
first_word k (w ∷ ws) zero x l e h =
    trues_cons k w ws ∙ (ap (λ xs. trues k (bools 64 w) ++ xs) (sym (trues_zero k ws))
    ∙ (ap (λ n. trues n (bools 64 w) ++ trues k (seen (0 ∷ ws))) (let f : k ≡ k + 0 * 64 = omega arith in f) ∙ ap (λ v. trues (k + 0 * 64) (bools 64 v) ++ trues k (seen (0 ∷ ws))) (sym e)))
first_word k (w ∷ ws) (suc i) x l e h =
    let none : w ≡ 0 = h 0 (omega arith) in
    let moved : k + 64 + i * 64 ≡ k + suc i * 64 = omega arith in
    ap (λ v. trues k (seen (v ∷ ws))) none ∙ (trues_zero k ws
    ∙ (first_word (k + 64) ws i x (omega arith) e (λ j m. h (suc j) (omega arith))
    ∙ (ap (λ n. trues n (bools 64 x) ++ trues (k + 64) (seen (slice_set ws i 0))) moved
    ∙ ap (λ xs. trues (k + suc i * 64) (bools 64 x) ++ xs) (sym (ap (λ v. trues k (seen (v ∷ slice_set ws i 0))) none ∙ trues_zero k (slice_set ws i 0))))))

-- the bit of a word in the groups, and after one group has changed
bit_in_group : (groups : List ℕ) (g b left : ℕ) → b < 64 → g < length groups → left ≡ get_or groups g left → word_bit groups (g * 64 + b) ≡ bit_at left b
bit_in_group groups g b left l m e =
    ap (λ n. bit_at (get_or groups n 0) ((g * 64 + b) % 64)) (let f : (g * 64 + b) / 64 ≡ g = omega arith in f)
    ∙ (ap (λ n. bit_at (get_or groups g 0) n) (let f : (g * 64 + b) % 64 ≡ b = omega arith in f) ∙ ap (λ x. bit_at x b) (sym (get_or_read groups g left m e 0)))

bit_same : (groups : List ℕ) (g b v : ℕ) → b < 64 → g < length groups → word_bit (slice_set groups g v) (g * 64 + b) ≡ bit_at v b
bit_same groups g b v l m =
    bit_in_group (slice_set groups g v) g b v l (subst (λ n. g < n) (sym (length-set groups g v)) m) (sym (get_or-set_same groups g v v m))

bit_other : (groups : List ℕ) (g b v old j : ℕ) → b < 64 → g < length groups → old ≡ get_or groups g old → ((i : ℕ) → i < 64 → i ≢ b → bit_at v i ≡ bit_at old i) → j ≢ g * 64 + b → word_bit (slice_set groups g v) j ≡ word_bit groups j
bit_other groups g b v old j l m e others apart = elim (cases_eq (j / 64) g) [
  | inl same ↦ (let small : j % 64 < 64 = omega arith in
      let place : g * 64 + j % 64 ≡ j = omega arith in
      let differs : j % 64 ≢ b = (λ q. apart (let f : j ≡ g * 64 + b = omega arith in f)) in
      ap (word_bit (slice_set groups g v)) (sym place) ∙ (bit_same groups g (j % 64) v small m
      ∙ (others (j % 64) small differs ∙ (sym (bit_in_group groups g (j % 64) old small m e) ∙ ap (word_bit groups) place))))
  | inr other ↦ ap (λ x. bit_at x (j % 64)) (get_or-set_other groups g (j / 64) v 0 other)
]

sized_kept : (m m' : Marks) (i j v w : ℕ) → m'.words.items ≡ slice_set m.words.items i v → m'.groups.items ≡ slice_set m.groups.items j w → IsSized m → IsSized m'
sized_kept m m' i j v w e f h =
    let a : length m'.words.items ≡ length m.words.items = ap length e ∙ length-set m.words.items i v in
    let b : length m'.groups.items ≡ length m.groups.items = ap length f ∙ length-set m.groups.items j w in
    record { groups = omega (arith, h.groups); few = omega (arith, h.few); most = subst (λ n. n ≤ 2 ^ 26) (sym a) h.most }

-- a mark is set
pub marked : (m m' : Marks) (k word old : ℕ) → k < 64 * length m.words.items → old ≡ get_or m.groups.items (k / 64 / 64) old → m'.words.items ≡ slice_set m.words.items (k / 64) word
    → m'.groups.items ≡ slice_set m.groups.items (k / 64 / 64) (bit_or old (1 * 2 ^ (k / 64 % 64) % 2 ^ 64)) → AreMarks m → AreMarks m'
marked m m' k word old l is e f h = record { sized = sized_kept m m' w g word v e f h.sized; cover = λ j n. covered j (cases_eq j w) n; inside = λ j n. within j (cases_eq j w) n }
  where
    w : ℕ
    w = k / 64

    g : ℕ
    g = k / 64 / 64

    b : ℕ
    b = k / 64 % 64

    v : ℕ
    v = bit_or old (1 * 2 ^ (k / 64 % 64) % 2 ^ 64)

    here : k / 64 < length m.words.items
    here = omega arith

    there : k / 64 / 64 < length m.groups.items
    there = omega (arith, h.sized.groups, here)

    small : k / 64 % 64 < 64
    small = omega arith

    place : k / 64 / 64 * 64 + k / 64 % 64 ≡ k / 64
    place = omega arith

    set : word_bit m'.groups.items w ≡ 1
    set = ap (λ gs. word_bit gs w) f ∙ (ap (word_bit (slice_set m.groups.items g v)) (sym place) ∙ (bit_same m.groups.items g b v small there ∙ bit_at_set_same w64 old b small))

    kept : (j : ℕ) → j ≢ w → word_bit m'.groups.items j ≡ word_bit m.groups.items j
    kept j apart =
        ap (λ gs. word_bit gs j) f ∙ bit_other m.groups.items g b v old j small there is (λ i n differs. bit_at_set_other w64 old b small i differs) (λ q. apart (q ∙ place))

    covered : (j : ℕ) → (j ≡ w) ⊎ (j ≢ w) → word_bit m'.groups.items j ≡ 0 → get_or m'.words.items j 0 ≡ 0
    covered j (inl same) n = absurd (let one : word_bit m'.groups.items j ≡ 1 = ap (word_bit m'.groups.items) same ∙ set in omega arith)
    covered j (inr apart) n = ap (λ ws. get_or ws j 0) e ∙ (get_or-set_other m.words.items w j word 0 apart ∙ h.cover j (sym (kept j apart) ∙ n))

    within : (j : ℕ) → (j ≡ w) ⊎ (j ≢ w) → word_bit m'.groups.items j ≡ 1 → j < length m'.words.items
    within j (inl same) n = subst (λ x. j < x) (sym (ap length e ∙ length-set m.words.items w word)) (subst (λ x. x < length m.words.items) (sym same) here)
    within j (inr apart) n = subst (λ x. j < x) (sym (ap length e ∙ length-set m.words.items w word)) (h.inside j (sym (kept j apart) ∙ n))

-- where the first word of a group stands whose bit is set
pub word_within : (m : Marks) (g b left : ℕ) → b < 64 → g < length m.groups.items → left ≡ get_or m.groups.items g left → bit_at left b ≡ 1 → AreMarks m → g * 64 + b < length m.words.items
word_within m g b left l n e set h = h.inside (g * 64 + b) (bit_in_group m.groups.items g b left l n e ∙ set)

-- it is taken
pub word_taken : (words groups after : List ℕ) (g b left word : ℕ) → b < 64 → g < length groups → left ≡ get_or groups g left → bit_at left b ≡ 1 → ((i : ℕ) → i < b → bit_at left i ≡ 0)
    → word ≡ get_or words (g * 64 + b) word → after ≡ slice_set words (g * 64 + b) 0 → ((j : ℕ) → word_bit groups j ≡ 0 → get_or words j 0 ≡ 0) → ((j : ℕ) → word_bit groups j ≡ 1 → j < length words)
    → ((j : ℕ) → j < g → get_or groups j 0 ≡ 0) → trues 0 (seen words) ≡ trues ((g * 64 + b) * 64) (bools 64 word) ++ trues 0 (seen after)
word_taken words groups after g b left word l n e set lowest is f cover inside done =
    first_word 0 words (g * 64 + b) word (inside (g * 64 + b) (bit_in_group groups g b left l n e ∙ set)) is before
    ∙ (ap (λ x. trues x (bools 64 word) ++ trues 0 (seen (slice_set words (g * 64 + b) 0))) (zero-add ((g * 64 + b) * 64))
    ∙ ap (λ ws. trues ((g * 64 + b) * 64) (bools 64 word) ++ trues 0 (seen ws)) (sym f))
  where
    before : (j : ℕ) → j < g * 64 + b → get_or words j 0 ≡ 0
    before j k = cover j (elim (cases_lt (j / 64) g) [
      | inl earlier ↦ ap (λ x. bit_at x (j % 64)) (done (j / 64) earlier) ∙ bit_at-zero (j % 64)
      | inr late ↦ (let same : j / 64 ≡ g = omega arith in
          let place : g * 64 + j % 64 ≡ j = omega arith in
          let low : j % 64 < b = omega arith in
          ap (word_bit groups) (sym place) ∙ (bit_in_group groups g (j % 64) left (omega arith) n e ∙ lowest (j % 64) low))
    ])

pub marks_left : (m m' : Marks) (g b left rest : ℕ) → b < 64 → g < length m.groups.items → left ≡ get_or m.groups.items g left → bit_at left b ≡ 1 → ((i : ℕ) → i < 64 → i ≢ b → bit_at rest i ≡ bit_at left i) → bit_at rest b ≡ 0
    → m'.words.items ≡ slice_set m.words.items (g * 64 + b) 0 → m'.groups.items ≡ slice_set m.groups.items g rest → AreMarks m → AreMarks m'
marks_left m m' g b left rest l n is set others gone e f h = record { sized = sized_kept m m' (g * 64 + b) g 0 rest e f h.sized; cover = λ j z. covered j (cases_eq j (g * 64 + b)) z; inside = λ j z. within j (cases_eq j (g * 64 + b)) z }
  where
    here : g * 64 + b < length m.words.items
    here = word_within m g b left l n is set h

    kept : (j : ℕ) → j ≢ g * 64 + b → word_bit m'.groups.items j ≡ word_bit m.groups.items j
    kept j apart = ap (λ gs. word_bit gs j) f ∙ bit_other m.groups.items g b rest left j l n is others apart

    none : word_bit m'.groups.items (g * 64 + b) ≡ 0
    none = ap (λ gs. word_bit gs (g * 64 + b)) f ∙ (bit_same m.groups.items g b rest l n ∙ gone)

    covered : (j : ℕ) → (j ≡ g * 64 + b) ⊎ (j ≢ g * 64 + b) → word_bit m'.groups.items j ≡ 0 → get_or m'.words.items j 0 ≡ 0
    covered j (inl same) z = ap (λ x. get_or m'.words.items x 0) same ∙ (ap (λ ws. get_or ws (g * 64 + b) 0) e ∙ get_or-set_same m.words.items (g * 64 + b) 0 0 here)
    covered j (inr apart) z = ap (λ ws. get_or ws j 0) e ∙ (get_or-set_other m.words.items (g * 64 + b) j 0 0 apart ∙ h.cover j (sym (kept j apart) ∙ z))

    within : (j : ℕ) → (j ≡ g * 64 + b) ⊎ (j ≢ g * 64 + b) → word_bit m'.groups.items j ≡ 1 → j < length m'.words.items
    within j (inl same) z = absurd (let zero' : word_bit m'.groups.items j ≡ 0 = ap (word_bit m'.groups.items) same ∙ none in omega arith)
    within j (inr apart) z = subst (λ x. j < x) (sym (ap length e ∙ length-set m.words.items (g * 64 + b) 0)) (h.inside j (sym (kept j apart) ∙ z))

-- where all groups are 0, no word has a mark
pub clear_all_words : (m : Marks) → AreMarks m → IsDone (length m.groups.items) m → (j : ℕ) → get_or m.words.items j 0 ≡ 0
clear_all_words m h done j = h.cover j (ap (λ x. bit_at x (j % 64)) (elim (cases_lt (j / 64) (length m.groups.items)) [
  | inl inside ↦ done (j / 64) inside
  | inr past ↦ get_or_past m.groups.items (j / 64) 0 past
]) ∙ bit_at-zero (j % 64))

-- marks below a number
abbrev pub AreBelow : ℕ → List Bool → Type 0
AreBelow n ms = (i : ℕ) → get_or ms i false ≡ true → i < n

pub none_below : (n m : ℕ) → AreBelow n (replicate m false)
none_below n zero i h = cc
none_below n (suc m) zero h = cc
none_below n (suc m) (suc i) h = let l = none_below 0 m i h in omega arith

pub set_below : (n k : ℕ) (ms : List Bool) → k < n → AreBelow n ms → AreBelow n (slice_set ms k true)
set_below n k ms l h i e = elim (cases_eq i k) [
  | inl same ↦ subst (λ j. j < n) (sym same) l
  | inr other ↦ h i (sym (get_or-set_other ms k i true false other) ∙ e)
]

pub trues_below : (n k : ℕ) (ms : List Bool) → ((i : ℕ) → get_or ms i false ≡ true → k + i < n) → All (λ e. e < n) (trues k ms)
trues_below n k [] h = All-nil (λ e. e < n)
trues_below n k (m ∷ ms) h =
    let rest : All (λ e. e < n) (trues (suc k) ms) = trues_below n (suc k) ms (λ i e. (let l : k + suc i < n = h (suc i) e in omega arith)) in
    (elim m as (λ b. m ≡ b → All (λ e. e < n) (if b then (k ∷ trues (suc k) ms) else trues (suc k) ms)) [
      | true ↦ λ e. All-cons (λ e. e < n) k (trues (suc k) ms) (let l : k + 0 < n = h 0 e in omega arith) rest
      | false ↦ λ e. rest
    ]) refl
