-- Places between words, and what is read up to them.
use Rattle.std.proofs.Common.{◌≡◌, ℕ, zero, suc, ◌+◌, ◌-◌, ◌<◌, ◌≤◌, List, [], ◌∷◌, length, take, drop, refl, sym, ap, ◌∙◌, arith, length-drop, nat_lt, inl, inr, ap₂}
use Rattle.std.specs.Prelude.{not, Some, None, slice_get}
use Rattle.std.specs.List.{prefix_len}
use Rattle.std.proofs.lemmas.Bool.{cases_Bool, ltb-true, ltb-false}
use Rattle.std.proofs.lemmas.List.{drop-drop, take_all}
use Rattle.std.proofs.lemmas.List.Sums.{prefix_len-le-length}
use Rattle.std.proofs.lemmas.Option.{slice_get_past}
use Rattle.vcd_form.specs.Words.{byte_of, byte_or, is_blank, words, words_from, Word}
use Rattle.vcd_form.specs.Places.{left_at, read_at, IsBetween}
use Rattle.vcd_form.proofs.WordLaws.{blanks_left, word_first, none_left, nothing_left}

-- ---- the end of a list

slice_get-drop : (ws : List Word) (n : ℕ) (w : Word) (vs : List Word) → drop n ws ≡ w ∷ vs → slice_get ws n ≡ Some w
slice_get-drop [] zero w vs h = absurd cc
slice_get-drop [] (suc n) w vs h = absurd cc
slice_get-drop (u ∷ us) zero w vs h = let e : u ≡ w = cc in ap (λ (v : Word). Some v) e
slice_get-drop (u ∷ us) (suc n) w vs h = slice_get-drop us n w vs h

drop-more : (ws : List Word) (n : ℕ) (w : Word) (vs : List Word) → drop n ws ≡ w ∷ vs → drop (suc n) ws ≡ vs
drop-more [] zero w vs h = absurd cc
drop-more [] (suc n) w vs h = absurd cc
drop-more (u ∷ us) zero w vs h = cc
drop-more (u ∷ us) (suc n) w vs h = drop-more us n w vs h

dropped : (n m : ℕ) (text : List ℕ) → drop m (drop n text) ≡ drop (n + m) text
dropped n m text = drop-drop m n text

-- ---- places

abbrev byte_at : List ℕ → ℕ → ℕ
byte_at text at = at + prefix_len is_blank (drop at text)

abbrev size_at : List ℕ → ℕ → ℕ
size_at text byte = prefix_len (λ b. not (is_blank b)) (drop byte text)

left_blanks : (text : List ℕ) (at : ℕ) → left_at text at ≡ left_at text (byte_at text at)
left_blanks text at =
    let k = prefix_len is_blank (drop at text) in
    blanks_left (drop at text) at ∙ ap (words_from (at + k)) (dropped at k text)

pub left_word : (text : List ℕ) (at byte : ℕ) → byte ≡ byte_at text at → 0 < size_at text byte → left_at text at ≡ record { byte = byte; bytes = take (size_at text byte) (drop byte text) } ∷ left_at text (byte + size_at text byte)
left_word text at byte is some =
    let m = size_at text byte in
    let step = word_first (drop byte text) byte some in
    let e : drop m (drop byte text) ≡ drop (byte + m) text = dropped byte m text in
    left_blanks text at ∙ (ap (left_at text) (sym is) ∙ (step ∙ ap (λ ds. record { byte = byte; bytes = take m (drop byte text) } ∷ words_from (byte + m) ds) e))

pub left_none : (text : List ℕ) (at byte : ℕ) → byte ≡ byte_at text at → size_at text byte ≡ 0 → left_at text at ≡ []
left_none text at byte is none =
    let k = prefix_len is_blank (drop at text) in
    let e : drop k (drop at text) ≡ drop byte text = dropped at k text ∙ ap (λ n. drop n text) (sym is) in
    let h : prefix_len (λ b. not (is_blank b)) (drop k (drop at text)) ≡ 0 = ap (prefix_len (λ b. not (is_blank b))) e ∙ none in
    blanks_left (drop at text) at ∙ none_left (drop at text) (at + k) h

-- what is left at a place within the words is no more than they are
fits : (text : List ℕ) (at : ℕ) → IsBetween text at → length (left_at text at) ≤ length (words text)
unfolding read_at
fits text at b = let e = ap length b.left in omega (arith, length-drop (read_at text at) (words text), e)

pub read_none : (text : List ℕ) (at : ℕ) → left_at text at ≡ [] → slice_get (words text) (read_at text at) ≡ None
unfolding read_at
read_none text at e = let l : length (left_at text at) ≡ 0 = ap length e in slice_get_past (words text) (read_at text at) (omega arith)

pub read_word : (text : List ℕ) (at behind : ℕ) (w : Word) → IsBetween text at → left_at text at ≡ w ∷ left_at text behind → behind ≤ length text
    → (slice_get (words text) (read_at text at) ≡ Some w) × (read_at text behind ≡ read_at text at + 1) × IsBetween text behind
unfolding read_at
read_word text at behind w b e within =
    let rest = b.left ∙ e in
    let l : length (left_at text at) ≡ suc (length (left_at text behind)) = ap length e in
    let more : read_at text behind ≡ read_at text at + 1 = omega (arith, fits text at b) in
    let next : read_at text behind ≡ suc (read_at text at) = omega (arith, fits text at b) in (
      slice_get-drop (words text) (read_at text at) w (left_at text behind) rest,
      more,
      record { within = within; left = ap (λ n. drop n (words text)) next ∙ drop-more (words text) (read_at text at) w (left_at text behind) rest },
    )

pub read_first : (text : List ℕ) → read_at text 0 ≡ 0
unfolding read_at
read_first text = omega arith

pub between_first : (text : List ℕ) → IsBetween text 0
between_first text = record { within = omega arith; left = rw (read_first text) refl }

-- ---- the next word, by the blanks and the bytes that are counted

abbrev part : List ℕ → ℕ → ℕ → List ℕ
part text from to = take (to - from) (drop from text)

abbrev word_of : ℕ → List ℕ → Word
word_of byte bytes = record { byte = byte; bytes = bytes }

whole_rest : (text : List ℕ) (at : ℕ) → part text at (length text) ≡ drop at text
whole_rest text at = take_all (length text - at) (drop at text) (omega (arith, length-drop at text))

is_size : (text : List ℕ) (at k m : ℕ) → m ≡ prefix_len (λ b. not (is_blank b)) (part text (at + k) (length text)) → m ≡ size_at text (at + k)
is_size text at k m e = e ∙ ap (prefix_len (λ b. not (is_blank b))) (whole_rest text (at + k))

is_byte : (text : List ℕ) (at k : ℕ) → k ≡ prefix_len is_blank (part text at (length text)) → at + k ≡ byte_at text at
is_byte text at k e = ap (λ n. at + n) (e ∙ ap (prefix_len is_blank) (whole_rest text at))

pub no_word : (text : List ℕ) (at k m : ℕ) → k ≡ prefix_len is_blank (part text at (length text)) → m ≡ prefix_len (λ b. not (is_blank b)) (part text (at + k) (length text))
    → (at + k) + m ≡ at + k → slice_get (words text) (read_at text at) ≡ None
no_word text at k m blanks size none = read_none text at (left_none text at (at + k) (is_byte text at k blanks) (let e = is_size text at k m size in omega (arith, e)))

pub next_word : (text : List ℕ) (at k m : ℕ) → IsBetween text at → k ≡ prefix_len is_blank (part text at (length text)) → m ≡ prefix_len (λ b. not (is_blank b)) (part text (at + k) (length text))
    → ((at + k) + m ≡ at + k → ⊥) → (at + k) + m ≤ length text
    → (slice_get (words text) (read_at text at) ≡ Some (record { byte = at + k; bytes = part text (at + k) ((at + k) + m) })) × (read_at text ((at + k) + m) ≡ read_at text at + 1) × IsBetween text ((at + k) + m)
next_word text at k m between blanks size some within =
    let is : m ≡ size_at text (at + k) = is_size text at k m size in
    let n : size_at text (at + k) ≡ ((at + k) + m) - (at + k) = omega (arith, is) in
    let behind : (at + k) + size_at text (at + k) ≡ (at + k) + m = omega (arith, is) in
    let left = left_word text at (at + k) (is_byte text at k blanks) (omega (arith, is)) in
    let w = λ (n : ℕ). word_of (at + k) (take n (drop (at + k) text)) in
    read_word text at ((at + k) + m) (w (((at + k) + m) - (at + k))) between (left ∙ ap₂ (λ (n j : ℕ). w n ∷ left_at text j) n behind) within

-- where the next word stands, or the end
pub next_byte : (text : List ℕ) (at k : ℕ) → IsBetween text at → k ≡ prefix_len is_blank (part text at (length text)) → at + k ≡ byte_of text (read_at text at)
next_byte text at k between blanks = elim (cases_Bool (nat_lt 0 (size_at text (at + k)))) [
  | inl some ↦
      let left = left_word text at (at + k) (is_byte text at k blanks) (ltb-true 0 (size_at text (at + k)) some) in
      let w = word_of (at + k) (take (size_at text (at + k)) (drop (at + k) text)) in
      let e : slice_get (words text) (read_at text at) ≡ Some w = slice_get-drop (words text) (read_at text at) w (left_at text ((at + k) + size_at text (at + k))) (between.left ∙ left) in
      sym (ap (byte_or (length text)) e)
  | inr none ↦
      let zero_size : size_at text (at + k) ≡ 0 = (let z = ltb-false 0 (size_at text (at + k)) none in omega (arith, z)) in
      let e : slice_get (words text) (read_at text at) ≡ None = read_none text at (left_none text at (at + k) (is_byte text at k blanks) zero_size) in
      at_end zero_size ∙ sym (ap (byte_or (length text)) e)
]
  where
    at_end : size_at text (at + k) ≡ 0 → at + k ≡ length text
    at_end h =
        let bs = drop at text in
        let p = prefix_len is_blank bs in
        let d : drop (at + k) text ≡ drop p bs = sym (dropped at p text ∙ ap (λ n. drop n text) (sym (is_byte text at k blanks))) in
        let gone : drop p bs ≡ [] = nothing_left bs (sym (ap (prefix_len (λ b. not (is_blank b))) d) ∙ h) in
        let l : length (drop (at + k) text) ≡ 0 = ap length (d ∙ gone) in
        let le = prefix_len-le-length is_blank bs in
        omega (arith, length-drop (at + k) text, l, length-drop at text, le, is_byte text at k blanks, between.within)

-- where no word is left, all are read
past_all : (ws : List Word) (n : ℕ) → slice_get ws n ≡ None → length ws ≤ n
past_all [] n h = omega arith
past_all (w ∷ ws) zero h = absurd cc
past_all (w ∷ ws) (suc n) h = omega (arith, past_all ws n h)

pub all_read : (text : List ℕ) (at : ℕ) → slice_get (words text) (read_at text at) ≡ None → read_at text at ≡ length (words text)
unfolding read_at
all_read text at h = omega (arith, past_all (words text) (read_at text at) h)
