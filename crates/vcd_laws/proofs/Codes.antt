-- The codes of variables: they are apart, they are words, and none of the first 57 175 409 is `$end`.
use Rattle.std.specs.Prelude.{◌≡◌, ◌≢◌, ℕ, zero, suc, ◌+◌, ◌-◌, ◌*◌, ◌/◌, ◌%◌, ◌<◌, ◌≤◌, ◌==◌, ◌&&◌, ◌||◌, ◌⊎◌, not, nat_le, Bool, true, false, List, [], ◌∷◌, length, bytes_eq, codes, refl}
use Rattle.std.specs.List.{list_all}
use Rattle.std.proofs.Common.{sym, ◌∙◌, ap, arith, inl, inr}
use Rattle.std.proofs.lemmas.Bool.{and_from, and_parts, cases_lt, false_from_ne_true, le-leb, leb-true, lt-ltb, ne_eqb, not_from_false, or_from}
use Rattle.std.proofs.lemmas.Slice.Eq.{bytes_eq-Decides}
use Rattle.wave_out.specs.Vcd.{code}
use Rattle.wave_out.proofs.CodeLaws.{code_large, code_small}
use Rattle.vcd_form.specs.Kinds.{is_code_byte, is_code_text}
use Rattle.vcd_form.specs.Words.{is_blank}
use Rattle.vcd_laws.proofs.Rows.{is_long, is_word}

heads : (b c : ℕ) (bs cs : List ℕ) → b ∷ bs ≡ c ∷ cs → (b ≡ c) × (bs ≡ cs)
heads b c bs cs e = ((let h : b ≡ c = cc in h), (let t : bs ≡ cs = cc in t))

no_nil : (b : ℕ) (bs : List ℕ) → b ∷ bs ≡ [] → ⊥
no_nil b bs e = (let q : length (b ∷ bs) ≡ 0 = ap length e in omega arith)

-- a code isn't empty
pub code_some : (k : ℕ) → code k ≡ [] → ⊥
code_some k e = at (cases_lt k 94)
  where
    at : (k < 94) ⊎ (94 ≤ k) → ⊥
    at (inl l) = no_nil (33 + k % 94) [] (sym (code_small k l) ∙ e)
    at (inr l) = no_nil (33 + k % 94) (code (k / 94 - 1)) (sym (code_large k l) ∙ e)

-- of one byte
one_byte : (k b : ℕ) → code k ≡ b ∷ [] → (k < 94) × (33 + k % 94 ≡ b)
one_byte k b e = at (cases_lt k 94)
  where
    at : (k < 94) ⊎ (94 ≤ k) → (k < 94) × (33 + k % 94 ≡ b)
    at (inl l) = (l, (heads (33 + k % 94) b [] [] (sym (code_small k l) ∙ e)).0)
    at (inr l) = absurd (code_some (k / 94 - 1) (heads (33 + k % 94) b (code (k / 94 - 1)) [] (sym (code_large k l) ∙ e)).1)

-- of more
more_bytes : (k b c : ℕ) (cs : List ℕ) → code k ≡ b ∷ c ∷ cs → (94 ≤ k) × (33 + k % 94 ≡ b) × (code (k / 94 - 1) ≡ c ∷ cs)
more_bytes k b c cs e = at (cases_lt k 94)
  where
    at : (k < 94) ⊎ (94 ≤ k) → (94 ≤ k) × (33 + k % 94 ≡ b) × (code (k / 94 - 1) ≡ c ∷ cs)
    at (inl l) = absurd (no_nil c cs (sym (heads (33 + k % 94) b [] (c ∷ cs) (sym (code_small k l) ∙ e)).1))
    at (inr l) = (let h = heads (33 + k % 94) b (code (k / 94 - 1)) (c ∷ cs) (sym (code_large k l) ∙ e) in (l, h.0, h.1))

same_small : (j k b : ℕ) → j < 94 → k < 94 → 33 + j % 94 ≡ b → 33 + k % 94 ≡ b → j ≡ k
same_small j k b l m e f = omega arith

same_large : (j k b : ℕ) → 94 ≤ j → 94 ≤ k → 33 + j % 94 ≡ b → 33 + k % 94 ≡ b → j / 94 - 1 ≡ k / 94 - 1 → j ≡ k
same_large j k b l m e f g = omega arith

-- the codes of two variables differ
code_same : (fuel j k : ℕ) (text : List ℕ) → j < fuel → code j ≡ text → code k ≡ text → j ≡ k
code_same zero j k text l e f = absurd (omega arith)
code_same (suc fuel) j k [] l e f = absurd (code_some j e)
code_same (suc fuel) j k (b ∷ []) l e f = (let x = one_byte j b e in let y = one_byte k b f in same_small j k b x.0 y.0 x.1 y.1)
code_same (suc fuel) j k (b ∷ c ∷ cs) l e f =
    let x = more_bytes j b c cs e in
    let y = more_bytes k b c cs f in
    let s : j / 94 - 1 < fuel = smaller j fuel x.0 l in
    same_large j k b x.0 y.0 x.1 y.1 (code_same fuel (j / 94 - 1) (k / 94 - 1) (c ∷ cs) s x.2 y.2)
  where
    smaller : (n m : ℕ) → 94 ≤ n → n < suc m → n / 94 - 1 < m
    smaller n m p q = omega arith

pub codes_apart : (j k : ℕ) → j ≢ k → bytes_eq (code j) (code k) ≡ false
codes_apart j k n = false_from_ne_true (bytes_eq (code j) (code k)) (λ e. n (code_same (suc j) j k (code k) (omega arith) ((bytes_eq-Decides (code j) (code k)).0 e) refl))

-- ---- their bytes

byte_fits : (n : ℕ) → is_code_byte (33 + n % 94) ≡ true
byte_fits n = and_from (nat_le 33 (33 + n % 94)) (nat_le (33 + n % 94) 126) (le-leb 33 (33 + n % 94) (omega arith)) (le-leb (33 + n % 94) 126 (omega arith))

bytes_fit : (fuel k : ℕ) → k < fuel → list_all is_code_byte (code k) ≡ true
bytes_fit zero k l = absurd (omega arith)
bytes_fit (suc fuel) k l = at (cases_lt k 94) (λ m. bytes_fit fuel (k / 94 - 1) (smaller k fuel m l))
  where
    smaller : (n m : ℕ) → 94 ≤ n → n < suc m → n / 94 - 1 < m
    smaller n m p q = omega arith

    at : (k < 94) ⊎ (94 ≤ k) → (94 ≤ k → list_all is_code_byte (code (k / 94 - 1)) ≡ true) → list_all is_code_byte (code k) ≡ true
    at (inl m) rest = ap (list_all is_code_byte) (code_small k m) ∙ and_from (is_code_byte (33 + k % 94)) true (byte_fits k) refl
    at (inr m) rest = ap (list_all is_code_byte) (code_large k m) ∙ and_from (is_code_byte (33 + k % 94)) (list_all is_code_byte (code (k / 94 - 1))) (byte_fits k) (rest m)

long_code : (text : List ℕ) → (text ≡ [] → ⊥) → is_long text ≡ true
long_code [] h = absurd (h refl)
long_code (b ∷ bs) h = lt-ltb 0 (length (b ∷ bs)) (omega arith)

pub code_is_text : (k : ℕ) → is_code_text (code k) ≡ true
code_is_text k = and_from (is_long (code k)) (list_all is_code_byte (code k)) (long_code (code k) (code_some k)) (bytes_fit (suc k) k (omega arith))

-- so they are words
code_no_blank : (bs : List ℕ) → list_all is_code_byte bs ≡ true → list_all (λ b. not (is_blank b)) bs ≡ true
code_no_blank [] h = refl
code_no_blank (b ∷ bs) h = and_from (not (is_blank b)) (list_all (λ x. not (is_blank x)) bs) (not_from_false (is_blank b) (none b (low b (is_code_byte b) refl (first (is_code_byte b) (list_all is_code_byte bs) h)))) (code_no_blank bs (second (is_code_byte b) (list_all is_code_byte bs) h))
  where
    first : (x y : Bool) → (x && y) ≡ true → x ≡ true
    first true y e = refl
    first false y e = absurd (let q : false ≡ true = e in cc)

    second : (x y : Bool) → (x && y) ≡ true → y ≡ true
    second true y e = e
    second false y e = absurd (let q : false ≡ true = e in cc)

    le_of : (x : ℕ) → nat_le 33 x ≡ true → 33 ≤ x
    le_of x e = leb-true 33 x e

    low : (x : ℕ) (t : Bool) → is_code_byte x ≡ t → t ≡ true → 33 ≤ x
    low x t e f = le_of x (first (nat_le 33 x) (nat_le x 126) (e ∙ f))

    none : (x : ℕ) → 33 ≤ x → is_blank x ≡ false
    none x l =
        or_from ((x == 32) || (x == 9) || (x == 10)) (x == 13)
        (or_from ((x == 32) || (x == 9)) (x == 10) (or_from (x == 32) (x == 9) (ne_eqb x 32 (λ e. (let q : x ≡ 32 = e in absurd (omega arith)))) (ne_eqb x 9 (λ e. (let q : x ≡ 9 = e in absurd (omega arith)))))
        (ne_eqb x 10 (λ e. (let q : x ≡ 10 = e in absurd (omega arith))))) (ne_eqb x 13 (λ e. (let q : x ≡ 13 = e in absurd (omega arith))))

pub text_is_word : (text : List ℕ) → is_code_text text ≡ true → is_word text ≡ true
text_is_word text h = (let p = and_parts (is_long text) (list_all is_code_byte text) h in and_from (is_long text) (list_all (λ b. not (is_blank b)) text) p.0 (code_no_blank text p.1))

pub code_is_word : (k : ℕ) → is_word (code k) ≡ true
code_is_word k = text_is_word (code k) (code_is_text k)

-- ---- `$end` is the code of one variable alone

step_up : (k b j : ℕ) → 94 ≤ k → 33 + k % 94 ≡ b → j ≤ k / 94 - 1 → 94 * (j + 1) + (b - 33) ≤ k
step_up k b j l e h = omega arith

end_code : (k : ℕ) → code k ≡ 36 ∷ 101 ∷ 110 ∷ 100 ∷ [] → 57175409 ≤ k
end_code k e =
    let a = more_bytes k 36 101 (110 ∷ 100 ∷ []) e in
    let b = more_bytes (k / 94 - 1) 101 110 (100 ∷ []) a.2 in
    let c = more_bytes ((k / 94 - 1) / 94 - 1) 110 100 [] b.2 in
    let d = one_byte (((k / 94 - 1) / 94 - 1) / 94 - 1) 100 c.2 in
    let d' : 67 ≤ ((k / 94 - 1) / 94 - 1) / 94 - 1 = last (((k / 94 - 1) / 94 - 1) / 94 - 1) d.0 d.1 in
    let c' : 6469 ≤ (k / 94 - 1) / 94 - 1 = step_up ((k / 94 - 1) / 94 - 1) 110 67 c.0 c.1 d' in
    let b' : 608248 ≤ k / 94 - 1 = step_up (k / 94 - 1) 101 6469 b.0 b.1 c' in
    step_up k 36 608248 a.0 a.1 b'
  where
    last : (n : ℕ) → n < 94 → 33 + n % 94 ≡ 100 → 67 ≤ n
    last n l f = omega arith

pub code_not_end : (k : ℕ) → k < 57175409 → bytes_eq (code k) (codes "$end") ≡ false
code_not_end k l = false_from_ne_true (bytes_eq (code k) (codes "$end")) (λ e. (let q : 57175409 ≤ k = end_code k ((bytes_eq-Decides (code k) (codes "$end")).0 e) in omega arith))
