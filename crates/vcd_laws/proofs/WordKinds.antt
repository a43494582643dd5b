-- The kinds of the words of a dump that is written.
use Rattle.std.specs.Prelude.{◌≡◌, ◌≢◌, ℕ, ◌==◌, ◌||◌, Bool, true, false, List, ◌∷◌, bytes_eq, codes, if◌then◌else◌, refl}
use Rattle.std.proofs.Common.{sym, ◌∙◌, ap, subst, arith}
use Rattle.std.proofs.lemmas.Bool.{and_left, false_from_ne_true, ne_eqb}
use Rattle.std.proofs.lemmas.Slice.Eq.{bytes_eq-Decides}
use Rattle.sg_model.proofs.Choices.{if_true, if_false}
use Rattle.vcd_form.specs.Kinds.{Kind, has_text, is_any, is_code, is_code_text, is_range, is_range_text, is_real_text, is_scalar_text, is_time_text, is_vector_text, kind_of_text, value_kind_of, other_kind, real_kind, scalar_kind, time_kind, vector_kind, end_kind, var_kind, scope_kind, upscope_kind, definitions_kind, timescale_kind, comment_kind, remark_kind, dump_kind}

-- ---- what is so of each kind that a text may have

-- a choice has what both sides have
pick : {A : Type 0} (P : A → Type 0) (b : Bool) (x y : A) → P x → P y → P (if b then x else y)
pick P true x y p q = p
pick P false x y p q = q

-- where a test fails, what the other side has
skip : {A : Type 0} (P : A → Type 0) (b : Bool) (x y : A) → b ≡ false → P y → P (if b then x else y)
skip P b x y e q = subst P (sym (if_false b x y e)) q

pub value_kinds : (P : Kind → Type 0) (text : List ℕ) → P (time_kind text) → P (scalar_kind text) → P (vector_kind text) → P (real_kind text) → P (other_kind text) → P (value_kind_of text)
value_kinds P text t s v r o =
    pick P (is_time_text text) (time_kind text) _ t (pick P (is_scalar_text text) (scalar_kind text) _ s (pick P (is_vector_text text) (vector_kind text) _ v (pick P (is_real_text text) (real_kind text) (other_kind text) r o)))

-- the keywords but `$end`
pub keyword_kinds : (P : Kind → Type 0) (text : List ℕ) → P var_kind → P scope_kind → P upscope_kind → P definitions_kind → P timescale_kind → P comment_kind → P remark_kind → P dump_kind → P (value_kind_of text) → bytes_eq text (codes "$end") ≡ false → P (kind_of_text text)
keyword_kinds P text v s u d t c r m o e =
    skip P (bytes_eq text (codes "$end")) end_kind _ e
    (pick P (bytes_eq text (codes "$var")) var_kind _ v
    (pick P (bytes_eq text (codes "$scope")) scope_kind _ s
    (pick P (bytes_eq text (codes "$upscope")) upscope_kind _ u
    (pick P (bytes_eq text (codes "$enddefinitions")) definitions_kind _ d
    (pick P (bytes_eq text (codes "$timescale")) timescale_kind _ t
    (pick P (bytes_eq text (codes "$comment")) comment_kind _ c
    (pick P (bytes_eq text (codes "$date") || bytes_eq text (codes "$version")) remark_kind _ r
    (pick P (bytes_eq text (codes "$dumpvars") || bytes_eq text (codes "$dumpall") || bytes_eq text (codes "$dumpon") || bytes_eq text (codes "$dumpoff")) dump_kind _ m o))))))))

-- any word but `$end` may be a name
pub any_word : (text : List ℕ) → bytes_eq text (codes "$end") ≡ false → is_any (kind_of_text text) ≡ true
any_word text e = keyword_kinds (λ k. is_any k ≡ true) text refl refl refl refl refl refl refl refl (value_kinds (λ k. is_any k ≡ true) text refl refl refl refl refl) e

-- and a code, where its bytes are those of a code
pub code_word : (text : List ℕ) → is_code_text text ≡ true → bytes_eq text (codes "$end") ≡ false → is_code (kind_of_text text) ≡ true
code_word text h e = keyword_kinds (λ k. is_code k ≡ true) text refl refl refl refl refl refl refl refl (value_kinds (λ k. is_code k ≡ true) text h h h h h) e

-- ---- a word that begins with no `$` is no keyword

pub no_keyword : (b : ℕ) (bs rest : List ℕ) → b ≢ 36 → bytes_eq (b ∷ bs) (36 ∷ rest) ≡ false
no_keyword b bs rest n = false_from_ne_true (bytes_eq (b ∷ bs) (36 ∷ rest)) (λ e. (let q : b ∷ bs ≡ 36 ∷ rest = (bytes_eq-Decides (b ∷ bs) (36 ∷ rest)).0 e in let h : b ≡ 36 = cc in n h))

pub plain_word : (b : ℕ) (bs : List ℕ) → b ≢ 36 → kind_of_text (b ∷ bs) ≡ value_kind_of (b ∷ bs)
plain_word b bs n =
    let no = λ (rest : List ℕ). no_keyword b bs rest n in
    skip (λ k. k ≡ value_kind_of (b ∷ bs)) (bytes_eq (b ∷ bs) (codes "$end")) end_kind _ (no (codes "end"))
    (skip (λ k. k ≡ value_kind_of (b ∷ bs)) (bytes_eq (b ∷ bs) (codes "$var")) var_kind _ (no (codes "var"))
    (skip (λ k. k ≡ value_kind_of (b ∷ bs)) (bytes_eq (b ∷ bs) (codes "$scope")) scope_kind _ (no (codes "scope"))
    (skip (λ k. k ≡ value_kind_of (b ∷ bs)) (bytes_eq (b ∷ bs) (codes "$upscope")) upscope_kind _ (no (codes "upscope"))
    (skip (λ k. k ≡ value_kind_of (b ∷ bs)) (bytes_eq (b ∷ bs) (codes "$enddefinitions")) definitions_kind _ (no (codes "enddefinitions"))
    (skip (λ k. k ≡ value_kind_of (b ∷ bs)) (bytes_eq (b ∷ bs) (codes "$timescale")) timescale_kind _ (no (codes "timescale"))
    (skip (λ k. k ≡ value_kind_of (b ∷ bs)) (bytes_eq (b ∷ bs) (codes "$comment")) comment_kind _ (no (codes "comment"))
    (skip (λ k. k ≡ value_kind_of (b ∷ bs)) (bytes_eq (b ∷ bs) (codes "$date") || bytes_eq (b ∷ bs) (codes "$version")) remark_kind _ (either_no (bytes_eq (b ∷ bs) (codes "$date")) (bytes_eq (b ∷ bs) (codes "$version")) (no (codes "date")) (no (codes "version")))
    (skip (λ k. k ≡ value_kind_of (b ∷ bs)) (bytes_eq (b ∷ bs) (codes "$dumpvars") || bytes_eq (b ∷ bs) (codes "$dumpall") || bytes_eq (b ∷ bs) (codes "$dumpon") || bytes_eq (b ∷ bs) (codes "$dumpoff")) dump_kind _
    (four_no (bytes_eq (b ∷ bs) (codes "$dumpvars")) (bytes_eq (b ∷ bs) (codes "$dumpall")) (bytes_eq (b ∷ bs) (codes "$dumpon")) (bytes_eq (b ∷ bs) (codes "$dumpoff")) (no (codes "dumpvars")) (no (codes "dumpall")) (no (codes "dumpon")) (no (codes "dumpoff"))) refl))))))))
  where
    either_no : (x y : Bool) → x ≡ false → y ≡ false → (x || y) ≡ false
    either_no x y e f = ap (λ z. z || y) e ∙ f

    four_no : (x y z w : Bool) → x ≡ false → y ≡ false → z ≡ false → w ≡ false → (x || y || z || w) ≡ false
    four_no x y z w e f g h = ap (λ a. a || y || z || w) e ∙ (ap (λ a. false || a || z || w) f ∙ (ap (λ a. false || false || a || w) g ∙ h))

-- such a word with a text of a form
pub text_word : (is : List ℕ → Bool) (b : ℕ) (bs : List ℕ) → b ≢ 36 → is (b ∷ bs) ≡ true → has_text is (kind_of_text (b ∷ bs)) ≡ true
text_word is b bs n h = ap (has_text is) (plain_word b bs n) ∙ value_kinds (λ k. has_text is k ≡ true) (b ∷ bs) h h h h h

-- a time
pub time_word : (digits : List ℕ) → is_time_text (35 ∷ digits) ≡ true → kind_of_text (35 ∷ digits) ≡ time_kind (35 ∷ digits)
time_word digits h = plain_word 35 digits (λ e. (let q : 35 ≡ 36 = e in absurd (omega arith))) ∙ if_true (is_time_text (35 ∷ digits)) (time_kind (35 ∷ digits)) _ h

-- a value of one bit
pub scalar_word : (b : ℕ) (code : List ℕ) → b ≢ 36 → b ≢ 35 → is_scalar_text (b ∷ code) ≡ true → kind_of_text (b ∷ code) ≡ scalar_kind (b ∷ code)
scalar_word b code n m h =
    plain_word b code n
    ∙ (if_false (is_time_text (b ∷ code)) (time_kind (b ∷ code)) _ (and_left (b == 35) _ (ne_eqb b 35 m)) ∙ if_true (is_scalar_text (b ∷ code)) (scalar_kind (b ∷ code)) _ h)

-- a value in bits
pub vector_word : (bits : List ℕ) → is_vector_text (98 ∷ bits) ≡ true → kind_of_text (98 ∷ bits) ≡ vector_kind (98 ∷ bits)
vector_word bits h = plain_word 98 bits (λ e. (let q : 98 ≡ 36 = e in absurd (omega arith))) ∙ if_true (is_vector_text (98 ∷ bits)) (vector_kind (98 ∷ bits)) _ h

-- a range
pub range_word : (text : List ℕ) → is_range_text (91 ∷ text) ≡ true → is_range (kind_of_text (91 ∷ text)) ≡ true
range_word text h = ap is_range (plain_word 91 text (λ e. (let q : 91 ≡ 36 = e in absurd (omega arith)))) ∙ h
