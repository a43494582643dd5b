-- What is asked of a word's kind is asked of its text.
use Rattle.std.proofs.Common.{◌≡◌, ℕ, Bool, true, false, List, [], ◌∷◌, refl, sym, ◌∙◌, subst, inl, inr}
use Rattle.std.specs.Prelude.{◌&&◌, ◌||◌, ◌==◌, not, is_some, bytes_eq, codes, if◌then◌else◌}
use Rattle.std.proofs.lemmas.Bool.{cases_Bool, eqb-true, or_cases}
use Rattle.std.proofs.lemmas.Slice.Eq.{bytes_eq-Decides}
use Rattle.vcd_form.specs.Kinds.{begins_keyword, kind_of_text, value_kind_of, is_end, is_code, is_code_text, is_range, is_range_text, is_width, is_width_text, is_time_text, is_scalar_text, is_vector_text, is_real_text, is_scale, is_unit, is_joined, has_text, scale_power, unit_power, joined_power, Kind, remark_kind, comment_kind, timescale_kind, scope_kind, upscope_kind, var_kind, definitions_kind, dump_kind, end_kind, time_kind, scalar_kind, vector_kind, real_kind, other_kind}

-- ---- what holds of each kind that a text may have

either_way : (P : Kind → Type 0) (b : Bool) (x y : Kind) → (b ≡ true → P x) → (b ≡ false → P y) → P (if b then x else y)
either_way P true x y does none = does refl
either_way P false x y does none = none refl

of_value : (P : Kind → Type 0) (text : List ℕ) → P (time_kind text) → P (scalar_kind text) → P (vector_kind text) → P (real_kind text) → P (other_kind text) → P (value_kind_of text)
of_value P text t s v r o =
    let last = if is_real_text text then real_kind text else other_kind text in
    let third = if is_vector_text text then vector_kind text else last in
    let second = if is_scalar_text text then scalar_kind text else third in
    either_way P (is_time_text text) (time_kind text) second (λ _. t) (λ _.
    either_way P (is_scalar_text text) (scalar_kind text) third (λ _. s) (λ _.
    either_way P (is_vector_text text) (vector_kind text) last (λ _. v) (λ _.
    either_way P (is_real_text text) (real_kind text) (other_kind text) (λ _. r) (λ _. o))))

-- a text that is a word
known : (Q : List ℕ → Type 0) (text word : List ℕ) → Q word → bytes_eq text word ≡ true → Q text
known Q text word q e = subst Q (sym ((bytes_eq-Decides text word).0 e)) q

-- of the keywords, each with its kind
record OfKeywords (P : Kind → List ℕ → Type 0) : Type 0 where
  end : P end_kind (codes "$end")
  var : P var_kind (codes "$var")
  scope : P scope_kind (codes "$scope")
  upscope : P upscope_kind (codes "$upscope")
  definitions : P definitions_kind (codes "$enddefinitions")
  timescale : P timescale_kind (codes "$timescale")
  comment : P comment_kind (codes "$comment")
  date : P remark_kind (codes "$date")
  version : P remark_kind (codes "$version")
  dumpvars : P dump_kind (codes "$dumpvars")
  dumpall : P dump_kind (codes "$dumpall")
  dumpon : P dump_kind (codes "$dumpon")
  dumpoff : P dump_kind (codes "$dumpoff")

of_each : (P : Kind → List ℕ → Type 0) → OfKeywords P → ((text : List ℕ) → bytes_eq text (codes "$end") ≡ false → P (value_kind_of text) text) → (text : List ℕ) → P (kind_of_text text) text
of_each P words value text =
    let Q = λ (k : Kind). P k text in
    either_way Q (bytes_eq text (codes "$end")) _ _ (known (P end_kind) text _ words.end) (λ ended.
    either_way Q (bytes_eq text (codes "$var")) _ _ (known (P var_kind) text _ words.var) (λ _.
    either_way Q (bytes_eq text (codes "$scope")) _ _ (known (P scope_kind) text _ words.scope) (λ _.
    either_way Q (bytes_eq text (codes "$upscope")) _ _ (known (P upscope_kind) text _ words.upscope) (λ _.
    either_way Q (bytes_eq text (codes "$enddefinitions")) _ _ (known (P definitions_kind) text _ words.definitions) (λ _.
    either_way Q (bytes_eq text (codes "$timescale")) _ _ (known (P timescale_kind) text _ words.timescale) (λ _.
    either_way Q (bytes_eq text (codes "$comment")) _ _ (known (P comment_kind) text _ words.comment) (λ _.
    either_way Q _ _ _ (λ e. elim (or_cases (bytes_eq text (codes "$date")) (bytes_eq text (codes "$version")) e) [
      | inl a ↦ known (P remark_kind) text _ words.date a
      | inr a ↦ known (P remark_kind) text _ words.version a
    ]) (λ _.
    either_way Q _ _ _ (λ e. dumps e) (λ _. value text ended)))))))))
  where
    dumps : (bytes_eq text (codes "$dumpvars") || bytes_eq text (codes "$dumpall") || bytes_eq text (codes "$dumpon") || bytes_eq text (codes "$dumpoff")) ≡ true → P dump_kind text
    dumps e = elim (or_cases _ (bytes_eq text (codes "$dumpoff")) e) [
      | inl d ↦ elim (or_cases _ (bytes_eq text (codes "$dumpon")) d) [
        | inl f ↦ elim (or_cases (bytes_eq text (codes "$dumpvars")) (bytes_eq text (codes "$dumpall")) f) [
          | inl a ↦ known (P dump_kind) text _ words.dumpvars a
          | inr a ↦ known (P dump_kind) text _ words.dumpall a
        ]
        | inr a ↦ known (P dump_kind) text _ words.dumpon a
      ]
      | inr a ↦ known (P dump_kind) text _ words.dumpoff a
    ]

not_and : (b : Bool) → (b && true) ≡ false → b ≡ false
not_and true h = h
not_and false h = refl

-- ---- each test

and_true : (b : Bool) → b ≡ (b && true)
and_true true = refl
and_true false = refl

pub end_is : (text : List ℕ) → is_end (kind_of_text text) ≡ bytes_eq text (codes "$end")
end_is text = of_each (λ k t. is_end k ≡ bytes_eq t (codes "$end")) (record { end = refl; var = refl; scope = refl; upscope = refl; definitions = refl; timescale = refl; comment = refl; date = refl; version = refl; dumpvars = refl; dumpall = refl; dumpon = refl; dumpoff = refl })
    (λ t none. rw none (of_value (λ k. is_end k ≡ false) t refl refl refl refl refl)) text

pub code_is : (text : List ℕ) → is_code (kind_of_text text) ≡ (is_code_text text && not (bytes_eq text (codes "$end")))
code_is text = of_each (λ k t. is_code k ≡ (is_code_text t && not (bytes_eq t (codes "$end")))) (record { end = refl; var = refl; scope = refl; upscope = refl; definitions = refl; timescale = refl; comment = refl; date = refl; version = refl; dumpvars = refl; dumpall = refl; dumpon = refl; dumpoff = refl })
    (λ t none. rw none (let same = and_true (is_code_text t) in of_value (λ k. is_code k ≡ (is_code_text t && true)) t same same same same same)) text

-- a test of texts that is none of a keyword's
of_text : (is : List ℕ → Bool) → OfKeywords (λ k t. has_text is k ≡ is t) → (text : List ℕ) → has_text is (kind_of_text text) ≡ is text
of_text is refused text = of_each (λ k t. has_text is k ≡ is t) refused (λ t none. of_value (λ k. has_text is k ≡ is t) t refl refl refl refl refl) text

pub width_is : (text : List ℕ) → is_width (kind_of_text text) ≡ is_width_text text
width_is text = of_text is_width_text (record { end = refl; var = refl; scope = refl; upscope = refl; definitions = refl; timescale = refl; comment = refl; date = refl; version = refl; dumpvars = refl; dumpall = refl; dumpon = refl; dumpoff = refl }) text

pub scale_is : (text : List ℕ) → is_scale (kind_of_text text) ≡ is_some (scale_power text)
scale_is text = of_text (λ t. is_some (scale_power t)) (record { end = refl; var = refl; scope = refl; upscope = refl; definitions = refl; timescale = refl; comment = refl; date = refl; version = refl; dumpvars = refl; dumpall = refl; dumpon = refl; dumpoff = refl }) text

pub unit_is : (text : List ℕ) → is_unit (kind_of_text text) ≡ is_some (unit_power text)
unit_is text = of_text (λ t. is_some (unit_power t)) (record { end = refl; var = refl; scope = refl; upscope = refl; definitions = refl; timescale = refl; comment = refl; date = refl; version = refl; dumpvars = refl; dumpall = refl; dumpon = refl; dumpoff = refl }) text

pub joined_is : (text : List ℕ) → is_joined (kind_of_text text) ≡ (not (is_some (scale_power text)) && is_some (joined_power text))
joined_is text = of_text (λ t. not (is_some (scale_power t)) && is_some (joined_power t)) (record { end = refl; var = refl; scope = refl; upscope = refl; definitions = refl; timescale = refl; comment = refl; date = refl; version = refl; dumpvars = refl; dumpall = refl; dumpon = refl; dumpoff = refl }) text

range_is-bracket : (bs : List ℕ) → is_range (kind_of_text (91 ∷ bs)) ≡ is_range_text (91 ∷ bs)
range_is-bracket bs = refl

range_is-other : (text : List ℕ) → is_range_text text ≡ false → is_range (kind_of_text text) ≡ false
range_is-other text none = of_each (λ k t. is_range_text t ≡ false → is_range k ≡ false)
    (record { end = λ _. refl; var = λ _. refl; scope = λ _. refl; upscope = λ _. refl; definitions = λ _. refl; timescale = λ _. refl; comment = λ _. refl; date = λ _. refl; version = λ _. refl; dumpvars = λ _. refl; dumpall = λ _. refl; dumpon = λ _. refl; dumpoff = λ _. refl })
    (λ t _ no_range. of_value (λ k. is_range k ≡ false) t refl refl refl refl no_range) text none

pub range_is : (text : List ℕ) → is_range (kind_of_text text) ≡ is_range_text text
range_is [] = refl
range_is (b ∷ bs) = elim (cases_Bool (b == 91)) [
  | inl does ↦ subst (λ (c : ℕ). is_range (kind_of_text (c ∷ bs)) ≡ is_range_text (c ∷ bs)) (sym (eqb-true b 91 does)) (range_is-bracket bs)
  | inr none ↦ let no_range : is_range_text (b ∷ bs) ≡ false = rw none refl in range_is-other (b ∷ bs) no_range ∙ sym no_range
]

-- what begins otherwise is no keyword
pub no_keyword : (text : List ℕ) → begins_keyword text ≡ false → value_kind_of text ≡ kind_of_text text
no_keyword [] h = refl
no_keyword (b ∷ bs) h = let e : (b == 36) ≡ false = not_and (b == 36) h in rw e refl
