-- Words and the texts that they begin.
use Rattle.std.proofs.Common.{◌≡◌, ℕ, ℤ, pos, negsuc, zero, suc, ◌+◌, ◌<◌, ◌/◌, ◌%◌, Bool, true, false, cond, not, List, [], ◌∷◌, ◌++◌, take, drop, refl, sym, ◌∙◌, ap, subst, arith}
use Rattle.std.specs.Prelude.{◌==◌, ◌^◌, decimal, if◌then◌else◌}
use Rattle.std.specs.Fmt.{digit_glyph, digits, digits_onto, signed_decimal}
use Rattle.std.specs.Int.{IsInRange}
use Rattle.std.specs.List.{position_or_len}
use Rattle.std.specs.Str.Parse.{AllDigits}
use Rattle.std.specs.declared.option.Option.{Option}
use Rattle.std.specs.declared.option.Option.TheVariants.{Some, None}
use Rattle.std.proofs.lemmas.Bool.{both_ways, cond_both, lt-ltb, ne_eqb, or_from}
use Rattle.std.proofs.lemmas.Fmt.{decimal_injective, digits_decimal, signed_decimal_injective}
use Rattle.std.proofs.lemmas.Str.Parse.{digit_from_value, numerals_by_value, tells_digits}
use Rattle.std.proofs.Math.Numerals.{one-add}
use lib.Signed.{mag}
use Rattle.sg_logic.specs.declared.values.Value.{Value}
use Rattle.sg_logic.specs.declared.values.Value.TheVariants.{Zero, One, X, Z}
use Rattle.wave_out.specs.Vcd.{value_letter}
use Rattle.sim_save.specs.Breaks.{EndsWord, IsWord, event_text, is_break}
use Rattle.sim_save.specs.Faults.{IsPower, IsTime}
use Rattle.sim_save.specs.Lines.{event_word, letter, number, word}

-- ---- what is a word

digit_is_no_break : (d : ℕ) → IsInRange 48 57 d → is_break d ≡ false
digit_is_no_break d h = or_from (d == 32) (d == 10) (ne_eqb d 32 (λ e. omega (arith, h.0, e))) (ne_eqb d 10 (λ e. omega (arith, h.0, e)))

pub decimal_is_digits : (n : ℕ) → n < 2 ^ 64 → AllDigits 10 (decimal n)
decimal_is_digits n h = digits_decimal (numerals_by_value (AllDigits 10) tells_digits) n h

glyph_is_no_break : (d : ℕ) → d < 10 → is_break (digit_glyph false d) ≡ false
glyph_is_no_break d h = subst (λ t. is_break (cond t (48 + d) (87 + d)) ≡ false) (sym (lt-ltb d 10 h)) (digit_is_no_break (48 + d) (omega arith, omega (arith, h)))

digits_onto_word : (k n : ℕ) (acc : List ℕ) → IsWord acc → IsWord (digits_onto k 10 false n acc)
digits_onto_word zero n acc h = h
digits_onto_word (suc k) n acc h =
    let more : IsWord (digit_glyph false (n % 10) ∷ acc) = (glyph_is_no_break (n % 10) (omega arith), h) in
    let rest = digits_onto_word k (n / 10) (digit_glyph false (n % 10) ∷ acc) more in
    cond_both (n / 10 == 0) (digit_glyph false (n % 10) ∷ acc) (digits_onto k 10 false (n / 10) (digit_glyph false (n % 10) ∷ acc)) IsWord (λ e. more) (λ e. rest)

pub decimal_is_word : (n : ℕ) → IsWord (decimal n)
unfolding digits
decimal_is_word n = digits_onto_word 64 n [] tt

pub signed_is_word : (z : ℤ) → IsWord (signed_decimal z)
signed_is_word (pos n) = decimal_is_word n
signed_is_word (negsuc n) = (refl, decimal_is_word (suc n))

pub letter_is_word : (v : Value) → IsWord (value_letter v ∷ [])
letter_is_word Zero = (refl, tt)
letter_is_word One = (refl, tt)
letter_is_word X = (refl, tt)
letter_is_word Z = (refl, tt)

pub event_is : (e : Option ℕ) → event_word e ≡ 32 ∷ event_text e
event_is None = refl
event_is (Some time) = refl

pub event_is_word : (e : Option ℕ) → IsWord (event_text e)
event_is_word None = (refl, tt)
event_is_word (Some time) = decimal_is_word time

-- a blank stands in front of it
pub event_ends : (e : Option ℕ) (rest : List ℕ) → EndsWord (event_word e ++ rest)
event_ends None rest = refl
event_ends (Some time) rest = refl

-- ---- where the first word of a text ends

front_of : (b : ℕ) (bs : List ℕ) (test : Bool) → is_break b ≡ test → IsWord (take (position_or_len is_break bs) bs) → IsWord (take (cond (not test) (1 + position_or_len is_break bs) 0) (b ∷ bs))
front_of b bs true e h = tt
front_of b bs false e h = rw one-add (e, h)

pub front_is_word : (text : List ℕ) → IsWord (take (position_or_len is_break text) text)
front_is_word [] = tt
front_is_word (b ∷ bs) = front_of b bs (is_break b) refl (front_is_word bs)

behind_of : (b : ℕ) (bs : List ℕ) (test : Bool) → is_break b ≡ test → EndsWord (drop (position_or_len is_break bs) bs) → EndsWord (drop (cond (not test) (1 + position_or_len is_break bs) 0) (b ∷ bs))
behind_of b bs true e h = e
behind_of b bs false e h = rw one-add h

pub behind_ends : (text : List ℕ) → EndsWord (drop (position_or_len is_break text) text)
behind_ends [] = tt
behind_ends (b ∷ bs) = behind_of b bs (is_break b) refl (behind_ends bs)

-- ---- a word and what follows it are told by the text

pub apart : (a b c d : List ℕ) → IsWord a → IsWord c → EndsWord b → EndsWord d → a ++ b ≡ c ++ d → (a ≡ c) × (b ≡ d)
apart [] b [] d wa wc eb ed e = (refl, e)
apart [] [] (c ∷ cs) d wa wc eb ed e = absurd (cc)
apart [] (b ∷ bs) (c ∷ cs) d wa wc eb ed e = let same : b ≡ c = cc in absurd (both_ways (is_break c) wc.0 (ap is_break (sym same) ∙ eb))
apart (a ∷ as') b [] [] wa wc eb ed e = absurd (cc)
apart (a ∷ as') b [] (d ∷ ds) wa wc eb ed e = let same : a ≡ d = cc in absurd (both_ways (is_break a) wa.0 (ap is_break same ∙ ed))
apart (a ∷ as') b (c ∷ cs) d wa wc eb ed e =
    let rest : as' ++ b ≡ cs ++ d = cc in
    let head : a ≡ c = cc in
    let more = apart as' b cs d wa.1 wc.1 eb ed rest in
    (ap (λ x. x ∷ as') head ∙ ap (λ xs. c ∷ xs) more.0, more.1)

pub word_apart : (a b c d : List ℕ) → IsWord a → IsWord c → EndsWord b → EndsWord d → word a ++ b ≡ word c ++ d → (a ≡ c) × (b ≡ d)
word_apart a b c d wa wc eb ed e = let inner : a ++ b ≡ c ++ d = cc in apart a b c d wa wc eb ed inner

pub number_apart : (m n : ℕ) (b d : List ℕ) → m < 2 ^ 64 → n < 2 ^ 64 → EndsWord b → EndsWord d → number m ++ b ≡ number n ++ d → (m ≡ n) × (b ≡ d)
number_apart m n b d hm hn eb ed e =
    let parts = word_apart (decimal m) b (decimal n) d (decimal_is_word m) (decimal_is_word n) eb ed e in
    (decimal_injective m n hm hn parts.0, parts.1)

pub small_power : (z : ℤ) → IsPower z → mag z < 2 ^ 63
small_power (pos n) h = omega (arith, h)
small_power (negsuc n) h = omega (arith, h)

pub power_apart : (y z : ℤ) (b d : List ℕ) → IsPower y → IsPower z → EndsWord b → EndsWord d → word (signed_decimal y) ++ b ≡ word (signed_decimal z) ++ d → (y ≡ z) × (b ≡ d)
power_apart y z b d hy hz eb ed e =
    let parts = word_apart (signed_decimal y) b (signed_decimal z) d (signed_is_word y) (signed_is_word z) eb ed e in
    (signed_decimal_injective y z (small_power y hy) (small_power z hz) parts.0, parts.1)

abbrev value_of : ℕ → Value
value_of letter = if letter == 48 then Zero else if letter == 49 then One else if letter == 120 then X else Z

value_is : (v : Value) → value_of (value_letter v) ≡ v
value_is Zero = refl
value_is One = refl
value_is X = refl
value_is Z = refl

pub same_value : (v w : Value) → value_letter v ≡ value_letter w → v ≡ w
same_value v w e = sym (value_is v) ∙ (ap value_of e ∙ value_is w)

pub letter_apart : (v w : Value) (b d : List ℕ) → letter v ++ b ≡ letter w ++ d → (v ≡ w) × (b ≡ d)
letter_apart v w b d e =
    let same : value_letter v ≡ value_letter w = cc in
    let rest : b ≡ d = cc in
    (same_value v w same, rest)

no_digits : AllDigits 10 (45 ∷ []) → ⊥
no_digits h = let d = digit_from_value 45 h.0 in omega (arith, d.0)

pub same_event : (e f : Option ℕ) → IsTime e → IsTime f → event_text e ≡ event_text f → e ≡ f
same_event None None he hf same = refl
same_event None (Some t) he hf same = absurd (no_digits (subst (AllDigits 10) (sym same) (decimal_is_digits t hf)))
same_event (Some s) None he hf same = absurd (no_digits (subst (AllDigits 10) same (decimal_is_digits s he)))
same_event (Some s) (Some t) he hf same = ap Some (decimal_injective s t he hf same)

pub event_apart : (e f : Option ℕ) (b d : List ℕ) → IsTime e → IsTime f → EndsWord b → EndsWord d → event_word e ++ b ≡ event_word f ++ d → (e ≡ f) × (b ≡ d)
event_apart e f b d he hf eb ed same =
    let words : word (event_text e) ++ b ≡ word (event_text f) ++ d = ap (λ t. t ++ b) (sym (event_is e)) ∙ (same ∙ ap (λ t. t ++ d) (event_is f)) in
    let parts = word_apart (event_text e) b (event_text f) d (event_is_word e) (event_is_word f) eb ed words in
    (same_event e f he hf parts.0, parts.1)
