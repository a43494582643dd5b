-- Words that are read as numbers, and words that aren't.
use Rattle.std.proofs.Common.{◌≡◌, ℕ, ℤ, pos, negsuc, ◌≤◌, Bool, true, false, not, List, length, refl, sym, ◌∙◌, ap, subst, arith, ltb, cond, of_z, to_z, w8}
use Rattle.std.specs.Prelude.{MatchResult, Option, Some, None, Result, Ok, Err, FitsSigned, decimal}
use Rattle.std.specs.Fmt.{signed_decimal}
use Rattle.std.specs.List.{position, position_or_len}
use Rattle.std.specs.Option.{unwrap_or}
use Rattle.std.specs.Result.{result_ok}
use Rattle.std.specs.Str.{IsUtf8, bytes_eq}
use Rattle.std.specs.Str.Parse.{ParsesSigned, ParsesUnsigned}
use Rattle.std.proofs.lemmas.Bool.{both_ways, ltb-false}
use Rattle.std.proofs.lemmas.Fmt.{IsAscii-decimal, IsAscii-signed, parse-decimal, parse-signed_decimal}
use Rattle.std.proofs.lemmas.Int.{to_z-of_z}
use Rattle.std.proofs.lemmas.List.Sums.{prefix_len-le-length}
use Rattle.std.proofs.lemmas.Slice.Eq.{bytes_eq-Decides}
use Rattle.std.proofs.lemmas.Str.{IsUtf8-from_ascii}
use Rattle.sim_save.specs.Breaks.{is_break}
use Rattle.sim_save.specs.Faults.{IsPower}
use Rattle.sim_save.specs.Taking.{Is32, Is64, NoneOfForm}
use Rattle.sim_save.proofs.WordLaws.{small_power}

-- ---- what a result was

pub failed : {T E : Type 0} (P : T → Type 0) (Q : E → Type 0) (r : Result T E) → MatchResult r P Q → None ≡ result_ok r → (e : E) × Q e
failed P Q (Ok x) h e = absurd (cc)
failed P Q (Err y) h e = (y, h)

pub worked : {T E : Type 0} (P : T → Type 0) (Q : E → Type 0) (r : Result T E) (x : T) → MatchResult r P Q → Some x ≡ result_ok r → P x
worked P Q (Ok y) x h e = let same : y ≡ x = cc in subst P same h
worked P Q (Err y) x h e = absurd (cc)

found : {T E : Type 0} (r : Result T E) (x : T) → r ≡ Ok x → None ≡ result_ok r → ⊥
found r x e h = let some : None ≡ Some x = h ∙ ap result_ok e in cc

same_found : {T E : Type 0} (r : Result T E) (x y : T) → r ≡ Ok x → Some y ≡ result_ok r → y ≡ x
same_found r x y e h = let some : Some y ≡ Some x = h ∙ ap result_ok e in cc

-- ---- numbers

pub fits_power : (z : ℤ) → IsPower z → FitsSigned w8 z
fits_power (pos n) h = record { sfits = h }
fits_power (negsuc n) h = record { sfits = h }

pub no_text_number : (word : List ℕ) → (IsUtf8 word → ⊥) → NoneOfForm Is64 decimal word
no_text_number word h n f e = h (subst IsUtf8 (sym e) (IsUtf8-from_ascii (decimal n) (IsAscii-decimal n f)))

pub no_text_count : (word : List ℕ) → (IsUtf8 word → ⊥) → NoneOfForm Is32 decimal word
no_text_count word h n f e = no_text_number word h n (omega (arith, f)) e

pub no_text_power : (word : List ℕ) → (IsUtf8 word → ⊥) → NoneOfForm IsPower signed_decimal word
no_text_power word h z f e = h (subst IsUtf8 (sym e) (IsUtf8-from_ascii (signed_decimal z) (IsAscii-signed z (small_power z f))))

pub no_parsed_number : {E : Type 0} (word text : List ℕ) (r : Result ℕ E) → text ≡ word → ParsesUnsigned 64 10 text r → None ≡ result_ok r → NoneOfForm Is64 decimal word
no_parsed_number word text r t p h n f e = found r n (parse-decimal 64 n text r f f (t ∙ e) p) h

pub no_parsed_count : {E : Type 0} (word text : List ℕ) (r : Result ℕ E) → text ≡ word → ParsesUnsigned 32 10 text r → None ≡ result_ok r → NoneOfForm Is32 decimal word
no_parsed_count word text r t p h n f e = found r n (parse-decimal 32 n text r f (omega (arith, f)) (t ∙ e) p) h

pub no_parsed_power : {E : Type 0} (word text : List ℕ) (r : Result ℤ E) → text ≡ word → ParsesSigned w8 10 text r → None ≡ result_ok r → NoneOfForm IsPower signed_decimal word
no_parsed_power word text r t p h z f e = found r z (parse-signed_decimal w8 z text r (fits_power z f) (small_power z f) (t ∙ e) p) h

pub other_number : {E : Type 0} (word text shown : List ℕ) (r : Result ℕ E) (m : ℕ) → text ≡ word → ParsesUnsigned 64 10 text r → Some m ≡ result_ok r → shown ≡ decimal m → bytes_eq shown word ≡ false → NoneOfForm Is64 decimal word
other_number word text shown r m t p h s d n f e =
    let same = same_found r n m (parse-decimal 64 n text r f f (t ∙ e) p) h in
    both_ways (bytes_eq shown word) d ((bytes_eq-Decides shown word).1 (s ∙ (ap decimal same ∙ sym e)))

pub other_count : {E : Type 0} (word text shown : List ℕ) (r : Result ℕ E) (m : ℕ) → text ≡ word → ParsesUnsigned 32 10 text r → Some m ≡ result_ok r → shown ≡ decimal m → bytes_eq shown word ≡ false → NoneOfForm Is32 decimal word
other_count word text shown r m t p h s d n f e =
    let same = same_found r n m (parse-decimal 32 n text r f (omega (arith, f)) (t ∙ e) p) h in
    both_ways (bytes_eq shown word) d ((bytes_eq-Decides shown word).1 (s ∙ (ap decimal same ∙ sym e)))

parsed_fits : {E : Type 0} (text : List ℕ) (r : Result ℤ E) (y : ℤ) → ParsesSigned w8 10 text r → Some y ≡ result_ok r → FitsSigned w8 y
parsed_fits text (Ok x) y p h =
    let same : y ≡ x = cc in
    subst (FitsSigned w8) (sym (same ∙ p.1)) p.0.1
parsed_fits text (Err e) y p h = absurd (cc)

-- what was read as a power isn't changed by its type
pub other_power : {E : Type 0} (word text shown : List ℕ) (r : Result ℤ E) (y : ℤ) → text ≡ word → ParsesSigned w8 10 text r → Some y ≡ result_ok r → shown ≡ signed_decimal (to_z w8 (of_z w8 y)) → bytes_eq shown word ≡ false → NoneOfForm IsPower signed_decimal word
other_power word text shown r y t p h s d z f e =
    let same = same_found r z y (parse-signed_decimal w8 z text r (fits_power z f) (small_power z f) (t ∙ e) p) h in
    let kept = to_z-of_z w8 y (parsed_fits text r y p h) in
    both_ways (bytes_eq shown word) d ((bytes_eq-Decides shown word).1 (s ∙ (ap signed_decimal (kept ∙ same) ∙ sym e)))

-- ---- where a word ends

end_by : (n m : ℕ) → n ≤ m → (test : Bool) → ltb n m ≡ test → unwrap_or (cond test (Some n) None) m ≡ n
end_by n m low true e = refl
end_by n m low false e = let high = ltb-false n m e in omega (arith, low, high)

pub end_of : (at : Option ℕ) (text : List ℕ) → at ≡ position is_break text → unwrap_or at (length text) ≡ position_or_len is_break text
end_of at text e =
    let n = position_or_len is_break text in
    let low = prefix_len-le-length (λ b. not (is_break b)) text in
    ap (λ o. unwrap_or o (length text)) e ∙ end_by n (length text) low (ltb n (length text)) refl

pub end_within : (text : List ℕ) (n : ℕ) → n ≡ position_or_len is_break text → n ≤ length text
end_within text n e = let low = prefix_len-le-length (λ b. not (is_break b)) text in omega (arith, low, e)
