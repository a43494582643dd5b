-- Names and ranges as a dump has them, and as they are read back.
use Rattle.std.specs.Prelude.{◌≡◌, ℕ, zero, suc, ◌==◌, ◌&&◌, not, nat_lt, Bool, true, false, if◌then◌else◌, List, [], ◌∷◌, ◌++◌, length, take, drop, bytes_eq, codes, Option, Some, None, refl}
use Rattle.std.specs.List.{list_all, list_any}
use Rattle.std.specs.Fmt.{signed_decimal}
use Rattle.std.proofs.Common.{sym, ◌∙◌, ap, arith}
use Rattle.std.proofs.lemmas.Bool.{and_from, and_left, and_parts, and_right, eqb-true, false_from_ne_true, lt-ltb, not_from_false, or_left, or_right}
use Rattle.std.proofs.lemmas.List.Folds.{list_any-append}
use Rattle.sg_text.specs.Names.{is_name_byte, is_name_start, is_simple}
use Rattle.sg_text.specs.Words.{is_reserved_word}
use Rattle.sg_circuit.specs.declared.scopes.Range.{Range}
use Rattle.wave_out.specs.Texts.{written_name}
use Rattle.vcd_form.specs.Kinds.{is_range_text}
use Rattle.vcd_form.specs.Words.{is_blank}
use Rattle.vcd_model.specs.Inputs.{bare, called_by, has_colon, index_of, inside, split_name, Called}
use Rattle.vcd_laws.proofs.Entries.{range_said, range_word}
use Rattle.vcd_laws.proofs.Rows.{is_long, is_word}
use Rattle.vcd_laws.proofs.WordKinds.{no_keyword}

-- a byte that doesn't pass a test is none that does
other_byte : (test : ℕ → Bool) (c b : ℕ) → test c ≡ false → test b ≡ true → (b == c) ≡ false
other_byte test c b n h = false_from_ne_true (b == c) (λ e. (let q : false ≡ true = sym n ∙ (ap test (sym (eqb-true b c e)) ∙ h) in cc))

other_bytes : (test : ℕ → Bool) (c : ℕ) (bs : List ℕ) → test c ≡ false → list_all test bs ≡ true → list_all (λ b. not (b == c)) bs ≡ true
other_bytes test c [] n h = refl
other_bytes test c (b ∷ bs) n h =
    let p = and_parts (test b) (list_all test bs) h in
    and_from (not (b == c)) (list_all (λ x. not (x == c)) bs) (not_from_false (b == c) (other_byte test c b n p.0)) (other_bytes test c bs n p.1)

-- a name without a bracket has no range in it
un_not : (b : Bool) → not b ≡ true → b ≡ false
un_not true h = absurd (let q : false ≡ true = h in cc)
un_not false h = refl

no_range : (n : ℕ) (text : List ℕ) → list_all (λ b. not (b == 91)) text ≡ true → is_range_text (drop n text) ≡ false
no_range zero [] h = refl
no_range zero (b ∷ bs) h = and_left (b == 91) _ (un_not (b == 91) (and_parts (not (b == 91)) (list_all (λ x. not (x == 91)) bs) h).0)
no_range (suc n) [] h = refl
no_range (suc n) (b ∷ bs) h = no_range n bs (and_parts (not (b == 91)) (list_all (λ x. not (x == 91)) bs) h).1

split_whole : (text : List ℕ) → list_all (λ b. not (b == 91)) text ≡ true → split_name text ≡ (text, None)
split_whole text h = at _
  where
    at : (n : ℕ) → ◌≡◌ {A = Called} (if nat_lt 0 n && is_range_text (drop n text) then (take n text, Some (drop n text)) else (text, None)) (text, None)
    at n = ap (λ b. if b then (take n text, Some (drop n text)) else (text, None)) (and_right (nat_lt 0 n) (is_range_text (drop n text)) (no_range n text h))

-- a simple name begins with no backslash, dollar sign or bracket, and has no bracket
simple_start : (b : ℕ) (bs : List ℕ) (c : ℕ) → is_name_start c ≡ false → is_simple (b ∷ bs) ≡ true → (b == c) ≡ false
simple_start b bs c n h = other_byte is_name_start c b n (and_parts (is_name_start b) (list_all is_name_byte bs) h).0

no_bracket : (b : ℕ) (bs : List ℕ) → is_simple (b ∷ bs) ≡ true → list_all (λ x. not (x == 91)) (b ∷ bs) ≡ true
no_bracket b bs h =
    and_from (not (b == 91)) (list_all (λ x. not (x == 91)) bs) (not_from_false (b == 91) (simple_start b bs 91 refl h)) (other_bytes is_name_byte 91 bs refl (and_parts (is_name_start b) (list_all is_name_byte bs) h).1)

-- what is so of a written name: where it is simple, and where it is escaped
by_writing : (P : List ℕ → Type 0) (name : List ℕ) → (is_simple name ≡ true → P name) → P (92 ∷ name) → P (written_name name)
by_writing P name plain escaped = at (is_simple name && not (is_reserved_word name)) refl
  where
    at : (b : Bool) → (is_simple name && not (is_reserved_word name)) ≡ b → P (if b then name else 92 ∷ name)
    at true e = plain (and_parts (is_simple name) (not (is_reserved_word name)) e).0
    at false e = escaped

pub bare_written : (name : List ℕ) → bare (written_name name) ≡ name
bare_written name = by_writing (λ n. bare n ≡ name) name (at name) refl
  where
    at : (n : List ℕ) → is_simple n ≡ true → bare n ≡ n
    at [] h = refl
    at (b ∷ bs) h = ap (λ t. if t then bs else b ∷ bs) (simple_start b bs 92 refl h)

pub called_written : (name : List ℕ) (range : Option (List ℕ)) → (called_by (written_name name) range).0 ≡ name
called_written name (Some r) = bare_written name
called_written name None = by_writing (λ n. (called_by n None).0 ≡ name) name (at name) refl
  where
    at : (n : List ℕ) → is_simple n ≡ true → (called_by n None).0 ≡ n
    at [] h = refl
    at (b ∷ bs) h = ap (λ t. (if t then (bs, None) else split_name (b ∷ bs)).0) (simple_start b bs 92 refl h) ∙ ap (λ (c : Called). c.0) (split_whole (b ∷ bs) (no_bracket b bs h))

colon_in : (r : Range) → has_colon (range_word r) ≡ true
colon_in r =
    let l : List ℕ = signed_decimal r.left in
    let m : List ℕ = signed_decimal r.right in
    list_any-append (λ b. b == 58) (codes "[" ++ l ++ codes ":" ++ m) (codes "]")
    ∙ or_left (list_any (λ b. b == 58) (codes "[" ++ l ++ codes ":" ++ m)) (list_any (λ b. b == 58) (codes "]"))
    (list_any-append (λ b. b == 58) (codes "[" ++ l ++ codes ":") m
    ∙ or_left (list_any (λ b. b == 58) (codes "[" ++ l ++ codes ":")) (list_any (λ b. b == 58) m)
    (list_any-append (λ b. b == 58) (codes "[" ++ l) (codes ":") ∙ or_right (list_any (λ b. b == 58) (codes "[" ++ l)) (list_any (λ b. b == 58) (codes ":")) refl))

-- a range of two numbers is no index
pub no_index : (name : List ℕ) (range : Option Range) → index_of (called_by (written_name name) (range_said range)).1 ≡ None
no_index name (Some r) = ap (λ b. if b then None else Some (inside (range_word r))) (colon_in r)
no_index name None = by_writing (λ n. index_of (called_by n None).1 ≡ None) name (at name) refl
  where
    at : (n : List ℕ) → is_simple n ≡ true → index_of (called_by n None).1 ≡ None
    at [] h = refl
    at (b ∷ bs) h = ap (λ t. index_of (if t then (bs, None) else split_name (b ∷ bs)).1) (simple_start b bs 92 refl h) ∙ ap (λ (c : Called). index_of c.1) (split_whole (b ∷ bs) (no_bracket b bs h))

-- a written name is a word, and isn't `$end`
pub written_word : (name : List ℕ) → is_word name ≡ true → is_word (written_name name) ≡ true
written_word name h = by_writing (λ n. is_word n ≡ true) name (λ s. h) (and_from (is_long (92 ∷ name)) (list_all (λ b. not (is_blank b)) (92 ∷ name)) (lt-ltb 0 (length (92 ∷ name)) (omega arith)) (and_parts (is_long name) (list_all (λ b. not (is_blank b)) name) h).1)

pub written_not_end : (name : List ℕ) → bytes_eq (written_name name) (codes "$end") ≡ false
written_not_end name = by_writing (λ n. bytes_eq n (codes "$end") ≡ false) name (at name) (no_keyword 92 name (codes "end") (λ e. (let q : 92 ≡ 36 = e in absurd (omega arith))))
  where
    at : (n : List ℕ) → is_simple n ≡ true → bytes_eq n (codes "$end") ≡ false
    at [] h = absurd (let q : false ≡ true = h in cc)
    at (b ∷ bs) h = no_keyword b bs (codes "end") (λ e. (let q : false ≡ true = sym (simple_start b bs 36 refl h) ∙ eq_true b e in cc))
      where
        eq_true : (x : ℕ) → x ≡ 36 → (x == 36) ≡ true
        eq_true x f = ap (λ y. y == 36) f
