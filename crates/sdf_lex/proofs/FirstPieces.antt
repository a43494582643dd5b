-- The piece that the code finds has its form, and no other has a form that isn't shorter.
use Rattle.std.proofs.Common.{◌≡◌, ℕ, ◌-◌, List, [], ◌∷◌, ◌++◌, length, take, drop, Bool, true, false, refl, sym, ap, ◌∙◌, subst, arith, inl, inr}
use Rattle.std.specs.Prelude.{Option, Some, None, ◌==◌, ◌||◌, not, nat_lt, if◌then◌else◌}
use Rattle.std.specs.List.{prefix_len}
use Rattle.std.specs.Char.{is_ascii_graphic}
use Rattle.std.proofs.lemmas.Bool.{cases_Bool, eqb-true, eqb-false, ne_eqb, ltb-true, ltb-false}
use Rattle.std.proofs.lemmas.List.{append-nil, append_assoc, take_at, take-append-drop}
use Rattle.sg_text.specs.Names.{is_name_byte}
use Rattle.vl_pieces.specs.Bytes.{is_blank, is_inline}
use Rattle.vl_pieces.specs.Ends.{end_of}
use Rattle.sdf_lex.specs.declared.bytes.ByteClass.{ByteClass}
use Rattle.sdf_lex.specs.declared.bytes.ByteClass.TheVariants as class
use Rattle.sdf_lex.specs.declared.letters.Letter.{Letter}
use Rattle.sdf_lex.specs.Bytes.{is_word_mark, is_sign, is_operator_byte, class_of, is_good, is_unquoted, begins_number, begins_good}
use Rattle.sdf_lex.specs.Words.{may_be}
use Rattle.sdf_lex.specs.Pieces.{Piece, line_comment, text_piece, mark_piece, spelling, is_mark, HasForm}
use Rattle.sdf_lex.specs.PieceBridge.{run_of, comment_of, slash_piece, quote_piece, class_piece, other_piece, word_or, first_piece}
use Rattle.vl_pieces.proofs.Runs.{run_form}
use Rattle.sdf_lex.proofs.RunLaws.{plain_end, run_plain, run_escaped}
use Rattle.sdf_lex.proofs.WordLaws.{IsRun, run_stands}
use Rattle.sdf_lex.proofs.EndLaws.{run_stop, run_whole, end_parts, symbol_found}

-- ---- the classes of single bytes

-- the class by the tests in their order
picked : (a b c d e f g h : Bool) → ByteClass
picked a b c d e f g h = if a then class.Blank else if b then class.Plain else if c then class.Slash else if d then class.Sign else if e then class.Backslash else if f then class.Quote else if g then class.Operator else if h then class.Mark else class.Bad

-- the test that a class rests on, where one byte alone passes it
test_of : ByteClass → (c e f : Bool) → Bool
test_of class.Slash c e f = c
test_of class.Backslash c e f = e
test_of class.Quote c e f = f
test_of _ c e f = true

test_passed : (a b c d e f g h : Bool) → test_of (picked a b c d e f g h) c e f ≡ true
unfolding picked test_of
test_passed true b c d e f g h = refl
test_passed false true c d e f g h = refl
test_passed false false true d e f g h = refl
test_passed false false false true e f g h = refl
test_passed false false false false true f g h = refl
test_passed false false false false false true g h = refl
test_passed false false false false false false true h = refl
test_passed false false false false false false false true = refl
test_passed false false false false false false false false = refl

tested : (b : ℕ) → test_of (class_of b) (b == 47) (b == 92) (b == 34) ≡ true
unfolding picked class_of
tested b = test_passed (is_blank b) (is_name_byte b || is_word_mark b) (b == 47) (is_sign b) (b == 92) (b == 34) (is_operator_byte b) (is_ascii_graphic b)

slash_is : (b : ℕ) → class_of b ≡ class.Slash → b ≡ 47
unfolding test_of
slash_is b e = eqb-true b 47 (rw e at (tested b))

pub backslash_is : (b : ℕ) → class_of b ≡ class.Backslash → b ≡ 92
unfolding test_of
backslash_is b e = eqb-true b 92 (rw e at (tested b))

quote_is : (b : ℕ) → class_of b ≡ class.Quote → b ≡ 34
unfolding test_of
quote_is b e = eqb-true b 34 (rw e at (tested b))

slash_class : class_of 47 ≡ class.Slash
unfolding class_of
slash_class = refl

pub backslash_class : class_of 92 ≡ class.Backslash
unfolding class_of
backslash_class = refl

quote_class : class_of 34 ≡ class.Quote
unfolding class_of
quote_class = refl

-- bytes of two classes are two
apart : (b n : ℕ) (k m : ByteClass) → class_of b ≡ k → class_of n ≡ m → (k ≡ m → ⊥) → (b == n) ≡ false
apart b n k m e f differs = ne_eqb b n (λ same. absurd (differs (sym e ∙ ap (λ x. class_of x) same ∙ f)))

pub false_true : false ≡ true → ⊥
false_true e = cc

not_nil : {l : Letter} {ls : List Letter} → [] ≡ l ∷ ls → ⊥
not_nil e = cc

-- ---- a byte that begins no word, no text and no comment

pub record IsSingle (k : ByteClass) (after : List ℕ) : Type 0 where
  no_slash : k ≡ class.Slash → ⊥
  no_backslash : k ≡ class.Backslash → ⊥
  no_quote : k ≡ class.Quote → ⊥
  no_letter : may_be k None 0 after ≡ false

same_letter : (k : ByteClass) (b : ℕ) (after : List ℕ) → may_be k None 0 after ≡ false → may_be k None b after ≡ false
same_letter class.Blank b after h = h
same_letter class.Plain b after h = h
same_letter class.Slash b after h = h
same_letter class.Sign b after h = h
same_letter class.Backslash b after h = h
same_letter class.Quote b after h = h
same_letter class.Operator b after h = h
same_letter class.Mark b after h = h
same_letter class.Bad b after h = h

pub single_first : (b : ℕ) (after : List ℕ) (k : ByteClass) → class_of b ≡ k → IsSingle k after → first_piece (b ∷ after) ≡ class_piece k b after
single_first b after k e s =
    let letter : may_be (class_of b) None b after ≡ false = rw e (same_letter k b after s.no_letter) in
    let none : run_of None (b ∷ after) ≡ [] = plain_end None b after (apart b 92 k class.Backslash e backslash_class s.no_backslash) letter in
    rw (none, apart b 34 k class.Quote e quote_class s.no_quote, apart b 47 k class.Slash e slash_class s.no_slash, e) refl

pub blank_single : (after : List ℕ) → IsSingle class.Blank after
blank_single after = record { no_slash = λ e. cc; no_backslash = λ e. cc; no_quote = λ e. cc; no_letter = refl }

pub operator_single : (after : List ℕ) → IsSingle class.Operator after
operator_single after = record { no_slash = λ e. cc; no_backslash = λ e. cc; no_quote = λ e. cc; no_letter = refl }

pub mark_single : (after : List ℕ) → IsSingle class.Mark after
mark_single after = record { no_slash = λ e. cc; no_backslash = λ e. cc; no_quote = λ e. cc; no_letter = refl }

pub bad_single : (after : List ℕ) → IsSingle class.Bad after
bad_single after = record { no_slash = λ e. cc; no_backslash = λ e. cc; no_quote = λ e. cc; no_letter = refl }

pub sign_single : (after : List ℕ) → begins_number after ≡ false → IsSingle class.Sign after
sign_single after h = record { no_slash = λ e. cc; no_backslash = λ e. cc; no_quote = λ e. cc; no_letter = h }

-- ---- what is found has its form

pub record Found (p : Piece) (text : List ℕ) : Type 0 where
  pub after : List ℕ
  pub spells : spelling p ++ after ≡ text
  pub form : HasForm p after

quote_found : (bs : List ℕ) → Found (quote_piece bs) (34 ∷ bs)
quote_found bs = elim (cases_Bool (nat_lt (prefix_len is_unquoted bs) (length bs))) [
  | inl y ↦
      let r = run_stop is_unquoted bs (ltb-true (prefix_len is_unquoted bs) (length bs) y) in
      let quoted : r.0 ≡ 34 = quote_from (r.0) r.3 in
      rw y (ended r.0 r.1 quoted r.2)
  | inr n ↦
      let whole = run_whole is_unquoted bs (ltb-false (prefix_len is_unquoted bs) (length bs) n) in
      rw n (record { after = []; spells = ap (λ xs. 34 ∷ xs) (append-nil bs); form = (whole, refl) })
]
  where
    quote_from : (x : ℕ) → is_unquoted x ≡ false → x ≡ 34
    quote_from x h = eqb-true x 34 (from_not (x == 34) h)
      where
        from_not : (t : Bool) → not t ≡ false → t ≡ true
        from_not true q = refl
        from_not false q = absurd (false_true (sym q))

    ended : (x : ℕ) (rest : List ℕ) → x ≡ 34 → bs ≡ take (prefix_len is_unquoted bs) bs ++ x ∷ rest → Found (text_piece (take (prefix_len is_unquoted bs) bs)) (34 ∷ bs)
    ended x rest e parts = record {
      after = rest;
      spells = ap (λ xs. 34 ∷ xs) (append_assoc (take (prefix_len is_unquoted bs) bs) (34 ∷ []) rest ∙ sym (subst (λ y. bs ≡ take (prefix_len is_unquoted bs) bs ++ y ∷ rest) e parts));
      form = run_form is_unquoted bs;
    }

comment_found : (inside : List ℕ) (o : Option ℕ) → end_of 42 47 inside ≡ o → Found (comment_of inside o) (47 ∷ 42 ∷ inside)
comment_found inside None h = record { after = []; spells = ap (λ xs. 47 ∷ 42 ∷ xs) (append-nil inside); form = (h, refl) }
comment_found inside (Some e) h =
    let r = end_parts 0 e inside h in
    let size : e - 2 ≡ length r.inside = (let s = r.size in omega arith) in
    let front : take (e - 2) inside ≡ r.inside = rw size (ap (λ xs. take (length r.inside) xs) r.parts ∙ take_at r.inside (42 ∷ 47 ∷ r.rest) (length r.inside) refl) in
    rw front (record {
      after = r.rest;
      spells = ap (λ xs. 47 ∷ 42 ∷ xs) (append_assoc r.inside (42 ∷ 47 ∷ []) r.rest ∙ sym r.parts);
      form = r.first;
    })

slash_found : (bs : List ℕ) → run_of None (47 ∷ bs) ≡ [] → Found (slash_piece bs) (47 ∷ bs)
unfolding class_of
slash_found [] h = absurd (not_nil (sym h))
slash_found (c ∷ cs) h = elim (cases_Bool (c == 47)) [
  | inl y ↦ rw y (line (eqb-true c 47 y))
  | inr n ↦ elim (cases_Bool (c == 42)) [
    | inl y ↦ rw n (subst (λ x. Found (comment_of cs (end_of 42 47 cs)) (47 ∷ x ∷ cs)) (sym (eqb-true c 42 y)) (comment_found cs (end_of 42 47 cs) refl))
    | inr m ↦ absurd (not_nil (sym (rw (n, m) at h)))
  ]
]
  where
    line : c ≡ 47 → Found (line_comment (take (prefix_len is_inline cs) cs)) (47 ∷ c ∷ cs)
    line e = record {
      after = drop (prefix_len is_inline cs) cs;
      spells = rw e (ap (λ xs. 47 ∷ 47 ∷ xs) (take-append-drop (prefix_len is_inline cs) cs));
      form = run_form is_inline cs;
    }

-- where no word begins
no_letters : (b : ℕ) (bs : List ℕ) → run_of None (b ∷ bs) ≡ [] → may_be (class_of b) None b bs ≡ false
no_letters b bs h = elim (cases_Bool (may_be (class_of b) None b bs)) [
  | inl y ↦ absurd (not_nil (sym h ∙ run_plain None b bs y))
  | inr n ↦ n
]

backslash_alone : (bs : List ℕ) → run_of None (92 ∷ bs) ≡ [] → begins_good bs ≡ false
backslash_alone [] h = refl
backslash_alone (c ∷ cs) h = elim (cases_Bool (is_good (class_of c))) [
  | inl y ↦ absurd (not_nil (sym h ∙ run_escaped None c cs y))
  | inr n ↦ n
]

single : (b : ℕ) (bs : List ℕ) → is_mark (class_of b) bs ≡ true → Found (mark_piece b) (b ∷ bs)
single b bs h = record { after = bs; spells = refl; form = h }

class_found : (b : ℕ) (bs : List ℕ) (k : ByteClass) → class_of b ≡ k → (b == 34) ≡ false → (b == 47) ≡ false → run_of None (b ∷ bs) ≡ [] → Found (class_piece k b bs) (b ∷ bs)
class_found b bs class.Blank e q s h = record { after = bs; spells = refl; form = e }
class_found b bs class.Plain e q s h = absurd (false_true (sym (rw e at (no_letters b bs h))))
class_found b bs class.Slash e q s h = absurd (eqb-false b 47 s (slash_is b e))
class_found b bs class.Sign e q s h =
    let none : begins_number bs ≡ false = rw e at (no_letters b bs h) in
    single b bs (rw (e, none) refl)
class_found b bs class.Backslash e q s h =
    let none : begins_good bs ≡ false = backslash_alone bs (subst (λ x. run_of None (x ∷ bs) ≡ []) (backslash_is b e) h) in
    single b bs (rw (e, none) refl)
class_found b bs class.Quote e q s h = absurd (eqb-false b 34 q (quote_is b e))
class_found b bs class.Operator e q s h =
    let r = symbol_found b bs in
    rw r.2 (record { after = r.1; spells = r.3; form = (e, r.4) })
class_found b bs class.Mark e q s h = single b bs (rw e refl)
class_found b bs class.Bad e q s h = record { after = bs; spells = refl; form = e }

other_found : (b : ℕ) (bs : List ℕ) → run_of None (b ∷ bs) ≡ [] → Found (other_piece b bs) (b ∷ bs)
other_found b bs h = elim (cases_Bool (b == 34)) [
  | inl y ↦ rw y (subst (λ x. Found (quote_piece bs) (x ∷ bs)) (sym (eqb-true b 34 y)) (quote_found bs))
  | inr n ↦ elim (cases_Bool (b == 47)) [
    | inl y ↦
        let slash : run_of None (47 ∷ bs) ≡ [] = subst (λ x. run_of None (x ∷ bs) ≡ []) (eqb-true b 47 y) h in
        rw (n, y) (subst (λ x. Found (slash_piece bs) (x ∷ bs)) (sym (eqb-true b 47 y)) (slash_found bs slash))
    | inr m ↦ rw (n, m) (class_found b bs (class_of b) refl n m h)
  ]
]

word_found : (b : ℕ) (bs : List ℕ) (ls : List Letter) → run_of None (b ∷ bs) ≡ ls → IsRun None ls (b ∷ bs) → Found (word_or ls (other_piece b bs)) (b ∷ bs)
word_found b bs [] e r = other_found b bs e
word_found b bs (l ∷ ls) e r = record { after = r.after; spells = r.spells; form = r.fits }

pub first_found : (b : ℕ) (bs : List ℕ) → Found (first_piece (b ∷ bs)) (b ∷ bs)
first_found b bs = word_found b bs (run_of None (b ∷ bs)) refl (run_stands None (b ∷ bs))
