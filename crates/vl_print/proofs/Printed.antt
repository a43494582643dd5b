-- Tokens that are put behind others for a value spell it, for each way of building a language.
use Rattle.std.proofs.Common.{◌≡◌, ℕ, ◌<◌, Bool, true, false, List, [], ◌∷◌, ◌++◌, length, map, Some, None, refl, sym, subst, ◌∙◌, arith, inl, inr, length-append}
use Rattle.std.specs.Prelude.{slice_get}
use Rattle.sg_text.specs.declared.places.Place.{Place}
use Rattle.grammar.specs.Exact.{Exact}
use Rattle.grammar.specs.Language.{Language, sequence, image, choice, at_most_once, repetition, no_language}
use Rattle.grammar.specs.Placed.{with_place}
use Rattle.grammar.specs.Reads.{Appends}
use Rattle.grammar.specs.Rule.{Rule, one, quoted, ◌▸◌}
use Rattle.grammar.proofs.Extents.{starts_so}
use Rattle.grammar.proofs.Mapped.{quoted-exact}
use Rattle.grammar.proofs.Results.{eqb_same}
use Rattle.grammar.proofs.Printing as printing
use Rattle.vl_token.specs.declared.tokens.Token.{Token}
use Rattle.vl_token.specs.Seen.{lexeme}
use Rattle.vl_token.specs.Tokens.{Lexeme, Meaning, symbol_token, word_token}
use Rattle.vl_token.specs.declared.symbols.Symbol.{Symbol}
use Rattle.vl_token.specs.declared.symbols.Symbol.TheVariants.{Comma}
use Rattle.vl_token.specs.Symbols.{symbol_number}
use Rattle.sg_text.specs.declared.words.Keyword.{Keyword}
use Rattle.sg_text.specs.Words.{keyword_number}
use Rattle.vl_tree.specs.Kinds.{Kind, kind_of, kind_of_meaning, is_symbol, is_word}
use Rattle.vl_tree.specs.Rules.{Grammar, mark, word, listed}
use Rattle.vl_print.specs.Printing.{Tokens, nowhere, put_token, put_mark, put_word, mark_at, word_at, put_optional, put_many, behind_comma, put_listed}

abbrev pub Over : Type 0 → Type 1
Over A = Language Lexeme A

-- some tokens of the code spell a value, anywhere
abbrev pub IsSpelled : {A : Type 0} → Over A → A → Type 0
IsSpelled l x = (ts : List Token) × (i : ℕ) × (j : ℕ) × l.Spells (map lexeme ts) i x j

-- what put makes of a value that is spelled spells it
abbrev pub Prints : {A : Type 0} → Over A → (A → Tokens → Tokens) → Type 0
Prints {A} l put = (x : A) → IsSpelled l x → (out : Tokens) → Appends l out (put x out) x

-- the first token from a position on has the place
abbrev pub BeginsAt : Place → ℕ → Tokens → Type 0
BeginsAt p i ts = (t : Lexeme) × (slice_get ts i ≡ Some t) × (t.place ≡ p)

-- the same for a value whose first token has a place
abbrev pub PrintsAt : {A : Type 0} → Over A → (Place → A → Tokens → Tokens) → Type 0
PrintsAt {A} l put = (p : Place) (x : A) → IsSpelled (with_place (λ t. t.place) l) (p, x) → (out : Tokens) → Appends l out (put p x out) x × BeginsAt p (length out) (put p x out)

-- ---- tokens

-- the token that was put stands where the others ended
pub at_end : (out : Tokens) (t : Lexeme) → slice_get (out ++ t ∷ []) (length out) ≡ Some t
at_end [] t = refl
at_end (u ∷ out) t = at_end out t

pub still_begins : (p : Place) (out new more : Tokens) (front : Tokens) → new ≡ front ++ more → length out < length front → BeginsAt p (length out) front → BeginsAt p (length out) new
still_begins p out new more front e lt (t, at, is) = (t, rw e (printing.get_before front more (length out) lt) ∙ at, is)

-- a token of a kind that carries a value
pub token_printed : {A : Type 0} (f : Lexeme → A) (is : Kind → Bool) (meaning : Meaning) (place : Place) (x : A) (out : Tokens)
    → f (record { meaning = meaning; place = place }) ≡ x → is (kind_of_meaning meaning) ≡ true → Appends (image f (one kind_of is).language) out (put_token meaning place out) x
token_printed f is meaning place x out e h =
    let t : Lexeme = record { meaning = meaning; place = place } in
    subst (λ y. Appends (image f (one kind_of is).language) out (put_token meaning place out) y) e
    (printing.appends_mapped f (one kind_of is).language out (put_token meaning place out) t (printing.appends_one kind_of is out (put_token meaning place out) t refl h))

-- a token that leaves no trace
pub quoted_printed : (is : Kind → Bool) (meaning : Meaning) (place : Place) (out : Tokens) → is (kind_of_meaning meaning) ≡ true → Appends (quoted kind_of is).language out (put_token meaning place out) tt
quoted_printed is meaning place out h = token_printed (λ _. tt) is meaning place tt out refl h

-- ---- ways of building

pub mapped_prints : {A B : Type 0} (f : A → B) (l : Over A) (put : A → Tokens → Tokens) (make : B → Tokens → Tokens) → Prints l put → ((x : A) (out : Tokens) → make (f x) out ≡ put x out) → Prints (image f l) make
mapped_prints f l put make prints same y (ts, i, j, (x, e, s)) out =
    subst (λ z. Appends (image f l) out (make z out) z) e
    (rw (same x out) (printing.appends_mapped f l out (put x out) x (prints x (ts, i, j, s) out)))

pub seq_prints : {A B : Type 0} (a : Rule Lexeme Kind A) (b : Over B) (put_a : A → Tokens → Tokens) (put_b : B → Tokens → Tokens) → Exact kind_of a → Prints a.language put_a → Prints b put_b
    → Prints (sequence a.language b) (λ x out. put_b x.1 (put_a x.0 out))
seq_prints a b put_a put_b exact first second x (ts, i, j, (m, s, t)) out =
    printing.appends_seq kind_of a b exact out (put_a x.0 out) (put_b x.1 (put_a x.0 out)) x.0 x.1 (first x.0 (ts, i, m, s) out) (second x.1 (ts, m, j, t) (put_a x.0 out))

pub either_prints : {A : Type 0} (a b : Over A) (put : A → Tokens → Tokens) → Prints a put → Prints b put → Prints (choice a b) put
either_prints a b put left right x (ts, i, j, inl s) out = printing.appends_left a b out (put x out) x (left x (ts, i, j, s) out)
either_prints a b put left right x (ts, i, j, inr s) out = printing.appends_right a b out (put x out) x (right x (ts, i, j, s) out)

pub optional_prints : {A : Type 0} (a : Over A) (put : A → Tokens → Tokens) → Prints a put → Prints (at_most_once a) (put_optional put)
optional_prints a put prints None (ts, i, j, s) out = printing.appends_none a out
optional_prints a put prints (Some x) (ts, i, j, s) out = printing.appends_some a out (put x out) x (prints x (ts, i, j, s) out)

-- one part, and others behind it
part_and : {A : Type 0} (a : Rule Lexeme Kind A) → Exact kind_of a → (out mid new : Tokens) (x : A) (xs : List A) → Appends a.language out mid x → Appends (repetition a.language) mid new xs → Appends (repetition a.language) out new (x ∷ xs)
part_and a exact out mid new x xs p q =
    let r = printing.appends_seq kind_of a (repetition a.language) exact out mid new x xs p q in
    record { more = r.more; is = r.is; spells = r.spells }

pub many_prints : {A : Type 0} (a : Rule Lexeme Kind A) (put : A → Tokens → Tokens) → Exact kind_of a → Prints a.language put → Prints (repetition a.language) (put_many put)
many_prints a put exact prints [] (ts, i, j, s) out = printing.appends_no_part kind_of a out
many_prints a put exact prints (x ∷ xs) (ts, i, j, (m, s, t)) out = part_and a exact out (put x out) (put_many put xs (put x out)) x xs (prints x (ts, i, m, s) out) (many_prints a put exact prints xs (ts, m, j, t) (put x out))

-- ---- with the place of the first token

-- a value with the place of the first token that was put
pub placed_printed : {A B : Type 0} (f : Place × A → B) (l : Over A) (p : Place) (x : A) (out new : Tokens) → Appends l out new x → BeginsAt p (length out) new → Appends (image f (with_place (λ t. t.place) l)) out new (f (p, x))
placed_printed f l p x out new a b = printing.appends_mapped f (with_place (λ t. t.place) l) out new (p, x) (record { more = a.more; is = a.is; spells = (b.0, b.1, b.2, a.spells) })

pub placed_prints : {A B : Type 0} (f : Place × A → B) (l : Over A) (put : Place → A → Tokens → Tokens) (make : B → Tokens → Tokens) → PrintsAt l put → ((x : Place × A) (out : Tokens) → make (f x) out ≡ put x.0 x.1 out) → Prints (image f (with_place (λ t. t.place) l)) make
placed_prints f l put make prints same y (ts, i, j, (x, e, s)) out =
    let p = prints x.0 x.1 (ts, i, j, s) out in
    let placed : Appends (with_place (λ t. t.place) l) out (put x.0 x.1 out) x = record { more = p.0.more; is = p.0.is; spells = (p.1.0, p.1.1, p.1.2, p.0.spells) } in
    subst (λ z. Appends (image f (with_place (λ t. t.place) l)) out (make z out) z) e (rw (same x out) (printing.appends_mapped f (with_place (λ t. t.place) l) out (put x.0 x.1 out) x placed))

pub longer : (out : Tokens) (t : Lexeme) → length out < length (out ++ t ∷ [])
longer out t = omega (arith, length-append out (t ∷ []))

-- what a value is when a part leaves no trace
pub spelled_as : {A : Type 0} (l : Over A) (x y : A) → x ≡ y → IsSpelled l x → IsSpelled l y
spelled_as l x y e s = subst (λ z. IsSpelled l z) e s

-- a token first, and what is put behind it
pub begins_behind : {A : Type 0} (b : Over A) (p : Place) (out mid new : Tokens) (x : A) → length out < length mid → BeginsAt p (length out) mid → Appends b mid new x → BeginsAt p (length out) new
begins_behind b p out mid new x lt begins q = still_begins p out new q.more mid q.is lt begins

pub begins_with : (meaning : Meaning) (p : Place) (out : Tokens) → BeginsAt p (length out) (put_token meaning p out)
begins_with meaning p out = (record { meaning = meaning; place = p }, at_end out (record { meaning = meaning; place = p }), refl)

-- a quoted token first
pub quoted_first : {A : Type 0} (is : Kind → Bool) (meaning : Meaning) (b : Over A) (put : A → Tokens → Tokens) → Exact kind_of (quoted kind_of is) → is (kind_of_meaning meaning) ≡ true → Prints b put
    → PrintsAt (image (λ x. x.1) (sequence (quoted kind_of is).language b)) (λ p x out. put x (put_token meaning p out))
quoted_first is meaning b put exact h prints p x (ts, i, j, (t, at, place, (y, e, (m, s, u)))) out =
    let mid = put_token meaning p out in
    let q = prints x (spelled_as b y.1 x e (ts, m, j, u)) mid in (
      printing.appends_mapped (λ (x : Unit {0} × _). x.1) (sequence (quoted kind_of is).language b) out (put x mid) (tt, x) (printing.appends_seq kind_of (quoted kind_of is) b exact out mid (put x mid) tt x (quoted_printed is meaning p out h) q),
      begins_behind b p out mid (put x mid) x (longer out (record { meaning = meaning; place = p })) (begins_with meaning p out) q,
    )

-- the same where the place is none of the tokens'
pub quoted_behind : {A : Type 0} (is : Kind → Bool) (meaning : Meaning) (b : Over A) (put : A → Tokens → Tokens) → Exact kind_of (quoted kind_of is) → is (kind_of_meaning meaning) ≡ true → Prints b put
    → (p : Place) (x : A) → IsSpelled (image (λ x. x.1) (sequence (quoted kind_of is).language b)) x → (out : Tokens)
    → Appends (image (λ x. x.1) (sequence (quoted kind_of is).language b)) out (put x (put_token meaning p out)) x × BeginsAt p (length out) (put x (put_token meaning p out))
quoted_behind is meaning b put exact h prints p x (ts, i, j, (y, e, (m, s, u))) out =
    let mid = put_token meaning p out in
    let q = prints x (spelled_as b y.1 x e (ts, m, j, u)) mid in (
      printing.appends_mapped (λ (x : Unit {0} × _). x.1) (sequence (quoted kind_of is).language b) out (put x mid) (tt, x) (printing.appends_seq kind_of (quoted kind_of is) b exact out mid (put x mid) tt x (quoted_printed is meaning p out h) q),
      begins_behind b p out mid (put x mid) x (longer out (record { meaning = meaning; place = p })) (begins_with meaning p out) q,
    )

-- a value made of another, with the place of its first token
pub mapped_first : {A B : Type 0} (f : A → B) (l : Over A) (put : Place → A → Tokens → Tokens) (make : Place → B → Tokens → Tokens) → PrintsAt l put → ((p : Place) (x : A) (out : Tokens) → make p (f x) out ≡ put p x out) → PrintsAt (image f l) make
mapped_first f l put make prints same p y (ts, i, j, (t, at, place, (x, e, s))) out =
    let q = prints p x (ts, i, j, (t, at, place, s)) out in
    subst (λ z. Appends (image f l) out (make p z out) z × BeginsAt p (length out) (make p z out)) e (rw (same p x out) (printing.appends_mapped f l out (put p x out) x q.0, q.1))

-- a part first whose first token has the place
pub first_prints : {A B : Type 0} (a : Rule Lexeme Kind A) (b : Over B) (put_a : Place → A → Tokens → Tokens) (put_b : B → Tokens → Tokens) → Exact kind_of a → a.empty ≡ false → PrintsAt a.language put_a → Prints b put_b
    → PrintsAt (sequence a.language b) (λ p x out. put_b x.1 (put_a p x.0 out))
first_prints a b put_a put_b exact full first second p x (ts, i, j, (t, at, place, (m, s, u))) out =
    let f = first p x.0 (ts, i, m, (t, at, place, s)) out in
    let mid = put_a p x.0 out in
    let q = second x.1 (ts, m, j, u) mid in (
      printing.appends_seq kind_of a b exact out mid (put_b x.1 mid) x.0 x.1 f.0 q,
      begins_behind b p out mid (put_b x.1 mid) x.1 (starts_so kind_of a exact full mid (length out) x.0 (length mid) f.0.spells).0 f.1 q,
    )

-- one of two, each with the place of its first token
pub either_first : {A : Type 0} (a b : Over A) (put : Place → A → Tokens → Tokens) → PrintsAt a put → PrintsAt b put → PrintsAt (choice a b) put
either_first a b put left right p x (ts, i, j, (t, at, place, inl s)) out = let f = left p x (ts, i, j, (t, at, place, s)) out in (printing.appends_left a b out (put p x out) x f.0, f.1)
either_first a b put left right p x (ts, i, j, (t, at, place, inr s)) out = let f = right p x (ts, i, j, (t, at, place, s)) out in (printing.appends_right a b out (put p x out) x f.0, f.1)

-- a word that says a value
pub word_first : {A : Type 0} (is : Kind → Bool) (meaning : Meaning) (v : A) (put : Place → A → Tokens → Tokens) → is (kind_of_meaning meaning) ≡ true → ((p : Place) (out : Tokens) → put p v out ≡ put_token meaning p out)
    → PrintsAt (image (λ _. v) (quoted kind_of is).language) put
word_first is meaning v put h same p x (ts, i, j, (t, at, place, (y, e, s))) out =
    let q = printing.appends_mapped (λ _. v) (quoted kind_of is).language out (put_token meaning p out) tt (quoted_printed is meaning p out h) in
    subst (λ z. Appends (image (λ _. v) (quoted kind_of is).language) out (put p z out) z × BeginsAt p (length out) (put p z out)) e (rw (same p out) (q, begins_with meaning p out))

-- the same where no place is asked
pub word_says : {A : Type 0} (is : Kind → Bool) (meaning : Meaning) (p : Place) (v : A) (put : A → Tokens → Tokens) → is (kind_of_meaning meaning) ≡ true → ((out : Tokens) → put v out ≡ put_token meaning p out) → Prints (image (λ _. v) (quoted kind_of is).language) put
word_says is meaning p v put h same x (ts, i, j, (y, e, s)) out =
    subst (λ z. Appends (image (λ _. v) (quoted kind_of is).language) out (put z out) z) e
    (rw (same out) (printing.appends_mapped (λ _. v) (quoted kind_of is).language out (put_token meaning p out) tt (quoted_printed is meaning p out h)))

-- ---- lists with commas

pub quoted_prints : (is : Kind → Bool) (meaning : Meaning) (place : Place) → is (kind_of_meaning meaning) ≡ true → Prints (quoted kind_of is).language (λ _ out. put_token meaning place out)
quoted_prints is meaning place h tt s out = quoted_printed is meaning place out h

-- a part, and a quoted token before or behind it
pub behind_prints : {A : Type 0} (is : Kind → Bool) (meaning : Meaning) (place : Place) (b : Over A) (put : A → Tokens → Tokens) → Exact kind_of (quoted kind_of is) → is (kind_of_meaning meaning) ≡ true → Prints b put
    → Prints (image (λ x. x.1) (sequence (quoted kind_of is).language b)) (λ x out. put x (put_token meaning place out))
behind_prints is meaning place b put exact h prints =
    mapped_prints (λ (x : Unit {0} × _). x.1) (sequence (quoted kind_of is).language b) (λ x out. put x.1 (put_token meaning place out)) (λ x out. put x (put_token meaning place out))
    (seq_prints (quoted kind_of is) b (λ _ out. put_token meaning place out) put exact (quoted_prints is meaning place h) prints) (λ x out. refl)

pub before_prints : {A : Type 0} (is : Kind → Bool) (meaning : Meaning) (place : Place) (a : Rule Lexeme Kind A) (put : A → Tokens → Tokens) → Exact kind_of a → is (kind_of_meaning meaning) ≡ true → Prints a.language put
    → Prints (image (λ x. x.0) (sequence a.language (quoted kind_of is).language)) (λ x out. put_token meaning place (put x out))
before_prints is meaning place a put exact h prints =
    mapped_prints (λ (x : _ × Unit {0}). x.0) (sequence a.language (quoted kind_of is).language) (λ x out. put_token meaning place (put x.0 out)) (λ x out. put_token meaning place (put x out))
    (seq_prints a (quoted kind_of is).language put (λ _ out. put_token meaning place out) exact prints (quoted_prints is meaning place h)) (λ x out. refl)

pub listed_prints : {A : Type 0} (a : Grammar A) (put : A → Tokens → Tokens) → Exact kind_of a → Exact kind_of (mark Comma ▸ a) → Prints a.language put → Prints (listed a).language (put_listed put)
listed_prints a put exact comma_exact prints =
    mapped_prints (λ x. x.0 ∷ x.1) (sequence a.language (repetition (mark Comma ▸ a).language)) (λ x out. put_many (behind_comma put) x.1 (put x.0 out)) (put_listed put)
    (seq_prints a (repetition (mark Comma ▸ a).language) put (put_many (behind_comma put)) exact prints
    (many_prints (mark Comma ▸ a) (behind_comma put) comma_exact (behind_prints (is_symbol Comma) (symbol_token Comma) nowhere a.language put (quoted-exact kind_of (is_symbol Comma)) refl prints)))
    (λ x out. refl)

pub mark_prints : (s : Symbol) → Prints (mark s).language (λ _ out. put_mark s out)
mark_prints s = quoted_prints (is_symbol s) (symbol_token s) nowhere (eqb_same (symbol_number s))

pub word_prints : (w : Keyword) → Prints (word w).language (λ _ out. put_word w out)
word_prints w = quoted_prints (is_word w) (word_token w) nowhere (eqb_same (keyword_number w))

-- nothing is spelled where no rule begins
pub nothing_prints : {A : Type 0} (put : A → Tokens → Tokens) → Prints (no_language {T = Lexeme} {A = A}) put
nothing_prints put x (ts, i, j, s) out = absurd s

-- ---- values that hold the place of their first token

pub record Own {A : Type 0} (l : Over A) (put : A → Tokens → Tokens) : Type 0 where
  pub begins : (p : Place) (x : A) → IsSpelled (with_place (λ t. t.place) l) (p, x) → (out : Tokens) → BeginsAt p (length out) (put x out)

pub own_first : {A : Type 0} (l : Over A) (put : A → Tokens → Tokens) → Prints l put → Own l put → PrintsAt l (λ _ x out. put x out)
own_first l put prints own p x s out = (prints x (s.0, s.1, s.2, s.3.3) out, own.begins p x s out)

pub own_mapped : {A B : Type 0} (f : A → B) (l : Over A) (put : A → Tokens → Tokens) (make : B → Tokens → Tokens) → Own l put → ((x : A) (out : Tokens) → make (f x) out ≡ put x out) → Own (image f l) make
own_mapped {B = B} f l put make own same = record { begins = begin }
  where
    begin : (p : Place) (y : B) → IsSpelled (with_place (λ t. t.place) (image f l)) (p, y) → (out : Tokens) → BeginsAt p (length out) (make y out)
    begin p y (ts, i, j, (t, at, place, (x, e, s))) out = subst (λ z. BeginsAt p (length out) (make z out)) e (rw (same x out) (own.begins p x (ts, i, j, (t, at, place, s)) out))

pub own_seq : {A B : Type 0} (a : Rule Lexeme Kind A) (b : Over B) (put_a : A → Tokens → Tokens) (put_b : B → Tokens → Tokens) → Exact kind_of a → a.empty ≡ false → Prints a.language put_a → Prints b put_b → Own a.language put_a
    → Own (sequence a.language b) (λ x out. put_b x.1 (put_a x.0 out))
own_seq {A = A} {B = B} a b put_a put_b exact full first second own = record { begins = begin }
  where
    begin : (p : Place) (x : A × B) → IsSpelled (with_place (λ t. t.place) (sequence a.language b)) (p, x) → (out : Tokens) → BeginsAt p (length out) (put_b x.1 (put_a x.0 out))
    begin p x (ts, i, j, (t, at, place, (m, s, u))) out =
        let mid = put_a x.0 out in
        let f = first x.0 (ts, i, m, s) out in
        let q = second x.1 (ts, m, j, u) mid in
        begins_behind b p out mid (put_b x.1 mid) x.1 (starts_so kind_of a exact full mid (length out) x.0 (length mid) f.spells).0 (own.begins p x.0 (ts, i, m, (t, at, place, s)) out) q

pub own_either : {A : Type 0} (a b : Over A) (put : A → Tokens → Tokens) → Own a put → Own b put → Own (choice a b) put
own_either {A} a b put left right = record { begins = begin }
  where
    begin : (p : Place) (x : A) → IsSpelled (with_place (λ t. t.place) (choice a b)) (p, x) → (out : Tokens) → BeginsAt p (length out) (put x out)
    begin p x (ts, i, j, (t, at, place, inl s)) out = left.begins p x (ts, i, j, (t, at, place, s)) out
    begin p x (ts, i, j, (t, at, place, inr s)) out = right.begins p x (ts, i, j, (t, at, place, s)) out

pub own_nothing : {A : Type 0} (put : A → Tokens → Tokens) → Own (no_language {T = Lexeme} {A = A}) put
own_nothing put = record { begins = λ p x s out. absurd s.3.3 }

one_token_there : (ts : Tokens) (i : ℕ) (t u : Lexeme) → slice_get ts i ≡ Some t → slice_get ts i ≡ Some u → t.place ≡ u.place
one_token_there ts i t u e f = let g : Some t ≡ Some u = sym e ∙ f in cc

pub own_placed : {A : Type 0} (l : Over A) (put : Place → A → Tokens → Tokens) → PrintsAt l put → Own (with_place (λ t. t.place) l) (λ x out. put x.0 x.1 out)
own_placed {A} l put prints = record { begins = begin }
  where
    begin : (p : Place) (x : Place × A) → IsSpelled (with_place (λ t. t.place) (with_place (λ t. t.place) l)) (p, x) → (out : Tokens) → BeginsAt p (length out) (put x.0 x.1 out)
    begin p x (ts, i, j, (t, at, place, (u, there, its, s))) out =
        subst (λ q. BeginsAt q (length out) (put x.0 x.1 out)) (sym its ∙ (one_token_there (map lexeme ts) i u t there at ∙ place)) (prints x.0 x.1 (ts, i, j, (u, there, its, s)) out).1

pub own_token : {A : Type 0} (f : Lexeme → A) (is : Kind → Bool) (put : A → Tokens → Tokens) → ((t : Lexeme) (out : Tokens) → BeginsAt t.place (length out) (put (f t) out)) → Own (image f (one kind_of is).language) put
own_token {A} f is put begins = record { begins = begin }
  where
    begin : (p : Place) (y : A) → IsSpelled (with_place (λ t. t.place) (image f (one kind_of is).language)) (p, y) → (out : Tokens) → BeginsAt p (length out) (put y out)
    begin p y (ts, i, j, (t, at, place, (u, e, (there, s, end)))) out =
        subst (λ z. BeginsAt p (length out) (put z out)) e (subst (λ q. BeginsAt q (length out) (put (f u) out)) (one_token_there (map lexeme ts) i u t there at ∙ place) (begins u out))

-- a symbol or a word, and a part before or behind it
pub behind_mark : {A : Type 0} (s : Symbol) (b : Over A) (put : A → Tokens → Tokens) → Prints b put → Prints (image (λ x. x.1) (sequence (mark s).language b)) (λ x out. put x (put_mark s out))
behind_mark s b put prints = behind_prints (is_symbol s) (symbol_token s) nowhere b put (quoted-exact kind_of (is_symbol s)) (eqb_same (symbol_number s)) prints

pub before_mark : {A : Type 0} (s : Symbol) (a : Rule Lexeme Kind A) (put : A → Tokens → Tokens) → Exact kind_of a → Prints a.language put → Prints (image (λ x. x.0) (sequence a.language (mark s).language)) (λ x out. put_mark s (put x out))
before_mark s a put exact prints = before_prints (is_symbol s) (symbol_token s) nowhere a put exact (eqb_same (symbol_number s)) prints

pub behind_word : {A : Type 0} (w : Keyword) (b : Over A) (put : A → Tokens → Tokens) → Prints b put → Prints (image (λ x. x.1) (sequence (word w).language b)) (λ x out. put x (put_word w out))
behind_word w b put prints = behind_prints (is_word w) (word_token w) nowhere b put (quoted-exact kind_of (is_word w)) (eqb_same (keyword_number w)) prints

pub before_word : {A : Type 0} (w : Keyword) (a : Rule Lexeme Kind A) (put : A → Tokens → Tokens) → Exact kind_of a → Prints a.language put → Prints (image (λ x. x.0) (sequence a.language (word w).language)) (λ x out. put_word w (put x out))
before_word w a put exact prints = before_prints (is_word w) (word_token w) nowhere a put exact (eqb_same (keyword_number w)) prints

pub mark_first : {A : Type 0} (s : Symbol) (b : Over A) (put : A → Tokens → Tokens) → Prints b put → PrintsAt (image (λ x. x.1) (sequence (mark s).language b)) (λ p x out. put x (mark_at s p out))
mark_first s b put prints = quoted_first (is_symbol s) (symbol_token s) b put (quoted-exact kind_of (is_symbol s)) (eqb_same (symbol_number s)) prints

pub word_comes_first : {A : Type 0} (w : Keyword) (b : Over A) (put : A → Tokens → Tokens) → Prints b put → PrintsAt (image (λ x. x.1) (sequence (word w).language b)) (λ p x out. put x (word_at w p out))
word_comes_first w b put prints = quoted_first (is_word w) (word_token w) b put (quoted-exact kind_of (is_word w)) (eqb_same (keyword_number w)) prints
