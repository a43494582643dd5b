-- The pieces of a text are found one after another, and there are no others.
use Rattle.std.proofs.Common.{◌≡◌, ℕ, zero, suc, ◌+◌, ◌<◌, ◌≤◌, List, [], ◌∷◌, ◌++◌, length, drop, Bool, true, false, refl, sym, ap, ◌∙◌, subst, arith, inl, inr}
use Rattle.std.proofs.Common.{◌^◌, take, map}
use Rattle.std.specs.Prelude.{Result, Ok, Err, nat_lt}
use Rattle.std.specs.Global.{Vec}
use Rattle.sg_text.specs.declared.refusals.Refused.{Refused}
use Rattle.sg_text.specs.declared.refusals.Refused.TheVariants as refused
use Rattle.std.proofs.lemmas.List.{append-nil, append_cancel_left, append_assoc, take_at, drop_at, length-append}
use Rattle.sdf_lex.specs.Pieces.{Piece, blank_piece, line_comment, block_comment, open_comment, word_piece, text_piece, open_text, symbol_piece, mark_piece, bad_piece, spelling, HasForm, IsPiece, spellings, Spelled, tokens_of, tokens, is_bad}
use Rattle.sdf_lex.specs.Lexes.{Outcome, fault_at, outcome, LexesFrom, Lexes, Stands, Tells, IsRefusedBy}
use Rattle.sdf_lex.specs.Seen.{lexeme}
use Rattle.sdf_lex.specs.declared.faults.LexKind.{LexKind}
use Rattle.sdf_lex.specs.declared.tokens.Token.{Token}
use Rattle.sdf_lex.specs.declared.pieces.Kind.{Kind}
use Rattle.sdf_lex.specs.declared.faults.LexKind.TheVariants.{BadByte}
use Rattle.sdf_lex.specs.Tokens.{Lexeme}
use Rattle.sdf_lex.specs.PieceBridge.{first_piece, kind_of, is_bad_kind, kind_tokens}
use Rattle.sdf_lex.proofs.WordLaws.{some_bytes}
use Rattle.sdf_lex.proofs.FirstPieces.{first_found}
use Rattle.sdf_lex.proofs.ToldPieces.{Told, told}
use Rattle.sdf_lex.proofs.CutLaws.{tokens_are, bad_is}

-- what is found is a piece
pub first_is : (b : ℕ) (bs : List ℕ) → IsPiece (first_piece (b ∷ bs)) (first_found b bs).after
first_is b bs =
    let f = first_found b bs in
    record { form = f.form; longest = λ q behind g e. longest q behind g (e ∙ f.spells) }
  where
    longest : (q : Piece) (behind : List ℕ) → HasForm q behind → spelling q ++ behind ≡ b ∷ bs → length (spelling q) ≤ length (spelling (first_piece (b ∷ bs)))
    longest q behind g e =
        let t : Told q (first_piece (b ∷ bs)) = subst (λ xs. Told q (first_piece xs)) e (told q behind g) in
        elim t [
          | inl lt ↦ omega arith
          | inr same ↦ (let size : length (spelling q) ≡ length (spelling (first_piece (b ∷ bs))) = ap (λ p. length (spelling p)) same in omega arith)
        ]

-- and no other is
one_piece : (b : ℕ) (bs : List ℕ) (p : Piece) (after : List ℕ) → spelling p ++ after ≡ b ∷ bs → IsPiece p after → p ≡ first_piece (b ∷ bs)
one_piece b bs p after e is =
    let f = first_found b bs in
    let t : Told p (first_piece (b ∷ bs)) = subst (λ xs. Told p (first_piece xs)) e (told p after is.form) in
    let most = is.longest (first_piece (b ∷ bs)) f.after f.form (f.spells ∙ sym e) in
    elim t [
      | inl lt ↦ absurd (omega arith)
      | inr same ↦ same
    ]

-- a piece has a byte
pub has_bytes : (p : Piece) (after : List ℕ) → HasForm p after → 0 < length (spelling p)
has_bytes (blank_piece b) after f = omega arith
has_bytes (line_comment inside) after f = omega arith
has_bytes (block_comment inside) after f = omega arith
has_bytes (open_comment inside) after f = omega arith
has_bytes (word_piece []) after f = absurd f
has_bytes (word_piece (l ∷ ls)) after f = some_bytes l ls
has_bytes (text_piece inside) after f = omega arith
has_bytes (open_text inside) after f = omega arith
has_bytes (symbol_piece []) after f = absurd f
has_bytes (symbol_piece (b ∷ bs)) after f = omega arith
has_bytes (mark_piece b) after f = omega arith
has_bytes (bad_piece b) after f = omega arith

some_piece : (p : Piece) (after : List ℕ) → HasForm p after → spelling p ++ after ≡ [] → ⊥
some_piece p after f e =
    let some = has_bytes p after f in
    let none : length (spelling p) + length after ≡ 0 = sym (length-append (spelling p) after) ∙ ap length e in
    absurd (omega arith)

-- a text is spelled in one way
pub one_split : (text : List ℕ) (ps qs : List Piece) → Spelled text ps → Spelled text qs → ps ≡ qs
one_split text [] [] h k = refl
one_split text [] (q ∷ qs) h k = absurd (some_piece q (spellings qs) k.1.0.form (k.0 ∙ sym h.0))
one_split text (p ∷ ps) [] h k = absurd (some_piece p (spellings ps) h.1.0.form (h.0 ∙ sym k.0))
one_split [] (p ∷ ps) (q ∷ qs) h k = absurd (some_piece p (spellings ps) h.1.0.form h.0)
one_split (b ∷ bs) (p ∷ ps) (q ∷ qs) h k =
    let e : p ≡ q = one_piece b bs p (spellings ps) h.0 h.1.0 ∙ sym (one_piece b bs q (spellings qs) k.0 k.1.0) in
    let tails : spellings ps ≡ spellings qs = append_cancel_left (spelling p) (spellings ps) (spellings qs) (h.0 ∙ sym k.0 ∙ ap (λ x. spelling x ++ spellings qs) (sym e)) in
    let rest : ps ≡ qs = one_split (spellings qs) ps qs (tails, h.1.1) (refl, k.1.1) in
    rw (e, rest) refl

-- ---- each text is spelled

-- the piece that is found, before what is left
pub first_spelled : (b : ℕ) (bs : List ℕ) (ps : List Piece) → Spelled (first_found b bs).after ps → Spelled (b ∷ bs) (first_piece (b ∷ bs) ∷ ps)
first_spelled b bs ps s =
    let f = first_found b bs in
    (ap (λ xs. spelling (first_piece (b ∷ bs)) ++ xs) s.0 ∙ f.spells, (subst (λ xs. IsPiece (first_piece (b ∷ bs)) xs) (sym s.0) (first_is b bs), s.1))

pub first_size : (b : ℕ) (bs : List ℕ) → length (spelling (first_piece (b ∷ bs))) + length (first_found b bs).after ≡ length (b ∷ bs)
first_size b bs = sym (length-append (spelling (first_piece (b ∷ bs))) (first_found b bs).after) ∙ ap length (first_found b bs).spells

pub first_some : (b : ℕ) (bs : List ℕ) → 0 < length (spelling (first_piece (b ∷ bs)))
first_some b bs = has_bytes (first_piece (b ∷ bs)) (first_found b bs).after (first_found b bs).form

pub some_split : (n : ℕ) (text : List ℕ) → length text ≤ n → (ps : List Piece) × Spelled text ps
some_split n [] le = ([], (refl, tt))
some_split zero (b ∷ bs) le = absurd (omega arith)
some_split (suc n) (b ∷ bs) le =
    let size = first_size b bs in
    let some = first_some b bs in
    let r = some_split n (first_found b bs).after (omega arith) in
    (first_piece (b ∷ bs) ∷ r.0, first_spelled b bs r.0 r.1)

-- ---- what comes of a text

pub one_outcome : (before : List Lexeme) (at : ℕ) (text : List ℕ) (o p : Outcome) → LexesFrom before at text o → LexesFrom before at text p → o ≡ p
one_outcome before at text o p h k = h.2 ∙ ap (λ ps. outcome before at ps) (one_split text h.0 k.0 h.1 k.1) ∙ sym k.2

-- a piece that isn't bad adds its tokens
outcome_on : (before : List Lexeme) (at : ℕ) (p : Piece) (ps : List Piece) → is_bad p ≡ false
    → outcome (before ++ tokens_of at p) (at + length (spelling p)) ps ≡ outcome before at (p ∷ ps)
outcome_on before at p ps good = rw (good, append_assoc before (tokens_of at p) (tokens (at + length (spelling p)) ps)) refl

pub left_is : (b : ℕ) (bs rest : List ℕ) → rest ≡ drop (length (spelling (first_piece (b ∷ bs)))) (b ∷ bs) → rest ≡ (first_found b bs).after
left_is b bs rest e =
    let f = first_found b bs in
    e ∙ ap (λ xs. drop (length (spelling (first_piece (b ∷ bs)))) xs) (sym f.spells) ∙ drop_at (spelling (first_piece (b ∷ bs))) f.after (length (spelling (first_piece (b ∷ bs)))) refl

-- what comes of the rest comes of the whole
pub reads_on : (before after : List Lexeme) (at size b : ℕ) (bs rest : List ℕ) (o : Outcome) → is_bad (first_piece (b ∷ bs)) ≡ false
    → after ≡ before ++ tokens_of at (first_piece (b ∷ bs)) → size ≡ length (spelling (first_piece (b ∷ bs))) → rest ≡ drop size (b ∷ bs)
    → LexesFrom after (at + size) rest o → LexesFrom before at (b ∷ bs) o
reads_on before after at size b bs rest o good a s e h =
    let left : rest ≡ (first_found b bs).after = left_is b bs rest (e ∙ ap (λ n. drop n (b ∷ bs)) s) in
    let spelled = first_spelled b bs h.0 (subst (λ xs. Spelled xs h.0) left h.1) in
    (first_piece (b ∷ bs) ∷ h.0, spelled, h.2 ∙ rw (a, s) (outcome_on before at (first_piece (b ∷ bs)) h.0 good))

-- a bad byte is the outcome
pub reads_bad : (before : List Lexeme) (at b : ℕ) (bs : List ℕ) → is_bad (first_piece (b ∷ bs)) ≡ true → LexesFrom before at (b ∷ bs) (fault_at BadByte at)
reads_bad before at b bs bad =
    let r = some_split (length (first_found b bs).after) (first_found b bs).after (omega arith) in
    (first_piece (b ∷ bs) ∷ r.0, first_spelled b bs r.0 r.1, rw bad refl)

pub reads_end : (before : List Lexeme) (at : ℕ) → LexesFrom before at [] (Ok before)
reads_end before at = ([], (refl, tt), rw (append-nil before) refl)

-- ---- by what the code has

pub found_some : (text : List ℕ) → 0 < length text → 0 < length (spelling (first_piece text))
found_some [] lt = absurd (omega arith)
found_some (b ∷ bs) lt = first_some b bs

pub found_within : (text : List ℕ) → 0 < length text → length (spelling (first_piece text)) ≤ length text
found_within [] lt = absurd (omega arith)
found_within (b ∷ bs) lt = let s = first_size b bs in omega arith

front_is : (b : ℕ) (bs : List ℕ) → take (length (spelling (first_piece (b ∷ bs)))) (b ∷ bs) ≡ spelling (first_piece (b ∷ bs))
front_is b bs =
    let f = first_found b bs in
    ap (λ xs. take (length (spelling (first_piece (b ∷ bs)))) xs) (sym f.spells) ∙ take_at (spelling (first_piece (b ∷ bs))) f.after (length (spelling (first_piece (b ∷ bs)))) refl

good_is : (p : Piece) (kind : Kind) (t : Bool) → kind ≡ kind_of p → is_bad_kind kind ≡ t → is_bad p ≡ t
good_is p kind t k h = sym (bad_is p) ∙ ap (λ x. is_bad_kind x) (sym k) ∙ h

-- a piece that isn't bad is passed
pub step_on : (before after : List Lexeme) (at size : ℕ) (kind : Kind) (text front rest : List ℕ) (o : Outcome) → 0 < length text → kind ≡ kind_of (first_piece text)
    → size ≡ length (spelling (first_piece text)) → is_bad_kind kind ≡ false → front ≡ take size text → rest ≡ drop size text → after ≡ before ++ kind_tokens at kind front
    → LexesFrom after (at + size) rest o → LexesFrom before at text o
step_on before after at size kind [] front rest o lt k s good f e a h = absurd (omega arith)
step_on before after at size kind (b ∷ bs) front rest o lt k s good f e a h =
    let p = first_piece (b ∷ bs) in
    let front_spelled : front ≡ spelling p = f ∙ ap (λ (n : ℕ). take n (b ∷ bs)) s ∙ front_is b bs in
    let ts : kind_tokens at kind front ≡ tokens_of at p = ap (λ x. kind_tokens at x front) k ∙ ap (λ xs. kind_tokens at (kind_of p) xs) front_spelled ∙ tokens_are at p in
    reads_on before after at size b bs rest o (good_is p kind false k good) (a ∙ ap (λ xs. before ++ xs) ts) s e h

-- a bad one is the fault
pub step_bad : (before : List Lexeme) (at : ℕ) (kind : Kind) (text : List ℕ) → 0 < length text → kind ≡ kind_of (first_piece text) → is_bad_kind kind ≡ true
    → LexesFrom before at text (fault_at BadByte at)
step_bad before at kind [] lt k bad = absurd (omega arith)
step_bad before at kind (b ∷ bs) lt k bad = reads_bad before at b bs (good_is (first_piece (b ∷ bs)) kind true k bad)

-- what is refused of the rest is refused of the whole
pub refused_so : (text rest : List ℕ) (before : List Lexeme) (at : ℕ) (r : Refused LexKind) → ((o : Outcome) → LexesFrom before at rest o → LexesFrom [] 0 text o)
    → IsRefusedBy before at rest r → Stands (LexesFrom [] 0 text) (Err r)
refused_so text rest before at (refused.Fault k p) so h = so (Err (record { kind = k; place = p })) h
refused_so text rest before at refused.NoMemory so h = tt

-- ---- no other outcome

small_file : (text : List ℕ) (o : Outcome) → nat_lt (2 ^ 28) (length text) ≡ false → Lexes text o → LexesFrom [] 0 text o
small_file text o small h = rw small at h

pub only_of : (text : List ℕ) (result : Result (Vec Token) (Refused LexKind)) → nat_lt (2 ^ 28) (length text) ≡ false → Stands (LexesFrom [] 0 text) result
    → (o : Outcome) → Lexes text o → Tells o result
only_of text (Ok ts) small s o h = one_outcome [] 0 text o (Ok (map lexeme ts.items)) (small_file text o small h) s
only_of text (Err (refused.Fault k p)) small s o h = one_outcome [] 0 text o (Err (record { kind = k; place = p })) (small_file text o small h) s
only_of text (Err refused.NoMemory) small s o h = tt
