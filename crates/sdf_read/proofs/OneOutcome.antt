-- A file has one outcome at most.
use Rattle.std.proofs.Common.{◌≡◌, ◌∙◌, ℕ, ◌^◌, Bool, true, false, List, [], length, Result, Ok, Err, sym, ap, subst, inl, inr}
use Rattle.std.specs.Prelude.{nat_lt, slice_get}
use Rattle.std.proofs.lemmas.Bool.{cases_order}
use Rattle.grammar.specs.Reads.{FailsAt}
use Rattle.grammar.proofs.Laws.{one_failing, one_value}
use Rattle.sg_text.specs.declared.places.Place.{Place}
use Rattle.sdf_lex.specs.Lexes as lexes
use Rattle.sdf_lex.specs.Lexes.{Lexes, LexesUnless}
use Rattle.sdf_lex.specs.Tokens.{Lexeme}
use Rattle.sdf_lex.proofs.OneReading as reading
use Rattle.sdf_tree.specs.Files.{file}
use Rattle.sdf_tree.specs.Kinds.{kind_of}
use Rattle.sdf_tree.specs.Meant.{Sdf}
use Rattle.sdf_tree.specs.Written.{FilePart}
use Rattle.sdf_tree.proofs.FilesExact.{file-exact}
use Rattle.sdf_read.specs.declared.faults.SdfKind.{SdfKind}
use Rattle.sdf_read.specs.declared.faults.SdfKind.TheVariants.{TooDeep}
use Rattle.sdf_read.specs.Depth.{IsTooDeep}
use Rattle.sdf_read.specs.Outcomes.{Fault, refused, meaning_of, Outcome, is_deep, is_refused, is_spelled}
use Rattle.sdf_read.specs.Reading.{KindStands, fault_place}
use Rattle.sdf_read.specs.Reads.{Reads, has_fault, has_tokens, kind_of_bytes, end_of}

-- ---- of tokens

one_deep : (ts : List Lexeme) (i j : ℕ) → IsTooDeep ts i → IsTooDeep ts j → i ≡ j
one_deep ts i j d e = elim (cases_order i j) [
  | inl same ↦ same
  | inr apart ↦ elim apart [
    | inl lt ↦ absurd (e.1 i lt d.0)
    | inr gt ↦ absurd (d.1 j gt e.0)
  ]
]

-- a kind is of one token
one_kind : (ts : List Lexeme) (e : ℕ) (k l : SdfKind) → KindStands ts e k → KindStands ts e l → k ≡ l
one_kind ts e k l (inl g) (inl h) = g.1 ∙ sym h.1
one_kind ts e k l (inl g) (inr h) = absurd (h.0 g.0)
one_kind ts e k l (inr g) (inl h) = absurd (g.0 h.0)
one_kind ts e k l (inr g) (inr h) = g.1 ∙ sym h.1

fails_once : (ts : List Lexeme) (e f : ℕ) → FailsAt (file true).language ts e → FailsAt (file true).language ts f → e ≡ f
fails_once ts e f g h = one_failing kind_of (file true) (file-exact true) ts e f g h

same_refused : (k l : SdfKind) (p q : Place) → k ≡ l → p ≡ q → refused k p ≡ refused l q
same_refused k l p q e f = ap (λ (x : SdfKind). refused x p) e ∙ ap (λ (x : Place). refused l x) f

pub one_outcome : (ts : List Lexeme) (end : Place) (o p : Result Sdf Fault) → Outcome ts end o → Outcome ts end p → o ≡ p
one_outcome ts end o p (is_deep i d e) (is_deep j b f) = e ∙ (ap (λ (n : ℕ). refused TooDeep (fault_place end (slice_get ts n))) (one_deep ts i j d b) ∙ sym f)
one_outcome ts end o p (is_deep i d e) (is_refused none j b kind k f) = absurd (none i d.0)
one_outcome ts end o p (is_deep i d e) (is_spelled none qs t f) = absurd (none i d.0)
one_outcome ts end o p (is_refused none i a kind k e) (is_deep j b f) = absurd (none j b.0)
one_outcome ts end o p (is_refused none i a kind k e) (is_refused nothing j b other l f) =
    let at = fails_once ts i j a b in
    let same = one_kind ts j kind other (subst (λ (n : ℕ). KindStands ts n kind) at k) l in
    e ∙ (same_refused kind other (fault_place end (slice_get ts i)) (fault_place end (slice_get ts j)) same (ap (λ (n : ℕ). fault_place end (slice_get ts n)) at) ∙ sym f)
one_outcome ts end o p (is_refused none i a kind k e) (is_spelled nothing qs t f) = absurd (a.none qs t)
one_outcome ts end o p (is_spelled none ps s e) (is_deep j b f) = absurd (none j b.0)
one_outcome ts end o p (is_spelled none ps s e) (is_refused nothing j b kind k f) = absurd (b.none ps s)
one_outcome ts end o p (is_spelled none ps s e) (is_spelled nothing qs t f) = e ∙ (ap (λ (xs : List FilePart). meaning_of xs) (one_value kind_of (file true) (file-exact true) ts ps qs s t) ∙ sym f)

-- ---- of bytes

lexes_once : (bytes : List ℕ) (o p : lexes.Outcome) → Lexes bytes o → Lexes bytes p → o ≡ p
lexes_once bytes o p h k = by (nat_lt (2 ^ 28) (length bytes)) h k
  where
    by : (b : Bool) → LexesUnless b (2 ^ 28) bytes o → LexesUnless b (2 ^ 28) bytes p → o ≡ p
    by true g i = g ∙ sym i
    by false g i = reading.one_outcome [] 0 bytes o p g i

ok_one : (x y : List Lexeme) → ◌≡◌ {A = lexes.Outcome} (Ok x) (Ok y) → x ≡ y
ok_one x y h = cc

err_one : (x y : lexes.Fault) → ◌≡◌ {A = lexes.Outcome} (Err x) (Err y) → x ≡ y
err_one x y h = cc

ok_or_err : (x : List Lexeme) (y : lexes.Fault) → ◌≡◌ {A = lexes.Outcome} (Ok x) (Err y) → ⊥
ok_or_err x y h = cc

pub reads_once : (bytes : List ℕ) (o p : Result Sdf Fault) → Reads bytes o → Reads bytes p → o ≡ p
reads_once bytes o p (has_fault k q a e) (has_fault l r b f) =
    let same = err_one (record { kind = k; place = q }) (record { kind = l; place = r }) (lexes_once bytes (Err (record { kind = k; place = q })) (Err (record { kind = l; place = r })) a b) in
    e ∙ (ap (λ (x : lexes.Fault). refused (kind_of_bytes x.kind) x.place) same ∙ sym f)
reads_once bytes o p (has_fault k q a e) (has_tokens ts b f) = absurd (ok_or_err ts (record { kind = k; place = q }) (lexes_once bytes (Ok ts) (Err (record { kind = k; place = q })) b a))
reads_once bytes o p (has_tokens ts a e) (has_fault l r b f) = absurd (ok_or_err ts (record { kind = l; place = r }) (lexes_once bytes (Ok ts) (Err (record { kind = l; place = r })) a b))
reads_once bytes o p (has_tokens ss a e) (has_tokens ts b f) =
    let same = ok_one ss ts (lexes_once bytes (Ok ss) (Ok ts) a b) in
    one_outcome ts (end_of bytes) o p (subst (λ (xs : List Lexeme). Outcome xs (end_of bytes) o) same e) f
