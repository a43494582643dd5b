-- In a condition an index stands right behind a name alone.
use Rattle.std.specs.Prelude.{◌≡◌, ◌≢◌, ℕ, zero, suc, ◌+◌, ◌==◌, Bool, true, false, List, [], ◌∷◌, Option, Some, None, if◌then◌else◌}
use Rattle.std.specs.List.{AllByRecursion}
use Rattle.std.proofs.Common.{refl, subst}
use Rattle.std.proofs.lemmas.List.Elements.{recursion_from_All}
use Rattle.cond_expr.specs.declared.scan.Phase.{Phase}
use Rattle.cond_expr.specs.declared.scan.Phase.TheVariants as phase
use Rattle.cond_expr.specs.declared.tokens.Tok.TheVariants as tok
use Rattle.cond_expr.specs.Grammar.{IsCondition}
use Rattle.cond_expr.specs.Kinds.{is_prefix, precedence}
use Rattle.cond_expr.specs.ScanSteps.{after_right}
use Rattle.cond_expr.specs.Token.{Tok}
use Rattle.cond_expr.proofs.AnyDepth.{verdict_is}
use Rattle.cond_expr.proofs.Scanning.{scan, go_on}
use Rattle.written_reading.specs.Meanings.{index_in_front}
use Rattle.written_reading.specs.Named.{IsNameText, IsWord, IsWrittenCondition}
use Rattle.written_reading.proofs.Writable.{IsNameOf, IsToken, AreFollowed, IsClause}

pub some_none : {A : Type 0} {x : A} → Some x ≡ None → ⊥
some_none e = cc

-- ---- what the scan passes

scan_none : (ts : List Tok) → IsCondition ts → scan ts 0 0 phase.Operand ≡ None
scan_none ts c = by (scan ts 0 0 phase.Operand) refl
  where
    by : (o : Option ℕ) → scan ts 0 0 phase.Operand ≡ o → o ≡ None
    by None e = refl
    by (Some n) e = absurd ((verdict_is ts (Some n) e).none c.0 c.1)

if_passed : (b : Bool) (v : ℕ) (q : Phase) (f : ℕ → Phase → Option ℕ) (i : ℕ) → go_on (if b then Some (v, q) else None) f i ≡ None → f v q ≡ None
if_passed true v q f i h = h
if_passed false v q f i h = absurd (some_none h)

unless_passed : (b : Bool) (v : ℕ) (q : Phase) (f : ℕ → Phase → Option ℕ) (i : ℕ) → go_on (if b then None else Some (v, q)) f i ≡ None → f v q ≡ None
unless_passed true v q f i h = absurd (some_none h)
unless_passed false v q f i h = h

right_passed : (u : ℕ) (f : ℕ → Phase → Option ℕ) (i : ℕ) → go_on (after_right u) f i ≡ None → (n : ℕ) × (f n phase.Whole ≡ None)
right_passed zero f i h = absurd (some_none h)
right_passed (suc n) f i h = (n, h)

-- ---- an index comes first behind a name alone

abbrev IsLed : Phase → List Tok → Type 0
IsLed phase.Name ts = Unit {0}
IsLed _ ts = index_in_front ts ≡ None

abbrev Follows : Phase → List Tok → Type 0
Follows p ts = AreFollowed ts × IsLed p ts

-- behind an operand, with or without an index of its own
whole_followed : (t : Tok) (ts : List Tok) (i u : ℕ) → ((v : ℕ) (q : Phase) → scan ts (i + 1) v q ≡ None → Follows q ts) → scan (t ∷ ts) i u phase.Whole ≡ None → Follows phase.Whole (t ∷ ts)
whole_followed (tok.Name name) ts i u rest h = absurd (some_none h)
whole_followed (tok.Index n) ts i u rest h = absurd (some_none h)
whole_followed (tok.Const v) ts i u rest h = absurd (some_none h)
whole_followed (tok.Op o) ts i u rest h =
    let r = rest u phase.Operand (unless_passed (precedence o == 0) u phase.Operand (λ v q. scan ts (i + 1) v q) i h) in
    ((r.1, r.0), refl)
whole_followed tok.Left ts i u rest h = absurd (some_none h)
whole_followed tok.Right ts i u rest h =
    let p = right_passed u (λ v q. scan ts (i + 1) v q) i h in
    let r = rest p.0 phase.Whole p.1 in
    ((r.1, r.0), refl)

step_followed : (p : Phase) (t : Tok) (ts : List Tok) (i u : ℕ) → ((v : ℕ) (q : Phase) → scan ts (i + 1) v q ≡ None → Follows q ts) → scan (t ∷ ts) i u p ≡ None → Follows p (t ∷ ts)
step_followed phase.Operand (tok.Name name) ts i u rest h = ((tt, (rest u phase.Name h).0), refl)
step_followed phase.Operand (tok.Index n) ts i u rest h = absurd (some_none h)
step_followed phase.Operand (tok.Const v) ts i u rest h = let r = rest u phase.Whole h in ((r.1, r.0), refl)
step_followed phase.Operand (tok.Op o) ts i u rest h =
    let r = rest u phase.Operand (if_passed (is_prefix o) u phase.Operand (λ v q. scan ts (i + 1) v q) i h) in
    ((r.1, r.0), refl)
step_followed phase.Operand tok.Left ts i u rest h = let r = rest (suc u) phase.Operand h in ((r.1, r.0), refl)
step_followed phase.Operand tok.Right ts i u rest h = absurd (some_none h)
step_followed phase.Name (tok.Name name) ts i u rest h = absurd (some_none h)
step_followed phase.Name (tok.Index n) ts i u rest h = let r = rest u phase.Whole h in ((r.1, r.0), tt)
step_followed phase.Name (tok.Const v) ts i u rest h = absurd (some_none h)
step_followed phase.Name (tok.Op o) ts i u rest h = ((whole_followed (tok.Op o) ts i u rest h).0, tt)
step_followed phase.Name tok.Left ts i u rest h = absurd (some_none h)
step_followed phase.Name tok.Right ts i u rest h = ((whole_followed tok.Right ts i u rest h).0, tt)
step_followed phase.Whole t ts i u rest h = whole_followed t ts i u rest h

none_first : (p : Phase) → IsLed p []
none_first phase.Operand = refl
none_first phase.Name = tt
none_first phase.Whole = refl

followed : (ts : List Tok) (i u : ℕ) (p : Phase) → scan ts i u p ≡ None → Follows p ts
followed [] i u p h = (tt, none_first p)
followed (t ∷ ts) i u p h = step_followed p t ts i u (λ v q k. followed ts (i + 1) v q k) h

-- ---- conditions

pub name_of_text : (name : List ℕ) → IsNameText name → IsNameOf name
name_of_text name h = (h.some, recursion_from_All _ name h.good)

token_is : (t : Tok) → IsWord t → IsToken t
token_is (tok.Name name) h = name_of_text name h
token_is (tok.Index i) h = h
token_is (tok.Const v) h = tt
token_is (tok.Op o) h = tt
token_is tok.Left h = tt
token_is tok.Right h = tt

tokens_are : (ts : List Tok) → AllByRecursion IsWord ts → AllByRecursion IsToken ts
tokens_are [] h = tt
tokens_are (t ∷ ts) h = (token_is t h.0, tokens_are ts h.1)

some_word : (ts : List Tok) → scan ts 0 0 phase.Operand ≡ None → ts ≢ []
some_word ts h e = some_none (subst (λ xs. scan xs 0 0 phase.Operand ≡ None) e h)

pub clause_is : (ts : List Tok) → IsWrittenCondition ts → IsClause ts
clause_is ts w =
    let passed = scan_none ts w.condition in
    let f = followed ts 0 0 phase.Operand passed in
    record { some = some_word ts passed; tokens = tokens_are ts (recursion_from_All _ ts w.words); first = f.1; followed = f.0 }
