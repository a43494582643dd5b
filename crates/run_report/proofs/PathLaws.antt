-- The path of a scope from the scopes that it stands in.
use Rattle.std.proofs.Common.{◌≡◌, ◌∙◌, sym, ap, refl, subst, ℕ, zero, suc, ◌<◌, ◌≤◌, List, [], ◌∷◌, ◌++◌, length, reverse, arith, append_assoc, inl, inr}
use Rattle.std.proofs.lemmas.Bool.{cases_lt}
use Rattle.std.proofs.lemmas.List.{append-nil, reverse-append, get_or_past, nil_from_length}
use Rattle.std.proofs.lemmas.List.Concat.{flat_map-append}
use Rattle.std.specs.Prelude.{pos, false, Option, Some, None, IfSome, Result, Ok, Err, OnOk, is_ok, if◌then◌else◌, codes, flat_map}
use Rattle.sg_circuit.specs.Circuit.{Circuit, Scope, scope_at}
use Rattle.sg_circuit.specs.Closed.{IsClosed}
use Rattle.run_report.specs.Above.{climb, climb_in, outer_text, scopes_above, turns_of}
use Rattle.run_report.specs.Report.{below, path_in, path_of}

-- what stands past the end
abbrev blank : Scope
blank = record { parent = None; name = []; module_name = []; unit = pos 0; precision = pos 0; is_leaf = false; variables = [] }

past : (c : Circuit) (s : ℕ) → length c.scopes ≤ s → scope_at c s ≡ blank
past c s l = get_or_past c.scopes s blank l

-- a scope is numbered after the one that it stands in
pub parent_before : (c : Circuit) → IsClosed c → (s : ℕ) → IfSome (scope_at c s).parent (λ p. p < s)
parent_before c h s = elim (cases_lt s (length c.scopes)) [
  | inl l ↦ h.parents s l
  | inr l ↦ subst (λ (x : Scope). IfSome x.parent (λ p. p < s)) (sym (past c s l)) tt
]

before_too : (o : Option ℕ) (a b : ℕ) → a ≤ b → IfSome o (λ p. p < a) → IfSome o (λ p. p < b)
before_too None a b l h = h
before_too (Some p) a b l h = omega arith

turns_within : (o : Option ℕ) (s u : ℕ) → s ≤ u → IfSome o (λ p. p < s) → turns_of o ≤ u
turns_within None s u l h = omega arith
turns_within (Some p) s u l h = omega arith

-- the number of turns doesn't matter where they suffice
climb_none : (c : Circuit) (u : ℕ) → climb_in u c None ≡ []
climb_none c zero = refl
climb_none c (suc u) = refl

climb_free : (c : Circuit) → IsClosed c → (u v : ℕ) (o : Option ℕ) → turns_of o ≤ u → turns_of o ≤ v → climb_in u c o ≡ climb_in v c o
climb_free c h u v None a b = climb_none c u ∙ sym (climb_none c v)
climb_free c h zero v (Some s) a b = absurd (omega arith)
climb_free c h (suc u) zero (Some s) a b = absurd (omega arith)
climb_free c h (suc u) (suc v) (Some s) a b =
    let p = (scope_at c s).parent in
    let k = parent_before c h s in
    ap (λ ss. s ∷ ss) (climb_free c h u v p (turns_within p s u (omega arith) k) (turns_within p s v (omega arith) k))

climb_next : (c : Circuit) → IsClosed c → (s : ℕ) → climb c (Some s) ≡ s ∷ scopes_above c s
climb_next c h s =
    let p = (scope_at c s).parent in
    ap (λ ss. s ∷ ss) (climb_free c h s (turns_of p) p (turns_within p s s (omega arith) (parent_before c h s)) (omega arith))

-- one scope more is climbed
pub climb_more : (c : Circuit) (s : ℕ) (o : Option ℕ) (above more whole : List ℕ) → IsClosed c → o ≡ (scope_at c s).parent → more ≡ above ++ s ∷ []
    → above ++ climb c (Some s) ≡ whole → more ++ climb c o ≡ whole
climb_more c s o above more whole h e added k =
    ap (λ ss. ss ++ climb c o) added
    ∙ (append_assoc above (s ∷ []) (climb c o)
    ∙ (ap (λ q. above ++ s ∷ climb c q) e
    ∙ (ap (λ ss. above ++ ss) (sym (climb_next c h s)) ∙ k)))

pub climb_less : (c : Circuit) (s : ℕ) (o : Option ℕ) → IsClosed c → o ≡ (scope_at c s).parent → turns_of o < suc s
climb_less c s o h e =
    subst (λ q. turns_of q < suc s) (sym e)
    (let t : turns_of (scope_at c s).parent ≤ s = turns_within (scope_at c s).parent s s (omega arith) (parent_before c h s) in omega arith)

-- the path of a scope's parent and a dot are the names above it
names_above : (c : Circuit) → IsClosed c → (t : ℕ) (o : Option ℕ) → IfSome o (λ p. p < t) → flat_map (outer_text c) (reverse (climb c o)) ≡ below (path_in t c) o
names_above c h t None l = refl
names_above c h zero (Some s) l = absurd (omega arith)
names_above c h (suc t) (Some s) l =
    let p = (scope_at c s).parent in
    let names = flat_map (outer_text c) (reverse (climb c p)) in
    ap (λ ss. flat_map (outer_text c) (reverse ss)) (climb_next c h s)
    ∙ (ap (flat_map (outer_text c)) (reverse-append (s ∷ []) (climb c p))
    ∙ (flat_map-append (outer_text c) (reverse (climb c p)) (s ∷ [])
    ∙ (ap (λ x. names ++ x) (append-nil (outer_text c s))
    ∙ (sym (append_assoc names (scope_at c s).name (codes "."))
    ∙ ap (λ x. (x ++ (scope_at c s).name) ++ codes ".") (names_above c h t p (before_too p s t (omega arith) (parent_before c h s)))))))

abbrev text_of : Circuit → Scope → List ℕ
text_of c x = flat_map (outer_text c) (reverse (climb c x.parent)) ++ x.name

path_within : (c : Circuit) → IsClosed c → (t s : ℕ) → s < t → text_of c (scope_at c s) ≡ path_in t c s
path_within c h zero s l = absurd (omega arith)
path_within c h (suc t) s l =
    ap (λ x. x ++ (scope_at c s).name) (names_above c h t (scope_at c s).parent (before_too (scope_at c s).parent s t (omega arith) (parent_before c h s)))

path_past : (c : Circuit) (t s : ℕ) → scope_at c s ≡ blank → text_of c (scope_at c s) ≡ path_in t c s
path_past c zero s e = ap (text_of c) e
path_past c (suc t) s e = ap (text_of c) e ∙ sym (ap (λ (x : Scope). below (path_in t c) x.parent ++ x.name) e)

pub path_is : (c : Circuit) (s : ℕ) → IsClosed c → flat_map (outer_text c) (reverse (scopes_above c s)) ++ (scope_at c s).name ≡ path_of c s
path_is c s h = elim (cases_lt s (length c.scopes)) [
  | inl l ↦ path_within c h (length c.scopes) s l
  | inr l ↦ path_past c (length c.scopes) s (past c s l)
]

-- all are written, and then the name of the scope itself
pub path_made : {U E : Type 0} (c : Circuit) (s : ℕ) (t u start left name : List ℕ) (r : Result U E) → IsClosed c → length left ≡ 0 → name ≡ (scope_at c s).name
    → t ++ flat_map (outer_text c) (reverse left) ≡ start ++ flat_map (outer_text c) (reverse (scopes_above c s)) → u ≡ (if is_ok r then t ++ name else t) → OnOk r (u ≡ start ++ path_of c s)
path_made c s t u start left name (Ok x) h none n k p =
    p ∙ (ap (λ y. t ++ y) n
    ∙ (ap (λ y. y ++ (scope_at c s).name) (sym (append-nil t) ∙ (ap (λ ss. t ++ flat_map (outer_text c) (reverse ss)) (sym (nil_from_length left none)) ∙ k))
    ∙ (append_assoc start (flat_map (outer_text c) (reverse (scopes_above c s))) (scope_at c s).name
    ∙ ap (λ y. start ++ y) (path_is c s h))))
path_made c s t u start left name (Err why) h none n k p = tt
