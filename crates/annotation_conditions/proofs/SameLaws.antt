-- Conditions whose cores are equal are the same.
use Rattle.std.proofs.Common.{◌≡◌, refl, sym, ap, ◌∙◌, ℕ, zero, suc, ◌<◌, ◌≤◌, List, [], ◌∷◌, ◌++◌, Option, Some, None, unwrap_or, length, slice_index_or, reverse, arith}
use Rattle.std.specs.Prelude.{Bool, true, false, if◌then◌else◌}
use Rattle.std.specs.Bool.{OnTrue, OnFalse}
use Rattle.std.proofs.lemmas.List.{reverse-reverse, reverse-append, get_or-map}
use Rattle.cond_expr.specs.Token.{Tok}
use Rattle.cond_expr.specs.declared.tokens.Tok.TheVariants as tok
use Rattle.cond_expr.specs.Condition.{Condition}
use Rattle.cond_expr.specs.Same.{IsCore, IsEnclosed, in_parentheses}
use Rattle.cond_expr.proofs.Cores.{Within, within_none, within_more, within_is_core, inner_shorter, one_core}
use Rattle.sg_circuit.specs.PathsSeen.{written_at}
use Rattle.annotation_model.specs.Same.{is_balanced, before_right, within, off, without_pairs, bare, same_condition}
use Rattle.annotation_conditions.proofs.BalanceLaws.{balanced_if_counted, counted_if_balanced}
use Rattle.annotation_conditions.proofs.TokenLaws.{tokens_eq-decides}

-- ---- what stands between the first token and the last

some_is : (xs ys : List Tok) → Some xs ≡ Some ys → xs ≡ ys
some_is xs ys e = ap (λ (o : Option (List Tok)). unwrap_or o []) e

none_is : (xs : List Tok) → ◌≡◌ {A = Option (List Tok)} None (Some xs) → ⊥
none_is xs e = absurd cc

-- a list, by its last token and those before
turned : (ts us : List Tok) (t : Tok) → reverse ts ≡ t ∷ us → ts ≡ reverse us ++ t ∷ []
turned ts us t e = sym (reverse-reverse ts) ∙ ap reverse e ∙ reverse-append (t ∷ []) us

before_last : (ts us inner : List Tok) → reverse ts ≡ us → before_right us ≡ Some inner → ts ≡ inner ++ tok.Right ∷ []
before_last ts [] inner e is = absurd (none_is inner is)
before_last ts (tok.Right ∷ us) inner e is = turned ts us tok.Right e ∙ ap (λ xs. xs ++ tok.Right ∷ []) (some_is (reverse us) inner is)
before_last ts (tok.Left ∷ us) inner e is = absurd (none_is inner is)
before_last ts (tok.Name name ∷ us) inner e is = absurd (none_is inner is)
before_last ts (tok.Index index ∷ us) inner e is = absurd (none_is inner is)
before_last ts (tok.Const value ∷ us) inner e is = absurd (none_is inner is)
before_last ts (tok.Op op ∷ us) inner e is = absurd (none_is inner is)

within_encloses : (ts inner : List Tok) → within ts ≡ Some inner → ts ≡ in_parentheses 1 inner
within_encloses [] inner is = absurd (none_is inner is)
within_encloses (tok.Left ∷ ts) inner is = ap (λ xs. tok.Left ∷ xs) (before_last ts (reverse ts) inner refl is)
within_encloses (tok.Right ∷ ts) inner is = absurd (none_is inner is)
within_encloses (tok.Name name ∷ ts) inner is = absurd (none_is inner is)
within_encloses (tok.Index index ∷ ts) inner is = absurd (none_is inner is)
within_encloses (tok.Const value ∷ ts) inner is = absurd (none_is inner is)
within_encloses (tok.Op op ∷ ts) inner is = absurd (none_is inner is)

enclosed_within : (inner : List Tok) → within (in_parentheses 1 inner) ≡ Some inner
enclosed_within inner = ap before_right (reverse-append inner (tok.Right ∷ [])) ∙ ap Some (reverse-reverse inner)

-- ---- taking off one pair after another

off_is_core : (n : ℕ) (ts core : List Tok) → Within ts core → length core ≤ n → IsCore ts (without_pairs n core)
off_is_core zero ts core w few = within_is_core ts core w (λ e. let longer = inner_shorter core e.0 e.1 in absurd (omega (arith, longer, few)))
off_is_core (suc n) ts core w few = by (λ inner v fewer. off_is_core n ts inner v fewer) (within core) refl
  where
    bare_if_none : within core ≡ None → IsEnclosed core → ⊥
    bare_if_none is e = none_is e.0 (sym is ∙ ap within e.1 ∙ enclosed_within e.0)

    bare_if_open : (inner : List Tok) → within core ≡ Some inner → is_balanced inner ≡ false → IsEnclosed core → ⊥
    bare_if_open inner is open_ones e =
        let same = some_is inner e.0 (sym is ∙ ap within e.1 ∙ enclosed_within e.0) in
        let closed = ap is_balanced same ∙ counted_if_balanced e.0 e.2 in
        absurd cc

    if_some : ((inner : List Tok) → Within ts inner → length inner ≤ n → IsCore ts (without_pairs n inner))
        → (b : Bool) (inner : List Tok) → within core ≡ Some inner → is_balanced inner ≡ b → IsCore ts (if b then without_pairs n inner else core)
    if_some more true inner is b =
        let encloses = within_encloses core inner is in
        let shorter = inner_shorter core inner encloses in
        more inner (within_more ts core inner w encloses (balanced_if_counted inner b)) (omega (arith, few, shorter))
    if_some more false inner is b = within_is_core ts core w (bare_if_open inner is b)

    by : ((inner : List Tok) → Within ts inner → length inner ≤ n → IsCore ts (without_pairs n inner)) → (o : Option (List Tok)) → within core ≡ o → IsCore ts (off core (without_pairs n) o)
    by more None is = within_is_core ts core w (bare_if_none is)
    by more (Some inner) is = if_some more (is_balanced inner) inner is refl

pub bare_is_core : (ts : List Tok) → IsCore ts (bare ts)
bare_is_core ts = off_is_core (length ts) ts ts (within_none ts) (omega arith)

-- ---- conditions that are the same

same_if_cores : (result : Bool) (written words : List Tok) → OnTrue result ((found : List Tok) × IsCore written found × IsCore words found)
    → OnFalse result ((a b : List Tok) → IsCore written a → IsCore words b → a ≡ b → ⊥) → result ≡ same_condition written words
same_if_cores true written words one differ = sym ((tokens_eq-decides (bare written) (bare words)).1 (same one.0 one.1 one.2))
  where
    same : (found : List Tok) → IsCore written found → IsCore words found → bare written ≡ bare words
    same found p q = one_core written (bare written) found (bare_is_core written) p ∙ one_core words found (bare words) q (bare_is_core words)
same_if_cores false written words one differ = by (same_condition written words) refl differ
  where
    by : (b : Bool) → same_condition written words ≡ b → ((a b : List Tok) → IsCore written a → IsCore words b → a ≡ b → ⊥) → false ≡ b
    by true e none = absurd (none (bare written) (bare words) (bare_is_core written) (bare_is_core words) ((tokens_eq-decides (bare written) (bare words)).0 e))
    by false e none = refl

-- the same of a condition that stands at a place of a table
pub same_at : (result : Bool) (conditions : List Condition) (place : ℕ) (c : Condition) (words : List Tok) → place < length conditions → c ≡ slice_index_or conditions place c
    → OnTrue result ((found : List Tok) × IsCore c.tokens found × IsCore words found) → OnFalse result ((a b : List Tok) → IsCore c.tokens a → IsCore words b → a ≡ b → ⊥)
    → result ≡ same_condition (written_at conditions place) words
same_at result conditions place c words few is one differ =
    let written : written_at conditions place ≡ c.tokens = get_or-map (λ x. x.tokens) conditions place c [] few ∙ sym (ap (λ x. x.tokens) is) in
    same_if_cores result c.tokens words one differ ∙ ap (λ ts. same_condition ts words) (sym written)
