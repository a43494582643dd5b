-- One specify block at most is open at a position.
use Rattle.std.proofs.Common.{◌≡◌, ℕ, Bool, true, false, List, Option, Some, None, refl, ap, ◌∙◌, inl, inr}
use Rattle.std.specs.Prelude.{◌||◌, slice_get}
use Rattle.std.specs.Option.{option_map}
use Rattle.std.proofs.lemmas.Bool.{cases_order}
use Rattle.sg_text.specs.declared.words.Keyword.TheVariants.{Specify, EndSpecify}
use Rattle.grammar.specs.Rule.{holds, stands}
use Rattle.vl_token.specs.Tokens.{Lexeme}
use Rattle.vl_tree.specs.Kinds.{Kind, kind_of, is_word}
use Rattle.vl_parse.specs.Parsed.{IsOpen, is_bound}

both : {b : Bool} → b ≡ true → b ≡ false → ⊥
both h g = cc

bounds-is : (o : Option Kind) → holds is_bound o ≡ (holds (is_word Specify) o || holds (is_word EndSpecify) o)
bounds-is None = refl
bounds-is (Some kind) = refl

-- where a block begins one of the two words stands
where-begun : (ts : List Lexeme) (k : ℕ) → stands kind_of (is_word Specify) ts k ≡ true → stands kind_of is_bound ts k ≡ true
where-begun ts k h = bounds-is (option_map kind_of (slice_get ts k)) ∙ ap (λ b. b || stands kind_of (is_word EndSpecify) ts k) h

pub one-open : (ts : List Lexeme) (e s r : ℕ) → IsOpen ts s e → IsOpen ts r e → s ≡ r
one-open ts e s r o p = elim (cases_order s r) [
  | inl same ↦ same
  | inr (inl less) ↦ absurd (both (where-begun ts r p.opens) (o.inside r less p.before))
  | inr (inr more) ↦ absurd (both (where-begun ts s o.opens) (p.inside s more o.before))
]
