-- What holds of all that a rule says of some tokens, by how the rule is built.
use Rattle.std.specs.Prelude.{ℕ, IfSome, List, [], ◌∷◌, Option, Some, None}
use Rattle.std.specs.List.{AllByRecursion}
use Rattle.std.proofs.Common.{subst, inl, inr}
use Rattle.grammar.specs.Language.{SpellsMany}
use Rattle.grammar.specs.Rule.{◌∙∙◌, ◌▸◌, ◌◂◌, mapped, nothing}
use Rattle.grammar.specs.Stated.{separated_options}
use Rattle.vl_token.specs.declared.symbols.Symbol.TheVariants.{Comma}
use Rattle.vl_token.specs.Tokens.{Lexeme}
use Rattle.vl_tree.specs.Kinds.{is_symbol, kind_of}
use Rattle.vl_tree.specs.Rules.{Grammar, either, listed, many, mark, optional, placed}

abbrev pub Yields : {A : Type 0} → List Lexeme → (A → Type 0) → Grammar A → Type 0
Yields {A} ts P g = (i j : ℕ) (x : A) → g.language.Spells ts i x j → P x

pub any : {A : Type 0} (ts : List Lexeme) (g : Grammar A) → Yields ts (λ x. Unit {0}) g
any ts g i j x h = tt

pub in_turn : {A B : Type 0} (ts : List Lexeme) (P : A → Type 0) (Q : B → Type 0) (a : Grammar A) (b : Grammar B) → Yields ts P a → Yields ts Q b → Yields ts (λ x. P x.0 × Q x.1) (a ∙∙ b)
in_turn ts P Q a b f g i j x h = (f i h.0 x.0 h.1, g h.0 j x.1 h.2)

pub of_second : {A B : Type 0} (ts : List Lexeme) (Q : B → Type 0) (a : Grammar A) (b : Grammar B) → Yields ts Q b → Yields ts (λ x. Q x.1) (a ∙∙ b)
of_second ts Q a b g i j x h = g h.0 j x.1 h.2

pub made_of : {A B : Type 0} (ts : List Lexeme) (P : B → Type 0) (f : A → B) (a : Grammar A) → Yields ts (λ x. P (f x)) a → Yields ts P (mapped f a)
made_of ts P f a g i j y h = subst P h.1 (g i j h.0 h.2)

-- a part that leaves no trace
pub behind : {A B : Type 0} (ts : List Lexeme) (P : B → Type 0) (a : Grammar A) (b : Grammar B) → Yields ts P b → Yields ts P (a ▸ b)
behind ts P a b f = made_of ts P (λ x. x.1) (a ∙∙ b) (λ i j x h. f h.0 j x.1 h.2)

pub before : {A B : Type 0} (ts : List Lexeme) (P : A → Type 0) (a : Grammar A) (b : Grammar B) → Yields ts P a → Yields ts P (a ◂ b)
before ts P a b f = made_of ts P (λ x. x.0) (a ∙∙ b) (λ i j x h. f i h.0 x.0 h.1)

pub with_its_place : {A : Type 0} (ts : List Lexeme) (P : A → Type 0) (a : Grammar A) → Yields ts P a → Yields ts (λ x. P x.1) (placed a)
with_its_place ts P a f i j x h = f i j x.1 h.3

pub of_either : {A : Type 0} (ts : List Lexeme) (P : A → Type 0) (a b : Grammar A) → Yields ts P a → Yields ts P b → Yields ts P (either a b)
of_either ts P a b f g i j x (inl h) = f i j x h
of_either ts P a b f g i j x (inr h) = g i j x h

pub of_nothing : {A : Type 0} (ts : List Lexeme) (P : A → Type 0) → Yields ts P nothing
of_nothing ts P i j x h = absurd h

pub of_optional : {A : Type 0} (ts : List Lexeme) (P : A → Type 0) (a : Grammar A) → Yields ts P a → Yields ts (λ o. IfSome o P) (optional a)
of_optional ts P a f i j None h = tt
of_optional ts P a f i j (Some x) h = f i j x h

pub of_many : {A : Type 0} (ts : List Lexeme) (P : A → Type 0) (a : Grammar A) → Yields ts P a → Yields ts (AllByRecursion P) (many a)
of_many {A} ts P a f i j xs h = each i xs h
  where
    each : (i : ℕ) (xs : List A) → SpellsMany a.language ts i xs j → AllByRecursion P xs
    each i [] h = tt
    each i (x ∷ xs) h = (f i h.0 x h.1, each h.0 xs h.2)

-- the others of a list, each behind a comma
pub of_rest : {A : Type 0} (ts : List Lexeme) (P : A → Type 0) (a : Grammar A) → Yields ts P a → Yields ts (AllByRecursion P) (many (mark Comma ▸ a))
of_rest ts P a f = of_many ts P (mark Comma ▸ a) (behind ts P (mark Comma) a f)

pub of_listed : {A : Type 0} (ts : List Lexeme) (P : A → Type 0) (a : Grammar A) → Yields ts P a → Yields ts (AllByRecursion P) (listed a)
of_listed {A} ts P a f =
    made_of ts (AllByRecursion P) (λ (x : A × List A). x.0 ∷ x.1) (a ∙∙ many (mark Comma ▸ a)) (in_turn ts P (AllByRecursion P) a (many (mark Comma ▸ a)) f (of_rest ts P a f))

pub of_options : {A : Type 0} (ts : List Lexeme) (P : A → Type 0) (a : Grammar A) → Yields ts P a → Yields ts (AllByRecursion (λ o. IfSome o P)) (separated_options kind_of a (is_symbol Comma))
of_options {A} ts P a f i j xs h =
    made_of ts (AllByRecursion (λ o. IfSome o P)) (λ (x : Option A × List (Option A)). x.0 ∷ x.1) (optional a ∙∙ many (mark Comma ▸ optional a))
    (in_turn ts (λ o. IfSome o P) (AllByRecursion (λ o. IfSome o P)) (optional a) (many (mark Comma ▸ optional a)) (of_optional ts P a f) (of_rest ts (λ o. IfSome o P) (optional a) (of_optional ts P a f))) i j xs h.1
