-- How the rules of the grammar are written.
use Rattle.std.specs.Prelude.{Bool, List, Option}
use Rattle.sg_text.specs.declared.places.Place.{Place}
use Rattle.grammar.specs.Placed as places
use Rattle.grammar.specs.Rule as rule
use Rattle.grammar.specs.Rule.{Rule}
use Rattle.sdf_lex.specs.Tokens.{Lexeme}
use Rattle.sdf_tree.specs.declared.keywords.Keyword.{Keyword}
use Rattle.sdf_tree.specs.Kinds.{Kind, kind_of, is_word}

abbrev pub Grammar : Type 0 → Type 1
Grammar A = Rule Lexeme Kind A

-- one token, and what it carries
abbrev pub token : {A : Type 0} → (Lexeme → A) → (Kind → Bool) → Grammar A
token f is = rule.mapped f (rule.one kind_of is)

-- a token that leaves no trace
abbrev pub mark : (Kind → Bool) → Grammar (Unit {0})
mark is = rule.quoted kind_of is

abbrev pub word : Keyword → Grammar (Unit {0})
word w = mark (is_word w)

-- a part with the place of its first token
abbrev pub placed : {A : Type 0} → Grammar A → Grammar (Place × A)
placed a = places.placed (λ t. t.place) a

abbrev pub either : {A : Type 0} → Grammar A → Grammar A → Grammar A
either a b = rule.either kind_of a b

abbrev pub optional : {A : Type 0} → Grammar A → Grammar (Option A)
optional a = rule.optional kind_of a

abbrev pub many : {A : Type 0} → Grammar A → Grammar (List A)
many a = rule.many kind_of a
