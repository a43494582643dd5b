-- How each way of building a rule over tokens is shown to be read exactly.
use Rattle.std.proofs.Common.{◌≡◌, Bool, false}
use Rattle.grammar.specs.Exact.{Exact, Apart, IsWithin}
use Rattle.grammar.specs.Rule as rule
use Rattle.grammar.specs.Rule.{◌∙∙◌, ◌▸◌, ◌◂◌}
use Rattle.grammar.proofs.Laws as laws
use Rattle.sdf_lex.specs.Tokens.{Lexeme}
use Rattle.sdf_tree.specs.declared.keywords.Keyword.{Keyword}
use Rattle.sdf_tree.specs.Kinds.{Kind, kind_of, is_word}
use Rattle.sdf_tree.specs.Rules.{Grammar, token, mark, word, placed, either, optional, many}

abbrev pub IsExact : {A : Type 0} → Grammar A → Type 0
IsExact r = Exact kind_of r

pub the_token : {A : Type 0} (f : Lexeme → A) (is : Kind → Bool) → IsExact (token f is)
the_token f is = laws.mapped-exact kind_of f _ (laws.one-exact kind_of is)

pub the_mark : (is : Kind → Bool) → IsExact (mark is)
the_mark is = laws.quoted-exact kind_of is

pub the_word : (w : Keyword) → IsExact (word w)
the_word w = laws.quoted-exact kind_of (is_word w)

-- one rule after another, where the second takes no token that could continue the first
pub then : {A B : Type 0} {a : Grammar A} {b : Grammar B} → IsExact a → IsExact b → Apart a.continues b.starts → IsExact (a ∙∙ b)
then ea eb h = laws.seq-exact kind_of _ _ ea eb h

pub made : {A B : Type 0} {a : Grammar A} (f : A → B) → IsExact a → IsExact (rule.mapped f a)
made f ea = laws.mapped-exact kind_of f _ ea

-- the same where one of the two leaves no trace
pub behind : {A B : Type 0} {a : Grammar A} {b : Grammar B} → IsExact a → IsExact b → Apart a.continues b.starts → IsExact (a ▸ b)
behind ea eb h = made _ (then ea eb h)

pub before : {A B : Type 0} {a : Grammar A} {b : Grammar B} → IsExact a → IsExact b → Apart a.continues b.starts → IsExact (a ◂ b)
before ea eb h = made _ (then ea eb h)

pub called : {A : Type 0} {a : Grammar A} (S C : Kind → Bool) → IsExact a → a.empty ≡ false → IsWithin a.starts S → IsWithin a.continues C → IsExact (rule.named S C a)
called S C ea full p q = laws.named-exact kind_of _ ea S C full p q

pub with_place : {A : Type 0} {a : Grammar A} → IsExact a → a.empty ≡ false → IsExact (placed a)
with_place ea full = laws.placed-exact kind_of (λ t. t.place) _ ea full

pub or : {A : Type 0} {a b : Grammar A} → IsExact a → IsExact b → a.empty ≡ false → b.empty ≡ false → Apart a.starts b.starts → IsExact (either a b)
or ea eb p q h = laws.either-exact kind_of _ _ ea eb p q h

pub perhaps : {A : Type 0} {a : Grammar A} → IsExact a → a.empty ≡ false → IsExact (optional a)
perhaps ea full = laws.optional-exact kind_of _ ea full

pub repeated : {A : Type 0} {a : Grammar A} → IsExact a → a.empty ≡ false → Apart a.continues a.starts → IsExact (many a)
repeated ea full h = laws.many-exact kind_of _ ea full h

-- ---- apartness that needs no look at the kinds

-- nothing continues the first
pub closed : (d : Kind → Bool) → Apart (λ (k : Kind). false) d
closed d k p q = cc

pub same : (c : Kind → Bool) → IsWithin c c
same c k p = p
