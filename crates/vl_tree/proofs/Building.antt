-- How each way of building a rule over tokens is shown to be read exactly.
use Rattle.std.proofs.Common.{◌≡◌, Bool, false}
use Rattle.std.specs.Prelude.{◌||◌}
use Rattle.sg_text.specs.declared.words.Keyword.{Keyword}
use Rattle.grammar.specs.Exact.{Exact, Apart, IsWithin}
use Rattle.grammar.specs.Rule as rule
use Rattle.grammar.specs.Rule.{◌∙∙◌, ◌▸◌, ◌◂◌}
use Rattle.grammar.specs.Stated as stated
use Rattle.grammar.proofs.Laws as laws
use Rattle.vl_token.specs.declared.symbols.Symbol.{Symbol}
use Rattle.vl_token.specs.declared.symbols.Symbol.TheVariants as symbol
use Rattle.vl_token.specs.Tokens.{Lexeme}
use Rattle.vl_tree.specs.Kinds.{Kind, ByteKind, kind_of, is_symbol, is_word, is_byte}
use Rattle.vl_tree.specs.Rules.{Grammar, word, mark, byte, placed, either, optional, many, listed}

abbrev pub IsExact : {A : Type 0} → Grammar A → Type 0
IsExact r = Exact kind_of r

-- a token, and what it carries
pub token : {A : Type 0} (f : Lexeme → A) (is : Kind → Bool) → IsExact (rule.mapped f (rule.one kind_of is))
token f is = laws.mapped-exact kind_of f _ (laws.one-exact kind_of is)

pub the_token : (is : Kind → Bool) → IsExact (rule.one kind_of is)
the_token is = laws.one-exact kind_of is

pub the_word : (w : Keyword) → IsExact (word w)
the_word w = laws.quoted-exact kind_of (is_word w)

pub the_mark : (s : Symbol) → IsExact (mark s)
the_mark s = laws.quoted-exact kind_of (is_symbol s)

pub the_byte : (b : ByteKind) → IsExact (byte b)
the_byte b = laws.quoted-exact kind_of (is_byte b)

-- one rule after another, where the second takes no token that could continue the first
pub then : {A B : Type 0} {a : Grammar A} {b : Grammar B} → IsExact a → IsExact b → Apart a.continues b.starts → IsExact (a ∙∙ b)
then ea eb h = laws.seq-exact kind_of _ _ ea eb h

pub made : {A B : Type 0} {a : Grammar A} (f : A → B) → IsExact a → IsExact (rule.mapped f a)
made f ea = laws.mapped-exact kind_of f _ ea

-- the same where one of the two leaves no trace
pub behind : {A B : Type 0} {a : Grammar A} {b : Grammar B} → IsExact a → IsExact b → Apart a.continues b.starts → IsExact (a ▸ b)
behind ea eb h = made _ (then ea eb h)

pub before : {A B : Type 0} {a : Grammar A} {b : Grammar B} → IsExact a → IsExact b → Apart a.continues b.starts → IsExact (a ◂ b)
before ea eb h = made _ (then ea eb h)

pub called : {A : Type 0} {a : Grammar A} (S C : Kind → Bool) → IsExact a → a.empty ≡ false → IsWithin a.starts S → IsWithin a.continues C → IsExact (rule.named S C a)
called S C ea full p q = laws.named-exact kind_of _ ea S C full p q

pub with_place : {A : Type 0} {a : Grammar A} → IsExact a → a.empty ≡ false → IsExact (placed a)
with_place ea full = laws.placed-exact kind_of (λ t. t.place) _ ea full

pub or : {A : Type 0} {a b : Grammar A} → IsExact a → IsExact b → a.empty ≡ false → b.empty ≡ false → Apart a.starts b.starts → IsExact (either a b)
or ea eb p q h = laws.either-exact kind_of _ _ ea eb p q h

pub none : {A : Type 0} → IsExact {A = A} rule.nothing
none = laws.nothing-exact kind_of

pub perhaps : {A : Type 0} {a : Grammar A} → IsExact a → a.empty ≡ false → IsExact (optional a)
perhaps ea full = laws.optional-exact kind_of _ ea full

pub repeated : {A : Type 0} {a : Grammar A} → IsExact a → a.empty ≡ false → Apart a.continues a.starts → IsExact (many a)
repeated ea full h = laws.many-exact kind_of _ ea full h

abbrev pub comma : Kind → Bool
comma = is_symbol symbol.Comma

pub with_commas : {A : Type 0} {a : Grammar A} → IsExact a → a.empty ≡ false → Apart a.continues comma → IsExact (listed a)
with_commas ea full h = laws.separated-exact kind_of _ ea comma full h

pub fork : {A B C D : Type 0} {a : Grammar A} {b : Grammar B} {c : Grammar C} (f : A × B → D) (g : A × C → D) → IsExact a → IsExact b → IsExact c → a.empty ≡ false → b.empty ≡ false → c.empty ≡ false
    → Apart b.starts c.starts → Apart a.continues (λ k. b.starts k || c.starts k) → IsExact (stated.forked kind_of f g a b c)
fork f g ea eb ec p q r h i = laws.forked-exact kind_of f g _ _ _ ea eb ec p q r h i
