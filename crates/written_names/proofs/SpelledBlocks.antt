-- Conditions in trees that good tokens spell are conditions of good words, and limits have a sign only where they may lie below 0.
use Rattle.std.specs.Prelude.{◌≡◌, ℤ, Bool, true, false, IfSome, List, Option, Some, None, unwrap_or}
use Rattle.std.specs.List.{AllByRecursion}
use Rattle.std.proofs.Common.{refl}
use Rattle.sg_text.specs.declared.places.Place.{Place}
use Rattle.sg_text.specs.declared.words.Keyword.TheVariants as keyword
use Rattle.grammar.specs.Rule.{◌∙∙◌, ◌▸◌, ◌◂◌, followed, mapped, no_kind, one as one_of, only_if}
use Rattle.cond_expr.specs.declared.tokens.Tok.TheVariants as tok
use Rattle.cond_expr.specs.Vocabulary.{any_word, is_word as begins_word}
use Rattle.vl_token.specs.declared.symbols.Symbol.{Symbol}
use Rattle.vl_token.specs.declared.symbols.Symbol.TheVariants.{AndAndAnd, Assign, Colon, Comma, LeftBracket, LeftParen, Minus, RightBracket, RightParen, Semicolon}
use Rattle.vl_token.specs.declared.symbols.Symbol.TheVariants as symbol
use Rattle.vl_token.specs.Tokens.{Lexeme, Meaning, byte_token, left_out_token, module_word, name_token, number_token, other_token, pair_token, sized_token, symbol_token, system_token, unsized_token, word_token}
use Rattle.vl_tree.specs.Amounts.{amount, limit, limit_of, limit_parts, plain_limit, plain_limit_parts, signed_amount, signed_amount_parts, specparam}
use Rattle.vl_tree.specs.Checks.{Delayed, arguments, arguments_of, arguments_parts, between, check, check_name, check_parts, event, event_parts, last_arguments, threshold_and_notifier, trailing_name}
use Rattle.vl_tree.specs.Conditions.{condition, condition_parts, index, index_parts, tok_of, vocabulary, word_of, word_of_symbol}
use Rattle.vl_tree.specs.Expressions.{int}
use Rattle.vl_tree.specs.Kinds.{is_symbol, kind_of}
use Rattle.vl_tree.specs.Paths.{PathBody, check_edge, conditional, conditional_parts, path, path_body, path_parts, term, terms}
use Rattle.vl_tree.specs.Primitives.{is_there}
use Rattle.vl_tree.specs.Rules.{Grammar, either, listed, many, mark, optional, placed, word}
use Rattle.vl_tree.specs.Specify.{block, block_parts, check_item, check_item_parts, path_item, path_item_parts, specify_item, specify_item_parts, specparam_item, specparam_item_parts, style, style_item, style_item_parts}
use Rattle.vl_tree.specs.Tree as tree
use Rattle.vl_tree.specs.Tree.{Named, Word}
use Rattle.vl_tree.specs.declared.check_names.CheckName.{CheckName}
use Rattle.vl_tree.specs.declared.check_names.CheckName.TheVariants.{OneLimit, Period, TwoLimits, Width}
use Rattle.vl_tree.specs.declared.check_names.OneLimitCheck.{OneLimitCheck}
use Rattle.vl_tree.specs.declared.check_names.OneLimitCheck.TheVariants as one
use Rattle.vl_tree.specs.declared.specify.PulseStyle.{PulseStyle}
use Rattle.specify_model.specs.Conditions.{tokens}
use Rattle.elab_laws.proofs.Lists.{all-map}
use Rattle.written_reading.specs.Named.{IsIndex, IsWord}
use Rattle.written_names.proofs.BareConditions.{IsSpelled}
use Rattle.written_names.proofs.NamedMeanings.{IsGoodMeaning}
use Rattle.written_names.proofs.WordLaws.{AreGood, int_is}
use Rattle.written_names.proofs.Yields.{Yields, any, before, behind, in_turn, made_of, of_either, of_many, of_optional, of_second, with_its_place}

-- ---- words

symbol_word : (s : Symbol) → IsWord (unwrap_or (word_of_symbol s) tok.Left)
symbol_word symbol.Parallel = tt
symbol_word symbol.Full = tt
symbol_word symbol.AndAndAnd = tt
symbol_word symbol.AndAnd = tt
symbol_word symbol.And = tt
symbol_word symbol.OrOr = tt
symbol_word symbol.Or = tt
symbol_word symbol.CaseEqual = tt
symbol_word symbol.Equal = tt
symbol_word symbol.Assign = tt
symbol_word symbol.CaseUnequal = tt
symbol_word symbol.Unequal = tt
symbol_word symbol.Bang = tt
symbol_word symbol.TildeXor = tt
symbol_word symbol.XorTilde = tt
symbol_word symbol.Xor = tt
symbol_word symbol.Tilde = tt
symbol_word symbol.LeftParen = tt
symbol_word symbol.RightParen = tt
symbol_word symbol.LeftBracket = tt
symbol_word symbol.RightBracket = tt
symbol_word symbol.LeftBrace = tt
symbol_word symbol.RightBrace = tt
symbol_word symbol.Comma = tt
symbol_word symbol.Semicolon = tt
symbol_word symbol.Colon = tt
symbol_word symbol.Point = tt
symbol_word symbol.Hash = tt
symbol_word symbol.Plus = tt
symbol_word symbol.Minus = tt

word_of_token : (m : Meaning) → IsGoodMeaning m → IsWord (tok_of m)
word_of_token (name_token text) g = g
word_of_token (symbol_token s) g = symbol_word s
word_of_token (module_word s) g = tt
word_of_token (number_token n w) g = tt
word_of_token (word_token w) g = tt
word_of_token (left_out_token text) g = tt
word_of_token (system_token text) g = tt
word_of_token (other_token text) g = tt
word_of_token (sized_token bits) g = tt
word_of_token (unsized_token bits) g = tt
word_of_token (pair_token from to) g = tt
word_of_token (byte_token b) g = tt

abbrev IsSpelledWord : Word → Type 0
IsSpelledWord w = IsWord w.token

index_is : (ts : List Lexeme) → AreGood ts → Yields ts IsSpelledWord index
unfolding index_parts
index_is ts good =
    made_of ts IsSpelledWord (λ (x : Place × ℤ). record { place = x.0; token = tok.Index x.1 }) (placed (mark LeftBracket ▸ (int ◂ mark RightBracket)))
    (with_its_place ts IsIndex (mark LeftBracket ▸ (int ◂ mark RightBracket)) (behind ts IsIndex (mark LeftBracket) (int ◂ mark RightBracket) (before ts IsIndex int (mark RightBracket) (int_is ts good))))

word_is : (ts : List Lexeme) → AreGood ts → Yields ts IsSpelledWord (any_word vocabulary)
word_is ts good =
    of_either ts IsSpelledWord (mapped word_of (one_of kind_of (begins_word vocabulary))) index
    (made_of ts IsSpelledWord word_of (one_of kind_of (begins_word vocabulary)) (λ i j t h. word_of_token t.meaning (good i t h.0))) (index_is ts good)

-- ---- conditions

abbrev pub AreSpelled : List Word → Type 0
AreSpelled ws = IsSpelled (tokens ws)

condition_is : (ts : List Lexeme) → AreGood ts → Yields ts AreSpelled condition
unfolding condition_parts
condition_is ts good i j ws h = record {
  condition = h.1;
  words = all-map IsWord (λ (w : Word). w.token) ws (of_many ts IsSpelledWord (any_word vocabulary) (word_is ts good) i j ws h.0);
}

abbrev pub IsSpelledCondition : tree.PathCondition → Type 0
IsSpelledCondition tree.always = Unit {0}
IsSpelledCondition tree.if_none = Unit {0}
IsSpelledCondition (tree.if_words ws) = AreSpelled ws

conditional_is : (ts : List Lexeme) → AreGood ts → (limited : Bool) → Yields ts (λ (x : tree.PathCondition × PathBody). IsSpelledCondition x.0) (conditional limited)
unfolding conditional_parts
conditional_is ts good limited =
    of_either ts P (mapped (λ (x : List Word × PathBody). (tree.if_words x.0, x.1)) under) (either (mapped (λ b. (tree.if_none, b)) (word keyword.IfNone ▸ path_body limited false)) (mapped (λ b. (tree.always, b)) (path_body limited true)))
    (made_of ts P (λ (x : List Word × PathBody). (tree.if_words x.0, x.1)) under
    (behind ts Q (word keyword.If) (mark LeftParen ▸ body) (behind ts Q (mark LeftParen) body
    (λ i j x h. (in_turn ts AreSpelled (λ b. Unit {0}) condition rest (condition_is ts good) (any ts rest) i j x h).0))))
    (of_either ts P (mapped (λ b. (tree.if_none, b)) (word keyword.IfNone ▸ path_body limited false)) (mapped (λ b. (tree.always, b)) (path_body limited true))
    (made_of ts P (λ b. (tree.if_none, b)) (word keyword.IfNone ▸ path_body limited false) (λ i j x h. tt)) (made_of ts P (λ b. (tree.always, b)) (path_body limited true) (λ i j x h. tt)))
  where
    P : tree.PathCondition × PathBody → Type 0
    P x = IsSpelledCondition x.0

    Q : List Word × PathBody → Type 0
    Q x = AreSpelled x.0

    rest : Grammar PathBody
    rest = mark RightParen ▸ path_body limited true

    body : Grammar (List Word × PathBody)
    body = condition ∙∙ rest

    under : Grammar (List Word × PathBody)
    under = word keyword.If ▸ (mark LeftParen ▸ body)

abbrev pub IsSpelledPath : tree.SpecifyPath → Type 0
IsSpelledPath p = IsSpelledCondition p.condition

path_is : (ts : List Lexeme) → AreGood ts → (limited : Bool) → Yields ts IsSpelledPath (path limited)
unfolding path_parts
path_is ts good limited =
    made_of ts IsSpelledPath
    (λ (x : Place × (tree.PathCondition × PathBody)). record { place = x.0; condition = x.1.0; edge = x.1.1.0; sources = x.1.1.1.0.0.0; polarity = x.1.1.1.0.0.1; arrow = x.1.1.1.0.1.0; destination = x.1.1.1.0.1.1; delays = x.1.1.1.1 })
    (placed (conditional limited)) (with_its_place ts (λ (x : tree.PathCondition × PathBody). IsSpelledCondition x.0) (conditional limited) (conditional_is ts good limited))

-- ---- limits

abbrev pub IsUnsigned : tree.SignedAmount → Type 0
IsUnsigned a = a.negative ≡ false

abbrev pub IsUnsignedLimit : tree.Limit → Type 0
IsUnsignedLimit (tree.one_limit a) = IsUnsigned a
IsUnsignedLimit (tree.three_limits a b c) = IsUnsigned a × IsUnsigned b × IsUnsigned c

no_sign : (ts : List Lexeme) → Yields ts (λ o. is_there o ≡ false) (optional (only_if false (mark Minus)))
no_sign ts i j None h = refl
no_sign ts i j (Some x) h = absurd h

unsigned_is : (ts : List Lexeme) → Yields ts IsUnsigned (signed_amount false)
unfolding signed_amount_parts
unsigned_is ts =
    made_of ts IsUnsigned (λ (x : Option (Unit {0}) × tree.Amount). record { negative = is_there x.0; amount = x.1 }) (optional (only_if false (mark Minus)) ∙∙ amount)
    (λ i j x h. (in_turn ts (λ o. is_there o ≡ false) (λ a. Unit {0}) (optional (only_if false (mark Minus))) amount (no_sign ts) (any ts amount) i j x h).0)

limit_of_parts : (a : tree.SignedAmount) (o : Option (tree.SignedAmount × tree.SignedAmount)) → IsUnsigned a → IfSome o (λ p. IsUnsigned p.0 × IsUnsigned p.1) → IsUnsignedLimit (limit_of a o)
limit_of_parts a None h k = h
limit_of_parts a (Some p) h k = (h, k.0, k.1)

plain_limit_is : (ts : List Lexeme) → Yields ts IsUnsignedLimit (plain_limit false)
unfolding plain_limit_parts
plain_limit_is ts =
    made_of ts IsUnsignedLimit (λ (x : tree.SignedAmount × Option (tree.SignedAmount × tree.SignedAmount)). limit_of x.0 x.1) (signed_amount false ∙∙ optional more)
    (λ i j x h. let r = in_turn ts IsUnsigned (λ o. IfSome o Both) (signed_amount false) (optional more) (unsigned_is ts)
    (of_optional ts Both more (behind ts Both (mark Colon) (signed_amount false ∙∙ (mark Colon ▸ signed_amount false))
    (in_turn ts IsUnsigned IsUnsigned (signed_amount false) (mark Colon ▸ signed_amount false) (unsigned_is ts) (behind ts IsUnsigned (mark Colon) (signed_amount false) (unsigned_is ts))))) i j x h
    in limit_of_parts x.0 x.1 r.0 r.1)
  where
    Both : tree.SignedAmount × tree.SignedAmount → Type 0
    Both p = IsUnsigned p.0 × IsUnsigned p.1

    more : Grammar (tree.SignedAmount × tree.SignedAmount)
    more = mark Colon ▸ (signed_amount false ∙∙ (mark Colon ▸ signed_amount false))

limit_is : (ts : List Lexeme) → Yields ts IsUnsignedLimit (limit false)
unfolding limit_parts
limit_is ts =
    of_either ts IsUnsignedLimit (plain_limit false) (mark LeftParen ▸ (plain_limit false ◂ mark RightParen)) (plain_limit_is ts)
    (behind ts IsUnsignedLimit (mark LeftParen) (plain_limit false ◂ mark RightParen) (before ts IsUnsignedLimit (plain_limit false) (mark RightParen) (plain_limit_is ts)))

-- ---- timing checks

abbrev pub IsSpelledEvent : tree.Event → Type 0
IsSpelledEvent e = IfSome e.condition AreSpelled

event_is : (ts : List Lexeme) → AreGood ts → Yields ts IsSpelledEvent event
unfolding event_parts
event_is ts good =
    made_of ts IsSpelledEvent (λ (x : Place × (Option tree.EdgeWord × (tree.Term × Option (List Word)))). record { place = x.0; edge = x.1.0; term = x.1.1.0; condition = x.1.1.1 }) (placed (optional check_edge ∙∙ (term ∙∙ enabled)))
    (with_its_place ts (λ (x : Option tree.EdgeWord × (tree.Term × Option (List Word))). IfSome x.1.1 AreSpelled) (optional check_edge ∙∙ (term ∙∙ enabled))
    (of_second ts (λ (x : tree.Term × Option (List Word)). IfSome x.1 AreSpelled) (optional check_edge) (term ∙∙ enabled)
    (of_second ts (λ o. IfSome o AreSpelled) term enabled (of_optional ts AreSpelled (mark AndAndAnd ▸ condition) (behind ts AreSpelled (mark AndAndAnd) condition (condition_is ts good))))))
  where
    enabled : Grammar (Option (List Word))
    enabled = optional (mark AndAndAnd ▸ condition)

abbrev pub IsSpelledCheck : tree.Check → Type 0
IsSpelledCheck (tree.one_limit_check p k r d l n) = IsSpelledEvent r × IsSpelledEvent d × IsUnsignedLimit l
IsSpelledCheck (tree.two_limit_check p k r d l m n f g) = IsSpelledEvent r × IsSpelledEvent d
IsSpelledCheck (tree.width_check p r l t n) = IsSpelledEvent r × IsUnsignedLimit l
IsSpelledCheck (tree.period_check p r l n) = IsSpelledEvent r × IsUnsignedLimit l

between_is : (place : Place) (c : OneLimitCheck) (first second : tree.Event) (l : tree.Limit) (n : Option Named) → IsSpelledEvent first → IsSpelledEvent second → IsUnsignedLimit l → IsSpelledCheck (between place c first second l n)
between_is place one.Setup first second l n h k u = (k, h, u)
between_is place one.Hold first second l n h k u = (h, k, u)
between_is place one.Recovery first second l n h k u = (h, k, u)
between_is place one.Removal first second l n h k u = (h, k, u)
between_is place one.Skew first second l n h k u = (h, k, u)

-- an event, and behind a comma what comes then
then : {A : Type 0} (ts : List Lexeme) → AreGood ts → (P : A → Type 0) (a : Grammar A) → Yields ts P a → Yields ts (λ (x : tree.Event × A). IsSpelledEvent x.0 × P x.1) (event ∙∙ (mark Comma ▸ a))
then ts good P a f = in_turn ts IsSpelledEvent P event (mark Comma ▸ a) (event_is ts good) (behind ts P (mark Comma) a f)

-- a limit that has no sign, and what stands behind it
unsigned_then : {A : Type 0} (ts : List Lexeme) (a : Grammar A) → Yields ts (λ (x : tree.Limit × A). IsUnsignedLimit x.0) (limit false ∙∙ a)
unsigned_then ts a i j x h = limit_is ts i h.0 x.0 h.1

arguments_are : (ts : List Lexeme) → AreGood ts → (limited : Bool) (place : Place) (c : CheckName) → Yields ts IsSpelledCheck (arguments_of limited place c)
arguments_are ts good limited place (OneLimit c) =
    made_of ts IsSpelledCheck (λ (x : tree.Event × (tree.Event × (tree.Limit × Option Named))). between place c x.0 x.1.0 x.1.1.0 x.1.1.1) (event ∙∙ (mark Comma ▸ (event ∙∙ (mark Comma ▸ (limit false ∙∙ trailing_name)))))
    (λ i j x h. let r = then ts good (λ (y : tree.Event × (tree.Limit × Option Named)). IsSpelledEvent y.0 × IsUnsignedLimit y.1.0) (event ∙∙ (mark Comma ▸ (limit false ∙∙ trailing_name)))
    (then ts good (λ (y : tree.Limit × Option Named). IsUnsignedLimit y.0) (limit false ∙∙ trailing_name) (unsigned_then ts trailing_name)) i j x h
    in between_is place c x.0 x.1.0 x.1.1.0 x.1.1.1 r.0 r.1.0 r.1.1)
arguments_are ts good limited place (TwoLimits c) =
    made_of ts IsSpelledCheck (λ (x : tree.Event × (tree.Event × Limits)). tree.two_limit_check place c x.0 x.1.0 x.1.1.0 x.1.1.1.0 x.1.1.1.1.0 x.1.1.1.1.1.0 x.1.1.1.1.1.1) (event ∙∙ (mark Comma ▸ (event ∙∙ (mark Comma ▸ limits))))
    (λ i j x h. let r = then ts good (λ (y : tree.Event × Limits). IsSpelledEvent y.0 × Unit {0}) (event ∙∙ (mark Comma ▸ limits)) (then ts good (λ (y : Limits). Unit {0}) limits (any ts limits)) i j x h in (r.0, r.1.0))
  where
    Limits : Type 0
    Limits = tree.Limit × (tree.Limit × (Option Named × Delayed))

    limits : Grammar Limits
    limits = limit true ∙∙ (mark Comma ▸ (limit true ∙∙ last_arguments limited))
arguments_are ts good limited place Width =
    made_of ts IsSpelledCheck (λ (x : tree.Event × (tree.Limit × (Option tree.Limit × Option Named))). tree.width_check place x.0 x.1.0 x.1.1.0 x.1.1.1) (event ∙∙ (mark Comma ▸ (limit false ∙∙ threshold_and_notifier)))
    (then ts good (λ (y : tree.Limit × (Option tree.Limit × Option Named)). IsUnsignedLimit y.0) (limit false ∙∙ threshold_and_notifier) (unsigned_then ts threshold_and_notifier))
arguments_are ts good limited place Period =
    made_of ts IsSpelledCheck (λ (x : tree.Event × (tree.Limit × Option Named)). tree.period_check place x.0 x.1.0 x.1.1) (event ∙∙ (mark Comma ▸ (limit false ∙∙ trailing_name)))
    (then ts good (λ (y : tree.Limit × Option Named). IsUnsignedLimit y.0) (limit false ∙∙ trailing_name) (unsigned_then ts trailing_name))

in_parentheses : (ts : List Lexeme) → AreGood ts → (limited : Bool) (place : Place) (c : CheckName) → Yields ts IsSpelledCheck (arguments limited place c)
unfolding arguments_parts
in_parentheses ts good limited place c =
    behind ts IsSpelledCheck (mark LeftParen) (arguments_of limited place c ◂ mark RightParen) (before ts IsSpelledCheck (arguments_of limited place c) (mark RightParen) (arguments_are ts good limited place c))

check_is : (ts : List Lexeme) → AreGood ts → (limited : Bool) → Yields ts IsSpelledCheck (check limited)
unfolding check_parts
check_is ts good limited =
    made_of ts IsSpelledCheck (λ (x : (Place × CheckName) × tree.Check). x.1) (followed (is_symbol LeftParen) no_kind false (placed check_name) (λ x. arguments limited x.0 x.1))
    (λ i j x h. in_parentheses ts good limited x.0.0 x.0.1 h.0 j x.1 h.2)

-- ---- specify blocks

abbrev pub IsSpelledSpecify : tree.SpecifyItem → Type 0
IsSpelledSpecify (tree.specparams p ps) = Unit {0}
IsSpelledSpecify (tree.a_path p) = IsSpelledPath p
IsSpelledSpecify (tree.pulse_style p s ts) = Unit {0}
IsSpelledSpecify (tree.a_check c) = IsSpelledCheck c

specify_item_is : (ts : List Lexeme) → AreGood ts → (limited : Bool) → Yields ts IsSpelledSpecify (specify_item limited)
unfolding specify_item_parts specparam_item_parts path_item_parts style_item_parts check_item_parts
specify_item_is ts good limited =
    of_either ts IsSpelledSpecify specparam_item (either (path_item limited) (either style_item (check_item limited)))
    (made_of ts IsSpelledSpecify (λ (x : Place × List tree.Specparam). tree.specparams x.0 x.1) (placed (word keyword.SpecParam ▸ (listed specparam ◂ mark Semicolon))) (λ i j x h. tt))
    (of_either ts IsSpelledSpecify (path_item limited) (either style_item (check_item limited))
    (made_of ts IsSpelledSpecify tree.a_path (path limited ◂ mark Semicolon) (before ts IsSpelledPath (path limited) (mark Semicolon) (path_is ts good limited)))
    (of_either ts IsSpelledSpecify style_item (check_item limited)
    (made_of ts IsSpelledSpecify (λ (x : Place × (PulseStyle × List tree.Term)). tree.pulse_style x.0 x.1.0 x.1.1) (placed (style ∙∙ (terms ◂ mark Semicolon))) (λ i j x h. tt))
    (made_of ts IsSpelledSpecify tree.a_check (check limited ◂ mark Semicolon) (before ts IsSpelledCheck (check limited) (mark Semicolon) (check_is ts good limited)))))

abbrev IsSpelledBlock : tree.SpecifyBlock → Type 0
IsSpelledBlock b = AllByRecursion IsSpelledSpecify b.items

pub block_is : (ts : List Lexeme) → AreGood ts → (limited : Bool) → Yields ts (λ (b : tree.SpecifyBlock). AllByRecursion IsSpelledSpecify b.items) (block limited)
unfolding block_parts
block_is ts good limited =
    made_of ts IsSpelledBlock (λ (x : Place × List tree.SpecifyItem). record { place = x.0; items = x.1 }) (placed (word keyword.Specify ▸ (many (specify_item limited) ◂ word keyword.EndSpecify)))
    (with_its_place ts (AllByRecursion IsSpelledSpecify) (word keyword.Specify ▸ (many (specify_item limited) ◂ word keyword.EndSpecify))
    (behind ts (AllByRecursion IsSpelledSpecify) (word keyword.Specify) (many (specify_item limited) ◂ word keyword.EndSpecify)
    (before ts (AllByRecursion IsSpelledSpecify) (many (specify_item limited)) (word keyword.EndSpecify) (of_many ts IsSpelledSpecify (specify_item limited) (specify_item_is ts good limited)))))
