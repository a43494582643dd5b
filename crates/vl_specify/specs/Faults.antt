-- Why a specify block is refused: the kind of the fault at its failing token.
use Rattle.std.specs.Prelude.{◌≡◌, ℕ, ◌+◌, Bool, true, false, ◌||◌, ◌==◌, ◌⊎◌, List, Option, Some, None, if◌then◌else◌, codes, nat_eq, slice_get, [], ◌∷◌}
use lib.Pointwise.{pointwise}
use Rattle.sg_text.specs.declared.words.Keyword.TheVariants as keyword
use Rattle.sg_text.specs.Words.{keyword_number}
use Rattle.vl_token.specs.declared.symbols.Symbol.TheVariants.{Comma, RightParen}
use Rattle.vl_token.specs.Tokens.{Lexeme, Meaning, system_token, word_token}
use Rattle.vl_tree.specs.Kinds.{kind_of_meaning, is_symbol}
use Rattle.vl_tree.specs.Specify.{block}
use Rattle.vl_specify.specs.declared.faults.SpecifyKind.{SpecifyKind}
use Rattle.vl_specify.specs.declared.faults.SpecifyKind.TheVariants.{Syntax, ShowCancelled, UnsupportedCheck, BadDelayCount}

-- timing checks that are left out (IEEE 1364-2005, 15.3.2, 15.3.3 and 15.3.6)
unfoldable pub left_out : List (List ℕ)
left_out = codes "$timeskew" ∷ codes "$fullskew" ∷ codes "$nochange" ∷ []

abbrev pub is_one_of : List (List ℕ) → List ℕ → Bool
is_one_of [] text = false
is_one_of (name ∷ names) text = if pointwise nat_eq name text then true else is_one_of names text

-- what a failing token says alone
abbrev pub told : Meaning → Option SpecifyKind
told (word_token w) = if keyword_number keyword.ShowCancelled == keyword_number w then Some ShowCancelled else None
told (system_token text) = if is_one_of left_out text then Some UnsupportedCheck else None
told _ = None

-- What it says where the block with its limits lifted goes on with it: a comma makes a list of delays too long, a parenthesis ends
-- one of a wrong length, and another token fills an argument that may not be filled.
abbrev pub told_by_limit : Meaning → SpecifyKind
told_by_limit m = if is_symbol Comma (kind_of_meaning m) || is_symbol RightParen (kind_of_meaning m) then BadDelayCount else UnsupportedCheck

-- the kind at a token with this meaning, where the block without limits begins with the tokens up to and with it, or doesn't
abbrev pub IsTold : Option SpecifyKind → SpecifyKind → Type 0 → SpecifyKind → Type 0
IsTold (Some k) by_limit Begins kind = kind ≡ k
IsTold None by_limit Begins kind = (Begins × (kind ≡ by_limit)) ⊎ ((Begins → ⊥) × (kind ≡ Syntax))

abbrev pub IsKindOf : Option Lexeme → Type 0 → SpecifyKind → Type 0
IsKindOf None Begins kind = kind ≡ Syntax
IsKindOf (Some t) Begins kind = IsTold (told t.meaning) (told_by_limit t.meaning) Begins kind

-- the kind of a block that begins at i and fails at e
abbrev pub KindStands : List Lexeme → ℕ → ℕ → SpecifyKind → Type 0
KindStands ts i e kind = IsKindOf (slice_get ts e) ((block false).language.Begins ts i (e + 1)) kind
