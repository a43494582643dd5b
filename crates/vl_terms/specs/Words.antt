-- What a token is as a word of a condition.
use Rattle.std.specs.Prelude.{List, [], ◌∷◌, Option, Some, None, if◌then◌else◌}
use Rattle.std.specs.Option.{option_map}
use Rattle.cond_expr.specs.Token.{Tok, map_name}
use Rattle.cond_expr.specs.declared.tokens.Tok as over
use Rattle.cond_expr.specs.Vocabulary.{is_word}
use Rattle.sg_logic.specs.declared.values.Value.{Value}
use Rattle.std.specs.Prelude.{ℕ}
use Rattle.std.specs.Borrow.{Bor}
use Rattle.vl_token.specs.Tokens.{Meaning}
use Rattle.vl_tree.specs.Conditions.{vocabulary, tok_of}
use Rattle.vl_tree.specs.Kinds.{kind_of_meaning}

-- the word that a token is alone, if it is one
abbrev pub word_alone : Meaning → Option Tok
word_alone m = if is_word vocabulary (kind_of_meaning m) then Some (tok_of m) else None

-- a word whose name is borrowed, as the definitions see it
abbrev pub seen : over.Tok (Bor (List ℕ)) → Tok
seen t = map_name (λ name. name.now) t

abbrev pub maybe_seen : Option (over.Tok (Bor (List ℕ))) → Option Tok
maybe_seen o = option_map seen o

-- the only bit of a list
abbrev pub single_bit : List Value → Option Value
single_bit [] = None
single_bit (v ∷ []) = Some v
single_bit (v ∷ w ∷ vs) = None
