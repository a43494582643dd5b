-- What a token is as a word of a condition, as the code finds it.
use Rattle.std.specs.Prelude.{ℕ, List, Option, Some, None, if◌then◌else◌}
use Rattle.std.specs.Borrow.{Bor}
use Rattle.std.specs.Option.{option_map}
use Rattle.cond_expr.specs.Token.{Tok}
use Rattle.cond_expr.specs.Vocabulary.{is_word}
use Rattle.cond_expr.specs.declared.tokens.Tok as over
use Rattle.sdf_lex.specs.Tokens.{Meaning}
use Rattle.sdf_tree.specs.Conditions.{vocabulary, tok_of}
use Rattle.sdf_tree.specs.Kinds.{kind_of_meaning}
use Rattle.sdf_tree.specs.Seen.{view_tok}

-- the word that a token is alone, if it is one
abbrev pub word_alone : Meaning → Option Tok
word_alone m = if is_word vocabulary (kind_of_meaning m) then Some (tok_of m) else None

abbrev pub seen : Option (over.Tok (Bor (List ℕ))) → Option Tok
seen o = option_map view_tok o
