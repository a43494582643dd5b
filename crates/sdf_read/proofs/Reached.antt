-- How far a file with lists of any length goes.
use Rattle.std.proofs.Common.{◌≡◌, ◌∙◌, ℕ, false, List, length, map, Ok, Err, sym, subst}
use Rattle.std.proofs.lemmas.List.{length-map}
use Rattle.grammar.specs.Reach.{IsReach}
use Rattle.grammar.specs.Rule.{read_all}
use Rattle.grammar.proofs.Reach.{reach_if_read, reach_if_failed}
use Rattle.sdf_lex.specs.Seen.{lexeme}
use Rattle.sdf_lex.specs.declared.tokens.Token.{Token}
use Rattle.sdf_tree.specs.Files.{file}
use Rattle.sdf_tree.specs.Kinds.{kind_of}
use Rattle.sdf_tree.specs.Written.{FilePart}
use Rattle.sdf_tree.proofs.FilesExact.{file-exact}

pub file_read : (ts : List Token) (ps : List FilePart) (n : ℕ) → read_all (file false) (map lexeme ts) ≡ Ok ps → n ≡ length ts → IsReach (file false).language (map lexeme ts) n
file_read ts ps n h e =
    subst (λ (m : ℕ). IsReach (file false).language (map lexeme ts) m) (length-map ts lexeme ∙ sym e) (reach_if_read kind_of (file false) (file-exact false) (map lexeme ts) ps h)

pub file_failed : (ts : List Token) (e : ℕ) → read_all (file false) (map lexeme ts) ≡ Err e → IsReach (file false).language (map lexeme ts) e
file_failed ts e h = reach_if_failed kind_of (file false) (file-exact false) (map lexeme ts) e h
