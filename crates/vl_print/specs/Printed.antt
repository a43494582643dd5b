-- What printing promises.
use Rattle.std.specs.Prelude.{List, length, map}
use Rattle.vl_token.specs.declared.tokens.Token.{Token}
use Rattle.vl_token.specs.Seen.{lexeme}
use Rattle.vl_token.specs.Tokens.{Lexeme}
use Rattle.vl_tree.specs.Modules.{source}
use Rattle.vl_tree.specs.Tree.{Source}

-- all tokens spell the netlist
abbrev pub SpellsAll : List Lexeme → Source → Type 0
SpellsAll ts tree = source.language.Spells ts 0 tree (length ts)

-- some tokens do
abbrev pub IsSpelledSource : Source → Type 0
IsSpelledSource tree = (ts : List Token) × SpellsAll (map lexeme ts) tree
