-- Reading parts behind those that are read already.
use Rattle.std.specs.Prelude.{ℕ, List, ◌++◌, Result, Ok}
use Rattle.grammar.specs.Reading.{◌>>=◌}
use Rattle.grammar.specs.Rule.{read_many}
use Rattle.vl_token.specs.Tokens.{Lexeme}
use Rattle.vl_tree.specs.Kinds.{kind_of}
use Rattle.vl_tree.specs.Rules.{Grammar}

-- the parts that stand from a position on, behind others
abbrev pub read_behind : {A : Type 0} → List A → Grammar A → List Lexeme → ℕ → Result (List A × ℕ) ℕ
read_behind front a ts i = read_many kind_of a ts i >>= λ y. Ok (front ++ y.0, y.1)
