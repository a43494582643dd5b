-- Joins the grammar to the code: chains whose last operator waits for the part behind it, tighter ones above looser ones, and
-- what the tokens behind make of them.
use Rattle.std.specs.Prelude.{◌≡◌, ℕ, zero, suc, ◌+◌, ◌-◌, ◌<◌, false, List, [], ◌∷◌, ◌++◌, map, Some, Result, Ok, slice_get}
use Rattle.grammar.specs.Reading.{◌>>=◌}
use Rattle.grammar.specs.Rule.{read_many, stands, ◌∙∙◌}
use Rattle.cond_expr.specs.declared.begun.Begun.{Begun}
use Rattle.cond_expr.specs.declared.tokens.Op.{Op}
use Rattle.cond_expr.specs.declared.tree.Node.{Node}
use Rattle.cond_expr.specs.Token.{Tok}
use Rattle.cond_expr.specs.declared.tokens.Tok.TheVariants as tok
use Rattle.cond_expr.specs.Kinds.{kind_of, is_binary, precedence}
use Rattle.cond_expr.specs.Tree.{Cond, chain_of, view}
use Rattle.cond_expr.specs.Grammar.{Grammar, operator, level, primary}

abbrev pub Parts : Type 0
Parts = List (Op × Cond ℕ)

abbrev pub view_part : {L : Type 0} → Op × Node L → Op × Cond L
view_part x = (x.0, view x.1)

-- an operator of level n and the part after it, of a tighter level m
abbrev pub operation : ℕ → ℕ → ℕ → Grammar (Op × Cond ℕ)
operation n m d = operator (is_binary n) ∙∙ level m (primary d)

-- the first part joined with those so far and those that come
abbrev pub together : Cond ℕ → Parts → Parts × ℕ → Result (Cond ℕ × ℕ) ℕ
together c parts y = Ok (chain_of c (parts ++ y.0), y.1)

-- what the operators of level n that stand next make of the first part and of those so far
abbrev pub rest_of_level : ℕ → ℕ → ℕ → List Tok → Cond ℕ → Parts → ℕ → Result (Cond ℕ × ℕ) ℕ
rest_of_level n m d ts first parts i = read_many kind_of (operation n m d) ts i >>= together first parts

-- what those of the k levels above m make of a part, those of tighter levels first
unfoldable pub rest_of_levels : ℕ → ℕ → ℕ → List Tok → Cond ℕ → ℕ → Result (Cond ℕ × ℕ) ℕ
rest_of_levels zero m d ts c i = Ok (c, i)
rest_of_levels (suc k) m d ts c i = rest_of_level (suc m) m d ts c [] i >>= λ y. rest_of_levels k (suc m) d ts y.0 y.1

-- the loosest level of which the next part may be
abbrev pub loosest : List Begun → ℕ
loosest [] = 6
loosest (b ∷ bs) = precedence b.op - 1

abbrev pub chain_parts : Begun → Cond ℕ → Parts
chain_parts b c = map view_part b.rest.items ++ (b.op, c) ∷ []

-- what the tokens behind make of the latest chain with its next part, and of the chains below it
unfoldable pub rest_of_chains : List Begun → ℕ → List Tok → Cond ℕ → ℕ → Result (Cond ℕ × ℕ) ℕ
rest_of_chains [] d ts c i = Ok (c, i)
rest_of_chains (b ∷ bs) d ts c i =
    rest_of_level (precedence b.op) (precedence b.op - 1) d ts (view b.first.value) (chain_parts b c) i >>= λ y.
    rest_of_levels (loosest bs - precedence b.op) (precedence b.op) d ts y.0 y.1 >>= λ z.
    rest_of_chains bs d ts z.0 z.1

-- the same where the next part is still of level m
abbrev pub completed : List Begun → ℕ → ℕ → List Tok → Cond ℕ → ℕ → Result (Cond ℕ × ℕ) ℕ
completed bs m d ts c i = rest_of_levels (loosest bs - m) m d ts c i >>= λ y. rest_of_chains bs d ts y.0 y.1

-- the same where the next part isn't read yet
abbrev pub completed_behind : List Begun → ℕ → List Tok → ℕ → Result (Cond ℕ × ℕ) ℕ
completed_behind bs d ts i = (primary d).read ts i >>= λ x. completed bs 0 d ts x.0 x.1

-- chains that make of a part the same as others of another part, where no operator below a level stands next
abbrev pub EndsBelow : ℕ → List Begun → Cond ℕ → List Begun → Cond ℕ → Type 0
EndsBelow level bs c bs' c' =
    (d : ℕ) (ts : List Tok) (i : ℕ) → ((l : ℕ) → 0 < l → l < level → stands kind_of (is_binary l) ts i ≡ false) → completed bs 0 d ts c i ≡ completed bs' 0 d ts c' i

-- chains that wait for a part behind an operator, as others do that have it before them
abbrev pub GoesOn : Op → List Begun → Cond ℕ → List Begun → Type 0
GoesOn op bs c bs' = (d : ℕ) (ts : List Tok) (i : ℕ) → slice_get ts i ≡ Some (tok.Op op) → completed bs 0 d ts c i ≡ completed_behind bs' d ts (i + 1)
