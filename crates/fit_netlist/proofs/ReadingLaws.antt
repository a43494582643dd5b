-- The tokens' tree is that of the texts.
use Rattle.std.specs.Prelude.{◌≡◌, ℕ, List, Ok}
use Rattle.std.proofs.Common.{subst}
use Rattle.vl_lex.specs.Lexes.{Lexes}
use Rattle.vl_token.specs.Tokens.{Lexeme}
use Rattle.vl_tree.specs.Tree.{Source}
use Rattle.fit_inside.specs.Inside.{IsTreeOf}
use Rattle.fit_netlist.specs.Phases.{AreTree}

pub is-tree : (texts : List (List ℕ)) (found tokens : List Lexeme) (tree : Source) → tokens ≡ found → Lexes texts (Ok found) → AreTree tokens tree → IsTreeOf texts tree
is-tree texts found tokens tree e l t = record { tokens = found; are_tokens = l; are_tree = subst (λ ts. AreTree ts tree) e t }
