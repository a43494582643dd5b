-- What a rule begins with stands, where a parenthesis does.
use Rattle.std.proofs.Common.{◌≡◌, ℕ, Bool, List, sym, subst}
use Rattle.grammar.specs.Rule.{stands}
use Rattle.sdf_lex.specs.Tokens.{Lexeme}
use Rattle.sdf_tree.specs.Kinds.{Kind, kind_of, is_left}
use Rattle.sdf_tree.specs.Rules.{Grammar}

pub starts_there : {A : Type 0} (r : Grammar A) → r.starts ≡ is_left → (ts : List Lexeme) (i : ℕ) {b : Bool} → stands kind_of is_left ts i ≡ b → stands kind_of r.starts ts i ≡ b
starts_there r e ts i {b} h = subst (λ (c : Kind → Bool). stands kind_of c ts i ≡ b) (sym e) h
