-- Tokens with other names.
use Rattle.std.proofs.Common.{◌≡◌, List, [], ◌∷◌, map, refl}
use Rattle.cond_expr.specs.declared.tokens.Tok as over
use Rattle.cond_expr.specs.declared.tokens.Tok.TheVariants.{Name, Index, Const, Op, Left, Right}
use Rattle.cond_expr.specs.Kinds.{kind_of}
use Rattle.cond_expr.specs.Token.{Tok, map_name}

-- a token's kind doesn't rest on what its name is
pub kind_of_mapped : {N M : Type 0} (f : N → M) (t : over.Tok N) → kind_of (map_name f t) ≡ kind_of t
kind_of_mapped f (Name name) = refl
kind_of_mapped f (Index index) = refl
kind_of_mapped f (Const value) = refl
kind_of_mapped f (Op op) = refl
kind_of_mapped f Left = refl
kind_of_mapped f Right = refl

same_name : (t : Tok) → map_name (λ name. name) t ≡ t
same_name (Name name) = refl
same_name (Index index) = refl
same_name (Const value) = refl
same_name (Op op) = refl
same_name Left = refl
same_name Right = refl

pub same_names : (ts : List Tok) → map (map_name (λ name. name)) ts ≡ ts
same_names [] = refl
same_names (t ∷ ts) = rw (same_name t, same_names ts) refl
