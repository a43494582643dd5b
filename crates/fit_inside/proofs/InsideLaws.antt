-- The only tokens, and the only tree.
use Rattle.std.specs.Prelude.{◌≡◌, ℕ, Bool, true, false, List, Result, Ok, Err, length, map}
use Rattle.std.specs.Global.{Vec}
use Rattle.std.proofs.Common.{◌∙◌, ap, sym, subst}
use Rattle.sg_text.specs.declared.places.Place.{Place}
use Rattle.sg_text.specs.declared.refusals.Refused.{Refused}
use Rattle.sg_text.specs.declared.refusals.Refused.TheVariants as refused
use Rattle.vl_lex.specs.Lexes.{Lexes}
use Rattle.vl_lex.specs.Seen.{Tells}
use Rattle.vl_lex.specs.State.{Fault}
use Rattle.vl_lex.specs.declared.faults.LexKind.{LexKind}
use Rattle.vl_parse.specs.Parsed.{IsTree}
use Rattle.vl_parse.specs.declared.parsing.ParseKind.{ParseKind}
use Rattle.vl_token.specs.Seen.{lexeme}
use Rattle.vl_token.specs.Tokens.{Lexeme}
use Rattle.vl_token.specs.declared.tokens.Token.{Token}
use Rattle.vl_tree.specs.Modules.{source}
use Rattle.vl_tree.specs.Seen.{view_source}
use Rattle.vl_tree.specs.Tree.{Source}
use Rattle.vl_tree.specs.declared.modules.Source as code
use Rattle.fit_inside.specs.Inside.{IsInside}
use Rattle.fit_inside.specs.Seen.{AreFlat}

abbrev tokens-or : List Lexeme → Result (List Lexeme) Fault → List Lexeme
tokens-or d (Ok ts) = ts
tokens-or d (Err f) = d

abbrev is-tokens : Result (List Lexeme) Fault → Bool
is-tokens (Ok ts) = true
is-tokens (Err f) = false

pub same-tokens : (r : Result (Vec Token) (Refused LexKind)) (found : Vec Token) (ts : List Lexeme) → r ≡ Ok found → Tells (Ok ts) r → ts ≡ map lexeme found.items
same-tokens r found ts e h = ap (tokens-or ts) (subst (Tells (Ok ts)) e h)

pub no-fault : (r : Result (Vec Token) (Refused LexKind)) (e : Refused LexKind) (kind : LexKind) (place : Place) (ts : List Lexeme) → r ≡ Err e → e ≡ refused.Fault kind place → Tells (Ok ts) r → ⊥
no-fault r e kind place ts is fault h = let x : true ≡ false = ap is-tokens (subst (Tells (Ok ts)) (is ∙ ap Err fault) h) in cc

pub same-tree : (tree : Source) (r : Result code.Source (Refused ParseKind)) (found : code.Source) → r ≡ Ok found → IsTree tree r → view_source found ≡ tree
same-tree tree r found e h = subst (IsTree tree) e h

pub no-refusal : (found : Result code.Source (Refused ParseKind)) (e : Refused ParseKind) (kind : ParseKind) (place : Place) (tree : Source) → found ≡ Err e → e ≡ refused.Fault kind place → IsTree tree found → ⊥
no-refusal found e kind place tree is fault h = subst (IsTree tree) (is ∙ ap Err fault) h

-- ---- trees without a hierarchy in cells

pub is-inside : (ts : List (List ℕ)) (found tokens : List Lexeme) → tokens ≡ found → Lexes ts (Ok found) → AreFlat tokens → IsInside ts
is-inside ts found tokens e l a = record {
  tree = a.tree;
  is_tree = record { tokens = tokens; are_tokens = subst (λ us. Lexes ts (Ok us)) (sym e) l; are_tree = a.are_tree };
  flat = a.flat;
}

pub are-flat : (ts : List (List ℕ)) (tokens : List Lexeme) (i : IsInside ts) → i.is_tree.tokens ≡ tokens → AreFlat tokens
are-flat ts tokens i e = record { tree = i.tree; are_tree = subst (λ us. source.language.Spells us 0 i.tree (length us)) e i.is_tree.are_tree; flat = i.flat }
