-- A netlist that is taken is read again.
use Rattle.std.specs.Prelude.{◌≡◌, ◌∷◌, ℕ, List, Result, Ok, Err, length, map}
use Rattle.std.proofs.Common.{subst, refl, []}
use Rattle.std.specs.Global.{Vec}
use Rattle.sg_text.specs.declared.places.Place.{Place}
use Rattle.sg_text.specs.declared.refusals.Refused.{Refused}
use Rattle.sg_text.specs.declared.refusals.Refused.TheVariants as refused
use Rattle.vl_lex.specs.Lexes.{Lexes}
use Rattle.vl_lex.specs.Seen.{Tells}
use Rattle.vl_lex.specs.State.{Fault}
use Rattle.vl_lex.specs.declared.faults.LexKind.{LexKind}
use Rattle.vl_token.specs.Seen.{lexeme}
use Rattle.vl_token.specs.Tokens.{Lexeme}
use Rattle.vl_token.specs.declared.tokens.Token.{Token}
use Rattle.vl_tree.specs.Modules.{source}
use Rattle.vl_tree.specs.Tree.{Source}
use Rattle.fit_inside.specs.Inside.{IsAccepted}
use Rattle.fit_top.specs.Texts.{HaveTree}

-- what a call that finds tokens answers
abbrev pub Only : List (List ℕ) → Result (Vec Token) (Refused LexKind) → Type 0
Only texts r = (o : Result (List Lexeme) Fault) → Lexes texts o → Tells o r

same_tokens : (ts us : List Lexeme) → ◌≡◌ {A = Result (List Lexeme) Fault} (Ok ts) (Ok us) → HaveTree ts → HaveTree us
same_tokens ts us e h =
    let P : Result (List Lexeme) Fault → Type 0 = λ r. elim r as (λ _. Type 0) [ Ok x ↦ HaveTree x | Err f ↦ Unit {0} ] in
    subst P e h

pub tokens_read : (texts : List (List ℕ)) (tokens : Vec Token) → IsAccepted texts → Only texts (Ok tokens) → HaveTree (map lexeme tokens.items)
tokens_read texts tokens (tree, t) only = same_tokens t.tokens (map lexeme tokens.items) (only (Ok t.tokens) t.are_tokens) (tree, t.are_tree)

pub no_fault : (texts : List (List ℕ)) (kind : LexKind) (place : Place) → IsAccepted texts → Only texts (Err (refused.Fault kind place)) → ⊥
no_fault texts kind place (tree, t) only =
    let P : Result (List Lexeme) Fault → Type 0 = λ r. elim r as (λ _. Type 0) [ Ok x ↦ Unit {0} | Err f ↦ ⊥ ] in
    subst P (only (Ok t.tokens) t.are_tokens) tt

pub no_refusal : (tokens : List Lexeme) → HaveTree tokens → ((tree : Source) → source.language.Spells tokens 0 tree (length tokens) → ⊥) → ⊥
no_refusal tokens (tree, s) only = only tree s

pub no_names : {X Y : Type 0} (f : X → Y) (xs : List X) → map f xs ≡ [] → length xs ≡ 0
no_names f [] e = refl
no_names f (x ∷ xs) e = cc
