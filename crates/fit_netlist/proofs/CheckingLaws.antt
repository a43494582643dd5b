-- What was looked at, joined.
use Rattle.std.specs.Prelude.{◌≡◌, ℕ, Bool, true, List, Option, Ok, map}
use Rattle.std.specs.List.{list_all}
use Rattle.std.proofs.Common.{◌∙◌, subst}
use Rattle.std.proofs.lemmas.List.Folds.{list_all-map}
use Rattle.std.proofs.lemmas.List.Sums.{AllPass-from_list_all}
use Rattle.vl_lex.specs.Lexes.{Lexes}
use Rattle.vl_token.specs.Tokens.{Lexeme}
use Rattle.vl_tree.specs.Tree.{Source}
use Rattle.fit_changes.specs.Lines.{Line, line_seen}
use Rattle.fit_changes.specs.declared.lines.Line as code
use Rattle.fit_inside.specs.Inside.{IsTreeOf}
use Rattle.fit_parts.specs.Below.{IsWhole}
use Rattle.fit_parts.specs.Parts.{Heading, headings_of}
use Rattle.fit_netlist.specs.Fitted.{IsKept, is_outside}

pub is-kept : (top : Option (List ℕ)) (expanded made : List (List ℕ)) (lines : List code.Line) (tree : Source) (below : List ℕ → Bool) (headings : List Heading) (tokens : List Lexeme)
    → Lexes expanded (Ok tokens) → headings ≡ headings_of tokens → IsTreeOf made tree → IsWhole top headings tree below
    → list_all (λ l. is_outside below (line_seen l)) lines ≡ true → IsKept top expanded made (map line_seen lines)
is-kept top expanded made lines tree below headings tokens l h t w o = record {
  tokens = tokens;
  tree = tree;
  below = below;
  are_tokens = l;
  is_tree = t;
  is_whole = subst (λ hs. IsWhole top hs tree below) h w;
  are_outside = AllPass-from_list_all (is_outside below) (map line_seen lines) (list_all-map (is_outside below) line_seen lines ∙ o);
}

pub kept-as : (top top' : Option (List ℕ)) (expanded made made' : List (List ℕ)) (lines lines' : List Line) → top ≡ top' → made ≡ made' → lines ≡ lines' → IsKept top expanded made lines → IsKept top' expanded made' lines'
kept-as top top' expanded made made' lines lines' t m l k = subst (λ o. IsKept o expanded made' lines') t (subst (λ ts. IsKept top expanded ts lines') m (subst (IsKept top expanded made) l k))
