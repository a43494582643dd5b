-- Headings, part by part.
use Rattle.std.specs.Prelude.{◌≡◌, ℕ, ◌≤◌, List, [], ◌∷◌, ◌++◌, drop, length, map}
use Rattle.std.proofs.Common.{◌∙◌, ap, sym, append_assoc, append-nil}
use Rattle.std.proofs.lemmas.List.{drop_all}
use Rattle.vl_token.specs.Seen.{lexeme}
use Rattle.vl_token.specs.declared.tokens.Token.{Token}
use Rattle.fit_parts.specs.Parts.{Heading, heading_of, heading_seen, headings_of, parts_of}
use Rattle.fit_parts.specs.declared.parts.Heading as code

-- the headings so far, and those of the tokens from a place on
abbrev pub AreSoFar : List code.Heading → ℕ → List Token → Type 0
AreSoFar list at tokens = map heading_seen list ++ headings_of (map lexeme (drop at tokens)) ≡ headings_of (map lexeme tokens)

pub one-more : (list after : List code.Heading) (part tokens : List Token) (at end : ℕ) → map heading_seen after ≡ map heading_seen list ++ heading_of (map lexeme part) ∷ []
    → parts_of (map lexeme (drop at tokens)) ≡ map lexeme part ∷ parts_of (map lexeme (drop end tokens)) → AreSoFar list at tokens → AreSoFar after end tokens
one-more list after part tokens at end added cut h =
    ap (λ hs. hs ++ headings_of (map lexeme (drop end tokens))) added
    ∙ append_assoc (map heading_seen list) (heading_of (map lexeme part) ∷ []) (headings_of (map lexeme (drop end tokens)))
    ∙ ap (λ ps. map heading_seen list ++ map heading_of ps) (sym cut) ∙ h

pub no-more : (list : List code.Heading) (tokens : List Token) (at : ℕ) → length tokens ≤ at → AreSoFar list at tokens → map heading_seen list ≡ headings_of (map lexeme tokens)
no-more list tokens at le h =
    sym (append-nil (map heading_seen list)) ∙ ap (λ ts. map heading_seen list ++ headings_of (map lexeme ts)) (sym (drop_all at tokens le)) ∙ h
