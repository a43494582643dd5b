-- What `lex` is given and answers, as the definitions see it.
use Rattle.std.specs.Prelude.{ℕ, ◌≡◌, List, map, Result, Ok, Err}
use Rattle.std.specs.Global.{Vec}
use Rattle.sg_text.specs.declared.refusals.Refused.{Refused}
use Rattle.sg_text.specs.declared.refusals.Refused.TheVariants as refused
use Rattle.vl_token.specs.Tokens.{Lexeme}
use Rattle.vl_token.specs.Seen.{lexeme}
use Rattle.vl_token.specs.declared.tokens.Token.{Token}
use Rattle.vl_lex.specs.State.{Fault}
use Rattle.vl_lex.specs.declared.faults.LexKind.{LexKind}

-- the bytes of files
abbrev pub texts : List (Vec ℕ) → List (List ℕ)
texts files = map (λ f. f.items) files

-- what a call answers holds, a token list or a fault; want of memory is free
abbrev pub Stands : (Result (List Lexeme) Fault → Type 0) → Result (Vec Token) (Refused LexKind) → Type 0
Stands Holds (Ok tokens) = Holds (Ok (map lexeme tokens.items))
Stands Holds (Err (refused.Fault k p)) = Holds (Err (record { kind = k; place = p }))
Stands Holds (Err refused.NoMemory) = Unit {0}

-- what a call answers is this
abbrev pub Tells : Result (List Lexeme) Fault → Result (Vec Token) (Refused LexKind) → Type 0
Tells o result = Stands (λ p. o ≡ p) result
