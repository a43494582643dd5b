-- What the code's checks and tokens stand for.
use Rattle.std.specs.Prelude.{List, map}
use Rattle.std.specs.Borrow.{Bor}
use Rattle.vl_token.specs.Seen.{meaning}
use Rattle.vl_token.specs.Tokens.{Lexeme}
use Rattle.vl_token.specs.declared.tokens.Token.{Token}
use Rattle.vl_token.specs.declared.tokens.TokenKind.{TokenKind}
use Rattle.fit_checks.specs.declared.written.Terminal as code_terminal
use Rattle.fit_checks.specs.declared.written.Written as code_written
use Rattle.fit_checks.specs.Written.{Run, Terminal, Written}

abbrev pub meanings : List Lexeme → Run
meanings ts = map (λ t. t.meaning) ts

abbrev pub tokens_seen : List Token → Run
tokens_seen ts = map (λ t. meaning t.kind) ts

abbrev pub kinds_seen : List TokenKind → Run
kinds_seen ks = map meaning ks

abbrev pub run_seen : Bor (List Token) → Run
run_seen run = tokens_seen run.now

abbrev pub runs_seen : List (Bor (List Token)) → List Run
runs_seen runs = map run_seen runs

abbrev pub terminal_seen : code_terminal.Terminal → Terminal
terminal_seen t = record { signal = run_seen t.signal; condition = run_seen t.condition }

abbrev pub written_seen : code_written.Written → Written
written_seen w = record {
  kind = w.kind;
  refer = terminal_seen w.refer;
  datum = terminal_seen w.datum;
  first = run_seen w.first;
  second = run_seen w.second;
  notifier = run_seen w.notifier;
  last = runs_seen w.last.items;
}
