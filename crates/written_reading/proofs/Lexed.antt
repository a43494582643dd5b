-- A written text is lexed as the tokens of its pieces, whose meanings are known.
use Rattle.std.specs.Prelude.{◌≡◌, ℕ, ◌^◌, nat_lt, false, List, [], length, Ok}
use Rattle.std.proofs.Common.{sym, ap}
use Rattle.sdf_lex.specs.Lexes.{Outcome, Lexes, LexesFrom, bad_or}
use Rattle.sdf_lex.specs.Pieces.{tokens}
use Rattle.sdf_lex.specs.Tokens.{Lexeme}
use Rattle.sg_circuit.specs.Circuit.{Circuit}
use Rattle.sg_circuit.specs.Closed.{IsClosed}
use Rattle.written_model.specs.Faults.{is_too_large, IsFaultless}
use Rattle.written_model.specs.Text.{text}
use Rattle.written_reading.specs.Meanings.{meanings}
use Rattle.written_reading.specs.Named.{IsNamed}
use Rattle.written_reading.specs.Pieces.{pieces}
use Rattle.written_reading.proofs.MeantFile.{tokens_mean}
use Rattle.written_reading.proofs.MeantPieces.{means}
use Rattle.written_reading.proofs.NamedEntries.{writable}
use Rattle.written_reading.proofs.SoundFile.{IsWritable, file_closed}
use Rattle.written_reading.proofs.SoundPieces.{sound_pieces, none_bad}
use Rattle.written_reading.proofs.SpelledFile.{file_spelled}

small_file : (bytes : List ℕ) (o : Outcome) → nat_lt (2 ^ 28) (length bytes) ≡ false → LexesFrom [] 0 bytes o → Lexes bytes o
small_file bytes o small h = rw small h

pub text_lexed : (c : Circuit) → ((s : ℕ) → IsWritable c s) → is_too_large c ≡ false → Lexes (text c) (Ok (tokens 0 (pieces c)))
text_lexed c h small =
    let sound = file_closed c h [] in
    small_file (text c) (Ok (tokens 0 (pieces c))) small (pieces c, (file_spelled c h, sound_pieces (pieces c) sound), ap (λ o. bad_or o (tokens 0 (pieces c))) (sym (none_bad 0 [] (pieces c) sound)))

-- tokens that a text is lexed as, and what they mean
pub record IsLexed (c : Circuit) : Type 0 where
  pub tokens : List Lexeme
  pub lexed : Lexes (text c) (Ok tokens)
  pub mean : means tokens ≡ meanings c

pub named_lexed : (c : Circuit) → IsClosed c → IsNamed c → IsFaultless c → IsLexed c
named_lexed c closed named f =
    let fit = writable c closed named f.scopes in
    record { tokens = tokens 0 (pieces c); lexed = text_lexed c fit f.small; mean = tokens_mean c 0 fit }
