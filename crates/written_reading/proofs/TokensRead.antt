-- The tokens of a written file are read as its tree.
use Rattle.std.specs.Prelude.{◌≡◌, ℕ, suc, ◌+◌, true, List, [], ◌∷◌, map, length, Option, Some, None, Ok, slice_get}
use Rattle.std.specs.List.{flat_map, range_with_len}
use Rattle.std.proofs.Common.{refl, sym, ap, subst, ◌∙◌, arith}
use Rattle.sg_text.specs.declared.places.Place.{Place}
use Rattle.sg_circuit.specs.Closed.{IsClosed}
use Rattle.sg_circuit.specs.Circuit.{Circuit}
use Rattle.grammar.proofs.Laws.{one_value}
use Rattle.sdf_lex.specs.Lexes.{Lexes}
use Rattle.sdf_lex.specs.Tokens.{Meaning, Lexeme}
use Rattle.sdf_tree.specs.Faults.{file_crossings}
use Rattle.sdf_tree.specs.Files.{file}
use Rattle.sdf_tree.specs.Kinds.{kind_of}
use Rattle.sdf_tree.specs.Meant.{sdf_of}
use Rattle.sdf_tree.specs.Written.{FilePart}
use Rattle.sdf_tree.proofs.FilesExact.{file-exact}
use Rattle.sdf_read.specs.Outcomes.{meaning_unless, meaning_of, Outcome, is_spelled}
use Rattle.sdf_read.specs.Reads.{Reads, has_tokens, end_of}
use Rattle.sdf_read.proofs.OneOutcome.{reads_once}
use Rattle.sdf_meaning.specs.FirstFaults.{crossing}
use Rattle.written_model.specs.Faults.{AreFaultless}
use Rattle.written_model.specs.Tree.{tree}
use Rattle.written_reading.specs.Meanings.{meanings}
use Rattle.written_reading.specs.Named.{IsNamed, IsTick}
use Rattle.written_reading.specs.Placeless.{placeless}
use Rattle.written_reading.specs.ReadBack.{Spells, IsReadAs}
use Rattle.written_reading.proofs.FileNesting.{means, none_too_deep}
use Rattle.written_reading.proofs.FileTokens.{tells_file}
use Rattle.written_reading.proofs.GoodScopes.{good_scopes}
use Rattle.written_reading.proofs.NoFaults.{AreSound, no_bad_number, no_crossing}
use Rattle.written_reading.proofs.SoundTree.{sound_tree}
use Rattle.written_reading.proofs.Spans.{Spans}

-- ---- all tokens span what they mean

spans_from : (whole ts : List Lexeme) (i : ℕ) → ((k : ℕ) (t : Lexeme) → slice_get ts k ≡ Some t → slice_get whole (i + k) ≡ Some t) → Spans whole i (map means ts) (i + length ts)
spans_from whole [] i at = omega arith
spans_from whole (t ∷ ts) i at =
    let first : slice_get whole i ≡ Some t = ap (λ (n : ℕ). slice_get whole n) (let e : i ≡ i + 0 = omega arith in e) ∙ at 0 t refl in
    let end : i + 1 + length ts ≡ i + length (t ∷ ts) = omega arith in
    let more = spans_from whole ts (i + 1) (λ k u h. ap (λ (n : ℕ). slice_get whole n) (let e : i + 1 + k ≡ i + (k + 1) = omega arith in e) ∙ at (k + 1) u (behind k u h)) in
    ((t, first, refl), subst (λ (n : ℕ). Spans whole (i + 1) (map means ts) n) end more)
  where
    behind : (k : ℕ) (u : Lexeme) → slice_get ts k ≡ Some u → slice_get (t ∷ ts) (k + 1) ≡ Some u
    behind k u h = ap (λ (n : ℕ). slice_get (t ∷ ts) n) (let e : k + 1 ≡ suc k = omega arith in e) ∙ h

spans_all : (ts : List Lexeme) (ms : List Meaning) → map means ts ≡ ms → Spans ts 0 ms (length ts)
spans_all ts ms e =
    let zero_more : 0 + length ts ≡ length ts = omega arith in
    subst (λ (xs : List Meaning). Spans ts 0 xs (length ts)) e (subst (λ (n : ℕ). Spans ts 0 (map means ts) n) zero_more (spans_from ts ts 0 (λ k t h. ap (λ (n : ℕ). slice_get ts n) (let z : 0 + k ≡ k = omega arith in z) ∙ h)))

-- ---- what they are read as

pub record AreRead (c : Circuit) (ts : List Lexeme) : Type 0 where
  pub parts : List FilePart
  pub spelled : Spells ts parts
  pub only : (ps : List FilePart) → Spells ts ps → ps ≡ parts
  pub as_tree : placeless parts ≡ tree c
  pub outcome : (end : Place) → Outcome ts end (Ok (sdf_of parts))

sound_meaning : (ps : List FilePart) → AreSound (placeless ps) → Ok (sdf_of ps) ≡ meaning_of ps
sound_meaning ps sound =
    sym (ap (λ (o : Option Place). meaning_unless o (crossing (flat_map file_crossings ps)) ps) (no_bad_number ps sound) ∙ ap (λ (o : Option Place). meaning_unless None o ps) (no_crossing ps sound))

pub tokens_are_read : (c : Circuit) → IsNamed c → IsClosed c → IsTick c.tick → AreFaultless c → (ts : List Lexeme) → map means ts ≡ meanings c → AreRead c ts
tokens_are_read c named closed tick clean ts is =
    let good = good_scopes c named closed clean (range_with_len 0 (length c.scopes)) in
    let r = tells_file c tick good ts 0 (length ts) (spans_all ts (meanings c) is) in
    record {
      parts = r.0;
      spelled = r.1;
      only = λ ps s. one_value kind_of (file true) (file-exact true) ts ps r.0 s r.1;
      as_tree = r.2;
      outcome = λ end. is_spelled (none_too_deep c good ts is) r.0 r.1 (sound_meaning r.0 (subst AreSound (sym r.2) (sound_tree c good)));
    }

-- ---- and so is a text that is lexed as such tokens

pub read_as : (c : Circuit) (text : List ℕ) (ts : List Lexeme) → Lexes text (Ok ts) → AreRead c ts → IsReadAs (tree c) text
read_as c text ts lexed r =
    let reads : Reads text (Ok (sdf_of r.parts)) = has_tokens ts lexed (r.outcome (end_of text)) in
    record {
      tokens = ts;
      parts = r.parts;
      lexed = lexed;
      spelled = r.spelled;
      only = r.only;
      as_tree = r.as_tree;
      reads = reads;
      faultless = λ o h. reads_once text o (Ok (sdf_of r.parts)) h reads;
    }
