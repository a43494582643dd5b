-- What each phase answers, joined.
use Rattle.std.proofs.Common.{◌≡◌, ◌∙◌, ℕ, true, List, length, map, Option, Result, Ok, Err, sym, ap, subst}
use Rattle.std.specs.Prelude.{IfErr, IfOk, OnOk}
use Rattle.std.proofs.lemmas.Result.{IfErr-weaker, IfOk-weaker}
use Rattle.std.specs.List.{flat_map}
use Rattle.sg_text.specs.declared.places.Place.{Place}
use Rattle.sg_text.specs.declared.refusals.Refused.{Refused}
use Rattle.sg_text.specs.declared.refusals.Refused.TheVariants as code
use Rattle.sdf_lex.specs.Lexes.{Lexes}
use Rattle.sdf_lex.specs.Seen.{lexeme}
use Rattle.sdf_lex.specs.Tokens.{Lexeme}
use Rattle.sdf_lex.specs.declared.tokens.Token.{Token}
use Rattle.sdf_tree.specs.declared.tree.Sdf as code_sdf
use Rattle.sdf_tree.specs.Faults.{file_numbers, file_crossings}
use Rattle.sdf_tree.specs.Files.{file}
use Rattle.sdf_tree.specs.Meant.{Sdf, sdf_of}
use Rattle.sdf_tree.specs.Seen.{view_file}
use Rattle.sdf_tree.specs.Written.{FilePart}
use Rattle.sdf_tree.specs.declared.written.WrittenFile.{WrittenFile}
use Rattle.sdf_read.specs.declared.faults.SdfKind.{SdfKind}
use Rattle.sdf_read.specs.declared.faults.SdfKind.TheVariants.{TooDeep}
use Rattle.sdf_read.specs.Depth.{NoneTooDeep}
use Rattle.sdf_meaning.specs.FirstFaults.{bad_number, crossing}
use Rattle.sdf_meaning.specs.MeantSeen.{view_sdf}
use Rattle.sdf_read.specs.Outcomes.{Fault, refused, meaning_unless, meaning_of, Outcome, is_deep, is_refused, is_spelled}
use Rattle.sdf_read.specs.Phases.{AreRead, AreSpelled, BytesStand, DepthStands, Refuses}
use Rattle.sdf_read.specs.Reading.{RefusalStands}
use Rattle.sdf_read.specs.Reads.{Reads, has_fault, has_tokens, Stands, Tells, end_of}
use Rattle.sdf_read.proofs.OneOutcome.{reads_once}

abbrev Answer : Type 0
Answer = Result code_sdf.Sdf (Refused SdfKind)

-- what an exit returns is what the phase refused
pub exit_by : {A : Type 0} (Holds : Refused SdfKind → Type 0) (result : Result A (Refused SdfKind)) (e : Refused SdfKind) → ((x : Refused SdfKind) × (result ≡ Err x) × (x ≡ e)) → Holds e → IfErr result Holds
exit_by {A} Holds result e (x, r, s) h = subst (λ (a : Result A (Refused SdfKind)). IfErr a Holds) (sym r) (subst Holds (sym s) h)

-- ---- of tokens

module _ (ts : List Lexeme) (end : Place) where
  pub depth_refused : (r : Refused SdfKind) → DepthStands ts end r → Refuses (Outcome ts end) r
  depth_refused code.NoMemory h = tt
  depth_refused (code.Fault kind place) (i, deep, k, p) = is_deep i deep (ap (λ (x : SdfKind). refused x place) k ∙ ap (λ (x : Place). refused TooDeep x) p)

  module _ (none : NoneTooDeep ts) (result : Result WrittenFile (Refused SdfKind)) where
    token_refused : (r : Refused SdfKind) → RefusalStands ts end r → Refuses (Outcome ts end) r
    token_refused code.NoMemory h = tt
    token_refused (code.Fault kind place) (e, fails, p, k) = is_refused none e fails kind k (ap (λ (x : Place). refused kind x) p)

    pub tree_refused : IfErr result (RefusalStands ts end) → IfErr result (Refuses (Outcome ts end))
    tree_refused h = IfErr-weaker result (RefusalStands ts end) (Refuses (Outcome ts end)) token_refused h

    pub tree_spelled : IfOk result (λ f. (file true).language.Spells ts 0 (view_file f) (length ts)) → IfOk result (λ f. AreSpelled ts (view_file f))
    tree_spelled h = IfOk-weaker result (λ f. (file true).language.Spells ts 0 (view_file f) (length ts)) (λ f. AreSpelled ts (view_file f)) (λ f s. (none, s)) h

-- ---- of values

pub values_faultless : (b c : Option Place) (ps : List FilePart) (result : Result (Unit {0}) (Refused SdfKind)) → b ≡ bad_number (flat_map file_numbers ps) → c ≡ crossing (flat_map file_crossings ps)
    → OnOk result (meaning_unless b c ps ≡ Ok (sdf_of ps)) → OnOk result (meaning_of ps ≡ Ok (sdf_of ps))
values_faultless b c ps result e f h =
    subst (λ (y : Option Place). OnOk result (meaning_unless (bad_number (flat_map file_numbers ps)) y ps ≡ Ok (sdf_of ps))) f
    (subst (λ (x : Option Place). OnOk result (meaning_unless x c ps ≡ Ok (sdf_of ps))) e h)

pub values_at_fault : (b c : Option Place) (ps : List FilePart) (result : Result (Unit {0}) (Refused SdfKind)) → b ≡ bad_number (flat_map file_numbers ps) → c ≡ crossing (flat_map file_crossings ps)
    → IfErr result (Refuses (λ p. meaning_unless b c ps ≡ p)) → IfErr result (Refuses (λ p. meaning_of ps ≡ p))
values_at_fault b c ps result e f h =
    subst (λ (y : Option Place). IfErr result (Refuses (λ p. meaning_unless (bad_number (flat_map file_numbers ps)) y ps ≡ p))) f
    (subst (λ (x : Option Place). IfErr result (Refuses (λ p. meaning_unless x c ps ≡ p))) e h)

abbrev told : Sdf → Result Sdf Fault
told s = Ok s

-- ---- of bytes

module _ (bytes : List ℕ) where
  pub bytes_refused : (r : Refused SdfKind) → BytesStand bytes r → Refuses (Reads bytes) r
  bytes_refused code.NoMemory h = tt
  bytes_refused (code.Fault kind place) (k, e, l) = has_fault k place l (ap (λ (x : SdfKind). refused x place) e)

  -- the tokens are lent as a slice
  module _ (tokens slice : List Token) (end : Place) (result : Result WrittenFile (Refused SdfKind)) (same : slice ≡ tokens) (at : end ≡ end_of bytes) (lexed : Lexes bytes (Ok (map lexeme tokens))) where
    here : Lexes bytes (Ok (map lexeme slice))
    here = subst (λ (xs : List Token). Lexes bytes (Ok (map lexeme xs))) (sym same) lexed

    pub parts_read : IfOk result (λ f. AreSpelled (map lexeme slice) (view_file f)) → IfOk result (λ f. AreRead bytes (view_file f))
    parts_read h = IfOk-weaker result (λ f. AreSpelled (map lexeme slice) (view_file f)) (λ f. AreRead bytes (view_file f)) (λ f s. (map lexeme slice, here, s)) h

    one_refused : (r : Refused SdfKind) → Refuses (Outcome (map lexeme slice) end) r → Refuses (Reads bytes) r
    one_refused code.NoMemory h = tt
    one_refused (code.Fault kind place) h = has_tokens (map lexeme slice) here (subst (λ (p : Place). Outcome (map lexeme slice) p (refused kind place)) at h)

    pub parts_refused : IfErr result (Refuses (Outcome (map lexeme slice) end)) → IfErr result (Refuses (Reads bytes))
    parts_refused h = IfErr-weaker result (Refuses (Outcome (map lexeme slice) end)) (Refuses (Reads bytes)) one_refused h

  module _ (ps : List FilePart) (read : AreRead bytes ps) where
    spelled : (o : Result Sdf Fault) → o ≡ meaning_of ps → Reads bytes o
    spelled o e = has_tokens read.0 read.1 (is_spelled read.2.0 ps read.2.1 e)

    pub values_refused : (r : Refused SdfKind) → Refuses (λ p. meaning_of ps ≡ p) r → Refuses (Reads bytes) r
    values_refused code.NoMemory h = tt
    values_refused (code.Fault kind place) h = spelled (refused kind place) (sym h)

    pub is_meant : (sdf : code_sdf.Sdf) → meaning_of ps ≡ Ok (sdf_of ps) → view_sdf sdf ≡ sdf_of ps → Stands (Reads bytes) (Ok sdf)
    is_meant sdf m e = spelled (Ok (view_sdf sdf)) (ap told e ∙ sym m)

  -- what an exit of the file's answer returns
  pub exit_stands : (result : Answer) (e : Refused SdfKind) → ((x : Refused SdfKind) × (result ≡ Err x) × (x ≡ e)) → Refuses (Reads bytes) e → Stands (Reads bytes) result
  exit_stands result e (x, r, s) h = subst (λ (a : Answer). Stands (Reads bytes) a) (sym r) (one_stands x (subst (Refuses (Reads bytes)) (sym s) h))
    where
      one_stands : (r : Refused SdfKind) → Refuses (Reads bytes) r → Stands (Reads bytes) (Err r)
      one_stands code.NoMemory h = tt
      one_stands (code.Fault kind place) h = h

  -- what stands is all that stands
  pub tells : (result : Answer) → Stands (Reads bytes) result → (o : Result Sdf Fault) → Reads bytes o → Tells o result
  tells (Ok sdf) s o h = reads_once bytes o (Ok (view_sdf sdf)) h s
  tells (Err (code.Fault kind place)) s o h = reads_once bytes o (refused kind place) h s
  tells (Err code.NoMemory) s o h = tt
