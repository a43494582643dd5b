-- What the text of some calls has behind that of the first of them.
use Rattle.std.proofs.Common.{◌≡◌, ◌∙◌, sym, ap, ℕ, List, [], ◌∷◌, ◌++◌, length, drop, append_assoc}
use Rattle.std.proofs.Math.Seq.{drop-append_seam}
use Rattle.std.proofs.lemmas.List.{append-nil}
use Rattle.std.specs.Prelude.{Option, None}
use Rattle.sg_circuit.specs.Circuit.{Circuit, Variable}
use Rattle.sim_times.specs.Watching.{Call}
use Rattle.wave_out.specs.Scopes.{variables_of}
use Rattle.wave_out.specs.Vcd.{Dump, dump_text, header}
use Rattle.wave_out.specs.Writing.{dump_after, text_after, text_behind, with_call}
use Rattle.wave_out.proofs.CallLaws.{grows_call}

grows_from : (xs : List Variable) (o : Option Dump) (cs : List Call) → (rest : List ℕ) × (dump_text (dump_after xs o cs) ≡ dump_text o ++ rest)
grows_from xs o [] = ([], sym (append-nil (dump_text o)))
grows_from xs o (c ∷ cs) =
    let one = grows_call xs c o in
    let more = grows_from xs (with_call xs c o) cs in
    (one.0 ++ more.0, more.1 ∙ (ap (λ t. t ++ more.0) one.1 ∙ append_assoc (dump_text o) one.0 more.0))

pub record Behind (circuit : Circuit) (first : Call) (later : List Call) : Type 0 where
  pub rest : List ℕ
  pub whole : text_after circuit (first ∷ later) ≡ text_after circuit (first ∷ []) ++ rest
  pub is : text_behind circuit (first ∷ []) (first ∷ later) ≡ rest

behind_of : (circuit : Circuit) (first calls : List Call) (rest : List ℕ) → text_after circuit calls ≡ text_after circuit first ++ rest → text_behind circuit first calls ≡ rest
behind_of circuit first calls rest e = ap (drop (length (text_after circuit first))) e ∙ drop-append_seam (text_after circuit first) rest

pub behind : (circuit : Circuit) (first : Call) (later : List Call) → Behind circuit first later
behind circuit first later =
    let xs = variables_of circuit in
    let begun = dump_after xs None (first ∷ []) in
    let grown = grows_from xs begun later in
    let whole : text_after circuit (first ∷ later) ≡ text_after circuit (first ∷ []) ++ grown.0 = ap (λ t. header circuit ++ t) grown.1 ∙ sym (append_assoc (header circuit) (dump_text begun) grown.0) in
    record { rest = grown.0; whole = whole; is = behind_of circuit (first ∷ []) (first ∷ later) grown.0 whole }

-- a call adds there what it adds to the whole
pub behind_adds : (circuit : Circuit) (first : Call) (later : List Call) (c : Call) (text : List ℕ) → text_after circuit (first ∷ later ++ c ∷ []) ≡ text_after circuit (first ∷ later) ++ text
    → text_behind circuit (first ∷ []) (first ∷ later ++ c ∷ []) ≡ text_behind circuit (first ∷ []) (first ∷ later) ++ text
behind_adds circuit first later c text adds =
    let b = behind circuit first later in
    behind_of circuit (first ∷ []) (first ∷ later ++ c ∷ []) (b.rest ++ text) (adds ∙ (ap (λ t. t ++ text) b.whole ∙ append_assoc (text_after circuit (first ∷ [])) b.rest text))
    ∙ ap (λ t. t ++ text) (sym b.is)
