-- What a call of a writer leaves in its file.
use Rattle.std.proofs.Common.{◌≡◌, ◌∙◌, sym, ap, subst, refl, ℕ, List, [], ◌∷◌, ◌++◌, map, append_assoc, inl, inr}
use Rattle.std.proofs.lemmas.List.{append-nil}
use Rattle.std.proofs.lemmas.List.Elements.{All-cons, All-head, All-nil, All-tail}
use Rattle.std.specs.Prelude.{◌<◌, ◌⊎◌, All, Bool, true, Option, Some, None, Result, Ok, Err, OnErr, OnOk}
use Rattle.sg_io.specs.Files.{File, Appends}
use Rattle.sg_io.specs.declared.outside.ShelfError.{ShelfError}
use Rattle.sg_circuit.specs.Circuit.{Circuit}
use Rattle.sim_times.specs.Watching.{AreTruthful, Call}
use Rattle.wave_out.specs.Changes.{text_if, IsText}
use Rattle.wave_out.specs.Files.{FileBegins, FileHolds}
use Rattle.wave_out.specs.Scopes.{variables_of}
use Rattle.wave_out.specs.Vcd.{dump_text, header}
use Rattle.wave_out.specs.Writing.{AddsText, BeginsRest, BreaksOff, Holds, HoldsRest, HoldsText, IsTextOf, LeavesText, Writer, dump_after, text_after, text_behind}
use Rattle.wave_out.proofs.BehindLaws.{behind_adds}
use Rattle.wave_out.proofs.CallLaws.{Adds, added, grows, one_more, time_after}
use Rattle.wave_out.proofs.FileLaws.{appended_err, appended_ok, begins}

-- one call more
abbrev AddsCall : Writer → List Call → Call → Option (List ℕ) → Type 0
AddsCall w calls c text = Adds (dump_after (variables_of w.circuit) None calls) (dump_after (variables_of w.circuit) None (calls ++ c ∷ [])) c.time text

adds : (w : Writer) (told : Option (List File)) (calls : List Call) (before : List ℕ) (c : Call) (text : Option (List ℕ)) → IsTextOf w c text → AreTruthful (calls ++ c ∷ []) → HoldsText w told calls before → AddsCall w calls c text
adds w told calls before c text is truth h = one_more (variables_of w.circuit) calls c text truth (subst (λ o. IsText o c.time (map (λ x. x.bits) (variables_of w.circuit)) c.changed c.values text) h.last is)

text_adds : (w : Writer) (calls : List Call) (c : Call) (text : Option (List ℕ)) → AddsCall w calls c text → text_after w.circuit (calls ++ c ∷ []) ≡ text_after w.circuit calls ++ added text
text_adds w calls c text a = ap (λ t. header w.circuit ++ t) a.text_is ∙ sym (append_assoc (header w.circuit) (dump_text (dump_after (variables_of w.circuit) None calls)) (added text))

-- what is held is so by what was added
by_text : (P : Writer → Option (List File) → Type 0) (text : Option (List ℕ)) (time : ℕ) (w w' : Writer) (old new : Option (List File)) → AddsText text time w w' old new
    → (text ≡ None → P w old) → ((t : List ℕ) → text ≡ Some t → Appends w.name t old new (Ok tt) → P (record w { last = Some time }) new) → P w' new
by_text P None time w w' old new a none some = subst (λ v. P v new) (sym a.0) (subst (λ o. P w o) (sym a.1) (none refl))
by_text P (Some t) time w w' old new a none some = subst (λ v. P v new) (sym a.0) (some t refl a.1)

-- a call that adds nothing
stays : (w : Writer) (told : Option (List File)) (calls : List Call) (c : Call) (before after : List ℕ) (text : Option (List ℕ)) → text ≡ None → AddsCall w calls c text → after ≡ before ++ added text → HoldsText w told calls before
    → HoldsText w told (calls ++ c ∷ []) after
stays w told calls c before after text none a e h = record {
  file = subst (λ t. FileHolds w.name t told) (sym (e ∙ (ap (λ o. before ++ added o) none ∙ append-nil before))) h.file;
  last = sym (ap (λ o. time_after c.time o w.last) none) ∙ (ap (time_after c.time text) h.last ∙ sym a.time_is);
}

-- a call that adds a text
takes : (w : Writer) (old new : Option (List File)) (calls : List Call) (c : Call) (before after t : List ℕ) (text : Option (List ℕ)) → text ≡ Some t → AddsCall w calls c text → after ≡ before ++ added text → HoldsText w old calls before
    → Appends w.name t old new (Ok tt) → HoldsText (record w { last = Some c.time }) new (calls ++ c ∷ []) after
takes w old new calls c before after t text some a e h put = record {
  file = subst (λ u. FileHolds w.name u new) (sym (e ∙ ap (λ o. before ++ added o) some)) (appended_ok w.name before t old new h.file put);
  last = sym (ap (λ o. time_after c.time o w.last) some) ∙ (ap (time_after c.time text) h.last ∙ sym a.time_is);
}

-- a call whose text isn't made, or isn't added whole
part_before : (w : Writer) (told : Option (List File)) (before after rest : List ℕ) → after ≡ before ++ rest → FileHolds w.name before told → FileBegins w.name after told
part_before w told before after rest e h = subst (λ u. FileBegins w.name u told) (sym e) (begins w.name before rest told h)

text_grows : (circuit : Circuit) (calls : List Call) (c : Call) → (rest : List ℕ) × (text_after circuit (calls ++ c ∷ []) ≡ text_after circuit calls ++ rest)
text_grows circuit calls c =
    let g = grows (variables_of circuit) calls c in
    (g.0, ap (λ t. header circuit ++ t) g.1 ∙ sym (append_assoc (header circuit) (dump_text (dump_after (variables_of circuit) None calls)) g.0))

-- a text that there is
pub some_text : (some : Bool) (made text : List ℕ) → some ≡ true → text ≡ made → text_if some made ≡ Some text
some_text some made text e same = ap (λ b. text_if b made) e ∙ ap Some (sym same)

-- a text that was added, or only in part
pub puts_whole : (c : Call) (w before w' : Writer) (old new : Option (List File)) (text : Option (List ℕ)) (t : List ℕ) → w ≡ before → text ≡ Some t → IsTextOf w c text → Appends w.name t old new (Ok tt) → w' ≡ record w { last = Some c.time }
    → LeavesText c before w' old new (Ok tt)
puts_whole c w before w' old new text t e some is put same = subst (λ v. LeavesText c v w' old new (Ok tt)) e (Some t, subst (IsTextOf w c) some is, (same, put))

pub puts_part : (c : Call) (w before w' : Writer) (old new : Option (List File)) (text : Option (List ℕ)) (t : List ℕ) (error : ShelfError) → w ≡ before → text ≡ Some t → IsTextOf w c text → Appends w.name t old new (Err error) → w' ≡ w
    → (w' ≡ before) × ((new ≡ old) ⊎ BreaksOff c before old new)
puts_part c w before w' old new text t error e some is put same =
    subst (λ v. (w' ≡ v) × ((new ≡ old) ⊎ BreaksOff c v old new)) e (same, inr (record { text = t; is = subst (IsTextOf w c) some is; error = error; put = put }))

-- the writer of a whole dump
whole_ok : (c : Call) (w w' : Writer) (old new : Option (List File)) (text : Option (List ℕ)) → IsTextOf w c text → AddsText text c.time w w' old new → (calls : List Call) → Holds w old calls → AreTruthful (calls ++ c ∷ [])
    → Holds w' new (calls ++ c ∷ [])
whole_ok c w w' old new text is put calls h truth =
    let a = adds w old calls (text_after w.circuit calls) c text is truth h in
    let e = text_adds w calls c text a in
    by_text (λ v o. Holds v o (calls ++ c ∷ [])) text c.time w w' old new put
    (λ none. stays w old calls c (text_after w.circuit calls) (text_after w.circuit (calls ++ c ∷ [])) text none a e h)
    (λ t some put. takes w old new calls c (text_after w.circuit calls) (text_after w.circuit (calls ++ c ∷ [])) t text some a e h put)

whole_err : (c : Call) (w : Writer) (old new : Option (List File)) → (new ≡ old) ⊎ BreaksOff c w old new → (calls : List Call) → Holds w old calls → AreTruthful (calls ++ c ∷ [])
    → FileBegins w.name (text_after w.circuit (calls ++ c ∷ [])) new
whole_err c w old new (inl same) calls h truth =
    let g = text_grows w.circuit calls c in
    subst (λ o. FileBegins w.name (text_after w.circuit (calls ++ c ∷ [])) o) (sym same) (part_before w old (text_after w.circuit calls) (text_after w.circuit (calls ++ c ∷ [])) g.0 g.1 h.file)
whole_err c w old new (inr put) calls h truth =
    let a = adds w old calls (text_after w.circuit calls) c (Some put.text) put.is truth h in
    subst (λ u. FileBegins w.name u new) (sym (text_adds w calls c (Some put.text) a)) (appended_err w.name (text_after w.circuit calls) put.text put.error old new h.file put.put)

pub whole_holds : (c : Call) (w w' : Writer) (old new : Option (List File)) (result : Result Unit ShelfError) → LeavesText c w w' old new result
    → OnOk result ((calls : List Call) → Holds w old calls → AreTruthful (calls ++ c ∷ []) → Holds w' new (calls ++ c ∷ []))
whole_holds c w w' old new (Ok u) h = whole_ok c w w' old new h.0 h.1 h.2
whole_holds c w w' old new (Err e) h = tt

pub whole_begins : (c : Call) (w w' : Writer) (old new : Option (List File)) (result : Result Unit ShelfError) → LeavesText c w w' old new result
    → OnErr result ((calls : List Call) → Holds w old calls → AreTruthful (calls ++ c ∷ []) → FileBegins w'.name (text_after w'.circuit (calls ++ c ∷ [])) new)
whole_begins c w w' old new (Ok u) h = tt
whole_begins c w w' old new (Err e) h = λ calls held truth. subst (λ v. FileBegins v.name (text_after v.circuit (calls ++ c ∷ [])) new) (sym h.0) (whole_err c w old new h.1 calls held truth)

-- the writer of one that goes on
front-later : (P : Call → Type 0) (xs : List Call) (c : Call) → All P (xs ++ c ∷ []) → All P xs
front-later P [] c h = All-nil P
front-later P (x ∷ xs) c h = All-cons P x xs (All-head P x (xs ++ c ∷ []) h) (front-later P xs c (All-tail P x (xs ++ c ∷ []) h))

rest_ok : (c : Call) (w w' : Writer) (old new : Option (List File)) (text : Option (List ℕ)) → IsTextOf w c text → AddsText text c.time w w' old new → (calls : List Call) → HoldsRest w old calls → AreTruthful (calls ++ c ∷ [])
    → HoldsRest w' new (calls ++ c ∷ [])
rest_ok c w w' old new text is put [] h truth = absurd h
rest_ok c w w' old new text is put (first ∷ later) h truth = λ after. (
    let before = text_behind w.circuit (first ∷ []) (first ∷ later) in
    let now = text_behind w.circuit (first ∷ []) (first ∷ later ++ c ∷ []) in
    let held = h (front-later (λ x. first.time < x.time) later c after) in
    let a = adds w old (first ∷ later) before c text is truth held in
    let e : now ≡ before ++ added text = behind_adds w.circuit first later c (added text) (text_adds w (first ∷ later) c text a) in
    by_text (λ v o. HoldsText v o (first ∷ later ++ c ∷ []) (text_behind v.circuit (first ∷ []) (first ∷ later ++ c ∷ []))) text c.time w w' old new put
    (λ none. stays w old (first ∷ later) c before now text none a e held)
    (λ t some put. takes w old new (first ∷ later) c before now t text some a e held put))

rest_err : (c : Call) (w : Writer) (old new : Option (List File)) → (new ≡ old) ⊎ BreaksOff c w old new → (calls : List Call) → HoldsRest w old calls
    → AreTruthful (calls ++ c ∷ []) → BeginsRest w new (calls ++ c ∷ [])
rest_err c w old new put [] h truth = absurd h
rest_err c w old new (inl same) (first ∷ later) h truth = λ after. (
    let g = text_grows w.circuit (first ∷ later) c in
    let held = h (front-later (λ x. first.time < x.time) later c after) in
    subst (λ o. FileBegins w.name (text_behind w.circuit (first ∷ []) (first ∷ later ++ c ∷ [])) o) (sym same)
    (part_before w old (text_behind w.circuit (first ∷ []) (first ∷ later)) (text_behind w.circuit (first ∷ []) (first ∷ later ++ c ∷ [])) g.0 (behind_adds w.circuit first later c g.0 g.1) held.file))
rest_err c w old new (inr put) (first ∷ later) h truth = λ after. (
    let before = text_behind w.circuit (first ∷ []) (first ∷ later) in
    let held = h (front-later (λ x. first.time < x.time) later c after) in
    let a = adds w old (first ∷ later) before c (Some put.text) put.is truth held in
    subst (λ u. FileBegins w.name u new) (sym (behind_adds w.circuit first later c put.text (text_adds w (first ∷ later) c (Some put.text) a))) (appended_err w.name before put.text put.error old new held.file put.put))

pub rest_holds : (c : Call) (w w' : Writer) (old new : Option (List File)) (result : Result Unit ShelfError) → LeavesText c w w' old new result
    → OnOk result ((calls : List Call) → HoldsRest w old calls → AreTruthful (calls ++ c ∷ []) → HoldsRest w' new (calls ++ c ∷ []))
rest_holds c w w' old new (Ok u) h = rest_ok c w w' old new h.0 h.1 h.2
rest_holds c w w' old new (Err e) h = tt

pub rest_begins : (c : Call) (w w' : Writer) (old new : Option (List File)) (result : Result Unit ShelfError) → LeavesText c w w' old new result
    → OnErr result ((calls : List Call) → HoldsRest w old calls → AreTruthful (calls ++ c ∷ []) → BeginsRest w' new (calls ++ c ∷ []))
rest_begins c w w' old new (Ok u) h = tt
rest_begins c w w' old new (Err e) h = λ calls held truth. subst (λ v. BeginsRest v new (calls ++ c ∷ [])) (sym h.0) (rest_err c w old new h.1 calls held truth)
