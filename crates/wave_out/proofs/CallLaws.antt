-- What a dump is after one call more.
use Rattle.std.proofs.Common.{◌≡◌, ◌∙◌, sym, ap, refl, subst, ℕ, suc, List, [], ◌∷◌, ◌++◌, get_or, map}
use Rattle.std.proofs.lemmas.List.{append-nil}
use Rattle.std.proofs.lemmas.List.Elements.{All-cons, All-head, All-nil, All-tail}
use Rattle.std.specs.Prelude.{◌==◌, ◌||◌, Bool, true, false, not, if◌then◌else◌, All, Option, Some, None, codes}
use Rattle.std.specs.List.{list_any}
use Rattle.sg_logic.specs.declared.values.Value.{Value}
use Rattle.sg_logic.specs.Values.{is_same}
use Rattle.sg_model.specs.Values.{value_at}
use Rattle.sg_model.specs.Time.{any_differs}
use Rattle.sg_model.proofs.PlacedLaws.{same-true}
use Rattle.sg_model.proofs.PlacingSteps.{same-self}
use Rattle.sg_circuit.specs.Circuit.{Variable}
use Rattle.fan_round.specs.Nets.{differs}
use Rattle.sim_times.specs.Watching.{AreTruthful, AreTruthfulAfter, Call, NetChange, AreDifferences}
use Rattle.wave_out.specs.Changes.{bits_change, IsText}
use Rattle.wave_out.specs.Lines.{bits_line}
use Rattle.wave_out.specs.Texts.{line, by_number}
use Rattle.wave_out.specs.Vcd.{Dump, any_variable_differs, change_line, dump_text, first_block, later_block, time_line, value_line, values_at}
use Rattle.wave_out.specs.Writing.{dump_after, later, snapshot_of, time_of, with_call}

-- values that don't differ
same_value : (old new : List Value) (k : ℕ) → differs old new k ≡ false → value_at old k ≡ value_at new k
same_value old new k e = same-true (value_at old k) (value_at new k) (at (is_same (value_at old k) (value_at new k)) e)
  where
    at : (b : Bool) → not b ≡ false → b ≡ true
    at true h = refl
    at false h = absurd (cc)

no_first : (a b : Bool) → (a || b) ≡ false → a ≡ false
no_first true b h = absurd (cc)
no_first false b h = refl

no_second : (a b : Bool) → (a || b) ≡ false → b ≡ false
no_second true b h = absurd (cc)
no_second false b h = h

differ_none : (old new : List Value) (bs : List ℕ) → any_differs old new bs ≡ false → values_at bs old ≡ values_at bs new
differ_none old new [] h = refl
differ_none old new (b ∷ bs) h =
    ap (λ v. v ∷ values_at bs old) (same_value old new b (no_first (differs old new b) (any_differs old new bs) h))
    ∙ ap (λ vs. value_at new b ∷ vs) (differ_none old new bs (no_second (differs old new b) (any_differs old new bs) h))

pub any_same : (a b new : List Value) (bs : List ℕ) → values_at bs a ≡ values_at bs b → any_differs a new bs ≡ any_differs b new bs
any_same a b new [] h = refl
any_same a b new (n ∷ ns) h =
    let one : value_at a n ≡ value_at b n = cc in
    let rest : values_at ns a ≡ values_at ns b = cc in
    ap (λ v. not (is_same v (value_at new n)) || any_differs a new ns) one ∙ ap (λ c. differs b new n || c) (any_same a b new ns rest)

-- the variables have the same values in both
abbrev pub Agree : List Variable → List Value → List Value → Type 0
Agree xs a b = All (λ x. values_at x.bits a ≡ values_at x.bits b) xs

pub agree_none : (xs : List Variable) (old new : List Value) → any_variable_differs xs old new ≡ false → Agree xs old new
agree_none [] old new h = All-nil (λ x. values_at x.bits old ≡ values_at x.bits new)
agree_none (x ∷ xs) old new h =
    All-cons (λ x. values_at x.bits old ≡ values_at x.bits new) x xs (differ_none old new x.bits (no_first (any_differs old new x.bits) (any_variable_differs xs old new) h))
    (agree_none xs old new (no_second (any_differs old new x.bits) (any_variable_differs xs old new) h))

-- variables that agree don't differ
no_differs : (vs : List Value) (bs : List ℕ) → any_differs vs vs bs ≡ false
no_differs vs [] = refl
no_differs vs (b ∷ bs) = ap (λ c. not c || any_differs vs vs bs) (same-self (value_at vs b) (value_at vs b) refl) ∙ no_differs vs bs

pub any_agree_none : (xs : List Variable) (a b : List Value) → Agree xs a b → any_variable_differs xs a b ≡ false
any_agree_none [] a b h = refl
any_agree_none (x ∷ xs) a b h =
    ap (λ c. c || any_variable_differs xs a b) (any_same a b b x.bits (All-head (λ x. values_at x.bits a ≡ values_at x.bits b) x xs h) ∙ no_differs b x.bits)
    ∙ any_agree_none xs a b (All-tail (λ x. values_at x.bits a ≡ values_at x.bits b) x xs h)

-- what is written of variables that agreed before
texts_agree : (xs : List Variable) (k : ℕ) (a b new : List Value) → Agree xs a b → by_number (bits_change b new) k (map (λ x. x.bits) xs) ≡ by_number (change_line a new) k xs
texts_agree [] k a b new h = refl
texts_agree (x ∷ xs) k a b new h =
    ap (λ c. (if c then bits_line new k x.bits else []) ++ by_number (bits_change b new) (suc k) (map (λ y. y.bits) xs)) (sym (any_same a b new x.bits (All-head (λ x. values_at x.bits a ≡ values_at x.bits b) x xs h)))
    ∙ ap (λ t. change_line a new k x ++ t) (texts_agree xs (suc k) a b new (All-tail (λ x. values_at x.bits a ≡ values_at x.bits b) x xs h))

any_agree : (xs : List Variable) (a b new : List Value) → Agree xs a b → list_any (any_differs b new) (map (λ x. x.bits) xs) ≡ any_variable_differs xs a new
any_agree [] a b new h = refl
any_agree (x ∷ xs) a b new h =
    ap (λ c. c || list_any (any_differs b new) (map (λ y. y.bits) xs)) (sym (any_same a b new x.bits (All-head (λ x. values_at x.bits a ≡ values_at x.bits b) x xs h)))
    ∙ ap (λ c. any_differs a new x.bits || c) (any_agree xs a b new (All-tail (λ x. values_at x.bits a ≡ values_at x.bits b) x xs h))

lines_all : (xs : List Variable) (k : ℕ) (values : List Value) → by_number (bits_line values) k (map (λ x. x.bits) xs) ≡ by_number (value_line values) k xs
lines_all [] k values = refl
lines_all (x ∷ xs) k values = ap (λ t. value_line values k x ++ t) (lines_all xs (suc k) values)

-- what a call adds
abbrev pub added : Option (List ℕ) → List ℕ
added None = []
added (Some text) = text

abbrev pub time_after : ℕ → Option (List ℕ) → Option ℕ → Option ℕ
time_after time None last = last
time_after time (Some text) last = Some time

pub record Adds (before after : Option Dump) (time : ℕ) (text : Option (List ℕ)) : Type 0 where
  pub text_is : dump_text after ≡ dump_text before ++ added text
  pub time_is : time_of after ≡ time_after time text (time_of before)

adds_block : (d : Dump) (time : ℕ) (values : List Value) (t : List ℕ) (b : Bool) (text : Option (List ℕ)) → text ≡ (if b then Some t else None)
    → Adds (Some d) (if b then Some (record { text = d.text ++ t; time = time; values = values }) else Some d) time text
adds_block d time values t true text e = record { text_is = ap (λ o. d.text ++ added o) (sym e); time_is = ap (λ o. time_after time o (Some d.time)) (sym e) }
adds_block d time values t false text e = record { text_is = sym (append-nil d.text) ∙ ap (λ o. d.text ++ added o) (sym e); time_is = ap (λ o. time_after time o (Some d.time)) (sym e) }

adds_end : (d : Dump) (time : ℕ) (b : Bool) (text : Option (List ℕ)) → text ≡ (if b then None else Some (time_line time))
    → Adds (Some d) (Some (if b then d else record d { text = d.text ++ time_line time; time = time })) time text
adds_end d time true text e = record { text_is = sym (append-nil d.text) ∙ ap (λ o. d.text ++ added o) (sym e); time_is = ap (λ o. time_after time o (Some d.time)) (sym e) }
adds_end d time false text e = record { text_is = ap (λ o. d.text ++ added o) (sym e); time_is = ap (λ o. time_after time o (Some d.time)) (sym e) }

-- a call after others, where the variables agree with the values of the call before
adds_later : (xs : List Variable) (d : Dump) (before : List Value) (c : Call) (changed : List NetChange) (text : Option (List ℕ)) → Agree xs d.values before → AreDifferences before c.values changed
    → IsText (Some d.time) c.time (map (λ x. x.bits) xs) changed c.values text → Adds (Some d) (later xs c changed d) c.time text
adds_later xs d before c [] text agree truth is = adds_end d c.time (d.time == c.time) text is
adds_later xs d before c (n ∷ ns) text agree truth is =
    adds_block d c.time c.values (later_block xs d.values (snapshot_of c)) (any_variable_differs xs d.values c.values) text
    (is.each before truth
    ∙ (ap (λ b. if b then Some (time_line c.time ++ by_number (bits_change before c.values) 0 (map (λ x. x.bits) xs)) else None) (any_agree xs d.values before c.values agree)
    ∙ ap (λ t. if any_variable_differs xs d.values c.values then Some (time_line c.time ++ t) else None) (texts_agree xs 0 d.values before c.values agree)))

adds_first : (xs : List Variable) (c : Call) (text : Option (List ℕ)) → IsText None c.time (map (λ x. x.bits) xs) c.changed c.values text → Adds None (with_call xs c None) c.time text
adds_first xs c text is =
    let e : text ≡ Some (first_block xs (snapshot_of c)) = is ∙ ap (λ t. Some (time_line c.time ++ line (codes "$dumpvars") ++ t ++ line (codes "$end"))) (lines_all xs 0 c.values) in
    record { text_is = ap added (sym e); time_is = ap (λ o. time_after c.time o None) (sym e) }

-- after a call the variables agree with its values
none_differ : (before values : List Value) → AreDifferences before values [] → (bs : List ℕ) → values_at bs before ≡ values_at bs values
none_differ before values h [] = refl
none_differ before values h (b ∷ bs) = ap (λ v. v ∷ values_at bs before) (same_value before values b (at (differs before values b) (h.nets.each b))) ∙ ap (λ vs. value_at values b ∷ vs) (none_differ before values h bs)
  where
    at : (c : Bool) → ◌≡◌ {A = ℕ} 0 (if c then 1 else 0) → c ≡ false
    at true e = absurd (cc)
    at false e = refl

record Follows (xs : List Variable) (after : Option Dump) (values : List Value) : Type 0 where
  dump : Dump
  is : after ≡ Some dump
  agree : Agree xs dump.values values

follows_block : (xs : List Variable) (d : Dump) (time : ℕ) (values : List Value) (t : List ℕ) (b : Bool) → any_variable_differs xs d.values values ≡ b
    → Follows xs (if b then Some (record { text = t; time = time; values = values }) else Some d) values
follows_block xs d time values t true e = record { dump = record { text = t; time = time; values = values }; is = refl; agree = λ i x l. refl }
follows_block xs d time values t false e = record { dump = d; is = refl; agree = agree_none xs d.values values e }

follows_end : (xs : List Variable) (d : Dump) (values : List Value) (t : List ℕ) (time : ℕ) (b : Bool) → Agree xs d.values values → Follows xs (Some (if b then d else record d { text = t; time = time })) values
follows_end xs d values t time true h = record { dump = d; is = refl; agree = h }
follows_end xs d values t time false h = record { dump = record d { text = t; time = time }; is = refl; agree = h }

follows_later : (xs : List Variable) (d : Dump) (before : List Value) (c : Call) (changed : List NetChange) → Agree xs d.values before → AreDifferences before c.values changed → Follows xs (later xs c changed d) c.values
follows_later xs d before c [] agree truth =
    follows_end xs d c.values (d.text ++ time_line c.time) c.time (d.time == c.time) (λ i x l. agree i x l ∙ none_differ before c.values truth (get_or xs i x).bits)
follows_later xs d before c (n ∷ ns) agree truth =
    follows_block xs d c.time c.values (d.text ++ later_block xs d.values (snapshot_of c)) (any_variable_differs xs d.values c.values) refl

-- before the last of some calls
record Precedes (xs : List Variable) (d : Option Dump) (c : Call) : Type 0 where
  dump : Dump
  is : d ≡ Some dump
  values : List Value
  agree : Agree xs dump.values values
  truth : AreDifferences values c.values c.changed

precedes : (xs : List Variable) (d : Dump) (before : List Value) (cs : List Call) (c : Call) → Agree xs d.values before → AreTruthfulAfter before (cs ++ c ∷ []) → Precedes xs (dump_after xs (Some d) cs) c
precedes xs d before [] c agree truth = record { dump = d; is = refl; values = before; agree = agree; truth = truth.0 }
precedes xs d before (e ∷ es) c agree truth =
    let step = follows_later xs d before e e.changed agree truth.0 in
    subst (λ o. Precedes xs (dump_after xs o es) c) (sym step.is) (precedes xs step.dump e.values es c step.agree truth.1)

pub after-append : (xs : List Variable) (d : Option Dump) (cs : List Call) (c : Call) → dump_after xs d (cs ++ c ∷ []) ≡ with_call xs c (dump_after xs d cs)
after-append xs d [] c = refl
after-append xs d (e ∷ es) c = after-append xs (with_call xs e d) es c

-- one call more
pub one_more : (xs : List Variable) (calls : List Call) (c : Call) (text : Option (List ℕ)) → AreTruthful (calls ++ c ∷ []) → IsText (time_of (dump_after xs None calls)) c.time (map (λ x. x.bits) xs) c.changed c.values text
    → Adds (dump_after xs None calls) (dump_after xs None (calls ++ c ∷ [])) c.time text
one_more xs [] c text truth is = adds_first xs c text is
one_more xs (e ∷ es) c text truth is =
    let d : Dump = record { text = first_block xs (snapshot_of e); time = e.time; values = e.values } in
    let p = precedes xs d e.values es c (λ i x l. refl) truth in
    let is' : IsText (Some p.dump.time) c.time (map (λ x. x.bits) xs) c.changed c.values text = subst (λ o. IsText (time_of o) c.time (map (λ x. x.bits) xs) c.changed c.values text) p.is is in
    subst (λ o. Adds (dump_after xs (Some d) es) o c.time text) (sym (after-append xs (Some d) es c))
    (subst (λ o. Adds o (with_call xs c o) c.time text) (sym p.is) (adds_later xs p.dump p.values c c.changed text p.agree p.truth is'))

-- a call adds to the text, or leaves it
grows_block : (d : Dump) (time : ℕ) (values : List Value) (t : List ℕ) (b : Bool) → (rest : List ℕ) × (dump_text (if b then Some (record { text = d.text ++ t; time = time; values = values }) else Some d) ≡ d.text ++ rest)
grows_block d time values t true = (t, refl)
grows_block d time values t false = ([], sym (append-nil d.text))

grows_end : (d : Dump) (time : ℕ) (t : List ℕ) (b : Bool) → (rest : List ℕ) × (dump_text (Some (if b then d else record d { text = d.text ++ t; time = time })) ≡ d.text ++ rest)
grows_end d time t true = ([], sym (append-nil d.text))
grows_end d time t false = (t, refl)

grows_later : (xs : List Variable) (c : Call) (changed : List NetChange) (d : Dump) → (rest : List ℕ) × (dump_text (later xs c changed d) ≡ d.text ++ rest)
grows_later xs c [] d = grows_end d c.time (time_line c.time) (d.time == c.time)
grows_later xs c (n ∷ ns) d = grows_block d c.time c.values (later_block xs d.values (snapshot_of c)) (any_variable_differs xs d.values c.values)

pub grows_call : (xs : List Variable) (c : Call) (o : Option Dump) → (rest : List ℕ) × (dump_text (with_call xs c o) ≡ dump_text o ++ rest)
grows_call xs c None = (first_block xs (snapshot_of c), refl)
grows_call xs c (Some d) = grows_later xs c c.changed d

pub grows : (xs : List Variable) (calls : List Call) (c : Call) → (rest : List ℕ) × (dump_text (dump_after xs None (calls ++ c ∷ [])) ≡ dump_text (dump_after xs None calls) ++ rest)
grows xs calls c = let g = grows_call xs c (dump_after xs None calls) in (g.0, ap dump_text (after-append xs None calls c) ∙ g.1)
