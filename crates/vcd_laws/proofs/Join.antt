-- The dump of a run, read as a stimulus, makes the run again: of a circuit whose names, inputs and drivers are in order.
use Rattle.std.specs.Prelude.{◌≡◌, ℕ, ℤ, pos, ◌-ℤ◌, zero, suc, ◌+◌, ◌*◌, ◌^◌, ◌<◌, ◌≤◌, true, List, [], ◌∷◌, ◌++◌, length, map, flat_map, codes, decimal, None, refl}
use lib.IntN.{+ℤ_invr}
use Rattle.std.specs.List.{AllByRecursion}
use Rattle.std.proofs.Common.{sym, ◌∙◌, ap, subst, arith}
use Rattle.std.proofs.lemmas.List.{append_assoc, length-append}
use Rattle.std.proofs.lemmas.List.Concat.{flat_map-append}
use Rattle.std.proofs.lemmas.List.Elements.{filter_map-append}
use Rattle.sg_logic.specs.declared.values.Value.{Value}
use Rattle.sg_model.specs.Machine.{Snapshot}
use Rattle.sg_model.specs.Run.{Finished, lasts}
use Rattle.sg_circuit.specs.Circuit.{Circuit, Variable, scope_at}
use Rattle.sg_stimulus.specs.Applied.{IsApplied}
use Rattle.sg_stimulus.specs.Stimulus.{Stimulus}
use Rattle.sim_rounds.specs.Simulated.{run_of_circuit}
use Rattle.wave_out.specs.declared.scopes.Visit.{Visit}
use Rattle.wave_out.specs.declared.scopes.Visit.TheVariants.{Enters, Leaves}
use Rattle.wave_out.specs.Scopes.{children_of, variables_at, variables_of, visits, visits_in}
use Rattle.sg_time.specs.Spelling.{number_from}
use Rattle.wave_out.specs.Texts.{written_name}
use Rattle.wave_out.specs.Vcd.{code, dump, dump_text, ending, header, vcd_body, vcd_text}
use Rattle.vcd_form.specs.Rules.{came_first}
use Rattle.vcd_form.specs.Words.{words, Word}
use Rattle.vcd_form.specs.Written.{Item, Section, declares, enters, leaves, remark, timescale}
use Rattle.vcd_model.specs.Faults.{Header, header_of}
use Rattle.vcd_model.specs.Inputs.{all_declared, declared, own}
use Rattle.vcd_model.specs.Reading.{IsRead, most_bytes}
use Rattle.vcd_model.specs.Stimulus.{wave_stimulus}
use Rattle.vcd_model.specs.Values.{scale_of}
use Rattle.run_laws.specs.Inputs.{AreSameRuns, HasDrivers, nets_after}
use Rattle.run_laws.proofs.Circuits.{same_runs}
use Rattle.vcd_laws.specs.Again.{MakesAgain, dump_of}
use Rattle.vcd_laws.proofs.Body.{shots}
use Rattle.vcd_laws.proofs.Decimals.{decimal_number}
use Rattle.vcd_laws.proofs.Dumps.{MayAll, SpellsDump, spell_dump}
use Rattle.vcd_laws.proofs.Entries.{Entry, body_said, body_text, declaration_entry, declaration_words, definitions_words, end_lines, header_entries, header_text, lines_in, lines_of, range_words, said, scope_words, text-append, text_of, timescale_entry, type_word, version_entry, visit_entries, words_of}
use Rattle.vcd_laws.proofs.Faultless.{CleanAll, EachKnown, clean_items, clean_unplaced, each_known}
use Rattle.vcd_laws.proofs.Fronts.{AreExact}
use Rattle.vcd_laws.proofs.Header.{count_of, declared_one, section_one, visit_sections}
use Rattle.vcd_laws.proofs.Items.{EachRead, HasReader, all_append, ending_items, items_of, numbered, shown}
use Rattle.vcd_laws.proofs.Own.{HasInputs, each_read, has_reader, numbered-append, tops, unplaced_declaration}
use Rattle.vcd_laws.proofs.Readable.{HasNames, IsWritten, ItemRead, LineRead, body_read, children_within, header_read, most_variables, words_spelled}
use Rattle.vcd_laws.proofs.ReadLines.{ReadsItem, ReadsSection, plain}
use Rattle.vcd_laws.proofs.Rows.{Spelled, are_words, bytes_of_words, pieces, row, spelled_all, spelled_append, spelled_row}
use Rattle.vcd_laws.proofs.Snapshots.{lasts_are}
use Rattle.vcd_laws.proofs.Standing.{IsFaultless, no_fault, own_fine}
use Rattle.vcd_laws.proofs.Stands.{stand_all}
use Rattle.vcd_laws.proofs.Top.{IsHeader, are_own, header_may, header_said, scope_there, unit_is, variables_are}
use Rattle.vcd_laws.proofs.Waves.{IsOfRun, Makes, makes}

-- ---- all variables of the header

pub all_variables : (circuit : Circuit) → HasNames circuit → (turns s : ℕ) → s < length circuit.scopes → AllByRecursion IsWritten (flat_map (variables_at circuit) (visits_in turns circuit s))
all_variables circuit h zero s l = tt
all_variables circuit h (suc turns) s l =
    let inner = flat_map (visits_in turns circuit) (children_of circuit s) in
    all_append IsWritten (scope_at circuit s).variables (flat_map (variables_at circuit) (inner ++ Leaves ∷ [])) (h.scopes s l).1
    (subst (AllByRecursion IsWritten) (sym (flat_map-append (variables_at circuit) inner (Leaves ∷ [])))
    (all_append IsWritten (flat_map (variables_at circuit) inner) [] (all_of_list (children_of circuit s) (children_within s 0 (length circuit.scopes) circuit.scopes (omega arith)) (λ c m. all_variables circuit h turns c m)) tt))
  where
    all_of_list : (cs : List ℕ) → AllByRecursion (λ c. c < length circuit.scopes) cs → ((c : ℕ) → c < length circuit.scopes → AllByRecursion IsWritten (flat_map (variables_at circuit) (visits_in turns circuit c)))
        → AllByRecursion IsWritten (flat_map (variables_at circuit) (flat_map (visits_in turns circuit) cs))
    all_of_list [] within each = tt
    all_of_list (c ∷ cs) within each =
        subst (AllByRecursion IsWritten) (sym (flat_map-append (variables_at circuit) (visits_in turns circuit c) (flat_map (visits_in turns circuit) cs)))
        (all_append IsWritten (flat_map (variables_at circuit) (visits_in turns circuit c)) (flat_map (variables_at circuit) (flat_map (visits_in turns circuit) cs)) (each c within.0) (all_of_list cs within.1 each))

all_to : {A : Type 0} (P Q : A → Type 0) (xs : List A) → ((x : A) → P x → Q x) → AllByRecursion P xs → AllByRecursion Q xs
all_to P Q [] f h = tt
all_to P Q (x ∷ xs) f h = (f x h.0, all_to P Q xs f h.1)

-- all declarations are those of all variables
all_plain : (ss : List Section) → map unplaced_declaration (all_declared ss) ≡ all_declared (map plain ss)
all_plain [] = refl
all_plain (remark ∷ ss) = all_plain ss
all_plain (timescale p ∷ ss) = all_plain ss
all_plain (enters n ∷ ss) = all_plain ss
all_plain (leaves ∷ ss) = all_plain ss
all_plain (declares d ∷ ss) = ap (λ ds. unplaced_declaration d ∷ ds) (all_plain ss)

decls_declared : (k : ℕ) (vs : List Variable) → all_declared (numbered section_one k vs) ≡ numbered declared_one k vs
decls_declared k [] = refl
decls_declared k (v ∷ vs) = ap (λ ds. declared_one k v ++ ds) (decls_declared (suc k) vs)

visits_declared : (circuit : Circuit) (k : ℕ) (vs : List Visit) → all_declared (visit_sections circuit k vs) ≡ numbered declared_one k (flat_map (variables_at circuit) vs)
visits_declared circuit k [] = refl
visits_declared circuit k (Enters s ∷ rest) =
    let vars = (scope_at circuit s).variables in
    filter_map-append declared (numbered section_one k vars) (visit_sections circuit (k + length vars) rest)
    ∙ (ap (λ ds. ds ++ all_declared (visit_sections circuit (k + length vars) rest)) (decls_declared k vars)
    ∙ (ap (λ ds. numbered declared_one k vars ++ ds) (visits_declared circuit (k + length vars) rest) ∙ sym (numbered-append declared_one k vars (flat_map (variables_at circuit) rest))))
visits_declared circuit k (Leaves ∷ rest) = visits_declared circuit k rest

-- ---- so many variables take so many bytes

five_more : (a b c d : ℕ) → 5 * a ≤ b → d ≡ c + b → 5 ≤ c → 5 * suc a ≤ d
five_more a b c d h e l = omega arith

row_long : (k : ℕ) (v : Variable) → 5 ≤ length (row (declaration_words k v))
row_long k v = at (row (type_word v.is_reg ∷ decimal (length v.bits) ∷ code k ∷ written_name v.name ∷ range_words v.range))
  where
    at : (rest : List ℕ) → 5 ≤ length (codes "$var" ++ 32 ∷ rest)
    at rest = omega arith

decls_long : (k : ℕ) (vs : List Variable) → 5 * length vs ≤ length (text_of (numbered declaration_entry k vs))
decls_long k [] = omega arith
decls_long k (v ∷ vs) =
    five_more (length vs) (length (text_of (numbered declaration_entry (suc k) vs))) (length (row (declaration_words k v))) (length (text_of (numbered declaration_entry k (v ∷ vs)))) (decls_long (suc k) vs)
    (length-append (row (declaration_words k v)) (text_of (numbered declaration_entry (suc k) vs))) (row_long k v)

sum_long : (a b x y s t l : ℕ) → 5 * a ≤ x → 5 * b ≤ y → l ≡ s + t → t ≡ x + y → 5 * (a + b) ≤ l
sum_long a b x y s t l h k e f = omega arith

visits_long : (circuit : Circuit) (k : ℕ) (vs : List Visit) → 5 * count_of circuit vs ≤ length (text_of (visit_entries circuit k vs))
visits_long circuit k [] = omega arith
visits_long circuit k (Enters s ∷ rest) =
    let vars = (scope_at circuit s).variables in
    let decls = numbered declaration_entry k vars in
    let others = visit_entries circuit (k + length vars) rest in
    subst (λ n. 5 * n ≤ length (text_of (visit_entries circuit k (Enters s ∷ rest)))) (sym (length-append vars (flat_map (variables_at circuit) rest)))
    (sum_long (length vars) (count_of circuit rest) (length (text_of decls)) (length (text_of others)) (length (row (scope_words (scope_at circuit s).name))) (length (text_of (decls ++ others))) (length (text_of (visit_entries circuit k (Enters s ∷ rest)))) (decls_long k vars) (visits_long circuit (k + length vars) rest)
    (length-append (row (scope_words (scope_at circuit s).name)) (text_of (decls ++ others))) (ap length (text-append decls others) ∙ length-append (text_of decls) (text_of others)))
visits_long circuit k (Leaves ∷ rest) =
    let l : length (text_of (visit_entries circuit k (Leaves ∷ rest))) ≡ length (row (codes "$upscope" ∷ codes "$end" ∷ [])) + length (text_of (visit_entries circuit k rest)) = length-append (row (codes "$upscope" ∷ codes "$end" ∷ [])) (text_of (visit_entries circuit k rest)) in
    let h : 5 * count_of circuit rest ≤ length (text_of (visit_entries circuit k rest)) = visits_long circuit k rest in
    later (count_of circuit rest) (length (text_of (visit_entries circuit k rest))) (length (text_of (visit_entries circuit k (Leaves ∷ rest)))) (length (row (codes "$upscope" ∷ codes "$end" ∷ []))) h l
  where
    later : (a b c d : ℕ) → 5 * a ≤ b → c ≡ d + b → 5 * a ≤ c
    later a b c d h e = omega arith

-- ---- the text

pub record IsOrdered (circuit : Circuit) : Type 0 where
  pub names : HasNames circuit
  pub inputs : HasInputs circuit
  pub drivers : HasDrivers circuit
  pub turns : ℕ
  pub scopes : length circuit.scopes ≡ suc turns

body_lines : Circuit → ℕ → Finished → List (Entry Item)
body_lines circuit end f = lines_in (lines_of (variables_of circuit) (lasts f.run.snapshots)) ++ end_lines end (lines_of (variables_of circuit) (lasts f.run.snapshots))

whole_text : (circuit : Circuit) (end : ℕ) (f : Finished) → f.spent ≡ None → vcd_text circuit end f ≡ text_of (header_entries circuit) ++ (row definitions_words ++ text_of (body_lines circuit end f))
unfolding vcd_text body_lines
whole_text circuit end f none =
    ap (λ t. t ++ vcd_body (variables_of circuit) end f) (header_text circuit)
    ∙ (ap (λ t. text_of (header_entries circuit) ++ row definitions_words ++ t) (body_text (variables_of circuit) end f none)
    ∙ append_assoc (text_of (header_entries circuit)) (row definitions_words) (text_of (lines_in (lines_of (variables_of circuit) (lasts f.run.snapshots)) ++ end_lines end (lines_of (variables_of circuit) (lasts f.run.snapshots)))))

few_variables : (circuit : Circuit) (end : ℕ) (f : Finished) → f.spent ≡ None → length (vcd_text circuit end f) ≤ most_bytes → length (variables_of circuit) ≤ most_variables
few_variables circuit end f none l =
    let hs = header_entries circuit in
    let visited = text_of (visit_entries circuit 0 (visits circuit)) in
    let first = row version_entry.words in
    let second = row (timescale_entry circuit).words in
    let a : length (vcd_text circuit end f) ≡ length (text_of hs) + length (row definitions_words ++ text_of (body_lines circuit end f)) = ap length (whole_text circuit end f none) ∙ length-append (text_of hs) (row definitions_words ++ text_of (body_lines circuit end f)) in
    let b : length (text_of hs) ≡ length first + length (second ++ visited) = length-append first (second ++ visited) in
    let c : length (second ++ visited) ≡ length second + length visited = length-append second visited in
    let d : 5 * length (variables_of circuit) ≤ length visited = visits_long circuit 0 (visits circuit) in
    few (length (vcd_text circuit end f)) (length (text_of hs)) (length (row definitions_words ++ text_of (body_lines circuit end f))) (length first) (length (second ++ visited)) (length second) (length visited) (length (variables_of circuit)) l a b c d
  where
    few : (t h r p q s v n : ℕ) → t ≤ most_bytes → t ≡ h + r → h ≡ p + q → q ≡ s + v → 5 * n ≤ v → n ≤ most_variables
    few t h r p q s v n l a b c d = omega arith

-- ---- the dump

small_times : (nets : ℕ → List Value) (t last : ℕ) → t ≤ suc last → last < 2 ^ 60 → AllByRecursion (λ (s : Snapshot). s.time < 2 ^ 64) (shots nets t)
small_times nets zero last l m = tt
small_times nets (suc t) last l m = (omega arith, small_times nets t last (omega arith) m)

pub record IsSpelled (circuit : Circuit) (text : List ℕ) (nets : ℕ → List Value) (end : ℕ) : Type 0 where
  pub dump : SpellsDump (words text) (said (header_entries circuit)) (items_of (shown (variables_of circuit) (shots nets (suc end))) ++ ending_items end (shown (variables_of circuit) (shots nets (suc end))))

spelled_dump : (circuit : Circuit) → IsOrdered circuit → (nets : ℕ → List Value) (end : ℕ) (f : Finished) → f.spent ≡ None → lasts f.run.snapshots ≡ shots nets (suc end) → end < 2 ^ 60 → length (vcd_text circuit end f) ≤ most_bytes
    → IsSpelled circuit (vcd_text circuit end f) nets end
unfolding body_lines
spelled_dump circuit order nets end f none are fits small = record {
  dump = subst (SpellsDump (words text) (said hs)) (body_said (variables_of circuit) end (lasts f.run.snapshots) ∙ ap (λ ss. items_of (shown (variables_of circuit) ss) ++ ending_items end (shown (variables_of circuit) ss)) are)
      (spell_dump hs bs (words text) bytes (all_to LineRead (λ (e : Entry Section). ReadsSection e.words e.says) hs (λ e r. r.reads) reads) (subst (MayAll came_first) (sym (header_said circuit)) (header_may circuit))
      (all_to ItemRead (λ (e : Entry Item). ReadsItem e.words e.says) bs (λ e r. r.reads) reads') (stand_all (words text) (words_of hs ++ (definitions_words ++ words_of bs)) bytes));
}
  where
    text : List ℕ
    text = vcd_text circuit end f

    hs : List (Entry Section)
    hs = header_entries circuit

    bs : List (Entry Item)
    bs = body_lines circuit end f

    some : 0 < length circuit.scopes
    some = (let q : length circuit.scopes ≡ suc order.turns = order.scopes in omega arith)

    few : length (variables_of circuit) ≤ most_variables
    few = few_variables circuit end f none small

    reads : AllByRecursion LineRead hs
    reads = header_read circuit order.names some few

    bits : AllByRecursion (λ (v : Variable). 0 < length v.bits) (variables_of circuit)
    bits = all_to IsWritten (λ (v : Variable). 0 < length v.bits) (variables_of circuit) (λ v w. w.some) (all_variables circuit order.names (length circuit.scopes) 0 some)

    reads' : AllByRecursion ItemRead bs
    reads' = body_read (variables_of circuit) end (lasts f.run.snapshots) ((let q : length (variables_of circuit) ≤ most_variables = few in omega arith), bits) (omega arith) (subst (AllByRecursion (λ (s : Snapshot). s.time < 2 ^ 64)) (sym are) (small_times nets (suc end) end (omega arith) fits))

    spelled : Spelled (text_of hs ++ (row definitions_words ++ text_of bs)) (words_of hs ++ (definitions_words ++ words_of bs))
    spelled = spelled_append (text_of hs) (row definitions_words ++ text_of bs) (words_of hs) (definitions_words ++ words_of bs) (words_spelled hs (all_to LineRead (λ (e : Entry Section). are_words e.words ≡ true) hs (λ e r. r.words) reads))
        (spelled_append (row definitions_words) (text_of bs) definitions_words (words_of bs) (spelled_row definitions_words refl) (words_spelled bs (all_to ItemRead (λ (e : Entry Item). are_words e.words ≡ true) bs (λ e r. r.words) reads')))

    bytes : map (λ (w : Word). w.bytes) (words text) ≡ words_of hs ++ (definitions_words ++ words_of bs)
    bytes = bytes_of_words text ∙ (ap pieces (whole_text circuit end f none) ∙ spelled_all (text_of hs ++ (row definitions_words ++ text_of bs)) (words_of hs ++ (definitions_words ++ words_of bs)) spelled)

-- ---- the law

minus_self : (z : ℤ) → z -ℤ z ≡ pos 0
minus_self z = +ℤ_invr z

same_body : (vs : List Variable) (end : ℕ) (f g : Finished) → g.run.snapshots ≡ f.run.snapshots → g.spent ≡ f.spent → vcd_body vs end g ≡ vcd_body vs end f
same_body vs end f g e s =
    ap (λ ss. dump_text (dump vs (lasts ss)) ++ ending end (dump vs (lasts ss)) g.spent) e ∙ ap (λ o. dump_text (dump vs (lasts f.run.snapshots)) ++ ending end (dump vs (lasts f.run.snapshots)) o) s

same_text : (circuit : Circuit) (end end' : ℕ) (f g : Finished) → end' ≡ end → g.run.snapshots ≡ f.run.snapshots → g.spent ≡ f.spent → vcd_text circuit end' g ≡ vcd_text circuit end f
unfolding vcd_text
same_text circuit end end' f g n e s = ap (λ k. header circuit ++ vcd_body (variables_of circuit) k g) n ∙ ap (λ t. header circuit ++ t) (same_body (variables_of circuit) end f g e s)

pub read_back : (circuit : Circuit) (rounds : ℕ) (stimulus : Stimulus) → AreExact → IsOrdered circuit → IsApplied circuit stimulus → (run_of_circuit circuit rounds stimulus).spent ≡ None → length (dump_of circuit rounds stimulus) ≤ most_bytes
    → (wave : Stimulus) × IsRead (dump_of circuit rounds stimulus) circuit (scope_at circuit 0).name wave × MakesAgain circuit rounds stimulus wave
read_back circuit rounds stimulus exact order applied none small = (
  wave,
  record { sections = d.sections; definitions = d.definitions; items = d.items; spelled = d.spells; no_fault = no_fault text circuit scope d.sections d.definitions d.items exact small d.spells d.whole faultless; is_stimulus = refl },
  record {
    applied = made.applied;
    end = made.ends;
    whole = again.whole;
    dump = same_text circuit stimulus.end wave.end f (run_of_circuit circuit rounds wave) made.ends again.snapshots (again.whole ∙ sym none);
    violations = again.violations;
  },
)
  where
    f : Finished
    f = run_of_circuit circuit rounds stimulus

    text : List ℕ
    text = dump_of circuit rounds stimulus

    scope : List ℕ
    scope = (scope_at circuit 0).name

    nets : ℕ → List Value
    nets = nets_after circuit rounds stimulus

    end : ℕ
    end = stimulus.end

    rest : List Variable
    rest = flat_map (variables_at circuit) (flat_map (visits_in order.turns circuit) (children_of circuit 0) ++ Leaves ∷ [])

    are : variables_of circuit ≡ tops circuit ++ rest
    are = variables_are circuit order.turns order.scopes

    spelled : IsSpelled circuit text nets end
    spelled = spelled_dump circuit order nets end f none (lasts_are circuit rounds stimulus none) applied.fits small

    d : SpellsDump (words text) (said (header_entries circuit)) (items_of (shown (variables_of circuit) (shots nets (suc end))) ++ ending_items end (shown (variables_of circuit) (shots nets (suc end))))
    d = spelled.dump

    head : IsHeader circuit d.sections
    head = record { turns = order.turns; scopes = order.scopes; are = d.sections_are ∙ header_said circuit }

    digits : (u : ℕ) → u ≤ end → number_from 0 (decimal u) ≡ u
    digits u l = decimal_number u (let q : end < 2 ^ 60 = applied.fits in omega arith)

    unit : (scale_of circuit d.sections).unit -ℤ (scale_of circuit d.sections).tick ≡ pos 0
    unit = ap (λ z. z -ℤ circuit.tick) (unit_is circuit d.sections head) ∙ minus_self circuit.tick

    of_run : IsOfRun circuit scope (variables_of circuit) nets end d.sections d.items
    of_run = record {
      unit = unit;
      items_are = d.items_are;
      reads = subst (EachRead circuit (own scope d.sections) 0) (sym are) (each_read circuit (own scope d.sections) rest order.inputs (are_own circuit d.sections head));
      covers = λ net i. subst (HasReader circuit (own scope d.sections) net 0) (sym are) (has_reader circuit (own scope d.sections) rest order.inputs (are_own circuit d.sections head) net i);
      digits = digits;
    }

    made : Makes circuit scope nets end d.sections d.items
    made = makes circuit scope (variables_of circuit) nets end d.sections d.items of_run applied.fits

    wave : Stimulus
    wave = wave_stimulus circuit scope d.sections d.items

    again : AreSameRuns circuit rounds stimulus wave
    again = same_runs circuit order.drivers rounds stimulus wave applied made.ends none (record { each = made.tells_each; needed = made.needed })

    h : Header
    h = header_of circuit scope d.sections

    all_are : map unplaced_declaration (all_declared d.sections) ≡ numbered declared_one 0 (tops circuit ++ rest)
    all_are = all_plain d.sections ∙ (ap all_declared head.are ∙ (visits_declared circuit 0 (visits circuit) ∙ ap (numbered declared_one 0) are))

    faultless : IsFaultless circuit scope d.sections d.items
    faultless = record {
      variables = own_fine circuit (own scope d.sections) order.inputs (are_own circuit d.sections head);
      found = scope_there circuit d.sections head;
      clean = clean_unplaced h 0 d.items (subst (CleanAll h 0) (sym d.items_are)
          (clean_items h (variables_of circuit) nets end applied.fits (subst (EachKnown h 0) (sym are) (each_known h rest (record { all_are = all_are; own_are = are_own circuit d.sections head }))) unit digits));
    }
