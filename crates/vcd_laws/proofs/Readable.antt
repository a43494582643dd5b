-- The lines of a run's dump are read: each has words, and these spell its section or item.
use Rattle.std.specs.Prelude.{◌≡◌, ℕ, ℤ, pos, ◌-ℤ◌, nat_abs, zero, suc, ◌+◌, ◌^◌, ◌<◌, ◌≤◌, ◌==◌, ◌&&◌, not, Bool, true, false, if◌then◌else◌, IfSome, List, [], ◌∷◌, ◌++◌, length, map, flat_map, codes, decimal, Option, Some, None, refl}
use Rattle.std.specs.List.{AllByRecursion, list_all}
use Rattle.std.proofs.Common.{sym, ◌∙◌, ap, subst, arith}
use Rattle.std.proofs.lemmas.Bool.{agree_below_at, and_from, and_parts, eqb-true, lt-ltb}
use Rattle.std.proofs.lemmas.List.{append_assoc, length-append, length-map}
use Rattle.std.proofs.lemmas.List.Concat.{flat_map-append}
use Rattle.sg_logic.specs.declared.values.Value.{Value}
use Rattle.sg_logic.specs.declared.values.Value.TheVariants.{Zero, One, X, Z}
use Rattle.sg_model.specs.Machine.{Snapshot}
use Rattle.sg_model.specs.Time.{any_differs}
use Rattle.sg_model.specs.Values.{value_at}
use Rattle.sg_circuit.specs.declared.scopes.Range.{Range}
use Rattle.sg_circuit.specs.Circuit.{Circuit, Scope, Variable, scope_at}
use Rattle.wave_out.specs.declared.scopes.Visit.{Visit}
use Rattle.wave_out.specs.declared.scopes.Visit.TheVariants.{Enters, Leaves}
use Rattle.wave_out.specs.Scopes.{children_from, children_of, is_parent, variables_at, variables_of, visits_in}
use Rattle.wave_out.specs.Texts.{written_name}
use Rattle.wave_out.specs.Vcd.{any_variable_differs, code, value_letter, values_at}
use Rattle.sg_time.specs.Spelling.{number_from}
use Rattle.vcd_form.specs.Kinds.{is_any, kind_of_text}
use Rattle.vcd_form.specs.Written.{Item, Section, declares, timescale, value}
use Rattle.vcd_form.specs.Words.{is_blank}
use Rattle.vcd_laws.proofs.Codes.{code_is_text, code_is_word, code_not_end}
use Rattle.vcd_laws.proofs.Decimals.{IsShort, decimal_number, decimal_word, range_is, range_is_word, time_is_word, time_text, width_word}
use Rattle.vcd_laws.proofs.Entries.{Entry, Lines, declaration_entry, declaration_words, declared_as, dump_entry, end_entry, end_lines, first_entries, header_entries, later_entries, leaves_entry, lines_in, lines_of, lines_with, range_said, range_word, range_words, scope_entry, text_of, time_entry, timescale_entry, timescale_words, type_word, value_entry, value_words, version_entry, visit_entries, words_of}
use Rattle.vcd_laws.proofs.Header.{count_of}
use Rattle.vcd_laws.proofs.Items.{all_append, numbered}
use Rattle.vcd_laws.proofs.Names.{written_not_end, written_word}
use Rattle.vcd_laws.proofs.ReadLines.{IsRangeWord, ReadsItem, ReadsSection, range_tail, reads_idle, reads_scalar, reads_scope, reads_time, reads_timescale, reads_upscope, reads_variable, reads_vector, reads_version}
use Rattle.vcd_laws.proofs.Rows.{Spelled, are_words, is_long, is_word, row, spelled_append, spelled_none, spelled_row}
use Rattle.vcd_laws.proofs.WordKinds.{any_word, code_word}

-- ---- what is asked of a circuit

pub record IsWritten (v : Variable) : Type 0 where
  pub name : is_word v.name ≡ true
  pub some : 0 < length v.bits
  pub few : length v.bits < 10 ^ 9
  pub range : IfSome v.range (λ r. IsShort r.left × IsShort r.right)

pub record HasNames (circuit : Circuit) : Type 0 where
  pub tick : ℕ
  pub tick_small : tick < 18
  pub tick_is : circuit.tick ≡ pos 2 -ℤ pos tick
  pub scopes : (s : ℕ) → s < length circuit.scopes → (is_word (scope_at circuit s).name ≡ true) × AllByRecursion IsWritten (scope_at circuit s).variables

-- no more variables than so many, or else one has the code `$end`
abbrev pub most_variables : ℕ
most_variables = 57175409

-- ---- the header's lines

pub record LineRead (e : Entry Section) : Type 0 where
  pub reads : ReadsSection e.words e.says
  pub words : are_words e.words ≡ true

-- the words of a tick that is so many powers of ten below 100 s
abbrev tick_table : ℕ → Bool
tick_table n = are_words (timescale_words n) && (nat_abs (pos 2 -ℤ (pos 2 -ℤ pos n)) == n)

tick_fits : (n : ℕ) → n < 18 → tick_table n ≡ true
tick_fits n l = agree_below_at tick_table (λ m. true) 18 n refl l

timescale_read : (circuit : Circuit) → HasNames circuit → LineRead (timescale_entry circuit)
timescale_read circuit h =
    let p = and_parts (are_words (timescale_words h.tick)) _ (tick_fits h.tick h.tick_small) in
    let n : nat_abs (pos 2 -ℤ circuit.tick) ≡ h.tick = ap (λ (z : ℤ). nat_abs (pos 2 -ℤ z)) h.tick_is ∙ eqb-true (nat_abs (pos 2 -ℤ (pos 2 -ℤ pos h.tick))) h.tick p.1 in
    record {
      reads = subst (λ m. ReadsSection (timescale_words m) (timescale circuit.tick)) (sym n) (subst (λ (z : ℤ). ReadsSection (timescale_words h.tick) (timescale z)) (sym h.tick_is) (reads_timescale h.tick h.tick_small));
      words = ap (λ m. are_words (timescale_words m)) n ∙ p.0;
    }

scope_read : (name : List ℕ) → is_word name ≡ true → LineRead (scope_entry name)
scope_read name h = record {
  reads = reads_scope (written_name name) (written_not_end name);
  words = and_from (is_word (codes "$scope")) (are_words (codes "module" ∷ written_name name ∷ codes "$end" ∷ [])) refl (and_from (is_word (codes "module")) (are_words (written_name name ∷ codes "$end" ∷ [])) refl (and_from (is_word (written_name name)) (are_words (codes "$end" ∷ [])) (written_word name h) refl));
}

leaves_read : LineRead leaves_entry
leaves_read = record { reads = reads_upscope; words = refl }

version_read : LineRead version_entry
version_read = record { reads = reads_version; words = refl }

type_any : (b : Bool) → (is_any (kind_of_text (type_word b)) ≡ true) × (is_word (type_word b) ≡ true)
type_any true = (refl, refl)
type_any false = (refl, refl)

range_reads : (o : Option Range) → IfSome o (λ r. IsShort r.left × IsShort r.right) → IsRangeWord (range_said o) × (range_tail (range_said o) ≡ range_words o) × (are_words (range_words o) ≡ true)
range_reads None h = (tt, refl, refl)
range_reads (Some r) h = (range_is r h.0 h.1, refl, and_from (is_word (range_word r)) (are_words (codes "$end" ∷ [])) (range_is_word r h.0 h.1) refl)

declaration_read : (k : ℕ) (v : Variable) → k < most_variables → IsWritten v → LineRead (record { words = declaration_words k v; says = declares (declared_as k v) })
declaration_read k v l h =
    let small : length v.bits < 2 ^ 64 = (let q : length v.bits < 10 ^ 9 = h.few in omega arith) in
    let r = range_reads v.range h.range in
    let front : List (List ℕ) → List (List ℕ) = λ t. codes "$var" ∷ type_word v.is_reg ∷ decimal (length v.bits) ∷ code k ∷ written_name v.name ∷ t in
    record {
      reads = subst (λ n. ReadsSection (declaration_words k v) (declares (record { byte = 0; width = n; code = code k; name = written_name v.name; range = range_said v.range }))) (decimal_number (length v.bits) small)
          (subst (λ t. ReadsSection (codes "$var" ∷ type_word v.is_reg ∷ decimal (length v.bits) ∷ code k ∷ written_name v.name ∷ t) (declares (record { byte = 0; width = number_from 0 (decimal (length v.bits)); code = code k; name = written_name v.name; range = range_said v.range }))) r.1
          (reads_variable (type_word v.is_reg) (decimal (length v.bits)) (code k) (written_name v.name) (range_said v.range) (type_any v.is_reg).0 (width_word (length v.bits) h.some h.few) (code_word (code k) (code_is_text k) (code_not_end k l)) (any_word (written_name v.name) (written_not_end v.name)) r.0));
      words = all_words (type_word v.is_reg) (decimal (length v.bits)) (code k) (written_name v.name) (range_words v.range) (type_any v.is_reg).1 (decimal_word (length v.bits) small) (code_is_word k) (written_word v.name h.name) r.2;
    }
  where
    all_words : (t d c n : List ℕ) (r : List (List ℕ)) → is_word t ≡ true → is_word d ≡ true → is_word c ≡ true → is_word n ≡ true → are_words r ≡ true → are_words (codes "$var" ∷ t ∷ d ∷ c ∷ n ∷ r) ≡ true
    all_words t d c n r a b e f g =
        and_from (is_word (codes "$var")) (are_words (t ∷ d ∷ c ∷ n ∷ r)) refl (and_from (is_word t) (are_words (d ∷ c ∷ n ∷ r)) a (and_from (is_word d) (are_words (c ∷ n ∷ r)) b (and_from (is_word c) (are_words (n ∷ r)) e (and_from (is_word n) (are_words r) f g))))

decls_read : (k : ℕ) (vs : List Variable) → k + length vs ≤ most_variables → AllByRecursion IsWritten vs → AllByRecursion LineRead (numbered declaration_entry k vs)
decls_read k [] l h = tt
decls_read k (v ∷ vs) l h = (declaration_read k v (omega arith) h.0, decls_read (suc k) vs (omega arith) h.1)

-- ---- visits

entries-append : (circuit : Circuit) (k : ℕ) (xs ys : List Visit) → visit_entries circuit k (xs ++ ys) ≡ visit_entries circuit k xs ++ visit_entries circuit (k + count_of circuit xs) ys
entries-append circuit k [] ys = ap (λ n. visit_entries circuit n ys) (let q : k ≡ k + 0 = omega arith in q)
entries-append circuit k (Enters s ∷ xs) ys =
    let vars = (scope_at circuit s).variables in
    let here = numbered declaration_entry k vars in
    let many : k + length vars + count_of circuit xs ≡ k + count_of circuit (Enters s ∷ xs) = more k vars (flat_map (variables_at circuit) xs) in
    ap (λ t. scope_entry (scope_at circuit s).name ∷ (here ++ t)) (entries-append circuit (k + length vars) xs ys)
    ∙ (ap (λ t. scope_entry (scope_at circuit s).name ∷ t) (sym (append_assoc here (visit_entries circuit (k + length vars) xs) (visit_entries circuit (k + length vars + count_of circuit xs) ys)))
    ∙ ap (λ n. scope_entry (scope_at circuit s).name ∷ (here ++ visit_entries circuit (k + length vars) xs ++ visit_entries circuit n ys)) many)
  where
    more : (n : ℕ) (xs bs : List Variable) → n + length xs + length bs ≡ n + length (xs ++ bs)
    more n xs bs = (let q : length (xs ++ bs) ≡ length xs + length bs = length-append xs bs in omega arith)
entries-append circuit k (Leaves ∷ xs) ys = ap (λ t. leaves_entry ∷ t) (entries-append circuit k xs ys)

count-append : (circuit : Circuit) (xs ys : List Visit) → count_of circuit (xs ++ ys) ≡ count_of circuit xs + count_of circuit ys
count-append circuit xs ys = ap length (flat_map-append (variables_at circuit) xs ys) ∙ length-append (flat_map (variables_at circuit) xs) (flat_map (variables_at circuit) ys)

-- the scopes in a scope are scopes
pub children_within : (parent k n : ℕ) (ss : List Scope) → k + length ss ≤ n → AllByRecursion (λ c. c < n) (children_from parent k ss)
children_within parent k n [] l = tt
children_within parent k n (s ∷ ss) l = at (is_parent parent s.parent) (children_within parent (suc k) n ss (omega arith))
  where
    here : k < n
    here = omega arith

    at : (b : Bool) → AllByRecursion (λ c. c < n) (children_from parent (suc k) ss) → AllByRecursion (λ c. c < n) (if b then (k ∷ children_from parent (suc k) ss) else children_from parent (suc k) ss)
    at true rest = (here, rest)
    at false rest = rest

list_read : (circuit : Circuit) (turns : ℕ) (cs : List ℕ) (k : ℕ) → AllByRecursion (λ c. c < length circuit.scopes) cs → k + count_of circuit (flat_map (visits_in turns circuit) cs) ≤ most_variables
    → ((s n : ℕ) → s < length circuit.scopes → n + count_of circuit (visits_in turns circuit s) ≤ most_variables → AllByRecursion LineRead (visit_entries circuit n (visits_in turns circuit s)))
    → AllByRecursion LineRead (visit_entries circuit k (flat_map (visits_in turns circuit) cs))
list_read circuit turns [] k within l each = tt
list_read circuit turns (c ∷ cs) k within l each =
    let first = visits_in turns circuit c in
    let rest = flat_map (visits_in turns circuit) cs in
    let many : count_of circuit (first ++ rest) ≡ count_of circuit first + count_of circuit rest = count-append circuit first rest in
    subst (AllByRecursion LineRead) (sym (entries-append circuit k first rest))
    (all_append LineRead (visit_entries circuit k first) (visit_entries circuit (k + count_of circuit first) rest) (each c k within.0 (omega arith)) (list_read circuit turns cs (k + count_of circuit first) within.1 (omega arith) each))

visits_read : (circuit : Circuit) → HasNames circuit → (turns s k : ℕ) → s < length circuit.scopes → k + count_of circuit (visits_in turns circuit s) ≤ most_variables → AllByRecursion LineRead (visit_entries circuit k (visits_in turns circuit s))
visits_read circuit h zero s k l m = tt
visits_read circuit h (suc turns) s k l m =
    let vars = (scope_at circuit s).variables in
    let inner = flat_map (visits_in turns circuit) (children_of circuit s) in
    let many : count_of circuit (Enters s ∷ (inner ++ Leaves ∷ [])) ≡ length vars + count_of circuit (inner ++ Leaves ∷ []) = length-append vars (flat_map (variables_at circuit) (inner ++ Leaves ∷ [])) in
    let more : count_of circuit (inner ++ Leaves ∷ []) ≡ count_of circuit inner + 0 = count-append circuit inner (Leaves ∷ []) in (
      scope_read (scope_at circuit s).name (h.scopes s l).0,
      all_append LineRead (numbered declaration_entry k vars) (visit_entries circuit (k + length vars) (inner ++ Leaves ∷ [])) (decls_read k vars (omega arith) (h.scopes s l).1)
          (subst (AllByRecursion LineRead) (sym (entries-append circuit (k + length vars) inner (Leaves ∷ [])))
          (all_append LineRead (visit_entries circuit (k + length vars) inner) (leaves_entry ∷ [])
          (list_read circuit turns (children_of circuit s) (k + length vars) (children_within s 0 (length circuit.scopes) circuit.scopes (omega arith)) (omega arith) (λ c n p q. visits_read circuit h turns c n p q)) (leaves_read, tt))),
    )

pub header_read : (circuit : Circuit) → HasNames circuit → 0 < length circuit.scopes → length (variables_of circuit) ≤ most_variables → AllByRecursion LineRead (header_entries circuit)
header_read circuit h some few = (version_read, (timescale_read circuit h, visits_read circuit h (length circuit.scopes) 0 0 some (omega arith)))

-- ---- the body's lines

pub record ItemRead (e : Entry Item) : Type 0 where
  pub reads : ReadsItem e.words e.says
  pub words : are_words e.words ≡ true

time_read : (t : ℕ) → t < 2 ^ 64 → ItemRead (time_entry t)
time_read t l = record { reads = reads_time (decimal t) (time_text t l); words = and_from (is_word (35 ∷ decimal t)) true (time_is_word t l) refl }

dump_read : ItemRead dump_entry
dump_read = record { reads = reads_idle (codes "$dumpvars") refl; words = refl }

end_read : ItemRead end_entry
end_read = record { reads = reads_idle (codes "$end") refl; words = refl }

letter_no_blank : (v : Value) → not (is_blank (value_letter v)) ≡ true
letter_no_blank Zero = refl
letter_no_blank One = refl
letter_no_blank X = refl
letter_no_blank Z = refl

letters_no_blank : (vs : List Value) → list_all (λ b. not (is_blank b)) (map value_letter vs) ≡ true
letters_no_blank [] = refl
letters_no_blank (v ∷ vs) = and_from (not (is_blank (value_letter v))) (list_all (λ b. not (is_blank b)) (map value_letter vs)) (letter_no_blank v) (letters_no_blank vs)

long_word : (b : ℕ) (bs : List ℕ) → not (is_blank b) ≡ true → list_all (λ x. not (is_blank x)) bs ≡ true → is_word (b ∷ bs) ≡ true
long_word b bs h k = and_from (is_long (b ∷ bs)) (list_all (λ x. not (is_blank x)) (b ∷ bs)) (lt-ltb 0 (length (b ∷ bs)) (omega arith)) (and_from (not (is_blank b)) (list_all (λ x. not (is_blank x)) bs) h k)

value_read : (k : ℕ) (vs : List Value) → k < most_variables → 0 < length vs → ItemRead (record { words = value_words (length vs == 1) (map value_letter vs) (code k); says = value 0 0 (map value_letter vs) (code k) })
value_read k [] l some = absurd (omega arith)
value_read k (v ∷ vs) l some = at (length (v ∷ vs) == 1) refl vs refl
  where
    c : is_word (code k) ≡ true
    c = code_is_word k

    scalar : ItemRead (record { words = (value_letter v ∷ code k) ∷ []; says = value 0 0 (value_letter v ∷ []) (code k) })
    scalar = record {
      reads = reads_scalar v (code k) (code_is_text k);
      words = and_from (is_word (value_letter v ∷ code k)) true (long_word (value_letter v) (code k) (letter_no_blank v) (and_parts (is_long (code k)) (list_all (λ x. not (is_blank x)) (code k)) c).1) refl;
    }

    vector : (ws : List Value) → ItemRead (record { words = (98 ∷ map value_letter (v ∷ ws)) ∷ code k ∷ []; says = value 0 0 (map value_letter (v ∷ ws)) (code k) })
    vector ws = record {
      reads = reads_vector v ws (code k) (code_word (code k) (code_is_text k) (code_not_end k l));
      words = and_from (is_word (98 ∷ map value_letter (v ∷ ws))) (are_words (code k ∷ [])) (long_word 98 (map value_letter (v ∷ ws)) refl (letters_no_blank (v ∷ ws))) (and_from (is_word (code k)) true c refl);
    }

    at : (b : Bool) → (length (v ∷ vs) == 1) ≡ b → (ws : List Value) → ws ≡ vs → ItemRead (record { words = value_words b (map value_letter (v ∷ ws)) (code k); says = value 0 0 (map value_letter (v ∷ ws)) (code k) })
    at true e [] same = scalar
    at true e (w ∷ ws) same = absurd (let q : suc (length vs) ≡ 1 = eqb-true (suc (length vs)) 1 e in let m : suc (length ws) ≡ length vs = ap length same in omega arith)
    at false e ws same = vector ws

-- variables that are numbered from one on
abbrev pub HaveBits : ℕ → List Variable → Type 0
HaveBits k vs = (k + length vs ≤ most_variables) × AllByRecursion (λ (v : Variable). 0 < length v.bits) vs

some_read : (test : Variable → Bool) (values : List Value) (k : ℕ) (vs : List Variable) → HaveBits k vs → AllByRecursion ItemRead (numbered (λ n v. if test v then value_entry values n v else []) k vs)
some_read test values k [] h = tt
some_read test values k (v ∷ vs) h =
    all_append ItemRead (if test v then value_entry values k v else []) (numbered (λ n w. if test w then value_entry values n w else []) (suc k) vs) (at (test v))
    (some_read test values (suc k) vs ((let q : k + suc (length vs) ≤ most_variables = h.0 in omega arith), h.1.1))
  where
    at : (b : Bool) → AllByRecursion ItemRead (if b then value_entry values k v else [])
    at true = (
      value_read k (values_at v.bits values) (let q : k + suc (length vs) ≤ most_variables = h.0 in omega arith) (subst (λ n. 0 < n) (sym (length-map v.bits (value_at values))) h.1.0),
      tt,
    )
    at false = tt

first_read : (vs : List Variable) (s : Snapshot) → HaveBits 0 vs → s.time < 2 ^ 64 → AllByRecursion ItemRead (first_entries vs s)
first_read vs s h l = (time_read s.time l, (dump_read, all_append ItemRead (numbered (value_entry s.values) 0 vs) (end_entry ∷ []) (some_read (λ v. true) s.values 0 vs h) (end_read, tt)))

later_read : (vs : List Variable) (old : List Value) (s : Snapshot) → HaveBits 0 vs → s.time < 2 ^ 64 → AllByRecursion ItemRead (later_entries vs old s)
later_read vs old s h l = (time_read s.time l, some_read (λ v. any_differs old s.values v.bits) s.values 0 vs h)

lines_read : (vs : List Variable) (ss : List Snapshot) → HaveBits 0 vs → AllByRecursion (λ (s : Snapshot). s.time < 2 ^ 64) ss → AllByRecursion ItemRead (lines_in (lines_of vs ss))
lines_read vs [] h l = tt
lines_read vs (s ∷ ss) h l = at (lines_of vs ss) (lines_read vs ss h l.1)
  where
    either_way : (d : Lines) (b : Bool) → AllByRecursion ItemRead d.lines → AllByRecursion ItemRead (lines_in (if b then Some (record { lines = d.lines ++ later_entries vs d.values s; time = s.time; values = s.values }) else Some d))
    either_way d true k = all_append ItemRead d.lines (later_entries vs d.values s) k (later_read vs d.values s h l.0)
    either_way d false k = k

    at : (o : Option Lines) → AllByRecursion ItemRead (lines_in o) → AllByRecursion ItemRead (lines_in (lines_with vs s o))
    at None k = first_read vs s h l.0
    at (Some d) k = either_way d (any_variable_differs vs d.values s.values) k

pub body_read : (vs : List Variable) (end : ℕ) (ss : List Snapshot) → HaveBits 0 vs → end < 2 ^ 64 → AllByRecursion (λ (s : Snapshot). s.time < 2 ^ 64) ss → AllByRecursion ItemRead (lines_in (lines_of vs ss) ++ end_lines end (lines_of vs ss))
body_read vs end ss h e l = all_append ItemRead (lines_in (lines_of vs ss)) (end_lines end (lines_of vs ss)) (lines_read vs ss h l) (at (lines_of vs ss))
  where
    last : (b : Bool) → AllByRecursion ItemRead (if b then [] else time_entry end ∷ [])
    last true = tt
    last false = (time_read end e, tt)

    at : (o : Option Lines) → AllByRecursion ItemRead (end_lines end o)
    at None = (time_read end e, tt)
    at (Some d) = last (d.time == end)

-- ---- the words of all lines

pub words_spelled : {A : Type 0} (es : List (Entry A)) → AllByRecursion (λ (e : Entry A). are_words e.words ≡ true) es → Spelled (text_of es) (words_of es)
words_spelled [] h = spelled_none
words_spelled (e ∷ es) h = spelled_append (row e.words) (text_of es) e.words (words_of es) (spelled_row e.words h.0) (words_spelled es h.1)
