-- The lines of a dump's header and body: their words, and what they say.
use Rattle.std.specs.Prelude.{◌≡◌, ℕ, pos, ◌-ℤ◌, nat_abs, suc, ◌+◌, ◌/◌, ◌%◌, ◌==◌, Bool, true, false, if◌then◌else◌, List, [], ◌∷◌, ◌++◌, length, map, flat_map, codes, decimal, Option, Some, None, refl}
use Rattle.std.specs.Fmt.{signed_decimal}
use Rattle.std.proofs.Common.{sym, ◌∙◌, ap, subst}
use Rattle.std.proofs.lemmas.List.{append_assoc, append-nil, map-append}
use Rattle.sg_logic.specs.declared.values.Value.{Value}
use Rattle.sg_model.specs.Machine.{Snapshot}
use Rattle.sg_model.specs.Time.{any_differs}
use Rattle.sg_circuit.specs.declared.scopes.Range.{Range}
use Rattle.sg_circuit.specs.Circuit.{Circuit, Variable, scope_at}
use Rattle.wave_out.specs.declared.scopes.Visit.{Visit}
use Rattle.wave_out.specs.declared.scopes.Visit.TheVariants.{Enters, Leaves}
use Rattle.wave_out.specs.Scopes.{visits}
use Rattle.wave_out.specs.Texts.{by_number, line, written_name}
use Rattle.sg_model.specs.Run.{Finished, lasts}
use Rattle.wave_out.specs.Vcd.{any_variable_differs, change_line, code, declaration, dump, dump_text, dump_with, end_line, ending, first_block, header, later_block, number_of, range_text, scope_line, text_below, time_line, type_text, unit_of, value_letter, value_line, values_at, vcd_body, visit_lines, Dump}
use Rattle.vcd_form.specs.Written.{Declaration, Item, Section, declares, enters, instant, leaves, nothing, remark, timescale, value}
use Rattle.vcd_laws.proofs.Items.{change_item, ending_items, first_items, items_of, later_items, numbered, shown, shown_with, value_item, Shown}
use Rattle.vcd_laws.proofs.Rows.{row}

-- a line: its words, and what it says
pub record Entry (A : Type 0) : Type 0 where
  pub words : List (List ℕ)
  pub says : A

abbrev pub text_of : {A : Type 0} → List (Entry A) → List ℕ
text_of es = flat_map (λ e. row e.words) es

abbrev pub words_of : {A : Type 0} → List (Entry A) → List (List ℕ)
words_of es = flat_map (λ e. e.words) es

abbrev pub said : {A : Type 0} → List (Entry A) → List A
said es = map (λ e. e.says) es

-- ---- the header

abbrev pub version_entry : Entry Section
version_entry = record { words = codes "$version" ∷ codes "signoff" ∷ codes "1" ∷ codes "$end" ∷ []; says = remark }

-- a tick that is so many powers of ten below 100 s
abbrev pub below_text : Circuit → ℕ
below_text circuit = nat_abs (pos 2 -ℤ circuit.tick)

abbrev pub timescale_words : ℕ → List (List ℕ)
timescale_words n = codes "$timescale" ∷ number_of (n % 3) ∷ unit_of (n / 3) ∷ codes "$end" ∷ []

abbrev pub timescale_entry : Circuit → Entry Section
timescale_entry circuit = record { words = timescale_words (below_text circuit); says = timescale circuit.tick }

abbrev pub scope_words : List ℕ → List (List ℕ)
scope_words name = codes "$scope" ∷ codes "module" ∷ written_name name ∷ codes "$end" ∷ []

abbrev pub scope_entry : List ℕ → Entry Section
scope_entry name = record { words = scope_words name; says = enters (written_name name) }

abbrev pub leaves_entry : Entry Section
leaves_entry = record { words = codes "$upscope" ∷ codes "$end" ∷ []; says = leaves }

abbrev pub range_word : Range → List ℕ
range_word r = codes "[" ++ signed_decimal r.left ++ codes ":" ++ signed_decimal r.right ++ codes "]"

abbrev pub range_words : Option Range → List (List ℕ)
range_words None = codes "$end" ∷ []
range_words (Some r) = range_word r ∷ codes "$end" ∷ []

abbrev pub range_said : Option Range → Option (List ℕ)
range_said None = None
range_said (Some r) = Some (range_word r)

abbrev pub type_word : Bool → List ℕ
type_word is_reg = if is_reg then codes "reg" else codes "wire"

abbrev pub declared_as : ℕ → Variable → Declaration
declared_as k v = record { byte = 0; width = length v.bits; code = code k; name = written_name v.name; range = range_said v.range }

abbrev pub declaration_words : ℕ → Variable → List (List ℕ)
declaration_words k v = codes "$var" ∷ type_word v.is_reg ∷ decimal (length v.bits) ∷ code k ∷ written_name v.name ∷ range_words v.range

abbrev pub declaration_entry : ℕ → Variable → List (Entry Section)
declaration_entry k v = record { words = declaration_words k v; says = declares (declared_as k v) } ∷ []

abbrev pub visit_entries : Circuit → ℕ → List Visit → List (Entry Section)
visit_entries circuit k [] = []
visit_entries circuit k (Enters s ∷ rest) =
    scope_entry (scope_at circuit s).name ∷ (numbered declaration_entry k (scope_at circuit s).variables ++ visit_entries circuit (k + length (scope_at circuit s).variables) rest)
visit_entries circuit k (Leaves ∷ rest) = leaves_entry ∷ visit_entries circuit k rest

abbrev pub header_entries : Circuit → List (Entry Section)
header_entries circuit = version_entry ∷ timescale_entry circuit ∷ visit_entries circuit 0 (visits circuit)

abbrev pub definitions_words : List (List ℕ)
definitions_words = codes "$enddefinitions" ∷ codes "$end" ∷ []

-- ---- the body

abbrev pub time_entry : ℕ → Entry Item
time_entry t = record { words = (35 ∷ decimal t) ∷ []; says = instant 0 (decimal t) }

abbrev pub dump_entry : Entry Item
dump_entry = record { words = codes "$dumpvars" ∷ []; says = nothing }

abbrev pub end_entry : Entry Item
end_entry = record { words = codes "$end" ∷ []; says = nothing }

abbrev pub value_words : Bool → List ℕ → List ℕ → List (List ℕ)
value_words true letters code = (letters ++ code) ∷ []
value_words false letters code = (98 ∷ letters) ∷ code ∷ []

abbrev pub value_entry : List Value → ℕ → Variable → List (Entry Item)
value_entry values k v = record { words = value_words (length (values_at v.bits values) == 1) (map value_letter (values_at v.bits values)) (code k); says = value 0 0 (map value_letter (values_at v.bits values)) (code k) } ∷ []

abbrev pub change_entry : List Value → List Value → ℕ → Variable → List (Entry Item)
change_entry old new k v = if any_differs old new v.bits then value_entry new k v else []

abbrev pub first_entries : List Variable → Snapshot → List (Entry Item)
first_entries vs s = time_entry s.time ∷ dump_entry ∷ (numbered (value_entry s.values) 0 vs ++ end_entry ∷ [])

abbrev pub later_entries : List Variable → List Value → Snapshot → List (Entry Item)
later_entries vs old s = time_entry s.time ∷ numbered (change_entry old s.values) 0 vs

-- ---- their texts are those of the dump

pub text-append : {A : Type 0} (xs ys : List (Entry A)) → text_of (xs ++ ys) ≡ text_of xs ++ text_of ys
text-append [] ys = refl
text-append (x ∷ xs) ys = ap (λ t. row x.words ++ t) (text-append xs ys) ∙ sym (append_assoc (row x.words) (text_of xs) (text_of ys))

shape : (t d b c n r e l : List ℕ) → (t ++ d ++ b ++ c ++ b ++ n ++ r ++ e) ++ l ≡ t ++ (d ++ (b ++ (c ++ (b ++ (n ++ (r ++ (e ++ l)))))))
shape t d b c n r e l = simp append_assoc

scope_text : (name : List ℕ) → scope_line name ≡ row (scope_words name)
scope_text name = four (codes "$scope module ") (written_name name) (codes " $end") (10 ∷ [])
  where
    four : (a b c d : List ℕ) → (a ++ b ++ c) ++ d ≡ a ++ (b ++ (c ++ d))
    four a b c d = simp append_assoc

pub declaration_text : (k : ℕ) (v : Variable) → declaration k v ≡ row (declaration_words k v)
declaration_text k v = shape (type_text v.is_reg) (decimal (length v.bits)) (codes " ") (code k) (written_name v.name) (range_text v.range) (codes " $end") (10 ∷ []) ∙ at v.is_reg v.range
  where
    at : (b : Bool) (o : Option Range) → type_text b ++ (decimal (length v.bits) ++ (codes " " ++ (code k ++ (codes " " ++ (written_name v.name ++ (range_text o ++ (codes " $end" ++ 10 ∷ []))))))) ≡ row (codes "$var" ∷ type_word b ∷ decimal (length v.bits) ∷ code k ∷ written_name v.name ∷ range_words o)
    at true None = refl
    at true (Some r) = refl
    at false None = refl
    at false (Some r) = refl

-- texts of numbered things
numbered_text : {A B : Type 0} (lines : ℕ → A → List ℕ) (entries : ℕ → A → List (Entry B)) (k : ℕ) (xs : List A) → ((n : ℕ) (x : A) → lines n x ≡ text_of (entries n x)) → by_number lines k xs ≡ text_of (numbered entries k xs)
numbered_text lines entries k [] h = refl
numbered_text lines entries k (x ∷ xs) h =
    ap (λ t. t ++ by_number lines (suc k) xs) (h k x)
    ∙ (ap (λ t. text_of (entries k x) ++ t) (numbered_text lines entries (suc k) xs h) ∙ sym (text-append (entries k x) (numbered entries (suc k) xs)))

visit_text : (circuit : Circuit) (k : ℕ) (vs : List Visit) → visit_lines circuit k vs ≡ text_of (visit_entries circuit k vs)
visit_text circuit k [] = refl
visit_text circuit k (Enters s ∷ rest) =
    let vars = (scope_at circuit s).variables in
    let declared : by_number declaration k vars ≡ text_of (numbered declaration_entry k vars) = numbered_text declaration declaration_entry k vars (λ n x. declaration_text n x ∙ sym (append-nil (row (declaration_words n x)))) in
    ap (λ t. t ++ by_number declaration k vars ++ visit_lines circuit (k + length vars) rest) (scope_text (scope_at circuit s).name)
    ∙ (ap (λ t. row (scope_words (scope_at circuit s).name) ++ t ++ visit_lines circuit (k + length vars) rest) declared
    ∙ (ap (λ t. row (scope_words (scope_at circuit s).name) ++ text_of (numbered declaration_entry k vars) ++ t) (visit_text circuit (k + length vars) rest)
    ∙ (append_assoc (row (scope_words (scope_at circuit s).name)) (text_of (numbered declaration_entry k vars)) (text_of (visit_entries circuit (k + length vars) rest))
    ∙ ap (λ t. row (scope_words (scope_at circuit s).name) ++ t) (sym (text-append (numbered declaration_entry k vars) (visit_entries circuit (k + length vars) rest))))))
visit_text circuit k (Leaves ∷ rest) = ap (λ t. line (codes "$upscope $end") ++ t) (visit_text circuit k rest)

timescale_text : (n : ℕ) → line (codes "$timescale " ++ text_below n ++ codes " $end") ≡ row (timescale_words n)
timescale_text n = six (codes "$timescale ") (number_of (n % 3)) (codes " ") (unit_of (n / 3)) (codes " $end") (10 ∷ [])
  where
    six : (a b c d e f : List ℕ) → (a ++ (b ++ c ++ d) ++ e) ++ f ≡ a ++ (b ++ (c ++ (d ++ (e ++ f))))
    six a b c d e f = simp append_assoc

pub header_text : (circuit : Circuit) → header circuit ≡ text_of (header_entries circuit) ++ row definitions_words
unfolding header
header_text circuit =
    ap (λ t. line (codes "$version signoff 1 $end") ++ t ++ visit_lines circuit 0 (visits circuit) ++ line (codes "$enddefinitions $end")) (timescale_text (below_text circuit))
    ∙ (ap (λ t. line (codes "$version signoff 1 $end") ++ row (timescale_words (below_text circuit)) ++ t ++ line (codes "$enddefinitions $end")) (visit_text circuit 0 (visits circuit))
    ∙ four (row version_entry.words) (row (timescale_words (below_text circuit))) (text_of (visit_entries circuit 0 (visits circuit))) (row definitions_words))
  where
    four : (a b c d : List ℕ) → a ++ b ++ c ++ d ≡ (a ++ (b ++ c)) ++ d
    four a b c d = simp append_assoc

-- ---- blocks

value_text_is : (one : Bool) (l c : List ℕ) → line ((if one then l else (codes "b" ++ l ++ codes " ")) ++ c) ≡ row (value_words one l c)
value_text_is true l c = refl
value_text_is false l c = ap (λ t. 98 ∷ t) (three l (32 ∷ []) c (10 ∷ []))
  where
    three : (a b d e : List ℕ) → (a ++ b ++ d) ++ e ≡ a ++ (b ++ (d ++ e))
    three a b d e = simp append_assoc

pub value_line_text : (values : List Value) (k : ℕ) (v : Variable) → value_line values k v ≡ text_of (value_entry values k v)
value_line_text values k v = value_text_is (length (values_at v.bits values) == 1) (map value_letter (values_at v.bits values)) (code k) ∙ sym (append-nil (row (value_words (length (values_at v.bits values) == 1) (map value_letter (values_at v.bits values)) (code k))))

change_line_text : (old new : List Value) (k : ℕ) (v : Variable) → change_line old new k v ≡ text_of (change_entry old new k v)
change_line_text old new k v = at (any_differs old new v.bits)
  where
    at : (b : Bool) → (if b then value_line new k v else []) ≡ text_of (if b then value_entry new k v else [])
    at true = value_line_text new k v
    at false = refl

pub first_text : (vs : List Variable) (s : Snapshot) → first_block vs s ≡ text_of (first_entries vs s)
first_text vs s =
    ap (λ t. time_line s.time ++ line (codes "$dumpvars") ++ t ++ line (codes "$end")) (numbered_text (value_line s.values) (value_entry s.values) 0 vs (value_line_text s.values))
    ∙ (four (time_line s.time) (line (codes "$dumpvars")) (text_of (numbered (value_entry s.values) 0 vs)) (line (codes "$end"))
    ∙ ap (λ t. time_line s.time ++ (line (codes "$dumpvars") ++ t)) (sym (text-append (numbered (value_entry s.values) 0 vs) (end_entry ∷ []))))
  where
    four : (a b c d : List ℕ) → a ++ b ++ c ++ d ≡ a ++ (b ++ (c ++ d))
    four a b c d = simp append_assoc

pub later_text : (vs : List Variable) (old : List Value) (s : Snapshot) → later_block vs old s ≡ text_of (later_entries vs old s)
later_text vs old s = ap (λ t. time_line s.time ++ t) (numbered_text (change_line old s.values) (change_entry old s.values) 0 vs (change_line_text old s.values))

-- ---- and what they say are the items

pub said-append : {A : Type 0} (xs ys : List (Entry A)) → said (xs ++ ys) ≡ said xs ++ said ys
said-append xs ys = map-append (λ e. e.says) xs ys

pub numbered_said : {A B : Type 0} (entries : ℕ → A → List (Entry B)) (says : ℕ → A → List B) (k : ℕ) (xs : List A) → ((n : ℕ) (x : A) → said (entries n x) ≡ says n x) → said (numbered entries k xs) ≡ numbered says k xs
numbered_said entries says k [] h = refl
numbered_said entries says k (x ∷ xs) h =
    said-append (entries k x) (numbered entries (suc k) xs) ∙ (ap (λ t. t ++ said (numbered entries (suc k) xs)) (h k x) ∙ ap (λ t. says k x ++ t) (numbered_said entries says (suc k) xs h))

change_said : (old new : List Value) (k : ℕ) (v : Variable) → said (change_entry old new k v) ≡ change_item old new k v
change_said old new k v = at (any_differs old new v.bits)
  where
    at : (b : Bool) → said (if b then value_entry new k v else []) ≡ (if b then value_item new k v else [])
    at true = refl
    at false = refl

pub first_said : (vs : List Variable) (s : Snapshot) → said (first_entries vs s) ≡ first_items vs s
first_said vs s =
    ap (λ t. instant 0 (decimal s.time) ∷ nothing ∷ t) (said-append (numbered (value_entry s.values) 0 vs) (end_entry ∷ []) ∙ ap (λ t. t ++ nothing ∷ []) (numbered_said (value_entry s.values) (value_item s.values) 0 vs (λ n x. refl)))

pub later_said : (vs : List Variable) (old : List Value) (s : Snapshot) → said (later_entries vs old s) ≡ later_items vs old s
later_said vs old s = ap (λ t. instant 0 (decimal s.time) ∷ t) (numbered_said (change_entry old s.values) (change_item old s.values) 0 vs (change_said old s.values))

-- ---- a whole body

-- what was written, as lines
pub record Lines : Type 0 where
  pub lines : List (Entry Item)
  pub time : ℕ
  pub values : List Value

abbrev pub lines_with : List Variable → Snapshot → Option Lines → Option Lines
lines_with vs s None = Some (record { lines = first_entries vs s; time = s.time; values = s.values })
lines_with vs s (Some d) =
    if any_variable_differs vs d.values s.values then Some (record { lines = d.lines ++ later_entries vs d.values s; time = s.time; values = s.values })
    else Some d

abbrev pub lines_of : List Variable → List Snapshot → Option Lines
lines_of vs [] = None
lines_of vs (s ∷ older) = lines_with vs s (lines_of vs older)

abbrev pub end_lines : ℕ → Option Lines → List (Entry Item)
end_lines end None = time_entry end ∷ []
end_lines end (Some d) = if d.time == end then [] else time_entry end ∷ []

abbrev pub lines_in : Option Lines → List (Entry Item)
lines_in None = []
lines_in (Some d) = d.lines

-- the dump is their text, and the items are what they say
pub record AreLines (d : Dump) (l : Lines) (i : Shown) : Type 0 where
  pub text : d.text ≡ text_of l.lines
  pub items : said l.lines ≡ i.items
  pub time : (l.time ≡ d.time) × (i.time ≡ d.time)
  pub values : (l.values ≡ d.values) × (i.values ≡ d.values)

abbrev pub AreAll : Option Dump → Option Lines → Option Shown → Type 0
AreAll None None None = Unit {0}
AreAll (Some d) (Some l) (Some i) = AreLines d l i
AreAll _ _ _ = ⊥

-- one time more
lines_more : (vs : List Variable) (s : Snapshot) (d : Dump) (l : Lines) (i : Shown) → AreLines d l i → AreAll (dump_with vs s (Some d)) (lines_with vs s (Some l)) (shown_with vs s (Some i))
lines_more vs s d l i h =
    subst (λ old. AreAll (dump_with vs s (Some d)) (if any_variable_differs vs old s.values then Some (record { lines = l.lines ++ later_entries vs old s; time = s.time; values = s.values }) else Some l) (shown_with vs s (Some i))) (sym h.values.0)
    (subst (λ old. AreAll (dump_with vs s (Some d)) (if any_variable_differs vs d.values s.values then Some (record { lines = l.lines ++ later_entries vs d.values s; time = s.time; values = s.values }) else Some l)
    (if any_variable_differs vs old s.values then Some (record { items = i.items ++ later_items vs old s; time = s.time; values = s.values }) else Some i)) (sym h.values.1) (at (any_variable_differs vs d.values s.values)))
  where
    at : (b : Bool) → AreAll (if b then Some (record { text = d.text ++ later_block vs d.values s; time = s.time; values = s.values }) else Some d)
        (if b then Some (record { lines = l.lines ++ later_entries vs d.values s; time = s.time; values = s.values }) else Some l)
        (if b then Some (record { items = i.items ++ later_items vs d.values s; time = s.time; values = s.values }) else Some i)
    at true = record {
      text = ap (λ t. t ++ later_block vs d.values s) h.text ∙ (ap (λ t. text_of l.lines ++ t) (later_text vs d.values s) ∙ sym (text-append l.lines (later_entries vs d.values s)));
      items = said-append l.lines (later_entries vs d.values s) ∙ (ap (λ t. t ++ said (later_entries vs d.values s)) h.items ∙ ap (λ t. i.items ++ t) (later_said vs d.values s));
      time = (refl, refl);
      values = (refl, refl);
    }
    at false = h

pub are_all : (vs : List Variable) (ss : List Snapshot) → AreAll (dump vs ss) (lines_of vs ss) (shown vs ss)
unfolding dump
are_all vs [] = tt
are_all vs (s ∷ older) = at (dump vs older) (lines_of vs older) (shown vs older) (are_all vs older)
  where
    at : (o : Option Dump) (l : Option Lines) (i : Option Shown) → AreAll o l i → AreAll (dump_with vs s o) (lines_with vs s l) (shown_with vs s i)
    at None None None h = record { text = first_text vs s; items = first_said vs s; time = (refl, refl); values = (refl, refl) }
    at (Some d) (Some l) (Some i) h = lines_more vs s d l i h
    at None None (Some i) h = absurd h
    at None (Some l) i h = absurd h
    at (Some d) None i h = absurd h
    at (Some d) (Some l) None h = absurd h

-- the body of a whole run
pub body_text : (vs : List Variable) (end : ℕ) (f : Finished) → f.spent ≡ None
    → vcd_body vs end f ≡ text_of (lines_in (lines_of vs (lasts f.run.snapshots)) ++ end_lines end (lines_of vs (lasts f.run.snapshots)))
body_text vs end f none =
    ap (λ o. dump_text (dump vs (lasts f.run.snapshots)) ++ ending end (dump vs (lasts f.run.snapshots)) o) none
    ∙ (at (dump vs (lasts f.run.snapshots)) (lines_of vs (lasts f.run.snapshots)) (shown vs (lasts f.run.snapshots)) (are_all vs (lasts f.run.snapshots))
    ∙ sym (text-append (lines_in (lines_of vs (lasts f.run.snapshots))) (end_lines end (lines_of vs (lasts f.run.snapshots)))))
  where
    ended : (b : Bool) → (if b then [] else time_line end) ≡ text_of (if b then [] else time_entry end ∷ [])
    ended true = refl
    ended false = sym (append-nil (row ((35 ∷ decimal end) ∷ [])))

    at : (o : Option Dump) (l : Option Lines) (i : Option Shown) → AreAll o l i → dump_text o ++ end_line end o ≡ text_of (lines_in l) ++ text_of (end_lines end l)
    at None None None h = ended false
    at (Some d) (Some l) (Some i) h =
        ap (λ t. t ++ (if d.time == end then [] else time_line end)) h.text
        ∙ (ap (λ t. text_of l.lines ++ t) (ended (d.time == end)) ∙ ap (λ t. text_of l.lines ++ text_of (if t == end then [] else time_entry end ∷ [])) (sym h.time.0))
    at None None (Some i) h = absurd h
    at None (Some l) i h = absurd h
    at (Some d) None i h = absurd h
    at (Some d) (Some l) None h = absurd h

pub body_said : (vs : List Variable) (end : ℕ) (ss : List Snapshot) → said (lines_in (lines_of vs ss) ++ end_lines end (lines_of vs ss)) ≡ items_of (shown vs ss) ++ ending_items end (shown vs ss)
body_said vs end ss = said-append (lines_in (lines_of vs ss)) (end_lines end (lines_of vs ss)) ∙ at (dump vs ss) (lines_of vs ss) (shown vs ss) (are_all vs ss)
  where
    ended : (b : Bool) → said (if b then [] else time_entry end ∷ []) ≡ (if b then [] else instant 0 (decimal end) ∷ [])
    ended true = refl
    ended false = refl

    at : (o : Option Dump) (l : Option Lines) (i : Option Shown) → AreAll o l i → said (lines_in l) ++ said (end_lines end l) ≡ items_of i ++ ending_items end i
    at None None None h = refl
    at (Some d) (Some l) (Some i) h =
        ap (λ t. t ++ said (end_lines end (Some l))) h.items
        ∙ (ap (λ t. i.items ++ t) (ended (l.time == end)) ∙ ap (λ t. i.items ++ (if t == end then [] else instant 0 (decimal end) ∷ [])) (h.time.0 ∙ sym h.time.1))
    at None None (Some i) h = absurd h
    at None (Some l) i h = absurd h
    at (Some d) None i h = absurd h
    at (Some d) (Some l) None h = absurd h
