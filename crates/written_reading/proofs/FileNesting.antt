-- No parenthesis of a written file is too deep.
use Rattle.std.specs.Prelude.{◌≡◌, ℕ, zero, suc, ◌+◌, ◌<◌, ◌≤◌, ℤ, IfSome, List, [], ◌∷◌, ◌++◌, map, flat_map, take, length, decimal, Option, Some, None, codes, slice_get}
use Rattle.std.specs.Fmt.{signed_decimal}
use Rattle.std.specs.List.{AllByRecursion, range_with_len}
use Rattle.std.proofs.Common.{refl, sym, ap, subst, ◌∙◌, arith}
use Rattle.std.proofs.lemmas.List.{append_assoc}
use Rattle.cond_expr.specs.Token.{Tok}
use Rattle.sg_circuit.specs.Circuit.{Circuit, Variable, scope_at}
use Rattle.sdf_lex.specs.Tokens.{Meaning, Lexeme, word_token, select_token, text_token, left_token, right_token}
use Rattle.sdf_read.specs.Depth as read
use Rattle.sdf_read.specs.Depth.{depth_behind, NoneTooDeep}
use Rattle.sdf_tree.specs.declared.tree.Edge.{Edge}
use Rattle.sdf_tree.specs.Written.{PathCondition, always, otherwise, if_words}
use Rattle.written_model.specs.declared.parts.Part.{Part}
use Rattle.written_model.specs.declared.parts.Part.TheVariants as part
use Rattle.written_model.specs.Entries.{Numbers, LegEntry, PathEntry, EventKey, CheckEntry, legs, paths, checks}
use Rattle.written_model.specs.Names.{BitName, name_text, name_of, names_to}
use Rattle.written_model.specs.Text.{edge_text, tick_text}
use Rattle.written_model.specs.Tree.{datum_of, cell_type_of, delay_entries, check_entries, parts_of}
use Rattle.written_reading.specs.Meanings.{words_meanings, select_meanings, bit_meanings, terminal_meanings, conditional_meanings, event_meanings, value_meanings, delay_meanings, leg_meanings, io_path_meanings, under_condition, path_meanings, terminals_meanings, check_meanings, around, delays_meanings, checks_meanings, parts_meanings, instance_meanings, cell_head_meanings, cell_meanings, meanings}
use Rattle.written_reading.proofs.CellTokens.{IsGoodScope, each_of}
use Rattle.written_reading.proofs.CheckTokens.{IsGoodEvent, IsGoodCheck}
use Rattle.written_reading.proofs.EntryTokens.{IsGoodWords, IsGoodCondition, IsGoodPath}
use Rattle.written_reading.proofs.Nesting.{AreShallow, Nests, none_nest, nest_both, nest_deeper, nest_plain, nest_in, nest_each, nest_all, plain_name, condition_nests}

nest_same : (n : ℕ) (ms ns : List Meaning) → ms ≡ ns → Nests n ms → Nests n ns
nest_same n ms ns e h = subst (λ (xs : List Meaning). Nests n xs) e h

nest_word : (n : ℕ) (text : List ℕ) (ms : List Meaning) → Nests n ms → Nests n (word_token text ∷ ms)
nest_word n text ms h = nest_plain n (word_token text) ms (λ d. refl) h

-- ---- values and ports

value_nests : (text : List ℕ) → Nests 1 (value_meanings text)
value_nests text = nest_in 0 (word_token text ∷ []) (nest_word 0 text [] (none_nest 0))

delay_nests : (n : Numbers) → Nests 2 (delay_meanings n)
delay_nests n =
    nest_in 1 (value_meanings (decimal n.delay) ++ (value_meanings (decimal n.reject) ++ value_meanings (decimal n.error)))
    (nest_both 1 (value_meanings (decimal n.delay)) (value_meanings (decimal n.reject) ++ value_meanings (decimal n.error)) (value_nests (decimal n.delay)) (nest_both 1 (value_meanings (decimal n.reject)) (value_meanings (decimal n.error)) (value_nests (decimal n.reject)) (value_nests (decimal n.error))))

select_nests : (o : Option ℤ) → Nests 0 (select_meanings o)
select_nests None = none_nest 0
select_nests (Some i) = nest_plain 0 (select_token i) [] (λ d. refl) (none_nest 0)

bit_nests : (n : BitName) → Nests 0 (bit_meanings n)
bit_nests n = nest_plain 0 _ (select_meanings n.index) (λ d. plain_name (name_text n.name) n.index d) (select_nests n.index)

terminal_nests : (o : Option Edge) (n : BitName) → Nests 1 (terminal_meanings o (bit_meanings n))
terminal_nests None n = nest_deeper 0 1 (bit_meanings n) (omega arith) (bit_nests n)
terminal_nests (Some e) n = nest_in 0 (word_token (edge_text e) ∷ bit_meanings n) (nest_word 0 (edge_text e) (bit_meanings n) (bit_nests n))

conditional_nests : (o : Option (List Tok)) → IfSome o IsGoodWords → (n : ℕ) (ms : List Meaning) → n ≤ 27 → Nests n ms → Nests 28 (conditional_meanings o ms)
conditional_nests None h n ms l t = nest_deeper n 28 ms (omega (arith, l)) t
conditional_nests (Some ws) h n ms l t =
    nest_same 28 (left_token ∷ ((word_token (codes "COND") ∷ (words_meanings ws ++ ms)) ++ right_token ∷ [])) (conditional_meanings (Some ws) ms) (ap (λ (xs : List Meaning). left_token ∷ word_token (codes "COND") ∷ xs) (append_assoc (words_meanings ws) ms (right_token ∷ [])))
    (nest_in 27 (word_token (codes "COND") ∷ (words_meanings ws ++ ms)) (nest_word 27 (codes "COND") (words_meanings ws ++ ms) (nest_both 27 (words_meanings ws) ms (condition_nests ws h) (nest_deeper n 27 ms l t))))

-- ---- entries

delays_nest : (ns : List Numbers) → Nests 2 (flat_map delay_meanings ns)
delays_nest ns = nest_all 2 delay_meanings delay_nests ns

leg_nests : (vs : List Variable) (e : LegEntry) → Nests 28 (leg_meanings vs e)
leg_nests vs e =
    let net = bit_meanings (name_of vs e.net) in
    let delays = flat_map delay_meanings e.numbers in
    nest_deeper 3 28 (leg_meanings vs e) (omega arith)
    (nest_same 3 (left_token ∷ ((word_token (codes "PORT") ∷ (net ++ delays)) ++ right_token ∷ [])) (leg_meanings vs e) (ap (λ (xs : List Meaning). left_token ∷ word_token (codes "PORT") ∷ xs) (append_assoc net delays (right_token ∷ [])))
    (nest_in 2 (word_token (codes "PORT") ∷ (net ++ delays)) (nest_word 2 (codes "PORT") (net ++ delays) (nest_both 2 net delays (nest_deeper 0 2 net (omega arith) (bit_nests (name_of vs e.net))) (delays_nest e.numbers)))))

io_path_nests : (vs : List Variable) (e : PathEntry) → Nests 3 (io_path_meanings vs e)
io_path_nests vs e =
    let input = terminal_meanings e.key.edge (bit_meanings (name_of vs e.key.input)) in
    let output = bit_meanings (name_of vs e.key.output) in
    let delays = flat_map delay_meanings e.numbers in
    nest_same 3 (left_token ∷ ((word_token (codes "IOPATH") ∷ (input ++ (output ++ delays))) ++ right_token ∷ [])) (io_path_meanings vs e)
    (ap (λ (xs : List Meaning). left_token ∷ word_token (codes "IOPATH") ∷ xs) (append_assoc input (output ++ delays) (right_token ∷ []) ∙ ap (λ (xs : List Meaning). input ++ xs) (append_assoc output delays (right_token ∷ []))))
    (nest_in 2 (word_token (codes "IOPATH") ∷ (input ++ (output ++ delays))) (nest_word 2 (codes "IOPATH") (input ++ (output ++ delays))
    (nest_both 2 input (output ++ delays) (nest_deeper 1 2 input (omega arith) (terminal_nests e.key.edge (name_of vs e.key.input))) (nest_both 2 output delays (nest_deeper 0 2 output (omega arith) (bit_nests (name_of vs e.key.output))) (delays_nest e.numbers)))))

under_nests : (c : PathCondition) → IsGoodCondition c → (ms : List Meaning) → Nests 3 ms → Nests 28 (under_condition c ms)
under_nests always h ms t = nest_deeper 3 28 ms (omega arith) t
under_nests (if_words ws) h ms t = conditional_nests (Some ws) h 3 ms (omega arith) t
under_nests otherwise h ms t = nest_deeper 4 28 (under_condition otherwise ms) (omega arith) (nest_in 3 (word_token (codes "CONDELSE") ∷ ms) (nest_word 3 (codes "CONDELSE") ms t))

path_nests : (vs : List Variable) (e : PathEntry) → IsGoodPath vs e → Nests 28 (path_meanings vs e)
path_nests vs e good = under_nests e.key.condition good.condition (io_path_meanings vs e) (io_path_nests vs e)

event_nests : (vs : List Variable) (k : EventKey) → IsGoodEvent vs k → Nests 28 (event_meanings vs k)
event_nests vs k good = conditional_nests k.condition good.condition 1 (terminal_meanings k.edge (bit_meanings (name_of vs k.net))) (omega arith) (terminal_nests k.edge (name_of vs k.net))

one_check : (text limit : List ℕ) (ms : List Meaning) → Nests 28 ms → Nests 29 (left_token ∷ word_token text ∷ (ms ++ (value_meanings limit ++ right_token ∷ [])))
one_check text limit ms t =
    nest_same 29 (left_token ∷ ((word_token text ∷ (ms ++ value_meanings limit)) ++ right_token ∷ [])) (left_token ∷ word_token text ∷ (ms ++ (value_meanings limit ++ right_token ∷ []))) (ap (λ (xs : List Meaning). left_token ∷ word_token text ∷ xs) (append_assoc ms (value_meanings limit) (right_token ∷ [])))
    (nest_in 28 (word_token text ∷ (ms ++ value_meanings limit)) (nest_word 28 text (ms ++ value_meanings limit) (nest_both 28 ms (value_meanings limit) t (nest_deeper 1 28 (value_meanings limit) (omega arith) (value_nests limit)))))

part_nests : (p : Part) (refer datum : List Meaning) (limit : List ℕ) → Nests 28 refer → Nests 28 datum → Nests 29 (terminals_meanings p refer datum ++ (value_meanings limit ++ right_token ∷ []))
part_nests part.Setup refer datum limit r d = one_check (codes "SETUP") limit (datum ++ refer) (nest_both 28 datum refer d r)
part_nests part.Hold refer datum limit r d = one_check (codes "HOLD") limit (datum ++ refer) (nest_both 28 datum refer d r)
part_nests part.Recovery refer datum limit r d = one_check (codes "RECOVERY") limit (refer ++ datum) (nest_both 28 refer datum r d)
part_nests part.Removal refer datum limit r d = one_check (codes "REMOVAL") limit (refer ++ datum) (nest_both 28 refer datum r d)
part_nests part.Skew refer datum limit r d = one_check (codes "SKEW") limit (refer ++ datum) (nest_both 28 refer datum r d)
part_nests part.Width refer datum limit r d = one_check (codes "WIDTH") limit refer r
part_nests part.Period refer datum limit r d = one_check (codes "PERIOD") limit refer r

check_nests : (vs : List Variable) (e : CheckEntry) → IsGoodCheck vs e → Nests 29 (check_meanings vs e)
check_nests vs e good = part_nests e.key.part (event_meanings vs e.key.refer) (event_meanings vs (datum_of e.key)) (signed_decimal e.limit) (event_nests vs e.key.refer good.refer) (event_nests vs (datum_of e.key) good.datum)

-- ---- cells

around_nests : {A : Type 0} (n : ℕ) (es : List A) (first last inner : List Meaning) → Nests n (first ++ (inner ++ last)) → Nests n (around es first last inner)
around_nests n [] first last inner h = none_nest n
around_nests n (e ∷ es) first last inner h = h

module _ (inner : List Meaning) where
  delays_around : Nests 28 inner → Nests 30 (left_token ∷ word_token (codes "DELAY") ∷ left_token ∷ word_token (codes "ABSOLUTE") ∷ (inner ++ right_token ∷ right_token ∷ []))
  delays_around h =
      let group = left_token ∷ word_token (codes "ABSOLUTE") ∷ (inner ++ right_token ∷ []) in
      nest_same 30 (left_token ∷ ((word_token (codes "DELAY") ∷ group) ++ right_token ∷ [])) (left_token ∷ word_token (codes "DELAY") ∷ left_token ∷ word_token (codes "ABSOLUTE") ∷ (inner ++ right_token ∷ right_token ∷ []))
      (ap (λ (xs : List Meaning). left_token ∷ word_token (codes "DELAY") ∷ left_token ∷ word_token (codes "ABSOLUTE") ∷ xs) (append_assoc inner (right_token ∷ []) (right_token ∷ [])))
      (nest_in 29 (word_token (codes "DELAY") ∷ group) (nest_word 29 (codes "DELAY") group (nest_in 28 (word_token (codes "ABSOLUTE") ∷ inner) (nest_word 28 (codes "ABSOLUTE") inner h))))

  checks_around : Nests 29 inner → Nests 30 (left_token ∷ word_token (codes "TIMINGCHECK") ∷ (inner ++ right_token ∷ []))
  checks_around h = nest_in 29 (word_token (codes "TIMINGCHECK") ∷ inner) (nest_word 29 (codes "TIMINGCHECK") inner h)

instance_nests : (names : List (List ℕ)) → Nests 0 (instance_meanings names)
instance_nests [] = none_nest 0
instance_nests (n ∷ ns) = nest_word 0 _ [] (none_nest 0)

module _ (c : Circuit) where
  parts_nest : (s : ℕ) → IsGoodScope c s → Nests 30 (parts_meanings c s)
  parts_nest s good =
      let vs = (scope_at c s).variables in
      let delays = nest_both 28 (flat_map (leg_meanings vs) (legs c s)) (flat_map (path_meanings vs) (paths c s)) (nest_all 28 (leg_meanings vs) (leg_nests vs) (legs c s)) (nest_each 28 (path_meanings vs) (paths c s) (each_of (IsGoodPath vs) _ (λ e h. path_nests vs e h) (paths c s) good.paths)) in
      let limits = nest_each 29 (check_meanings vs) (checks c s) (each_of (IsGoodCheck vs) _ (λ e h. check_nests vs e h) (checks c s) good.checks) in
      nest_both 30 _ _
      (around_nests 30 (delay_entries c s) (left_token ∷ word_token (codes "DELAY") ∷ left_token ∷ word_token (codes "ABSOLUTE") ∷ []) (right_token ∷ right_token ∷ []) (delays_meanings c s) (delays_around (delays_meanings c s) delays))
      (around_nests 30 (check_entries c s) (left_token ∷ word_token (codes "TIMINGCHECK") ∷ []) (right_token ∷ []) (checks_meanings c s) (checks_around (checks_meanings c s) limits))

  module _ (s : ℕ) (good : IsGoodScope c s) where
    abbrev name : List ℕ
    name = (scope_at c s).module_name

    abbrev names : List (List ℕ)
    names = names_to c s

    abbrev inner : List Meaning
    inner = parts_meanings c s

    abbrev type : List Meaning
    type = left_token ∷ word_token (codes "CELLTYPE") ∷ text_token (cell_type_of name) ∷ right_token ∷ []

    abbrev instance : List Meaning
    instance = left_token ∷ word_token (codes "INSTANCE") ∷ (instance_meanings names ++ right_token ∷ [])

    abbrev cell_words : List Meaning
    cell_words = word_token (codes "CELL") ∷ (type ++ (instance ++ inner))

    closed : left_token ∷ (cell_words ++ right_token ∷ []) ≡ cell_head_meanings name names ++ (inner ++ right_token ∷ [])
    closed = ap (λ (xs : List Meaning). left_token ∷ word_token (codes "CELL") ∷ (type ++ left_token ∷ word_token (codes "INSTANCE") ∷ xs)) (append_assoc (instance_meanings names ++ right_token ∷ []) inner (right_token ∷ []))

    type_nests : Nests 1 type
    type_nests = nest_in 0 (word_token (codes "CELLTYPE") ∷ text_token (cell_type_of name) ∷ []) (nest_word 0 (codes "CELLTYPE") (text_token (cell_type_of name) ∷ []) (nest_plain 0 (text_token (cell_type_of name)) [] (λ d. refl) (none_nest 0)))

    names_nest : Nests 1 instance
    names_nest = nest_in 0 (word_token (codes "INSTANCE") ∷ instance_meanings names) (nest_word 0 (codes "INSTANCE") (instance_meanings names) (instance_nests names))

    nested : Nests 31 (left_token ∷ (cell_words ++ right_token ∷ []))
    nested =
        nest_in 30 cell_words (nest_word 30 (codes "CELL") (type ++ (instance ++ inner))
        (nest_both 30 type (instance ++ inner) (nest_deeper 1 30 type (omega arith) type_nests) (nest_both 30 instance inner (nest_deeper 1 30 instance (omega arith) names_nest) (parts_nest s good))))

    cell_nests : Nests 31 (cell_meanings c s)
    cell_nests = around_nests 31 (parts_of c s) (cell_head_meanings name names) (right_token ∷ []) inner (nest_same 31 (left_token ∷ (cell_words ++ right_token ∷ [])) (cell_head_meanings name names ++ (inner ++ right_token ∷ [])) closed nested)

  -- ---- the file

  module _ (good : AllByRecursion (IsGoodScope c) (range_with_len 0 (length c.scopes))) where
    abbrev cells : List Meaning
    cells = flat_map (cell_meanings c) (range_with_len 0 (length c.scopes))

    version : Nests 1 (left_token ∷ word_token (codes "SDFVERSION") ∷ text_token (codes "3.0") ∷ right_token ∷ [])
    version = nest_in 0 (word_token (codes "SDFVERSION") ∷ text_token (codes "3.0") ∷ []) (nest_word 0 (codes "SDFVERSION") (text_token (codes "3.0") ∷ []) (nest_plain 0 (text_token (codes "3.0")) [] (λ d. refl) (none_nest 0)))

    two_words : (one two : List ℕ) → Nests 1 (left_token ∷ word_token one ∷ word_token two ∷ right_token ∷ [])
    two_words one two = nest_in 0 (word_token one ∷ word_token two ∷ []) (nest_word 0 one (word_token two ∷ []) (nest_word 0 two [] (none_nest 0)))

    before : (ms ns : List Meaning) → Nests 1 ms → Nests 31 ns → Nests 31 (ms ++ ns)
    before ms ns h k = nest_both 31 ms ns (nest_deeper 1 31 ms (omega arith) h) k

    file_nests : Nests 32 (meanings c)
    unfolding meanings
    file_nests =
        let unit = left_token ∷ word_token (codes "TIMESCALE") ∷ word_token (tick_text c.tick) ∷ right_token ∷ [] in
        let divider = left_token ∷ word_token (codes "DIVIDER") ∷ word_token (codes "/") ∷ right_token ∷ [] in
        let heads = (left_token ∷ word_token (codes "SDFVERSION") ∷ text_token (codes "3.0") ∷ right_token ∷ []) ++ (divider ++ (unit ++ cells)) in
        nest_in 31 (word_token (codes "DELAYFILE") ∷ heads) (nest_word 31 (codes "DELAYFILE") heads
        (before (left_token ∷ word_token (codes "SDFVERSION") ∷ text_token (codes "3.0") ∷ right_token ∷ []) (divider ++ (unit ++ cells)) version
        (before divider (unit ++ cells) (two_words (codes "DIVIDER") (codes "/")) (before unit cells (two_words (codes "TIMESCALE") (tick_text c.tick)) (nest_each 31 (cell_meanings c) (range_with_len 0 (length c.scopes)) (each_of (IsGoodScope c) _ (λ s h. cell_nests s h) (range_with_len 0 (length c.scopes)) good))))))

-- ---- tokens of such meanings

abbrev pub means : Lexeme → Meaning
means t = t.meaning

few_open : (d : ℕ) (ts : List Lexeme) (i : ℕ) (t : Lexeme) → slice_get ts i ≡ Some t → AreShallow d (map means ts) → read.depth_from d (take (suc i) ts) ≤ 32
few_open d [] i t e h = absurd cc
few_open d (x ∷ xs) zero t e h = h.0
few_open d (x ∷ xs) (suc i) t e h = few_open (depth_behind d x.meaning) xs i t e h.1

pub none_too_deep : (c : Circuit) → AllByRecursion (IsGoodScope c) (range_with_len 0 (length c.scopes)) → (ts : List Lexeme) → map means ts ≡ meanings c → NoneTooDeep ts
none_too_deep c good ts is i deep =
    let shallow = subst (λ (ms : List Meaning). AreShallow 0 ms) (sym is) ((file_nests c good).shallow 0 (omega arith)) in
    let next : i + 1 ≡ suc i = omega arith in
    let few = few_open 0 ts i deep.0 deep.1 shallow in
    let many : 32 < read.depth_from 0 (take (suc i) ts) = subst (λ (n : ℕ). 32 < read.depth_from 0 (take n ts)) next deep.2 in
    omega (arith, few, many)
