-- The pieces of entries spell their texts.
use Rattle.std.proofs.Common.{◌≡◌, ℕ, ℤ, List, [], ◌∷◌, ◌++◌, refl, sym, ap, ◌∙◌}
use Rattle.std.specs.Prelude.{◌≢◌, Option, Some, None, codes, decimal, flat_map}
use Rattle.std.specs.Fmt.{signed_decimal}
use Rattle.std.specs.List.{AllByRecursion}
use Rattle.std.proofs.lemmas.List.{append-nil, append_assoc}
use Rattle.cond_expr.specs.declared.tokens.Tok.TheVariants as tok
use Rattle.cond_expr.specs.Token.{Tok}
use Rattle.sg_circuit.specs.Circuit.{Variable}
use Rattle.sdf_lex.specs.Pieces.{Piece, spellings}
use Rattle.sdf_lex.specs.Words.{spelled}
use Rattle.sdf_tree.specs.declared.tree.Edge.{Edge}
use Rattle.sdf_tree.specs.Written.{PathCondition, always, otherwise, if_words}
use Rattle.written_model.specs.declared.parts.Part.{Part}
use Rattle.written_model.specs.declared.parts.Part.TheVariants as part
use Rattle.written_model.specs.Entries.{Numbers, LegEntry, PathEntry, EventKey, CheckEntry}
use Rattle.written_model.specs.Names.{name_text, index_text, name_of}
use Rattle.written_model.specs.Text as text
use Rattle.written_model.specs.Text.{value_letter, operator_text, token_text, words_behind, words_text, port_text, edge_text, terminal_text, conditional_text, event_text, value_text, delay_text, leg_text, io_path_text, path_text, terminals_text, check_text}
use Rattle.written_model.specs.Tree.{datum_of}
use Rattle.written_reading.specs.Meanings.{index_in_front}
use Rattle.written_reading.specs.Pieces.{bit_letters, word, blank, right, words_pieces, port_pieces, terminal_pieces, conditional_pieces, event_pieces, value_pieces, delay_pieces, leg_pieces, io_path_pieces, under_condition, path_pieces, terminals_pieces, check_pieces}
use Rattle.written_reading.proofs.Letters.{plain_spelled, bit_spelled}
use Rattle.written_reading.proofs.SoundPieces.{spellings-append}
use Rattle.written_reading.proofs.Writable.{AreFollowed, IsClause, IsPathClause, IsEventClause, IsEvent, IsCheck}

pub joined : (ps qs : List Piece) {x y : List ℕ} → spellings ps ≡ x → spellings qs ≡ y → spellings (ps ++ qs) ≡ x ++ y
joined ps qs {x} e f = spellings-append ps qs ∙ ap (λ xs. xs ++ spellings qs) e ∙ ap (λ ys. x ++ ys) f

pub worded : (bytes : List ℕ) (ps : List Piece) {y : List ℕ} → spellings ps ≡ y → spellings (word bytes ∷ ps) ≡ bytes ++ y
worded bytes ps e = ap (λ xs. xs ++ spellings ps) (plain_spelled bytes) ∙ ap (λ ys. bytes ++ ys) e

pub each_spelled : {A : Type 0} (P : A → Type 0) (f : A → List Piece) (g : A → List ℕ) (xs : List A) → ((x : A) → P x → spellings (f x) ≡ g x) → AllByRecursion P xs → spellings (flat_map f xs) ≡ flat_map g xs
each_spelled P f g [] e h = refl
each_spelled P f g (x ∷ xs) e h = joined (f x) (flat_map f xs) (e x h.0) (each_spelled P f g xs e h.1)

-- ---- conditions

-- behind a token: what comes with the blank before it, or the index
plain_behind : (x : List ℕ) (ts : List Tok) → index_in_front ts ≡ None → index_text (index_in_front ts) ++ 32 ∷ spellings (words_pieces ts) ≡ words_behind ts ++ 32 ∷ []
    → x ++ 32 ∷ spellings (words_pieces ts) ≡ (x ++ words_behind ts) ++ 32 ∷ []
plain_behind x ts none rest =
    ap (λ ys. x ++ ys) (ap (λ o. index_text o ++ 32 ∷ spellings (words_pieces ts)) (sym none) ∙ rest) ∙ sym (append_assoc x (words_behind ts) (32 ∷ []))

name_behind : (name : List ℕ) (index : Option ℤ) (x y : List ℕ) → index_text index ++ 32 ∷ x ≡ y ++ 32 ∷ [] → spelled (bit_letters name index) ++ 32 ∷ x ≡ (name_text name ++ y) ++ 32 ∷ []
name_behind name index x y e =
    ap (λ xs. xs ++ 32 ∷ x) (bit_spelled name index) ∙ append_assoc (name_text name) (index_text index) (32 ∷ x) ∙ ap (λ ys. name_text name ++ ys) e ∙ sym (append_assoc (name_text name) y (32 ∷ []))

words_on : (ts : List Tok) → AreFollowed ts → index_text (index_in_front ts) ++ 32 ∷ spellings (words_pieces ts) ≡ words_behind ts ++ 32 ∷ []
words_on [] h = refl
words_on (tok.Name name ∷ ts) h = ap (λ xs. 32 ∷ xs) (name_behind name (index_in_front ts) (spellings (words_pieces ts)) (words_behind ts) (words_on ts h.1))
words_on (tok.Index i ∷ ts) h = plain_behind (index_text (Some i)) ts h.0 (words_on ts h.1)
words_on (tok.Const v ∷ ts) h = ap (λ xs. 32 ∷ xs) (plain_behind (codes "1'b" ++ value_letter v ∷ []) ts h.0 (words_on ts h.1))
words_on (tok.Op o ∷ ts) h = ap (λ xs. 32 ∷ xs) (plain_behind (operator_text o) ts h.0 (words_on ts h.1))
words_on (tok.Left ∷ ts) h = ap (λ xs. 32 ∷ xs) (plain_behind (codes "(") ts h.0 (words_on ts h.1))
words_on (tok.Right ∷ ts) h = ap (λ xs. 32 ∷ xs) (plain_behind (codes ")") ts h.0 (words_on ts h.1))

some_index : {i : ℤ} → Some i ≡ None → ⊥
some_index e = cc

words_spelled : (ts : List Tok) → ts ≢ [] → index_in_front ts ≡ None → AreFollowed ts → spellings (words_pieces ts) ≡ words_text ts ++ 32 ∷ []
words_spelled [] some first h = absurd (some refl)
words_spelled (tok.Name name ∷ ts) some first h = name_behind name (index_in_front ts) (spellings (words_pieces ts)) (words_behind ts) (words_on ts h.1)
words_spelled (tok.Index i ∷ ts) some first h = absurd (some_index first)
words_spelled (tok.Const v ∷ ts) some first h = plain_behind (codes "1'b" ++ value_letter v ∷ []) ts h.0 (words_on ts h.1)
words_spelled (tok.Op o ∷ ts) some first h = plain_behind (operator_text o) ts h.0 (words_on ts h.1)
words_spelled (tok.Left ∷ ts) some first h = plain_behind (codes "(") ts h.0 (words_on ts h.1)
words_spelled (tok.Right ∷ ts) some first h = plain_behind (codes ")") ts h.0 (words_on ts h.1)

-- ---- ports and terminals

port_spelled : (vs : List Variable) (net : ℕ) → spellings (port_pieces vs net) ≡ port_text vs net
port_spelled vs net = append-nil (spelled (bit_letters (name_of vs net).name (name_of vs net).index)) ∙ bit_spelled (name_of vs net).name (name_of vs net).index

terminal_spelled : (edge : Option Edge) (port : List Piece) (x : List ℕ) → spellings port ≡ x → spellings (terminal_pieces edge port) ≡ terminal_text edge x
terminal_spelled None port x e = e
terminal_spelled (Some edge) port x e = ap (λ xs. 40 ∷ xs) (worded (edge_text edge) (blank ∷ (port ++ right ∷ [])) (ap (λ xs. 32 ∷ xs) (joined port (right ∷ []) e refl)))

under_words : (words : List Tok) (ps : List Piece) (x : List ℕ) → IsClause words → spellings ps ≡ x → spellings (conditional_pieces (Some words) ps) ≡ conditional_text (Some words) x
under_words words ps x c e =
    ap (λ xs. codes "(COND " ++ xs) (joined (words_pieces words) (ps ++ right ∷ []) (words_spelled words c.some c.first c.followed) (joined ps (right ∷ []) e refl) ∙ append_assoc (words_text words) (32 ∷ []) (x ++ 41 ∷ []))

conditional_spelled : (words : Option (List Tok)) (ps : List Piece) (x : List ℕ) → IsEventClause words → spellings ps ≡ x → spellings (conditional_pieces words ps) ≡ conditional_text words x
conditional_spelled None ps x c e = e
conditional_spelled (Some words) ps x c e = under_words words ps x c e

event_spelled : (vs : List Variable) (k : EventKey) → IsEvent vs k → spellings (event_pieces vs k) ≡ event_text vs k
event_spelled vs k h =
    conditional_spelled k.condition (terminal_pieces k.edge (port_pieces vs k.net)) (terminal_text k.edge (port_text vs k.net)) h.condition (terminal_spelled k.edge (port_pieces vs k.net) (port_text vs k.net) (port_spelled vs k.net))

-- ---- entries

value_spelled : (number : List ℕ) → spellings (value_pieces number) ≡ value_text number
value_spelled number = ap (λ xs. 40 ∷ xs) (worded number (right ∷ []) refl)

delay_spelled : (n : Numbers) → spellings (delay_pieces n) ≡ delay_text n
delay_spelled n =
    ap (λ xs. 32 ∷ 40 ∷ xs)
    (joined (value_pieces (decimal n.delay)) (blank ∷ (value_pieces (decimal n.reject) ++ blank ∷ (value_pieces (decimal n.error) ++ right ∷ []))) (value_spelled (decimal n.delay))
    (ap (λ xs. 32 ∷ xs)
    (joined (value_pieces (decimal n.reject)) (blank ∷ (value_pieces (decimal n.error) ++ right ∷ [])) (value_spelled (decimal n.reject))
    (ap (λ xs. 32 ∷ xs) (joined (value_pieces (decimal n.error)) (right ∷ []) (value_spelled (decimal n.error)) refl)))))

delays_spelled : (ns : List Numbers) → spellings (flat_map delay_pieces ns) ≡ flat_map delay_text ns
delays_spelled [] = refl
delays_spelled (n ∷ ns) = joined (delay_pieces n) (flat_map delay_pieces ns) (delay_spelled n) (delays_spelled ns)

port_delays : (vs : List Variable) (net : ℕ) (ns : List Numbers) → spellings (port_pieces vs net ++ (flat_map delay_pieces ns ++ right ∷ [])) ≡ port_text vs net ++ (flat_map delay_text ns ++ codes ")")
port_delays vs net ns = joined (port_pieces vs net) (flat_map delay_pieces ns ++ right ∷ []) (port_spelled vs net) (joined (flat_map delay_pieces ns) (right ∷ []) (delays_spelled ns) refl)

pub leg_spelled : (vs : List Variable) (e : LegEntry) → spellings (leg_pieces vs e) ≡ leg_text vs e
leg_spelled vs e = ap (λ xs. codes "(PORT " ++ xs) (port_delays vs e.net e.numbers)

io_path_spelled : (vs : List Variable) (e : PathEntry) → spellings (io_path_pieces vs e) ≡ io_path_text vs e
io_path_spelled vs e =
    ap (λ xs. codes "(IOPATH " ++ xs)
    (joined (terminal_pieces e.key.edge (port_pieces vs e.key.input)) (blank ∷ (port_pieces vs e.key.output ++ (flat_map delay_pieces e.numbers ++ right ∷ [])))
    (terminal_spelled e.key.edge (port_pieces vs e.key.input) (port_text vs e.key.input) (port_spelled vs e.key.input)) (ap (λ xs. 32 ∷ xs) (port_delays vs e.key.output e.numbers)))

under_condition_spelled : (c : PathCondition) (ps : List Piece) (x : List ℕ) → IsPathClause c → spellings ps ≡ x → spellings (under_condition c ps) ≡ text.under_condition c x
under_condition_spelled always ps x c e = e
under_condition_spelled (if_words words) ps x c e = under_words words ps x c e
under_condition_spelled otherwise ps x c e = ap (λ xs. codes "(CONDELSE " ++ xs) (joined ps (right ∷ []) e refl)

pub path_spelled : (vs : List Variable) (e : PathEntry) → IsPathClause e.key.condition → spellings (path_pieces vs e) ≡ path_text vs e
path_spelled vs e h = under_condition_spelled e.key.condition (io_path_pieces vs e) (io_path_text vs e) h (io_path_spelled vs e)

-- ---- checks

two_spelled : (first second : List Piece) (x y : List ℕ) → spellings first ≡ x → spellings second ≡ y → spellings (first ++ blank ∷ second) ≡ x ++ (codes " " ++ y)
two_spelled first second x y e f = joined first (blank ∷ second) e (ap (λ xs. 32 ∷ xs) f)

terminals_spelled : (p : Part) (refer datum : List Piece) (x y : List ℕ) → spellings refer ≡ x → spellings datum ≡ y → spellings (terminals_pieces p refer datum) ≡ terminals_text p x y
terminals_spelled part.Setup refer datum x y e f = ap (λ xs. codes "(SETUP " ++ xs) (two_spelled datum refer y x f e)
terminals_spelled part.Hold refer datum x y e f = ap (λ xs. codes "(HOLD " ++ xs) (two_spelled datum refer y x f e)
terminals_spelled part.Recovery refer datum x y e f = ap (λ xs. codes "(RECOVERY " ++ xs) (two_spelled refer datum x y e f)
terminals_spelled part.Removal refer datum x y e f = ap (λ xs. codes "(REMOVAL " ++ xs) (two_spelled refer datum x y e f)
terminals_spelled part.Skew refer datum x y e f = ap (λ xs. codes "(SKEW " ++ xs) (two_spelled refer datum x y e f)
terminals_spelled part.Width refer datum x y e f = ap (λ xs. codes "(WIDTH " ++ xs) e
terminals_spelled part.Period refer datum x y e f = ap (λ xs. codes "(PERIOD " ++ xs) e

pub check_spelled : (vs : List Variable) (e : CheckEntry) → IsCheck vs e → spellings (check_pieces vs e) ≡ check_text vs e
check_spelled vs e h =
    joined (terminals_pieces e.key.part (event_pieces vs e.key.refer) (event_pieces vs (datum_of e.key))) (blank ∷ (value_pieces (signed_decimal e.limit) ++ right ∷ []))
    (terminals_spelled e.key.part (event_pieces vs e.key.refer) (event_pieces vs (datum_of e.key)) (event_text vs e.key.refer) (event_text vs (datum_of e.key)) (event_spelled vs e.key.refer h.refer) (event_spelled vs (datum_of e.key) h.datum))
    (ap (λ xs. 32 ∷ xs) (joined (value_pieces (signed_decimal e.limit)) (right ∷ []) (value_spelled (signed_decimal e.limit)) refl))
