-- What the tokens of entries mean.
use Rattle.std.proofs.Common.{◌≡◌, ℕ, ◌^◌, ◌<◌, pos, List, [], ◌∷◌, ◌++◌, refl, sym, ap, ◌∙◌}
use Rattle.std.specs.Prelude.{Option, Some, None, codes, decimal, flat_map}
use Rattle.std.specs.Fmt.{signed_decimal}
use Rattle.std.specs.List.{AllByRecursion}
use Rattle.std.proofs.lemmas.List.{append-nil}
use Rattle.sg_logic.specs.declared.values.Value.{Value}
use Rattle.sg_logic.specs.declared.values.Value.TheVariants.{Zero, One, X, Z}
use Rattle.cond_expr.specs.declared.tokens.Op.{Op}
use Rattle.cond_expr.specs.declared.tokens.Op.TheVariants as op
use Rattle.cond_expr.specs.declared.tokens.Tok.TheVariants as tok
use Rattle.cond_expr.specs.Token.{Tok}
use Rattle.sg_circuit.specs.Circuit.{Variable}
use Rattle.sdf_lex.specs.Operators.{operator_rows, operator_of}
use Rattle.sdf_lex.specs.Pieces.{Piece, word_piece, symbol_piece}
use Rattle.sdf_lex.specs.Tokens.{Meaning, word_token, operator_token, left_token, right_token}
use Rattle.sdf_tree.specs.declared.tree.Edge.{Edge}
use Rattle.sdf_tree.specs.declared.tree.Edge.TheVariants as edge
use Rattle.sdf_tree.specs.Written.{PathCondition, always, otherwise, if_words}
use Rattle.written_model.specs.declared.parts.Part.{Part}
use Rattle.written_model.specs.declared.parts.Part.TheVariants as part
use Rattle.written_model.specs.Entries.{Numbers, LegEntry, PathEntry, EventKey, CheckEntry}
use Rattle.written_model.specs.Names.{name_of, name_text}
use Rattle.written_model.specs.Text.{value_letter, operator_text, edge_text}
use Rattle.written_model.specs.Tree.{datum_of}
use Rattle.written_reading.specs.Meanings as meanings
use Rattle.written_reading.specs.Meanings.{index_in_front, name_meaning, words_meanings, select_meanings, port_meanings, terminal_meanings, conditional_meanings, event_meanings, value_meanings, delay_meanings, leg_meanings, io_path_meanings, path_meanings, terminals_meanings, check_meanings}
use Rattle.written_reading.specs.Pieces.{bit_letters, word, blank, right, words_pieces, port_pieces, terminal_pieces, conditional_pieces, event_pieces, value_pieces, delay_pieces, leg_pieces, io_path_pieces, under_condition, path_pieces, terminals_pieces, check_pieces}
use Rattle.written_reading.proofs.DelayTokens.{AreShort}
use Rattle.written_reading.proofs.MeantPieces.{meant, meant_joined, number_meant, bit_meant}
use Rattle.written_reading.proofs.SoundEntries.{front_index}
use Rattle.written_reading.proofs.Writable.{IsPort, IsToken, AreFollowed, IsClause, IsPathClause, IsEventClause, IsLeg, IsPath, IsEvent, IsCheck}

-- a piece of one token
pub one_meant : (p : Piece) (ps : List Piece) (m : Meaning) {y : List Meaning} → meant p ≡ m ∷ [] → flat_map meant ps ≡ y → flat_map meant (p ∷ ps) ≡ m ∷ y
one_meant p ps m e f = ap (λ xs. xs ++ flat_map meant ps) e ∙ ap (λ ys. m ∷ ys) f

pub each_meant : {A : Type 0} (P : A → Type 0) (f : A → List Piece) (g : A → List Meaning) (xs : List A) → ((x : A) → P x → flat_map meant (f x) ≡ g x) → AllByRecursion P xs → flat_map meant (flat_map f xs) ≡ flat_map g xs
each_meant P f g [] e h = refl
each_meant P f g (x ∷ xs) e h = meant_joined (f x) (flat_map f xs) (e x h.0) (each_meant P f g xs e h.1)

-- ---- conditions

constant_meant : (v : Value) → meant (word (codes "1'b" ++ value_letter v ∷ [])) ≡ word_token (codes "1'b" ++ value_letter v ∷ []) ∷ []
constant_meant Zero = refl
constant_meant One = refl
constant_meant X = refl
constant_meant Z = refl

operator_meant : (o : Op) → meant (symbol_piece (operator_text o)) ≡ operator_token o ∷ []
unfolding operator_of operator_rows
operator_meant op.Tilde = refl
operator_meant op.Bang = refl
operator_meant op.And = refl
operator_meant op.Or = refl
operator_meant op.Xor = refl
operator_meant op.Equal = refl
operator_meant op.Unequal = refl
operator_meant op.CaseEqual = refl
operator_meant op.CaseUnequal = refl
operator_meant op.TildeXor = refl
operator_meant op.XorTilde = refl
operator_meant op.AndAnd = refl
operator_meant op.OrOr = refl

-- where no index comes first
unled : (ts : List Tok) → index_in_front ts ≡ None → select_meanings (index_in_front ts) ++ flat_map meant (words_pieces ts) ≡ words_meanings ts → flat_map meant (words_pieces ts) ≡ words_meanings ts
unled ts none e = ap (λ o. select_meanings o ++ flat_map meant (words_pieces ts)) (sym none) ∙ e

words_on : (ts : List Tok) → AllByRecursion IsToken ts → AreFollowed ts → select_meanings (index_in_front ts) ++ flat_map meant (words_pieces ts) ≡ words_meanings ts
words_on [] h k = refl
words_on (tok.Name name ∷ ts) h k =
    ap (λ xs. xs ++ flat_map meant (words_pieces ts)) (bit_meant name (index_in_front ts) (front_index ts h.1)) ∙ ap (λ ys. name_meaning (name_text name) (index_in_front ts) ∷ ys) (words_on ts h.1 k.1)
words_on (tok.Index i ∷ ts) h k = ap (λ ys. meanings.token_meaning (tok.Index i) (index_in_front ts) ∷ ys) (unled ts k.0 (words_on ts h.1 k.1))
words_on (tok.Const v ∷ ts) h k = one_meant (word (codes "1'b" ++ value_letter v ∷ [])) (blank ∷ words_pieces ts) (word_token (codes "1'b" ++ value_letter v ∷ [])) (constant_meant v) (unled ts k.0 (words_on ts h.1 k.1))
words_on (tok.Op o ∷ ts) h k = one_meant (symbol_piece (operator_text o)) (blank ∷ words_pieces ts) (operator_token o) (operator_meant o) (unled ts k.0 (words_on ts h.1 k.1))
words_on (tok.Left ∷ ts) h k = ap (λ ys. left_token ∷ ys) (unled ts k.0 (words_on ts h.1 k.1))
words_on (tok.Right ∷ ts) h k = ap (λ ys. right_token ∷ ys) (unled ts k.0 (words_on ts h.1 k.1))

words_meant : (ts : List Tok) → IsClause ts → flat_map meant (words_pieces ts) ≡ words_meanings ts
words_meant ts c = unled ts c.first (words_on ts c.tokens c.followed)

-- ---- ports and terminals

port_meant : (vs : List Variable) (net : ℕ) → IsPort vs net → flat_map meant (port_pieces vs net) ≡ port_meanings vs net
port_meant vs net h = append-nil (meant (word_piece (bit_letters (name_of vs net).name (name_of vs net).index))) ∙ bit_meant (name_of vs net).name (name_of vs net).index h.index

edge_meant : (e : Edge) → meant (word (edge_text e)) ≡ word_token (edge_text e) ∷ []
edge_meant edge.Posedge = refl
edge_meant _ = refl

in_front : (ps : List Piece) {y : List Meaning} → flat_map meant ps ≡ y → flat_map meant (ps ++ right ∷ []) ≡ y ++ right_token ∷ []
in_front ps e = meant_joined ps (right ∷ []) e refl

terminal_meant : (e : Option Edge) (port : List Piece) (x : List Meaning) → flat_map meant port ≡ x → flat_map meant (terminal_pieces e port) ≡ terminal_meanings e x
terminal_meant None port x h = h
terminal_meant (Some e) port x h = ap (λ ys. left_token ∷ ys) (one_meant (word (edge_text e)) (blank ∷ (port ++ right ∷ [])) (word_token (edge_text e)) (edge_meant e) (in_front port h))

under_words : (words : List Tok) (ps : List Piece) (x : List Meaning) → IsClause words → flat_map meant ps ≡ x → flat_map meant (conditional_pieces (Some words) ps) ≡ conditional_meanings (Some words) x
under_words words ps x c e = ap (λ ys. left_token ∷ word_token (codes "COND") ∷ ys) (meant_joined (words_pieces words) (ps ++ right ∷ []) (words_meant words c) (in_front ps e))

conditional_meant : (words : Option (List Tok)) (ps : List Piece) (x : List Meaning) → IsEventClause words → flat_map meant ps ≡ x → flat_map meant (conditional_pieces words ps) ≡ conditional_meanings words x
conditional_meant None ps x c e = e
conditional_meant (Some words) ps x c e = under_words words ps x c e

event_meant : (vs : List Variable) (k : EventKey) → IsEvent vs k → flat_map meant (event_pieces vs k) ≡ event_meanings vs k
event_meant vs k h =
    conditional_meant k.condition (terminal_pieces k.edge (port_pieces vs k.net)) (terminal_meanings k.edge (port_meanings vs k.net)) h.condition
    (terminal_meant k.edge (port_pieces vs k.net) (port_meanings vs k.net) (port_meant vs k.net h.port))

-- ---- values and delays

decimal_meant : (n : ℕ) → n < 10 ^ 18 → meant (word (decimal n)) ≡ word_token (decimal n) ∷ []
decimal_meant n l = number_meant (pos n) l

value_meant : (number : List ℕ) → meant (word number) ≡ word_token number ∷ [] → flat_map meant (value_pieces number) ≡ value_meanings number
value_meant number e = ap (λ ys. left_token ∷ ys) (one_meant (word number) (right ∷ []) (word_token number) e refl)

delay_meant : (n : Numbers) → AreShort n → flat_map meant (delay_pieces n) ≡ delay_meanings n
delay_meant n h =
    ap (λ ys. left_token ∷ ys)
    (meant_joined (value_pieces (decimal n.delay)) (blank ∷ (value_pieces (decimal n.reject) ++ blank ∷ (value_pieces (decimal n.error) ++ right ∷ []))) (value_meant (decimal n.delay) (decimal_meant n.delay h.delay))
    (meant_joined (value_pieces (decimal n.reject)) (blank ∷ (value_pieces (decimal n.error) ++ right ∷ [])) (value_meant (decimal n.reject) (decimal_meant n.reject h.reject))
    (in_front (value_pieces (decimal n.error)) (value_meant (decimal n.error) (decimal_meant n.error h.error)))))

port_delays : (vs : List Variable) (net : ℕ) (ns : List Numbers) → IsPort vs net → AllByRecursion AreShort ns
    → flat_map meant (port_pieces vs net ++ (flat_map delay_pieces ns ++ right ∷ [])) ≡ port_meanings vs net ++ (flat_map delay_meanings ns ++ right_token ∷ [])
port_delays vs net ns p h =
    meant_joined (port_pieces vs net) (flat_map delay_pieces ns ++ right ∷ []) (port_meant vs net p) (in_front (flat_map delay_pieces ns) (each_meant AreShort delay_pieces delay_meanings ns delay_meant h))

-- ---- entries

pub leg_meant : (vs : List Variable) (e : LegEntry) → IsLeg vs e → flat_map meant (leg_pieces vs e) ≡ leg_meanings vs e
leg_meant vs e h = ap (λ ys. left_token ∷ word_token (codes "PORT") ∷ ys) (port_delays vs e.net e.numbers h.port h.numbers)

io_path_meant : (vs : List Variable) (e : PathEntry) → IsPath vs e → flat_map meant (io_path_pieces vs e) ≡ io_path_meanings vs e
io_path_meant vs e h =
    ap (λ ys. left_token ∷ word_token (codes "IOPATH") ∷ ys)
    (meant_joined (terminal_pieces e.key.edge (port_pieces vs e.key.input)) (blank ∷ (port_pieces vs e.key.output ++ (flat_map delay_pieces e.numbers ++ right ∷ [])))
    (terminal_meant e.key.edge (port_pieces vs e.key.input) (port_meanings vs e.key.input) (port_meant vs e.key.input h.input)) (port_delays vs e.key.output e.numbers h.output h.numbers))

under_condition_meant : (c : PathCondition) (ps : List Piece) (x : List Meaning) → IsPathClause c → flat_map meant ps ≡ x → flat_map meant (under_condition c ps) ≡ meanings.under_condition c x
under_condition_meant always ps x c e = e
under_condition_meant (if_words words) ps x c e = under_words words ps x c e
under_condition_meant otherwise ps x c e = ap (λ ys. left_token ∷ word_token (codes "CONDELSE") ∷ ys) (in_front ps e)

pub path_meant : (vs : List Variable) (e : PathEntry) → IsPath vs e → flat_map meant (path_pieces vs e) ≡ path_meanings vs e
path_meant vs e h = under_condition_meant e.key.condition (io_path_pieces vs e) (io_path_meanings vs e) h.condition (io_path_meant vs e h)

-- ---- checks

two_meant : (first second : List Piece) (x y : List Meaning) → flat_map meant first ≡ x → flat_map meant second ≡ y → flat_map meant (first ++ blank ∷ second) ≡ x ++ y
two_meant first second x y e f = meant_joined first (blank ∷ second) e f

terminals_meant : (p : Part) (refer datum : List Piece) (x y : List Meaning) → flat_map meant refer ≡ x → flat_map meant datum ≡ y → flat_map meant (terminals_pieces p refer datum) ≡ terminals_meanings p x y
terminals_meant part.Setup refer datum x y e f = ap (λ ys. left_token ∷ word_token (codes "SETUP") ∷ ys) (two_meant datum refer y x f e)
terminals_meant part.Hold refer datum x y e f = ap (λ ys. left_token ∷ word_token (codes "HOLD") ∷ ys) (two_meant datum refer y x f e)
terminals_meant part.Recovery refer datum x y e f = ap (λ ys. left_token ∷ word_token (codes "RECOVERY") ∷ ys) (two_meant refer datum x y e f)
terminals_meant part.Removal refer datum x y e f = ap (λ ys. left_token ∷ word_token (codes "REMOVAL") ∷ ys) (two_meant refer datum x y e f)
terminals_meant part.Skew refer datum x y e f = ap (λ ys. left_token ∷ word_token (codes "SKEW") ∷ ys) (two_meant refer datum x y e f)
terminals_meant part.Width refer datum x y e f = ap (λ ys. left_token ∷ word_token (codes "WIDTH") ∷ ys) e
terminals_meant part.Period refer datum x y e f = ap (λ ys. left_token ∷ word_token (codes "PERIOD") ∷ ys) e

pub check_meant : (vs : List Variable) (e : CheckEntry) → IsCheck vs e → flat_map meant (check_pieces vs e) ≡ check_meanings vs e
check_meant vs e h =
    meant_joined (terminals_pieces e.key.part (event_pieces vs e.key.refer) (event_pieces vs (datum_of e.key))) (blank ∷ (value_pieces (signed_decimal e.limit) ++ right ∷ []))
    (terminals_meant e.key.part (event_pieces vs e.key.refer) (event_pieces vs (datum_of e.key)) (event_meanings vs e.key.refer) (event_meanings vs (datum_of e.key)) (event_meant vs e.key.refer h.refer) (event_meant vs (datum_of e.key) h.datum))
    (in_front (value_pieces (signed_decimal e.limit)) (value_meant (signed_decimal e.limit) (number_meant e.limit h.limit)))
