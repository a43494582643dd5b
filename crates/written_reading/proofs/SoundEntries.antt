-- The pieces of entries are the longest in their places.
use Rattle.std.proofs.Common.{ℕ, ◌^◌, ◌<◌, ℤ, pos, negsuc, List, [], ◌∷◌, ◌++◌, length, refl, arith}
use Rattle.std.specs.Prelude.{Option, Some, None, codes, decimal, flat_map}
use Rattle.std.specs.Fmt.{signed_decimal}
use Rattle.std.specs.List.{AllByRecursion}
use Rattle.sg_logic.specs.declared.values.Value.{Value}
use Rattle.sg_logic.specs.declared.values.Value.TheVariants.{Zero, One, X, Z}
use Rattle.cond_expr.specs.declared.tokens.Tok.TheVariants as tok
use Rattle.cond_expr.specs.Token.{Tok}
use Rattle.sg_circuit.specs.Circuit.{Variable}
use Rattle.sdf_lex.specs.Bytes.{class_of}
use Rattle.sdf_lex.specs.Pieces.{Piece, word_piece, spellings}
use Rattle.sdf_lex.specs.Words.{Fits}
use Rattle.sdf_tree.specs.declared.tree.Edge.{Edge}
use Rattle.sdf_tree.specs.declared.tree.Edge.TheVariants as edge
use Rattle.sdf_tree.specs.Written.{PathCondition, always, otherwise, if_words}
use Rattle.written_model.specs.declared.parts.Part.{Part}
use Rattle.written_model.specs.declared.parts.Part.TheVariants as part
use Rattle.written_model.specs.Entries.{Numbers, LegEntry, PathEntry, EventKey, CheckEntry}
use Rattle.written_model.specs.Names.{name_of}
use Rattle.written_model.specs.Text.{value_letter, edge_text}
use Rattle.written_model.specs.Tree.{datum_of}
use Rattle.written_reading.specs.Meanings.{index_in_front}
use Rattle.written_reading.specs.Named.{IsIndex}
use Rattle.written_reading.specs.Pieces.{plain_letters, bit_letters, word, blank, left, right, words_pieces, port_pieces, terminal_pieces, conditional_pieces, event_pieces, value_pieces, delay_pieces, leg_pieces, io_path_pieces, under_condition, path_pieces, two_terminals, terminals_pieces, check_pieces}
use Rattle.written_reading.proofs.DelayTokens.{AreShort}
use Rattle.written_reading.proofs.ByteClasses.{IsStopped}
use Rattle.written_reading.proofs.Letters.{IsSomeIndex, fits_safe, fits_bit, fits_number, decimal_safe}
use Rattle.written_reading.proofs.NumberTexts.{some_digit}
use Rattle.written_reading.proofs.SoundPieces.{IsSound, AreSound, keyword_sound, sound_append}
use Rattle.written_reading.proofs.Writable.{IsNameOf, IsPort, IsToken, IsClause, IsPathClause, IsEventClause, IsLeg, IsPath, IsEvent, IsCheck}

-- sound wherever a word may end
abbrev pub IsEnded : List Piece → Type 0
IsEnded ps = (after : List ℕ) → IsStopped after → AreSound after ps

-- sound whatever stands behind
abbrev pub IsClosed : List Piece → Type 0
IsClosed ps = (after : List ℕ) → AreSound after ps

pub closed_append : (ps qs : List Piece) → IsClosed ps → IsClosed qs → IsClosed (ps ++ qs)
closed_append ps qs h k = λ after. sound_append after ps qs (h (spellings qs ++ after)) (k after)

-- ---- words

fitting : (text : List ℕ) → 0 < length text → ((after : List ℕ) → Fits None (plain_letters text) after) → IsSound (word text)
fitting [] lt f = absurd (omega arith)
fitting (b ∷ bs) lt f = λ after s. f after

decimal_sound : (n : ℕ) → n < 10 ^ 18 → IsSound (word (decimal n))
decimal_sound n l = fitting (decimal n) (some_digit n l) (λ after. fits_safe None (plain_letters (decimal n)) after (decimal_safe n l))

limit_sound : (z : ℤ) → IsIndex z → IsSound (word (signed_decimal z))
limit_sound (pos n) l = decimal_sound n l
limit_sound (negsuc n) l = λ after s. fits_number (negsuc n) after l

bit_of : (name : List ℕ) (index : Option ℤ) → IsNameOf name → IsSomeIndex index → IsSound (word_piece (bit_letters name index))
bit_of [] index h k = absurd (h.0 refl)
bit_of (b ∷ bs) index h k = λ after s. fits_bit (b ∷ bs) index after h.1 k

constant_sound : (v : Value) → IsSound (word (codes "1'b" ++ value_letter v ∷ []))
unfolding class_of
constant_sound Zero = keyword_sound (codes "1'b" ++ 48 ∷ []) refl
constant_sound One = keyword_sound (codes "1'b" ++ 49 ∷ []) refl
constant_sound X = keyword_sound (codes "1'b" ++ 120 ∷ []) refl
constant_sound Z = keyword_sound (codes "1'b" ++ 122 ∷ []) refl

negedge_sound : IsSound (word (codes "negedge"))
unfolding class_of
negedge_sound = keyword_sound (codes "negedge") refl

edge_sound : (e : Edge) → IsSound (word (edge_text e))
unfolding class_of
edge_sound edge.Posedge = keyword_sound (codes "posedge") refl
edge_sound _ = negedge_sound

-- ---- conditions

pub front_index : (ts : List Tok) → AllByRecursion IsToken ts → IsSomeIndex (index_in_front ts)
front_index [] h = tt
front_index (tok.Name name ∷ ts) h = tt
front_index (tok.Index i ∷ ts) h = h.0
front_index (tok.Const v ∷ ts) h = tt
front_index (tok.Op o ∷ ts) h = tt
front_index (tok.Left ∷ ts) h = tt
front_index (tok.Right ∷ ts) h = tt

words_closed : (ts : List Tok) → AllByRecursion IsToken ts → IsClosed (words_pieces ts)
words_closed [] h = λ after. tt
words_closed (tok.Name name ∷ ts) h = λ after. (bit_of name (index_in_front ts) h.0 (front_index ts h.1), refl, (refl, tt, words_closed ts h.1 after))
words_closed (tok.Index i ∷ ts) h = λ after. words_closed ts h.1 after
words_closed (tok.Const v ∷ ts) h = λ after. (constant_sound v, refl, (refl, tt, words_closed ts h.1 after))
words_closed (tok.Op o ∷ ts) h = λ after. ((o, refl), refl, (refl, tt, words_closed ts h.1 after))
words_closed (tok.Left ∷ ts) h = λ after. (refl, tt, (refl, tt, words_closed ts h.1 after))
words_closed (tok.Right ∷ ts) h = λ after. (refl, tt, (refl, tt, words_closed ts h.1 after))

-- ---- ports and terminals

-- what is closed by a parenthesis
in_front : (ps : List Piece) → IsEnded ps → IsClosed (ps ++ right ∷ [])
in_front ps h = λ after. sound_append after ps (right ∷ []) (h (41 ∷ after) refl) (refl, tt, tt)

-- and what goes on behind a blank
blank_behind : (ps qs : List Piece) → IsEnded ps → (after : List ℕ) → AreSound after qs → AreSound after (ps ++ blank ∷ qs)
blank_behind ps qs h after k = sound_append after ps (blank ∷ qs) (h (32 ∷ (spellings qs ++ after)) refl) (refl, tt, k)

port_ended : (vs : List Variable) (net : ℕ) → IsPort vs net → IsEnded (port_pieces vs net)
port_ended vs net h = λ after s. (bit_of (name_of vs net).name (name_of vs net).index h.name h.index, s, tt)

terminal_ended : (e : Option Edge) (port : List Piece) → IsEnded port → IsEnded (terminal_pieces e port)
terminal_ended None port h = h
terminal_ended (Some e) port h = λ after s. (refl, tt, (edge_sound e, refl, (refl, tt, in_front port h after)))

-- a keyword behind a parenthesis, and a blank
opened : (keyword : List ℕ) (ps : List Piece) → IsSound (word keyword) → (after : List ℕ) → AreSound after ps → AreSound after (left ∷ word keyword ∷ blank ∷ ps)
opened keyword ps k after h = (refl, tt, (k, refl, (refl, tt, h)))

cond_sound : IsSound (word (codes "COND"))
unfolding class_of
cond_sound = keyword_sound (codes "COND") refl

under_words : (words : List Tok) (ps : List Piece) → IsClause words → IsEnded ps → IsClosed (conditional_pieces (Some words) ps)
under_words words ps c h =
    λ after. opened (codes "COND") (words_pieces words ++ (ps ++ right ∷ [])) cond_sound after (closed_append (words_pieces words) (ps ++ right ∷ []) (words_closed words c.tokens) (in_front ps h) after)

conditional_ended : (words : Option (List Tok)) (ps : List Piece) → IsEventClause words → IsEnded ps → IsEnded (conditional_pieces words ps)
conditional_ended None ps c h = h
conditional_ended (Some words) ps c h = λ after s. under_words words ps c h after

event_ended : (vs : List Variable) (k : EventKey) → IsEvent vs k → IsEnded (event_pieces vs k)
event_ended vs k h = conditional_ended k.condition (terminal_pieces k.edge (port_pieces vs k.net)) h.condition (terminal_ended k.edge (port_pieces vs k.net) (port_ended vs k.net h.port))

-- ---- values and delays

blank_value : (number : List ℕ) (ps : List Piece) → IsSound (word number) → (after : List ℕ) → AreSound after ps → AreSound after (value_pieces number ++ ps)
blank_value number ps h after k = (refl, tt, (h, refl, (refl, tt, k)))

delay_closed : (n : Numbers) → AreShort n → IsClosed (delay_pieces n)
delay_closed n h =
    let d = decimal_sound n.delay h.delay in
    let r = decimal_sound n.reject h.reject in
    let e = decimal_sound n.error h.error in
    λ after. (refl, tt, (refl, tt, (refl, tt, (d, refl, (refl, tt, (refl, tt, (refl, tt, (r, refl, (refl, tt, (refl, tt, (refl, tt, (e, refl, (refl, tt, (refl, tt, tt))))))))))))))

delays_closed : (ns : List Numbers) → AllByRecursion AreShort ns → IsClosed (flat_map delay_pieces ns)
delays_closed [] h = λ after. tt
delays_closed (n ∷ ns) h = closed_append (delay_pieces n) (flat_map delay_pieces ns) (delay_closed n h.0) (delays_closed ns h.1)

delays_stop : (ns : List Numbers) (after : List ℕ) → IsStopped (spellings (flat_map delay_pieces ns ++ right ∷ []) ++ after)
delays_stop [] after = refl
delays_stop (n ∷ ns) after = refl

-- a port, its delays and a closing parenthesis
port_delays : (vs : List Variable) (net : ℕ) (ns : List Numbers) → IsPort vs net → AllByRecursion AreShort ns → IsClosed (port_pieces vs net ++ (flat_map delay_pieces ns ++ right ∷ []))
port_delays vs net ns p h =
    λ after. sound_append after (port_pieces vs net) (flat_map delay_pieces ns ++ right ∷ []) (port_ended vs net p (spellings (flat_map delay_pieces ns ++ right ∷ []) ++ after) (delays_stop ns after))
    (closed_append (flat_map delay_pieces ns) (right ∷ []) (delays_closed ns h) (λ a. (refl, tt, tt)) after)

-- ---- entries

port_sound : IsSound (word (codes "PORT"))
unfolding class_of
port_sound = keyword_sound (codes "PORT") refl

io_path_sound : IsSound (word (codes "IOPATH"))
unfolding class_of
io_path_sound = keyword_sound (codes "IOPATH") refl

else_sound : IsSound (word (codes "CONDELSE"))
unfolding class_of
else_sound = keyword_sound (codes "CONDELSE") refl

pub leg_closed : (vs : List Variable) (e : LegEntry) → IsLeg vs e → IsClosed (leg_pieces vs e)
leg_closed vs e h = λ after. opened (codes "PORT") (port_pieces vs e.net ++ (flat_map delay_pieces e.numbers ++ right ∷ [])) port_sound after (port_delays vs e.net e.numbers h.port h.numbers after)

io_path_closed : (vs : List Variable) (e : PathEntry) → IsPath vs e → IsClosed (io_path_pieces vs e)
io_path_closed vs e h =
    let input = terminal_pieces e.key.edge (port_pieces vs e.key.input) in
    let output = port_pieces vs e.key.output ++ (flat_map delay_pieces e.numbers ++ right ∷ []) in
    λ after. opened (codes "IOPATH") (input ++ blank ∷ output) io_path_sound after
    (blank_behind input output (terminal_ended e.key.edge (port_pieces vs e.key.input) (port_ended vs e.key.input h.input)) after (port_delays vs e.key.output e.numbers h.output h.numbers after))

under_condition_closed : (c : PathCondition) (ps : List Piece) → IsPathClause c → IsClosed ps → IsClosed (under_condition c ps)
under_condition_closed always ps c h = h
under_condition_closed (if_words words) ps c h = under_words words ps c (λ after s. h after)
under_condition_closed otherwise ps c h = λ after. opened (codes "CONDELSE") (ps ++ right ∷ []) else_sound after (in_front ps (λ a s. h a) after)

pub path_closed : (vs : List Variable) (e : PathEntry) → IsPath vs e → IsClosed (path_pieces vs e)
path_closed vs e h = under_condition_closed e.key.condition (io_path_pieces vs e) h.condition (io_path_closed vs e h)

-- ---- checks

two_ended : (keyword : List ℕ) (first second : List Piece) → IsSound (word keyword) → IsEnded first → IsEnded second → IsEnded (two_terminals keyword first second)
two_ended keyword first second k f h = λ after s. opened keyword (first ++ blank ∷ second) k after (blank_behind first second f after (h after s))

terminals_ended : (p : Part) (refer datum : List Piece) → IsEnded refer → IsEnded datum → IsEnded (terminals_pieces p refer datum)
unfolding class_of
terminals_ended part.Setup refer datum r d = two_ended (codes "SETUP") datum refer (keyword_sound (codes "SETUP") refl) d r
terminals_ended part.Hold refer datum r d = two_ended (codes "HOLD") datum refer (keyword_sound (codes "HOLD") refl) d r
terminals_ended part.Recovery refer datum r d = two_ended (codes "RECOVERY") refer datum (keyword_sound (codes "RECOVERY") refl) r d
terminals_ended part.Removal refer datum r d = two_ended (codes "REMOVAL") refer datum (keyword_sound (codes "REMOVAL") refl) r d
terminals_ended part.Skew refer datum r d = two_ended (codes "SKEW") refer datum (keyword_sound (codes "SKEW") refl) r d
terminals_ended part.Width refer datum r d = λ after s. opened (codes "WIDTH") refer (keyword_sound (codes "WIDTH") refl) after (r after s)
terminals_ended part.Period refer datum r d = λ after s. opened (codes "PERIOD") refer (keyword_sound (codes "PERIOD") refl) after (r after s)

pub check_closed : (vs : List Variable) (e : CheckEntry) → IsCheck vs e → IsClosed (check_pieces vs e)
check_closed vs e h =
    let refer = event_pieces vs e.key.refer in
    let datum = event_pieces vs (datum_of e.key) in
    λ after. blank_behind (terminals_pieces e.key.part refer datum) (value_pieces (signed_decimal e.limit) ++ right ∷ []) (terminals_ended e.key.part refer datum (event_ended vs e.key.refer h.refer) (event_ended vs (datum_of e.key) h.datum)) after
    (blank_value (signed_decimal e.limit) (right ∷ []) (limit_sound e.limit h.limit) after (refl, tt, tt))
