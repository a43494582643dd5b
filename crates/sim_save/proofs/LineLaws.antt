-- The lines of a text.
use Rattle.std.proofs.Common.{◌≡◌, ℕ, ℤ, true, false, inl, inr, length, List, [], ◌∷◌, ◌++◌, map, refl, sym, ◌∙◌, ap, subst}
use Rattle.std.specs.Prelude.{◌==◌, codes, decimal, if◌then◌else◌}
use Rattle.std.specs.Fmt.{signed_decimal}
use Rattle.std.specs.declared.option.Option.{Option}
use Rattle.std.specs.declared.option.Option.TheVariants.{Some, None}
use Rattle.std.proofs.lemmas.Bool.{cases_Bool, or_parts}
use Rattle.std.proofs.lemmas.List.{append_assoc}
use Rattle.sg_logic.specs.declared.values.Value.{Value}
use Rattle.sg_model.specs.Machine.{Stamp}
use Rattle.time_checks.specs.declared.latest.Latest.{Latest}
use Rattle.sim_rounds.specs.Moments.{Moment, Pending}
use Rattle.wave_out.specs.Vcd.{value_letter}
use Rattle.sim_save.specs.Breaks.{IsWord, event_text}
use Rattle.sim_save.specs.Faults.{lines_in, with_byte}
use Rattle.sim_save.specs.Lines.{change_words, check_line, end_line, event_word, joined, last_line, letter, net_line, net_lines, number, pending_line, save_lines, udp_line, word}
use Rattle.sim_save.specs.Steps.{Counts, counters_line, counts_line}
use Rattle.sim_save.proofs.WordLaws.{decimal_is_word, event_is, event_is_word, letter_is_word, signed_is_word}

-- no LF
abbrev pub NoFeed : List ℕ → Type 0
NoFeed [] = Unit {0}
NoFeed (b ∷ bs) = ((b == 10) ≡ false) × NoFeed bs

feed_free : (a b : List ℕ) → NoFeed a → NoFeed b → NoFeed (a ++ b)
feed_free [] b ha hb = hb
feed_free (x ∷ xs) b ha hb = (ha.0, feed_free xs b ha.1 hb)

word_no_feed : (w : List ℕ) → IsWord w → NoFeed w
word_no_feed [] h = tt
word_no_feed (b ∷ bs) h = ((or_parts (b == 32) (b == 10) h.0).1, word_no_feed bs h.1)

-- a word behind a blank
spaced : (w : List ℕ) → IsWord w → NoFeed (word w)
spaced w h = (refl, word_no_feed w h)

number_no_feed : (n : ℕ) → NoFeed (number n)
number_no_feed n = spaced (decimal n) (decimal_is_word n)

letter_no_feed : (v : Value) → NoFeed (letter v)
letter_no_feed v = spaced (value_letter v ∷ []) (letter_is_word v)

event_no_feed : (e : Option ℕ) → NoFeed (event_word e)
event_no_feed e = subst NoFeed (sym (event_is e)) (spaced (event_text e) (event_is_word e))

change_no_feed : (s : Option Stamp) → NoFeed (change_words s)
change_no_feed None = tt
change_no_feed (Some s) = feed_free (number s.time) (letter s.before) (number_no_feed s.time) (letter_no_feed s.before)

-- one line: an LF at its end and nowhere else
pub record IsLine (text : List ℕ) : Type 0 where
  pub words : List ℕ
  pub is : text ≡ words ++ 10 ∷ []
  pub no_feed : NoFeed words

pub counts_is_line : (h : Counts) → IsLine (counts_line h)
counts_is_line h =
    let a = codes "save" ++ number h.time in
    let b = a ++ word (signed_decimal h.tick) in
    let c = b ++ number h.nets in
    let d = c ++ number h.elements in
    let e = d ++ number h.udps in
    let na = feed_free (codes "save") (number h.time) (refl, (refl, (refl, (refl, tt)))) (number_no_feed h.time) in
    let nb = feed_free a (word (signed_decimal h.tick)) na (spaced (signed_decimal h.tick) (signed_is_word h.tick)) in
    let nc = feed_free b (number h.nets) nb (number_no_feed h.nets) in
    let nd = feed_free c (number h.elements) nc (number_no_feed h.elements) in
    let ne = feed_free d (number h.udps) nd (number_no_feed h.udps) in
    record { words = e ++ number h.checks; is = refl; no_feed = feed_free e (number h.checks) ne (number_no_feed h.checks) }

pub net_is_line : (v : Value) (s : Option Stamp) → IsLine (net_line v s)
net_is_line v s =
    let a = codes "n" ++ letter v in
    let na = feed_free (codes "n") (letter v) (refl, tt) (letter_no_feed v) in
    record { words = a ++ change_words s; is = refl; no_feed = feed_free a (change_words s) na (change_no_feed s) }

pub pending_is_line : (p : Pending) → IsLine (pending_line p)
pending_is_line p =
    let a = codes "p" ++ number p.driver in
    let b = a ++ number p.time in
    let na = feed_free (codes "p") (number p.driver) (refl, tt) (number_no_feed p.driver) in
    let nb = feed_free a (number p.time) na (number_no_feed p.time) in
    record { words = b ++ letter p.value; is = refl; no_feed = feed_free b (letter p.value) nb (letter_no_feed p.value) }

pub udp_is_line : (v : Value) → IsLine (udp_line v)
udp_is_line v = record { words = codes "u" ++ letter v; is = refl; no_feed = feed_free (codes "u") (letter v) (refl, tt) (letter_no_feed v) }

pub check_is_line : (l : Latest) → IsLine (check_line l)
check_is_line l =
    let a = codes "c" ++ event_word l.refer in
    let na = feed_free (codes "c") (event_word l.refer) (refl, tt) (event_no_feed l.refer) in
    record { words = a ++ event_word l.datum; is = refl; no_feed = feed_free a (event_word l.datum) na (event_no_feed l.datum) }

pub counters_is_line : (l e : ℕ) → IsLine (counters_line l e)
counters_is_line l e =
    let a = codes "l" ++ number l in
    let na = feed_free (codes "l") (number l) (refl, tt) (number_no_feed l) in
    record { words = a ++ number e; is = refl; no_feed = feed_free a (number e) na (number_no_feed e) }

pub end_is_line : IsLine end_line
end_is_line = record { words = codes "end"; is = refl; no_feed = (refl, (refl, (refl, tt))) }

-- ---- texts of lines

abbrev pub AreLines : List (List ℕ) → Type 0
AreLines [] = Unit {0}
AreLines (l ∷ ls) = IsLine l × AreLines ls

pub lines_append : (ls ms : List (List ℕ)) → AreLines ls → AreLines ms → AreLines (ls ++ ms)
lines_append [] ms h k = k
lines_append (l ∷ ls) ms h k = (h.0, lines_append ls ms h.1 k)

lines_map : {A : Type 0} (f : A → List ℕ) → ((x : A) → IsLine (f x)) → (xs : List A) → AreLines (map f xs)
lines_map f h [] = tt
lines_map f h (x ∷ xs) = (h x, lines_map f h xs)

nets_are_lines : (vs : List Value) (ss : List (Option Stamp)) → AreLines (net_lines vs ss)
nets_are_lines [] ss = tt
nets_are_lines (v ∷ vs) [] = tt
nets_are_lines (v ∷ vs) (s ∷ ss) = (net_is_line v s, nets_are_lines vs ss)

pub saved_are_lines : (tick : ℤ) (elements : ℕ) (m : Moment) → AreLines (save_lines tick elements m)
saved_are_lines tick elements m =
    let head : Counts = record { time = m.time; tick = tick; nets = length m.nets; elements = elements; udps = length m.udps; checks = length m.latest } in
    let n = net_lines m.nets m.stamps in
    let p = n ++ map pending_line m.pending in
    let u = p ++ map udp_line m.udps in
    let k = u ++ map check_line m.latest in
    let hp = lines_append n (map pending_line m.pending) (nets_are_lines m.nets m.stamps) (lines_map pending_line pending_is_line m.pending) in
    let hu = lines_append p (map udp_line m.udps) hp (lines_map udp_line udp_is_line m.udps) in
    let hk = lines_append u (map check_line m.latest) hu (lines_map check_line check_is_line m.latest) in
    (counts_is_line head, lines_append k (last_line m ∷ end_line ∷ []) hk (counters_is_line m.last m.evaluations, (end_is_line, tt)))

line_first : (words rest : List ℕ) → NoFeed words → lines_in ((words ++ 10 ∷ []) ++ rest) ≡ (words ++ 10 ∷ []) ∷ lines_in rest
line_first [] rest h = refl
line_first (b ∷ bs) rest h =
    let behind = lines_in ((bs ++ 10 ∷ []) ++ rest) in
    ap (λ t. if t then ((b ∷ []) ∷ behind) else with_byte b behind) h.0 ∙ ap (with_byte b) (line_first bs rest h.1)

pub lines_of_joined : (lines : List (List ℕ)) (rest : List ℕ) → AreLines lines → lines_in (joined lines ++ rest) ≡ lines ++ lines_in rest
lines_of_joined [] rest h = refl
lines_of_joined (l ∷ ls) rest h =
    let one = h.0 in
    let behind = joined ls ++ rest in
    ap lines_in (append_assoc l (joined ls) rest) ∙ (ap (λ t. lines_in (t ++ behind)) one.is ∙ (line_first one.words behind one.no_feed ∙ (ap (λ t. t ∷ lines_in behind) (sym one.is) ∙ ap (λ ts. l ∷ ts) (lines_of_joined ls rest h.1))))

-- the first line of a text that has one
pub record FirstLine (text : List ℕ) : Type 0 where
  pub first : List ℕ
  pub after : List (List ℕ)
  pub rest : List ℕ
  pub lines : lines_in text ≡ first ∷ after
  pub is : text ≡ first ++ rest

feed_first : (b : ℕ) (bs : List ℕ) → (b == 10) ≡ true → FirstLine (b ∷ bs)
feed_first b bs e = record { first = b ∷ []; after = lines_in bs; rest = bs; lines = ap (λ t. if t then ((b ∷ []) ∷ lines_in bs) else with_byte b (lines_in bs)) e; is = refl }

byte_first : (b c : ℕ) (cs : List ℕ) → (b == 10) ≡ false → FirstLine (c ∷ cs) → FirstLine (b ∷ c ∷ cs)
byte_first b c cs e f = record {
  first = b ∷ f.first;
  after = f.after;
  rest = f.rest;
  lines = ap (λ t. if t then ((b ∷ []) ∷ lines_in (c ∷ cs)) else with_byte b (lines_in (c ∷ cs))) e ∙ ap (with_byte b) f.lines;
  is = ap (λ t. b ∷ t) f.is;
}

last_byte : (b : ℕ) → (b == 10) ≡ false → FirstLine (b ∷ [])
last_byte b e = record { first = b ∷ []; after = []; rest = []; lines = ap (λ t. if t then ((b ∷ []) ∷ []) else with_byte b []) e; is = refl }

pub first_line : (b : ℕ) (bs : List ℕ) → FirstLine (b ∷ bs)
first_line b [] = elim (cases_Bool (b == 10)) [ inl e ↦ feed_first b [] e | inr e ↦ last_byte b e ]
first_line b (c ∷ cs) = let more = first_line c cs in elim (cases_Bool (b == 10)) [ inl e ↦ feed_first b (c ∷ cs) e | inr e ↦ byte_first b c cs e more ]
