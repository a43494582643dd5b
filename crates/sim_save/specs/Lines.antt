-- The text of a saved moment: a body twice, so that a changed byte shows.
use Rattle.std.specs.Prelude.{ℕ, ℤ, ◌++◌, List, [], ◌∷◌, codes, decimal, flat_map, length, map}
use Rattle.std.specs.Fmt.{signed_decimal}
use Rattle.std.specs.declared.option.Option.{Option}
use Rattle.std.specs.declared.option.Option.TheVariants.{Some, None}
use Rattle.sg_logic.specs.declared.values.Value.{Value}
use Rattle.sg_model.specs.Machine.{Stamp}
use Rattle.sg_circuit.specs.Circuit.{Circuit}
use Rattle.time_checks.specs.declared.latest.Latest.{Latest}
use Rattle.sim_rounds.specs.Moments.{Moment, Pending}
use Rattle.wave_out.specs.Texts.{line}
use Rattle.wave_out.specs.Vcd.{value_letter}

-- a word behind a blank
abbrev pub word : List ℕ → List ℕ
word text = codes " " ++ text

abbrev pub number : ℕ → List ℕ
number n = word (decimal n)

abbrev pub letter : Value → List ℕ
letter value = word (value_letter value ∷ [])

-- the time, the tick's power of ten, and the numbers of nets, elements, elements of primitives and timing checks
abbrev pub head_line : ℤ → ℕ → Moment → List ℕ
head_line tick elements m =
    line (codes "save" ++ number m.time ++ word (signed_decimal tick) ++ number (length m.nets) ++ number elements ++ number (length m.udps) ++ number (length m.latest))

-- a net's value; where it changed, the time of its last change and the value before that
abbrev pub change_words : Option Stamp → List ℕ
change_words None = []
change_words (Some s) = number s.time ++ letter s.before

abbrev pub net_line : Value → Option Stamp → List ℕ
net_line value stamp = line (codes "n" ++ letter value ++ change_words stamp)

abbrev pub net_lines : List Value → List (Option Stamp) → List (List ℕ)
net_lines [] stamps = []
net_lines (v ∷ vs) [] = []
net_lines (v ∷ vs) (s ∷ ss) = net_line v s ∷ net_lines vs ss

-- a pending transition
abbrev pub pending_line : Pending → List ℕ
pending_line p = line (codes "p" ++ number p.driver ++ number p.time ++ letter p.value)

-- the state of a primitive's element
abbrev pub udp_line : Value → List ℕ
udp_line state = line (codes "u" ++ letter state)

-- the latest events of a timing check
abbrev pub event_word : Option ℕ → List ℕ
event_word None = codes " -"
event_word (Some time) = number time

abbrev pub check_line : Latest → List ℕ
check_line l = line (codes "c" ++ event_word l.refer ++ event_word l.datum)

-- the last time that changed a net, and the number of evaluations
abbrev pub last_line : Moment → List ℕ
last_line m = line (codes "l" ++ number m.last ++ number m.evaluations)

abbrev pub end_line : List ℕ
end_line = line (codes "end")

abbrev pub save_lines : ℤ → ℕ → Moment → List (List ℕ)
save_lines tick elements m =
    head_line tick elements m ∷ (net_lines m.nets m.stamps ++ map pending_line m.pending ++ map udp_line m.udps ++ map check_line m.latest ++ last_line m ∷ end_line ∷ [])

-- lines behind one another
abbrev pub joined : List (List ℕ) → List ℕ
joined lines = flat_map (λ l. l) lines

abbrev pub body : ℤ → ℕ → Moment → List ℕ
body tick elements m = joined (save_lines tick elements m)

abbrev pub save_text : Circuit → Moment → List ℕ
save_text circuit m = body circuit.tick (length circuit.elements) m ++ body circuit.tick (length circuit.elements) m
