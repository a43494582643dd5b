-- The grammar of the delays of cells (IEEE 1497-2001, annex A).
use Rattle.std.specs.Prelude.{ℕ, suc, Bool, true, false, ◌||◌, ◌==◌, List, [], ◌∷◌, ◌++◌, Option, Some, None, is_some}
use Rattle.cond_expr.specs.Token.{Tok}
use Rattle.grammar.specs.Rule.{◌∙∙◌, ◌▸◌, ◌◂◌, mapped, named, no_kind, only_if}
use Rattle.grammar.specs.States.{many_by}
use Rattle.sg_text.specs.declared.places.Place.{Place}
use Rattle.sdf_tree.specs.declared.keywords.Keyword.{Keyword}
use Rattle.sdf_tree.specs.declared.keywords.Keyword.TheVariants as keyword
use Rattle.sdf_tree.specs.declared.tree.Edge.{Edge}
use Rattle.sdf_tree.specs.declared.words.Divider.{Divider}
use Rattle.sdf_tree.specs.Conditions.{condition, condition_continues}
use Rattle.sdf_tree.specs.Kinds.{Kind, kind_of, is_left, is_right, is_select, is_port, is_word, is_word_that, names}
use Rattle.sdf_tree.specs.Rules.{Grammar, token, mark, word, placed, either, optional, many}
use Rattle.sdf_tree.specs.Values.{text, value, delay_rest, may_come, may_end, list, port, edge_word}
use Rattle.sdf_tree.specs.Written.{Port, Terminal, PathCondition, always, otherwise, if_words, Value, Limits, Delay, Body, io_path, port_delay, interconnect, device, net_delay, Entry, Group, absolute, increment, path_pulse}

-- ---- terminals

abbrev pub plain_terminal : Port → Terminal
plain_terminal p = record { condition = None; edge = None; port = p }

abbrev pub edge_terminal : Edge × Port → Terminal
edge_terminal x = record { condition = None; edge = Some x.0; port = x.1 }

-- spec = port | "(" edge port ")"
unfoldable pub spec_parts : Divider → Grammar Terminal
spec_parts divider = either (mapped plain_terminal (port divider)) (mapped edge_terminal (mark is_left ▸ (edge_word ∙∙ (port divider ◂ mark is_right))))

abbrev pub spec_starts : Divider → Kind → Bool
spec_starts divider k = is_port divider k || is_left k

abbrev pub spec : Divider → Grammar Terminal
spec divider = named (spec_starts divider) is_select (spec_parts divider)

-- COND [ text ] condition, where the text has no effect
unfoldable pub cond_parts : Grammar (List Tok)
cond_parts = word keyword.Cond ▸ (optional text ▸ condition)

abbrev pub cond : Grammar (List Tok)
cond = named (is_word keyword.Cond) condition_continues cond_parts

-- ---- paths

-- what stands in the list of an IOPATH
pub data TailPart : Type 0 where
  a_retain : List Delay → TailPart
  a_delay : Delay → TailPart

abbrev pub retains_of : List TailPart → List Delay
retains_of [] = []
retains_of (a_retain ds ∷ ps) = ds ++ retains_of ps
retains_of (a_delay d ∷ ps) = retains_of ps

abbrev pub delays_of : List TailPart → List Delay
delays_of [] = []
delays_of (a_retain ds ∷ ps) = delays_of ps
delays_of (a_delay d ∷ ps) = d ∷ delays_of ps

-- behind the parenthesis of such a part: a RETAIN, or the rest of a delay
pub data TailRest : Type 0 where
  retain_rest : List Delay → TailRest
  value_rest : Value × Option Limits → TailRest

abbrev pub tail_part_of : Place → TailRest → TailPart
tail_part_of place (retain_rest ds) = a_retain ds
tail_part_of place (value_rest x) = a_delay (record { place = place; delay = x.0; limits = x.1 })

-- RETAIN list ")" before the first delay, or the rest of a delay
unfoldable pub tail_rest_parts : (limited : Bool) → ℕ → Grammar TailRest
tail_rest_parts limited n = either (mapped retain_rest (only_if (n == 0) (word keyword.Retain ▸ (list limited ◂ mark is_right)))) (mapped value_rest delay_rest)

-- a part behind so many delays
abbrev pub tail_part : (limited : Bool) → ℕ → Grammar TailPart
tail_part limited n = only_if (may_come limited n) (mapped (λ x. tail_part_of x.0 x.1) (placed (mark is_left ▸ tail_rest_parts limited n)))

abbrev pub count_after : ℕ → TailPart → ℕ
count_after n (a_retain ds) = n
count_after n (a_delay d) = suc n

-- tail = { "(" RETAIN list ")" } list
unfoldable pub tail_parts : Bool → Grammar (List TailPart)
tail_parts limited = many_by kind_of is_left (tail_part limited) count_after (may_end limited) 0

abbrev pub tail : Bool → Grammar (List Delay × List Delay)
tail limited = named is_left is_left (mapped (λ ps. (retains_of ps, delays_of ps)) (tail_parts limited))

abbrev pub Path : Type 0
Path = Terminal × (Port × (List Delay × List Delay))

-- path = IOPATH spec port tail
unfoldable pub path_parts : (limited : Bool) → Divider → Grammar Path
path_parts limited divider = word keyword.IoPath ▸ (spec divider ∙∙ (port divider ∙∙ tail limited))

abbrev pub path : (limited : Bool) → Divider → Grammar Path
path limited divider = named (is_word keyword.IoPath) is_left (path_parts limited divider)

-- "(" path ")"
unfoldable pub inner_path_parts : (limited : Bool) → Divider → Grammar Path
inner_path_parts limited divider = mark is_left ▸ (path limited divider ◂ mark is_right)

abbrev pub inner_path : (limited : Bool) → Divider → Grammar Path
inner_path limited divider = named is_left no_kind (inner_path_parts limited divider)

abbrev pub path_body : PathCondition → Path → Body
path_body condition p = io_path condition p.0 p.1.0 p.1.1.0 p.1.1.1

-- ---- entries

-- net-body = PORT port list | INTERCONNECT port port list | DEVICE [ port ] list | NETDELAY port list
unfoldable pub net_body_parts : (limited : Bool) → Divider → Grammar Body
net_body_parts limited divider =
    either (mapped (λ x. port_delay x.0 x.1) (word keyword.Port ▸ (port divider ∙∙ list limited)))
    (either (mapped (λ x. interconnect x.0 x.1.0 x.1.1) (word keyword.Interconnect ▸ (port divider ∙∙ (port divider ∙∙ list limited))))
    (either (mapped (λ x. device x.0 x.1) (word keyword.Device ▸ (optional (port divider) ∙∙ list limited))) (mapped (λ x. net_delay x.0 x.1) (word keyword.NetDelay ▸ (port divider ∙∙ list limited)))))

abbrev pub net_body_starts : Kind → Bool
net_body_starts k = is_word keyword.Port k || (is_word keyword.Interconnect k || (is_word keyword.Device k || is_word keyword.NetDelay k))

abbrev pub net_body : (limited : Bool) → Divider → Grammar Body
net_body limited divider = named net_body_starts is_left (net_body_parts limited divider)

-- body = path | COND [ text ] condition "(" path ")" | CONDELSE "(" path ")" | net-body
unfoldable pub body_parts : (limited : Bool) → Divider → Grammar Body
body_parts limited divider =
    either (mapped (path_body always) (path limited divider))
    (either (mapped (λ x. path_body (if_words x.0) x.1) (cond ∙∙ inner_path limited divider))
    (either (mapped (path_body otherwise) (word keyword.CondElse ▸ inner_path limited divider)) (net_body limited divider)))

abbrev pub body_starts : Kind → Bool
body_starts k = is_word keyword.IoPath k || (is_word keyword.Cond k || (is_word keyword.CondElse k || net_body_starts k))

abbrev pub body : (limited : Bool) → Divider → Grammar Body
body limited divider = named body_starts is_left (body_parts limited divider)

-- entry = "(" body ")"
unfoldable pub entry_parts : (limited : Bool) → Divider → Grammar Entry
entry_parts limited divider = mapped (λ x. record { place = x.0; body = x.1 }) (placed (mark is_left ▸ (body limited divider ◂ mark is_right)))

abbrev pub entry : (limited : Bool) → Divider → Grammar Entry
entry limited divider = named is_left no_kind (entry_parts limited divider)

-- ---- groups

-- whether the limits of pulses are in percent
abbrev pub percent_of : Keyword → Option Bool
percent_of keyword.PathPulse = Some false
percent_of keyword.PathPulsePercent = Some true
percent_of _ = None

abbrev pub is_pulse : Kind → Bool
is_pulse = is_word_that (λ w. is_some (percent_of w))

-- pulse = PATHPULSE [ port port ] value [ value ], or the same with PATHPULSEPERCENT
abbrev pub Pulse : Type 0
Pulse = Bool × (Option (Port × Port) × (Value × Option Value))

unfoldable pub pulse_parts : Divider → Grammar Pulse
pulse_parts divider = token (λ t. names percent_of false t.meaning) is_pulse ∙∙ (optional (port divider ∙∙ port divider) ∙∙ (value ∙∙ optional value))

abbrev pub pulse : Divider → Grammar Pulse
pulse divider = named is_pulse is_left (pulse_parts divider)

-- group-body = ABSOLUTE { entry } | INCREMENT { entry } | pulse
pub data GroupBody : Type 0 where
  absolute_body increment_body : List Entry → GroupBody
  pulse_body : Pulse → GroupBody

unfoldable pub group_body_parts : (limited : Bool) → Divider → Grammar GroupBody
group_body_parts limited divider =
    either (mapped absolute_body (word keyword.Absolute ▸ many (entry limited divider)))
    (either (mapped increment_body (word keyword.Increment ▸ many (entry limited divider))) (mapped pulse_body (pulse divider)))

abbrev pub group_starts : Kind → Bool
group_starts k = is_word keyword.Absolute k || (is_word keyword.Increment k || is_pulse k)

abbrev pub group_body : (limited : Bool) → Divider → Grammar GroupBody
group_body limited divider = named group_starts is_left (group_body_parts limited divider)

abbrev pub group_of : Place → GroupBody → Group
group_of place (absolute_body es) = absolute es
group_of place (increment_body es) = increment es
group_of place (pulse_body x) = path_pulse place x.0 x.1.0 x.1.1.0 x.1.1.1

-- group = "(" group-body ")"
unfoldable pub group_parts : (limited : Bool) → Divider → Grammar Group
group_parts limited divider = mapped (λ x. group_of x.0 x.1) (placed (mark is_left ▸ (group_body limited divider ◂ mark is_right)))

abbrev pub group : (limited : Bool) → Divider → Grammar Group
group limited divider = named is_left no_kind (group_parts limited divider)
