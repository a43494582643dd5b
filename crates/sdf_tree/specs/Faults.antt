-- What may be wrong with a file that the grammar takes: a number, or limits that cross (IEEE 1497-2001; IEEE 1364-2005, 14.6.1).
use Rattle.std.specs.Prelude.{ℕ, ◌*◌, ◌^◌, Bool, true, false, ◌||◌, nat_lt, List, [], ◌∷◌, ◌++◌, Option, Some, None}
use Rattle.std.specs.Int.{int_gap}
use Rattle.std.specs.Result.{is_err}
use Rattle.std.specs.List.{flat_map}
use Rattle.sg_text.specs.declared.places.Place.{Place}
use Rattle.sg_time.specs.Spelling as time
use Rattle.sdf_tree.specs.Meant.{decimal_of, number_of}
use Rattle.sdf_tree.specs.Written.{Number, Value, Limits, Delay, Body, io_path, port_delay, interconnect, device, net_delay, Group, absolute, increment, path_pulse, CheckBody, pair_check, window_check, single_check, skipped_check, Part, delays, checks, skipped_part, Head, text_head, divider_head, unit_head, value_head, FilePart, a_head, a_cell}

abbrev pub listed : {A : Type 0} → Option A → List A
listed None = []
listed (Some x) = x ∷ []

-- ---- the numbers of a file, in text order

abbrev pub value_numbers : Value → List Number
value_numbers v = listed v.min ++ (listed v.typ ++ listed v.max)

abbrev pub limits_numbers : Limits → List Number
limits_numbers l = value_numbers l.reject ++ flat_map value_numbers (listed l.error)

abbrev pub delay_numbers : Delay → List Number
delay_numbers d = value_numbers d.delay ++ flat_map limits_numbers (listed d.limits)

abbrev pub body_numbers : Body → List Number
body_numbers (io_path c f t rs ds) = flat_map delay_numbers rs ++ flat_map delay_numbers ds
body_numbers (port_delay p ds) = flat_map delay_numbers ds
body_numbers (interconnect f t ds) = flat_map delay_numbers ds
body_numbers (device o ds) = flat_map delay_numbers ds
body_numbers (net_delay p ds) = flat_map delay_numbers ds

abbrev pub group_numbers : Group → List Number
group_numbers (absolute es) = flat_map (λ e. body_numbers e.body) es
group_numbers (increment es) = flat_map (λ e. body_numbers e.body) es
group_numbers (path_pulse p percent ports reject error) = value_numbers reject ++ flat_map value_numbers (listed error)

abbrev pub check_numbers : CheckBody → List Number
check_numbers (pair_check c f s l) = value_numbers l
check_numbers (window_check c f s l m) = value_numbers l ++ value_numbers m
check_numbers (single_check c t l) = value_numbers l
check_numbers (skipped_check s) = []

abbrev pub part_numbers : Part → List Number
part_numbers (delays gs) = flat_map group_numbers gs
part_numbers (checks cs) = flat_map (λ c. check_numbers c.body) cs
part_numbers (skipped_part p s) = []

abbrev pub head_numbers : Head → List Number
head_numbers text_head = []
head_numbers (divider_head d) = []
head_numbers (unit_head u) = []
head_numbers (value_head v) = flat_map value_numbers (listed v)

abbrev pub file_numbers : FilePart → List Number
file_numbers (a_head h) = head_numbers h
file_numbers (a_cell c) = flat_map part_numbers c.parts

-- a word that is no decimal, or has too many digits
abbrev pub is_bad : Number → Bool
is_bad n = is_err (decimal_of n.text)

-- ---- limits that cross

-- how often a number has the lesser of two powers of ten, its own and another's
abbrev pub size_beside : time.Number → time.Number → ℕ
size_beside n other = n.digits * 10 ^ int_gap other.exponent n.exponent

-- whether the one is less than the other
abbrev pub is_less : (negative other_negative : Bool) → (size other : ℕ) → Bool
is_less false false size other = nat_lt size other
is_less false true size other = false
is_less true false size other = nat_lt 0 size || nat_lt 0 other
is_less true true size other = nat_lt other size

abbrev pub is_below : time.Number → time.Number → Bool
is_below a b = is_less a.negative b.negative (size_beside a b) (size_beside b a)

-- in a corner that has both the error limit is below the reject limit
abbrev pub crosses_at : Option Number → Option Number → Bool
crosses_at (Some reject) (Some error) = is_below (number_of error) (number_of reject)
crosses_at None error = false
crosses_at (Some reject) None = false

-- two limits, at the parenthesis of their delay or of their entry
pub record Crossing : Type 0 where
  pub place : Place
  pub reject : Value
  pub error : Value

abbrev pub crosses : Crossing → Bool
crosses c = crosses_at c.reject.min c.error.min || (crosses_at c.reject.typ c.error.typ || crosses_at c.reject.max c.error.max)

abbrev pub crossings_at : Place → Value → Option Value → List Crossing
crossings_at place reject None = []
crossings_at place reject (Some error) = record { place = place; reject = reject; error = error } ∷ []

abbrev pub delay_crossings : Delay → List Crossing
delay_crossings d = flat_map (λ (l : Limits). crossings_at d.place l.reject l.error) (listed d.limits)

abbrev pub body_crossings : Body → List Crossing
body_crossings (io_path c f t rs ds) = flat_map delay_crossings rs ++ flat_map delay_crossings ds
body_crossings (port_delay p ds) = flat_map delay_crossings ds
body_crossings (interconnect f t ds) = flat_map delay_crossings ds
body_crossings (device o ds) = flat_map delay_crossings ds
body_crossings (net_delay p ds) = flat_map delay_crossings ds

abbrev pub group_crossings : Group → List Crossing
group_crossings (absolute es) = flat_map (λ e. body_crossings e.body) es
group_crossings (increment es) = flat_map (λ e. body_crossings e.body) es
group_crossings (path_pulse p percent ports reject error) = crossings_at p reject error

abbrev pub part_crossings : Part → List Crossing
part_crossings (delays gs) = flat_map group_crossings gs
part_crossings (checks cs) = []
part_crossings (skipped_part p s) = []

abbrev pub file_crossings : FilePart → List Crossing
file_crossings (a_head h) = []
file_crossings (a_cell c) = flat_map part_crossings c.parts
