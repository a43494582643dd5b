-- No number of a written file is bad, and no limits cross.
use Rattle.std.specs.Prelude.{◌≡◌, ◌||◌, Bool, false, List, [], ◌∷◌, ◌++◌, map, flat_map, Option, Some, None, option_map}
use Rattle.std.specs.List.{AllByRecursion, find}
use Rattle.std.proofs.Common.{refl, sym, ap, subst, ◌∙◌}
use Rattle.std.proofs.lemmas.List.{map-append}
use Rattle.sg_text.specs.declared.places.Place.{Place}
use Rattle.sdf_meaning.specs.FirstFaults.{bad_number, crossing}
use Rattle.sdf_tree.specs.Faults.{listed, value_numbers, limits_numbers, delay_numbers, body_numbers, group_numbers, check_numbers, part_numbers, head_numbers, file_numbers, is_bad, crosses_at, Crossing, crosses, crossings_at, delay_crossings, body_crossings, group_crossings, part_crossings, file_crossings}
use Rattle.sdf_tree.specs.Written.{Number, Value, Limits, Delay, io_path, port_delay, interconnect, device, net_delay, Entry, absolute, increment, path_pulse, pair_check, window_check, single_check, skipped_check, Check, delays, checks, skipped_part, text_head, divider_head, unit_head, value_head, FilePart, a_head, a_cell}
use Rattle.written_model.specs.Tree.{nowhere}
use Rattle.written_reading.specs.Placeless as placeless

-- ---- what is found in a tree without places is what is found in the tree, but for places

module _ {X : Type 0} (strip : X → X) where
  abbrev Same : {A : Type 0} → (A → List X) → (A → A) → Type 0
  Same {A} found g = (a : A) → map strip (found a) ≡ found (g a)

  both_same : (xs ys us vs : List X) → map strip xs ≡ us → map strip ys ≡ vs → map strip (xs ++ ys) ≡ us ++ vs
  both_same xs ys us vs e f = map-append strip xs ys ∙ (ap (λ zs. zs ++ map strip ys) e ∙ ap (λ zs. us ++ zs) f)

  each_same : {A : Type 0} (found : A → List X) (g : A → A) → Same found g → (list : List A) → map strip (flat_map found list) ≡ flat_map found (map g list)
  each_same found g h [] = refl
  each_same found g h (a ∷ list) = both_same (found a) (flat_map found list) (found (g a)) (flat_map found (map g list)) (h a) (each_same found g h list)

  listed_same : {A : Type 0} (found : A → List X) (g : A → A) → Same found g → (o : Option A) → map strip (flat_map found (listed o)) ≡ flat_map found (listed (option_map g o))
  listed_same found g h None = refl
  listed_same found g h (Some a) = each_same found g h (a ∷ [])

-- ---- numbers

option_numbers : (o : Option Number) → map placeless.number (listed o) ≡ listed (option_map placeless.number o)
option_numbers None = refl
option_numbers (Some n) = refl

value_same : Same placeless.number value_numbers placeless.value
value_same v = both_same placeless.number (listed v.min) (listed v.typ ++ listed v.max) _ _ (option_numbers v.min) (both_same placeless.number (listed v.typ) (listed v.max) _ _ (option_numbers v.typ) (option_numbers v.max))

limits_same : Same placeless.number limits_numbers placeless.limits
limits_same l = both_same placeless.number (value_numbers l.reject) (flat_map value_numbers (listed l.error)) _ _ (value_same l.reject) (listed_same placeless.number value_numbers placeless.value value_same l.error)

delay_same : Same placeless.number delay_numbers placeless.delay
delay_same d = both_same placeless.number (value_numbers d.delay) (flat_map limits_numbers (listed d.limits)) _ _ (value_same d.delay) (listed_same placeless.number limits_numbers placeless.limits limits_same d.limits)

delays_same : (ds : List Delay) → map placeless.number (flat_map delay_numbers ds) ≡ flat_map delay_numbers (map placeless.delay ds)
delays_same ds = each_same placeless.number delay_numbers placeless.delay delay_same ds

body_same : Same placeless.number body_numbers placeless.body
body_same (io_path c f t rs ds) = both_same placeless.number (flat_map delay_numbers rs) (flat_map delay_numbers ds) _ _ (delays_same rs) (delays_same ds)
body_same (port_delay p ds) = delays_same ds
body_same (interconnect f t ds) = delays_same ds
body_same (device o ds) = delays_same ds
body_same (net_delay p ds) = delays_same ds

abbrev entry_numbers : Entry → List Number
entry_numbers e = body_numbers e.body

group_same : Same placeless.number group_numbers placeless.group
group_same (absolute es) = each_same placeless.number entry_numbers placeless.entry (λ e. body_same e.body) es
group_same (increment es) = each_same placeless.number entry_numbers placeless.entry (λ e. body_same e.body) es
group_same (path_pulse p percent ports reject error) = both_same placeless.number (value_numbers reject) (flat_map value_numbers (listed error)) _ _ (value_same reject) (listed_same placeless.number value_numbers placeless.value value_same error)

check_body_same : Same placeless.number check_numbers placeless.check_body
check_body_same (pair_check c f s l) = value_same l
check_body_same (window_check c f s l m) = both_same placeless.number (value_numbers l) (value_numbers m) _ _ (value_same l) (value_same m)
check_body_same (single_check c t l) = value_same l
check_body_same (skipped_check s) = refl

abbrev all_of_check : Check → List Number
all_of_check c = check_numbers c.body

part_same : Same placeless.number part_numbers placeless.part
part_same (delays gs) = each_same placeless.number group_numbers placeless.group group_same gs
part_same (checks cs) = each_same placeless.number all_of_check placeless.check (λ c. check_body_same c.body) cs
part_same (skipped_part p s) = refl

head_same : Same placeless.number head_numbers placeless.head
head_same text_head = refl
head_same (divider_head d) = refl
head_same (unit_head u) = refl
head_same (value_head v) = listed_same placeless.number value_numbers placeless.value value_same v

file_same : Same placeless.number file_numbers placeless.file_part
file_same (a_head h) = head_same h
file_same (a_cell c) = each_same placeless.number part_numbers placeless.part part_same c.parts

numbers_same : (ps : List FilePart) → map placeless.number (flat_map file_numbers ps) ≡ flat_map file_numbers (placeless.placeless ps)
numbers_same ps = each_same placeless.number file_numbers placeless.file_part file_same ps

-- ---- limits

abbrev bare : Crossing → Crossing
bare c = record { place = nowhere; reject = placeless.value c.reject; error = placeless.value c.error }

at_same : (place : Place) (reject : Value) (o : Option Value) → map bare (crossings_at place reject o) ≡ crossings_at nowhere (placeless.value reject) (option_map placeless.value o)
at_same place reject None = refl
at_same place reject (Some e) = refl

limits_cross : (place : Place) (o : Option Limits) → map bare (flat_map (λ (l : Limits). crossings_at place l.reject l.error) (listed o)) ≡ flat_map (λ (l : Limits). crossings_at nowhere l.reject l.error) (listed (option_map placeless.limits o))
limits_cross place None = refl
limits_cross place (Some l) = both_same bare (crossings_at place l.reject l.error) [] (crossings_at nowhere (placeless.value l.reject) (option_map placeless.value l.error)) [] (at_same place l.reject l.error) refl

delay_cross : Same bare delay_crossings placeless.delay
delay_cross d = limits_cross d.place d.limits

delays_cross : (ds : List Delay) → map bare (flat_map delay_crossings ds) ≡ flat_map delay_crossings (map placeless.delay ds)
delays_cross ds = each_same bare delay_crossings placeless.delay delay_cross ds

body_cross : Same bare body_crossings placeless.body
body_cross (io_path c f t rs ds) = both_same bare (flat_map delay_crossings rs) (flat_map delay_crossings ds) _ _ (delays_cross rs) (delays_cross ds)
body_cross (port_delay p ds) = delays_cross ds
body_cross (interconnect f t ds) = delays_cross ds
body_cross (device o ds) = delays_cross ds
body_cross (net_delay p ds) = delays_cross ds

abbrev entry_crossings : Entry → List Crossing
entry_crossings e = body_crossings e.body

group_cross : Same bare group_crossings placeless.group
group_cross (absolute es) = each_same bare entry_crossings placeless.entry (λ e. body_cross e.body) es
group_cross (increment es) = each_same bare entry_crossings placeless.entry (λ e. body_cross e.body) es
group_cross (path_pulse p percent ports reject error) = at_same p reject error

part_cross : Same bare part_crossings placeless.part
part_cross (delays gs) = each_same bare group_crossings placeless.group group_cross gs
part_cross (checks cs) = refl
part_cross (skipped_part p s) = refl

file_cross : Same bare file_crossings placeless.file_part
file_cross (a_head h) = refl
file_cross (a_cell c) = each_same bare part_crossings placeless.part part_cross c.parts

crossings_same : (ps : List FilePart) → map bare (flat_map file_crossings ps) ≡ flat_map file_crossings (placeless.placeless ps)
crossings_same ps = each_same bare file_crossings placeless.file_part file_cross ps

at_corner : (r e : Option Number) → crosses_at (option_map placeless.number r) (option_map placeless.number e) ≡ crosses_at r e
at_corner None e = refl
at_corner (Some r) None = refl
at_corner (Some r) (Some e) = refl

crosses_same : (c : Crossing) → crosses (bare c) ≡ crosses c
crosses_same c =
    ap (λ (b : Bool). b || (crosses_at (option_map placeless.number c.reject.typ) (option_map placeless.number c.error.typ) || crosses_at (option_map placeless.number c.reject.max) (option_map placeless.number c.error.max))) (at_corner c.reject.min c.error.min)
    ∙ ap (λ (b : Bool). crosses_at c.reject.min c.error.min || b) (ap (λ (b : Bool). b || crosses_at (option_map placeless.number c.reject.max) (option_map placeless.number c.error.max)) (at_corner c.reject.typ c.error.typ) ∙ ap (λ (b : Bool). crosses_at c.reject.typ c.error.typ || b) (at_corner c.reject.max c.error.max))

-- ---- none is found

module _ {X : Type 0} (fails : X → Bool) (strip : X → X) (same : (x : X) → fails (strip x) ≡ fails x) where
  none_found : (xs : List X) → AllByRecursion (λ x. fails x ≡ false) (map strip xs) → find fails xs ≡ None
  none_found [] h = refl
  none_found (x ∷ xs) h = rw (sym (same x) ∙ h.0) (none_found xs h.1)

-- so is a tree of which no number is bad and no limits cross
pub record AreSound (ps : List FilePart) : Type 0 where
  pub numbers : AllByRecursion (λ (n : Number). is_bad n ≡ false) (flat_map file_numbers ps)
  pub limits : AllByRecursion (λ (c : Crossing). crosses c ≡ false) (flat_map file_crossings ps)

module _ (ps : List FilePart) (sound : AreSound (placeless.placeless ps)) where
  pub no_bad_number : bad_number (flat_map file_numbers ps) ≡ None
  no_bad_number = ap (λ (o : Option Number). option_map (λ (n : Number). n.place) o) (none_found is_bad placeless.number (λ n. refl) (flat_map file_numbers ps) (subst (λ (ns : List Number). AllByRecursion (λ (n : Number). is_bad n ≡ false) ns) (sym (numbers_same ps)) sound.numbers))

  pub no_crossing : crossing (flat_map file_crossings ps) ≡ None
  no_crossing = ap (λ (o : Option Crossing). option_map (λ (c : Crossing). c.place) o) (none_found crosses bare crosses_same (flat_map file_crossings ps) (subst (λ (cs : List Crossing). AllByRecursion (λ (c : Crossing). crosses c ≡ false) cs) (sym (crossings_same ps)) sound.limits))
