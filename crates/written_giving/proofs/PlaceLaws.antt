-- Places don't matter to what a file means.
use Rattle.std.proofs.Common.{◌≡◌, Bool, true, false, List, [], ◌∷◌, ◌++◌, refl, sym, ◌∙◌, ap}
use Rattle.std.specs.Prelude.{ℕ, map, Option, Some, None}
use Rattle.std.specs.List.{flat_map}
use Rattle.std.specs.Option.{option_map}
use Rattle.std.proofs.lemmas.List.{map-append}
use Rattle.sg_time.specs.Spelling as time
use Rattle.sdf_tree.specs.Written as written
use Rattle.sdf_tree.specs.Meant.{number_of, Triple, triple_of, limits_from, limit_pair_of, DelayValue, delay_value_of, Entry, pair_check, window_check, single_check, io_path, port_delay, interconnect, device, a_check, kind_of_body, entry_of, entries_of_group, kind_of_check, entry_of_check, entries_of_part, cell_of, units_in, dividers_in, cells_in, path_pulse}
use Rattle.annotation_model.specs.Given.{Given, given_in}
use Rattle.written_model.specs.Tree.{nowhere}
use Rattle.written_reading.specs.Placeless.{number, value, limits, delay, body, entry, group, check_body, check, part, cell, placeless}

abbrev pub bare_entry : Entry → Entry
bare_entry e = record { place = nowhere; increment = e.increment; kind = e.kind }

abbrev pub unplaced : Given → Given
unplaced g = record { cell_type = g.cell_type; instance = g.instance; entry = bare_entry g.entry }

-- ---- maps, and what is mapped flat

pub map-fused : {A B C : Type 0} (f : B → C) (g : A → B) (h : A → C) (xs : List A) → ((x : A) → f (g x) ≡ h x) → map f (map g xs) ≡ map h xs
map-fused f g h [] e = refl
map-fused f g h (x ∷ xs) e = ap (λ y. y ∷ map f (map g xs)) (e x) ∙ ap (λ ys. h x ∷ ys) (map-fused f g h xs e)

map-flat : {A B C : Type 0} (u : B → C) (f : A → List B) (p : A → A) (g : A → List C) (xs : List A) → ((x : A) → map u (f x) ≡ g (p x)) → map u (flat_map f xs) ≡ flat_map g (map p xs)
map-flat u f p g [] e = refl
map-flat u f p g (x ∷ xs) e = map-append u (f x) (flat_map f xs) ∙ (ap (λ ys. ys ++ map u (flat_map f xs)) (e x) ∙ ap (λ ys. g (p x) ++ ys) (map-flat u f p g xs e))

map-both : {A B C : Type 0} (f : B → C) (g : A → B) (h : A → C) (p : A → A) (xs : List A) → ((x : A) → f (g x) ≡ h (p x)) → map f (map g xs) ≡ map h (map p xs)
map-both f g h p [] e = refl
map-both f g h p (x ∷ xs) e = ap (λ y. y ∷ map f (map g xs)) (e x) ∙ ap (λ ys. h (p x) ∷ ys) (map-both f g h p xs e)

-- ---- values

number-same : (o : Option written.Number) → option_map number_of (option_map number o) ≡ option_map number_of o
number-same None = refl
number-same (Some n) = refl

value-same : (v : written.Value) → triple_of (value v) ≡ triple_of v
value-same v =
    ap {B = Triple} (λ (o : Option time.Number). record { min = o; typ = option_map number_of (option_map number v.typ); max = option_map number_of (option_map number v.max) }) (number-same v.min)
    ∙ (ap {B = Triple} (λ (o : Option time.Number). record { min = option_map number_of v.min; typ = o; max = option_map number_of (option_map number v.max) }) (number-same v.typ)
    ∙ ap {B = Triple} (λ (o : Option time.Number). record { min = option_map number_of v.min; typ = option_map number_of v.typ; max = o }) (number-same v.max))

values-same : (o : Option written.Value) → option_map triple_of (option_map value o) ≡ option_map triple_of o
values-same None = refl
values-same (Some v) = ap Some (value-same v)

limits-same : (o : Option written.Limits) → option_map limit_pair_of (option_map limits o) ≡ option_map limit_pair_of o
limits-same None = refl
limits-same (Some l) =
    ap Some (ap (λ t. limits_from t (option_map triple_of (option_map value l.error))) (value-same l.reject) ∙ ap (λ o. limits_from (triple_of l.reject) o) (values-same l.error))

delay-same : (d : written.Delay) → delay_value_of (delay d) ≡ delay_value_of d
delay-same d =
    ap {B = DelayValue} (λ t. record { delay = t; limits = option_map limit_pair_of (option_map limits d.limits) }) (value-same d.delay)
    ∙ ap {B = DelayValue} (λ o. record { delay = triple_of d.delay; limits = o }) (limits-same d.limits)

delays-same : (ds : List written.Delay) → map delay_value_of (map delay ds) ≡ map delay_value_of ds
delays-same ds = map-fused delay_value_of delay delay_value_of ds delay-same

-- ---- entries

body-same : (b : written.Body) → kind_of_body (body b) ≡ kind_of_body b
body-same (written.io_path c f t rs ds) = ap (io_path c f t) (delays-same ds)
body-same (written.port_delay p ds) = ap (port_delay p) (delays-same ds)
body-same (written.interconnect f t ds) = ap (interconnect f t) (delays-same ds)
body-same (written.device o ds) = ap (device o) (delays-same ds)
body-same (written.net_delay p ds) = refl

entry-same : (b : Bool) (e : written.Entry) → bare_entry (entry_of b e) ≡ entry_of b (entry e)
entry-same b e = ap {B = Entry} (λ k. record { place = nowhere; increment = b; kind = k }) (sym (body-same e.body))

group-same : (g : written.Group) → map bare_entry (entries_of_group g) ≡ entries_of_group (group g)
group-same (written.absolute es) = map-both bare_entry (entry_of false) (entry_of false) entry es (entry-same false)
group-same (written.increment es) = map-both bare_entry (entry_of true) (entry_of true) entry es (entry-same true)
group-same (written.path_pulse p percent ports reject error) =
    ap {B = List Entry} (λ t. record { place = nowhere; increment = false; kind = path_pulse percent ports t (option_map triple_of error) } ∷ []) (sym (value-same reject))
    ∙ ap {B = List Entry} (λ o. record { place = nowhere; increment = false; kind = path_pulse percent ports (triple_of (value reject)) o } ∷ []) (sym (values-same error))

check-same : (b : written.CheckBody) → kind_of_check (check_body b) ≡ kind_of_check b
check-same (written.pair_check c f s l) = ap (λ t. a_check (pair_check c f s t)) (value-same l)
check-same (written.window_check c f s l m) = ap (λ t. a_check (window_check c f s t (triple_of (value m)))) (value-same l) ∙ ap (λ t. a_check (window_check c f s (triple_of l) t)) (value-same m)
check-same (written.single_check c t l) = ap (λ v. a_check (single_check c t v)) (value-same l)
check-same (written.skipped_check s) = refl

check-entry-same : (k : written.Check) → bare_entry (entry_of_check k) ≡ entry_of_check (check k)
check-entry-same k = ap {B = Entry} (λ b. record { place = nowhere; increment = false; kind = b }) (sym (check-same k.body))

part-same : (p : written.Part) → map bare_entry (entries_of_part p) ≡ entries_of_part (part p)
part-same (written.delays gs) = map-flat bare_entry entries_of_group group entries_of_group gs group-same
part-same (written.checks cs) = map-both bare_entry entry_of_check entry_of_check check cs check-entry-same
part-same (written.skipped_part p s) = refl

-- ---- files

abbrev in_cell : List ℕ → written.Instance → Entry → Given
in_cell t i e = record { cell_type = t; instance = i; entry = e }

cell-same : (c : written.Cell) → map unplaced (given_in (cell_of c)) ≡ given_in (cell_of (cell c))
cell-same c =
    map-fused unplaced (in_cell c.cell_type c.instance) (λ e. in_cell c.cell_type c.instance (bare_entry e)) (flat_map entries_of_part c.parts) (λ e. refl)
    ∙ (sym (map-fused (in_cell c.cell_type c.instance) bare_entry (λ e. in_cell c.cell_type c.instance (bare_entry e)) (flat_map entries_of_part c.parts) (λ e. refl))
    ∙ ap (map (in_cell c.cell_type c.instance)) (map-flat bare_entry entries_of_part part entries_of_part c.parts part-same))

pub given-same : (ps : List written.FilePart) → map unplaced (flat_map given_in (flat_map cells_in ps)) ≡ flat_map given_in (flat_map cells_in (placeless ps))
given-same [] = refl
given-same (written.a_head h ∷ ps) = given-same ps
given-same (written.a_cell c ∷ ps) =
    map-append unplaced (given_in (cell_of c)) (flat_map given_in (flat_map cells_in ps))
    ∙ (ap (λ gs. gs ++ map unplaced (flat_map given_in (flat_map cells_in ps))) (cell-same c) ∙ ap (λ gs. given_in (cell_of (cell c)) ++ gs) (given-same ps))

pub units-same : (ps : List written.FilePart) → flat_map units_in ps ≡ flat_map units_in (placeless ps)
units-same [] = refl
units-same (written.a_head written.text_head ∷ ps) = units-same ps
units-same (written.a_head (written.divider_head d) ∷ ps) = units-same ps
units-same (written.a_head (written.unit_head u) ∷ ps) = ap (λ us. u ∷ us) (units-same ps)
units-same (written.a_head (written.value_head v) ∷ ps) = units-same ps
units-same (written.a_cell c ∷ ps) = units-same ps

pub dividers-same : (ps : List written.FilePart) → flat_map dividers_in ps ≡ flat_map dividers_in (placeless ps)
dividers-same [] = refl
dividers-same (written.a_head written.text_head ∷ ps) = dividers-same ps
dividers-same (written.a_head (written.divider_head d) ∷ ps) = ap (λ ds. d ∷ ds) (dividers-same ps)
dividers-same (written.a_head (written.unit_head u) ∷ ps) = dividers-same ps
dividers-same (written.a_head (written.value_head v) ∷ ps) = dividers-same ps
dividers-same (written.a_cell c ∷ ps) = dividers-same ps
