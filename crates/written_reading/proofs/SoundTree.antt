-- The tree of a circuit has no bad number, and no limits that cross.
use Rattle.std.specs.Prelude.{◌≡◌, ℕ, ◌*◌, ◌<◌, ◌≤◌, ◌^◌, ◌||◌, pos, Bool, true, false, List, [], ◌∷◌, map, flat_map, length, decimal, Some}
use Rattle.std.specs.Fmt.{signed_decimal}
use Rattle.std.specs.List.{AllByRecursion, range_with_len}
use Rattle.std.specs.Result.{is_err}
use Rattle.std.proofs.Common.{refl, ap, ◌∙◌, arith}
use Rattle.std.proofs.lemmas.Bool.{le-ltb}
use Rattle.sg_time.specs.Spelling as time
use Rattle.sg_circuit.specs.Circuit.{Circuit, Variable, scope_at}
use Rattle.sdf_tree.specs.Faults.{value_numbers, delay_numbers, body_numbers, check_numbers, part_numbers, file_numbers, is_bad, is_below, crosses_at, Crossing, crosses, delay_crossings, body_crossings, part_crossings, file_crossings}
use Rattle.sdf_tree.specs.Meant.{decimal_of, number_or_zero, number_of as read_number}
use Rattle.sdf_tree.specs.Written.{Number, Terminal, Entry, absolute, Check, Part, delays, checks, FilePart, a_cell}
use Rattle.written_model.specs.declared.parts.Part as code_part
use Rattle.written_model.specs.declared.parts.Part.TheVariants as part
use Rattle.written_model.specs.Entries as entries
use Rattle.written_model.specs.Entries.{Numbers, LegEntry, PathEntry, CheckEntry}
use Rattle.written_model.specs.Names.{names_to}
use Rattle.written_model.specs.Tree.{number_of, lone, delay_of, leg_entry, path_entry, check_body, check_of, unless_empty, delay_entries, check_entries, parts_of, cell_type_of, instance_of, cells_of, tree}
use Rattle.written_reading.proofs.CellTokens.{IsGoodScope, each_of}
use Rattle.written_reading.proofs.CheckTokens.{IsGoodCheck}
use Rattle.written_reading.proofs.Decimals.{decimal_read, signed_read}
use Rattle.written_reading.proofs.DelayTokens.{AreShort, IsOrdered}
use Rattle.written_reading.proofs.EntryTokens.{IsGoodLeg, IsGoodPath}
use Rattle.written_reading.proofs.Lists.{all_append, all_flat, all_map, all_with}
use Rattle.written_reading.proofs.NoFaults.{AreSound}

abbrev IsFine : Number → Type 0
IsFine n = is_bad n ≡ false

abbrev NoCross : Crossing → Type 0
NoCross c = crosses c ≡ false

-- ---- delays

lone_fine : (text : List ℕ) → is_err (decimal_of text) ≡ false → AllByRecursion IsFine (value_numbers (lone text))
lone_fine text h = (h, (h, (h, tt)))

fine_decimal : (n : ℕ) → n < 10 ^ 18 → is_err (decimal_of (decimal n)) ≡ false
fine_decimal n l = ap is_err (decimal_read n l)

delay_fine : (n : Numbers) → AreShort n → AllByRecursion IsFine (delay_numbers (delay_of n))
delay_fine n h =
    let d = fine_decimal n.delay h.delay in
    let r = fine_decimal n.reject h.reject in
    let e = fine_decimal n.error h.error in
    (d, (d, (d, (r, (r, (r, (e, (e, (e, tt)))))))))

read_decimal : (n : ℕ) → n < 10 ^ 18 → read_number (number_of (decimal n)) ≡ record { negative = false; digits = n; exponent = pos 0 }
read_decimal n l = ap number_or_zero (decimal_read n l)

not_below : (r e : ℕ) → r ≤ e → is_below (record { negative = false; digits = e; exponent = pos 0 }) (record { negative = false; digits = r; exponent = pos 0 }) ≡ false
not_below r e l = le-ltb (e * 1) (r * 1) (omega (arith, l))

none_of_three : (b : Bool) → b ≡ false → (b || (b || b)) ≡ false
none_of_three true e = e
none_of_three false e = refl

delay_ordered : (n : Numbers) → AreShort n → IsOrdered n → AllByRecursion NoCross (delay_crossings (delay_of n))
delay_ordered n h l = (none_of_three (crosses_at (Some (number_of (decimal n.reject))) (Some (number_of (decimal n.error)))) below, tt)
  where
    below : is_below (read_number (number_of (decimal n.error))) (read_number (number_of (decimal n.reject))) ≡ false
    below =
        ap (λ (x : time.Number). is_below x (read_number (number_of (decimal n.reject)))) (read_decimal n.error h.error)
        ∙ (ap (λ (x : time.Number). is_below (record { negative = false; digits = n.error; exponent = pos 0 }) x) (read_decimal n.reject h.reject) ∙ not_below n.reject n.error l)

delays_fine : (ns : List Numbers) → AllByRecursion AreShort ns → AllByRecursion IsFine (flat_map delay_numbers (map delay_of ns))
delays_fine ns h = all_flat IsFine delay_numbers (map delay_of ns) (all_map (λ d. AllByRecursion IsFine (delay_numbers d)) delay_of ns (each_of AreShort _ delay_fine ns h))

delays_ordered : (ns : List Numbers) → AllByRecursion AreShort ns → AllByRecursion IsOrdered ns → AllByRecursion NoCross (flat_map delay_crossings (map delay_of ns))
delays_ordered ns h l = all_flat NoCross delay_crossings (map delay_of ns) (all_map (λ d. AllByRecursion NoCross (delay_crossings d)) delay_of ns (all_with AreShort IsOrdered _ delay_ordered ns h l))

-- ---- checks

check_fine : (p : code_part.Part) (refer datum : Terminal) (limit : List ℕ) → is_err (decimal_of limit) ≡ false → AllByRecursion IsFine (check_numbers (check_body p refer datum (lone limit)))
check_fine part.Setup refer datum limit h = lone_fine limit h
check_fine part.Hold refer datum limit h = lone_fine limit h
check_fine part.Recovery refer datum limit h = lone_fine limit h
check_fine part.Removal refer datum limit h = lone_fine limit h
check_fine part.Skew refer datum limit h = lone_fine limit h
check_fine part.Width refer datum limit h = lone_fine limit h
check_fine part.Period refer datum limit h = lone_fine limit h

-- ---- scopes

module _ (c : Circuit) (s : ℕ) (good : IsGoodScope c s) where
  abbrev vs : List Variable
  vs = (scope_at c s).variables

  abbrev EntryFine : Entry → Type 0
  EntryFine e = AllByRecursion IsFine (body_numbers e.body)

  abbrev EntryOrdered : Entry → Type 0
  EntryOrdered e = AllByRecursion NoCross (body_crossings e.body)

  entries_fine : AllByRecursion EntryFine (delay_entries c s)
  entries_fine =
      all_append EntryFine (map (leg_entry vs) (entries.legs c s)) (map (path_entry vs) (entries.paths c s))
      (all_map EntryFine (leg_entry vs) (entries.legs c s) (each_of (IsGoodLeg vs) _ (λ e h. delays_fine e.numbers h.short) (entries.legs c s) good.legs))
      (all_map EntryFine (path_entry vs) (entries.paths c s) (each_of (IsGoodPath vs) _ (λ e h. delays_fine e.numbers h.short) (entries.paths c s) good.paths))

  entries_ordered : AllByRecursion EntryOrdered (delay_entries c s)
  entries_ordered =
      all_append EntryOrdered (map (leg_entry vs) (entries.legs c s)) (map (path_entry vs) (entries.paths c s))
      (all_map EntryOrdered (leg_entry vs) (entries.legs c s) (each_of (IsGoodLeg vs) _ (λ e h. delays_ordered e.numbers h.short h.ordered) (entries.legs c s) good.legs))
      (all_map EntryOrdered (path_entry vs) (entries.paths c s) (each_of (IsGoodPath vs) _ (λ e h. delays_ordered e.numbers h.short h.ordered) (entries.paths c s) good.paths))

  abbrev CheckFine : Check → Type 0
  CheckFine k = AllByRecursion IsFine (check_numbers k.body)

  checks_fine : AllByRecursion CheckFine (check_entries c s)
  checks_fine = all_map CheckFine (check_of vs) (entries.checks c s) (each_of (IsGoodCheck vs) _ (λ e h. check_fine e.key.part _ _ (signed_decimal e.limit) (signed_read e.limit h.limit)) (entries.checks c s) good.checks)

  abbrev PartFine : Part → Type 0
  PartFine p = AllByRecursion IsFine (part_numbers p)

  abbrev PartOrdered : Part → Type 0
  PartOrdered p = AllByRecursion NoCross (part_crossings p)

  delays_part : (es : List Entry) → AllByRecursion EntryFine es → PartFine (delays (absolute es ∷ []))
  delays_part es h = all_append IsFine (flat_map (λ (e : Entry). body_numbers e.body) es) [] (all_flat IsFine (λ (e : Entry). body_numbers e.body) es h) tt

  ordered_part : (es : List Entry) → AllByRecursion EntryOrdered es → PartOrdered (delays (absolute es ∷ []))
  ordered_part es h = all_append NoCross (flat_map (λ (e : Entry). body_crossings e.body) es) [] (all_flat NoCross (λ (e : Entry). body_crossings e.body) es h) tt

  unless : {A B : Type 0} (P : B → Type 0) (f : List A → B) (xs : List A) → P (f xs) → AllByRecursion P (unless_empty f xs)
  unless P f [] h = tt
  unless P f (x ∷ xs) h = (h, tt)

  parts_fine : AllByRecursion PartFine (parts_of c s)
  parts_fine =
      all_append PartFine (unless_empty (λ es. delays (absolute es ∷ [])) (delay_entries c s)) (unless_empty checks (check_entries c s))
      (unless PartFine (λ es. delays (absolute es ∷ [])) (delay_entries c s) (delays_part (delay_entries c s) entries_fine))
      (unless PartFine checks (check_entries c s) (all_flat IsFine (λ (k : Check). check_numbers k.body) (check_entries c s) checks_fine))

  parts_ordered : AllByRecursion PartOrdered (parts_of c s)
  parts_ordered =
      all_append PartOrdered (unless_empty (λ es. delays (absolute es ∷ [])) (delay_entries c s)) (unless_empty checks (check_entries c s))
      (unless PartOrdered (λ es. delays (absolute es ∷ [])) (delay_entries c s) (ordered_part (delay_entries c s) entries_ordered)) (unless PartOrdered checks (check_entries c s) tt)

  abbrev FileFine : FilePart → Type 0
  FileFine p = AllByRecursion IsFine (file_numbers p)

  abbrev FileOrdered : FilePart → Type 0
  FileOrdered p = AllByRecursion NoCross (file_crossings p)

  abbrev cell_with : List Part → FilePart
  cell_with ps = a_cell (record { cell_type = cell_type_of (scope_at c s).module_name; instance = instance_of (names_to c s); parts = ps })

  cells_fine : AllByRecursion FileFine (cells_of c s)
  cells_fine = unless FileFine cell_with (parts_of c s) (all_flat IsFine part_numbers (parts_of c s) parts_fine)

  cells_ordered : AllByRecursion FileOrdered (cells_of c s)
  cells_ordered = unless FileOrdered cell_with (parts_of c s) (all_flat NoCross part_crossings (parts_of c s) parts_ordered)

pub sound_tree : (c : Circuit) → AllByRecursion (IsGoodScope c) (range_with_len 0 (length c.scopes)) → AreSound (tree c)
unfolding tree
sound_tree c good = record {
  numbers = all_flat IsFine file_numbers (flat_map (cells_of c) scopes) (all_flat _ (cells_of c) scopes (each_of (IsGoodScope c) _ (cells_fine c) scopes good));
  limits = all_flat NoCross file_crossings (flat_map (cells_of c) scopes) (all_flat _ (cells_of c) scopes (each_of (IsGoodScope c) _ (cells_ordered c) scopes good));
}
  where
    scopes : List ℕ
    scopes = range_with_len 0 (length c.scopes)
