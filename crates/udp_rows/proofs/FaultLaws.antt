-- The fault that is answered stands, and where none is answered none stands.
use Rattle.std.proofs.Common.{◌≡◌, ℕ, zero, suc, ◌<◌, ◌≤◌, ◌==◌, Bool, true, false, not, List, [], ◌∷◌, length, refl, sym, ◌∙◌, arith, Some, None, slice_get, Any, take}
use Rattle.std.specs.List.{find}
use Rattle.std.proofs.lemmas.Bool.Decides.{nat_tests}
use Rattle.std.proofs.lemmas.Option.{slice_get_within, get_or_from_slice_get, slice_get_read}
use Rattle.std.proofs.lemmas.List.Folds.{Any-from_list_any, list_any-from_Any}
use Rattle.sg_text.specs.declared.places.Place.{Place}
use Rattle.udp_rows.specs.declared.cells.RawRow.{RawRow}
use Rattle.udp_rows.specs.declared.faults.UdpKind.TheVariants.{TooManyInputs, TwoEdges, Clash, BadSymbol, RowLength}
use Rattle.udp_rows.specs.Faults.{most_inputs, fits_length, fits_symbols, fits_edges, FailsAt, ClashesAt, HasNoFault}
use Rattle.udp_rows.specs.Columns.{rows_clash, clashes_before, NoneClash, SomeClash}
use Rattle.udp_rows.proofs.Lists.{and-left, find-some, find-none, not-true, not-false}
use Rattle.udp_rows.proofs.Covered.{HasOneEdge, eqb-true, one-edge}
use Rattle.udp_rows.proofs.ClashLaws.{clash-complete}
use Rattle.udp_rows.proofs.ClashFound.{clash-sound}

-- a row that is found fails where it stands
pub found-fails : (test : RawRow → Bool) (rows : List RawRow) (row : RawRow) → Some row ≡ find (λ r. not (test r)) rows → FailsAt test rows row.place
found-fails test rows row h =
    let f = find-some (λ r. not (test r)) rows row h in
    (f.0, row, slice_get_within rows f.0 row f.1, get_or_from_slice_get rows f.0 row row f.1, (refl, not-true (test row) f.2))

-- where none is found, each row passes
pub none-fails : (test : RawRow → Bool) (rows : List RawRow) → None ≡ find (λ r. not (test r)) rows → (k : ℕ) (row : RawRow) → slice_get rows k ≡ Some row → test row ≡ true
none-fails test rows h k row g = not-false (test row) (find-none (λ r. not (test r)) rows k row h g)

none-at : (test : RawRow → Bool) (rows : List RawRow) (place : Place) → ((k : ℕ) (row : RawRow) → slice_get rows k ≡ Some row → test row ≡ true) → ¬ FailsAt test rows place
none-at test rows place h (k, row, l, e, f) =
    let passes : test row ≡ true = h k row (slice_get_read rows (length rows) k row refl l (sym e)) in
    let fails : test row ≡ false = f.1 in cc

-- each row by itself has no fault
pub record AreSound (inputs : ℕ) (sequential : Bool) (rows : List RawRow) : Type 0 where
  pub lengths : (k : ℕ) (row : RawRow) → slice_get rows k ≡ Some row → fits_length inputs sequential row ≡ true
  pub symbols : (k : ℕ) (row : RawRow) → slice_get rows k ≡ Some row → fits_symbols sequential row ≡ true
  pub edges : (k : ℕ) (row : RawRow) → slice_get rows k ≡ Some row → fits_edges row ≡ true

pub length-is : (inputs : ℕ) (sequential : Bool) (row : RawRow) → fits_length inputs sequential row ≡ true → length row.inputs ≡ inputs
length-is inputs sequential row h = eqb-true (length row.inputs) inputs (and-left (length row.inputs == inputs) _ h)

has-one : (row : RawRow) → fits_edges row ≡ true → HasOneEdge row.inputs
has-one row h = one-edge row.inputs (grind (arith, nat_tests))

take-get : {A : Type 0} (xs : List A) (k j : ℕ) (x : A) → j < k → slice_get xs j ≡ Some x → slice_get (take k xs) j ≡ Some x
take-get [] k j x l h = cc
take-get (y ∷ ys) zero j x l h = absurd (omega arith)
take-get (y ∷ ys) (suc k) zero x l h = h
take-get (y ∷ ys) (suc k) (suc j) x l h = take-get ys k j x (omega arith) h

get-take : {A : Type 0} (xs : List A) (k j : ℕ) (x : A) → slice_get (take k xs) j ≡ Some x → (j < k) × (slice_get xs j ≡ Some x)
get-take [] zero j x h = absurd (let none : ⊥ = cc in none)
get-take [] (suc k) j x h = absurd (let none : ⊥ = cc in none)
get-take (y ∷ ys) zero j x h = absurd (let none : ⊥ = cc in none)
get-take (y ∷ ys) (suc k) zero x h = (omega arith, h)
get-take (y ∷ ys) (suc k) (suc j) x h = let r = get-take ys k j x h in let l : j < k = r.0 in (omega arith, r.1)

-- a row that is found to clash does
pub found-clashes : (inputs : ℕ) (sequential : Bool) (rows : List RawRow) (place : Place) → AreSound inputs sequential rows → SomeClash rows place → ClashesAt rows place
found-clashes inputs sequential rows place sound (k, row, is_row, some, at_place) =
    found (Any-from_list_any (λ earlier. rows_clash earlier row) (take k rows) some)
  where
    found : Any (λ earlier. rows_clash earlier row ≡ true) (take k rows) → ClashesAt rows place
    found (j, earlier, l, e, clash) =
        let r = get-take rows k j earlier (slice_get_read (take k rows) (length (take k rows)) j earlier refl l (sym e)) in
        record {
          first = j;
          second = k;
          order = r.0;
          earlier = earlier;
          is_first = r.1;
          later = row;
          is_second = is_row;
          at_place = at_place;
          clash = clash-sound earlier row
              (length-is inputs sequential earlier (sound.lengths j earlier r.1) ∙ sym (length-is inputs sequential row (sound.lengths k row is_row)))
              (has-one earlier (sound.edges j earlier r.1)) clash;
        }

-- where no row is found to clash, none does
none-clashes : (inputs : ℕ) (sequential : Bool) (rows : List RawRow) (place : Place) → AreSound inputs sequential rows → NoneClash rows → ¬ ClashesAt rows place
none-clashes inputs sequential rows place sound none c =
    let found : clashes_before rows c.second c.later ≡ true =
    list_any-from_Any (λ earlier. rows_clash earlier c.later) (take c.second rows)
    (any-at (slice_get_within (take c.second rows) c.first c.earlier is_there)) in
    let no = none c.second c.later c.is_second in cc
  where
    is_there : slice_get (take c.second rows) c.first ≡ Some c.earlier
    is_there = take-get rows c.second c.first c.earlier c.order c.is_first

    clash : rows_clash c.earlier c.later ≡ true
    clash = clash-complete c.earlier c.later
        (length-is inputs sequential c.earlier (sound.lengths c.first c.earlier c.is_first) ∙ sym (length-is inputs sequential c.later (sound.lengths c.second c.later c.is_second))) c.clash

    any-at : c.first < length (take c.second rows) → Any (λ earlier. rows_clash earlier c.later ≡ true) (take c.second rows)
    any-at l = (c.first, c.earlier, l, get_or_from_slice_get (take c.second rows) c.first c.earlier c.earlier is_there, clash)

-- no fault stands
pub no-fault : (inputs : ℕ) (sequential : Bool) (rows : List RawRow) → inputs ≤ most_inputs sequential → AreSound inputs sequential rows → NoneClash rows → HasNoFault inputs sequential rows
no-fault inputs sequential rows few sound none TooManyInputs place h = let more = h.0 in omega (arith, few, more)
no-fault inputs sequential rows few sound none TwoEdges place h = none-at fits_edges rows place sound.edges h
no-fault inputs sequential rows few sound none Clash place h = none-clashes inputs sequential rows place sound none h
no-fault inputs sequential rows few sound none BadSymbol place h = none-at (fits_symbols sequential) rows place sound.symbols h
no-fault inputs sequential rows few sound none RowLength place h = none-at (fits_length inputs sequential) rows place sound.lengths h
