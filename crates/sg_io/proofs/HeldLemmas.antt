-- Files in a list: what is found by name after one is replaced, or one more comes.
use Rattle.std.specs.Prelude.{ℕ, suc, zero, ◌≡◌, ◌≢◌, ◌+◌, ◌<◌, ◌≤◌, List, [], ◌∷◌, ◌++◌, length, map, position, Bool, true, false, not, Some, None, if◌then◌else◌, refl, slice_index_or, slice_set, unwrap_or, Result, Ok, Err, OnOk}
use Rattle.std.specs.List.{position_or_len}
use Rattle.std.proofs.Common.{sym, ◌∙◌, ap, subst, arith}
use Rattle.std.proofs.Math.Seq.{map-set_same}
use Rattle.std.proofs.lemmas.Grind.{common_steps}
use Rattle.std.proofs.lemmas.Bool.Decides.{nat_tests}
use Rattle.std.proofs.lemmas.List.{map-append, get_or-map, length-map}
use Rattle.std.proofs.lemmas.List.Quantifiers.{all_pairs_push, position-Some}
use Rattle.std.proofs.lemmas.Slice.Eq.{bytes_eq-Decides}
use Rattle.sg_io.specs.Files.{File, same_name, bytes_of, content_of, HasAfter, HasDistinctNames}

-- whether a file has the name
abbrev pub is_named : List ℕ → File → Bool
is_named name f = same_name f.name name

-- a choice, where the test is known
if-true : {A : Type 0} (b : Bool) (x y : A) → b ≡ true → (if b then x else y) ≡ x
if-true true x y e = refl
if-true false x y e = cc

if-false : {A : Type 0} (b : Bool) (x y : A) → b ≡ false → (if b then x else y) ≡ y
if-false true x y e = cc
if-false false x y e = refl

-- a name is no other name
differs : (a b : List ℕ) → a ≢ b → same_name a b ≡ false
differs a b apart = from (same_name a b) (bytes_eq-Decides a b).0
  where
    from : (r : Bool) → (r ≡ true → a ≡ b) → r ≡ false
    from true h = absurd (apart (h refl))
    from false h = refl

-- what is known of the place at which a file of this name is first found
pub record IsPlace (name : List ℕ) (files : List File) (i : ℕ) (d : File) : Type 0 where
  pub within : i < length files
  pub here : is_named name (slice_index_or files i d) ≡ true
  pub before : (k : ℕ) → k < i → is_named name (slice_index_or files k d) ≡ false

pub is_place : (name : List ℕ) (files : List File) (i : ℕ) (d : File) → position (is_named name) files ≡ Some i → IsPlace name files i d
is_place name files i d e = let p = position-Some (is_named name) files i d e in record { within = p.0; here = p.1; before = p.2 }

-- what is known at the rest, one file further
next_place : (name : List ℕ) (f : File) (fs : List File) (i : ℕ) (d : File) → IsPlace name (f ∷ fs) (suc i) d → IsPlace name fs i d
next_place name f fs i d p = record { within = omega (arith, p.within); here = p.here; before = λ k h. p.before (suc k) (omega arith) }

-- the bytes at the place are those of the name
pub bytes_of-place : (name : List ℕ) (files : List File) (i : ℕ) (d : File) → IsPlace name files i d → bytes_of name files ≡ Some (slice_index_or files i d).bytes
bytes_of-place name [] i d p = absurd (omega (arith, p.within))
bytes_of-place name (f ∷ fs) zero d p = if-true _ _ _ p.here
bytes_of-place name (f ∷ fs) (suc i) d p = if-false _ _ _ (p.before 0 (omega arith)) ∙ bytes_of-place name fs i d (next_place name f fs i d p)

-- where no file has the name, none is found
none_named : (name : List ℕ) (files : List File) → length files ≤ position_or_len (is_named name) files → bytes_of name files ≡ None
none_named name [] h = refl
none_named name (f ∷ fs) h = by_test (λ later. none_named name fs later) (is_named name f) refl
  where
    by_test : (length fs ≤ position_or_len (is_named name) fs → bytes_of name fs ≡ None) → (b : Bool) → is_named name f ≡ b → bytes_of name (f ∷ fs) ≡ None
    by_test rest true e = absurd (let z : position_or_len (is_named name) (f ∷ fs) ≡ 0 = if-false _ _ _ (ap not e) in omega arith)
    by_test rest false e = let z : position_or_len (is_named name) (f ∷ fs) ≡ 1 + position_or_len (is_named name) fs = if-true _ _ _ (ap not e) in if-false _ _ _ e ∙ rest (omega arith)

pub bytes_of-none : (name : List ℕ) (files : List File) → position (is_named name) files ≡ None → bytes_of name files ≡ None
bytes_of-none name files e = none_named name files (grind (arith, nat_tests, common_steps))

-- the file at the place is replaced by one of its name
bytes_of-set : (name : List ℕ) (files : List File) (i : ℕ) (g d : File) → IsPlace name files i d → same_name g.name name ≡ true → bytes_of name (slice_set files i g) ≡ Some g.bytes
bytes_of-set name [] i g d p same = absurd (omega (arith, p.within))
bytes_of-set name (f ∷ fs) zero g d p same = if-true _ _ _ same
bytes_of-set name (f ∷ fs) (suc i) g d p same = if-false _ _ _ (p.before 0 (omega arith)) ∙ bytes_of-set name fs i g d (next_place name f fs i d p) same

bytes_of-set_other : (q : List ℕ) (files : List File) (i : ℕ) (g d : File) → i < length files → same_name g.name q ≡ false → same_name (slice_index_or files i d).name q ≡ false → bytes_of q (slice_set files i g) ≡ bytes_of q files
bytes_of-set_other q [] i g d within new old = absurd (omega arith)
bytes_of-set_other q (f ∷ fs) zero g d within new old = if-false _ _ _ new ∙ sym (if-false _ _ _ old)
bytes_of-set_other q (f ∷ fs) (suc i) g d within new old = ap (λ b. if same_name f.name q then Some f.bytes else b) (bytes_of-set_other q fs i g d (omega arith) new old)

-- one file more
bytes_of-push : (q : List ℕ) (files : List File) (g : File) → bytes_of q files ≡ None → bytes_of q (files ++ g ∷ []) ≡ bytes_of q (g ∷ [])
bytes_of-push q [] g none = refl
bytes_of-push q (f ∷ fs) g none = by_test (λ e. bytes_of-push q fs g e) (same_name f.name q) refl
  where
    by_test : (bytes_of q fs ≡ None → bytes_of q (fs ++ g ∷ []) ≡ bytes_of q (g ∷ [])) → (b : Bool) → same_name f.name q ≡ b → bytes_of q ((f ∷ fs) ++ g ∷ []) ≡ bytes_of q (g ∷ [])
    by_test rest true e = let z : bytes_of q (f ∷ fs) ≡ Some f.bytes = if-true _ _ _ e in cc
    by_test rest false e = let z : bytes_of q (f ∷ fs) ≡ bytes_of q fs = if-false _ _ _ e in if-false _ _ _ e ∙ rest (sym z ∙ none)

bytes_of-push_other : (q : List ℕ) (files : List File) (g : File) → same_name g.name q ≡ false → bytes_of q (files ++ g ∷ []) ≡ bytes_of q files
bytes_of-push_other q [] g new = if-false _ _ _ new
bytes_of-push_other q (f ∷ fs) g new = ap (λ b. if same_name f.name q then Some f.bytes else b) (bytes_of-push_other q fs g new)

-- the named file is replaced
pub HasAfter-set : (name : List ℕ) (files : List File) (i : ℕ) (g d : File) → IsPlace name files i d → g.name ≡ (slice_index_or files i d).name → HasAfter name g.bytes files (slice_set files i g)
HasAfter-set name files i g d p kept =
    let named : (slice_index_or files i d).name ≡ name = (bytes_eq-Decides _ _).0 p.here in
    record {
      this = bytes_of-set name files i g d p (ap (λ n. same_name n name) kept ∙ p.here);
      others = λ q apart. let e : same_name (slice_index_or files i d).name q ≡ false = differs _ _ (λ h. apart (sym h ∙ named)) in bytes_of-set_other q files i g d p.within (ap (λ n. same_name n q) kept ∙ e) e;
    }

-- a file of a name that wasn't held comes at the end
pub HasAfter-push : (name : List ℕ) (files : List File) (g : File) → g.name ≡ name → bytes_of name files ≡ None → HasAfter name g.bytes files (files ++ g ∷ [])
HasAfter-push name files g named none = record {
  this = bytes_of-push name files g none ∙ if-true _ _ _ ((bytes_eq-Decides g.name name).1 named);
  others = λ q apart. bytes_of-push_other q files g (differs g.name q (λ h. apart (sym h ∙ named)));
}

-- names stay distinct where a file is replaced by one of its name
pub distinct-set : (files : List File) (i : ℕ) (g d : File) → g.name ≡ (slice_index_or files i d).name → HasDistinctNames files → HasDistinctNames (slice_set files i g)
unfolding HasDistinctNames
distinct-set files i g d kept distinct = rw (map-set_same (λ (f : File). f.name) files i g d kept) distinct

-- a file that is held is found
held_is_found : (files : List File) (k : ℕ) (d : File) → k < length files → bytes_of (slice_index_or files k d).name files ≢ None
held_is_found [] k d within e = absurd (omega arith)
held_is_found (f ∷ fs) zero d within e = let z : bytes_of f.name (f ∷ fs) ≡ Some f.bytes = if-true _ _ _ ((bytes_eq-Decides f.name f.name).1 refl) in cc
held_is_found (f ∷ fs) (suc k) d within e = by_test (held_is_found fs k d (omega arith)) (same_name f.name (slice_index_or fs k d).name) refl
  where
    by_test : (bytes_of (slice_index_or fs k d).name fs ≢ None) → (b : Bool) → same_name f.name (slice_index_or fs k d).name ≡ b → ⊥
    by_test rest true r = let z : bytes_of (slice_index_or fs k d).name (f ∷ fs) ≡ Some f.bytes = if-true _ _ _ r in cc
    by_test rest false r = rest (sym (if-false _ _ _ r) ∙ e)

-- names stay distinct where a file comes whose name wasn't held
pub distinct-push : (name : List ℕ) (files : List File) (g : File) → g.name ≡ name → bytes_of name files ≡ None → HasDistinctNames files → HasDistinctNames (files ++ g ∷ [])
unfolding HasDistinctNames
distinct-push name files g named none distinct =
    rw (map-append (λ (f : File). f.name) files (g ∷ [])) (all_pairs_push (λ (a b : List ℕ). a ≢ b) (map (λ f. f.name) files) g.name distinct apart)
  where
    apart : (k : ℕ) (d : List ℕ) → k < length (map (λ f. f.name) files) → slice_index_or (map (λ f. f.name) files) k d ≢ g.name
    apart k d within e =
        let inside : k < length files = subst (λ n. k < n) (length-map files (λ f. f.name)) within in
        let is : slice_index_or (map (λ f. f.name) files) k d ≡ (slice_index_or files k g).name = get_or-map (λ f. f.name) files k g d inside in
        let P : List ℕ → Type 0 = λ n. bytes_of n files ≡ None in
        held_is_found files k g inside (subst P (sym named ∙ sym e ∙ is) none)

-- no files have distinct names
pub distinct-none : HasDistinctNames []
unfolding HasDistinctNames
distinct-none i j d lt within = absurd (omega arith)

-- the file of a place at which the name is found
pub found : (name : List ℕ) (files : List File) (i : ℕ) (f : File) → Some i ≡ position (is_named name) files → f ≡ slice_index_or files i f → bytes_of name files ≡ Some f.bytes
found name files i f at is = bytes_of-place name files i f (is_place name files i f (sym at)) ∙ ap (λ h. Some h.bytes) (sym is)

-- it has other bytes afterwards
pub replaced : (name : List ℕ) (files : List File) (i : ℕ) (f g : File) (bytes : List ℕ) → Some i ≡ position (is_named name) files → f ≡ slice_index_or files i f → g ≡ record f { bytes = bytes } → HasAfter name bytes files (slice_set files i g)
replaced name files i f g bytes at is changed =
    let after = HasAfter-set name files i g f (is_place name files i f (sym at)) (ap (λ h. h.name) changed ∙ ap (λ h. h.name) is) in
    subst (λ b. HasAfter name b files (slice_set files i g)) (ap (λ h. h.bytes) changed) after

pub still_distinct : (files : List File) (i : ℕ) (f g : File) → f ≡ slice_index_or files i f → g.name ≡ f.name → HasDistinctNames files → HasDistinctNames (slice_set files i g)
still_distinct files i f g is kept distinct = distinct-set files i g f (kept ∙ ap (λ h. h.name) is) distinct

-- it has more bytes afterwards
pub extended : (name : List ℕ) (files : List File) (i : ℕ) (f g : File) (more : List ℕ) → Some i ≡ position (is_named name) files → f ≡ slice_index_or files i f → g ≡ record f { bytes = f.bytes ++ more } → HasAfter name (content_of name files ++ more) files (slice_set files i g)
extended name files i f g more at is grown =
    let all : content_of name files ≡ f.bytes = ap (λ o. unwrap_or o []) (found name files i f at is) in
    rw all (replaced name files i f g (f.bytes ++ more) at is grown)

-- a file of these bytes has them after none
pub first_bytes : (name more : List ℕ) (old new : List File) → bytes_of name old ≡ None → HasAfter name more old new → HasAfter name (content_of name old ++ more) old new
first_bytes name more old new none after = let all : content_of name old ++ more ≡ more = ap (λ o. unwrap_or o [] ++ more) none in rw all after

-- a fact of Ok follows from another
pub on_ok : {A E : Type 0} (r : Result A E) (P Q : Type 0) → (P → Q) → OnOk r P → OnOk r Q
on_ok (Ok x) P Q f h = f h
on_ok (Err e) P Q f h = h
