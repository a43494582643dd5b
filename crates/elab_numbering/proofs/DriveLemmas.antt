-- One drive more in a table of drivers.
use Rattle.std.specs.Prelude.{◌≡◌, ◌≢◌, ℕ, zero, suc, ◌<◌, ◌≤◌, ◌==◌, List, [], ◌∷◌, ◌++◌, Bool, true, false, length, refl, if◌then◌else◌, slice_index_or, slice_set}
use Rattle.std.specs.List.{AllByRecursion}
use Rattle.std.proofs.Common.{sym, ◌∙◌, ap, arith, subst}
use Rattle.std.proofs.lemmas.List.{append-nil, get_or-set_same, get_or-set_other, length-set}
use Rattle.std.proofs.lemmas.Bool.{eq-eqb, eqb-true}
use Rattle.sg_circuit.specs.declared.nets.Driver.{Driver}
use Rattle.sg_circuit.specs.declared.nets.Driver.TheVariants.{Nobody, Stimulus, Element, Notifier}
use Rattle.elab_laws.proofs.Lists.{all-append}
use Rattle.elab_numbering.specs.Driving.{NumberedDrive, drivers_at, first_or_nobody, IsOutside, HasFirst, says_nobody, StandsFor, IsTaken}

pub at-append : (k : ℕ) (xs ys : List NumberedDrive) → drivers_at k (xs ++ ys) ≡ drivers_at k xs ++ drivers_at k ys
at-append k [] ys = refl
at-append k (x ∷ xs) ys = by (x.net == k) (at-append k xs ys)
  where
    by : (b : Bool) → drivers_at k (xs ++ ys) ≡ drivers_at k xs ++ drivers_at k ys
        → (if b then x.driver ∷ drivers_at k (xs ++ ys) else drivers_at k (xs ++ ys)) ≡ (if b then x.driver ∷ drivers_at k xs else drivers_at k xs) ++ drivers_at k ys
    by true h = ap (λ zs. x.driver ∷ zs) h
    by false h = h

pub at-push : (k : ℕ) (xs : List NumberedDrive) (d : NumberedDrive) → drivers_at k (xs ++ d ∷ []) ≡ drivers_at k xs ++ (if d.net == k then d.driver ∷ [] else [])
at-push k xs d = at-append k xs (d ∷ [])

-- what holds of each drive holds of those of a net
pub at-all : (P : Driver → Type 0) (k : ℕ) (ds : List NumberedDrive) → AllByRecursion (λ d. P d.driver) ds → AllByRecursion P (drivers_at k ds)
at-all P k [] h = tt
at-all P k (d ∷ ds) h = by (d.net == k) (at-all P k ds h.1)
  where
    by : (b : Bool) → AllByRecursion P (drivers_at k ds) → AllByRecursion P (if b then d.driver ∷ drivers_at k ds else drivers_at k ds)
    by true r = (h.0, r)
    by false r = r

-- a net whose first driver is nobody has none, where each is the stimulus or an element
abbrev AreOutside : List Driver → Type 0
AreOutside ds = AllByRecursion IsOutside ds

at-outside : (k : ℕ) (ds : List NumberedDrive) → AllByRecursion (λ d. IsOutside d.driver) ds → AreOutside (drivers_at k ds)
at-outside k ds h = at-all IsOutside k ds h

nobody-none : (ds : List Driver) → AreOutside ds → first_or_nobody ds ≡ Nobody → ds ≡ []
nobody-none [] h e = refl
nobody-none (d ∷ ds) h e = absurd (subst IsOutside e h.0)

-- a table with one net changed
pub first-more : (table : List Driver) (ds : List NumberedDrive) (d : NumberedDrive) → d.net < length table → drivers_at d.net ds ≡ [] → HasFirst table ds
    → HasFirst (slice_set table d.net d.driver) (ds ++ d ∷ [])
first-more table ds d lt none f k h = by (d.net == k) refl
  where
    by : (b : Bool) → (d.net == k) ≡ b → slice_index_or (slice_set table d.net d.driver) k Nobody ≡ first_or_nobody (drivers_at k (ds ++ d ∷ []))
    by true e =
        let is : d.net ≡ k = eqb-true d.net k e in
        let l : drivers_at k (ds ++ d ∷ []) ≡ d.driver ∷ [] = at-push k ds d ∙ ap (λ b. drivers_at k ds ++ (if b then d.driver ∷ [] else [])) e ∙ ap (λ k. drivers_at k ds ++ d.driver ∷ []) (sym is) ∙ ap (λ ys. ys ++ d.driver ∷ []) none in
        ap (λ j. slice_index_or (slice_set table d.net d.driver) j Nobody) (sym is) ∙ get_or-set_same table d.net d.driver Nobody lt ∙ sym (ap first_or_nobody l)
    by false e =
        let l : drivers_at k (ds ++ d ∷ []) ≡ drivers_at k ds = at-push k ds d ∙ ap (λ b. drivers_at k ds ++ (if b then d.driver ∷ [] else [])) e ∙ append-nil (drivers_at k ds) in
        let lt : k < length table = rw length-set at h in
        get_or-set_other table d.net k d.driver Nobody (λ q. let t : (d.net == k) ≡ true = eq-eqb d.net k (sym q) in cc) ∙ f k lt ∙ sym (ap first_or_nobody l)

alone-more : (ds : List NumberedDrive) (d : NumberedDrive) → drivers_at d.net ds ≡ [] → ((k : ℕ) → length (drivers_at k ds) ≤ 1) → (k : ℕ) → length (drivers_at k (ds ++ d ∷ [])) ≤ 1
alone-more ds d none f k = by (d.net == k) refl
  where
    by : (b : Bool) → (d.net == k) ≡ b → length (drivers_at k (ds ++ d ∷ [])) ≤ 1
    by true e =
        let is : d.net ≡ k = eqb-true d.net k e in
        let l : drivers_at k (ds ++ d ∷ []) ≡ d.driver ∷ [] = at-push k ds d ∙ ap (λ b. drivers_at k ds ++ (if b then d.driver ∷ [] else [])) e ∙ ap (λ k. drivers_at k ds ++ d.driver ∷ []) (sym is) ∙ ap (λ ys. ys ++ d.driver ∷ []) none in
        rw l (omega arith)
    by false e =
        let l : drivers_at k (ds ++ d ∷ []) ≡ drivers_at k ds = at-push k ds d ∙ ap (λ b. drivers_at k ds ++ (if b then d.driver ∷ [] else [])) e ∙ append-nil (drivers_at k ds) in
        rw l (f k)

any-default : {A : Type 0} (xs : List A) (i : ℕ) (d e : A) → i < length xs → slice_index_or xs i d ≡ slice_index_or xs i e
any-default [] i d e lt = absurd (omega arith)
any-default (x ∷ xs) zero d e lt = refl
any-default (x ∷ xs) (suc i) d e lt = any-default xs i d e (omega arith)

-- what is found at a net
pub found-at : (table : List Driver) (ds : List NumberedDrive) (n : ℕ) (o : Driver) → HasFirst table ds → n < length table → o ≡ slice_index_or table n o → first_or_nobody (drivers_at n ds) ≡ o
found-at table ds n o f lt e = sym (f n lt) ∙ any-default table n Nobody o lt ∙ sym e

-- nobody drives it yet
pub note-free : (table : List Driver) (ds : List NumberedDrive) (d : NumberedDrive) (o : Driver) → d.net < length table → o ≡ slice_index_or table d.net o → o ≡ Nobody → IsOutside d.driver → StandsFor table ds
    → StandsFor (slice_set table d.net d.driver) (ds ++ d ∷ [])
note-free table ds d o lt found none out s =
    let e : drivers_at d.net ds ≡ [] = nobody-none (drivers_at d.net ds) (at-outside d.net ds s.outside) (found-at table ds d.net o s.first_is lt found ∙ none) in
    record {
      first_is = first-more table ds d lt e s.first_is;
      alone = alone-more ds d e s.alone;
      outside = all-append (λ d. IsOutside d.driver) ds (d ∷ []) s.outside (out, tt);
    }

-- it has one
one-alone : (ds : List Driver) → length ds ≤ 1 → first_or_nobody ds ≢ Nobody → (d : Driver) × (ds ≡ d ∷ [])
one-alone [] h n = absurd (n refl)
one-alone (d ∷ []) h n = (d, refl)
one-alone (d ∷ e ∷ ds) h n = absurd (omega arith)

pub note-taken : (table : List Driver) (ds : List NumberedDrive) (n : ℕ) (o : Driver) → n < length table → o ≡ slice_index_or table n o → o ≢ Nobody → StandsFor table ds → IsTaken n ds
note-taken table ds n o lt found some s = one-alone (drivers_at n ds) (s.alone n) (λ e. some (sym (found-at table ds n o s.first_is lt found) ∙ e))

nobody-is : (o : Driver) → says_nobody o ≡ true → o ≡ Nobody
nobody-is Nobody e = refl
nobody-is Stimulus e = cc
nobody-is (Element i) e = cc
nobody-is Notifier e = cc

somebody-is : (o : Driver) → says_nobody o ≡ false → o ≢ Nobody
somebody-is o e h = let t : says_nobody o ≡ true = ap says_nobody h in cc

pub note-free_by : (table : List Driver) (ds : List NumberedDrive) (d : NumberedDrive) (o : Driver) → d.net < length table → o ≡ slice_index_or table d.net o → says_nobody o ≡ true → IsOutside d.driver → StandsFor table ds
    → StandsFor (slice_set table d.net d.driver) (ds ++ d ∷ [])
note-free_by table ds d o lt found none out s = note-free table ds d o lt found (nobody-is o none) out s

pub note-taken_by : (table : List Driver) (ds : List NumberedDrive) (n : ℕ) (o : Driver) → n < length table → o ≡ slice_index_or table n o → says_nobody o ≡ false → StandsFor table ds → IsTaken n ds
note-taken_by table ds n o lt found some s = note-taken table ds n o lt found (somebody-is o some) s
