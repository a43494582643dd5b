-- What declarations say, one after another.
use Rattle.std.specs.Prelude.{◌≡◌, ℕ, zero, suc, ◌+◌, ◌<◌, ◌≤◌, ◌-◌, List, [], ◌∷◌, ◌++◌, Bool, true, false, ◌||◌, Some, None, length, slice_index_or, slice_set, take, map, find, refl, bytes_eq, if◌then◌else◌, replicate}
use Rattle.std.specs.Borrow.{Bor}
use Rattle.std.specs.List.{AllByRecursion, IsDistinct, list_any, position}
use Rattle.std.proofs.Common.{sym, ◌∙◌, ap, subst, arith, cond}
use Rattle.std.proofs.lemmas.List.{take_more, take_all}
use Rattle.std.proofs.lemmas.Map.Keys.{IsDistinct-head, IsDistinct-tail}
use Rattle.std.proofs.lemmas.List.Quantifiers.{position-Some}
use Rattle.std.proofs.lemmas.Slice.Eq.{bytes_eq-Decides}
use Rattle.elab_laws.proofs.Apart.{bytes-either}
use Rattle.elab_declared.specs.declared.nets.NetDeclaration.{NetDeclaration}
use Rattle.vl_tree.specs.declared.modules.PortDeclaration.{PortDeclaration}
use Rattle.elab_variables.specs.declared.tables.Row.{Row}
use Rattle.elab_variables.specs.Naming.{key_texts}
use Rattle.elab_variables.specs.Rows.{blank, said_by, said_of, first_said, rows_with, net_said, port_said, rows_said}

-- ---- one name

none-told : (t : List ℕ) (h : Row → Row) (keys : List (Bor (List ℕ))) (rs : List Row) → length keys ≡ length rs → AllByRecursion (λ n. bytes_eq t n ≡ false) (key_texts keys)
    → rs ≡ rows_with (said_of t h) keys rs
none-told t h [] [] l a = refl
none-told t h [] (r ∷ rs) l a = cc
none-told t h (k ∷ ks) [] l a = cc
none-told t h (k ∷ ks) (r ∷ rs) l a =
    let e : bytes_eq k.now t ≡ false = bytes-either k.now t ∙ a.0 in
    ap (λ b. (if b then h r else r) ∷ rs) (sym e) ∙ ap (λ xs. said_of t h k.now r ∷ xs) (none-told t h ks rs (omega (arith, l)) a.1)

-- a name that isn't there tells nothing
not-any : (t : List ℕ) (keys : List (Bor (List ℕ))) → list_any (λ k. bytes_eq t k.now) keys ≡ false → AllByRecursion (λ n. bytes_eq t n ≡ false) (key_texts keys)
not-any t [] h = tt
not-any t (k ∷ ks) h = let p = both (bytes_eq t k.now) (list_any (λ k. bytes_eq t k.now) ks) h in (p.0, not-any t ks p.1)
  where
    both : (a b : Bool) → (a || b) ≡ false → (a ≡ false) × (b ≡ false)
    both true b e = cc
    both false b e = (refl, e)

absent : (t : List ℕ) (h : Row → Row) (keys : List (Bor (List ℕ))) (rs : List Row) → length keys ≡ length rs → list_any (λ k. bytes_eq t k.now) keys ≡ false → rs ≡ rows_with (said_of t h) keys rs
absent t h keys rs l e = none-told t h keys rs l (not-any t keys e)

same-text : (t n : List ℕ) → bytes_eq t n ≡ true → t ≡ n
same-text t n e = (bytes_eq-Decides t n).0 e

other-text : (k : List ℕ) (ns : List (List ℕ)) (t : List ℕ) (i : ℕ) (d : List ℕ) → i < length ns → AllByRecursion (λ n. bytes_eq k n ≡ false) ns → t ≡ slice_index_or ns i d → bytes_eq k t ≡ false
other-text k [] t i d lt a e = absurd (omega (arith, lt))
other-text k (n ∷ ns) t zero d lt a e = ap (bytes_eq k) e ∙ a.0
other-text k (n ∷ ns) t (suc i) d lt a e = other-text k ns t i d (omega (arith, lt)) a.1 e

text-at : (keys : List (Bor (List ℕ))) (i : ℕ) (d : Bor (List ℕ)) → slice_index_or (key_texts keys) i d.now ≡ (slice_index_or keys i d).now
text-at [] i d = refl
text-at (k ∷ ks) zero d = refl
text-at (k ∷ ks) (suc i) d = text-at ks i d

length-texts : (keys : List (Bor (List ℕ))) → length (key_texts keys) ≡ length keys
length-texts [] = refl
length-texts (k ∷ ks) = ap suc (length-texts ks)

-- the row of a name that is there
told-at : (t : List ℕ) (h : Row → Row) (keys : List (Bor (List ℕ))) (rs : List Row) (i : ℕ) (d : Bor (List ℕ)) (e : Row) → length keys ≡ length rs → IsDistinct bytes_eq (key_texts keys)
    → i < length keys
    → bytes_eq t (slice_index_or keys i d).now ≡ true → slice_set rs i (h (slice_index_or rs i e)) ≡ rows_with (said_of t h) keys rs
told-at t h [] rs i d e l a lt is = absurd (omega (arith, lt))
told-at t h (k ∷ ks) [] i d e l a lt is = cc
told-at t h (k ∷ ks) (r ∷ rs) zero d e l a lt is =
    ap (λ b. (if b then h r else r) ∷ rs) (sym (bytes-either k.now t ∙ is))
    ∙ ap (λ xs. said_of t h k.now r ∷ xs) (none-told t h ks rs (omega (arith, l)) (subst (λ n. AllByRecursion (λ m. bytes_eq n m ≡ false) (key_texts ks)) (sym (same-text t k.now is))
    (IsDistinct-head bytes_eq k.now (key_texts ks) a)))
told-at t h (k ∷ ks) (r ∷ rs) (suc i) d e l a lt is =
    let inside : i < length (key_texts ks) = subst (λ n. i < n) (sym (length-texts ks)) (omega (arith, lt)) in
    let other : bytes_eq k.now t ≡ false = other-text k.now (key_texts ks) t i d.now inside (IsDistinct-head bytes_eq k.now (key_texts ks) a)
    (same-text t (slice_index_or ks i d).now is ∙ sym (text-at ks i d)) in
    ap (λ b. (if b then h r else r) ∷ slice_set rs i (h (slice_index_or rs i e))) (sym other)
    ∙ ap (λ xs. said_of t h k.now r ∷ xs) (told-at t h ks rs i d e (omega (arith, l)) (IsDistinct-tail bytes_eq k.now (key_texts ks) a) (omega (arith, lt)) is)

pub noted : (t : List ℕ) (h : Row → Row) (keys : List (Bor (List ℕ))) (rs : List Row) (i : ℕ) (n : Bor (List ℕ)) (x e : Row) → length keys ≡ length rs → IsDistinct bytes_eq (key_texts keys)
    → n.now ≡ t
    → position (λ k. bytes_eq n.now k.now) keys ≡ Some i → x ≡ h (slice_index_or rs i e) → slice_set rs i x ≡ rows_with (said_of t h) keys rs
noted t h keys rs i n x e l a is p said =
    let q = position-Some (λ k. bytes_eq n.now k.now) keys i n p in
    ap (slice_set rs i) said ∙ told-at t h keys rs i n e l a q.0 (subst (λ m. bytes_eq m (slice_index_or keys i n).now ≡ true) is q.1)

pub unnoted : (t : List ℕ) (h : Row → Row) (keys : List (Bor (List ℕ))) (rs : List Row) (n : Bor (List ℕ)) → length keys ≡ length rs → n.now ≡ t → list_any (λ k. bytes_eq n.now k.now) keys ≡ false
    → rs ≡ rows_with (said_of t h) keys rs
unnoted t h keys rs n l is e = absent t h keys rs l (subst (λ m. list_any (λ k. bytes_eq m k.now) keys ≡ false) is e)

-- ---- all declarations

twice-told : (f g : List ℕ → Row → Row) (keys : List (Bor (List ℕ))) (rs : List Row) → rows_with f keys (rows_with g keys rs) ≡ rows_with (λ n r. f n (g n r)) keys rs
twice-told f g [] rs = refl
twice-told f g (k ∷ ks) [] = refl
twice-told f g (k ∷ ks) (r ∷ rs) = ap (λ xs. f k.now (g k.now r) ∷ xs) (twice-told f g ks rs)

same-told : (f g : List ℕ → Row → Row) (keys : List (Bor (List ℕ))) (rs : List Row) → ((n : List ℕ) (r : Row) → f n r ≡ g n r) → rows_with f keys rs ≡ rows_with g keys rs
same-told f g [] rs h = refl
same-told f g (k ∷ ks) [] h = refl
same-told f g (k ∷ ks) (r ∷ rs) h = ap (λ x. x ∷ rows_with f ks rs) (h k.now r) ∙ ap (λ xs. g k.now r ∷ xs) (same-told f g ks rs h)

pub length-told : (f : List ℕ → Row → Row) (keys : List (Bor (List ℕ))) (rs : List Row) → length keys ≡ length rs → length keys ≡ length (rows_with f keys rs)
length-told f [] rs l = refl
length-told f (k ∷ ks) [] l = l
length-told f (k ∷ ks) (r ∷ rs) l = ap suc (length-told f ks rs (omega (arith, l)))

module _ {D : Type 0} (text : D → List ℕ) (said : D → Row → Row) (hides : (d e : D) (r : Row) → said e (said d r) ≡ said e r) where
  last-first : (ds : List D) (d : D) (n : List ℕ) (r : Row) → first_said text said (ds ++ d ∷ []) n r ≡ first_said text said ds n (said_of (text d) (said d) n r)
  last-first [] d n r = by (bytes_eq n (text d))
    where
      by : (b : Bool) → said_by said (cond b (Some d) None) r ≡ (if b then said d r else r)
      by true = refl
      by false = refl
  last-first (e ∷ ds) d n r = by (bytes_eq n (text e)) (last-first ds d n r)
    where
      hidden : (b : Bool) → said e r ≡ said e (if b then said d r else r)
      hidden true = sym (hides d e r)
      hidden false = refl

      by : (b : Bool) → first_said text said (ds ++ d ∷ []) n r ≡ first_said text said ds n (said_of (text d) (said d) n r)
          → said_by said (cond b (Some e) (find (λ x. bytes_eq n (text x)) (ds ++ d ∷ []))) r ≡ said_by said (cond b (Some e) (find (λ x. bytes_eq n (text x)) ds)) (said_of (text d) (said d) n r)
      by true h = hidden (bytes_eq n (text d))
      by false h = h

  split-last : (ds : List D) (d x : D) → 1 ≤ length ds → x ≡ slice_index_or ds (length ds - 1) d → ds ≡ take (length ds - 1) ds ++ x ∷ []
  split-last ds d x le is =
      sym (take_all (length ds - 1 + 1) ds (omega (arith, le)))
      ∙ take_more ds (length ds - 1) d (omega (arith, le))
      ∙ ap (λ y. take (length ds - 1) ds ++ y ∷ []) (sym is)

  -- one declaration less is left
  pub one-told : (keys : List (Bor (List ℕ))) (rs new : List Row) (ds : List D) (x : D) (total : List Row) → 1 ≤ length ds → x ≡ slice_index_or ds (length ds - 1) x
      → new ≡ rows_with (said_of (text x) (said x)) keys rs
      → rows_with (first_said text said ds) keys rs ≡ total → rows_with (first_said text said (take (length ds - 1) ds)) keys new ≡ total
  one-told keys rs new ds x total le is e h =
      let less = take (length ds - 1) ds in
      ap (rows_with (first_said text said less) keys) e
      ∙ twice-told (first_said text said less) (said_of (text x) (said x)) keys rs
      ∙ sym (same-told (first_said text said (less ++ x ∷ [])) (λ n r. first_said text said less n (said_of (text x) (said x) n r)) keys rs (last-first less x))
      ∙ ap (λ xs. rows_with (first_said text said xs) keys rs) (sym (split-last ds x x le is))
      ∙ h

  none-left : (keys : List (Bor (List ℕ))) (rs : List Row) → length keys ≡ length rs → rows_with (first_said text said []) keys rs ≡ rs
  none-left [] [] l = refl
  none-left [] (r ∷ rs) l = cc
  none-left (k ∷ ks) [] l = cc
  none-left (k ∷ ks) (r ∷ rs) l = ap (λ xs. r ∷ xs) (none-left ks rs (omega (arith, l)))

  pub all-told : (keys : List (Bor (List ℕ))) (rs : List Row) (ds : List D) (total : List Row) → length keys ≡ length rs → length ds < 1 → rows_with (first_said text said ds) keys rs ≡ total
      → rs ≡ total
  all-told keys rs [] total l lt h = sym (none-left keys rs l) ∙ h
  all-told keys rs (d ∷ ds) total l lt h = absurd (omega (arith, lt))

-- ---- from blank rows

blanks : (f : List ℕ → Row → Row) (keys : List (Bor (List ℕ))) → rows_with f keys (replicate (length keys) blank) ≡ map (λ k. f k.now blank) keys
blanks f [] = refl
blanks f (k ∷ ks) = ap (λ xs. f k.now blank ∷ xs) (blanks f ks)

pub length-blanks : (keys : List (Bor (List ℕ))) (rs : List Row) → rs ≡ replicate (length keys) blank → length keys ≡ length rs
length-blanks keys rs e = by keys ∙ ap length (sym e)
  where
    by : (ks : List (Bor (List ℕ))) → length ks ≡ length (replicate (length ks) blank)
    by [] = refl
    by (k ∷ ks) = ap suc (by ks)

pub all-said : (keys : List (Bor (List ℕ))) (ports : List PortDeclaration) (nets : List NetDeclaration) (rs first second : List Row) → rs ≡ replicate (length keys) blank
    → first ≡ rows_with (first_said (λ d. d.name.text.now) net_said nets) keys rs → second ≡ rows_with (first_said (λ d. d.name.text.now) port_said ports) keys first → second ≡ rows_said ports
    nets keys
all-said keys ports nets rs first second e f g =
    g ∙ ap (rows_with (first_said (λ d. d.name.text.now) port_said ports) keys) (f ∙ ap (rows_with (first_said (λ d. d.name.text.now) net_said nets) keys) e)
    ∙ twice-told (first_said (λ d. d.name.text.now) port_said ports) (first_said (λ d. d.name.text.now) net_said nets) keys (replicate (length keys) blank)
    ∙ blanks (λ n r. first_said (λ d. d.name.text.now) port_said ports n (first_said (λ d. d.name.text.now) net_said nets n r)) keys
