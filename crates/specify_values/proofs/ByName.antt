-- Values by their names: a table after one more, and the list that it stands for.
use Rattle.std.specs.Prelude.{◌≡◌, ℕ, ◌+◌, ◌<◌, ◌≤◌, List, [], ◌∷◌, ◌++◌, Bool, true, false, cond, Option, Some, None, is_some, find, length, map, slice_index_or, take, bytes_eq, refl, if◌then◌else◌}
use Rattle.std.specs.Borrow.{Bor}
use Rattle.std.specs.Option.{option_map, option_or}
use Rattle.std.proofs.Common.{sym, ◌∙◌, ap}
use Rattle.std.proofs.lemmas.Cmp.{nat_list_eq_equiv}
use Rattle.std.proofs.lemmas.List.{map-append, take_more, take_all}
use Rattle.std.proofs.lemmas.List.Folds.{find-append}
use Rattle.std.proofs.lemmas.Slice.Eq.{bytes_eq-Decides}
use Rattle.std.proofs.Math.Path.{fun_ext}
use Rattle.vl_tree.specs.declared.expressions.MinTypMax as code_mtm
use Rattle.vl_tree.specs.Seen.{view_mtm}
use Rattle.specify_model.specs.Blocks.{Parameter}
use Rattle.specify_model.specs.Values.{Values, value_of}
use Rattle.specify_values.specs.Seen.{one_more, view_parameter}
use Rattle.specify_values.specs.declared.items.Parameter as code

-- a name, as a key
abbrev pub key : List ℕ → Bor (List ℕ)
key n = record { ref_ptr = (0, 0); now = n }

-- ---- a list with one more at its end

or-map : (o p : Option Parameter) → option_map (λ q. q.value) (option_or o p) ≡ option_or (option_map (λ q. q.value) o) (option_map (λ q. q.value) p)
or-map None p = refl
or-map (Some q) p = refl

one-found : (b : Bool) (p : Parameter) → option_map (λ q. q.value) (if b then Some p else None) ≡ (if b then Some p.value else None)
one-found true p = refl
one-found false p = refl

pub value-more : (ps : List Parameter) (p : Parameter) → value_of (ps ++ p ∷ []) ≡ one_more (value_of ps) p
value-more ps p = fun_ext (λ n.
    ap (option_map (λ q. q.value)) (find-append (λ q. bytes_eq n q.name.text) ps (p ∷ [])) ∙ or-map (find (λ q. bytes_eq n q.name.text) ps) (find (λ q. bytes_eq n q.name.text) (p ∷ []))
    ∙ ap (option_or (value_of ps n)) (one-found (bytes_eq n p.name.text) p))

pub next-value : (xs : List code.Parameter) (i : ℕ) (x : code.Parameter) (old new : Values) → i < length xs → x ≡ slice_index_or xs i x → old ≡ value_of (map view_parameter (take i xs))
    → new ≡ one_more old (view_parameter x) → new ≡ value_of (map view_parameter (take (i + 1) xs))
next-value xs i x old new lt at h e =
    e ∙ ap (λ v. one_more v (view_parameter x)) h ∙ sym (value-more (map view_parameter (take i xs)) (view_parameter x))
    ∙ ap value_of (sym (ap (map view_parameter) (take_more xs i x lt) ∙ map-append view_parameter (take i xs) (slice_index_or xs i x ∷ []) ∙ ap (λ y. map view_parameter (take i xs) ++ view_parameter y ∷ []) (sym at)))

pub all-values : (xs : List code.Parameter) (i : ℕ) (new : Values) → length xs ≤ i → new ≡ value_of (map view_parameter (take i xs)) → new ≡ value_of (map view_parameter xs)
all-values xs i new le h = h ∙ ap (λ ys. value_of (map view_parameter ys)) (take_all i xs le)

-- ---- a table

abbrev seen_in : (Bor (List ℕ) → Option code_mtm.MinTypMax) → Values
seen_in t n = option_map view_mtm (t (key n))

is-none : {A : Type 0} (o : Option A) → is_some o ≡ false → o ≡ None
is-none None h = refl
is-none (Some x) h = cc

or-none : {A : Type 0} (o : Option A) → option_or o None ≡ o
or-none None = refl
or-none (Some x) = refl

or-there : {A : Type 0} (o p : Option A) → is_some o ≡ true → option_or o p ≡ o
or-there None p h = cc
or-there (Some x) p h = refl

some-map : (o : Option code_mtm.MinTypMax) → is_some (option_map view_mtm o) ≡ is_some o
some-map None = refl
some-map (Some x) = refl

-- where it hasn't the name, one is put in
pub put-in : (p : code.Parameter) (old new : Bor (List ℕ) → Option code_mtm.MinTypMax) → is_some (old (key p.name.text.now)) ≡ false
    → ((q : Bor (List ℕ)) → new q ≡ cond (bytes_eq p.name.text.now q.now) (Some p.value) (old q)) → seen_in new ≡ one_more (seen_in old) (view_parameter p)
put-in p old new absent h = fun_ext (λ n. by n (bytes_eq p.name.text.now n) refl)
  where
    by : (n : List ℕ) (b : Bool) → bytes_eq p.name.text.now n ≡ b → seen_in new n ≡ one_more (seen_in old) (view_parameter p) n
    by n true e =
        let is : p.name.text.now ≡ n = (bytes_eq-Decides p.name.text.now n).0 e in
        let none : old (key n) ≡ None = ap (λ m. old (key m)) (sym is) ∙ is-none (old (key p.name.text.now)) absent in
        ap (option_map view_mtm) (h (key n) ∙ ap (λ b. cond b (Some p.value) (old (key n))) e)
        ∙ sym (ap (λ o. option_or (option_map view_mtm o) (if bytes_eq n p.name.text.now then Some (view_mtm p.value) else None)) none
        ∙ ap (λ b. if b then Some (view_mtm p.value) else None) (nat_list_eq_equiv.symm n p.name.text.now ∙ e))
    by n false e =
        ap (option_map view_mtm) (h (key n) ∙ ap (λ b. cond b (Some p.value) (old (key n))) e)
        ∙ sym (ap (λ b. option_or (seen_in old n) (if b then Some (view_mtm p.value) else None)) (nat_list_eq_equiv.symm n p.name.text.now ∙ e) ∙ or-none (seen_in old n))

-- where it has, nothing changes
pub there-already : (p : code.Parameter) (old : Bor (List ℕ) → Option code_mtm.MinTypMax) → is_some (old (key p.name.text.now)) ≡ true → seen_in old ≡ one_more (seen_in old) (view_parameter p)
there-already p old present = fun_ext (λ n. by n (bytes_eq n p.name.text.now) refl)
  where
    by : (n : List ℕ) (b : Bool) → bytes_eq n p.name.text.now ≡ b → seen_in old n ≡ one_more (seen_in old) (view_parameter p) n
    by n true e =
        let is : n ≡ p.name.text.now = (bytes_eq-Decides n p.name.text.now).0 e in
        sym (or-there (seen_in old n) (if bytes_eq n p.name.text.now then Some (view_mtm p.value) else None) (some-map (old (key n)) ∙ ap (λ m. is_some (old (key m))) is ∙ present))
    by n false e = sym (ap (λ b. option_or (seen_in old n) (if b then Some (view_mtm p.value) else None)) e ∙ or-none (seen_in old n))
