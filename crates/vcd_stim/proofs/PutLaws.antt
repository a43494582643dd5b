-- Values that are put to nets one after another: of each net the last one stays, in the order of the nets.
use Rattle.std.specs.Prelude.{zero, suc, ℕ, ◌+◌, ◌-◌, ◌≡◌, ◌<◌, ◌≤◌, ◌==◌, ◌&&◌, Bool, true, false, cond, List, [], ◌∷◌, ◌++◌, length, map, zip, take, drop, filter, filter_map, replicate, Option, Some, None, refl, if◌then◌else◌}
use Rattle.std.specs.Option.{option_map, option_or}
use Rattle.std.specs.List.{cons_option, range_with_len}
use Rattle.std.specs.BTreeMap.{insert_entry}
use Rattle.std.specs.Ordering.{nat_cmp}
use Rattle.std.proofs.Common.{inl, inr, sym, ◌∙◌, ap, arith}
use Rattle.std.proofs.lemmas.Bool.{cases_lt, eq-eqb, ne_eqb, lt-ltb, le-ltb}
use Rattle.std.proofs.lemmas.List.{length-map, length-take-le}
use Rattle.sg_logic.specs.declared.values.Value.{Value}
use Rattle.vcd_model.specs.Stimulus.{is_given, last, last_given}
use Rattle.vcd_model.specs.Values.{filler, value_of, Given}
use Rattle.vcd_stim.specs.Steps.{nets_given, pairs, put_all, Each}
use Rattle.vcd_stim.proofs.Lists.{each-map}

pub put_append : (es xs ys : List (ℕ × Value)) → put_all es (xs ++ ys) ≡ put_all (put_all es xs) ys
put_append es [] ys = refl
put_append es (x ∷ xs) ys = put_append (insert_entry nat_cmp es x.0 x.1) xs ys

-- ---- entries as a function of the net

abbrev pub pick : (ℕ → Option Value) → ℕ → Option (ℕ × Value)
pick f i = option_map (λ v. (i, v)) (f i)

abbrev pub upd : (ℕ → Option Value) → ℕ → Value → ℕ → Option Value
upd f net v i = if net == i then Some v else f i

abbrev pub entries_from : (ℕ → Option Value) → ℕ → ℕ → List (ℕ × Value)
entries_from f k n = filter_map (pick f) (range_with_len k n)

same-from : (f g : ℕ → Option Value) (k n : ℕ) → ((i : ℕ) → k ≤ i → f i ≡ g i) → entries_from f k n ≡ entries_from g k n
same-from f g k zero h = refl
same-from f g k (suc n) h =
    ap (λ o. cons_option (option_map (λ v. (k, v)) o) (entries_from f (k + 1) n)) (h k (omega arith))
    ∙ ap (λ l. cons_option (pick g k) l) (same-from f g (k + 1) n (λ i le. h i (omega (arith, le))))

none-from : (k n : ℕ) → entries_from (λ i. None) k n ≡ []
none-from k zero = refl
none-from k (suc n) = none-from (k + 1) n

insert-first : (f : ℕ → Option Value) (k j n : ℕ) (v : Value) → k < j → insert_entry nat_cmp (entries_from f j n) k v ≡ (k, v) ∷ entries_from f j n
insert-first f k j zero v h = refl
insert-first f k j (suc n) v h = by (f j) (insert-first f k (j + 1) n v (omega (arith, h)))
  where
    by : (o : Option Value) → insert_entry nat_cmp (entries_from f (j + 1) n) k v ≡ (k, v) ∷ entries_from f (j + 1) n
        → insert_entry nat_cmp (cons_option (option_map (λ w. (j, w)) o) (entries_from f (j + 1) n)) k v ≡ (k, v) ∷ cons_option (option_map (λ w. (j, w)) o) (entries_from f (j + 1) n)
    by None rec = rec
    by (Some w) rec = rw (lt-ltb k j h) refl

insert-at : (f : ℕ → Option Value) (k n net : ℕ) (v : Value) → k ≤ net → net < k + n → insert_entry nat_cmp (entries_from f k n) net v ≡ entries_from (upd f net v) k n
insert-at f k zero net v low high = absurd (omega (arith, low, high))
insert-at f k (suc n) net v low high = elim (cases_lt k net) [
  | inl lt ↦ above lt (f k) (insert-at f (k + 1) n net v (omega (arith, lt)) (omega (arith, high)))
  | inr ge ↦ at-it (omega (arith, low, ge)) (f k)
]
  where
    above : k < net → (o : Option Value) → insert_entry nat_cmp (entries_from f (k + 1) n) net v ≡ entries_from (upd f net v) (k + 1) n
        → insert_entry nat_cmp (cons_option (option_map (λ w. (k, w)) o) (entries_from f (k + 1) n)) net v ≡ cons_option (option_map (λ w. (k, w)) (if net == k then Some v else o)) (entries_from (upd f net v) (k + 1) n)
    above lt None ih = rw (ne_eqb net k (λ e. omega (arith, lt, e))) ih
    above lt (Some w) ih = rw (le-ltb net k (omega (arith, lt)), ne_eqb net k (λ e. omega (arith, lt, e))) (ap (λ l. (k, w) ∷ l) ih)

    rest : net ≡ k → entries_from f (k + 1) n ≡ entries_from (upd f net v) (k + 1) n
    rest e = same-from f (upd f net v) (k + 1) n (λ i le. sym (ap (λ b. if b then Some v else f i) (ne_eqb net i (λ q. omega (arith, le, e, q)))))

    at-it : net ≡ k → (o : Option Value)
        → insert_entry nat_cmp (cons_option (option_map (λ w. (k, w)) o) (entries_from f (k + 1) n)) net v ≡ cons_option (option_map (λ w. (k, w)) (if net == k then Some v else o)) (entries_from (upd f net v) (k + 1) n)
    at-it e None =
        insert-first f net (k + 1) n v (omega (arith, e)) ∙ ap (λ m. (m, v) ∷ entries_from f (k + 1) n) e ∙ ap (λ l. (k, v) ∷ l) (rest e)
        ∙ sym (ap (λ b. cons_option (option_map (λ w. (k, w)) (if b then Some v else None)) (entries_from (upd f net v) (k + 1) n)) (eq-eqb net k e))
    at-it e (Some w) = rw (le-ltb net k (omega (arith, e)), eq-eqb net k e) (ap (λ l. (k, v) ∷ l) (rest e))

abbrev pub override : (ℕ → Option Value) → List (ℕ × Value) → ℕ → Option Value
override f [] i = f i
override f (c ∷ cs) i = override (upd f c.0 c.1) cs i

put-entries : (n : ℕ) (f : ℕ → Option Value) (cs : List (ℕ × Value)) → Each (λ c. c.0 < n) cs → put_all (entries_from f 0 n) cs ≡ entries_from (override f cs) 0 n
put-entries n f [] h = refl
put-entries n f (c ∷ cs) h = ap (λ es. put_all es cs) (insert-at f 0 n c.0 c.1 (omega arith) (omega (arith, h.0))) ∙ put-entries n (upd f c.0 c.1) cs h.1

-- ---- the last of each

last-stays : (v : Value) (vs : List Value) (o : Option Value) → option_or (last (v ∷ vs)) o ≡ last (v ∷ vs)
last-stays v [] o = refl
last-stays v (w ∷ vs) o = last-stays w vs o

last-more : (v : Value) (vs : List Value) → option_or (last vs) (Some v) ≡ last (v ∷ vs)
last-more v [] = refl
last-more v (w ∷ vs) = last-stays w vs (Some v)

or-none : (o : Option Value) → option_or o None ≡ o
or-none None = refl
or-none (Some v) = refl

override-given : (f : ℕ → Option Value) (now : ℕ) (gs : List Given) (i : ℕ) → Each (λ g. g.time ≡ now) gs
    → override f (pairs gs) i ≡ option_or (last (map (λ g. g.value) (filter (is_given now i) gs))) (f i)
override-given f now [] i h = refl
override-given f now (g ∷ gs) i h =
    override-given (upd f g.net g.value) now gs i h.1 ∙ by (g.net == i)
    ∙ sym (ap (λ b. option_or (last (map (λ x. x.value) (cond (b && (g.net == i)) (g ∷ filter (is_given now i) gs) (filter (is_given now i) gs)))) (f i)) (eq-eqb g.time now h.0))
  where
    by : (b : Bool) → option_or (last (map (λ x. x.value) (filter (is_given now i) gs))) (if b then Some g.value else f i)
        ≡ option_or (last (map (λ x. x.value) (cond (true && b) (g ∷ filter (is_given now i) gs) (filter (is_given now i) gs)))) (f i)
    by true = last-more g.value (map (λ x. x.value) (filter (is_given now i) gs)) ∙ sym (last-stays g.value (map (λ x. x.value) (filter (is_given now i) gs)) (f i))
    by false = refl

-- what is put at a time is what is given last to each net
pub open-sets : (n now : ℕ) (gs : List Given) → Each (λ g. g.net < n) gs → Each (λ g. g.time ≡ now) gs → put_all [] (pairs gs) ≡ filter_map (last_given gs now) (range_with_len 0 n)
open-sets n now gs few present =
    ap (λ es. put_all es (pairs gs)) (sym (none-from 0 n)) ∙ put-entries n (λ i. None) (pairs gs) (each-map (λ c. c.0 < n) (λ g. (g.net, g.value)) gs few)
    ∙ same-from (override (λ i. None) (pairs gs)) (λ i. last (map (λ g. g.value) (filter (is_given now i) gs))) 0 n
    (λ i le. override-given (λ j. None) now gs i present ∙ or-none (last (map (λ g. g.value) (filter (is_given now i) gs))))

-- ---- a value's bits

zip-apart : (ns : List ℕ) (us vs : List Value) → length us ≤ length ns → zip ns (us ++ vs) ≡ zip (take (length us) ns) us ++ zip (drop (length us) ns) vs
zip-apart ns [] vs h = refl
zip-apart [] (u ∷ us) vs h = absurd (omega (arith, h))
zip-apart (n ∷ ns) (u ∷ us) vs h = ap (λ l. (n, u) ∷ l) (zip-apart ns us vs (omega (arith, h)))

length-copies : (k : ℕ) (v : Value) → length (replicate k v) ≡ k
length-copies zero v = refl
length-copies (suc k) v = ap suc (length-copies k v)

pub zip-filled : (ns : List ℕ) (k : ℕ) (v : Value) (vs : List Value) → k ≤ length ns → zip ns (replicate k v ++ vs) ≡ zip (take k ns) (replicate k v) ++ zip (drop k ns) vs
zip-filled ns k v vs h =
    zip-apart ns (replicate k v) vs (omega (arith, h, length-copies k v)) ∙ ap (λ m. zip (take m ns) (replicate k v) ++ zip (drop m ns) vs) (length-copies k v)

pub put_value_is : (old mid new : List (ℕ × Value)) (nets left right bits : List ℕ) (f : Value) → length bits ≤ length nets → left ≡ take (length nets - length bits) nets → right ≡ drop (length nets - length bits) nets
    → f ≡ filler (map value_of bits) → mid ≡ put_all old (zip left (replicate (length left) f)) → new ≡ put_all mid (zip right (map value_of bits)) → new ≡ put_all old (nets_given bits nets)
put_value_is old mid new nets left right bits f few l r e m n =
    let k : ℕ = length nets - length bits in
    let many : length left ≡ k = ap length l ∙ length-take-le k nets (omega arith) in
    n ∙ ap (λ es. put_all es (zip right (map value_of bits))) m ∙ sym (put_append old (zip left (replicate (length left) f)) (zip right (map value_of bits)))
    ∙ ap (λ ns. put_all old (zip left (replicate (length left) f) ++ zip ns (map value_of bits))) r
    ∙ ap (λ j. put_all old (zip left (replicate j f) ++ zip (drop k nets) (map value_of bits))) many
    ∙ ap (λ ns. put_all old (zip ns (replicate k f) ++ zip (drop k nets) (map value_of bits))) l
    ∙ ap (put_all old) (sym (zip-filled nets k f (map value_of bits) (omega arith)))
    ∙ ap (λ v. put_all old (zip nets (replicate k v ++ map value_of bits))) e
    ∙ ap (λ j. put_all old (zip nets (replicate (length nets - j) (filler (map value_of bits)) ++ map value_of bits))) (sym (length-map bits value_of))
