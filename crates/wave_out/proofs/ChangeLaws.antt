-- A block that is written from the nets that changed has the variables that differ.
use Rattle.std.proofs.Common.{◌≡◌, ◌∙◌, sym, ap, refl, subst, ℕ, zero, suc, ◌+◌, ◌-◌, ◌<◌, ◌≤◌, List, [], ◌∷◌, ◌++◌, length, take, get_or, map, arith, zero-add, inl, inr}
use Rattle.std.specs.Prelude.{◌==◌, ◌⊎◌, ◌||◌, Bool, true, false, not, nat_lt, min, if◌then◌else◌, All, Some, None, replicate, slice_set}
use Rattle.std.specs.List.{filter}
use Rattle.std.proofs.lemmas.Bool.{cases_eq}
use Rattle.std.proofs.lemmas.Bool.Decides.{nat_tests}
use Rattle.std.proofs.lemmas.List.{get_or_past, get_or-take, length-append, length-replicate, length-take, map_more}
use Rattle.std.proofs.lemmas.List.Elements.{All-head, All-tail}
use Rattle.sg_logic.specs.declared.values.Value.{Value}
use Rattle.sg_logic.specs.declared.values.Value.TheVariants.{X}
use Rattle.sg_logic.specs.Values.{is_same}
use Rattle.sg_model.specs.Values.{value_at}
use Rattle.sg_model.specs.Time.{any_differs}
use Rattle.sg_circuit.specs.FanOut.{has, readers_at, readers_from, IsFanOut}
use Rattle.sg_circuit.proofs.SeenLaws.{map-mapped}
use Rattle.fan_round.specs.Lists.{occurrences, IsListOf}
use Rattle.fan_round.specs.Nets.{differs}
use Rattle.sim_times.specs.Watching.{AreDifferences, net_change}
use Rattle.fan_round.specs.Work.{with_marks, with_readers, AreReaders}
use Rattle.fan_round.proofs.WorkIsExact.{are_readers, marks_are}
use Rattle.fan_round.proofs.ListLaws.{occurs_later, test_other}
use Rattle.time_checks.specs.declared.changes.Change.{Change}
use Rattle.wave_out.specs.Changes.{bits_change, changes_text, text_if, work_text, IsBlock}
use Rattle.wave_out.specs.Lines.{bits_line, later_text}
use Rattle.wave_out.specs.Marks.{trues}
use Rattle.wave_out.specs.Texts.{by_number}
use Rattle.wave_out.specs.Vcd.{time_line}
use Rattle.wave_out.proofs.KeptLaws.{kept, kept_nothing, kept_same, kept_some, kept_texts, marks_kept}
use Rattle.wave_out.proofs.MarkLaws.{none_below, set_below, trues_below, AreBelow}

-- the block of the variables that pass
kept_text : (time : ℕ) (bits : List (List ℕ)) (old new : List Value) → work_text time bits new (kept (any_differs old new) 0 bits) ≡ changes_text time bits old new
kept_text time bits old new = at ks refl
  where
    t : List ℕ → Bool
    t = any_differs old new

    ks : List ℕ
    ks = kept t 0 bits

    at : (xs : List ℕ) → ks ≡ xs → work_text time bits new xs ≡ changes_text time bits old new
    at [] e = ap (λ b. if b then Some (time_line time ++ by_number (bits_change old new) 0 bits) else None) (sym (kept_nothing t 0 bits e))
    at (x ∷ xs) e =
        ap (λ zs. Some (later_text time bits zs new)) (sym e)
        ∙ (ap (λ ys. Some (time_line time ++ ys)) (kept_texts (bits_line new) t bits 0 bits (λ i l. ap (λ n. get_or bits n []) (zero-add i)))
        ∙ ap (λ b. if b then Some (time_line time ++ by_number (bits_change old new) 0 bits) else None) (sym (kept_some t 0 bits x xs e)))

-- values beyond a number of nets don't matter to variables that have none of these
short_at : (n k : ℕ) (vs : List Value) → n ≤ k → value_at (take n vs) k ≡ X
short_at n k vs l = get_or_past (take n vs) k X (let e : length (take n vs) ≡ min n (length vs) = length-take n vs in omega arith)

short_differs : (n k : ℕ) (old new : List Value) → k < n → differs (take n old) (take n new) k ≡ differs old new k
short_differs n k old new l = ap (λ v. not (is_same v (value_at (take n new) k))) (get_or-take n old k X l) ∙ ap (λ v. not (is_same (value_at old k) v)) (get_or-take n new k X l)

past_differs : (n k : ℕ) (old new : List Value) → n ≤ k → differs (take n old) (take n new) k ≡ false
past_differs n k old new l = ap (λ v. not (is_same v (value_at (take n new) k))) (short_at n k old l) ∙ ap (λ v. not (is_same X v)) (short_at n k new l)

any_short : (n : ℕ) (old new : List Value) (bs : List ℕ) → All (λ b. b < n) bs → any_differs (take n old) (take n new) bs ≡ any_differs old new bs
any_short n old new [] h = refl
any_short n old new (b ∷ bs) h =
    ap (λ c. c || any_differs (take n old) (take n new) bs) (short_differs n b old new (All-head (λ b. b < n) b bs h))
    ∙ ap (λ c. differs old new b || c) (any_short n old new bs (All-tail (λ b. b < n) b bs h))

-- the nets below a number are those that differ there
occurs_below : (n k : ℕ) (ns : List ℕ) → k < n → occurrences k (filter (λ x. nat_lt x n) ns) ≡ occurrences k ns
occurs_below n k [] l = refl
occurs_below n k (x ∷ xs) l = (elim (nat_lt x n) as (λ b. nat_lt x n ≡ b → occurrences k (if b then (x ∷ filter (λ y. nat_lt y n) xs) else filter (λ y. nat_lt y n) xs) ≡ occurrences k (x ∷ xs)) [
  | true ↦ λ e. ap (λ m. (if x == k then 1 else 0) + m) (occurs_below n k xs l)
  | false ↦ λ e. occurs_below n k xs l ∙ sym (occurs_later x k xs (λ same. (let f : x ≡ k = same in let g : n ≤ x = grind (arith, nat_tests) in omega arith)))
]) refl

occurs_past : (n k : ℕ) (ns : List ℕ) → n ≤ k → occurrences k (filter (λ x. nat_lt x n) ns) ≡ 0
occurs_past n k [] l = refl
occurs_past n k (x ∷ xs) l = (elim (nat_lt x n) as (λ b. nat_lt x n ≡ b → occurrences k (if b then (x ∷ filter (λ y. nat_lt y n) xs) else filter (λ y. nat_lt y n) xs) ≡ 0) [
  | true ↦ λ e. occurs_later x k (filter (λ y. nat_lt y n) xs) (λ same. (let f : x ≡ k = same in let g : x < n = grind (arith, nat_tests) in omega arith)) ∙ occurs_past n k xs l
  | false ↦ λ e. occurs_past n k xs l
]) refl

known_nets : (n : ℕ) (old new : List Value) (ns : List ℕ) → IsListOf (differs old new) ns → IsListOf (differs (take n old) (take n new)) (filter (λ x. nat_lt x n) ns)
known_nets n old new ns h = record { each = λ k. at k (within k n) }
  where
    within : (a b : ℕ) → (a < b) ⊎ (b ≤ a)
    within a b = grind arith

    at : (k : ℕ) → (k < n) ⊎ (n ≤ k) → occurrences k (filter (λ x. nat_lt x n) ns) ≡ (if differs (take n old) (take n new) k then 1 else 0)
    at k (inl l) = occurs_below n k ns l ∙ (h.each k ∙ ap (λ b. if b then 1 else 0) (sym (short_differs n k old new l)))
    at k (inr l) = occurs_past n k ns l ∙ ap (λ b. if b then 1 else 0) (sym (past_differs n k old new l))

-- the nets that changed, of so many
abbrev pub known : ℕ → List Change → List ℕ
known n changed = filter (λ x. nat_lt x n) (map (λ c. c.net) changed)

known_within : (n k : ℕ) (ns : List ℕ) → has k (filter (λ x. nat_lt x n) ns) ≡ true → k < n
known_within n k [] h = cc
known_within n k (x ∷ xs) h = (elim (nat_lt x n) as (λ b. nat_lt x n ≡ b → has k (if b then (x ∷ filter (λ y. nat_lt y n) xs) else filter (λ y. nat_lt y n) xs) ≡ true → k < n) [
  | true ↦ λ e f. elim (cases_eq x k) [
    | inl same ↦ (let l : x < n = grind (arith, nat_tests) in omega arith)
    | inr other ↦ known_within n k xs (sym (ap (λ b. b || has k (filter (λ y. nat_lt y n) xs)) (test_other x k other)) ∙ f)
  ]
  | false ↦ λ e f. known_within n k xs f
]) refl h

-- things without inputs behind the others read nothing
no_readers : (net k n : ℕ) → readers_from net k (replicate n []) ≡ []
no_readers net k zero = refl
no_readers net k (suc n) = no_readers net (suc k) n

readers_behind : (net k n : ℕ) (bits : List (List ℕ)) → readers_from net k (bits ++ replicate n []) ≡ readers_from net k bits
readers_behind net k n [] = no_readers net k n
readers_behind net k n (b ∷ bs) = ap (λ ks. if has net b then (k ∷ ks) else ks) (readers_behind net (suc k) n bs)

-- the marks of the variables with a net that changed are those of the variables that differ
marks_differ : (n m : ℕ) (bits index : List (List ℕ)) (changed : List Change) (start marks : List Bool) (old new : List Value) → All (λ bs. All (λ b. b < n) bs) bits → IsFanOut bits index → n ≡ length index → length bits ≤ m
    → start ≡ replicate m false → marks ≡ with_readers index (known n changed) start → AreDifferences old new (map net_change changed) → trues 0 marks ≡ kept (any_differs old new) 0 bits
marks_differ n m bits index changed start marks old new within fan many room clear e d =
    ap (trues 0) same ∙ (marks_kept t 0 (m - length bits) bits refl ∙ kept_same t (any_differs old new) 0 bits (λ i b l. any_short n old new (get_or bits i b) (within i b l)))
  where
    t : List ℕ → Bool
    t = any_differs (take n old) (take n new)

    all : List (List ℕ)
    all = bits ++ replicate (m - length bits) []

    long : m ≡ length all
    long = let a : length all ≡ length bits + length (replicate {A = List ℕ} (m - length bits) []) = length-append bits (replicate (m - length bits) []) in
        let b : length (replicate {A = List ℕ} (m - length bits) []) ≡ m - length bits = length-replicate (m - length bits) [] in
        omega arith

    nets : IsListOf (differs old new) (map (λ c. c.net) changed)
    nets = subst (λ ns. IsListOf (differs old new) ns) (map-mapped (λ c. c.net) net_change changed) d.nets

    same : marks ≡ map t all
    same =
        e ∙ (ap (λ ms. with_readers index (known n changed) ms) (clear ∙ ap (λ k. replicate k false) long)
        ∙ marks_are (take n old) (take n new) all index (known n changed) (record { each = λ net l. fan.each net l ∙ sym (readers_behind net 0 (m - length bits) bits) })
        (known_nets n old new (map (λ c. c.net) changed) nets) (λ k h. (let l : k < n = known_within n k (map (λ c. c.net) changed) h in omega arith)))

pub is_block : (time n m : ℕ) (bits index : List (List ℕ)) (changed : List Change) (start marks : List Bool) (new : List Value) (some : Bool) (text : List ℕ) → All (λ bs. All (λ b. b < n) bs) bits → IsFanOut bits index
    → n ≡ length index → length bits ≤ m → start ≡ replicate m false → marks ≡ with_readers index (known n changed) start → text_if some text ≡ work_text time bits new (trues 0 marks)
    → IsBlock time bits (map net_change changed) new (text_if some text)
is_block time n m bits index changed start marks new some text within fan many room clear e h = record {
  each = λ old d. h ∙ (ap (work_text time bits new) (marks_differ n m bits index changed start marks old new within fan many room clear e d) ∙ kept_text time bits old new);
}

-- one net more
filter_push : (p : ℕ → Bool) (xs : List ℕ) (x : ℕ) → filter p (xs ++ x ∷ []) ≡ filter p xs ++ (if p x then (x ∷ []) else [])
filter_push p [] x = refl
filter_push p (y ∷ ys) x = elim (p y) as (λ b. (if b then (y ∷ filter p (ys ++ x ∷ [])) else filter p (ys ++ x ∷ [])) ≡ (if b then (y ∷ filter p ys) else filter p ys) ++ (if p x then (x ∷ []) else [])) [
  | true ↦ ap (λ zs. y ∷ zs) (filter_push p ys x)
  | false ↦ filter_push p ys x
]

readers_append : (fan : List (List ℕ)) (ns ms : List ℕ) (marks : List Bool) → with_readers fan (ns ++ ms) marks ≡ with_readers fan ms (with_readers fan ns marks)
readers_append fan [] ms marks = refl
readers_append fan (n ∷ ns) ms marks = readers_append fan ns ms (with_marks (readers_at fan n) marks)

pub net_marked : (fan : List (List ℕ)) (n i : ℕ) (changed : List Change) (d : Change) (start mid new : List Bool) → i < length changed
    → new ≡ (if nat_lt (get_or changed i d).net n then with_marks (readers_at fan (get_or changed i d).net) mid else mid) → mid ≡ with_readers fan (known n (take i changed)) start → new ≡ with_readers fan (known n (take (i + 1) changed)) start
net_marked fan n i changed d start mid new l e h =
    e ∙ (one (nat_lt net n) ∙ (ap (with_readers fan (if nat_lt net n then (net ∷ []) else [])) h
    ∙ (sym (readers_append fan (known n (take i changed)) (if nat_lt net n then (net ∷ []) else []) start)
    ∙ ap (λ ns. with_readers fan ns start) (sym (ap (filter (λ x. nat_lt x n)) (map_more (λ c. c.net) changed i d l) ∙ filter_push (λ x. nat_lt x n) (map (λ c. c.net) (take i changed)) net)))))
  where
    net : ℕ
    net = (get_or changed i d).net

    one : (b : Bool) → (if b then with_marks (readers_at fan net) mid else mid) ≡ with_readers fan (if b then (net ∷ []) else []) mid
    one true = refl
    one false = refl

-- only variables are marked
marks_below : (n : ℕ) (es : List ℕ) (ms : List Bool) → All (λ e. e < n) es → AreBelow n ms → AreBelow n (with_marks es ms)
marks_below n [] ms h b = b
marks_below n (e ∷ es) ms h b = marks_below n es (slice_set ms e true) (All-tail (λ x. x < n) e es h) (set_below n e ms (All-head (λ x. x < n) e es h) b)

readers_below : (n : ℕ) (fan : List (List ℕ)) (nets : List ℕ) (ms : List Bool) → AreReaders fan n → AreBelow n ms → AreBelow n (with_readers fan nets ms)
readers_below n fan [] ms r b = b
readers_below n fan (net ∷ nets) ms r b = readers_below n fan nets (with_marks (readers_at fan net) ms) r (marks_below n (readers_at fan net) ms (r.each net) b)

pub marked_within : (m : ℕ) (bits index : List (List ℕ)) (nets : List ℕ) (start marks : List Bool) → IsFanOut bits index → start ≡ replicate m false → marks ≡ with_readers index nets start → All (λ k. k < length bits) (trues 0 marks)
marked_within m bits index nets start marks fan clear e =
    trues_below (length bits) 0 marks (λ i h. (let l : i < length bits = below i (sym (ap (λ ms. get_or ms i false) e) ∙ h) in omega arith))
  where
    below : AreBelow (length bits) (with_readers index nets start)
    below = readers_below (length bits) index nets start (are_readers bits index (length bits) fan refl) (subst (AreBelow (length bits)) (sym clear) (none_below (length bits) m))

-- there are marks for all of them
pub readers_within : (bits index : List (List ℕ)) (m : ℕ) → IsFanOut bits index → length bits ≤ m → AreReaders index m
readers_within bits index m fan l = let r = are_readers bits index (length bits) fan refl in record { each = λ net i d k. (let b : get_or (readers_at index net) i d < length bits = r.each net i d k in omega arith) }
