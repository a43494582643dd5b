-- A list in front of an agenda, as its lists are seen.
use Rattle.std.specs.Prelude.{◌≡◌, ◌⊎◌, ℕ, zero, suc, ◌<◌, ◌≤◌, ◌==◌, Bool, true, false, if◌then◌else◌, min, List, [], ◌∷◌, length, map, replicate, reverse, slice_index_or, slice_set, refl, IfSome, IfNone}
use Rattle.std.proofs.Common.{sym, ◌∙◌, ap, subst, arith, inl, inr}
use Rattle.std.proofs.lemmas.List.{length-map, length-replicate, get_or-map, get_or-replicate, get_or_default, set-get_or, nil_from_length}
use Rattle.std.proofs.lemmas.Bool.Decides.{nat_tests}
use Rattle.std.specs.declared.option.Option.{Option}
use Rattle.std.specs.declared.option.Option.TheVariants.{Some, None}
use Rattle.sg_logic.specs.declared.values.Value.{Value}
use Rattle.sg_logic.specs.Values.{is_same}
use Rattle.sg_model.specs.Pending.{last_of, put, rest_of}
use Rattle.sg_model.specs.Agenda.{list_at, with_list, AllEmpty, BeginsAt, IsLeastTime, IsTaken, NothingDue, Rises}
use Rattle.fan_round.specs.Work.{mark_at, AreMarked}
use Rattle.fan_round.proofs.ListLaws.{listed_at}
use Rattle.fan_round.proofs.WorkLaws.{marked-none, marked-within}
use Rattle.immediate_list.specs.declared.standings.Standing.{Standing}
use Rattle.immediate_list.specs.declared.standings.Standing.TheVariants.{Nothing, Listed, OnAgenda}
use Rattle.immediate_list.specs.Standings.{standing_at, is_listed, is_nothing, least_of, list_of, lists_of, IsBare, IsImmediate}
use Rattle.immediate_list.proofs.ListedLaws.{listed_value}
use Rattle.immediate_list.proofs.TableLaws.{length-lists_of, lists_of-at, lists_of-standing, all_on_agenda, changed_lists, due_stands, immediate-changed, settled_list}

no_flags : (n : ℕ) → map (λ s. is_listed s) (replicate n Nothing) ≡ replicate n false
no_flags zero = refl
no_flags (suc n) = ap (λ bs. false ∷ bs) (no_flags n)

abbrev pub nothing_pending : List (ℕ × Value)
nothing_pending = []

-- where nothing is pending
pub fresh : (n : ℕ) (ss : List Standing) (ds : List ℕ) (capacity space : ℕ) (ls : List (List (ℕ × Value))) → ss ≡ replicate n Nothing → ds ≡ [] → n ≤ capacity → ls ≡ replicate n [] → IsImmediate ss ds capacity space ls
fresh n ss ds capacity space ls e f c g =
    subst (λ xs. IsImmediate xs ds capacity space ls) (sym e) (subst (λ xs. IsImmediate (replicate n Nothing) xs capacity space ls) (sym f) (subst (λ xs. IsImmediate (replicate n Nothing) [] capacity space xs) (sym g) (record {
      many = length-replicate n Nothing ∙ sym (length-replicate n nothing_pending);
      listed = subst (λ ms. AreMarked ms []) (sym (no_flags n)) (marked-none n);
      bare = λ k l. (let m : k < n = subst (λ x. k < x) (length-replicate n nothing_pending) l in
          subst (λ s. IsBare s (list_at (replicate n nothing_pending) k)) (sym (get_or-replicate n k Nothing OnAgenda m)) (get_or-replicate n k nothing_pending nothing_pending m));
      room = subst (λ x. x ≤ capacity) (sym (length-replicate n Nothing)) c;
      spare = omega arith;
    })))

pub fresh_lists : (t n : ℕ) (ss : List Standing) (ds : List ℕ) (capacity space : ℕ) (ls : List (List (ℕ × Value))) → ss ≡ replicate n Nothing → ds ≡ [] → n ≤ capacity → ls ≡ replicate n [] → lists_of t ss ls ≡ replicate n []
fresh_lists t n ss ds capacity space ls e f c g = all_on_agenda t ss ds capacity space ls (fresh n ss ds capacity space ls e f c g) f ∙ g

-- a driver of the lists has a standing
pub in_view : (t : ℕ) (ss : List Standing) (ls v : List (List (ℕ × Value))) (k : ℕ) → lists_of t ss ls ≡ v → length ss ≡ length ls → k < length v → k < length ss
in_view t ss ls v k e many l = let same : length v ≡ length ss = ap length (sym e) ∙ (length-lists_of t ss ls many ∙ sym many) in subst (λ n. k < n) same l

pub in_lists : (t : ℕ) (ss : List Standing) (ls v : List (List (ℕ × Value))) (k : ℕ) → lists_of t ss ls ≡ v → length ss ≡ length ls → k < length v → k < length ls
in_lists t ss ls v k e many l = subst (λ n. k < n) many (in_view t ss ls v k e many l)

-- what is pending of it, by the standing that is read
pub at_view : (t : ℕ) (ss : List Standing) (ls v : List (List (ℕ × Value))) (k : ℕ) (s d : Standing) → lists_of t ss ls ≡ v → length ss ≡ length ls → k < length v → slice_index_or ss k d ≡ s → list_at v k ≡ list_of t s (list_at ls k)
at_view t ss ls v k s d e many l read =
    ap (λ xs. list_at xs k) (sym e) ∙ (lists_of-at t ss ls k many (in_lists t ss ls v k e many l)
    ∙ ap (λ x. list_of t x (list_at ls k)) (get_or_default ss k OnAgenda d (in_view t ss ls v k e many l) ∙ read))

pub last_nothing : (t : ℕ) (ss : List Standing) (ls v : List (List (ℕ × Value))) (k : ℕ) (d : Standing) → lists_of t ss ls ≡ v → length ss ≡ length ls → k < length v → slice_index_or ss k d ≡ Nothing → (None ≡ last_of (list_at v k)) × Rises (reverse (list_at v k))
last_nothing t ss ls v k d e many l read =
    let is : list_at v k ≡ [] = at_view t ss ls v k Nothing d e many l read in (subst (λ xs. None ≡ last_of xs) (sym is) refl, subst (λ xs. Rises (reverse xs)) (sym is) tt)

pub last_listed : (t : ℕ) (ss : List Standing) (ls v : List (List (ℕ × Value))) (k : ℕ) (d : Standing) (w : Value) → lists_of t ss ls ≡ v → length ss ≡ length ls → k < length v → slice_index_or ss k d ≡ Listed w → (Some (t, w) ≡ last_of (list_at v k)) × Rises (reverse (list_at v k))
last_listed t ss ls v k d w e many l read =
    let is : list_at v k ≡ (t, w) ∷ [] = at_view t ss ls v k (Listed w) d e many l read in (subst (λ xs. Some (t, w) ≡ last_of xs) (sym is) refl, subst (λ xs. Rises (reverse xs)) (sym is) (tt, tt))

pub last_on_agenda : (t : ℕ) (ss : List Standing) (ls v : List (List (ℕ × Value))) (k : ℕ) (d : Standing) → lists_of t ss ls ≡ v → length ss ≡ length ls → k < length v → slice_index_or ss k d ≡ OnAgenda → list_at v k ≡ list_at ls k
last_on_agenda t ss ls v k d e many l read = at_view t ss ls v k OnAgenda d e many l read

-- a driver that stands on the agenda has its list there
pub record IsSettled (t : ℕ) (ss : List Standing) (ls v : List (List (ℕ × Value))) (k : ℕ) : Type 0 where
  pub whole : lists_of t ss ls ≡ v
  pub driver : k < length ls
  pub list : list_at ls k ≡ list_at v k

pub is_settled : (t : ℕ) (ss ss0 ss1 : List Standing) (ls ls1 v : List (List (ℕ × Value))) (k : ℕ) → ss0 ≡ ss → lists_of t ss ls ≡ v → lists_of t ss1 ls1 ≡ lists_of t ss0 ls → length ss1 ≡ length ls1 → k < length v → standing_at ss1 k ≡ OnAgenda → IsSettled t ss1 ls1 v k
is_settled t ss ss0 ss1 ls ls1 v k e f g many l at =
    let whole : lists_of t ss1 ls1 ≡ v = g ∙ (ap (λ x. lists_of t x ls) e ∙ f) in
    let driver : k < length ls1 = in_lists t ss1 ls1 v k whole many l in
    record { whole = whole; driver = driver; list = sym (settled_list t ss1 ls1 k many driver at) ∙ ap (λ xs. list_at xs k) whole }

-- where that changes, the whole does
pub settled_change : (t : ℕ) (ss : List Standing) (ls ls' v : List (List (ℕ × Value))) (k : ℕ) (f : List (ℕ × Value) → List (ℕ × Value)) → IsSettled t ss ls v k → standing_at ss k ≡ OnAgenda → ls' ≡ with_list ls k (f (list_at ls k)) → lists_of t ss ls' ≡ with_list v k (f (list_at v k))
settled_change t ss ls ls' v k f is at e =
    changed_lists t ss ls ls' k (f (list_at ls k)) at e ∙ (ap (λ xs. with_list xs k (f (list_at ls k))) is.whole ∙ ap (λ x. with_list v k (f x)) is.list)

-- the agenda has more room
pub immediate-roomier : (ss : List Standing) (ds : List ℕ) (capacity space space' : ℕ) (ls ls' : List (List (ℕ × Value))) → IsImmediate ss ds capacity space ls → ls' ≡ ls → space ≤ space' → IsImmediate ss ds capacity space' ls'
immediate-roomier ss ds capacity space space' ls ls' is e l =
    let p = is.spare in
    subst (λ xs. IsImmediate ss ds capacity space' xs) (sym e) (record { many = is.many; listed = is.listed; bare = is.bare; room = is.room; spare = omega arith })

-- what is due on the agenda is taken from it
pub immediate-due : (now : ℕ) (ss : List Standing) (ds : List ℕ) (capacity space space' : ℕ) (ls ls' : List (List (ℕ × Value))) (r : Option (ℕ × Value)) → IsImmediate ss ds capacity space ls → space ≤ space'
    → IfSome r (λ answer. IsTaken now ls ls' answer) → IfNone r (NothingDue now ls × (ls' ≡ ls)) → IsImmediate ss ds capacity space' ls'
immediate-due now ss ds capacity space space' ls ls' None is l some none = immediate-roomier ss ds capacity space space' ls ls' is none.1 l
immediate-due now ss ds capacity space space' ls ls' (Some answer) is l some none =
    let k : ℕ = answer.0 in
    let at : standing_at ss k ≡ OnAgenda = due_stands now (standing_at ss k) (list_at ls k) answer.1 (is.bare k some.driver) some.due in
    let p = is.spare in
    immediate-changed ss ds capacity space space' ls ls' k (rest_of (list_at ls k)) is at some.lists (omega arith)

-- of the whole, where none is listed
pub due_some : (now : ℕ) (ls ls' v v' : List (List (ℕ × Value))) (r : Option (ℕ × Value)) → v ≡ ls → v' ≡ ls' → IfSome r (λ answer. IsTaken now ls ls' answer) → IfSome r (λ answer. IsTaken now v v' answer)
due_some now ls ls' v v' r e f h = subst (λ x. IfSome r (λ answer. IsTaken now x v' answer)) (sym e) (subst (λ x. IfSome r (λ answer. IsTaken now ls x answer)) (sym f) h)

pub due_none : (now : ℕ) (ls ls' v v' : List (List (ℕ × Value))) (r : Option (ℕ × Value)) → v ≡ ls → v' ≡ ls' → IfNone r (NothingDue now ls × (ls' ≡ ls)) → IfNone r (NothingDue now v × (v' ≡ v))
due_none now ls ls' v v' r e f h = subst (λ x. IfNone r (NothingDue now x × (v' ≡ x))) (sym e) (subst (λ x. IfNone r (NothingDue now ls × (x ≡ ls))) (sym f) h)

-- a listed driver has a transition at the time of the list, and the others theirs on the agenda
begins : (t first : ℕ) (s : Standing) (x : List (ℕ × Value)) → IsBare s x → BeginsAt (list_of t s x) first → (t ≡ first) ⊎ BeginsAt x first
begins t first Nothing x b h = absurd h
begins t first (Listed w) x b h = inl h
begins t first OnAgenda x b h = inr h

begins_on : (t first : ℕ) (s : Standing) (x : List (ℕ × Value)) → IsBare s x → BeginsAt x first → BeginsAt (list_of t s x) first
begins_on t first Nothing x b h = absurd (subst (λ y. BeginsAt y first) b h)
begins_on t first (Listed w) x b h = absurd (subst (λ y. BeginsAt y first) b h)
begins_on t first OnAgenda x b h = h

-- so the least time is that of the list, or an earlier one of the agenda
pub least_listed : (t : ℕ) (ss : List Standing) (ds : List ℕ) (capacity space : ℕ) (ls : List (List (ℕ × Value))) (other : Option ℕ) → IsImmediate ss ds capacity space ls → 0 < length ds
    → IfSome other (λ time. IsLeastTime ls time) → IfNone other (AllEmpty ls) → IsLeastTime (lists_of t ss ls) (least_of t other)
least_listed t ss ds capacity space ls other is some least none =
    let k : ℕ = slice_index_or ds 0 0 in
    let marks : List Bool = map (λ s. is_listed s) ss in
    let l : k < length ss = subst (λ n. k < n) (length-map ss (λ s. is_listed s)) (marked-within marks ds 0 0 is.listed some) in
    let m : k < length ls = subst (λ n. k < n) is.many l in
    let yes' : is_listed (standing_at ss k) ≡ true = sym (get_or-map (λ s. is_listed s) ss k OnAgenda false l) ∙ listed_at (mark_at marks) ds 0 0 is.listed.each some in
    let value = listed_value ss k yes' in
    let list : list_at (lists_of t ss ls) k ≡ (t, value.0) ∷ [] = lists_of-at t ss ls k is.many m ∙ ap (λ s. list_of t s (list_at ls k)) value.1 in
    let within : (j : ℕ) → j < length ls → j < length (lists_of t ss ls) = (λ j h. subst (λ n. j < n) (sym (length-lists_of t ss ls is.many)) h) in
    by other (k, within k m, subst (λ x. BeginsAt x t) (sym list) refl) within least none
  where
    at : (j first : ℕ) → j < length (lists_of t ss ls) → BeginsAt (list_at (lists_of t ss ls) j) first → (t ≡ first) ⊎ BeginsAt (list_at ls j) first
    at j first h b =
        let g : j < length ls = subst (λ n. j < n) (length-lists_of t ss ls is.many) h in
        begins t first (standing_at ss j) (list_at ls j) (is.bare j g) (subst (λ x. BeginsAt x first) (lists_of-at t ss ls j is.many g) b)

    sides : (a b : ℕ) → (a ≤ b) ⊎ (b < a)
    sides a b = grind arith

    by : (o : Option ℕ) → ((driver : ℕ) × (driver < length (lists_of t ss ls)) × BeginsAt (list_at (lists_of t ss ls) driver) t) → ((j : ℕ) → j < length ls → j < length (lists_of t ss ls))
        → IfSome o (λ time. IsLeastTime ls time) → IfNone o (AllEmpty ls) → IsLeastTime (lists_of t ss ls) (least_of t o)
    by None here within least none = record {
      some = here;
      least = λ j first h b. elim (at j first h b) [
        | inl e ↦ omega (arith, e)
        | inr b' ↦ absurd (subst (λ x. BeginsAt x first) (none.each j (subst (λ n. j < n) (length-lists_of t ss ls is.many) h)) b')
      ];
    }
    by (Some time) here within least none = record {
      some = elim (sides t time) [
        | inl l ↦ subst (λ n. (driver : ℕ) × (driver < length (lists_of t ss ls)) × BeginsAt (list_at (lists_of t ss ls) driver) n) (let e : t ≡ min t time = omega (arith, l) in e) here
        | inr l ↦ subst (λ n. (driver : ℕ) × (driver < length (lists_of t ss ls)) × BeginsAt (list_at (lists_of t ss ls) driver) n) (let e : time ≡ min t time = omega (arith, l) in e)
            (let j : ℕ = least.some.0 in
            (j, within j least.some.1, subst (λ x. BeginsAt x time) (sym (lists_of-at t ss ls j is.many least.some.1)) (begins_on t time (standing_at ss j) (list_at ls j) (is.bare j least.some.1) least.some.2)))
      ];
      least = λ j first h b. elim (at j first h b) [
        | inl e ↦ omega (arith, e)
        | inr b' ↦ (let m : time ≤ first = least.least j first (subst (λ n. j < n) (length-lists_of t ss ls is.many) h) b' in omega (arith, m))
      ];
    }

nothing_is : (s : Standing) → is_nothing s ≡ true → s ≡ Nothing
nothing_is Nothing e = refl
nothing_is (Listed w) e = cc
nothing_is OnAgenda e = cc

-- a driver that is known to have nothing, by the test as the code makes it
pub known_nothing : (ss : List Standing) (k : ℕ) (s d : Standing) (b : Bool) → k < length ss → s ≡ slice_index_or ss k d → b ≡ is_nothing s → b ≡ true → is_nothing (standing_at ss k) ≡ true
known_nothing ss k s d b l read e f = ap (λ x. is_nothing x) (get_or_default ss k OnAgenda d l ∙ sym read) ∙ (sym e ∙ f)

pub nothing_in : (t : ℕ) (ss : List Standing) (ls v : List (List (ℕ × Value))) (k : ℕ) → lists_of t ss ls ≡ v → length ss ≡ length ls → k < length v → is_nothing (standing_at ss k) ≡ true → list_at v k ≡ []
nothing_in t ss ls v k e many l nothing = at_view t ss ls v k Nothing OnAgenda e many l (nothing_is (standing_at ss k) nothing)

put_other : (p : ℕ × Value) (x : Bool) → x ≡ false → (if x then nothing_pending else (p ∷ [])) ≡ p ∷ []
put_other p true e = cc
put_other p false e = refl

put_same : (p : ℕ × Value) (x : Bool) → x ≡ true → (if x then nothing_pending else (p ∷ [])) ≡ []
put_same p true e = refl
put_same p false e = cc

-- its value is listed
pub placed_listed : (t now : ℕ) (ss ss' : List Standing) (ls v : List (List (ℕ × Value))) (k : ℕ) (present w : Value) (b : Bool) → lists_of t ss ls ≡ v → length ss ≡ length ls → k < length v → is_nothing (standing_at ss k) ≡ true → ss' ≡ slice_set ss k (Listed w)
    → t ≡ now → b ≡ is_same present w → b ≡ false → (list_at v k ≡ []) × (lists_of t ss' ls ≡ with_list v k (put [] present now w))
placed_listed t now ss ss' ls v k present w b e many l nothing is same test other = (
  nothing_in t ss ls v k e many l nothing,
  ap (λ x. lists_of t x ls) is ∙ (lists_of-standing t ss ls k (Listed w) ∙ (ap (λ x. with_list x k ((t, w) ∷ [])) e ∙ (ap (λ n. with_list v k ((n, w) ∷ [])) same ∙ ap (λ xs. with_list v k xs) (sym (put_other (now, w) (is_same present w) (sym test ∙ other)))))),
)

-- or its net has the value already
pub placed_same : (t now : ℕ) (ss : List Standing) (ls v : List (List (ℕ × Value))) (k : ℕ) (present w : Value) (b : Bool) → lists_of t ss ls ≡ v → length ss ≡ length ls → k < length v → is_nothing (standing_at ss k) ≡ true
    → b ≡ is_same present w → b ≡ true → (list_at v k ≡ []) × (v ≡ with_list v k (put [] present now w))
placed_same t now ss ls v k present w b e many l nothing test other =
    let none : list_at v k ≡ [] = nothing_in t ss ls v k e many l nothing in (
      none,
      sym (set-get_or v k []) ∙ ap (λ xs. with_list v k xs) (none ∙ sym (put_same (now, w) (is_same present w) (sym test ∙ other))),
    )

-- whether any is listed, by the test as the code makes it
pub none_of : (ds : List ℕ) (n : ℕ) (b : Bool) → n ≡ length ds → b ≡ (n == 0) → b ≡ true → ds ≡ []
none_of ds n b e f g = nil_from_length ds (sym e ∙ zero_of n (sym f ∙ g))
  where
    zero_of : (m : ℕ) → (m == 0) ≡ true → m ≡ 0
    zero_of m h = grind (arith, nat_tests)

pub some_of : (ds : List ℕ) (n : ℕ) (b : Bool) → n ≡ length ds → b ≡ (n == 0) → b ≡ false → 0 < length ds
some_of ds n b e f g = subst (λ m. 0 < m) e (more_of n (sym f ∙ g))
  where
    more_of : (m : ℕ) → (m == 0) ≡ false → 0 < m
    more_of m h = grind (arith, nat_tests)
