-- What is pending of drivers, as their standings and the agenda's lists change.
use Rattle.std.specs.Prelude.{◌≡◌, ◌≢◌, ℕ, zero, suc, ◌+◌, ◌<◌, ◌≤◌, true, false, if◌then◌else◌, List, [], ◌∷◌, ◌++◌, length, slice_set, refl}
use Rattle.std.proofs.Common.{sym, ◌∙◌, ap, subst, arith, inl, inr}
use Rattle.std.proofs.lemmas.Bool.{cases_eq}
use Rattle.std.proofs.lemmas.List.{length-set, get_or-set_same, get_or-set_other, set-get_or, ext_get_or, length_push}
use Rattle.std.specs.declared.option.Option.TheVariants.{Some, None}
use Rattle.sg_logic.specs.declared.values.Value.{Value}
use Rattle.sg_model.specs.Pending.{rest_of}
use Rattle.sg_model.specs.Agenda.{due, list_at, with_list, IsTaken}
use Rattle.immediate_list.specs.declared.standings.Standing.{Standing}
use Rattle.immediate_list.specs.declared.standings.Standing.TheVariants.{Nothing, Listed, OnAgenda}
use Rattle.immediate_list.specs.Standings.{standing_at, is_nothing, is_listed, list_of, lists_of, AreListed, IsBare, IsImmediate, IsUnlisted}
use Rattle.fan_round.proofs.ListLaws.{test_same}
use Rattle.immediate_list.proofs.ListedLaws.{enlisted, none_listed, still_listed}

pub length-lists_of : (t : ℕ) (ss : List Standing) (ls : List (List (ℕ × Value))) → length ss ≡ length ls → length (lists_of t ss ls) ≡ length ls
length-lists_of t [] [] e = refl
length-lists_of t [] (l ∷ ls) e = absurd (omega arith)
length-lists_of t (s ∷ ss) [] e = absurd (omega arith)
length-lists_of t (s ∷ ss) (l ∷ ls) e = ap suc (length-lists_of t ss ls (omega arith))

pub lists_of-at : (t : ℕ) (ss : List Standing) (ls : List (List (ℕ × Value))) (k : ℕ) → length ss ≡ length ls → k < length ls → list_at (lists_of t ss ls) k ≡ list_of t (standing_at ss k) (list_at ls k)
lists_of-at t [] [] k e l = absurd (omega arith)
lists_of-at t [] (x ∷ xs) k e l = absurd (omega arith)
lists_of-at t (s ∷ ss) [] k e l = absurd (omega arith)
lists_of-at t (s ∷ ss) (x ∷ xs) zero e l = refl
lists_of-at t (s ∷ ss) (x ∷ xs) (suc k) e l = lists_of-at t ss xs k (omega arith) (omega arith)

lists_of-set : (t : ℕ) (ss : List Standing) (ls : List (List (ℕ × Value))) (k : ℕ) (s : Standing) (x : List (ℕ × Value)) → lists_of t (slice_set ss k s) (with_list ls k x) ≡ with_list (lists_of t ss ls) k (list_of t s x)
lists_of-set t [] ls k s x = refl
lists_of-set t (r ∷ ss) [] zero s x = refl
lists_of-set t (r ∷ ss) [] (suc k) s x = refl
lists_of-set t (r ∷ ss) (l ∷ ls) zero s x = refl
lists_of-set t (r ∷ ss) (l ∷ ls) (suc k) s x = ap (λ xs. list_of t r l ∷ xs) (lists_of-set t ss ls k s x)

-- a driver's standing alone changes
pub lists_of-standing : (t : ℕ) (ss : List Standing) (ls : List (List (ℕ × Value))) (k : ℕ) (s : Standing) → lists_of t (slice_set ss k s) ls ≡ with_list (lists_of t ss ls) k (list_of t s (list_at ls k))
lists_of-standing t ss ls k s = ap (λ xs. lists_of t (slice_set ss k s) xs) (sym (set-get_or ls k [])) ∙ lists_of-set t ss ls k s (list_at ls k)

-- its list on the agenda alone changes
pub lists_of-list : (t : ℕ) (ss : List Standing) (ls : List (List (ℕ × Value))) (k : ℕ) (x : List (ℕ × Value)) → lists_of t ss (with_list ls k x) ≡ with_list (lists_of t ss ls) k (list_of t (standing_at ss k) x)
lists_of-list t ss ls k x = ap (λ xs. lists_of t xs (with_list ls k x)) (sym (set-get_or ss k OnAgenda)) ∙ lists_of-set t ss ls k (standing_at ss k) x

-- what is pending of a driver that isn't listed stands on the agenda
pub bare_list : (t : ℕ) (s : Standing) (x : List (ℕ × Value)) → is_listed s ≡ false → IsBare s x → list_of t s x ≡ x
bare_list t Nothing x e b = sym b
bare_list t (Listed v) x e b = cc
bare_list t OnAgenda x e b = refl

-- where none is listed all is on the agenda
pub all_on_agenda : (t : ℕ) (ss : List Standing) (ds : List ℕ) (capacity spare : ℕ) (ls : List (List (ℕ × Value))) → IsImmediate ss ds capacity spare ls → ds ≡ [] → lists_of t ss ls ≡ ls
all_on_agenda t ss ds capacity spare ls is e =
    ext_get_or [] (lists_of t ss ls) ls (length-lists_of t ss ls is.many)
    (λ k l. (let m : k < length ls = subst (λ n. k < n) (length-lists_of t ss ls is.many) l in
    lists_of-at t ss ls k is.many m ∙ bare_list t (standing_at ss k) (list_at ls k) (none_listed ss k (subst (λ xs. AreListed ss xs) e is.listed) (subst (λ n. k < n) (sym is.many) m)) (is.bare k m)))

-- the agenda has nothing of others than this driver that it hadn't
bare_set : (ss : List Standing) (ls ls' : List (List (ℕ × Value))) (k : ℕ) (s : Standing) → k < length ss → IsBare s (list_at ls' k)
    → ((j : ℕ) → j ≢ k → list_at ls' j ≡ list_at ls j) → length ls' ≡ length ls → ((j : ℕ) → j < length ls → IsBare (standing_at ss j) (list_at ls j))
    → (j : ℕ) → j < length ls' → IsBare (standing_at (slice_set ss k s) j) (list_at ls' j)
bare_set ss ls ls' k s l here others many bare j m = elim (cases_eq j k) [
  | inl same ↦ subst (λ n. IsBare (standing_at (slice_set ss k s) n) (list_at ls' n)) (sym same) (subst (λ x. IsBare x (list_at ls' k)) (sym (get_or-set_same ss k s OnAgenda l)) here)
  | inr other ↦ subst (λ x. IsBare x (list_at ls' j)) (sym (get_or-set_other ss k j s OnAgenda other)) (subst (λ x. IsBare (standing_at ss j) x) (sym (others j other)) (bare j (subst (λ n. j < n) many m)))
]

-- a driver of which nothing is pending is listed
pub immediate-listed : (ss : List Standing) (ds ds' : List ℕ) (capacity capacity' spare : ℕ) (ls : List (List (ℕ × Value))) (k : ℕ) (v : Value) → IsImmediate ss ds capacity spare ls → k < length ls → is_nothing (standing_at ss k) ≡ true
    → length ds < spare → capacity ≤ capacity' → ds' ≡ ds ++ k ∷ [] → IsImmediate (slice_set ss k (Listed v)) ds' capacity' spare ls
immediate-listed ss ds ds' capacity capacity' spare ls k v is l nothing room c e =
    let m : k < length ss = subst (λ n. k < n) (sym is.many) l in
    let now = at (standing_at ss k) (list_at ls k) nothing (is.bare k l) in
    let more : length (ds ++ k ∷ []) ≡ length ds + 1 = length_push ds k in
    let r = is.room in
    record {
      many = length-set ss k (Listed v) ∙ is.many;
      listed = subst (λ xs. AreListed (slice_set ss k (Listed v)) xs) (sym e) (enlisted ss ds k (Listed v) refl is.listed m now.0).0;
      bare = bare_set ss ls ls k (Listed v) m now.1 (λ j n. refl) refl is.bare;
      room = (let f : length (slice_set ss k (Listed v)) ≡ length ss = length-set ss k (Listed v) in omega arith);
      spare = subst (λ xs. length xs ≤ spare) (sym e) (omega arith);
    }
  where
    at : (s : Standing) (x : List (ℕ × Value)) → is_nothing s ≡ true → IsBare s x → (is_listed s ≡ false) × (x ≡ [])
    at Nothing x e b = (refl, b)
    at (Listed w) x e b = cc
    at OnAgenda x e b = cc

-- one list of the agenda changes
abbrev pub OneChanges : List (List (ℕ × Value)) → List (List (ℕ × Value)) → ℕ → List (ℕ × Value) → Type 0
OneChanges ls ls' k x = ls' ≡ with_list ls k x

changed_many : (ls ls' : List (List (ℕ × Value))) (k : ℕ) (x : List (ℕ × Value)) → OneChanges ls ls' k x → length ls' ≡ length ls
changed_many ls ls' k x e = ap length e ∙ length-set ls k x

changed_others : (ls ls' : List (List (ℕ × Value))) (k : ℕ) (x : List (ℕ × Value)) → OneChanges ls ls' k x → (j : ℕ) → j ≢ k → list_at ls' j ≡ list_at ls j
changed_others ls ls' k x e j n = ap (λ xs. list_at xs j) e ∙ get_or-set_other ls k j x [] n

-- the last driver of the list is taken, and has nothing pending any more
pub immediate-taken : (ss ss' : List Standing) (ds ds' : List ℕ) (capacity capacity' spare : ℕ) (ls : List (List (ℕ × Value))) (answer : ℕ × Value) → IsImmediate ss ds capacity spare ls → IsUnlisted ss ss' ds ds' Nothing answer → AreListed ss' ds' → capacity ≤ capacity' → IsImmediate ss' ds' capacity' spare ls
immediate-taken ss ss' ds ds' capacity capacity' spare ls answer is un are c =
    let k : ℕ = answer.0 in
    let none : list_at ls k ≡ [] = subst (λ s. IsBare s (list_at ls k)) un.was (is.bare k (subst (λ n. k < n) is.many un.driver)) in
    let many : length ss' ≡ length ss = ap length un.standings ∙ length-set ss k Nothing in
    let r = is.room in
    let p = is.spare in
    let f = un.fewer in
    record {
      many = many ∙ is.many;
      listed = are;
      bare = subst (λ xs. (j : ℕ) → j < length ls → IsBare (standing_at xs j) (list_at ls j)) (sym un.standings) (bare_set ss ls ls k Nothing un.driver none (λ j n. refl) refl is.bare);
      room = omega arith;
      spare = omega arith;
    }

pub unlisted_many : (ss ss' : List Standing) (ds ds' : List ℕ) (after : Standing) (answer : ℕ × Value) → IsUnlisted ss ss' ds ds' after answer → length ss' ≡ length ss
unlisted_many ss ss' ds ds' after answer un = ap length un.standings ∙ length-set ss answer.0 after

-- the agenda has nothing of a driver that was listed
pub unlisted_bare : (ss ss' : List Standing) (ds ds' : List ℕ) (after : Standing) (capacity spare : ℕ) (ls : List (List (ℕ × Value))) (answer : ℕ × Value) → IsImmediate ss ds capacity spare ls → IsUnlisted ss ss' ds ds' after answer → list_at ls answer.0 ≡ []
unlisted_bare ss ss' ds ds' after capacity spare ls answer is un = subst (λ s. IsBare s (list_at ls answer.0)) un.was (is.bare answer.0 (subst (λ n. answer.0 < n) is.many un.driver))

-- where none is listed nothing was taken
pub immediate-kept : (ss ss' : List Standing) (ds ds' : List ℕ) (capacity capacity' spare : ℕ) (ls : List (List (ℕ × Value))) → IsImmediate ss ds capacity spare ls → ds ≡ [] → ds' ≡ [] → ss' ≡ ss → capacity ≤ capacity' → IsImmediate ss' ds' capacity' spare ls
immediate-kept ss ss' ds ds' capacity capacity' spare ls is e e' f c =
    let r = is.room in
    subst (λ xs. IsImmediate xs ds' capacity' spare ls) (sym f) (record {
      many = is.many;
      listed = subst (λ xs. AreListed ss xs) (e ∙ sym e') is.listed;
      bare = is.bare;
      room = omega arith;
      spare = subst (λ xs. length xs ≤ spare) (e ∙ sym e') is.spare;
    })

-- which is what is due of it
pub taken_lists : (t : ℕ) (ss ss' : List Standing) (ds ds' : List ℕ) (capacity spare : ℕ) (ls : List (List (ℕ × Value))) (answer : ℕ × Value) → IsImmediate ss ds capacity spare ls → IsUnlisted ss ss' ds ds' Nothing answer → IsTaken t (lists_of t ss ls) (lists_of t ss' ls) answer
taken_lists t ss ss' ds ds' capacity spare ls answer is un =
    let k : ℕ = answer.0 in
    let l : k < length ls = subst (λ n. k < n) is.many un.driver in
    let was : list_at (lists_of t ss ls) k ≡ (t, answer.1) ∷ [] = lists_of-at t ss ls k is.many l ∙ ap (λ s. list_of t s (list_at ls k)) un.was in
    record {
      driver = subst (λ n. k < n) (sym (length-lists_of t ss ls is.many)) l;
      due = ap (due t) was ∙ due_now t answer.1;
      lists = ap (λ xs. lists_of t xs ls) un.standings ∙ (lists_of-standing t ss ls k Nothing ∙ ap (λ x. with_list (lists_of t ss ls) k x) (sym (ap rest_of was)));
    }
  where
    due_now : (n : ℕ) (v : Value) → due n ((n, v) ∷ []) ≡ Some v
    due_now n v = ap (λ b. if b then Some v else None) (test_same n n refl)

-- the last driver of the list is taken, and what it has pending is put onto the agenda
pub immediate-put : (t : ℕ) (ss ss' : List Standing) (ds ds' : List ℕ) (capacity capacity' spare spare' : ℕ) (ls ls' : List (List (ℕ × Value))) (answer : ℕ × Value) → IsImmediate ss ds capacity spare ls → IsUnlisted ss ss' ds ds' OnAgenda answer → AreListed ss' ds' → capacity ≤ capacity'
    → OneChanges ls ls' answer.0 (list_at ls answer.0 ++ (t, answer.1) ∷ []) → spare' + 1 ≡ spare
    → IsImmediate ss' ds' capacity' spare' ls' × (lists_of t ss' ls' ≡ lists_of t ss ls)
immediate-put t ss ss' ds ds' capacity capacity' spare spare' ls ls' answer is un are c e one =
    let k : ℕ = answer.0 in
    let l : k < length ls = subst (λ n. k < n) is.many un.driver in
    let none : list_at ls k ≡ [] = subst (λ s. IsBare s (list_at ls k)) un.was (is.bare k l) in
    let many : length ss' ≡ length ss = ap length un.standings ∙ length-set ss k OnAgenda in
    let lists : List (List (ℕ × Value)) = lists_of t ss ls in
    let was : list_at lists k ≡ (t, answer.1) ∷ [] = lists_of-at t ss ls k is.many l ∙ ap (λ s. list_of t s (list_at ls k)) un.was in
    let x : List (ℕ × Value) = list_at ls k ++ (t, answer.1) ∷ [] in
    let r = is.room in
    let p = is.spare in
    let f = un.fewer in (
      record {
        many = many ∙ (is.many ∙ sym (changed_many ls ls' k x e));
        listed = are;
        bare = subst (λ xs. (j : ℕ) → j < length ls' → IsBare (standing_at xs j) (list_at ls' j)) (sym un.standings) (bare_set ss ls ls' k OnAgenda un.driver tt (changed_others ls ls' k x e) (changed_many ls ls' k x e) is.bare);
        room = omega arith;
        spare = omega arith;
      },
      ap (λ xs. lists_of t xs ls') un.standings ∙ (ap (λ xs. lists_of t (slice_set ss k OnAgenda) xs) e ∙ (lists_of-set t ss ls k OnAgenda x
          ∙ (ap (λ xs. with_list lists k (xs ++ (t, answer.1) ∷ [])) none ∙ (ap (λ xs. with_list lists k xs) (sym was) ∙ set-get_or lists k [])))),
    )

-- a driver that isn't listed stands on the agenda from now on
pub immediate-settled : (t : ℕ) (ss : List Standing) (ds : List ℕ) (capacity spare : ℕ) (ls : List (List (ℕ × Value))) (k : ℕ) → IsImmediate ss ds capacity spare ls → k < length ss → is_listed (standing_at ss k) ≡ false
    → IsImmediate (slice_set ss k OnAgenda) ds capacity spare ls × (lists_of t (slice_set ss k OnAgenda) ls ≡ lists_of t ss ls)
immediate-settled t ss ds capacity spare ls k is m free =
    let l : k < length ls = subst (λ n. k < n) is.many m in
    let lists : List (List (ℕ × Value)) = lists_of t ss ls in
    let was : list_at lists k ≡ list_at ls k = lists_of-at t ss ls k is.many l ∙ bare_list t (standing_at ss k) (list_at ls k) free (is.bare k l) in
    let r = is.room in (
      record {
        many = length-set ss k OnAgenda ∙ is.many;
        listed = still_listed ss ds k OnAgenda refl free is.listed;
        bare = bare_set ss ls ls k OnAgenda m tt (λ j n. refl) refl is.bare;
        room = (let f : length (slice_set ss k OnAgenda) ≡ length ss = length-set ss k OnAgenda in omega arith);
        spare = is.spare;
      },
      lists_of-standing t ss ls k OnAgenda ∙ (ap (λ xs. with_list lists k xs) (sym was) ∙ set-get_or lists k []),
    )

-- the list of a driver that stands on the agenda changes there
pub immediate-changed : (ss : List Standing) (ds : List ℕ) (capacity spare spare' : ℕ) (ls ls' : List (List (ℕ × Value))) (k : ℕ) (x : List (ℕ × Value)) → IsImmediate ss ds capacity spare ls → standing_at ss k ≡ OnAgenda → OneChanges ls ls' k x → length ds ≤ spare'
    → IsImmediate ss ds capacity spare' ls'
immediate-changed ss ds capacity spare spare' ls ls' k x is at e p = record {
  many = is.many ∙ sym (changed_many ls ls' k x e);
  listed = is.listed;
  bare = λ j m. elim (cases_eq j k) [
    | inl same ↦ subst (λ n. IsBare (standing_at ss n) (list_at ls' n)) (sym same) (subst (λ s. IsBare s (list_at ls' k)) (sym at) tt)
    | inr other ↦ subst (λ xs. IsBare (standing_at ss j) xs) (sym (changed_others ls ls' k x e j other)) (is.bare j (subst (λ n. j < n) (changed_many ls ls' k x e) m))
  ];
  room = is.room;
  spare = p;
}

pub changed_lists : (t : ℕ) (ss : List Standing) (ls ls' : List (List (ℕ × Value))) (k : ℕ) (x : List (ℕ × Value)) → standing_at ss k ≡ OnAgenda → OneChanges ls ls' k x → lists_of t ss ls' ≡ with_list (lists_of t ss ls) k x
changed_lists t ss ls ls' k x at e = ap (λ xs. lists_of t ss xs) e ∙ (lists_of-list t ss ls k x ∙ ap (λ s. with_list (lists_of t ss ls) k (list_of t s x)) at)

-- what is pending of it
pub settled_list : (t : ℕ) (ss : List Standing) (ls : List (List (ℕ × Value))) (k : ℕ) → length ss ≡ length ls → k < length ls → standing_at ss k ≡ OnAgenda → list_at (lists_of t ss ls) k ≡ list_at ls k
settled_list t ss ls k many l at = lists_of-at t ss ls k many l ∙ ap (λ s. list_of t s (list_at ls k)) at

-- a driver of which something is due on the agenda stands there
pub due_stands : (now : ℕ) (s : Standing) (x : List (ℕ × Value)) (v : Value) → IsBare s x → due now x ≡ Some v → s ≡ OnAgenda
due_stands now Nothing x v b e = let f : None ≡ Some v = ap (due now) (sym b) ∙ e in cc
due_stands now (Listed w) x v b e = let f : None ≡ Some v = ap (due now) (sym b) ∙ e in cc
due_stands now OnAgenda x v b e = refl
