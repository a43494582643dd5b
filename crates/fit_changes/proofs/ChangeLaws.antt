-- Laws of changes: lists of them grow, and lines are kept.
use Rattle.std.specs.Prelude.{ℕ, ◌≡◌, ◌≤◌, ◌+◌, ◌-◌, ◌++◌, ◌∷◌, List, [], true, Some, None, if◌then◌else◌, cond, count_by, drop, map, take, refl}
use Rattle.std.proofs.Common.{sym, ◌∙◌, ap, subst, arith}
use Rattle.std.proofs.lemmas.Bool.{and_parts, eqb-true, leb-true}
use Rattle.std.proofs.lemmas.List.{drop-drop, map-append}
use Rattle.std.proofs.lemmas.Option.{cond_some}
use Rattle.std.proofs.lemmas.List.Sums.{sum_by-append, sum_by-take-drop}
use Rattle.fit_changes.specs.declared.changes.Change as code
use Rattle.fit_changes.specs.Changes.{AreInOrder, Change, change_seen, changed, changed_from, end_of, fits_behind, is_feed, replaced}

-- ---- one more change

pub order-push : (from : ℕ) (text : List ℕ) (cs : List Change) (c : Change) → AreInOrder from text cs → fits_behind (end_of from cs) text c ≡ true → AreInOrder from text (cs ++ c ∷ [])
order-push from text [] c o f =
    let a = and_parts _ _ f in
    let b = and_parts _ _ a.1 in
    (leb-true _ _ a.0, leb-true _ _ b.0, eqb-true _ _ b.1, tt)
order-push from text (x ∷ xs) c o f = (o.0, o.1, o.2, order-push (x.byte + x.size) text xs c o.3 f)

pub end-push : (from : ℕ) (cs : List Change) (c : Change) → end_of from (cs ++ c ∷ []) ≡ c.byte + c.size
end-push from [] c = refl
end-push from (x ∷ xs) c = end-push (x.byte + x.size) xs c

pub seen-push : (cs : List code.Change) (c : code.Change) → map change_seen (cs ++ c ∷ []) ≡ map change_seen cs ++ change_seen c ∷ []
seen-push cs c = map-append change_seen cs (c ∷ [])

-- what adding one leaves
pub grown : (text : List ℕ) (cs new : List code.Change) (c : code.Change) (end next : ℕ) → AreInOrder 0 text (map change_seen cs) × (end ≡ end_of 0 (map change_seen cs))
    → Some next ≡ (if fits_behind end text (change_seen c) then Some (c.byte + c.size) else None) → new ≡ cs ++ c ∷ []
    → AreInOrder 0 text (map change_seen new) × (next ≡ end_of 0 (map change_seen new))
grown text cs new c end next before found more =
    let two = cond_some (fits_behind end text (change_seen c)) (c.byte + c.size) next (sym found) in
    let seen : map change_seen new ≡ map change_seen cs ++ change_seen c ∷ [] = ap (map change_seen) more ∙ seen-push cs c in
    let fits : fits_behind (end_of 0 (map change_seen cs)) text (change_seen c) ≡ true = subst (λ e. fits_behind e text (change_seen c) ≡ true) before.1 two.0 in (
      subst (AreInOrder 0 text) (sym seen) (order-push 0 text (map change_seen cs) (change_seen c) before.0 fits),
      sym two.1 ∙ sym (end-push 0 (map change_seen cs) (change_seen c)) ∙ ap (end_of 0) (sym seen),
    )

-- ---- lines

count-append : (xs ys : List ℕ) → count_by is_feed (xs ++ ys) ≡ count_by is_feed xs + count_by is_feed ys
count-append xs ys = sum_by-append (λ x. cond (is_feed x) 1 0) xs ys

count-parts : (i : ℕ) (xs : List ℕ) → count_by is_feed (take i xs) + count_by is_feed (drop i xs) ≡ count_by is_feed xs
count-parts i xs = sum_by-take-drop (λ x. cond (is_feed x) 1 0) xs i

drop-on : (m n : ℕ) (text : List ℕ) → m ≤ n → drop (n - m) (drop m text) ≡ drop n text
drop-on m n text le = drop-drop (n - m) m text ∙ ap (λ k. drop k text) (let e : m + (n - m) ≡ n = omega arith in e)

kept-behind : (from : ℕ) (text : List ℕ) (cs : List Change) → AreInOrder from text cs → count_by is_feed (changed_from from (drop from text) cs) ≡ count_by is_feed (drop from text)
kept-behind from text [] o = refl
kept-behind from text (c ∷ cs) o =
    let end = c.byte + c.size in
    let rest : drop (end - from) (drop from text) ≡ drop end text = drop-on from end text (let l : from ≤ c.byte = o.0 in omega arith) in
    let later : count_by is_feed (changed_from end (drop end text) cs) ≡ count_by is_feed (drop end text) = kept-behind end text cs o.3 in
    let two = count-append (take (c.byte - from) (drop from text) ++ c.text) (changed_from end (drop (end - from) (drop from text)) cs) in
    let one = count-append (take (c.byte - from) (drop from text)) c.text in
    let third : count_by is_feed (changed_from end (drop (end - from) (drop from text)) cs) ≡ count_by is_feed (drop end text) = ap (λ t. count_by is_feed (changed_from end t cs)) rest ∙ later in
    let before = count-parts (c.byte - from) (drop from text) in
    let middle : count_by is_feed (drop (c.byte - from) (drop from text)) ≡ count_by is_feed (drop c.byte text) = ap (count_by is_feed) (drop-on from c.byte text o.0) in
    let behind = count-parts c.size (drop c.byte text) in
    let last : count_by is_feed (drop c.size (drop c.byte text)) ≡ count_by is_feed (drop end text) = ap (count_by is_feed) (drop-drop c.size c.byte text) in
    let same : count_by is_feed c.text ≡ count_by is_feed (replaced text c) = o.2 in
    omega (arith, two, one, third, before, middle, behind, last, same)

-- a text keeps its lines
pub lines-kept : (text : List ℕ) (cs : List Change) → AreInOrder 0 text cs → count_by is_feed (changed text cs) ≡ count_by is_feed text
lines-kept text cs o = kept-behind 0 text cs o

-- a text without changes stays
pub unchanged : (text : List ℕ) → changed text [] ≡ text
unchanged text = refl
