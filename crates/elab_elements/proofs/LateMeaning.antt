-- The Lates of a member.
use Rattle.std.specs.Prelude.{◌≡◌, ℕ, suc, ◌+◌, ◌<◌, ◌≤◌, List, [], ◌∷◌, ◌++◌, Option, Some, None, filter, flat_map, length, map, slice_get, unwrap_or, zip, refl}
use Rattle.std.specs.List.{AllByRecursion, range_with_len}
use Rattle.std.proofs.Common.{sym, ◌∙◌, ap, arith, subst, drop, drop-cons, get_or}
use Rattle.std.proofs.lemmas.List.{drop_all}
use Rattle.std.proofs.lemmas.List.Elements.{recursion_from_All}
use Rattle.sg_circuit.specs.declared.elements.ElementKind.TheVariants as kind
use Rattle.sg_circuit.specs.declared.elements.UdpUse.{UdpUse}
use Rattle.sg_delay.specs.declared.gates.GateDelays.{GateDelays}
use Rattle.sg_text.specs.declared.refusals.Refused.{Refused}
use Rattle.vl_tree.specs.Tree.{Module, Source}
use Rattle.elab_model.specs.declared.kinds.ElabKind.{ElabKind}
use Rattle.elab_model.specs.Elements.{late_at}
use Rattle.elab_model.specs.Hierarchy.{Instance}
use Rattle.elab_model.specs.Lates.{is_unnamed, own_copies}
use Rattle.elab_model.specs.Members.{Member, members}
use Rattle.elab_model.specs.Names.{Variable, variables}
use Rattle.elab_model.specs.Nets.{OwnNet, late_net, nets, number_of}
use Rattle.elab_laws.specs.Handing.{numbered}
use Rattle.elab_laws.specs.NumberLaws.{numbers_in}
use Rattle.elab_nets.specs.CopiesOfLates.{AreCopies}
use Rattle.elab_nets.specs.SeenOfLates.{placed_seen, AreCopiesInRow, IsCopyInRow, IsPlaceIn}
use Rattle.elab_nets.specs.PlacedCopy.{PlacedCopy}
use Rattle.elab_nets.specs.Prepared.{Prepared}
use Rattle.elab_elements.specs.declared.placing.Placing.{Placing}
use Rattle.elab_elements.specs.Adding.{IsHere, HasDriven}
use Rattle.elab_elements.specs.Puts.{Put, Puts, RefusesPuts}
use Rattle.elab_elements.specs.Standing.{HasCopies}
use Rattle.elab_elements.specs.Words.{net_in, named_in, next_free, copy_numbers, late_puts}
use Rattle.elab_elements.proofs.Meaning.{Means, means-nil, means-one, means-append, number-is, driven-number, same-count}
use Rattle.elab_elements.proofs.Putting.{Completes, completes-more, completes-end, puts-count, refuses-left}

-- ---- one copy more has its number, and the next is free

next-copy : (first : ℕ) (inside : List ℕ) (c : PlacedCopy) (cs : List PlacedCopy)
    → copy_numbers first inside (c ∷ cs) ≡ unwrap_or (named_in inside c.copy) first ∷ copy_numbers (next_free first (named_in inside c.copy)) inside cs
next-copy first inside c cs = by (named_in inside c.copy)
  where
    by : (o : Option ℕ) → numbered first (o ∷ map (λ c. named_in inside c.copy) cs) ≡ unwrap_or o first ∷ numbered (next_free first o) (map (λ c. named_in inside c.copy) cs)
    by None = let n : suc first ≡ first + 1 = omega arith in ap (λ k. first ∷ numbered k (map (λ c. named_in inside c.copy) cs)) n
    by (Some n) = refl

-- what is left to put from a place on
abbrev pub lates_from : ℕ → (row inside : List ℕ) → List PlacedCopy → ℕ → ℕ → List Put
lates_from scope row inside cs i next = flat_map (late_puts scope row) (zip (drop i cs) (copy_numbers next inside (drop i cs)))

next-late : (scope : ℕ) (row inside : List ℕ) (cs : List PlacedCopy) (i next output after : ℕ) (d : PlacedCopy) → i < length cs → output ≡ unwrap_or (named_in inside (get_or cs i d).copy) next
    → after ≡ next_free next (named_in inside (get_or cs i d).copy)
    → lates_from scope row inside cs i next ≡ late_puts scope row (get_or cs i d, output) ++ lates_from scope row inside cs (i + 1) after
next-late scope row inside cs i next output after d lt o a =
    let n : suc i ≡ i + 1 = omega arith in
    let c = get_or cs i d in
    let left = drop (i + 1) cs in
    ap (λ xs. flat_map (late_puts scope row) (zip xs (copy_numbers next inside xs))) (drop-cons cs i d lt ∙ ap (λ k. c ∷ drop k cs) n)
    ∙ ap (λ ns. flat_map (late_puts scope row) (zip (c ∷ left) ns)) (next-copy next inside c left)
    ∙ (λ j. late_puts scope row (c, sym o j) ++ flat_map (late_puts scope row) (zip left (copy_numbers (sym a j) inside left)))

pub late-more : (scope : ℕ) (row inside : List ℕ) (cs : List PlacedCopy) (i next output after : ℕ) (d : PlacedCopy) (old cur new : Placing) (total : List Put) → i < length cs
    → output ≡ unwrap_or (named_in inside (get_or cs i d).copy) next → after ≡ next_free next (named_in inside (get_or cs i d).copy) → Completes old total cur (lates_from scope row inside cs i next)
    → Puts cur new (late_puts scope row (get_or cs i d, output)) → Completes old total new (lates_from scope row inside cs (i + 1) after)
late-more scope row inside cs i next output after d old cur new total lt o a h k =
    completes-more old cur new total (lates_from scope row inside cs i next) (late_puts scope row (get_or cs i d, output)) (lates_from scope row inside cs (i + 1) after) h
    (next-late scope row inside cs i next output after d lt o a) k

pub late-refused : (scope : ℕ) (row inside : List ℕ) (cs : List PlacedCopy) (i next output after : ℕ) (d : PlacedCopy) (old cur : Placing) (total : List Put) (r : Refused ElabKind) → i < length cs
    → output ≡ unwrap_or (named_in inside (get_or cs i d).copy) next → after ≡ next_free next (named_in inside (get_or cs i d).copy) → Completes old total cur (lates_from scope row inside cs i next)
    → RefusesPuts cur (late_puts scope row (get_or cs i d, output)) r → RefusesPuts old total r
late-refused scope row inside cs i next output after d old cur total r lt o a h k =
    refuses-left old cur total (lates_from scope row inside cs i next) (late_puts scope row (get_or cs i d, output)) (lates_from scope row inside cs (i + 1) after) r h
    (next-late scope row inside cs i next output after d lt o a) k

pub lates-end : (scope : ℕ) (row inside : List ℕ) (cs : List PlacedCopy) (i next : ℕ) (old cur : Placing) (total : List Put) → length cs ≤ i → Completes old total cur (lates_from scope row inside cs i next)
    → Puts old cur total
lates-end scope row inside cs i next old cur total le h =
    completes-end old cur total (lates_from scope row inside cs i next) h (ap (λ xs. flat_map (late_puts scope row) (zip xs (copy_numbers next inside xs))) (drop_all i cs le))

-- no more numbers are taken than elements are put
pub next-within : (first next after : ℕ) (o : Option ℕ) (old new : Placing) (p : Put) → next ≤ first + length old.elements.items → after ≡ next_free next o → Puts old new (p ∷ [])
    → after ≤ first + length new.elements.items
next-within first next after None old new p le e h = let n = puts-count old new (p ∷ []) h in omega arith
next-within first next after (Some k) old new p le e h = let n = puts-count old new (p ∷ []) h in omega arith

-- ---- what they are

-- the nets of those that no text names
abbrev pub unnamed_numbers : List OwnNet → Instance → List Variable → List PlacedCopy → List ℕ
unnamed_numbers all s vs cs = numbers_in all (map (λ c. late_net s c.1.signal) (filter is_unnamed (map (placed_seen vs) cs)))

abbrev pub unnamed_count : Instance → List Variable → List PlacedCopy → ℕ
unnamed_count s vs cs = length (map (λ c. late_net s c.1.signal) (filter is_unnamed (map (placed_seen vs) cs)))

abbrev head_or : ℕ → List ℕ → ℕ
head_or d [] = d
head_or d (n ∷ ns) = n

abbrev rest_of : List ℕ → List ℕ
rest_of [] = []
rest_of (n ∷ ns) = ns

pub lates-mean : (delays : List GateDelays) (udps : List UdpUse) (all : List OwnNet) (source : Source) (s : Instance) (scope : ℕ) (vs : List Variable) (row inside : List ℕ) (first : ℕ) (cs : List PlacedCopy)
    → IsHere all source s scope vs row → HasDriven all source s vs inside → AllByRecursion (λ c. IsCopyInRow vs c.copy) cs → unnamed_numbers all s vs cs ≡ range_with_len first (unnamed_count s vs cs)
    → Means delays udps all (flat_map (late_puts scope row) (zip cs (copy_numbers first inside cs))) (map (late_at source s) (map (placed_seen vs) cs))
lates-mean delays udps all source s scope vs row inside first [] here drives l e = means-nil delays udps all
lates-mean delays udps all source s scope vs row inside first (c ∷ cs) here drives l e =
    by c.copy.named l.0.1 e (λ n known. lates-mean delays udps all source s scope vs row inside n cs here drives l.1 known)
  where
    with_name : Option ℕ → PlacedCopy
    with_name o = record { place = c.place; copy = record { signal = c.copy.signal; named = o } }

    tail : ℕ → Type 0
    tail n = Means delays udps all (flat_map (late_puts scope row) (zip cs (copy_numbers n inside cs))) (map (late_at source s) (map (placed_seen vs) cs))

    one : (o : Option ℕ) (output : ℕ) → output ≡ number_of all (late_at source s (placed_seen vs (with_name o))).output
        → Means delays udps all (late_puts scope row (with_name o, output)) (late_at source s (placed_seen vs (with_name o)) ∷ [])
    one o output is =
        means-one delays udps all scope c.place (net_in row c.copy.signal ∷ []) output (kind.Late 0) (late_at source s (placed_seen vs (with_name o))) (sym here.number) refl
        (ap (λ n. n ∷ []) (number-is all source s vs row c.copy.signal here.numbers l.0.0)) is refl refl

    both : (o : Option ℕ) (output n : ℕ) → output ≡ number_of all (late_at source s (placed_seen vs (with_name o))).output → tail n
        → Means delays udps all (late_puts scope row (with_name o, output) ++ flat_map (late_puts scope row) (zip cs (copy_numbers n inside cs)))
        (late_at source s (placed_seen vs (with_name o)) ∷ map (late_at source s) (map (placed_seen vs) cs))
    both o output n is more =
        means-append delays udps all (late_puts scope row (with_name o, output)) (flat_map (late_puts scope row) (zip cs (copy_numbers n inside cs))) (late_at source s (placed_seen vs (with_name o)) ∷ [])
        (map (late_at source s) (map (placed_seen vs) cs)) (one o output is) more

    by : (o : Option ℕ) → IsPlaceIn vs o → unnamed_numbers all s vs (with_name o ∷ cs) ≡ range_with_len first (unnamed_count s vs (with_name o ∷ cs))
        → ((n : ℕ) → unnamed_numbers all s vs cs ≡ range_with_len n (unnamed_count s vs cs) → tail n)
        → Means delays udps all (flat_map (late_puts scope row) (zip (with_name o ∷ cs) (copy_numbers first inside (with_name o ∷ cs)))) (map (late_at source s) (map (placed_seen vs) (with_name o ∷ cs)))
    by None below e rest =
        let n : first + 1 ≡ suc first = omega arith in
        both None first (suc first) (sym (ap (head_or 0) e)) (rest (suc first) (ap rest_of e ∙ ap (λ k. range_with_len k (unnamed_count s vs cs)) n))
    by (Some i) below e rest = both (Some i) (net_in inside i) first (driven-number all source s vs inside i drives below) (rest first e)

-- those of a member
pub member-lates : (delays : List GateDelays) (udps : List UdpUse) (source : Source) (top : Module) (number : ℕ) (prepared : Prepared) (row inside : List ℕ) (first k : ℕ) (x : Member) (s : Instance)
    (cs : List PlacedCopy) → HasCopies source top number prepared row inside first k x s
    → ((m : Module) (i : Member) → AreCopies m prepared.copies → slice_get (members m) k ≡ Some i → map (placed_seen (variables m)) cs ≡ own_copies m (k, i))
    → ((m : Module) → AreCopies m prepared.copies → AreCopiesInRow (variables m) cs)
    → Means delays udps (nets source top) (flat_map (late_puts number row) (zip cs (copy_numbers first inside cs))) (map (late_at source s) (own_copies s.step.definition (k, x)))
member-lates delays udps source top number prepared row inside first k x s cs h own below =
    let m = s.step.definition in
    let seen : map (placed_seen (variables m)) cs ≡ own_copies m (k, x) = own m x h.is_prepared.copies h.member in
    let numbered : unnamed_numbers (nets source top) s (variables m) cs ≡ range_with_len first (unnamed_count s (variables m) cs) =
    subst (λ ds. numbers_in (nets source top) (map (λ d. late_net s d.1.signal) (filter is_unnamed ds)) ≡ range_with_len first (length (map (λ d. late_net s d.1.signal) (filter is_unnamed ds)))) (sym seen) h.numbered in
    subst (λ ds. Means delays udps (nets source top) (flat_map (late_puts number row) (zip cs (copy_numbers first inside cs))) (map (late_at source s) ds)) seen
    (lates-mean delays udps (nets source top) source s number (variables m) row inside first cs h.here h.drives
    (recursion_from_All (λ c. IsCopyInRow (variables m) c.copy) cs (below m h.is_prepared.copies)) numbered)

pub lates-within : (source : Source) (top : Module) (number : ℕ) (prepared : Prepared) (row inside : List ℕ) (first k : ℕ) (x : Member) (s : Instance) (cs : List PlacedCopy)
    → HasCopies source top number prepared row inside first k x s
    → ((m : Module) (i : Member) → AreCopies m prepared.copies → slice_get (members m) k ≡ Some i → map (placed_seen (variables m)) cs ≡ own_copies m (k, i))
    → ((m : Module) → AreCopies m prepared.copies → AreCopiesInRow (variables m) cs)
    → length (flat_map (late_puts number row) (zip cs (copy_numbers first inside cs))) ≤ length (map (late_at source s) (own_copies s.step.definition (k, x)))
lates-within source top number prepared row inside first k x s cs h own below =
    let m = member-lates [] [] source top number prepared row inside first k x s cs h own below in
    let e = same-count _ _ m.places in
    omega (arith, e)
