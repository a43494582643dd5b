-- How the evaluation of listed elements goes on.
use Rattle.std.specs.Prelude.{◌≡◌, ℕ, ◌+◌, ◌<◌, List, [], ◌∷◌, length, take, drop, slice_index_or, slice_set, refl}
use Rattle.std.proofs.Common.{sym, ◌∙◌, ap, subst, arith}
use Rattle.std.proofs.lemmas.List.{take_more, take-append-drop}
use Rattle.std.specs.declared.option.Option.{Option}
use Rattle.sg_logic.specs.declared.values.Value.{Value}
use Rattle.sg_logic.specs.declared.values.Value.TheVariants.{X}
use Rattle.sg_model.specs.Values.{value_at}
use Rattle.sg_model.specs.Agenda.{list_at, with_list, NoneBelow, NothingBelow}
use Rattle.sg_model.specs.Pending.{last_value}
use Rattle.sg_model.specs.Machine.{Machine, Stamp}
use Rattle.sg_model.specs.Round.{element_list, element_value, placed_by}
use Rattle.fan_round.specs.Lists.{occurrences, at_places}
use Rattle.fan_round.specs.Rounds.{IsOnce}
use Rattle.fan_round.proofs.ListLaws.{occurs_here, occurrences-append, at_places-other, at_places-more}

-- an element isn't among those before it
pub not_before : (ks : List ℕ) (i blank : ℕ) → IsOnce ks → i < length ks → occurrences (slice_index_or ks i blank) (take i ks) ≡ 0
not_before ks i blank once l =
    let k : ℕ = slice_index_or ks i blank in
    let one : occurrences k (k ∷ []) ≡ 1 = occurs_here k k [] refl ∙ refl in
    let more : occurrences k (take (i + 1) ks) ≡ occurrences k (take i ks) + occurrences k (k ∷ []) = ap (occurrences k) (take_more ks i blank l) ∙ occurrences-append k (take i ks) (k ∷ []) in
    let whole : occurrences k ks ≡ occurrences k (take (i + 1) ks) + occurrences k (drop (i + 1) ks) = ap (occurrences k) (sym (take-append-drop (i + 1) ks)) ∙ occurrences-append k (take (i + 1) ks) (drop (i + 1) ks) in
    let most = once.each k in
    omega arith

-- an element's list depends on its own state alone
element_list-state : (m : Machine) (now : ℕ) (before values : List Value) (stamps : List (Option Stamp)) (states other : List Value) (e : ℕ) (list : List (ℕ × Value)) → value_at states e ≡ value_at other e
    → element_list m now before values stamps states e list ≡ element_list m now before values stamps other e list
element_list-state m now before values stamps states other e list h =
    let present : Value = value_at values (slice_index_or m.outputs e 0) in
    ap (λ s. placed_by (m.rule e now values stamps (last_value list present) (m.value e before values s)) list present now (m.value e before values s)) h

-- one element more
pub evaluated_lists : (m : Machine) (now : ℕ) (before values : List Value) (stamps : List (Option Stamp)) (work : List ℕ) (i blank : ℕ) (lists mid new : List (List (ℕ × Value))) (states between : List Value) → IsOnce work → i < length work
    → mid ≡ at_places (element_list m now before values stamps states) [] (take i work) lists
    → between ≡ at_places (element_value m before values) X (take i work) states
    → new ≡ with_list mid (slice_index_or work i blank) (element_list m now before values stamps between (slice_index_or work i blank) (list_at mid (slice_index_or work i blank)))
    → new ≡ at_places (element_list m now before values stamps states) [] (take (i + 1) work) lists
evaluated_lists m now before values stamps work i blank lists mid new states between once l e f g =
    let k : ℕ = slice_index_or work i blank in
    let same : value_at between k ≡ value_at states k = ap (λ ss. value_at ss k) f ∙ at_places-other (element_value m before values) X (take i work) states k X (not_before work i blank once l) in
    g ∙ (ap (λ x. with_list mid k x) (element_list-state m now before values stamps between states k (list_at mid k) same)
    ∙ (ap (λ t. with_list t k (element_list m now before values stamps states k (list_at t k))) e ∙ sym (at_places-more (element_list m now before values stamps states) [] work i blank lists l)))

pub evaluated_states : (m : Machine) (before values : List Value) (work : List ℕ) (i blank : ℕ) (states between new : List Value) → i < length work
    → between ≡ at_places (element_value m before values) X (take i work) states
    → new ≡ slice_set between (slice_index_or work i blank) (element_value m before values (slice_index_or work i blank) (value_at between (slice_index_or work i blank)))
    → new ≡ at_places (element_value m before values) X (take (i + 1) work) states
evaluated_states m before values work i blank states between new l f g =
    let k : ℕ = slice_index_or work i blank in
    g ∙ (ap (λ ss. slice_set ss k (element_value m before values k (value_at ss k))) f ∙ sym (at_places-more (element_value m before values) X work i blank states l))

-- an element that isn't evaluated yet has nothing pending below now
pub below_still : (now : ℕ) (f : ℕ → List (ℕ × Value) → List (ℕ × Value)) (work : List ℕ) (i blank : ℕ) (lists mid : List (List (ℕ × Value))) → IsOnce work → i < length work → slice_index_or work i blank < length lists
    → NothingBelow now lists → mid ≡ at_places f [] (take i work) lists → NoneBelow now (list_at mid (slice_index_or work i blank))
below_still now f work i blank lists mid once l within below e =
    let k : ℕ = slice_index_or work i blank in
    let same : list_at mid k ≡ list_at lists k = ap (λ t. list_at t k) e ∙ at_places-other f [] (take i work) lists k [] (not_before work i blank once l) in
    subst (NoneBelow now) (sym same) (below k within)
