-- The table of lists that the drivers' chains stand for.
use Rattle.std.proofs.Common.{◌≡◌, ◌≢◌, ℕ, ◌<◌, ◌≤◌, List, [], length, reverse, sym, ◌∙◌, ap, subst, arith, inl, inr}
use Rattle.std.specs.Prelude.{slice_index_or}
use Rattle.std.proofs.lemmas.Bool.{cases_eq, cases_lt}
use Rattle.std.proofs.lemmas.List.{ext_get_or, get_or-map, get_or_past, get_or-set_same, get_or-set_other, length-map, length-set}
use Rattle.std.specs.declared.option.Option.{Option}
use Rattle.std.specs.declared.option.Option.TheVariants.{Some, None}
use Rattle.sg_logic.specs.declared.values.Value.{Value}
use Rattle.sg_model.specs.Agenda.{list_at, with_list, Rises}
use Rattle.event_wheel.specs.declared.nodes.Node.{Node}
use Rattle.event_wheel.specs.declared.chains.Ends.{Ends}
use Rattle.event_wheel.specs.Slots.{Held, node_at}
use Rattle.event_wheel.specs.Families.{IsIndexed, IsOrdered, pairs_at, no_ends}
use Rattle.event_wheel.specs.Kept.{list_of, table_of, driver_of}
use Rattle.event_wheel.proofs.KeyLaws.{length_below}
use Rattle.event_wheel.proofs.ChainLaws.{walk-chain}
use Rattle.event_wheel.proofs.OrderLaws.{rises-ordered}

pub slot_below : (slots : List (Option Node)) (k : ℕ) (node : Node) → slice_index_or slots k None ≡ Some node → k < length slots
slot_below slots k node e =
    elim (cases_lt k (length slots)) [
      | inl l ↦ l
      | inr past ↦ (let n : slice_index_or slots k None ≡ None = get_or_past slots k None past in let x : None ≡ Some node = sym n ∙ e in cc)
    ]

-- the chains of drivers
abbrev pub IsTabled : Held → List Ends → (ℕ → List ℕ) → Type 0
IsTabled held drivers chains = IsIndexed (node_at held) 2 3 driver_of (λ s t. s < t) drivers chains

pub length-table : (held : Held) (drivers : List Ends) → length (table_of held drivers) ≡ length drivers
length-table held drivers = length-map drivers (list_of held)

-- a chain is no longer than the store
pub length-chain : (held : Held) (b a : ℕ) (home : Node → ℕ) (R : ℕ → ℕ → Type 0) (ends : List Ends) (chains : ℕ → List ℕ) (d : ℕ) → IsIndexed (node_at held) b a home R ends chains → d < length ends → length (chains d) ≤ length held.slots
length-chain held b a home R ends chains d f l =
    length_below (chains d) (length held.slots) (f.family.distinct d l) (λ k h. let s = f.family.sound d k l h in slot_below held.slots k s.0 s.1)

pub table_at : (held : Held) (drivers : List Ends) (chains : ℕ → List ℕ) (d : ℕ) → IsTabled held drivers chains → d < length drivers → list_at (table_of held drivers) d ≡ pairs_at (node_at held) (chains d)
table_at held drivers chains d f l =
    get_or-map (list_of held) drivers d no_ends [] l
    ∙ (ap (list_of held) (f.ends_are d l)
    ∙ ap (pairs_at (node_at held)) (walk-chain (length held.slots) (node_at held) 2 3 None (chains d) (length-chain held 2 3 driver_of (λ s t. s < t) drivers chains d f l) (f.family.chain d l)))

pub in_table : (held : Held) (drivers : List Ends) (d : ℕ) → d < length (table_of held drivers) → d < length drivers
in_table held drivers d l = subst (λ n. d < n) (length-table held drivers) l

pub to_table : (held : Held) (drivers : List Ends) (d : ℕ) → d < length drivers → d < length (table_of held drivers)
to_table held drivers d l = subst (λ n. d < n) (sym (length-table held drivers)) l

pub table-ordered : (held : Held) (drivers : List Ends) (chains : ℕ → List ℕ) (d : ℕ) → IsTabled held drivers chains → d < length drivers → IsOrdered (λ s t. s < t) (list_at (table_of held drivers) d)
table-ordered held drivers chains d f l = subst (IsOrdered (λ s t. s < t)) (sym (table_at held drivers chains d f l)) (f.ordered d l)

pub table-rises : (held : Held) (drivers : List Ends) (chains : ℕ → List ℕ) (d : ℕ) → IsTabled held drivers chains → d < length drivers → Rises (reverse (list_at (table_of held drivers) d))
table-rises held drivers chains d f l = rises-ordered (list_at (table_of held drivers) d) (table-ordered held drivers chains d f l)

-- one driver's list changes
pub table-changed : (old new : Held) (drivers after : List Ends) (chains chains' : ℕ → List ℕ) (i : ℕ) (pairs : List (ℕ × Value)) → IsTabled old drivers chains → IsTabled new after chains' → length after ≡ length drivers → i < length drivers
    → pairs_at (node_at new) (chains' i) ≡ pairs
    → ((j : ℕ) → j < length drivers → j ≢ i → pairs_at (node_at new) (chains' j) ≡ pairs_at (node_at old) (chains j))
    → table_of new after ≡ with_list (table_of old drivers) i pairs
table-changed old new drivers after chains chains' i pairs f g e l own others =
    let t : List (List (ℕ × Value)) = table_of old drivers in
    ext_get_or [] (table_of new after) (with_list t i pairs)
    (length-table new after ∙ (e ∙ sym (length-set t i pairs ∙ length-table old drivers)))
    (λ j lj.
    let l1 : j < length after = in_table new after j lj in
    let l0 : j < length drivers = omega arith in
    let at : list_at (table_of new after) j ≡ pairs_at (node_at new) (chains' j) = table_at new after chains' j g l1 in
    elim (cases_eq j i) [
      | inl same ↦ at ∙ (subst (λ n. pairs_at (node_at new) (chains' n) ≡ pairs) (sym same) own
          ∙ sym (subst (λ n. slice_index_or (with_list t i pairs) n [] ≡ pairs) (sym same) (get_or-set_same t i pairs [] (to_table old drivers i l))))
      | inr other ↦ at ∙ (others j l0 other ∙ sym (get_or-set_other t i j pairs [] other ∙ table_at old drivers chains j f l0))
    ])
