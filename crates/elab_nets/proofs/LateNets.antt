-- The nets of delayed copies that no text names.
use Rattle.std.specs.Prelude.{◌≡◌, ℕ, ◌+◌, ◌<◌, ◌≤◌, All, List, [], ◌∷◌, ◌++◌, Option, Some, None, cond, filter, flat_map, is_none, length, map, option_map, take, refl, slice_index_or}
use Rattle.std.specs.List.{AllByRecursion}
use Rattle.std.proofs.Common.{sym, ◌∙◌, ap, arith, length-append, subst}
use Rattle.std.proofs.lemmas.List.{flat_map_more, length-map, take_all, take_more}
use Rattle.std.proofs.lemmas.List.Elements.{All-weaker, recursion_from_All}
use Rattle.std.proofs.lemmas.List.Folds.{length-flat_map-take}
use Rattle.sg_circuit.specs.declared.nets.Net.{Net}
use Rattle.vl_tree.specs.Tree.{Check, Source}
use Rattle.elab_model.specs.Hierarchy.{Instance}
use Rattle.elab_model.specs.Lates.{is_unnamed, own_copies}
use Rattle.elab_model.specs.Members.{check}
use Rattle.elab_model.specs.Names.{Variable, variables}
use Rattle.elab_model.specs.Nets.{OwnNet, late_net, member_nets}
use Rattle.elab_model.specs.Numbered.{undriven}
use Rattle.elab_laws.specs.Handing.{all_bits}
use Rattle.elab_bits.specs.Seen.{bit_at}
use Rattle.elab_ends.specs.Seen.{bit_seen}
use Rattle.elab_modules.specs.SeenOfLates.{AreCopiesInRow, IsCopyInRow, placed_seen}
use Rattle.elab_modules.specs.PlacedCopy.{PlacedCopy}
use Rattle.elab_modules.specs.declared.prepared.Prepared.{Prepared}
use Rattle.elab_modules.specs.Ready.{IsPrepared}
use Rattle.elab_nets.specs.Copies.{copy_nets, own_unless}
use Rattle.elab_nets.specs.Members.{HasMember}
use Rattle.elab_nets.specs.Own.{net_at}
use Rattle.elab_nets.proofs.ConstantNets.{same-name}

-- ---- one copy after another

pub one-copy_more : {A : Type 0} (f : A → List Net) (xs : List A) (i : ℕ) (d : A) (before nets new : List Net) → i < length xs → nets ≡ before ++ flat_map f (take i xs) → new ≡ nets ++ f (slice_index_or xs i d)
    → new ≡ before ++ flat_map f (take (i + 1) xs)
one-copy_more f xs i d before nets new lt h n =
    let x = slice_index_or xs i d in
    n ∙ ap (λ ns. ns ++ f x) h ∙ flat_map_more f before (take i xs) x ∙ ap (λ ys. before ++ flat_map f ys) (sym (take_more xs i d lt))

pub all-copies : {A : Type 0} (f : A → List Net) (xs : List A) (i : ℕ) (before nets : List Net) → length xs ≤ i → nets ≡ before ++ flat_map f (take i xs) → nets ≡ before ++ flat_map f xs
all-copies f xs i before nets le h = h ∙ ap (λ ys. before ++ flat_map f ys) (take_all i xs le)

-- one more is no more than all
pub within-all : {A : Type 0} (f : A → List Net) (xs : List A) (i : ℕ) (d : A) (before nets : List Net) → i < length xs → nets ≡ before ++ flat_map f (take i xs)
    → length nets + length (f (slice_index_or xs i d)) + 0 ≤ length before + length (flat_map f xs)
within-all f xs i d before nets lt h =
    let a : length nets ≡ length before + length (flat_map f (take i xs)) = ap length h ∙ length-append before (flat_map f (take i xs)) in
    let b = length-flat_map-take f xs i d lt in
    omega arith

-- ---- as the definition has them

pub signals-in_row : (vs : List Variable) (copies : List PlacedCopy) → AreCopiesInRow vs copies → All (λ c. c.copy.signal < length (all_bits vs)) copies
signals-in_row vs copies h = All-weaker (λ c. IsCopyInRow vs c.copy) (λ c. c.copy.signal < length (all_bits vs)) (λ c k. k.0) copies h

-- the copies of a module that is ready stand in its row
pub in-table : (s : Instance) (prepared : Prepared) (copies : List PlacedCopy) → IsPrepared prepared s.step.definition → AreCopiesInRow (variables s.step.definition) copies
    → All (λ c. c.copy.signal < length (all_bits prepared.table)) copies
in-table s prepared copies ready row = subst (λ vs. All (λ c. c.copy.signal < length (all_bits vs)) copies) (sym ready.table) (signals-in_row (variables s.step.definition) copies row)

abbrev code_nets : ℕ → List Variable → List PlacedCopy → List Net
code_nets scope vs copies = flat_map (λ c. copy_nets scope vs c.copy) copies

abbrev unnamed_nets : Instance → List Variable → List PlacedCopy → List OwnNet
unnamed_nets s vs copies = map (λ c. late_net s c.1.signal) (filter is_unnamed (map (placed_seen vs) copies))

late-nets : (vs : List Variable) (s : Instance) (scope : ℕ) (copies : List PlacedCopy) → vs ≡ variables s.step.definition → s.step.number ≡ scope → AllByRecursion (λ c. c.copy.signal < length (all_bits vs)) copies
    → code_nets scope vs copies ≡ map undriven (unnamed_nets s vs copies)
late-nets vs s scope [] e n h = refl
late-nets vs s scope (c ∷ cs) e n h = by c.copy.named (late-nets vs s scope cs e n h.1)
  where
    by : (named : Option ℕ) → code_nets scope vs cs ≡ map undriven (unnamed_nets s vs cs)
        → own_unless (net_at scope (bit_at vs c.copy.signal)) named ++ code_nets scope vs cs
        ≡ map undriven (map (λ c. late_net s c.1.signal) (cond (is_none (option_map (bit_seen vs) named)) (placed_seen vs c ∷ filter is_unnamed (map (placed_seen vs) cs)) (filter is_unnamed (map (placed_seen vs) cs))))
    by None k = ap (λ o. o ∷ code_nets scope vs cs) (sym (same-name vs s scope c.copy.signal e n h.0)) ∙ ap (λ os. undriven (late_net s (bit_seen vs c.copy.signal)) ∷ os) k
    by (Some i) k = k

module _ (s : Instance) (prepared : Prepared) (scope k : ℕ) (c : Check) (has : HasMember s prepared scope k (check c)) (copies : List PlacedCopy)
    (own : map (placed_seen (variables s.step.definition)) copies ≡ own_copies s.step.definition (k, check c)) (row : All (λ c. c.copy.signal < length (all_bits prepared.table)) copies) (source : Source) where
  pub lates-are : code_nets scope prepared.table copies ≡ map undriven (member_nets source s (k, check c))
  lates-are =
      late-nets prepared.table s scope copies has.ready.table has.number (recursion_from_All (λ c. c.copy.signal < length (all_bits prepared.table)) copies row)
      ∙ ap (λ vs. map undriven (unnamed_nets s vs copies)) has.ready.table ∙ ap (λ cs. map undriven (map (λ c. late_net s c.1.signal) (filter is_unnamed cs))) own

  pub late-count : length (code_nets scope prepared.table copies) ≡ length (member_nets source s (k, check c))
  late-count = ap length lates-are ∙ length-map (member_nets source s (k, check c)) undriven
