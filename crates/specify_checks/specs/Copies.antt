-- The delayed copies that checks see, by their places among those of their module.
use Rattle.std.specs.Prelude.{◌≡◌, ℕ, ◌<◌, List, [], Option, None, IfSome, flat_map, length, map, slice_index_or}
use Rattle.std.specs.List.{AllByRecursion, position_from}
use Rattle.std.specs.Option.{option_map}
use Rattle.vl_tree.specs.Tree.{Named, Term, Check, Module}
use Rattle.elab_laws.specs.Handing.{all_bits}
use Rattle.elab_laws.specs.Words.{In}
use Rattle.elab_model.specs.Lates.{DelayedCopy, is_same_copy, module_copies}
use Rattle.elab_model.specs.Members.{check, delayed_names, listed, members}
use Rattle.elab_model.specs.Names.{Variable, variables}
use Rattle.elab_model.specs.Terms.{term_bits}
use Rattle.elab_ends.specs.Seen.{bit_seen}
use Rattle.elab_lates.specs.Copies.{AreCopies}
use Rattle.elab_lates.specs.Seen.{copy_seen}
use Rattle.elab_lates.specs.declared.copies.ModuleCopies.{ModuleCopies}
use Rattle.specify_model.specs.Blocks.{specify_items}
use Rattle.specify_model.specs.CheckFaults.{event_faults, some_event_faults}
use Rattle.specify_model.specs.Checks.{check_texts, reference_of, data_of}
use Rattle.specify_model.specs.Conditions.{first_bit}
use Rattle.specify_model.specs.Faults.{operand_faults}
use Rattle.specify_checks.specs.declared.events.ModuleEvent.{ModuleEvent}

-- ---- places

-- a copy by its place; past the end a blank
abbrev pub copy_at : List DelayedCopy → ℕ → DelayedCopy
copy_at cs place = slice_index_or cs place (record { signal = record { name = []; position = 0 }; named = None })

abbrev pub both_at : List DelayedCopy → List ℕ → DelayedCopy × DelayedCopy
both_at cs places = (copy_at cs (slice_index_or places 0 0), copy_at cs (slice_index_or places 1 0))

-- those that stand ready of a module
abbrev pub copies_seen : List Variable → ModuleCopies → List DelayedCopy
copies_seen vs copies = map (λ p. copy_seen vs p.copy) copies.copies.items

-- the place of a copy
abbrev pub place_among : Module → DelayedCopy → Option ℕ
place_among m c = position_from (λ d. is_same_copy c d.1) 0 (module_copies m)

-- ---- a module whose checks are read

-- the names that a text gives to copies are of one bit each (15.8)
abbrev pub name_term : Named → Term
name_term n = record { name = n; select = None }

abbrev pub AreNamed : List Variable → List Named → Type 0
AreNamed vs ns = flat_map (λ n. operand_faults vs (name_term n)) ns ≡ []

abbrev pub IsNamed : List Variable → Option Named → Type 0
IsNamed vs n = AreNamed vs (listed n)

-- its variables and its copies stand ready
pub record IsReady (m : Module) (vs : List Variable) (copies : ModuleCopies) : Type 0 where
  pub variables_are : vs ≡ variables m
  pub copies_are : AreCopies m copies

abbrev pub HasNames : Module → List Variable → Type 0
HasNames m vs = AllByRecursion (λ c. AreNamed vs (delayed_names c)) (check_texts (specify_items m))

pub record IsReadable (m : Module) (vs : List Variable) (copies : ModuleCopies) : Type 0 where
  pub ready : IsReady m vs copies
  pub named : HasNames m vs

-- and so of one of its checks
pub record IsCheckOf (m : Module) (vs : List Variable) (copies : ModuleCopies) (c : Check) : Type 0 where
  pub ready : IsReady m vs copies
  pub member : In (check c) (members m)
  pub named : AreNamed vs (delayed_names c)

-- the bits of its terminals, which have no fault
pub record AreTerminals (vs : List Variable) (c : Check) (refer : ModuleEvent) (datum : Option ModuleEvent) : Type 0 where
  pub refer_in_row : refer.bit < length (all_bits vs)
  pub datum_in_row : IfSome datum (λ e. e.bit < length (all_bits vs))
  pub refer_is : bit_seen vs refer.bit ≡ first_bit (term_bits vs (reference_of c).term)
  pub datum_is : option_map (λ e. bit_seen vs e.bit) datum ≡ option_map (λ e. first_bit (term_bits vs e.term)) (data_of c)
  pub refer_sound : event_faults vs (reference_of c) ≡ []
  pub datum_sound : some_event_faults vs (data_of c) ≡ []
