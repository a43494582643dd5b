-- Faults: each is a kind at a place. Each cause of refusal is the list of the places that have it.
use Rattle.std.specs.Prelude.{ℕ, List, [], ◌∷◌, ◌++◌, Bool, not, map, flat_map, if◌then◌else◌}
use Rattle.std.specs.List.{IsAmong}
use Rattle.sg_text.specs.declared.places.Place.{Place}
use Rattle.sg_text.specs.declared.refusals.Refused.{Refused}
use Rattle.sg_text.specs.declared.refusals.Refused.TheVariants as refused
use Rattle.vl_tree.specs.Tree.{Named}
use Rattle.elab_model.specs.declared.kinds.ElabKind.{ElabKind}
use Rattle.elab_model.specs.declared.kinds.ElabKind.TheVariants.{DuplicateName}
use Rattle.elab_model.specs.Names.{is_among}

pub record Fault : Type 0 where
  pub kind : ElabKind
  pub place : Place

abbrev pub fault : ElabKind → Place → Fault
fault k p = record { kind = k; place = p }

-- one fault where a test holds
abbrev pub fault_if : Bool → ElabKind → Place → List Fault
fault_if test k p = if test then fault k p ∷ [] else []

-- the places of names that stand earlier in the list, or were seen before
abbrev pub places_again : List (List ℕ) → List Named → List Place
places_again seen [] = []
places_again seen (n ∷ ns) = (if is_among n.text seen then n.place ∷ [] else []) ++ places_again (n.text ∷ seen) ns

-- two names are one: the second is the place
abbrev pub duplicates : List Named → List Fault
duplicates ns = map (fault DuplicateName) (places_again [] ns)

-- names that are none of others
abbrev pub texts_of : List Named → List (List ℕ)
texts_of ns = map (λ n. n.text) ns

abbrev pub missing : ElabKind → List Named → List Named → List Fault
missing kind ns others = flat_map (λ n. fault_if (not (is_among n.text (texts_of others))) kind n.place) ns

-- faults of several lists
abbrev pub all_of : List (List Fault) → List Fault
all_of fs = flat_map (λ f. f) fs

-- a refusal tells one of some faults, or that there was no memory
abbrev pub RefusesOneOf : List Fault → Refused ElabKind → Type 0
RefusesOneOf fs (refused.Fault kind place) = IsAmong fs (fault kind place)
RefusesOneOf fs refused.NoMemory = Unit {0}
