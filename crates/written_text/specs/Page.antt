-- Words of contracts: the scope of a circuit that is being written.
use Rattle.std.specs.Prelude.{◌≡◌, ℕ, ℤ, ◌+◌, ◌<◌, ◌==◌, Bool, List, [], ◌∷◌, ◌++◌, length, map, Option, IfSome, codes, flat_map, unwrap_or, if◌then◌else◌, slice_index_or}
use Rattle.std.specs.List.{filter}
use Rattle.std.specs.Option.{option_map}
use Rattle.sg_logic.specs.declared.edges.Edge as netlist
use Rattle.sg_circuit.specs.declared.elements.Element as code_element
use Rattle.sg_circuit.specs.declared.paths.Path as code_path
use Rattle.sg_circuit.specs.declared.checks.CheckConditions.{CheckConditions}
use Rattle.sg_circuit.specs.declared.checks.CheckTiming.{CheckTiming}
use Rattle.sg_circuit.specs.declared.checks.Event.{Event}
use Rattle.sg_circuit.specs.ChecksSeen.{text_at, AreWritten}
use Rattle.sg_circuit.specs.PathsSeen.{path_seen, IsIndexedPath}
use Rattle.sdf_tree.specs.Written.{PathCondition, always, otherwise, if_words}
use Rattle.sg_circuit.specs.Closed.{IsClosed, NamesNets}
use Rattle.sg_circuit.specs.Circuit.{Circuit, Element, Variable, scope_at, element_at}
use Rattle.sg_circuit.specs.Seen.{circuit_seen, element_seen, kind_seen, AreIndexed, IsIndexed}
use Rattle.annotation_model.specs.Same.{bare}
use Rattle.annotation_model.specs.Finding.{no_check}
use Rattle.annotation_model.specs.Spots.{Checked, all_checked, spots_of}
use Rattle.written_text.specs.declared.pages.Page.{Page}
use Rattle.written_model.specs.declared.parts.Part.{Part}
use Rattle.written_model.specs.declared.parts.Part.TheVariants as part
use Rattle.written_text.specs.Places.{HasPlaces}
use Rattle.written_model.specs.Entries.{LegEntry, PathEntry, CheckKey, CheckEntry, EventKey, edge_of, event_rank, parts_of, numbers_of, path_key, legs_at, paths_at, checks_at, path_rank, check_rank}
use Rattle.written_model.specs.Text.{line, enclosed, words_text, leg_text, path_text, check_text}

abbrev pub circuit_of : Page → Circuit
circuit_of p = circuit_seen p.parts.now

abbrev pub variables_of : Page → List Variable
variables_of p = (scope_at (circuit_of p) p.scope).variables

-- a circuit's scope, with the places of its nets
pub record IsPage (p : Page) : Type 0 where
  pub closed : IsClosed (circuit_of p)
  pub indexed : AreIndexed p.parts.now
  pub scope : p.scope < length p.parts.now.scopes.items
  pub nets : length p.places.now ≡ length p.parts.now.nets.items
  pub placed : HasPlaces (p.scope + 1) p.places.now (variables_of p)

-- the key of an event of a check, whose condition stands at a place of the circuit's table
abbrev pub event_of : Page → (net : ℕ) → Option netlist.Edge → Option ℕ → EventKey
event_of p net edge place = record { net = net; edge = edge_of edge; condition = option_map bare (text_at p.parts.now.conditions.items place) }

-- the entry of a path
abbrev pub path_entry_of : Page → (output : ℕ) → code_path.Path → PathEntry
path_entry_of p output path = record {
  key = path_key output (path_seen p.parts.now.conditions.items p.parts.now.leg_timings.items path);
  numbers = map numbers_of (path_seen p.parts.now.conditions.items p.parts.now.leg_timings.items path).timings;
}

-- the keys and the entries of a timing check's parts, whose conditions stand at places of the circuit's table
abbrev pub key_of_part : Page → CheckTiming → CheckConditions → Part → CheckKey
key_of_part p t w part = record { part = part; refer = event_of p t.refer.net t.refer.edge w.refer; datum = option_map (λ (e : Event). event_of p e.net e.edge w.datum) t.datum }

abbrev pub refer_of_check : Page → CheckTiming → CheckConditions → EventKey
refer_of_check p t w = event_of p t.refer.net t.refer.edge w.refer

abbrev pub datum_of_check : Page → CheckTiming → CheckConditions → EventKey
datum_of_check p t w = unwrap_or (option_map (λ (e : Event). event_of p e.net e.edge w.datum) t.datum) (refer_of_check p t w)

abbrev pub entry_of_part : Page → CheckTiming → CheckConditions → Part → ℤ → CheckEntry
entry_of_part p t w part limit = record { key = key_of_part p t w part; limit = limit }

abbrev pub entries_of_check : Page → CheckTiming → CheckConditions → List CheckEntry
entries_of_check p t w = map (λ (q : Part × ℤ). entry_of_part p t w q.0 q.1) (parts_of t.kind t.limits)

abbrev pub rank_of_event : Page → Event → Option ℕ → ℕ
rank_of_event p e place = event_rank (event_of p e.net e.edge place)

-- what stands before a path that has a condition, and behind it up to the end of the line
abbrev pub before_path : PathCondition → List ℕ
before_path always = []
before_path (if_words words) = codes "(COND " ++ (words_text words ++ codes " ")
before_path otherwise = codes "(CONDELSE "

abbrev pub behind_path : PathCondition → List ℕ
behind_path always = 10 ∷ []
behind_path (if_words words) = codes ")" ++ 10 ∷ []
behind_path otherwise = codes ")" ++ 10 ∷ []

-- ---- what is written

-- an element of the scope, whose parts stand in the circuit's tables
pub record IsElementOf (p : Page) (e : code_element.Element) : Type 0 where
  pub scope : e.scope ≡ p.scope
  pub output : e.output < length p.parts.now.nets.items
  pub indexed : IsIndexed p.parts.now e.kind
  pub nets : NamesNets (length p.parts.now.nets.items) (kind_seen p.parts.now e.kind)

pub record IsPathOf (p : Page) (path : code_path.Path) : Type 0 where
  pub input : path.input < length p.parts.now.nets.items
  pub indexed : IsIndexedPath (length p.parts.now.conditions.items) (length p.parts.now.leg_timings.items) path

pub record IsCheckOf (p : Page) (t : CheckTiming) (w : CheckConditions) : Type 0 where
  pub refer : t.refer.net < length p.parts.now.nets.items
  pub datum : IfSome t.datum (λ e. e.net < length p.parts.now.nets.items)
  pub written : AreWritten (length p.parts.now.conditions.items) w

-- ---- lines

abbrev pub leg_line : Page → LegEntry → List ℕ
leg_line p e = line (leg_text (variables_of p) e)

abbrev pub path_line : Page → PathEntry → List ℕ
path_line p e = line (path_text (variables_of p) e)

abbrev pub check_line : Page → CheckEntry → List ℕ
check_line p e = line (check_text (variables_of p) e)

-- of an element, and of an element by its number
abbrev pub lines_of_legs : Page → Element → List ℕ
lines_of_legs p e = flat_map (leg_line p) (flat_map (legs_at p.scope) (spots_of e))

abbrev pub leg_lines : Page → code_element.Element → List ℕ
leg_lines p e = lines_of_legs p (element_seen p.parts.now e)

abbrev pub leg_lines_at : Page → ℕ → List ℕ
leg_lines_at p k = lines_of_legs p (element_at (circuit_of p) k)

-- those of paths, of one rank
abbrev pub has_path_rank : ℕ → PathEntry → Bool
has_path_rank rank e = path_rank e.key == rank

abbrev pub lines_of_paths : Page → ℕ → Element → List ℕ
lines_of_paths p rank e = flat_map (path_line p) (filter (has_path_rank rank) (flat_map (paths_at p.scope) (spots_of e)))

abbrev pub path_lines : Page → ℕ → code_element.Element → List ℕ
path_lines p rank e = lines_of_paths p rank (element_seen p.parts.now e)

abbrev pub path_lines_at : Page → ℕ → ℕ → List ℕ
path_lines_at p rank k = lines_of_paths p rank (element_at (circuit_of p) k)

abbrev pub ranked_line : Page → ℕ → (output : ℕ) → code_path.Path → List ℕ
ranked_line p rank output path = if has_path_rank rank (path_entry_of p output path) then path_line p (path_entry_of p output path) else []

-- those of timing checks
abbrev pub has_check_rank : ℕ → CheckEntry → Bool
has_check_rank rank e = check_rank e.key == rank

abbrev pub check_lines : Page → ℕ → CheckTiming → CheckConditions → List ℕ
check_lines p rank t w = if check_rank (key_of_part p t w part.Setup) == rank then flat_map (check_line p) (entries_of_check p t w) else []

abbrev pub checked_at : Circuit → ℕ → Checked
checked_at c k = slice_index_or (all_checked c) k no_check

abbrev pub check_lines_at : Page → ℕ → ℕ → List ℕ
check_lines_at p rank k = flat_map (check_line p) (filter (has_check_rank rank) (checks_at p.scope (checked_at (circuit_of p) k)))

-- of all elements of the scope, and of all its timing checks
abbrev pub delay_lines_of : Page → List ℕ → List ℕ
delay_lines_of p elements = flat_map (leg_lines_at p) elements ++ flat_map (λ rank. flat_map (path_lines_at p rank) elements) (0 ∷ 1 ∷ 2 ∷ [])

abbrev pub check_lines_of : Page → List ℕ → List ℕ
check_lines_of p checks = flat_map (λ rank. flat_map (check_lines_at p rank) checks) (0 ∷ 1 ∷ 2 ∷ 3 ∷ 4 ∷ [])

abbrev pub parts_text_of : Page → (elements checks : List ℕ) → List ℕ
parts_text_of p elements checks =
    enclosed (line (codes "(DELAY (ABSOLUTE")) (line (codes "))")) (delay_lines_of p elements) ++ enclosed (line (codes "(TIMINGCHECK")) (line (codes ")")) (check_lines_of p checks)
