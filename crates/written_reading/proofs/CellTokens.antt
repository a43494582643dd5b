-- The tokens of cells.
use Rattle.std.specs.Prelude.{◌≡◌, ◌≢◌, ℕ, true, List, [], ◌∷◌, ◌++◌, map, flat_map, Option, Some, None, codes}
use Rattle.std.specs.List.{AllByRecursion}
use Rattle.std.proofs.Common.{refl, ap, ◌∙◌}
use Rattle.std.proofs.lemmas.List.{append_assoc}
use Rattle.grammar.specs.Rule.{◌∙∙◌, ◌▸◌, ◌◂◌, mapped}
use Rattle.sg_text.specs.declared.places.Place.{Place}
use Rattle.sg_circuit.specs.Circuit.{Circuit, Variable, scope_at}
use Rattle.sdf_lex.specs.Tokens.{Meaning, word_token, text_token, left_token, right_token}
use Rattle.sdf_tree.specs.declared.keywords.Keyword.TheVariants as keyword
use Rattle.sdf_tree.specs.declared.tree.Skipped.TheVariants as skipped
use Rattle.sdf_tree.specs.declared.words.Divider.TheVariants.{Slash}
use Rattle.sdf_tree.specs.Checks.{check}
use Rattle.sdf_tree.specs.Entries.{entry, GroupBody, absolute_body, increment_body, pulse_body, pulse, group_body_parts, group_body, group_of, group_parts, group}
use Rattle.sdf_tree.specs.Files.{PartBody, delays_body, checks_body, skipped_body, is_skipped_part, part_body_parts, part_body, part_of, part_parts, part, cell_type_parts, cell_type, instance_path, instance_or_top, instance_there, instance_parts, instance, cell_parts, cell}
use Rattle.sdf_tree.specs.Keywords.{keyword_of}
use Rattle.sdf_tree.specs.Kinds.{is_left, is_right, is_star, is_select, is_text, is_instance, skipped_part_of, names, text_of, word_text}
use Rattle.sdf_tree.specs.Rules.{Grammar, token, mark, word, placed, either, optional, many}
use Rattle.sdf_tree.specs.Values.{text_parts, text, balanced}
use Rattle.sdf_tree.specs.Written.{Instance, all_of_type, the_path, Entry, Group, absolute, Check, Part, delays, checks, Cell}
use Rattle.written_model.specs.Entries as entries
use Rattle.written_model.specs.Names.{names_text, names_to}
use Rattle.written_model.specs.Tree.{leg_entry, path_entry, check_of, unless_empty, delay_entries, check_entries, parts_of, instance_of}
use Rattle.written_reading.specs.Meanings.{leg_meanings, path_meanings, check_meanings, around, delays_meanings, checks_meanings, parts_meanings, instance_meanings}
use Rattle.written_reading.specs.Placeless as placeless
use Rattle.written_reading.proofs.CheckTokens.{IsGoodCheck, says_check_entry}
use Rattle.written_reading.proofs.EntryTokens.{IsGoodLeg, says_leg, IsGoodPath, says_path}
use Rattle.written_reading.proofs.NameTexts.{names_are_path}
use Rattle.written_reading.proofs.PortTokens.{tells_word}
use Rattle.written_reading.proofs.Tells.{Tells, Says, tells_token, tells_mark, tells_image, tells_placed, tells_none, tells_some, tells_left, tells_right, tells_both, tells_first, tells_second, tells_same, tells_more, says_many, says_none, says_one, says_joined}

delay_word : keyword_of (codes "DELAY") ≡ Some keyword.Delay
unfolding keyword_of
delay_word = refl

absolute_word : keyword_of (codes "ABSOLUTE") ≡ Some keyword.Absolute
unfolding keyword_of
absolute_word = refl

check_word : keyword_of (codes "TIMINGCHECK") ≡ Some keyword.TimingCheck
unfolding keyword_of
check_word = refl

cell_word : keyword_of (codes "CELL") ≡ Some keyword.Cell
unfolding keyword_of
cell_word = refl

cell_type_word : keyword_of (codes "CELLTYPE") ≡ Some keyword.CellType
unfolding keyword_of
cell_type_word = refl

instance_word : keyword_of (codes "INSTANCE") ≡ Some keyword.Instance
unfolding keyword_of
instance_word = refl

-- ---- parts

module _ (es : List Entry) (inner : List Meaning) (says : Says (many (entry true Slash)).language (map placeless.entry) es inner) where
  abbrev group_words : List Meaning
  group_words = word_token (codes "ABSOLUTE") ∷ inner

  abbrev IsAbsolute : GroupBody → Type 0
  IsAbsolute (absolute_body xs) = map placeless.entry xs ≡ es
  IsAbsolute (increment_body xs) = ⊥
  IsAbsolute (pulse_body p) = ⊥

  tells_group_body : Tells (group_body true Slash).language IsAbsolute group_words
  unfolding group_body_parts
  tells_group_body =
      tells_left (mapped absolute_body (word keyword.Absolute ▸ many (entry true Slash))).language (either (mapped increment_body (word keyword.Increment ▸ many (entry true Slash))) (mapped pulse_body (pulse Slash))).language IsAbsolute group_words
      (tells_image absolute_body (word keyword.Absolute ▸ many (entry true Slash)).language (λ xs. map placeless.entry xs ≡ es) IsAbsolute group_words
      (tells_second (word keyword.Absolute).language (many (entry true Slash)).language (λ u. Unit {0}) (λ xs. map placeless.entry xs ≡ es) (word_token (codes "ABSOLUTE") ∷ []) inner (tells_word keyword.Absolute (codes "ABSOLUTE") absolute_word) says)
      (λ xs p. p))

  group_is : (place : Place) (b : GroupBody) → IsAbsolute b → placeless.group (group_of place b) ≡ absolute es
  group_is place (absolute_body xs) h = ap (λ (ys : List Entry). absolute ys) h
  group_is place (increment_body xs) h = absurd h
  group_is place (pulse_body p) h = absurd h

  says_group : Says (group true Slash).language placeless.group (absolute es) (left_token ∷ (group_words ++ right_token ∷ []))
  unfolding group_parts
  says_group =
      tells_image (λ (x : Place × GroupBody). group_of x.0 x.1) (placed (mark is_left ▸ (group_body true Slash ◂ mark is_right))).language (λ x. IsAbsolute x.1) (λ g. placeless.group g ≡ absolute es) (left_token ∷ (group_words ++ right_token ∷ []))
      (tells_placed (mark is_left ▸ (group_body true Slash ◂ mark is_right)).language IsAbsolute left_token (group_words ++ right_token ∷ [])
      (tells_second (mark is_left).language (group_body true Slash ◂ mark is_right).language (λ u. Unit {0}) IsAbsolute (left_token ∷ []) (group_words ++ right_token ∷ []) (tells_mark is_left left_token refl)
      (tells_first (group_body true Slash).language (mark is_right).language IsAbsolute (λ u. Unit {0}) group_words (right_token ∷ []) tells_group_body (tells_mark is_right right_token refl))))
      (λ x p. group_is x.0 x.1 p)

-- what a part's body becomes, if it isn't passed over
abbrev BodyIs : Part → PartBody → Type 0
BodyIs p (delays_body gs) = delays (map placeless.group gs) ≡ p
BodyIs p (checks_body cs) = checks (map placeless.check cs) ≡ p
BodyIs p (skipped_body s) = ⊥

module _ (p : Part) (ms : List Meaning) where
  part_is : (place : Place) (b : PartBody) → BodyIs p b → placeless.part (part_of place b) ≡ p
  part_is place (delays_body gs) h = h
  part_is place (checks_body cs) h = h
  part_is place (skipped_body s) h = absurd h

  says_part : Tells (part_body true Slash).language (BodyIs p) ms → Says (part true Slash).language placeless.part p (left_token ∷ (ms ++ right_token ∷ []))
  unfolding part_parts
  says_part t =
      tells_image (λ (x : Place × PartBody). part_of x.0 x.1) (placed (mark is_left ▸ (part_body true Slash ◂ mark is_right))).language (λ x. BodyIs p x.1) (λ y. placeless.part y ≡ p) (left_token ∷ (ms ++ right_token ∷ []))
      (tells_placed (mark is_left ▸ (part_body true Slash ◂ mark is_right)).language (BodyIs p) left_token (ms ++ right_token ∷ [])
      (tells_second (mark is_left).language (part_body true Slash ◂ mark is_right).language (λ u. Unit {0}) (BodyIs p) (left_token ∷ []) (ms ++ right_token ∷ []) (tells_mark is_left left_token refl)
      (tells_first (part_body true Slash).language (mark is_right).language (BodyIs p) (λ u. Unit {0}) ms (right_token ∷ []) t (tells_mark is_right right_token refl))))
      (λ x h. part_is x.0 x.1 h)

abbrev delays_part : Grammar PartBody
delays_part = mapped delays_body (word keyword.Delay ▸ many (group true Slash))

abbrev checks_part : Grammar PartBody
checks_part = mapped checks_body (word keyword.TimingCheck ▸ many (check Slash))

abbrev skipped_part : Grammar PartBody
skipped_part = mapped skipped_body (token (λ t. names skipped_part_of skipped.Label t.meaning) is_skipped_part ◂ balanced)

module _ (es : List Entry) (inner : List Meaning) (says : Says (many (entry true Slash)).language (map placeless.entry) es inner) where
  abbrev the_group : List Meaning
  the_group = left_token ∷ word_token (codes "ABSOLUTE") ∷ (inner ++ right_token ∷ [])

  tells_delays : Tells (part_body true Slash).language (BodyIs (delays (absolute es ∷ []))) (word_token (codes "DELAY") ∷ the_group)
  unfolding part_body_parts
  tells_delays =
      tells_left delays_part.language (either checks_part skipped_part).language (BodyIs (delays (absolute es ∷ []))) (word_token (codes "DELAY") ∷ the_group)
      (tells_image delays_body (word keyword.Delay ▸ many (group true Slash)).language (λ gs. map placeless.group gs ≡ absolute es ∷ []) (BodyIs (delays (absolute es ∷ []))) (word_token (codes "DELAY") ∷ the_group)
      (tells_second (word keyword.Delay).language (many (group true Slash)).language (λ u. Unit {0}) (λ gs. map placeless.group gs ≡ absolute es ∷ []) (word_token (codes "DELAY") ∷ []) the_group (tells_word keyword.Delay (codes "DELAY") delay_word)
      (says_one (group true Slash).language placeless.group (absolute es) the_group (says_group es inner says)))
      (λ gs h. ap (λ (xs : List Group). delays xs) h))

  pub says_delays : Says (part true Slash).language placeless.part (delays (absolute es ∷ [])) (left_token ∷ word_token (codes "DELAY") ∷ left_token ∷ word_token (codes "ABSOLUTE") ∷ (inner ++ right_token ∷ right_token ∷ []))
  says_delays =
      tells_same (part true Slash).language (λ y. placeless.part y ≡ delays (absolute es ∷ [])) (left_token ∷ ((word_token (codes "DELAY") ∷ the_group) ++ right_token ∷ [])) (left_token ∷ word_token (codes "DELAY") ∷ left_token ∷ word_token (codes "ABSOLUTE") ∷ (inner ++ right_token ∷ right_token ∷ []))
      (ap (λ (xs : List Meaning). left_token ∷ word_token (codes "DELAY") ∷ left_token ∷ word_token (codes "ABSOLUTE") ∷ xs) (append_assoc inner (right_token ∷ []) (right_token ∷ [])))
      (says_part (delays (absolute es ∷ [])) (word_token (codes "DELAY") ∷ the_group) tells_delays)

module _ (cs : List Check) (inner : List Meaning) (says : Says (many (check Slash)).language (map placeless.check) cs inner) where
  tells_checks : Tells (part_body true Slash).language (BodyIs (checks cs)) (word_token (codes "TIMINGCHECK") ∷ inner)
  unfolding part_body_parts
  tells_checks =
      tells_right delays_part.language (either checks_part skipped_part).language (BodyIs (checks cs)) (word_token (codes "TIMINGCHECK") ∷ inner)
      (tells_left checks_part.language skipped_part.language (BodyIs (checks cs)) (word_token (codes "TIMINGCHECK") ∷ inner)
      (tells_image checks_body (word keyword.TimingCheck ▸ many (check Slash)).language (λ xs. map placeless.check xs ≡ cs) (BodyIs (checks cs)) (word_token (codes "TIMINGCHECK") ∷ inner)
      (tells_second (word keyword.TimingCheck).language (many (check Slash)).language (λ u. Unit {0}) (λ xs. map placeless.check xs ≡ cs) (word_token (codes "TIMINGCHECK") ∷ []) inner (tells_word keyword.TimingCheck (codes "TIMINGCHECK") check_word) says)
      (λ xs h. ap (λ (ys : List Check). checks ys) h)))

  pub says_checks : Says (part true Slash).language placeless.part (checks cs) (left_token ∷ word_token (codes "TIMINGCHECK") ∷ (inner ++ right_token ∷ []))
  says_checks = says_part (checks cs) (word_token (codes "TIMINGCHECK") ∷ inner) tells_checks

-- ---- the parts of a scope

says_around : {A : Type 0} (made : List A → Part) (es : List A) (first last inner : List Meaning) → Says (part true Slash).language placeless.part (made es) (first ++ (inner ++ last))
    → Says (many (part true Slash)).language (map placeless.part) (unless_empty made es) (around es first last inner)
says_around made [] first last inner says = says_none (part true Slash).language placeless.part
says_around made (e ∷ es) first last inner says = says_one (part true Slash).language placeless.part (made (e ∷ es)) (first ++ (inner ++ last)) says

pub record IsGoodScope (c : Circuit) (s : ℕ) : Type 0 where
  pub legs : AllByRecursion (IsGoodLeg (scope_at c s).variables) (entries.legs c s)
  pub paths : AllByRecursion (IsGoodPath (scope_at c s).variables) (entries.paths c s)
  pub checks : AllByRecursion (IsGoodCheck (scope_at c s).variables) (entries.checks c s)
  pub names : AllByRecursion (λ n. n ≢ []) (names_to c s)

pub each_of : {A : Type 0} (P Q : A → Type 0) → ((x : A) → P x → Q x) → (xs : List A) → AllByRecursion P xs → AllByRecursion Q xs
each_of P Q f [] h = tt
each_of P Q f (x ∷ xs) h = (f x h.0, each_of P Q f xs h.1)

module _ (c : Circuit) (s : ℕ) (good : IsGoodScope c s) where
  abbrev vs : List Variable
  vs = (scope_at c s).variables

  says_entries : Says (many (entry true Slash)).language (map placeless.entry) (delay_entries c s) (delays_meanings c s)
  says_entries =
      says_joined (entry true Slash).language placeless.entry (map (leg_entry vs) (entries.legs c s)) (map (path_entry vs) (entries.paths c s)) (flat_map (leg_meanings vs) (entries.legs c s)) (flat_map (path_meanings vs) (entries.paths c s))
      (says_many (entry true Slash).language placeless.entry (leg_entry vs) (leg_meanings vs) (entries.legs c s) (each_of (IsGoodLeg vs) _ (λ e h. says_leg vs e h) (entries.legs c s) good.legs))
      (says_many (entry true Slash).language placeless.entry (path_entry vs) (path_meanings vs) (entries.paths c s) (each_of (IsGoodPath vs) _ (λ e h. says_path vs e h) (entries.paths c s) good.paths))

  says_check_entries : Says (many (check Slash)).language (map placeless.check) (check_entries c s) (checks_meanings c s)
  says_check_entries = says_many (check Slash).language placeless.check (check_of vs) (check_meanings vs) (entries.checks c s) (each_of (IsGoodCheck vs) _ (λ e h. says_check_entry vs e h) (entries.checks c s) good.checks)

  pub says_parts : Says (many (part true Slash)).language (map placeless.part) (parts_of c s) (parts_meanings c s)
  says_parts =
      says_joined (part true Slash).language placeless.part (unless_empty (λ es. delays (absolute es ∷ [])) (delay_entries c s)) (unless_empty checks (check_entries c s))
      (around (delay_entries c s) (left_token ∷ word_token (codes "DELAY") ∷ left_token ∷ word_token (codes "ABSOLUTE") ∷ []) (right_token ∷ right_token ∷ []) (delays_meanings c s))
      (around (check_entries c s) (left_token ∷ word_token (codes "TIMINGCHECK") ∷ []) (right_token ∷ []) (checks_meanings c s))
      (says_around (λ es. delays (absolute es ∷ [])) (delay_entries c s) (left_token ∷ word_token (codes "DELAY") ∷ left_token ∷ word_token (codes "ABSOLUTE") ∷ []) (right_token ∷ right_token ∷ []) (delays_meanings c s) (says_delays (delay_entries c s) (delays_meanings c s) says_entries))
      (says_around checks (check_entries c s) (left_token ∷ word_token (codes "TIMINGCHECK") ∷ []) (right_token ∷ []) (checks_meanings c s) (says_checks (check_entries c s) (checks_meanings c s) says_check_entries))

-- ---- the head of a cell

pub tells_text : (inside : List ℕ) → Tells text.language (λ x. x ≡ inside) (text_token inside ∷ [])
unfolding text_parts
tells_text inside = tells_token (λ t. text_of t.meaning) is_text (λ x. x ≡ inside) (text_token inside) refl (λ t e. ap text_of e)

abbrev type_meanings : List ℕ → List Meaning
type_meanings inside = left_token ∷ word_token (codes "CELLTYPE") ∷ text_token inside ∷ right_token ∷ []

tells_type : (inside : List ℕ) → Tells cell_type.language (λ x. x ≡ inside) (type_meanings inside)
unfolding cell_type_parts
tells_type inside =
    tells_second (mark is_left).language (word keyword.CellType ▸ (text ◂ mark is_right)).language (λ u. Unit {0}) (λ x. x ≡ inside) (left_token ∷ []) (word_token (codes "CELLTYPE") ∷ text_token inside ∷ right_token ∷ []) (tells_mark is_left left_token refl)
    (tells_second (word keyword.CellType).language (text ◂ mark is_right).language (λ u. Unit {0}) (λ x. x ≡ inside) (word_token (codes "CELLTYPE") ∷ []) (text_token inside ∷ right_token ∷ []) (tells_word keyword.CellType (codes "CELLTYPE") cell_type_word)
    (tells_first text.language (mark is_right).language (λ x. x ≡ inside) (λ u. Unit {0}) (text_token inside ∷ []) (right_token ∷ []) (tells_text inside) (tells_mark is_right right_token refl)))

abbrev instance_words : List (List ℕ) → List Meaning
instance_words names = left_token ∷ word_token (codes "INSTANCE") ∷ (instance_meanings names ++ right_token ∷ [])

abbrev IsInstance : List (List ℕ) → Option Instance → Type 0
IsInstance names o = instance_or_top o ≡ instance_of names

abbrev path_there : Grammar (List ℕ)
path_there = token (λ t. word_text t.meaning) (is_instance Slash)

tells_there : (names : List (List ℕ)) → AllByRecursion (λ n. n ≢ []) names → Tells (optional (instance_there Slash)).language (IsInstance names) (instance_meanings names)
tells_there [] some = tells_more (optional (instance_there Slash)).language (λ o. o ≡ None) (IsInstance []) [] (tells_none (instance_there Slash).language) (λ o e. ap instance_or_top e)
tells_there (n ∷ ns) some =
    let path = names_text (n ∷ ns) in
    tells_some (instance_there Slash).language (λ x. x ≡ the_path path) (IsInstance (n ∷ ns)) (word_token path ∷ [])
    (tells_right (mapped (λ _. all_of_type) (mark is_star)).language (instance_path Slash).language (λ x. x ≡ the_path path) (word_token path ∷ [])
    (tells_image the_path (path_there ◂ optional (mark is_select)).language (λ x. x ≡ path) (λ x. x ≡ the_path path) (word_token path ∷ [])
    (tells_first path_there.language (optional (mark is_select)).language (λ x. x ≡ path) (λ o. o ≡ None) (word_token path ∷ []) []
    (tells_token (λ t. word_text t.meaning) (is_instance Slash) (λ x. x ≡ path) (word_token path) (names_are_path n ns some) (λ t e. ap word_text e)) (tells_none (mark is_select).language))
    (λ x e. ap (λ (p : List ℕ). the_path p) e)))
    (λ x e. e)

tells_instance : (names : List (List ℕ)) → AllByRecursion (λ n. n ≢ []) names → Tells (instance Slash).language (λ x. x ≡ instance_of names) (instance_words names)
unfolding instance_parts
tells_instance names some =
    tells_image instance_or_top (mark is_left ▸ (word keyword.Instance ▸ (optional (instance_there Slash) ◂ mark is_right))).language (IsInstance names) (λ x. x ≡ instance_of names) (instance_words names)
    (tells_second (mark is_left).language (word keyword.Instance ▸ (optional (instance_there Slash) ◂ mark is_right)).language (λ u. Unit {0}) (IsInstance names) (left_token ∷ []) (word_token (codes "INSTANCE") ∷ (instance_meanings names ++ right_token ∷ [])) (tells_mark is_left left_token refl)
    (tells_second (word keyword.Instance).language (optional (instance_there Slash) ◂ mark is_right).language (λ u. Unit {0}) (IsInstance names) (word_token (codes "INSTANCE") ∷ []) (instance_meanings names ++ right_token ∷ []) (tells_word keyword.Instance (codes "INSTANCE") instance_word)
    (tells_first (optional (instance_there Slash)).language (mark is_right).language (IsInstance names) (λ u. Unit {0}) (instance_meanings names) (right_token ∷ []) (tells_there names some) (tells_mark is_right right_token refl))))
    (λ o e. e)

-- ---- cells

module _ (inside : List ℕ) (names : List (List ℕ)) (some : AllByRecursion (λ n. n ≢ []) names) (ps : List Part) (inner : List Meaning) (says : Says (many (part true Slash)).language (map placeless.part) ps inner) where
  abbrev pub made_cell : Cell
  made_cell = record { cell_type = inside; instance = instance_of names; parts = ps }

  abbrev pub cell_words : List Meaning
  cell_words = word_token (codes "CELL") ∷ (type_meanings inside ++ (instance_words names ++ inner))

  abbrev IsCell : List ℕ × (Instance × List Part) → Type 0
  IsCell x = (x.0 ≡ inside) × ((x.1.0 ≡ instance_of names) × (map placeless.part x.1.1 ≡ ps))

  cell_is : (x : List ℕ × (Instance × List Part)) → IsCell x → (let y : Cell = record { cell_type = x.0; instance = x.1.0; parts = x.1.1 } in placeless.cell y) ≡ made_cell
  cell_is x p =
      ap (λ (t : List ℕ). let y : Cell = record { cell_type = t; instance = x.1.0; parts = map placeless.part x.1.1 } in y) p.0
      ∙ (ap (λ (n : Instance). let y : Cell = record { cell_type = inside; instance = n; parts = map placeless.part x.1.1 } in y) p.1.0 ∙ ap (λ (qs : List Part). let y : Cell = record { cell_type = inside; instance = instance_of names; parts = qs } in y) p.1.1)

  pub says_cell : Says (cell true Slash).language placeless.cell made_cell cell_words
  unfolding cell_parts
  says_cell =
      tells_image (λ (x : List ℕ × (Instance × List Part)). let y : Cell = record { cell_type = x.0; instance = x.1.0; parts = x.1.1 } in y) (word keyword.Cell ▸ (cell_type ∙∙ (instance Slash ∙∙ many (part true Slash)))).language IsCell (λ y. placeless.cell y ≡ made_cell) cell_words
      (tells_second (word keyword.Cell).language (cell_type ∙∙ (instance Slash ∙∙ many (part true Slash))).language (λ u. Unit {0}) IsCell (word_token (codes "CELL") ∷ []) (type_meanings inside ++ (instance_words names ++ inner)) (tells_word keyword.Cell (codes "CELL") cell_word)
      (tells_both cell_type.language (instance Slash ∙∙ many (part true Slash)).language (λ x. x ≡ inside) (λ x. (x.0 ≡ instance_of names) × (map placeless.part x.1 ≡ ps)) (type_meanings inside) (instance_words names ++ inner) (tells_type inside)
      (tells_both (instance Slash).language (many (part true Slash)).language (λ x. x ≡ instance_of names) (λ xs. map placeless.part xs ≡ ps) (instance_words names) inner (tells_instance names some) says)))
      cell_is
