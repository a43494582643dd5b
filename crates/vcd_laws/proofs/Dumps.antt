-- Lines that are read one after another spell a dump.
use Rattle.std.specs.Prelude.{◌≡◌, ℕ, suc, ◌+◌, true, List, [], ◌∷◌, ◌++◌, length, map, codes, Some, refl}
use Rattle.std.specs.List.{AllByRecursion}
use Rattle.std.proofs.Common.{sym, ◌∙◌, ap, subst, arith}
use Rattle.std.proofs.lemmas.List.{length-append}
use Rattle.grammar.specs.Language.{SpellsMany}
use Rattle.grammar.specs.Rule as rule
use Rattle.grammar.specs.Rule.{◌∙∙◌, ◌▸◌, mapped}
use Rattle.grammar.specs.States.{SpellsBy}
use Rattle.vcd_form.specs.Kinds.{is_definitions, is_end, kind_of}
use Rattle.vcd_form.specs.Rules.{Came, body, body_parts, came_after, came_first, dump, header, item, mark, placed, section_of, start, start_parts}
use Rattle.vcd_form.specs.Words.{Word}
use Rattle.vcd_form.specs.Written.{Item, Section, declares, enters, leaves, remark, timescale}
use Rattle.vcd_laws.proofs.Entries.{Entry, definitions_words, said, words_of}
use Rattle.vcd_laws.proofs.Fronts.{IsWhole}
use Rattle.vcd_laws.proofs.ReadLines.{ReadsItem, ReadsSection, may_come, plain}
use Rattle.vcd_laws.proofs.Stands.{Stand, spell_both, spell_mapped, spell_mark, spell_placed, spell_right, stand_first, stand_rest}
use Rattle.vcd_laws.proofs.Waves.{unplaced}

-- each section may come behind those before it
abbrev pub MayAll : Came → List Section → Type 0
MayAll came [] = Unit {0}
MayAll came (s ∷ ss) = (may_come came s ≡ true) × MayAll (came_after came s) ss

-- what comes behind doesn't see places
pub came_plain : (came : Came) (s : Section) → came_after came (plain s) ≡ came_after came s
came_plain came remark = refl
came_plain came (timescale p) = refl
came_plain came (enters n) = refl
came_plain came leaves = refl
came_plain came (declares d) = refl

pub record SpellsSections (ws : List Word) (came : Came) (i j : ℕ) (ss : List Section) : Type 0 where
  pub sections : List Section
  pub are : map plain sections ≡ ss
  pub spells : SpellsBy (λ (s : Came). (section_of s).language) came_after ws came i sections j

pub spell_sections : (es : List (Entry Section)) (ws : List Word) (came : Came) (i : ℕ) → AllByRecursion (λ (e : Entry Section). ReadsSection e.words e.says) es → MayAll came (said es) → Stand ws i (words_of es)
    → SpellsSections ws came i (i + length (words_of es)) (said es)
spell_sections [] ws came i reads may h = record { sections = []; are = refl; spells = (let q : i + 0 ≡ i = omega arith in q) }
spell_sections (e ∷ es) ws came i reads may h =
    let one = reads.0.each ws i (stand_first ws i e.words (words_of es) h) in
    let state : came_after came e.says ≡ came_after came one.section = ap (came_after came) (sym one.is) ∙ came_plain came one.section in
    let rest = spell_sections es ws (came_after came e.says) (i + length e.words) reads.1 may.1 (stand_rest ws i e.words (words_of es) h) in
    let many : i + length e.words + length (words_of es) ≡ i + length (e.words ++ words_of es) = add_lengths i e.words (words_of es) in
    record {
      sections = one.section ∷ rest.sections;
      are = ap (λ s. s ∷ map plain rest.sections) one.is ∙ ap (λ ss. e.says ∷ ss) rest.are;
      spells = (
        i + length e.words,
        one.spells came may.0,
        subst (λ n. SpellsBy (λ (s : Came). (section_of s).language) came_after ws (came_after came one.section) (i + length e.words) rest.sections n) many
            (subst (λ c. SpellsBy (λ (s : Came). (section_of s).language) came_after ws c (i + length e.words) rest.sections (i + length e.words + length (words_of es))) state rest.spells),
      );
    }
  where
    add_lengths : (k : ℕ) (xs ys : List (List ℕ)) → k + length xs + length ys ≡ k + length (xs ++ ys)
    add_lengths k xs ys = (let q : length (xs ++ ys) ≡ length xs + length ys = length-append xs ys in omega arith)

pub record SpellsItems (ws : List Word) (i j : ℕ) (xs : List Item) : Type 0 where
  pub items : List Item
  pub are : map unplaced items ≡ xs
  pub spells : SpellsMany item.language ws i items j

pub spell_items : (es : List (Entry Item)) (ws : List Word) (i : ℕ) → AllByRecursion (λ (e : Entry Item). ReadsItem e.words e.says) es → Stand ws i (words_of es) → SpellsItems ws i (i + length (words_of es)) (said es)
spell_items [] ws i reads h = record { items = []; are = refl; spells = (let q : i + 0 ≡ i = omega arith in q) }
spell_items (e ∷ es) ws i reads h =
    let one = reads.0.each ws i (stand_first ws i e.words (words_of es) h) in
    let rest = spell_items es ws (i + length e.words) reads.1 (stand_rest ws i e.words (words_of es) h) in
    let many : i + length e.words + length (words_of es) ≡ i + length (e.words ++ words_of es) = add_lengths i e.words (words_of es) in
    record {
      items = one.item_there ∷ rest.items;
      are = ap (λ s. s ∷ map unplaced rest.items) one.is ∙ ap (λ ss. e.says ∷ ss) rest.are;
      spells = (i + length e.words, one.spells, subst (SpellsMany item.language ws (i + length e.words) rest.items) many rest.spells);
    }
  where
    add_lengths : (k : ℕ) (xs ys : List (List ℕ)) → k + length xs + length ys ≡ k + length (xs ++ ys)
    add_lengths k xs ys = (let q : length (xs ++ ys) ≡ length xs + length ys = length-append xs ys in omega arith)

-- ---- a dump

pub record SpellsDump (ws : List Word) (ss : List Section) (xs : List Item) : Type 0 where
  pub sections : List Section
  pub sections_are : map plain sections ≡ ss
  pub definitions : ℕ
  pub items : List Item
  pub items_are : map unplaced items ≡ xs
  pub spells : dump.language.Spells ws 0 (record { sections = sections; body = Some (definitions, items) }) (length ws)
  pub whole : IsWhole ws sections definitions items

spell_start : (ws : List Word) (i : ℕ) (h : Stand ws i definitions_words) → start.language.Spells ws i h.0.0 (i + 2)
unfolding start_parts
spell_start ws i h =
    spell_mapped (λ (x : ℕ × Unit {0}). x.0) (placed (mark is_definitions ▸ mark is_end)) ws i (i + 2) (h.0.0, tt)
    (spell_placed (mark is_definitions ▸ mark is_end) ws i (i + 2) tt (codes "$enddefinitions") h.0
    (subst (λ m. (mark is_definitions ▸ mark is_end).language.Spells ws i tt m) (let q : i + 1 + 1 ≡ i + 2 = omega arith in q)
    (spell_right (mark is_definitions) (mark is_end) ws i (i + 1) (i + 1 + 1) tt tt (spell_mark is_definitions ws i (codes "$enddefinitions") h.0 refl) (spell_mark is_end ws (i + 1) (codes "$end") h.1.0 refl))))

pub spell_dump : (hs : List (Entry Section)) (bs : List (Entry Item)) (ws : List Word) → map (λ (w : Word). w.bytes) ws ≡ words_of hs ++ (definitions_words ++ words_of bs)
    → AllByRecursion (λ (e : Entry Section). ReadsSection e.words e.says) hs → MayAll came_first (said hs) → AllByRecursion (λ (e : Entry Item). ReadsItem e.words e.says) bs → Stand ws 0 (words_of hs ++ (definitions_words ++ words_of bs))
    → SpellsDump ws (said hs) (said bs)
unfolding body_parts
spell_dump hs bs ws are reads may reads' h =
    let n : ℕ = 0 + length (words_of hs) in
    let behind : Stand ws n (definitions_words ++ words_of bs) = stand_rest ws 0 (words_of hs) (definitions_words ++ words_of bs) h in
    let first = spell_sections hs ws came_first 0 reads may (stand_first ws 0 (words_of hs) (definitions_words ++ words_of bs) h) in
    let defs : Stand ws n definitions_words = stand_first ws n definitions_words (words_of bs) behind in
    let rest = spell_items bs ws (n + 2) reads' (stand_rest ws n definitions_words (words_of bs) behind) in
    let last : n + 2 + length (words_of bs) ≡ length ws = whole in
    record {
      sections = first.sections;
      sections_are = first.are;
      definitions = defs.0.0;
      items = rest.items;
      items_are = rest.are;
      spells = spell_mapped (λ (x : List Section × (ℕ × List Item)). record { sections = x.0; body = Some x.1 }) (header ∙∙ body) ws 0 (length ws) (first.sections, (defs.0.0, rest.items))
          (spell_both header body ws 0 n (length ws) first.sections (defs.0.0, rest.items) (first.spells, refl)
          (spell_both start (rule.many kind_of item) ws n (n + 2) (length ws) defs.0.0 rest.items (spell_start ws n defs) (subst (SpellsMany item.language ws (n + 2) rest.items) last rest.spells)));
      whole = record { at = n; behind = n + 2; sections = first.spells; start_there = spell_start ws n defs; items_there = subst (SpellsMany item.language ws (n + 2) rest.items) last rest.spells };
    }
  where
    bytes_many : (us : List Word) → length (map (λ (w : Word). w.bytes) us) ≡ length us
    bytes_many [] = refl
    bytes_many (u ∷ us) = ap suc (bytes_many us)

    whole : 0 + length (words_of hs) + 2 + length (words_of bs) ≡ length ws
    whole =
        (let a : length (words_of hs ++ (definitions_words ++ words_of bs)) ≡ length (words_of hs) + length (definitions_words ++ words_of bs) = length-append (words_of hs) (definitions_words ++ words_of bs) in
        let b : length (definitions_words ++ words_of bs) ≡ suc (suc (length (words_of bs))) = refl in
        let c : length ws ≡ length (words_of hs ++ (definitions_words ++ words_of bs)) = sym (bytes_many ws) ∙ ap length are in
        omega arith)
