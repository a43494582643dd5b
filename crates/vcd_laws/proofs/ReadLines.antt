-- Lines of a dump spell their sections and items.
use Rattle.std.specs.Prelude.{◌≡◌, ◌≢◌, ℕ, ℤ, pos, ◌-ℤ◌, ◌+ℤ◌, suc, ◌+◌, ◌<◌, ◌/◌, ◌%◌, ◌&&◌, not, nat_lt, Bool, true, false, List, [], ◌∷◌, length, map, codes, bytes_eq, Option, Some, None, refl}
use Rattle.std.specs.List.{list_all}
use Rattle.std.specs.Ordering.{int_eq}
use Rattle.std.proofs.Common.{sym, ◌∙◌, ap, subst, arith, inl, inr}
use Rattle.std.proofs.lemmas.Bool.{agree_below_at, and_from, and_parts, lt-ltb}
use Rattle.std.proofs.lemmas.Bool.Decides.{Decides-int_eq}
use Rattle.grammar.specs.Rule as rule
use Rattle.grammar.specs.Rule.{◌∙∙◌, ◌▸◌, ◌◂◌, mapped, only_if}
use Rattle.sg_time.specs.Spelling.{number_from}
use Rattle.sg_logic.specs.declared.values.Value.{Value}
use Rattle.sg_logic.specs.declared.values.Value.TheVariants.{Zero, One, X, Z}
use Rattle.wave_out.specs.Vcd.{number_of, unit_of, value_letter}
use Rattle.vcd_form.specs.Kinds.{is_any, is_code, is_code_text, is_end, is_idle, is_range, is_remark, is_scalar, is_scale, is_scope, is_time, is_timescale, is_time_text, is_unit, is_upscope, is_value_byte, is_var, is_vector, is_width, kind_of, kind_of_text, scale_power, unit_power}
use Rattle.vcd_form.specs.Rules.{Came, Grammar, behind_first, declaration_of, head_of, item, item_parts, mark, number_of as number_word, placed, power, power_of, power_parts, range_rest, remark_of, remark_parts, remark_rest, scope_parts, scope_rest, scope_section, section_of, section_parts, text, timescale_parts, timescale_rest, timescale_section, upscope_parts, upscope_section, variable_parts, variable_rest, variable_section, vector_of, width}
use Rattle.vcd_form.specs.Words.{Word}
use Rattle.vcd_form.specs.Written.{Item, Section, declares, enters, instant, leaves, nothing, remark, timescale, value}
use Rattle.vcd_laws.proofs.Stands.{At, Stand, spell_both, spell_left, spell_mapped, spell_mark, spell_marks, spell_placed, spell_right, spell_text, spell_token}
use Rattle.vcd_laws.proofs.Waves.{unplaced}
use Rattle.vcd_laws.proofs.WordKinds.{any_word, scalar_word, time_word, vector_word}

-- ---- sections

-- a section without its place
abbrev pub plain : Section → Section
plain remark = remark
plain (timescale p) = timescale p
plain (enters n) = enters n
plain leaves = leaves
plain (declares d) = declares (record { byte = 0; width = d.width; code = d.code; name = d.name; range = d.range })

-- it may come behind what came
abbrev pub may_come : Came → Section → Bool
may_come came remark = true
may_come came (timescale p) = not came.scaled
may_come came (enters n) = true
may_come came leaves = nat_lt 0 came.depth
may_come came (declares d) = true

pub record SpellsSection (ws : List Word) (i : ℕ) (ps : List (List ℕ)) (s : Section) : Type 0 where
  pub section : Section
  pub is : plain section ≡ s
  pub spells : (came : Came) → may_come came s ≡ true → (section_of came).language.Spells ws i section (i + length ps)

-- these words spell this section, wherever they stand
pub record ReadsSection (ps : List (List ℕ)) (s : Section) : Type 0 where
  pub each : (ws : List Word) (i : ℕ) → Stand ws i ps → SpellsSection ws i ps s

pub reads_version : ReadsSection (codes "$version" ∷ codes "signoff" ∷ codes "1" ∷ codes "$end" ∷ []) remark
unfolding section_parts remark_parts remark_rest
reads_version = record {
  each = λ ws i h. record {
    section = remark;
    is = refl;
    spells = λ came may. inl (subst (λ n. (mapped (λ u. remark) (remark_of is_remark)).language.Spells ws i remark n) (let q : i + 1 + 2 + 1 ≡ i + 4 = omega arith in q)
        (spell_mapped (λ u. remark) (remark_of is_remark) ws i (i + 1 + 2 + 1) tt
        (spell_right (mark is_remark) remark_rest ws i (i + 1) (i + 1 + 2 + 1) tt tt (spell_mark is_remark ws i (codes "$version") h.0 refl)
        (spell_mapped (λ x. tt) (rule.many kind_of (mark is_any) ◂ mark is_end) ws (i + 1) (i + 1 + 2 + 1) (tt ∷ tt ∷ [])
        (spell_left (rule.many kind_of (mark is_any)) (mark is_end) ws (i + 1) (i + 1 + 2) (i + 1 + 2 + 1) (tt ∷ tt ∷ []) tt
        (spell_marks is_any ws (i + 1) (codes "signoff" ∷ codes "1" ∷ []) (h.1.0, (h.1.1.0, tt)) (refl, (refl, tt)))
        (spell_mark is_end ws (i + 1 + 2) (codes "$end") (subst (λ n. At ws n (codes "$end")) (let q : i + 1 + 1 + 1 ≡ i + 1 + 2 = omega arith in q) h.1.1.1.0) refl))))));
  };
}

-- a rule whose side condition holds
spell_if : {A : Type 0} (b : Bool) (a : Grammar A) (ws : List Word) (i j : ℕ) (x : A) → b ≡ true → a.language.Spells ws i x j → (only_if b a).language.Spells ws i x j
spell_if b a ws i j x e p = subst (λ c. (only_if c a).language.Spells ws i x j) (sym e) p

-- the tick, by the number of powers of ten that it is below 100 s
abbrev scale_test : ℕ → Bool
scale_test n =
    is_scale (kind_of_text (number_of (n % 3))) && (is_unit (kind_of_text (unit_of (n / 3)))
    && int_eq (power_of (scale_power (number_of (n % 3))) +ℤ power_of (unit_power (unit_of (n / 3)))) (pos 2 -ℤ pos n))

scales : (n : ℕ) → n < 18 → scale_test n ≡ true
scales n l = agree_below_at scale_test (λ m. true) 18 n refl l

pub reads_timescale : (n : ℕ) → n < 18 → ReadsSection (codes "$timescale" ∷ number_of (n % 3) ∷ unit_of (n / 3) ∷ codes "$end" ∷ []) (timescale (pos 2 -ℤ pos n))
unfolding section_parts timescale_parts power_parts
reads_timescale n l = record { each = λ ws i h. record { section = timescale sum; is = ap timescale sum_is; spells = λ came may. inr (inl (spell_if (not came.scaled) (mapped timescale timescale_section) ws i (i + 4) (timescale sum) may (spelled ws i h))) } }
  where
    first : (is_scale (kind_of_text (number_of (n % 3))) ≡ true) × ((is_unit (kind_of_text (unit_of (n / 3))) && int_eq (power_of (scale_power (number_of (n % 3))) +ℤ power_of (unit_power (unit_of (n / 3)))) (pos 2 -ℤ pos n)) ≡ true)
    first = and_parts (is_scale (kind_of_text (number_of (n % 3)))) _ (scales n l)

    second : (is_unit (kind_of_text (unit_of (n / 3))) ≡ true) × (int_eq (power_of (scale_power (number_of (n % 3))) +ℤ power_of (unit_power (unit_of (n / 3)))) (pos 2 -ℤ pos n) ≡ true)
    second = and_parts (is_unit (kind_of_text (unit_of (n / 3)))) _ first.1

    sum : ℤ
    sum = power_of (scale_power (number_of (n % 3))) +ℤ power_of (unit_power (unit_of (n / 3)))

    sum_is : sum ≡ pos 2 -ℤ pos n
    sum_is = (Decides-int_eq sum (pos 2 -ℤ pos n)).0 second.1

    spelled : (ws : List Word) (i : ℕ) → Stand ws i (codes "$timescale" ∷ number_of (n % 3) ∷ unit_of (n / 3) ∷ codes "$end" ∷ []) → (mapped timescale timescale_section).language.Spells ws i (timescale sum) (i + 4)
    spelled ws i h = subst (λ m. (mapped timescale timescale_section).language.Spells ws i (timescale sum) m) (let q : i + 1 + 1 + 1 + 1 ≡ i + 4 = omega arith in q)
        (spell_mapped timescale timescale_section ws i (i + 1 + 1 + 1 + 1) sum
        (spell_right (mark is_timescale) timescale_rest ws i (i + 1) (i + 1 + 1 + 1 + 1) tt sum (spell_mark is_timescale ws i (codes "$timescale") h.0 refl)
        (spell_left power (mark is_end) ws (i + 1) (i + 1 + 1 + 1) (i + 1 + 1 + 1 + 1) sum tt
        (inr (spell_mapped (λ (x : ℤ × ℤ). x.0 +ℤ x.1) (number_word scale_power is_scale ∙∙ number_word unit_power is_unit) ws (i + 1) (i + 1 + 1 + 1) (power_of (scale_power (number_of (n % 3))), power_of (unit_power (unit_of (n / 3))))
        (spell_both (number_word scale_power is_scale) (number_word unit_power is_unit) ws (i + 1) (i + 1 + 1) (i + 1 + 1 + 1) (power_of (scale_power (number_of (n % 3)))) (power_of (unit_power (unit_of (n / 3))))
        (spell_token (λ w. power_of (scale_power w.bytes)) is_scale ws (i + 1) (number_of (n % 3)) h.1.0 first.0) (spell_token (λ w. power_of (unit_power w.bytes)) is_unit ws (i + 1 + 1) (unit_of (n / 3)) h.1.1.0 second.0))))
        (spell_mark is_end ws (i + 1 + 1 + 1) (codes "$end") h.1.1.1.0 refl))))

pub reads_scope : (name : List ℕ) → bytes_eq name (codes "$end") ≡ false → ReadsSection (codes "$scope" ∷ codes "module" ∷ name ∷ codes "$end" ∷ []) (enters name)
unfolding section_parts scope_parts
reads_scope name n = record {
  each = λ ws i h. record {
    section = enters name;
    is = refl;
    spells = λ came may. inr (inr (inl (subst (λ m. (mapped enters scope_section).language.Spells ws i (enters name) m) (let q : i + 1 + 1 + 1 + 1 ≡ i + 4 = omega arith in q)
        (spell_mapped enters scope_section ws i (i + 1 + 1 + 1 + 1) name
        (spell_right (mark is_scope) scope_rest ws i (i + 1) (i + 1 + 1 + 1 + 1) tt name (spell_mark is_scope ws i (codes "$scope") h.0 refl)
        (spell_right (mark is_any) (text is_any ◂ mark is_end) ws (i + 1) (i + 1 + 1) (i + 1 + 1 + 1 + 1) tt name (spell_mark is_any ws (i + 1) (codes "module") h.1.0 refl)
        (spell_left (text is_any) (mark is_end) ws (i + 1 + 1) (i + 1 + 1 + 1) (i + 1 + 1 + 1 + 1) name tt (spell_text is_any ws (i + 1 + 1) name h.1.1.0 (any_word name n))
        (spell_mark is_end ws (i + 1 + 1 + 1) (codes "$end") h.1.1.1.0 refl))))))));
  };
}

pub reads_upscope : ReadsSection (codes "$upscope" ∷ codes "$end" ∷ []) leaves
unfolding section_parts upscope_parts
reads_upscope = record {
  each = λ ws i h. record {
    section = leaves;
    is = refl;
    spells = λ came may. inr (inr (inr (inl (spell_if (nat_lt 0 came.depth) (mapped (λ u. leaves) upscope_section) ws i (i + 2) leaves may
        (subst (λ m. (mapped (λ u. leaves) upscope_section).language.Spells ws i leaves m) (let q : i + 1 + 1 ≡ i + 2 = omega arith in q)
        (spell_mapped (λ u. leaves) upscope_section ws i (i + 1 + 1) tt
        (spell_right (mark is_upscope) (mark is_end) ws i (i + 1) (i + 1 + 1) tt tt (spell_mark is_upscope ws i (codes "$upscope") h.0 refl) (spell_mark is_end ws (i + 1) (codes "$end") h.1.0 refl))))))));
  };
}

-- what stands behind a variable's name
abbrev pub range_tail : Option (List ℕ) → List (List ℕ)
range_tail None = codes "$end" ∷ []
range_tail (Some r) = r ∷ codes "$end" ∷ []

abbrev pub IsRangeWord : Option (List ℕ) → Type 0
IsRangeWord None = Unit {0}
IsRangeWord (Some r) = is_range (kind_of_text r) ≡ true

spell_range : (range : Option (List ℕ)) (ws : List Word) (i : ℕ) → IsRangeWord range → Stand ws i (range_tail range) → range_rest.language.Spells ws i range (i + length (range_tail range))
spell_range None ws i r h = spell_left (rule.optional kind_of (text is_range)) (mark is_end) ws i i (i + 1) None tt refl (spell_mark is_end ws i (codes "$end") h.0 refl)
spell_range (Some w) ws i r h =
    subst (λ m. range_rest.language.Spells ws i (Some w) m) (let q : i + 1 + 1 ≡ i + 2 = omega arith in q)
    (spell_left (rule.optional kind_of (text is_range)) (mark is_end) ws i (i + 1) (i + 1 + 1) (Some w) tt (spell_text is_range ws i w h.0 r) (spell_mark is_end ws (i + 1) (codes "$end") h.1.0 refl))

pub reads_variable : (kind width_word code name : List ℕ) (range : Option (List ℕ)) → is_any (kind_of_text kind) ≡ true → is_width (kind_of_text width_word) ≡ true → is_code (kind_of_text code) ≡ true → is_any (kind_of_text name) ≡ true → IsRangeWord range
    → ReadsSection (codes "$var" ∷ kind ∷ width_word ∷ code ∷ name ∷ range_tail range) (declares (record { byte = 0; width = number_from 0 width_word; code = code; name = name; range = range }))
unfolding section_parts variable_parts
reads_variable kind width_word code name range k w c n r = record {
  each = λ ws i h. record {
    section = declares (record { byte = h.0.0; width = number_from 0 width_word; code = code; name = name; range = range });
    is = refl;
    spells = λ came may. inr (inr (inr (inr (spell_mapped declares variable_section ws i (i + length (codes "$var" ∷ kind ∷ width_word ∷ code ∷ name ∷ range_tail range)) (declaration_of (h.0.0, tail))
        (spell_mapped declaration_of (placed (mark is_var ▸ variable_rest)) ws i (i + length (codes "$var" ∷ kind ∷ width_word ∷ code ∷ name ∷ range_tail range)) (h.0.0, tail)
        (spell_placed (mark is_var ▸ variable_rest) ws i (i + length (codes "$var" ∷ kind ∷ width_word ∷ code ∷ name ∷ range_tail range)) tail (codes "$var") h.0 (spelled ws i h)))))));
  };
}
  where
    tail : ℕ × (List ℕ × (List ℕ × Option (List ℕ)))
    tail = (number_from 0 width_word, (code, (name, range)))

    many : ℕ → ℕ
    many i = i + 1 + 1 + 1 + 1 + 1 + length (range_tail range)

    spelled : (ws : List Word) (i : ℕ) → Stand ws i (codes "$var" ∷ kind ∷ width_word ∷ code ∷ name ∷ range_tail range)
        → (mark is_var ▸ variable_rest).language.Spells ws i tail (i + length (codes "$var" ∷ kind ∷ width_word ∷ code ∷ name ∷ range_tail range))
    spelled ws i h = subst (λ m. (mark is_var ▸ variable_rest).language.Spells ws i tail m) (let q : i + 1 + 1 + 1 + 1 + 1 + length (range_tail range) ≡ i + suc (suc (suc (suc (suc (length (range_tail range)))))) = omega arith in q)
        (spell_right (mark is_var) variable_rest ws i (i + 1) (i + 1 + 1 + 1 + 1 + 1 + length (range_tail range)) tt tail (spell_mark is_var ws i (codes "$var") h.0 refl)
        (spell_right (mark is_any) (width ∙∙ (text is_code ∙∙ (text is_any ∙∙ range_rest))) ws (i + 1) (i + 1 + 1) (i + 1 + 1 + 1 + 1 + 1 + length (range_tail range)) tt tail (spell_mark is_any ws (i + 1) kind h.1.0 k)
        (spell_both width (text is_code ∙∙ (text is_any ∙∙ range_rest)) ws (i + 1 + 1) (i + 1 + 1 + 1) (i + 1 + 1 + 1 + 1 + 1 + length (range_tail range)) (number_from 0 width_word) (code, (name, range))
        (spell_token (λ (x : Word). number_from 0 x.bytes) is_width ws (i + 1 + 1) width_word h.1.1.0 w)
        (spell_both (text is_code) (text is_any ∙∙ range_rest) ws (i + 1 + 1 + 1) (i + 1 + 1 + 1 + 1) (i + 1 + 1 + 1 + 1 + 1 + length (range_tail range)) code (name, range) (spell_text is_code ws (i + 1 + 1 + 1) code h.1.1.1.0 c)
        (spell_both (text is_any) range_rest ws (i + 1 + 1 + 1 + 1) (i + 1 + 1 + 1 + 1 + 1) (i + 1 + 1 + 1 + 1 + 1 + length (range_tail range)) name range (spell_text is_any ws (i + 1 + 1 + 1 + 1) name h.1.1.1.1.0 n)
        (spell_range range ws (i + 1 + 1 + 1 + 1 + 1) r h.1.1.1.1.1))))))

-- ---- items

pub record SpellsItem (ws : List Word) (i : ℕ) (ps : List (List ℕ)) (x : Item) : Type 0 where
  pub item_there : Item
  pub is : unplaced item_there ≡ x
  pub spells : item.language.Spells ws i item_there (i + length ps)

pub record ReadsItem (ps : List (List ℕ)) (x : Item) : Type 0 where
  pub each : (ws : List Word) (i : ℕ) → Stand ws i ps → SpellsItem ws i ps x

pub reads_time : (digits : List ℕ) → is_time_text (35 ∷ digits) ≡ true → ReadsItem ((35 ∷ digits) ∷ []) (instant 0 digits)
unfolding item_parts
reads_time digits d = record {
  each = λ ws i h. record {
    item_there = instant h.0.0 digits;
    is = refl;
    spells = inl (spell_token (λ w. instant w.byte (behind_first w.bytes)) is_time ws i (35 ∷ digits) h.0 (ap is_time (time_word digits d)));
  };
}

pub reads_idle : (p : List ℕ) → is_idle (kind_of_text p) ≡ true → ReadsItem (p ∷ []) nothing
unfolding item_parts
reads_idle p k = record { each = λ ws i h. record { item_there = nothing; is = refl; spells = inr (inr (inl (spell_token (λ w. nothing) is_idle ws i p h.0 k))) } }

letter_value : (v : Value) → is_value_byte (value_letter v) ≡ true
letter_value Zero = refl
letter_value One = refl
letter_value X = refl
letter_value Z = refl

letter_plain : (v : Value) → (value_letter v ≢ 36) × (value_letter v ≢ 35)
letter_plain Zero = ((λ e. (let q : 48 ≡ 36 = e in absurd (omega arith))), (λ e. (let q : 48 ≡ 35 = e in absurd (omega arith))))
letter_plain One = ((λ e. (let q : 49 ≡ 36 = e in absurd (omega arith))), (λ e. (let q : 49 ≡ 35 = e in absurd (omega arith))))
letter_plain X = ((λ e. (let q : 120 ≡ 36 = e in absurd (omega arith))), (λ e. (let q : 120 ≡ 35 = e in absurd (omega arith))))
letter_plain Z = ((λ e. (let q : 122 ≡ 36 = e in absurd (omega arith))), (λ e. (let q : 122 ≡ 35 = e in absurd (omega arith))))

letters_values : (vs : List Value) → list_all is_value_byte (map value_letter vs) ≡ true
letters_values [] = refl
letters_values (v ∷ vs) = ap (λ b. b && list_all is_value_byte (map value_letter vs)) (letter_value v) ∙ letters_values vs

pub reads_scalar : (v : Value) (code : List ℕ) → is_code_text code ≡ true → ReadsItem ((value_letter v ∷ code) ∷ []) (value 0 0 (value_letter v ∷ []) code)
unfolding item_parts
reads_scalar v code c = record {
  each = λ ws i h. record {
    item_there = value h.0.0 h.0.0 (value_letter v ∷ []) code;
    is = refl;
    spells = inr (inr (inr (inl (spell_token (λ w. value w.byte w.byte (head_of w.bytes) (behind_first w.bytes)) is_scalar ws i (value_letter v ∷ code) h.0
        (ap is_scalar (scalar_word (value_letter v) code (letter_plain v).0 (letter_plain v).1 (ap (λ b. b && is_code_text code) (letter_value v) ∙ c)))))));
  };
}

pub reads_vector : (v : Value) (vs : List Value) (code : List ℕ) → is_code (kind_of_text code) ≡ true → ReadsItem ((98 ∷ map value_letter (v ∷ vs)) ∷ code ∷ []) (value 0 0 (map value_letter (v ∷ vs)) code)
unfolding item_parts
reads_vector v vs code c = record {
  each = λ ws i h. record {
    item_there = value h.0.0 h.1.0.0 (map value_letter (v ∷ vs)) code;
    is = refl;
    spells = inr (inr (inr (inr (inl (subst (λ m. (mapped vector_of (placed (text is_vector) ∙∙ placed (text is_code))).language.Spells ws i (value h.0.0 h.1.0.0 (map value_letter (v ∷ vs)) code) m) (let q : i + 1 + 1 ≡ i + 2 = omega arith in q)
        (spell_mapped vector_of (placed (text is_vector) ∙∙ placed (text is_code)) ws i (i + 1 + 1) ((h.0.0, 98 ∷ map value_letter (v ∷ vs)), (h.1.0.0, code))
        (spell_both (placed (text is_vector)) (placed (text is_code)) ws i (i + 1) (i + 1 + 1) (h.0.0, 98 ∷ map value_letter (v ∷ vs)) (h.1.0.0, code)
        (spell_placed (text is_vector) ws i (i + 1) (98 ∷ map value_letter (v ∷ vs)) (98 ∷ map value_letter (v ∷ vs)) h.0
        (spell_text is_vector ws i (98 ∷ map value_letter (v ∷ vs)) h.0 (ap is_vector (vector_word (map value_letter (v ∷ vs)) (and_from (nat_lt 0 (length (map value_letter (v ∷ vs)))) (list_all is_value_byte (map value_letter (v ∷ vs))) (lt-ltb 0 (length (map value_letter (v ∷ vs))) (omega arith)) (letters_values (v ∷ vs)))))))
        (spell_placed (text is_code) ws (i + 1) (i + 1 + 1) code code h.1.0 (spell_text is_code ws (i + 1) code h.1.0 c)))))))));
  };
}
