-- Worked examples of dumps.
use Rattle.std.specs.Prelude.{◌≡◌, ℕ, [], ◌∷◌, ◌++◌, List, negsuc, codes, refl, Some, Ok, Err}
use Rattle.grammar.specs.Rule.{read_all, read_up_to}
use Rattle.grammar.specs.States.{read_by}
use Rattle.vcd_form.specs.Rules.{dump, body_parts, item_parts, power_parts, remark_rest, remark_parts, scope_parts, section_parts, start_parts, timescale_parts, upscope_parts, variable_parts}
use Rattle.vcd_form.specs.Words.{words, words_from, Word}
use Rattle.vcd_form.specs.Written.{declares, enters, instant, leaves, timescale, value}

abbrev word : ℕ → List ℕ → Word
word byte bytes = record { byte = byte; bytes = bytes }

-- blanks of each kind stand between words, one or several
three_words : words (codes " #5  1!" ++ (10 ∷ codes "b01")) ≡ word 1 (codes "#5") ∷ word 5 (codes "1!") ∷ word 8 (codes "b01") ∷ []
unfolding words_from
three_words = refl

abbrev header_words : List Word
header_words =
    word 0 (codes "$timescale") ∷ word 11 (codes "1ns") ∷ word 15 (codes "$end") ∷ word 20 (codes "$scope") ∷ word 27 (codes "module") ∷ word 34 (codes "t") ∷ word 36 (codes "$end")
    ∷ word 41 (codes "$var") ∷ word 46 (codes "wire") ∷ word 51 (codes "2") ∷ word 53 (codes "!") ∷ word 55 (codes "a") ∷ word 57 (codes "[1:0]") ∷ word 63 (codes "$end") ∷ word 68 (codes "$upscope") ∷ word 77 (codes "$end") ∷ []

abbrev body_words : List Word
body_words = word 82 (codes "$enddefinitions") ∷ word 98 (codes "$end") ∷ word 103 (codes "#0") ∷ word 106 (codes "b0x") ∷ word 110 (codes "!") ∷ word 112 (codes "1!") ∷ []

-- a vector's code is the word behind its bits, a scalar's stands at its value
short_dump : read_all dump (header_words ++ body_words) ≡ Ok (record {
  sections = timescale (negsuc 8) ∷ enters (codes "t") ∷ declares (record { byte = 41; width = 2; code = codes "!"; name = codes "a"; range = Some (codes "[1:0]") }) ∷ leaves ∷ [];
  body = Some (82, instant 103 (codes "0") ∷ value 106 110 (codes "0x") (codes "!") ∷ value 112 112 (codes "1") (codes "!") ∷ []);
})
unfolding body_parts item_parts power_parts remark_rest remark_parts scope_parts section_parts start_parts timescale_parts upscope_parts variable_parts read_by read_up_to
short_dump = refl

-- no scope is open that could end
no_scope : read_all dump (word 0 (codes "$upscope") ∷ word 9 (codes "$end") ∷ body_words) ≡ Err 0
unfolding read_by section_parts upscope_parts variable_parts
no_scope = refl

-- the end of a section is no name
no_name : read_all dump (word 0 (codes "$scope") ∷ word 7 (codes "module") ∷ word 14 (codes "$end") ∷ word 19 (codes "$end") ∷ body_words) ≡ Err 2
unfolding read_by section_parts scope_parts
no_name = refl
