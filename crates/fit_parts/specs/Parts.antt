-- The parts of a netlist's tokens: what ends with `endmodule` or `endprimitive`, and what its first tokens say.
use Rattle.std.specs.Prelude.{ℕ, Bool, true, false, not, ◌||◌, List, [], ◌∷◌, Option, Some, None, map, option_map, if◌then◌else◌}
use Rattle.sg_text.specs.declared.words.Keyword.TheVariants.{EndModule, EndPrimitive}
use Rattle.vl_token.specs.Tokens.{Lexeme, Meaning, module_word, word_token, left_out_token, name_token, system_token, symbol_token, other_token, number_token, sized_token, unsized_token, pair_token, byte_token}
use Rattle.vl_tree.specs.Kinds.{kind_of, is_word}
use Rattle.fit_parts.specs.declared.parts.Heading as code

-- an item ahead of the first of some parts
abbrev pub ahead : {A : Type 0} → A → List (List A) → List (List A)
ahead x [] = (x ∷ []) ∷ []
ahead x (p ∷ ps) = (x ∷ p) ∷ ps

-- a list cut behind each item for which a test holds
abbrev pub cut_behind : {A : Type 0} → (A → Bool) → List A → List (List A)
cut_behind test [] = []
cut_behind test (x ∷ xs) = if test x then (x ∷ []) ∷ cut_behind test xs else ahead x (cut_behind test xs)

-- whether a token ends a module or a primitive
abbrev pub is_end : Lexeme → Bool
is_end t = is_word EndModule (kind_of t) || is_word EndPrimitive (kind_of t)

abbrev pub parts_of : List Lexeme → List (List Lexeme)
parts_of tokens = cut_behind is_end tokens

-- what the first two tokens of a part say
pub record Heading : Type 0 where
  -- its name: the second, where that is a name
  pub name : Option (List ℕ)
  -- whether it is a module and no cell (IEEE 1364-2005, 19.1), which may be a top
  pub outer : Bool

abbrev pub name_in : Meaning → Option (List ℕ)
name_in (name_token text) = Some text
name_in _ = None

abbrev pub begins_outer : Meaning → Bool
begins_outer (module_word settings) = not settings.cell
begins_outer _ = false

abbrev pub heading_of : List Lexeme → Heading
heading_of [] = record { name = None; outer = false }
heading_of (t ∷ []) = record { name = None; outer = begins_outer t.meaning }
heading_of (t ∷ u ∷ us) = record { name = name_in u.meaning; outer = begins_outer t.meaning }

-- those of all parts
abbrev pub headings_of : List Lexeme → List Heading
headings_of tokens = map heading_of (parts_of tokens)

abbrev pub heading_seen : code.Heading → Heading
heading_seen h = record { name = option_map (λ n. n.now) h.name; outer = h.outer }
