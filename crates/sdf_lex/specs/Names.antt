-- What words say to a grammar (IEEE 1497-2001, the clause on identifiers): names, and the parts of paths.
use Rattle.std.specs.Prelude.{ℕ, ◌==◌, ◌||◌, ◌&&◌, not, Bool, true, false, List, [], ◌∷◌, map, if◌then◌else◌}
use Rattle.std.specs.List.{list_all}
use Rattle.sg_text.specs.Names.{is_name_byte}
use Rattle.sdf_lex.specs.declared.letters.Letter.{Letter}
use Rattle.sdf_lex.specs.declared.letters.Letter.TheVariants.{Plain, Escaped}
use Rattle.sdf_lex.specs.Words.{spelled, byte_of}

-- the letters that bytes spell; a backslash at the end is one of its own
abbrev pub letters_of : List ℕ → List Letter
letters_of [] = []
letters_of (b ∷ []) = Plain b ∷ []
letters_of (b ∷ c ∷ cs) = if b == 92 then Escaped c ∷ letters_of cs else Plain b ∷ letters_of (c ∷ cs)

-- what a written name is called: without its backslashes
abbrev pub called : List ℕ → List ℕ
called bytes = map byte_of (letters_of bytes)

-- letters, digits, _ and $, and each byte behind a backslash
abbrev pub is_name_letter : Letter → Bool
is_name_letter (Plain b) = is_name_byte b
is_name_letter (Escaped b) = true

-- in an instance's name plain brackets too
abbrev pub is_instance_letter : Letter → Bool
is_instance_letter (Plain b) = is_name_byte b || (b == 91) || (b == 93)
is_instance_letter (Escaped b) = true

abbrev pub is_empty : List ℕ → Bool
is_empty [] = true
is_empty (b ∷ bs) = false

abbrev pub is_name : List ℕ → Bool
is_name bytes = not (is_empty bytes) && list_all is_name_letter (letters_of bytes)

abbrev pub is_instance_name : List ℕ → Bool
is_instance_name bytes = not (is_empty bytes) && list_all is_instance_letter (letters_of bytes)

-- ---- paths

abbrev pub is_divider : ℕ → Letter → Bool
is_divider divider (Plain b) = b == divider
is_divider divider (Escaped b) = false

-- one letter more at the front of the first part
abbrev pub in_front : Letter → List (List Letter) → List (List Letter)
in_front l [] = (l ∷ []) ∷ []
in_front l (p ∷ ps) = (l ∷ p) ∷ ps

-- what stands between the unescaped dividers, one part more than there are dividers
abbrev pub parts_of : ℕ → List Letter → List (List Letter)
parts_of divider [] = [] ∷ []
parts_of divider (l ∷ ls) = if is_divider divider l then [] ∷ parts_of divider ls else in_front l (parts_of divider ls)

-- the parts of a path, as they are written
abbrev pub path_parts : ℕ → List ℕ → List (List ℕ)
path_parts divider path = map spelled (parts_of divider (letters_of path))
