-- The words of SDF files (IEEE 1497-2001, the clause on identifiers), made of letters: a byte, or a `\` with the byte after it.
use Rattle.std.specs.Prelude.{ℕ, ℤ, pos, neg_ℤ, Bool, true, false, ◌≡◌, ◌==◌, ◌&&◌, ◌||◌, not, nat_le, List, [], ◌∷◌, ◌++◌, take, drop, Option, Some, None, if◌then◌else◌}
use Rattle.std.specs.Option.{option_map}
use Rattle.std.specs.List.{prefix_len}
use Rattle.std.specs.Char.{is_ascii_digit}
use Rattle.sg_time.specs.Spelling.{number_from}
use Rattle.sdf_lex.specs.declared.bytes.ByteClass.{ByteClass}
use Rattle.sdf_lex.specs.declared.bytes.ByteClass.TheVariants as class
use Rattle.sdf_lex.specs.declared.letters.Letter.{Letter}
use Rattle.sdf_lex.specs.declared.letters.Letter.TheVariants.{Plain, Escaped}
use Rattle.sdf_lex.specs.declared.letters.Ends.{Ends}
use Rattle.sdf_lex.specs.Bytes.{class_of, is_sign, is_good, is_number_start, begins_number, begins_comment}

abbrev pub written : Letter → List ℕ
written (Plain b) = b ∷ []
written (Escaped b) = 92 ∷ b ∷ []

abbrev pub spelled : List Letter → List ℕ
spelled [] = []
spelled (l ∷ ls) = written l ++ spelled ls

-- the byte without its backslash
abbrev pub byte_of : Letter → ℕ
byte_of (Plain b) = b
byte_of (Escaped b) = b

-- a sign, a digit or a point
abbrev pub is_numeric : Letter → Bool
is_numeric (Plain b) = is_sign b || is_number_start b
is_numeric (Escaped b) = false

-- e or E
abbrev pub is_exponent : Letter → Bool
is_exponent l = (byte_of l == 101) || (byte_of l == 69)

-- an unescaped `[`
abbrev pub is_bracket : Letter → Bool
is_bracket (Plain b) = b == 91
is_bracket (Escaped b) = false

-- Whether a sign belongs to the word with these ends so far: at its front where a digit or a point follows, behind the e of a
-- number, and a `-` behind a bracket.
abbrev pub may_sign : Option Ends → ℕ → List ℕ → Bool
may_sign None b after = begins_number after
may_sign (Some ends) b after = (is_numeric ends.first && is_exponent ends.last) || ((b == 45) && is_bracket ends.last)

-- a word ends before a comment
abbrev pub may_be : ByteClass → Option Ends → ℕ → List ℕ → Bool
may_be class.Plain ends b after = true
may_be class.Slash ends b after = not (begins_comment after)
may_be class.Sign ends b after = may_sign ends b after
may_be _ ends b after = false

-- whether a letter belongs to a word with these ends so far, before these bytes
abbrev pub may_follow : Option Ends → Letter → List ℕ → Bool
may_follow ends (Plain b) after = may_be (class_of b) ends b after
may_follow ends (Escaped b) after = is_good (class_of b)

-- the ends with one letter more
abbrev pub with_last : Option Ends → Letter → Ends
with_last None l = record { first = l; last = l }
with_last (Some ends) l = record { first = ends.first; last = l }

-- these letters go on a word with these ends so far, before these bytes
abbrev pub Fits : Option Ends → List Letter → List ℕ → Type 0
Fits ends [] after = Unit {0}
Fits ends (l ∷ ls) after = (may_follow ends l (spelled ls ++ after) ≡ true) × Fits (Some (with_last ends l)) ls after

-- ---- the bit select at a word's end

-- what stands before a word's last unescaped `[`, and behind it
pub record Cut : Type 0 where
  pub name : List Letter
  pub behind : List Letter

abbrev pub cut_with : Letter → List Letter → Option Cut → Option Cut
cut_with l ls (Some c) = Some (record { name = l ∷ c.name; behind = c.behind })
cut_with l ls None = if is_bracket l then Some (record { name = []; behind = ls }) else None

abbrev pub last_cut : List Letter → Option Cut
last_cut [] = None
last_cut (l ∷ ls) = cut_with l ls (last_cut ls)

-- nothing but a closing bracket
abbrev pub is_closing : List ℕ → Bool
is_closing [] = false
is_closing (b ∷ []) = b == 93
is_closing (b ∷ c ∷ cs) = false

-- so many digits are 1 to 18, and the closing bracket is behind them
abbrev pub is_sized : ℕ → List ℕ → Bool
is_sized n behind = nat_le 1 n && nat_le n 18 && is_closing behind

abbrev pub size_in : ℕ → List ℕ → Option ℕ
size_in n bytes = if is_sized n (drop n bytes) then Some (number_from 0 (take n bytes)) else None

-- the number that 1 to 18 digits and a closing bracket spell
abbrev pub size_of : List ℕ → Option ℕ
size_of bytes = size_in (prefix_len is_ascii_digit bytes) bytes

-- the same where a `-` may stand before them
abbrev pub index_of : List ℕ → Option ℤ
index_of [] = None
index_of (b ∷ bs) = if b == 45 then option_map (λ n. neg_ℤ (pos n)) (size_of bs) else option_map (λ n. pos n) (size_of (b ∷ bs))
