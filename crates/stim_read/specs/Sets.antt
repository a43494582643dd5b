-- A set `n=v`: the name of an input or of a bit of it, and a digit for each bit.
use Rattle.std.specs.Prelude.{ℕ, ◌==◌, ◌&&◌, ◌||◌, Bool, false, List, [], ◌∷◌, length, take, drop, reverse, nat_lt, nat_le, Option, Some, None, option_map, option_and_then, if◌then◌else◌}
use Rattle.std.specs.List.{list_all, prefix_len}
use Rattle.std.specs.Char.{is_ascii_digit}
use Rattle.sg_text.specs.Names.{is_name_byte, is_simple}

-- the name of an input without what marks an escaped one, and the index of one bit where it has one, as it is written
pub record Name : Type 0 where
  pub name : List ℕ
  pub index : Option (List ℕ)

-- a set: a name, and its digits, that of the left bit first
pub record Set : Type 0 where
  pub target : Name
  pub digits : List ℕ

-- what is before and behind the last `=` of a word
abbrev pub with_first : ℕ → List ℕ → Option (List ℕ × List ℕ) → Option (List ℕ × List ℕ)
with_first b bs (Some cut) = Some (b ∷ cut.0, cut.1)
with_first b bs None = if b == 61 then Some ([], bs) else None

abbrev pub cut : List ℕ → Option (List ℕ × List ℕ)
cut [] = None
cut (b ∷ bs) = with_first b bs (cut bs)

-- 1 to 18 decimal digits
abbrev pub is_number : List ℕ → Bool
is_number digits = nat_lt 0 (length digits) && nat_le (length digits) 18 && list_all is_ascii_digit digits

-- such a number, perhaps behind a `-`
abbrev pub is_index : List ℕ → Bool
is_index [] = false
is_index (b ∷ bs) = if b == 45 then is_number bs else is_number (b ∷ bs)

-- an index and a `]`, from the back
abbrev pub index_from_back : List ℕ → Option (List ℕ)
index_from_back [] = None
index_from_back (b ∷ bs) = if (b == 93) && is_index (reverse bs) then Some (reverse bs) else None

-- behind a plain name stands nothing, or an index in brackets
abbrev pub with_index : List ℕ → List ℕ → Option Name
with_index name [] = Some (record { name = name; index = None })
with_index name (b ∷ bs) = if b == 91 then option_map (λ index. record { name = name; index = Some index }) (index_from_back (reverse bs)) else None

-- a plain name is a simple identifier
abbrev pub plain_name : List ℕ → Option Name
plain_name text =
    let size = prefix_len is_name_byte text in
    if is_simple (take size text) then with_index (take size text) (drop size text) else None

-- a name that begins with `\` is all that follows it, and has no index
abbrev pub name_in : List ℕ → Option Name
name_in [] = None
name_in (b ∷ bs) = if b == 92 then Some (record { name = bs; index = None }) else plain_name (b ∷ bs)

-- 0, 1, x or z
abbrev pub is_digit : ℕ → Bool
is_digit b = (b == 48) || (b == 49) || (b == 120) || (b == 122)

abbrev pub are_digits : List ℕ → Bool
are_digits ds = nat_lt 0 (length ds) && list_all is_digit ds

abbrev pub set_of : List ℕ × List ℕ → Option Set
set_of parts = if are_digits parts.1 then option_map (λ name. record { target = name; digits = parts.1 }) (name_in parts.0) else None

-- the set that a word is, if it is one
unfoldable pub set_in : List ℕ → Option Set
set_in word = option_and_then set_of (cut word)
