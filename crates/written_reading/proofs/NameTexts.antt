-- Written names are names, and lead to themselves.
use Rattle.std.specs.Prelude.{◌≡◌, ◌≢◌, ℕ, ◌==◌, ◌||◌, not, Bool, true, false, List, [], ◌∷◌, ◌++◌, map, flat_map, None, if◌then◌else◌}
use Rattle.std.specs.Char.{is_ascii_digit}
use Rattle.std.specs.List.{list_all, AllByRecursion}
use Rattle.std.proofs.Common.{refl, sym, ap, ◌∙◌, inl, inr}
use Rattle.std.proofs.lemmas.Bool.{and_from, and_parts, cases_Bool, eqb-true, false_from_ne_true, or_left}
use Rattle.std.proofs.lemmas.List.{append-nil, append_assoc}
use Rattle.sg_text.specs.Names.{is_name_byte}
use Rattle.sdf_lex.specs.declared.letters.Letter.{Letter}
use Rattle.sdf_lex.specs.declared.letters.Letter.TheVariants.{Plain, Escaped}
use Rattle.sdf_lex.specs.Names.{letters_of, called, is_name_letter, is_instance_letter, is_empty, is_name, is_instance_name, is_divider, in_front, parts_of, path_parts}
use Rattle.sdf_lex.specs.Words.{written, spelled, byte_of}
use Rattle.sdf_tree.specs.declared.words.Divider.TheVariants.{Slash}
use Rattle.sdf_tree.specs.Words.{is_instance_path, is_port_path, is_port_of, constant_of}
use Rattle.written_model.specs.Names.{escaped, first_escaped, name_text, names_text}
use Rattle.written_reading.specs.Pieces.{letter, first_letter, name_letters, names_letters}

-- ---- the letters of a written name

letter_spelled : (b : ℕ) → written (letter b) ≡ escaped b
letter_spelled b = elim (cases_Bool (is_name_byte b)) [
  | inl e ↦ rw e refl
  | inr e ↦ rw e refl
]

first_spelled : (b : ℕ) → written (first_letter b) ≡ first_escaped b
first_spelled b = by (is_ascii_digit b)
  where
    by : (t : Bool) → written (if t then Escaped b else letter b) ≡ (if t then 92 ∷ b ∷ [] else escaped b)
    by true = refl
    by false = letter_spelled b

letters_spelled : (bs : List ℕ) → spelled (map letter bs) ≡ flat_map escaped bs
letters_spelled [] = refl
letters_spelled (b ∷ bs) = ap (λ xs. xs ++ spelled (map letter bs)) (letter_spelled b) ∙ ap (λ xs. escaped b ++ xs) (letters_spelled bs)

pub name_spelled : (name : List ℕ) → spelled (name_letters name) ≡ name_text name
name_spelled [] = refl
name_spelled (b ∷ bs) = ap (λ xs. xs ++ spelled (map letter bs)) (first_spelled b) ∙ ap (λ xs. first_escaped b ++ xs) (letters_spelled bs)

-- ---- they are letters of names, and what they are called

letter_good : (b : ℕ) → is_name_letter (letter b) ≡ true
letter_good b = elim (cases_Bool (is_name_byte b)) [
  | inl e ↦ rw e e
  | inr e ↦ rw e refl
]

first_good : (b : ℕ) → is_name_letter (first_letter b) ≡ true
first_good b = by (is_ascii_digit b)
  where
    by : (t : Bool) → is_name_letter (if t then Escaped b else letter b) ≡ true
    by true = refl
    by false = letter_good b

letters_good : (bs : List ℕ) → list_all is_name_letter (map letter bs) ≡ true
letters_good [] = refl
letters_good (b ∷ bs) = and_from (is_name_letter (letter b)) (list_all is_name_letter (map letter bs)) (letter_good b) (letters_good bs)

pub name_good : (name : List ℕ) → list_all is_name_letter (name_letters name) ≡ true
name_good [] = refl
name_good (b ∷ bs) = and_from (is_name_letter (first_letter b)) (list_all is_name_letter (map letter bs)) (first_good b) (letters_good bs)

letter_byte : (b : ℕ) → byte_of (letter b) ≡ b
letter_byte b = elim (cases_Bool (is_name_byte b)) [
  | inl e ↦ rw e refl
  | inr e ↦ rw e refl
]

first_byte : (b : ℕ) → byte_of (first_letter b) ≡ b
first_byte b = by (is_ascii_digit b)
  where
    by : (t : Bool) → byte_of (if t then Escaped b else letter b) ≡ b
    by true = refl
    by false = letter_byte b

letters_bytes : (bs : List ℕ) → map byte_of (map letter bs) ≡ bs
letters_bytes [] = refl
letters_bytes (b ∷ bs) = ap (λ x. x ∷ map byte_of (map letter bs)) (letter_byte b) ∙ ap (λ xs. b ∷ xs) (letters_bytes bs)

name_bytes : (name : List ℕ) → map byte_of (name_letters name) ≡ name
name_bytes [] = refl
name_bytes (b ∷ bs) = ap (λ x. x ∷ map byte_of (map letter bs)) (first_byte b) ∙ ap (λ xs. b ∷ xs) (letters_bytes bs)

-- ---- a name's letters are read back

-- no other byte is one of a name's
not_byte : (b other : ℕ) → is_name_byte b ≡ true → is_name_byte other ≡ false → (b == other) ≡ false
not_byte b other h n = false_from_ne_true (b == other) (λ e. let f : false ≡ true = sym n ∙ (ap is_name_byte (sym (eqb-true b other e)) ∙ h) in cc)

plain_first : (b : ℕ) (cs : List ℕ) → (b == 92) ≡ false → letters_of (b ∷ cs) ≡ Plain b ∷ letters_of cs
plain_first b [] h = refl
plain_first b (c ∷ cs) h = rw h refl

pub read_letters : (ls : List Letter) (rest : List ℕ) → list_all is_name_letter ls ≡ true → letters_of (spelled ls ++ rest) ≡ ls ++ letters_of rest
read_letters [] rest h = refl
read_letters (Plain b ∷ ls) rest h =
    let p = and_parts (is_name_byte b) (list_all is_name_letter ls) h in
    plain_first b (spelled ls ++ rest) (not_byte b 92 p.0 refl) ∙ ap (λ xs. Plain b ∷ xs) (read_letters ls rest p.1)
read_letters (Escaped b ∷ ls) rest h = ap (λ xs. Escaped b ∷ xs) (read_letters ls rest (and_parts true (list_all is_name_letter ls) h).1)

pub own_letters : (ls : List Letter) → list_all is_name_letter ls ≡ true → letters_of (spelled ls) ≡ ls
own_letters ls h = ap letters_of (sym (append-nil (spelled ls))) ∙ (read_letters ls [] h ∙ append-nil ls)

pub name_read : (name : List ℕ) → letters_of (name_text name) ≡ name_letters name
name_read name = ap letters_of (sym (name_spelled name)) ∙ own_letters (name_letters name) (name_good name)

pub called_name : (name : List ℕ) → called (name_text name) ≡ name
called_name name = ap (λ ls. map byte_of ls) (name_read name) ∙ name_bytes name

-- ---- it is a name

escaped_some : (b : ℕ) (rest : List ℕ) → is_empty (escaped b ++ rest) ≡ false
escaped_some b rest = elim (cases_Bool (is_name_byte b)) [
  | inl e ↦ rw e refl
  | inr e ↦ rw e refl
]

first_some : (b : ℕ) (rest : List ℕ) → is_empty (first_escaped b ++ rest) ≡ false
first_some b rest = by (is_ascii_digit b)
  where
    by : (t : Bool) → is_empty ((if t then 92 ∷ b ∷ [] else escaped b) ++ rest) ≡ false
    by true = refl
    by false = escaped_some b rest

name_some : (name : List ℕ) → name ≢ [] → is_empty (name_text name) ≡ false
name_some [] some = absurd (some refl)
name_some (b ∷ bs) some = first_some b (flat_map escaped bs)

pub is_name_text : (name : List ℕ) → name ≢ [] → is_name (name_text name) ≡ true
is_name_text name some =
    and_from (not (is_empty (name_text name))) (list_all is_name_letter (letters_of (name_text name))) (ap not (name_some name some)) (ap (λ ls. list_all is_name_letter ls) (name_read name) ∙ name_good name)

-- ---- it is no constant

no_constant : (b : ℕ) (rest : List ℕ) → is_ascii_digit b ≡ false → (b == 48) ≡ false → (b == 49) ≡ false → (b == 39) ≡ false → constant_of (b ∷ rest) ≡ None
unfolding constant_of
no_constant b [] d z o q = rw (z, o, d) refl
no_constant b (c ∷ cs) d z o q = rw (z, o, d) (rw q refl)

not_digit : (b other : ℕ) → is_ascii_digit b ≡ false → is_ascii_digit other ≡ true → (b == other) ≡ false
not_digit b other h d = false_from_ne_true (b == other) (λ e. let f : true ≡ false = sym d ∙ (ap is_ascii_digit (sym (eqb-true b other e)) ∙ h) in cc)

escaped_constant : (b : ℕ) (rest : List ℕ) → is_ascii_digit b ≡ false → constant_of (escaped b ++ rest) ≡ None
escaped_constant b rest d = elim (cases_Bool (is_name_byte b)) [
  | inl e ↦ rw e (no_constant b rest d (not_digit b 48 d refl) (not_digit b 49 d refl) (not_byte b 39 e refl))
  | inr e ↦ rw e (no_constant 92 (b ∷ rest) refl refl refl refl)
]

first_constant : (b : ℕ) (rest : List ℕ) → constant_of (first_escaped b ++ rest) ≡ None
first_constant b rest = by (is_ascii_digit b) refl
  where
    by : (t : Bool) → is_ascii_digit b ≡ t → constant_of ((if t then 92 ∷ b ∷ [] else escaped b) ++ rest) ≡ None
    by true e = no_constant 92 (b ∷ rest) refl refl refl refl
    by false e = escaped_constant b rest e

pub name_constant : (name : List ℕ) → name ≢ [] → constant_of (name_text name) ≡ None
name_constant [] some = absurd (some refl)
name_constant (b ∷ bs) some = first_constant b (flat_map escaped bs)

-- ---- paths

not_divider : (l : Letter) → is_name_letter l ≡ true → is_divider 47 l ≡ false
not_divider (Plain b) h = not_byte b 47 h refl
not_divider (Escaped b) h = refl

part_first : (ls more : List Letter) → list_all is_name_letter ls ≡ true → parts_of 47 (ls ++ Plain 47 ∷ more) ≡ ls ∷ parts_of 47 more
part_first [] more h = refl
part_first (l ∷ ls) more h = let p = and_parts (is_name_letter l) (list_all is_name_letter ls) h in rw (not_divider l p.0) (ap (λ ps. in_front l ps) (part_first ls more p.1))

part_alone : (ls : List Letter) → list_all is_name_letter ls ≡ true → parts_of 47 ls ≡ ls ∷ []
part_alone [] h = refl
part_alone (l ∷ ls) h = let p = and_parts (is_name_letter l) (list_all is_name_letter ls) h in rw (not_divider l p.0) (ap (λ ps. in_front l ps) (part_alone ls p.1))

name_part : (name : List ℕ) → path_parts 47 (name_text name) ≡ name_text name ∷ []
name_part name = ap (λ ls. map spelled (parts_of 47 ls)) (name_read name) ∙ (ap (λ ps. map spelled ps) (part_alone (name_letters name) (name_good name)) ∙ ap (λ x. x ∷ []) (name_spelled name))

pub name_is_port : (name : List ℕ) → name ≢ [] → is_port_path Slash (name_text name) ≡ true
unfolding is_port_path
name_is_port name some = ap is_port_of (name_part name) ∙ is_name_text name some

pub names_spelled : (names : List (List ℕ)) → spelled (names_letters names) ≡ names_text names
names_spelled [] = refl
names_spelled (n ∷ []) = name_spelled n
names_spelled (n ∷ m ∷ more) = both (name_letters n) (Plain 47 ∷ names_letters (m ∷ more)) ∙ (ap (λ xs. xs ++ 47 ∷ spelled (names_letters (m ∷ more))) (name_spelled n) ∙ ap (λ xs. name_text n ++ 47 ∷ xs) (names_spelled (m ∷ more)))
  where
    both : (ls ms : List Letter) → spelled (ls ++ ms) ≡ spelled ls ++ spelled ms
    both [] ms = refl
    both (l ∷ ls) ms = ap (λ xs. written l ++ xs) (both ls ms) ∙ sym (append_assoc (written l) (spelled ls) (spelled ms))

names_read : (names : List (List ℕ)) → letters_of (names_text names) ≡ names_letters names
names_read [] = refl
names_read (n ∷ []) = name_read n
names_read (n ∷ m ∷ more) =
    ap (λ xs. letters_of (xs ++ 47 ∷ names_text (m ∷ more))) (sym (name_spelled n))
    ∙ (read_letters (name_letters n) (47 ∷ names_text (m ∷ more)) (name_good n) ∙ ap (λ ls. name_letters n ++ ls) (plain_first 47 (names_text (m ∷ more)) refl ∙ ap (λ ls. Plain 47 ∷ ls) (names_read (m ∷ more))))

names_parts : (n : List ℕ) (ns : List (List ℕ)) → parts_of 47 (names_letters (n ∷ ns)) ≡ map name_letters (n ∷ ns)
names_parts n [] = part_alone (name_letters n) (name_good n)
names_parts n (m ∷ more) = part_first (name_letters n) (names_letters (m ∷ more)) (name_good n) ∙ ap (λ ps. name_letters n ∷ ps) (names_parts m more)

instance_letter : (l : Letter) → is_name_letter l ≡ true → is_instance_letter l ≡ true
instance_letter (Plain b) h = or_left (is_name_byte b || (b == 91)) (b == 93) (or_left (is_name_byte b) (b == 91) h)
instance_letter (Escaped b) h = refl

instance_letters : (ls : List Letter) → list_all is_name_letter ls ≡ true → list_all is_instance_letter ls ≡ true
instance_letters [] h = refl
instance_letters (l ∷ ls) h = let p = and_parts (is_name_letter l) (list_all is_name_letter ls) h in and_from (is_instance_letter l) (list_all is_instance_letter ls) (instance_letter l p.0) (instance_letters ls p.1)

instance_name : (name : List ℕ) → name ≢ [] → is_instance_name (spelled (name_letters name)) ≡ true
instance_name name some =
    and_from (not (is_empty (spelled (name_letters name)))) (list_all is_instance_letter (letters_of (spelled (name_letters name)))) (ap (λ xs. not (is_empty xs)) (name_spelled name) ∙ ap not (name_some name some))
    (ap (λ ls. list_all is_instance_letter ls) (own_letters (name_letters name) (name_good name)) ∙ instance_letters (name_letters name) (name_good name))

instance_names : (names : List (List ℕ)) → AllByRecursion (λ n. n ≢ []) names → list_all is_instance_name (map spelled (map name_letters names)) ≡ true
instance_names [] some = refl
instance_names (n ∷ ns) some = and_from (is_instance_name (spelled (name_letters n))) (list_all is_instance_name (map spelled (map name_letters ns))) (instance_name n some.0) (instance_names ns some.1)

pub names_are_path : (n : List ℕ) (ns : List (List ℕ)) → AllByRecursion (λ m. m ≢ []) (n ∷ ns) → is_instance_path Slash (names_text (n ∷ ns)) ≡ true
unfolding is_instance_path
names_are_path n ns some = ap (λ ls. list_all is_instance_name (map spelled (parts_of 47 ls))) (names_read (n ∷ ns)) ∙ (ap (λ ps. list_all is_instance_name (map spelled ps)) (names_parts n ns) ∙ instance_names (n ∷ ns) some)
