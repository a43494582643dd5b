-- Names that are written are called what they were, alone and in paths.
use Rattle.std.proofs.Common.{◌≡◌, Bool, true, false, List, [], ◌∷◌, ◌++◌, reverse, refl, sym, ◌∙◌, ap, append_assoc, append-nil}
use Rattle.std.specs.Prelude.{ℕ, ◌==◌, map, if◌then◌else◌}
use Rattle.std.specs.Char.{is_ascii_digit}
use Rattle.std.specs.List.{flat_map}
use Rattle.sg_text.specs.Names.{is_name_byte}
use Rattle.late_limits.proofs.NumberLaws.{test_other}
use Rattle.sdf_lex.specs.declared.letters.Letter.{Letter}
use Rattle.sdf_lex.specs.declared.letters.Letter.TheVariants.{Plain, Escaped}
use Rattle.sdf_lex.specs.Words.{spelled, byte_of}
use Rattle.sdf_lex.specs.Names.{letters_of, called, is_divider, in_front, parts_of}
use Rattle.sdf_tree.specs.declared.words.Divider.TheVariants.{Slash}
use Rattle.annotation_model.specs.Scopes.{names_back}
use Rattle.written_model.specs.Names.{escaped, first_escaped, name_text, names_text}
use Rattle.written_giving.proofs.PlaceLaws.{map-fused}

-- ---- the letters of a name

abbrev letter : ℕ → Letter
letter b = if is_name_byte b then Plain b else Escaped b

abbrev first_letter : ℕ → Letter
first_letter b = if is_ascii_digit b then Escaped b else letter b

abbrev letters : List ℕ → List Letter
letters [] = []
letters (b ∷ bs) = first_letter b ∷ map letter bs

no-backslash : (b : ℕ) → is_name_byte b ≡ true → (b == 92) ≡ false
no-backslash b e = test_other b 92 (λ f. let g : true ≡ false = sym e ∙ ap is_name_byte f in absurd cc)

no-slash : (b : ℕ) → is_name_byte b ≡ true → (b == 47) ≡ false
no-slash b e = test_other b 47 (λ f. let g : true ≡ false = sym e ∙ ap is_name_byte f in absurd cc)

plain-front : (b : ℕ) (rest : List ℕ) → (b == 92) ≡ false → letters_of (b ∷ rest) ≡ Plain b ∷ letters_of rest
plain-front b [] e = refl
plain-front b (c ∷ cs) e = ap (λ t. if t then Escaped c ∷ letters_of cs else Plain b ∷ letters_of (c ∷ cs)) e

escaped-front : (b : ℕ) (rest : List ℕ) → letters_of (escaped b ++ rest) ≡ letter b ∷ letters_of rest
escaped-front b rest = by (is_name_byte b) refl
  where
    by : (t : Bool) → is_name_byte b ≡ t → letters_of ((if t then b ∷ [] else 92 ∷ b ∷ []) ++ rest) ≡ (if t then Plain b else Escaped b) ∷ letters_of rest
    by true e = plain-front b rest (no-backslash b e)
    by false e = refl

first-front : (b : ℕ) (rest : List ℕ) → letters_of (first_escaped b ++ rest) ≡ first_letter b ∷ letters_of rest
first-front b rest = by (is_ascii_digit b)
  where
    by : (t : Bool) → letters_of ((if t then 92 ∷ b ∷ [] else escaped b) ++ rest) ≡ (if t then Escaped b else letter b) ∷ letters_of rest
    by true = refl
    by false = escaped-front b rest

letters-front : (bs rest : List ℕ) → letters_of (flat_map escaped bs ++ rest) ≡ map letter bs ++ letters_of rest
letters-front [] rest = refl
letters-front (b ∷ bs) rest =
    ap letters_of (append_assoc (escaped b) (flat_map escaped bs) rest) ∙ (escaped-front b (flat_map escaped bs ++ rest) ∙ ap (λ ls. letter b ∷ ls) (letters-front bs rest))

name-front : (n rest : List ℕ) → letters_of (name_text n ++ rest) ≡ letters n ++ letters_of rest
name-front [] rest = refl
name-front (b ∷ bs) rest =
    ap letters_of (append_assoc (first_escaped b) (flat_map escaped bs) rest) ∙ (first-front b (flat_map escaped bs ++ rest) ∙ ap (λ ls. first_letter b ∷ ls) (letters-front bs rest))

name-letters : (n : List ℕ) → letters_of (name_text n) ≡ letters n
name-letters n = sym (ap letters_of (append-nil (name_text n))) ∙ (name-front n [] ∙ append-nil (letters n))

letter-byte : (b : ℕ) → byte_of (letter b) ≡ b
letter-byte b = by (is_name_byte b)
  where
    by : (t : Bool) → byte_of (if t then Plain b else Escaped b) ≡ b
    by true = refl
    by false = refl

first-byte : (b : ℕ) → byte_of (first_letter b) ≡ b
first-byte b = by (is_ascii_digit b)
  where
    by : (t : Bool) → byte_of (if t then Escaped b else letter b) ≡ b
    by true = refl
    by false = letter-byte b

map-itself : {A : Type 0} (xs : List A) → map (λ (x : A). x) xs ≡ xs
map-itself [] = refl
map-itself (x ∷ xs) = ap (λ ys. x ∷ ys) (map-itself xs)

letters-called : (n : List ℕ) → map byte_of (letters n) ≡ n
letters-called [] = refl
letters-called (b ∷ bs) = ap (λ x. x ∷ map byte_of (map letter bs)) (first-byte b) ∙ ap (λ xs. b ∷ xs) (map-fused byte_of letter (λ (x : ℕ). x) bs letter-byte ∙ map-itself bs)

spelled-letters : (bs : List ℕ) → spelled (map letter bs) ≡ flat_map escaped bs
spelled-letters [] = refl
spelled-letters (b ∷ bs) = by (is_name_byte b) (spelled-letters bs)
  where
    by : (t : Bool) → spelled (map letter bs) ≡ flat_map escaped bs → spelled ((if t then Plain b else Escaped b) ∷ map letter bs) ≡ (if t then b ∷ [] else 92 ∷ b ∷ []) ++ flat_map escaped bs
    by true rec = ap (λ xs. b ∷ xs) rec
    by false rec = ap (λ xs. 92 ∷ b ∷ xs) rec

name-spelled : (n : List ℕ) → spelled (letters n) ≡ name_text n
name-spelled [] = refl
name-spelled (b ∷ bs) = by (is_ascii_digit b) (is_name_byte b) (spelled-letters bs)
  where
    by : (d t : Bool) → spelled (map letter bs) ≡ flat_map escaped bs
        → spelled ((if d then Escaped b else if t then Plain b else Escaped b) ∷ map letter bs) ≡ (if d then 92 ∷ b ∷ [] else if t then b ∷ [] else 92 ∷ b ∷ []) ++ flat_map escaped bs
    by true t rec = ap (λ xs. 92 ∷ b ∷ xs) rec
    by false true rec = ap (λ xs. b ∷ xs) rec
    by false false rec = ap (λ xs. 92 ∷ b ∷ xs) rec

name-called : (n : List ℕ) → called (spelled (letters n)) ≡ n
name-called n = ap (λ bs. map byte_of (letters_of bs)) (name-spelled n) ∙ (ap (map byte_of) (name-letters n) ∙ letters-called n)

-- ---- parts

-- no letter of a name divides
letter-stays : (b : ℕ) → is_divider 47 (letter b) ≡ false
letter-stays b = by (is_name_byte b) refl
  where
    by : (t : Bool) → is_name_byte b ≡ t → is_divider 47 (if t then Plain b else Escaped b) ≡ false
    by true e = no-slash b e
    by false e = refl

first-stays : (b : ℕ) → is_divider 47 (first_letter b) ≡ false
first-stays b = by (is_ascii_digit b)
  where
    by : (t : Bool) → is_divider 47 (if t then Escaped b else letter b) ≡ false
    by true = refl
    by false = letter-stays b

-- before the first part
abbrev before : List Letter → List (List Letter) → List (List Letter)
before ls [] = ls ∷ []
before ls (p ∷ ps) = (ls ++ p) ∷ ps

one-part : (l : Letter) (ls : List Letter) → is_divider 47 l ≡ false → parts_of 47 (l ∷ ls) ≡ in_front l (parts_of 47 ls)
one-part l ls e = ap (λ t. if t then [] ∷ parts_of 47 ls else in_front l (parts_of 47 ls)) e

front-before : (l : Letter) (ls : List Letter) (ps : List (List Letter)) → in_front l (before ls ps) ≡ before (l ∷ ls) ps
front-before l ls [] = refl
front-before l ls (p ∷ ps) = refl

some-parts : (ls : List Letter) → before [] (parts_of 47 ls) ≡ parts_of 47 ls
some-parts [] = refl
some-parts (l ∷ ls) = by (is_divider 47 l) (parts_of 47 ls)
  where
    by : (t : Bool) (ps : List (List Letter)) → before [] (if t then [] ∷ ps else in_front l ps) ≡ (if t then [] ∷ ps else in_front l ps)
    by true ps = refl
    by false [] = refl
    by false (p ∷ ps) = refl

more-part : (bs : List ℕ) (rest : List Letter) → parts_of 47 (map letter bs ++ rest) ≡ before (map letter bs) (parts_of 47 rest)
more-part [] rest = sym (some-parts rest)
more-part (b ∷ bs) rest =
    one-part (letter b) (map letter bs ++ rest) (letter-stays b) ∙ (ap (in_front (letter b)) (more-part bs rest) ∙ front-before (letter b) (map letter bs) (parts_of 47 rest))

name-part : (n : List ℕ) (rest : List Letter) → parts_of 47 (letters n ++ rest) ≡ before (letters n) (parts_of 47 rest)
name-part [] rest = sym (some-parts rest)
name-part (b ∷ bs) rest =
    one-part (first_letter b) (map letter bs ++ rest) (first-stays b) ∙ (ap (in_front (first_letter b)) (more-part bs rest) ∙ front-before (first_letter b) (map letter bs) (parts_of 47 rest))

alone : (n : List ℕ) → parts_of 47 (letters_of (name_text n)) ≡ letters n ∷ []
alone n = ap (parts_of 47) (name-letters n ∙ sym (append-nil (letters n))) ∙ (name-part n [] ∙ ap (λ ls. ls ∷ []) (append-nil (letters n)))

names-parts : (n : List ℕ) (ns : List (List ℕ)) → parts_of 47 (letters_of (names_text (n ∷ ns))) ≡ map letters (n ∷ ns)
names-parts n [] = alone n
names-parts n (m ∷ ns) =
    let rest = names_text (m ∷ ns) in
    ap (parts_of 47) (name-front n (47 ∷ rest) ∙ ap (λ ls. letters n ++ ls) (plain-front 47 rest refl))
    ∙ (name-part n (Plain 47 ∷ letters_of rest) ∙ (ap (λ ls. ls ∷ parts_of 47 (letters_of rest)) (append-nil (letters n)) ∙ ap (λ ps. letters n ∷ ps) (names-parts m ns)))

pub path-back : (n : List ℕ) (ns : List (List ℕ)) → names_back Slash (names_text (n ∷ ns)) ≡ reverse (n ∷ ns)
path-back n ns =
    ap (λ ps. reverse (map called (map spelled ps))) (names-parts n ns)
    ∙ ap reverse (map-fused called spelled (λ ls. called (spelled ls)) (map letters (n ∷ ns)) (λ ls. refl) ∙ (map-fused (λ ls. called (spelled ls)) letters (λ (x : List ℕ). x) (n ∷ ns) name-called ∙ map-itself (n ∷ ns)))

pub name-back : (n : List ℕ) → names_back Slash (name_text n) ≡ n ∷ []
name-back n = path-back n []
