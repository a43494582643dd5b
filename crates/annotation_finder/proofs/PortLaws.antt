-- The names of ports.
use Rattle.std.specs.Prelude.{◌≡◌, refl, ℕ, suc, ◌<◌, ◌==◌, Bool, true, false, if◌then◌else◌, List, [], ◌∷◌, ◌++◌, map, reverse, length}
use Rattle.std.specs.Global.{Vec}
use Rattle.std.proofs.Common.{ap, sym, ◌∙◌, arith, ℤ, Option}
use Rattle.std.proofs.lemmas.Bool.Decides.{nat_tests}
use Rattle.std.proofs.lemmas.List.{length-map, length-reverse, map-append, reverse-append}
use Rattle.sdf_lex.specs.declared.letters.Letter.{Letter}
use Rattle.sdf_lex.specs.Names.{called, path_parts, parts_of, in_front, is_divider, letters_of}
use Rattle.sdf_lex.specs.Words.{spelled}
use Rattle.sg_circuit.specs.Circuit.{Circuit, scope_at}
use Rattle.sg_circuit.specs.declared.scopes.Port.{Port}
use Rattle.annotation_model.specs.Ports.{own_nets, nets_named}
use Rattle.annotation_scopes.specs.Walks.{names_seen}
use Rattle.annotation_finder.specs.Sought.{Named}

-- ---- a path has a name

some_in_front : (l : Letter) (ps : List (List Letter)) → 0 < length (in_front l ps)
some_in_front l [] = omega arith
some_in_front l (p ∷ ps) = omega arith

some_parts : (divider : ℕ) (ls : List Letter) → 0 < length (parts_of divider ls)
some_parts divider [] = omega arith
some_parts divider (l ∷ ls) = by (is_divider divider l)
  where
    by : (b : Bool) → 0 < length (if b then [] ∷ parts_of divider ls else in_front l (parts_of divider ls))
    by true = omega arith
    by false = some_in_front l (parts_of divider ls)

pub some_names : (divider : ℕ) (path : List ℕ) (names : List (Vec ℕ)) → names_seen names ≡ map called (path_parts divider path) → 0 < length names
some_names divider path names e =
    let a : length (names_seen names) ≡ length names = length-map names (λ name. name.items) in
    let b : length (map called (path_parts divider path)) ≡ length (path_parts divider path) = length-map (path_parts divider path) called in
    let c : length (path_parts divider path) ≡ length (parts_of divider (letters_of path)) = length-map (parts_of divider (letters_of path)) spelled in
    let d : length (names_seen names) ≡ length (map called (path_parts divider path)) = ap length e in
    let f = some_parts divider (letters_of path) in
    omega (arith, a, b, c, d, f)

pub last_taken : (names path : List (Vec ℕ)) (name : Vec ℕ) (parts : List (List ℕ)) → names ≡ path ++ name ∷ [] → names_seen names ≡ parts → name.items ∷ reverse (names_seen path) ≡ reverse parts
last_taken names path name parts e f =
    sym (reverse-append (names_seen path) (name.items ∷ [])) ∙ ap reverse (sym (map-append (λ n. n.items) path (name ∷ [])) ∙ (ap names_seen (sym e) ∙ f))

-- ---- a scope's own port

-- behind a path there is no own name
own-behind : (c : Circuit) (kind : Port → Bool) (s : ℕ) (name : List ℕ) (path : List (List ℕ)) (bit : Option ℤ) → 0 < length path → own_nets c kind s (name ∷ path) bit ≡ []
own-behind c kind s name [] bit l = absurd (omega (arith, l))
own-behind c kind s name (n ∷ ns) bit l = refl

own-alone : (c : Circuit) (kind : Port → Bool) (s : ℕ) (name : List ℕ) (path : List (List ℕ)) (bit : Option ℤ) → length path ≡ 0 → own_nets c kind s (name ∷ path) bit ≡ nets_named kind (scope_at c s).variables name bit
own-alone c kind s name [] bit l = refl
own-alone c kind s name (n ∷ ns) bit l = absurd (omega (arith, l))

reversed : (path : List (Vec ℕ)) → length (reverse (names_seen path)) ≡ length path
reversed path = length-reverse (names_seen path) ∙ length-map path (λ n. n.items)

-- the path's length, and the test that it is 0
suc-not-none : (n m : ℕ) → m ≡ suc n → (m == 0) ≡ false
suc-not-none n m e = grind (arith, nat_tests)

none-is : (m : ℕ) → m ≡ 0 → (m == 0) ≡ true
none-is m e = grind (arith, nat_tests)

pub not_own : (c : Circuit) (kind : Port → Bool) (s : ℕ) (name : List ℕ) (path : List (Vec ℕ)) (bit : Option ℤ) (n : ℕ) (empty : Bool) → n ≡ length path → empty ≡ (n == 0) → empty ≡ false
    → own_nets c kind s (name ∷ reverse (names_seen path)) bit ≡ []
not_own c kind s name [] bit n empty m e h = absurd (let f : empty ≡ true = e ∙ none-is n m in cc)
not_own c kind s name (p ∷ ps) bit n empty m e h =
    own-behind c kind s name (reverse (names_seen (p ∷ ps))) bit (let f = reversed (p ∷ ps) in omega (arith, f))

pub is_own : (c : Circuit) (kind : Port → Bool) (s : ℕ) (name : List ℕ) (path : List (Vec ℕ)) (bit : Option ℤ) (n : ℕ) (empty : Bool) → n ≡ length path → empty ≡ (n == 0) → empty ≡ true
    → own_nets c kind s (name ∷ reverse (names_seen path)) bit ≡ nets_named kind (scope_at c s).variables name bit
is_own c kind s name [] bit n empty m e h = own-alone c kind s name (reverse (names_seen [])) bit (reversed [])
is_own c kind s name (p ∷ ps) bit n empty m e h = absurd (let f : empty ≡ false = e ∙ suc-not-none (length ps) n m in cc)

pub same_named : (a b : List (List ℕ)) (bit : Option ℤ) → a ≡ b → ◌≡◌ {A = Named} (record { names = a; bit = bit }) (record { names = b; bit = bit })
same_named a b bit e = ap {B = Named} (λ names. record { names = names; bit = bit }) e
