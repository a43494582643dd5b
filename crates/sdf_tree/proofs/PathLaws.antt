-- The names of a path, one after another.
use Rattle.std.proofs.Common.{◌≡◌, ◌∙◌, ℕ, ◌<◌, Bool, true, false, List, [], ◌∷◌, length, map, Option, Some, None, refl, sym, ap, arith}
use Rattle.std.specs.Prelude.{◌&&◌, ◌||◌, is_some}
use Rattle.std.specs.Borrow.{Bor}
use Rattle.std.specs.List.{list_all}
use Rattle.sdf_lex.specs.declared.letters.Letter.{Letter}
use Rattle.sdf_lex.specs.NameBridge.{PartIs}
use Rattle.sdf_lex.specs.Names.{letters_of, is_name, is_instance_name, is_divider, in_front, parts_of, path_parts}
use Rattle.sdf_lex.specs.Words.{spelled}
use Rattle.sdf_tree.specs.PathWords.{path_name, goes_on, are_names, parts_left}
use Rattle.sdf_tree.specs.Words.{leading, last_part, is_port_of}

-- ---- a path has a part

front_goes_on : (l : Letter) (ps : List (List Letter)) → goes_on (map spelled (in_front l ps)) ≡ true
front_goes_on l [] = refl
front_goes_on l (p ∷ ps) = refl

some_part : (divider : ℕ) (ls : List Letter) → goes_on (map spelled (parts_of divider ls)) ≡ true
some_part divider [] = refl
some_part divider (l ∷ ls) = by (is_divider divider l) refl
  where
    by : (t : Bool) → is_divider divider l ≡ t → goes_on (map spelled (parts_of divider (l ∷ ls))) ≡ true
    by true h = rw h refl
    by false h = rw h (front_goes_on l (parts_of divider ls))

left_goes_on : (divider : ℕ) (left : Option (Bor (List ℕ))) → goes_on (parts_left divider left) ≡ is_some left
left_goes_on divider None = refl
left_goes_on divider (Some path) = some_part divider (letters_of path.now)

-- ---- the names that are left

first_is : (divider : ℕ) (path part : List ℕ) (behind : Option (Bor (List ℕ))) → PartIs divider path part behind → path_parts divider path ≡ part ∷ parts_left divider behind
first_is divider path part None h = h
first_is divider path part (Some rest) h = h

module _ (divider : ℕ) (left behind : Option (Bor (List ℕ))) (path : Bor (List ℕ)) (part : List ℕ) (is : left ≡ Some path) (h : PartIs divider path.now part behind) where
  left_is : parts_left divider left ≡ part ∷ parts_left divider behind
  left_is = ap (λ (o : Option (Bor (List ℕ))). parts_left divider o) is ∙ first_is divider path.now part behind h

  module _ (last brackets : Bool) (takes : brackets ≡ (last || is_some behind)) where
    -- this one, with brackets or not, and those behind it
    names_are : are_names last (parts_left divider left) ≡ (path_name brackets part && are_names last (parts_left divider behind))
    names_are =
        ap (λ (ps : List (List ℕ)). are_names last ps) left_is
        ∙ ap (λ (b : Bool). path_name (last || b) part && are_names last (parts_left divider behind)) (left_goes_on divider behind)
        ∙ ap (λ (b : Bool). path_name b part && are_names last (parts_left divider behind)) (sym takes)

    pub names_go_on : (all : Bool) → path_name brackets part ≡ true → are_names last (parts_left divider left) ≡ all → are_names last (parts_left divider behind) ≡ all
    names_go_on all good so_far = sym (names_are ∙ ap (λ (b : Bool). b && are_names last (parts_left divider behind)) good) ∙ so_far

    pub is_none : (all : Bool) → path_name brackets part ≡ false → are_names last (parts_left divider left) ≡ all → false ≡ all
    is_none all bad so_far = sym (names_are ∙ ap (λ (b : Bool). b && are_names last (parts_left divider behind)) bad) ∙ so_far

  pub fewer : length (parts_left divider behind) < length (parts_left divider left)
  fewer = omega (arith, ap length left_is)

pub all_are : (divider : ℕ) (left : Option (Bor (List ℕ))) (last all : Bool) → left ≡ None → are_names last (parts_left divider left) ≡ all → true ≡ all
all_are divider left last all none so_far = sym (ap (λ (o : Option (Bor (List ℕ))). are_names last (parts_left divider o)) none) ∙ so_far

-- ---- the names of an instance's path, and of a port's

instances_are : (ps : List (List ℕ)) → are_names true ps ≡ list_all is_instance_name ps
instances_are [] = refl
instances_are (p ∷ ps) = ap (λ (b : Bool). is_instance_name p && b) (instances_are ps)

alone : (b : Bool) → (b && true) ≡ (true && b)
alone true = refl
alone false = refl

grouped : (a b c : Bool) → (a && (b && c)) ≡ ((a && b) && c)
grouped true b c = refl
grouped false b c = refl

ports_are : (ps : List (List ℕ)) → goes_on ps ≡ true → are_names false ps ≡ is_port_of ps
ports_are [] h = absurd cc
ports_are (p ∷ []) h = alone (is_name p)
ports_are (p ∷ q ∷ ps) h = ap (λ (b : Bool). is_instance_name p && b) (ports_are (q ∷ ps) refl) ∙ grouped (is_instance_name p) (list_all is_instance_name (leading (q ∷ ps))) (is_name (last_part (q ∷ ps)))

module _ (divider byte : ℕ) (text : List ℕ) (all : Bool) (same : byte ≡ divider) where
  pub instance_is : all ≡ are_names true (path_parts byte text) → all ≡ list_all is_instance_name (path_parts divider text)
  instance_is found = found ∙ ap (λ (d : ℕ). are_names true (path_parts d text)) same ∙ instances_are (path_parts divider text)

  pub port_is : all ≡ are_names false (path_parts byte text) → all ≡ is_port_of (path_parts divider text)
  port_is found = found ∙ ap (λ (d : ℕ). are_names false (path_parts d text)) same ∙ ports_are (path_parts divider text) (some_part divider (letters_of text))
