-- The names of a path, one after another.
use Rattle.std.specs.Prelude.{◌≡◌, ◌≢◌, refl, ℕ, ◌<◌, List, [], ◌∷◌, ◌++◌, length, map, Option, Some, None}
use Rattle.std.specs.Borrow.{Bor}
use Rattle.std.specs.Global.{Vec}
use Rattle.std.proofs.Common.{ap, sym, ◌∙◌, subst, arith}
use Rattle.std.proofs.lemmas.List.{append_assoc, append-nil, map-append}
use Rattle.sdf_lex.specs.NameBridge.{PartIs}
use Rattle.sdf_lex.specs.Names.{called, path_parts}
use Rattle.sdf_tree.specs.PathWords.{parts_left}
use Rattle.annotation_scopes.specs.Walks.{names_seen}

first_is : (divider : ℕ) (path part : List ℕ) (behind : Option (Bor (List ℕ))) → PartIs divider path part behind → path_parts divider path ≡ part ∷ parts_left divider behind
first_is divider path part None h = h
first_is divider path part (Some rest) h = h

-- all are left at first
pub all_left : (divider : ℕ) (names : List (Vec ℕ)) (path : Bor (List ℕ)) → names ≡ [] → names_seen names ++ map called (parts_left divider (Some path)) ≡ map called (path_parts divider path.now)
all_left divider names path e = ap (λ (ns : List (Vec ℕ)). names_seen ns ++ map called (path_parts divider path.now)) e

module _ (divider byte : ℕ) (same : byte ≡ divider) (left behind : Option (Bor (List ℕ))) (text : Bor (List ℕ)) (part : List ℕ) (is : left ≡ Some text) (h : PartIs byte text.now part behind) where
  left_is : parts_left divider left ≡ part ∷ parts_left divider behind
  left_is = ap (λ (o : Option (Bor (List ℕ))). parts_left divider o) is ∙ first_is divider text.now part behind (subst (λ d. PartIs d text.now part behind) same h)

  pub fewer_left : length (parts_left divider behind) < length (parts_left divider left)
  fewer_left = omega (arith, ap length left_is)

  -- one more is listed
  pub one_listed : (names more : List (Vec ℕ)) (name : Vec ℕ) (all : List (List ℕ)) → more ≡ names ++ name ∷ [] → name.items ≡ called part
      → names_seen names ++ map called (parts_left divider left) ≡ all → names_seen more ++ map called (parts_left divider behind) ≡ all
  one_listed names more name all e n so_far =
      ap (λ (ns : List (Vec ℕ)). names_seen ns ++ map called (parts_left divider behind)) e
      ∙ (ap (λ (ns : List (List ℕ)). ns ++ map called (parts_left divider behind)) (map-append (λ (v : Vec ℕ). v.items) names (name ∷ []))
      ∙ (append_assoc (names_seen names) (name.items ∷ []) (map called (parts_left divider behind))
      ∙ (ap (λ (n : List ℕ). names_seen names ++ n ∷ map called (parts_left divider behind)) n
      ∙ (ap (λ (ps : List (List ℕ)). names_seen names ++ map called ps) (sym left_is) ∙ so_far))))

pub all_listed : (divider : ℕ) (left : Option (Bor (List ℕ))) (names : List (Vec ℕ)) (all : List (List ℕ)) → ((x : Bor (List ℕ)) → left ≢ Some x)
    → names_seen names ++ map called (parts_left divider left) ≡ all → names_seen names ≡ all
all_listed divider None names all none so_far = sym (append-nil (names_seen names)) ∙ so_far
all_listed divider (Some path) names all none so_far = absurd (none path refl)
