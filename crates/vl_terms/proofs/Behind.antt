-- Parts behind others are those of a rule that begins with the others.
use Rattle.std.proofs.Common.{◌≡◌, ℕ, List, [], ◌++◌, Result, Ok, Err, refl, map}
use Rattle.grammar.specs.Reading.{◌>>=◌, Gives}
use Rattle.grammar.specs.Rule.{◌∙∙◌, mapped, many, read_many}
use Rattle.grammar.specs.declared.ReadFault.{ReadFault}
use Rattle.vl_token.specs.Tokens.{Lexeme}
use Rattle.vl_tree.specs.Kinds.{kind_of}
use Rattle.vl_tree.specs.Rules.{Grammar}
use Rattle.vl_terms.specs.Lists.{read_behind}

abbrev pub all_of : {A : Type 0} → List A × ℕ → Result (List A × ℕ) ℕ
all_of y = Ok ([] ++ y.0, y.1)

-- behind none stand all
pub behind_none : {A X : Type 0} (view : X → A) (items : List X) (a : Grammar A) (ts : List Lexeme) (i : ℕ) → items ≡ [] → read_behind (map view items) a ts i ≡ read_many kind_of a ts i
behind_none {A} view items a ts i e = rw e (go (read_many kind_of a ts i))
  where
    go : (r : Result (List A × ℕ) ℕ) → (r >>= all_of) ≡ r
    go (Ok y) = refl
    go (Err n) = refl

module _ {A B X : Type 0} (a : Grammar B) (p : Grammar A) (front : B → List A) (view : X → A) where
  abbrev with_first : B → List A × ℕ → Result ((B × List A) × ℕ) ℕ
  with_first x y = Ok ((x, y.0), y.1)

  abbrev joined : (B × List A) × ℕ → Result (List A × ℕ) ℕ
  joined z = Ok (front z.0.0 ++ z.0.1, z.1)

  abbrev behind_first : B → List A × ℕ → Result (List A × ℕ) ℕ
  behind_first x y = Ok (front x ++ y.0, y.1)

  -- a first part, and what it puts before the others
  pub behind_one : (ts : List Lexeme) (i : ℕ) (x : B) (j : ℕ) (items : List X) → a.read ts i ≡ Ok (x, j) → map view items ≡ front x → read_behind (map view items) p ts j ≡ (mapped (λ z. front z.0 ++ z.1) (a ∙∙ many kind_of p)).read ts i
  behind_one ts i x j items h e = rw (h, e) (go (read_many kind_of p ts j))
    where
      go : (r : Result (List A × ℕ) ℕ) → (r >>= behind_first x) ≡ (r >>= with_first x) >>= joined
      go (Ok y) = refl
      go (Err n) = refl

-- what gives one reading gives another that is the same
pub gives_same : {X Y : Type 0} (view : X → Y) (result : Result X ReadFault) (read other : Result Y ℕ) → read ≡ other → Gives view result read → Gives view result other
gives_same view result read other e g = rw (← e) g
