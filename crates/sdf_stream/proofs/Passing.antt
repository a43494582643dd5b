-- A text is read on token by token.
use Rattle.std.proofs.Common.{◌≡◌, ◌∙◌, ℕ, zero, suc, ◌+◌, ◌-◌, ◌<◌, ◌≤◌, Bool, true, false, List, [], ◌∷◌, ◌++◌, length, map, drop, take, Some, refl, sym, ap, subst, arith}
use Rattle.std.specs.Prelude.{slice_get}
use Rattle.std.proofs.lemmas.List.{append-nil, append_assoc, drop_at, drop-map, length-drop, length-map}
use Rattle.sdf_lex.specs.Lexes.{IsLexedBy, LexesFrom}
use Rattle.sdf_lex.specs.Seen.{lexeme}
use Rattle.sdf_lex.specs.Tokens.{Lexeme}
use Rattle.sdf_lex.specs.declared.tokens.Token.{Token}
use Rattle.sdf_tree.specs.Kinds.{is_right}
use Rattle.sdf_tree.specs.Rules.{mark}
use Rattle.sdf_windows.specs.Movable.{Says}
use Rattle.sdf_read.specs.Depth.{AreShallow, NoneTooDeep, depth_behind, depth_from}
use Rattle.sdf_stream.specs.Windows.{Grown, HasMore, Opened, Passed, Stepped, seen}
use Rattle.sdf_stream.specs.declared.window.Window.{Window}

-- ---- depths

pub depth_more : (d : ℕ) (ts us : List Lexeme) → depth_from d (ts ++ us) ≡ depth_from (depth_from d ts) us
depth_more d [] us = refl
depth_more d (t ∷ ts) us = depth_more (depth_behind d t.meaning) ts us

pub shallow_more : (d : ℕ) (ts us : List Lexeme) → AreShallow d ts → AreShallow (depth_from d ts) us → AreShallow d (ts ++ us)
shallow_more d [] us p q = q
shallow_more d (t ∷ ts) us p q = (p.0, shallow_more (depth_behind d t.meaning) ts us p.1 q)

none_exceeds : (d : ℕ) (ts : List Lexeme) (i : ℕ) (t : Lexeme) → AreShallow d ts → slice_get ts i ≡ Some t → 32 < depth_from d (take (suc i) ts) → ⊥
none_exceeds d [] i t s e lt = absurd cc
none_exceeds d (x ∷ xs) zero t s e lt = omega (arith, s.0, lt)
none_exceeds d (x ∷ xs) (suc i) t s e lt = none_exceeds (depth_behind d x.meaning) xs i t s.1 e lt

pub none_deep : (ts : List Lexeme) → AreShallow 0 ts → NoneTooDeep ts
none_deep ts s i e =
    let next : i + 1 ≡ suc i = omega arith in
    none_exceeds 0 ts i e.0 s e.1 (subst (λ (n : ℕ). 32 < depth_from 0 (take n ts)) next e.2)

-- ---- one place behind another

pub passed_none : (a b : Window) → a.at ≡ b.at → a.rest.now ≡ b.rest.now → b.depth ≡ a.depth → Passed a b []
passed_none a b p q r = record {
  goes_on = λ others o h. rw (p, q) (subst (λ (xs : List Lexeme). LexesFrom xs b.at b.rest.now o) (append-nil others) h);
  depth = r;
  shallow = tt;
  nearer = let e : length a.rest.now ≡ length b.rest.now = ap length q in omega (arith, e);
}

pub passed_on : (a b c : Window) (ts us : List Lexeme) → Passed a b ts → Passed b c us → Passed a c (ts ++ us)
passed_on a b c ts us p q = record {
  goes_on = λ others o h. p.goes_on others o (q.goes_on (others ++ ts) o (subst (λ (xs : List Lexeme). LexesFrom xs c.at c.rest.now o) (sym (append_assoc others ts us)) h));
  depth = q.depth ∙ (ap (λ (d : ℕ). depth_from d us) p.depth ∙ sym (depth_more a.depth ts us));
  shallow = shallow_more a.depth ts us p.shallow (subst (λ (d : ℕ). AreShallow d us) p.depth q.shallow);
  nearer = omega (arith, p.nearer, q.nearer);
}

pub grown_none : (a : Window) → Grown a a
grown_none a = record { more = []; added = sym (append-nil (seen a)); passed = passed_none a a refl refl refl }

pub grown_on : (a b c : Window) → Grown a b → Grown b c → Grown a c
grown_on a b c p q = record {
  more = p.more ++ q.more;
  added = q.added ∙ (ap (λ (xs : List Lexeme). xs ++ q.more) p.added ∙ append_assoc (seen a) p.more q.more);
  passed = passed_on a b c p.more q.more p.passed q.passed;
}

-- a piece more
pub stepped : (a b : Window) (size count : ℕ) (ts new : List Token) (m : IsLexedBy a.at a.rest.now size (seen a) (map lexeme ts)) → b.tokens.items ≡ ts → b.at ≡ a.at + size → b.rest.now ≡ drop size a.rest.now
    → (0 < size) × (size ≤ length a.rest.now) → count ≡ length a.tokens.items → new ≡ drop count ts → b.depth ≡ depth_from a.depth (map lexeme new) → AreShallow a.depth (map lexeme new) → Stepped a b
stepped a b size count ts new m bt at rest some n e depth shallow = record { grown = grown; nearer = nearer }
  where
    added : map lexeme new ≡ m.more
    added =
        let size_is : length (seen a) ≡ count = length-map a.tokens.items lexeme ∙ sym n in
        ap (map lexeme) e ∙ (sym (drop-map lexeme count ts) ∙ (ap (drop count) m.added ∙ drop_at (seen a) m.more count size_is))

    nearer : length b.rest.now < length a.rest.now
    nearer = let e : length b.rest.now ≡ length a.rest.now - size = ap length rest ∙ length-drop size a.rest.now in omega (arith, e, some.0, some.1)

    grown : Grown a b
    grown = record {
      more = m.more;
      added = ap (map lexeme) bt ∙ m.added;
      passed = record {
        goes_on = λ others o h. m.goes_on others o (rw (sym at, sym rest) h);
        depth = depth ∙ ap (depth_from a.depth) added;
        shallow = subst (AreShallow a.depth) added shallow;
        nearer = omega (arith, nearer);
      };
    }

-- ---- what is opened

pub from_none : (a c b : Window) → Passed a c [] → seen c ≡ [] → Grown c b → Passed a b (seen b)
from_none a c b p none g = subst (Passed a b) (sym (g.added ∙ ap (λ (xs : List Lexeme). xs ++ g.more) none)) (passed_on a c b [] g.more p g.passed)

pub closing_opened : (a c b : Window) (m : Bool) → Passed a c [] → seen c ≡ [] → HasMore c b m → m ≡ true → Says (mark is_right) (seen b) tt → Opened a b false
closing_opened a c b false p none h i says = absurd cc
closing_opened a c b true p none h i says = record { passed = from_none a c b p none h.grown; some = omega (arith, p.nearer, h.some refl); closes = λ e. says }

pub more_opened : (a c b d : Window) (m n : Bool) → Passed a c [] → seen c ≡ [] → HasMore c b m → m ≡ true → HasMore b d n → n ≡ true → Opened a d true
more_opened a c b d true true p none h i k j = record {
  passed = from_none a c d p none (grown_on c b d h.grown k.grown);
  some = omega (arith, p.nearer, h.some refl, k.some refl);
  closes = λ e. absurd cc;
}
more_opened a c b d false n p none h i k j = absurd cc
more_opened a c b d true false p none h i k j = absurd cc
