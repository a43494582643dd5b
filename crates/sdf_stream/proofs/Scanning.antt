-- Parts of a cell are read one after another, and told.
use Rattle.std.proofs.Common.{◌≡◌, ◌∙◌, Bool, true, false, List, [], ◌∷◌, ◌++◌, None, Option, refl, sym, ap}
use Rattle.std.specs.List.{flat_map}
use Rattle.std.specs.Option.{option_or}
use Rattle.std.proofs.lemmas.List.{append-nil, append_assoc}
use Rattle.sdf_meaning.specs.FirstFaults.{bad_number, crossing}
use Rattle.sdf_meaning.proofs.FirstFaults.{bad_behind, crossing_behind}
use Rattle.sdf_tree.specs.Faults.{Crossing}
use Rattle.sdf_tree.specs.Kinds.{kind_of}
use Rattle.sdf_tree.specs.Meant as meant
use Rattle.sdf_tree.specs.Rules.{Grammar, many}
use Rattle.sdf_tree.specs.Written.{Number}
use Rattle.sdf_tree.proofs.Building.{IsExact}
use Rattle.sdf_windows.specs.Movable.{Moves}
use Rattle.sdf_windows.proofs.Joining.{more_says, none_says}
use Rattle.sdf_stream.specs.Scans.{AreClosed, AreFine, AreScanned, AreTold, Contents, IsScanned, IsTold}
use Rattle.sdf_stream.specs.Windows.{IsOne, Opened, seen}
use Rattle.sdf_stream.specs.declared.window.Window.{Window}
use Rattle.sdf_stream.proofs.Passing.{passed_none, passed_on}

-- ---- faults

none_of_both : {A : Type 0} (p q : Option A) → p ≡ None → q ≡ None → option_or p q ≡ None
none_of_both p q e f = rw (e, f) refl

pub fine_more : (ns ms : List Number) (cs ds : List Crossing) → AreFine ns cs → AreFine ms ds → AreFine (ns ++ ms) (cs ++ ds)
fine_more ns ms cs ds p q = record {
  numbers = sym (bad_behind ns ms) ∙ none_of_both (bad_number ns) (bad_number ms) p.numbers q.numbers;
  crossings = sym (crossing_behind cs ds) ∙ none_of_both (crossing cs) (crossing ds) p.crossings q.crossings;
}

pub flat_last : {A B : Type 0} (f : A → List B) (xs : List A) (x : A) → flat_map f (xs ++ x ∷ []) ≡ flat_map f xs ++ f x
flat_last f [] x = append-nil (f x)
flat_last f (y ∷ ys) x = ap (λ zs. f y ++ zs) (flat_last f ys x) ∙ sym (append_assoc (f y) (flat_map f ys) (f x))

-- ---- one more part

module _ {A : Type 0} (r : Grammar A) (c : Contents A) where
  pub none_scanned : (Came : List meant.Entry → Type 0) (a : Window) → Came [] → AreScanned r c Came a a
  none_scanned Came a came = record {
    values = [];
    tokens = [];
    passed = passed_none a a refl refl refl;
    says = none_says kind_of r;
    told = record { fine = record { numbers = refl; crossings = refl }; came = came };
  }

  -- a part that was read whole
  pub one_scanned : (Came : List meant.Entry → Type 0) (a b : Window) (x : A) → IsOne r a b x → IsTold c Came x → IsScanned r c Came a b
  one_scanned Came a b x one told = record { value = x; more = one.more; passed = one.passed; says = one.says; told = told }

  told_more : (Came One All : List meant.Entry → Type 0) (xs : List A) (x : A) → ((es fs : List meant.Entry) → Came es → One fs → All (es ++ fs)) → AreTold c Came xs → IsTold c One x → AreTold c All (xs ++ x ∷ [])
  told_more Came One All xs x more p q = record {
    fine = rw (flat_last c.numbers xs x, flat_last c.crossings xs x) (fine_more (flat_map c.numbers xs) (c.numbers x) (flat_map c.crossings xs) (c.crossings x) p.fine q.fine);
    came = rw (flat_last c.entries xs x) (more (flat_map c.entries xs) (c.entries x) p.came q.came);
  }

  pub more_scanned : (Came One All : List meant.Entry → Type 0) (a b m d : Window) → IsExact (many r) → Moves r → ((es fs : List meant.Entry) → Came es → One fs → All (es ++ fs))
      → AreScanned r c Came a b → {t : Bool} → Opened b m t → t ≡ true → IsScanned r c One m d → AreScanned r c All a d
  more_scanned Came One All a b m d em mr more p o t q = record {
    values = p.values ++ q.value ∷ [];
    tokens = p.tokens ++ (seen m ++ q.more);
    passed = passed_on a b d p.tokens (seen m ++ q.more) p.passed (passed_on b m d (seen m) q.more o.passed q.passed);
    says = more_says kind_of em mr p.tokens (seen m ++ q.more) p.values q.value p.says q.says;
    told = told_more Came One All p.values q.value more p.told q.told;
  }

  pub all_scanned : (Came : List meant.Entry → Type 0) (a b m : Window) → AreScanned r c Came a b → {t : Bool} → Opened b m t → t ≡ false → AreClosed r c Came a m
  all_scanned Came a b m p o f = record {
    values = p.values;
    tokens = p.tokens;
    ending = seen m;
    passed = passed_on a b m p.tokens (seen m) p.passed o.passed;
    says = p.says;
    closes = o.closes f;
    told = p.told;
  }
