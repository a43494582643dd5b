-- Lists of which two items disagree: longer ones, and the same items under other keys.
use Rattle.std.proofs.Common.{◌≡◌, sym, ◌∙◌, ap, ℕ, List, ◌++◌, map, Some, slice_get}
use Rattle.std.specs.Prelude.{◌↔◌, All}
use Rattle.written_model.specs.Faults.{Disagree}
use Rattle.written_faults.specs.Reading.{Differ}
use Rattle.written_faults.proofs.PlaceLaws.{get-left, map-get, get-map, all-at}

pub disagree-more : {A K V : Type 0} (key : A → K) (value : A → V) (xs ys : List A) → Disagree key value xs → Disagree key value (xs ++ ys)
disagree-more key value xs ys d = record {
  one = d.one;
  other = d.other;
  place = d.place;
  other_place = d.other_place;
  stands = get-left xs ys d.place d.one d.stands;
  other_stands = get-left xs ys d.other_place d.other d.other_stands;
  same = d.same;
  differ = d.differ;
}

-- keys and values are told apart alike, of items that are good
pub disagree-alike : {A K L V W : Type 0} (Good : A → Type 0) (key : A → K) (value : A → V) (code : A → L) (number : A → W) (xs : List A) → ((i : ℕ) (x : A) → slice_get xs i ≡ Some x → Good x)
    → ((x y : A) → Good x → Good y → key x ≡ key y → code x ≡ code y) → ((x y : A) → Good x → Good y → number x ≡ number y → value x ≡ value y) → Disagree key value xs → Disagree code number xs
disagree-alike Good key value code number xs good keys values d =
    let one = good d.place d.one d.stands in
    let other = good d.other_place d.other d.other_stands in record {
      one = d.one;
      other = d.other;
      place = d.place;
      other_place = d.other_place;
      stands = d.stands;
      other_stands = d.other_stands;
      same = keys d.one d.other one other d.same;
      differ = λ e. d.differ (values d.one d.other one other e);
    }

-- items that were made of others
pub disagree-made : {A B K V : Type 0} (f : A → B) (key : B → K) (value : B → V) (xs : List A) → Disagree (λ x. key (f x)) (λ x. value (f x)) xs → Disagree key value (map f xs)
disagree-made f key value xs d = record {
  one = f d.one;
  other = f d.other;
  place = d.place;
  other_place = d.other_place;
  stands = get-map f xs d.place d.one d.stands;
  other_stands = get-map f xs d.other_place d.other d.other_stands;
  same = d.same;
  differ = d.differ;
}

pub disagree-before : {A B K V : Type 0} (f : A → B) (key : B → K) (value : B → V) (xs : List A) → Disagree key value (map f xs) → Disagree (λ x. key (f x)) (λ x. value (f x)) xs
disagree-before f key value xs d =
    let one = map-get f xs d.place d.one d.stands in
    let other = map-get f xs d.other_place d.other d.other_stands in record {
      one = one.0;
      other = other.0;
      place = d.place;
      other_place = d.other_place;
      stands = one.1;
      other_stands = other.1;
      same = ap key one.2 ∙ (d.same ∙ sym (ap key other.2));
      differ = λ e. d.differ (sym (ap value one.2) ∙ (e ∙ ap value other.2));
    }

-- pairs and entries that are made of the same
pub differ-alike : {X K V L W E : Type 0} (Good : X → Type 0) (pair : X → K × V) (entry : X → E) (key : E → L) (value : E → W) (xs : List X) → All Good xs
    → ((x y : X) → Good x → Good y → (pair x).0 ≡ (pair y).0 → key (entry x) ≡ key (entry y)) → ((x y : X) → Good x → Good y → key (entry x) ≡ key (entry y) → (pair x).0 ≡ (pair y).0)
    → ((x y : X) → (pair x).1 ≡ (pair y).1 → value (entry x) ≡ value (entry y)) → ((x y : X) → value (entry x) ≡ value (entry y) → (pair x).1 ≡ (pair y).1)
    → Differ (map pair xs) ↔ Disagree key value (map entry xs)
differ-alike {X} {K} {V} Good pair entry key value xs good keys codes values numbers = (
  λ d. disagree-made entry key value xs
      (disagree-alike Good (λ x. (pair x).0) (λ x. (pair x).1) (λ x. key (entry x)) (λ x. value (entry x)) xs (all-at Good xs good) keys (λ x y g f. numbers x y)
      (disagree-before pair (λ (p : K × V). p.0) (λ (p : K × V). p.1) xs d)),
  λ d. disagree-made pair (λ (p : K × V). p.0) (λ (p : K × V). p.1) xs
      (disagree-alike Good (λ x. key (entry x)) (λ x. value (entry x)) (λ x. (pair x).0) (λ x. (pair x).1) xs (all-at Good xs good) codes (λ x y g f. values x y)
      (disagree-before entry key value xs d)),
)
