-- Two askings are the same where their parts are.
use Rattle.std.proofs.Common.{◌≡◌, ℕ, List, map, Bool, true, false, refl, sym, ap, Bor, Option, Some, None, option_map}
use mathlib.Core.Bool.{beq}
use Rattle.std.specs.Bool.{Decides}
use Rattle.std.specs.Option.{option_eq}
use Rattle.std.specs.Str.{bytes_eq}
use Rattle.std.specs.Cmp.Lexicographic.{pointwise}
use Rattle.std.specs.Cmp.Derive.Mapped.{pointwise-map}
use Rattle.std.proofs.lemmas.Bool.Decides.{Decides-and, Decides-at, Decides-like}
use Rattle.std.proofs.lemmas.Slice.Eq.{slice_eq-Decides, bytes_eq-Decides}
use Rattle.std.proofs.lemmas.Option.{same_Some}
use Rattle.fit_words.specs.contracts.words.AskedPartialEq.TheImpl as asked_eq
use Rattle.fit_words.specs.declared.words.Asked as code
use Rattle.fit_words.specs.WordsSeen.{asked_seen}

abbrev same_text : Bor (List ℕ) → Bor (List ℕ) → Bool
same_text a b = bytes_eq a.now b.now

names-Decides : (a b : List (Bor (List ℕ))) → Decides (pointwise same_text a b) (map (λ n. n.now) a ≡ map (λ n. n.now) b)
names-Decides a b = slice_eq-Decides bytes_eq-Decides (map (λ n. n.now) a) (map (λ n. n.now) b) (pointwise same_text a b) (sym (pointwise-map (λ (n : Bor (List ℕ)). n.now) bytes_eq a b))

name-Decides : (a b : Option (Bor (List ℕ))) → Decides (option_eq same_text a b) (option_map (λ n. n.now) a ≡ option_map (λ n. n.now) b)
name-Decides None None = (λ _. refl, λ _. refl)
name-Decides None (Some y) = (λ e. cc, λ e. cc)
name-Decides (Some x) None = (λ e. cc, λ e. cc)
name-Decides (Some x) (Some y) =
    let texts = bytes_eq-Decides x.now y.now in (λ e. ap (λ t. Some t) (texts.0 e), λ e. texts.1 (same_Some x.now y.now e))

abbrev asked_equal : code.Asked → code.Asked → Bool
asked_equal a b = asked_eq.eq-value.it a b

bool-Decides : (a b : Bool) → Decides (beq a b) (a ≡ b)
bool-Decides true true = (λ _. refl, λ _. refl)
bool-Decides true false = (λ e. cc, λ e. cc)
bool-Decides false true = (λ e. cc, λ e. cc)
bool-Decides false false = (λ _. refl, λ _. refl)

asked-Decides : (a b : code.Asked) → Decides (asked_equal a b) (asked_seen a ≡ asked_seen b)
asked-Decides a b =
    Decides-like _ (λ h. cc) (λ same. (ap (λ x. x.netlists) same, (ap (λ x. x.out) same, (ap (λ x. x.sdf) same, (ap (λ x. x.top) same, (ap (λ x. x.defines) same, (ap (λ x. x.includes) same, (ap (λ x. x.supply0) same, (ap (λ x. x.supply1) same, (ap (λ x. x.cut) same, (ap (λ x. x.dropped) same, (ap (λ x. x.drop_missing) same, (ap (λ x. x.no_checks) same, (ap (λ x. x.no_notifier) same, ap (λ x. x.is_strict) same))))))))))))))
    (Decides-and _ _ (names-Decides a.netlists.items b.netlists.items) (Decides-and _ _ (bytes_eq-Decides a.out.now b.out.now) (Decides-and _ _ (names-Decides a.sdf.items b.sdf.items)
    (Decides-and _ _ (name-Decides a.top b.top) (Decides-and _ _ (names-Decides a.defines.items b.defines.items) (Decides-and _ _ (names-Decides a.includes.items b.includes.items) (Decides-and _ _ (names-Decides a.supply0.items b.supply0.items) (Decides-and _ _ (names-Decides a.supply1.items b.supply1.items) (Decides-and _ _ (names-Decides a.cut.items b.cut.items) (Decides-and _ _ (names-Decides a.dropped.items b.dropped.items) (Decides-and _ _ (bool-Decides a.drop_missing b.drop_missing) (Decides-and _ _ (names-Decides a.no_checks.items b.no_checks.items) (Decides-and _ _ (names-Decides a.no_notifier.items b.no_notifier.items) (bool-Decides a.is_strict b.is_strict))))))))))))))

pub asked-Decide : (a b : code.Asked) (r : Bool) → r ≡ asked_equal a b → Decides r (asked_seen a ≡ asked_seen b)
asked-Decide a b r e = Decides-at r _ e (asked-Decides a b)
