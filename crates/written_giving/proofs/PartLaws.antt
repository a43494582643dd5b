-- The parts of timing checks that have entries of their own.
use Rattle.std.proofs.Common.{◌≡◌, Bool, true, false, List, [], ◌∷◌, refl, sym, ◌∙◌, ap, inl, inr}
use Rattle.std.specs.Prelude.{◌↔◌, ◌⊎◌, ℤ, Option, Some, None, IsSome, is_some}
use Rattle.sg_circuit.specs.declared.checks.CheckKind.{CheckKind}
use Rattle.sg_circuit.specs.declared.checks.CheckKind.TheVariants as kind
use Rattle.sg_circuit.specs.declared.checks.Event.{Event}
use Rattle.sg_circuit.specs.Closed.{HasDatum}
use Rattle.sdf_tree.specs.declared.tree.PairCheck.TheVariants as pair
use Rattle.sdf_tree.specs.declared.tree.SingleCheck.TheVariants as single
use Rattle.sdf_tree.specs.Written as written
use Rattle.sdf_tree.specs.Written.{Terminal}
use Rattle.sdf_tree.specs.Meant.{Triple, triple_of, CellCheck, pair_check, single_check, a_check, kind_of_check}
use Rattle.annotation_model.specs.Matching.{limits_for, terminals_of}
use Rattle.written_model.specs.declared.parts.Part.{Part}
use Rattle.written_model.specs.declared.parts.Part.TheVariants as part
use Rattle.written_model.specs.Entries.{parts_of, limit_at}
use Rattle.written_model.specs.Tree.{check_body}
use Rattle.written_giving.proofs.MemberLaws.{Mem}

abbrev pub cell_check : Part → (refer datum : Terminal) → Triple → CellCheck
cell_check part.Setup refer datum t = pair_check pair.Setup datum refer t
cell_check part.Hold refer datum t = pair_check pair.Hold datum refer t
cell_check part.Recovery refer datum t = pair_check pair.Recovery refer datum t
cell_check part.Removal refer datum t = pair_check pair.Removal refer datum t
cell_check part.Skew refer datum t = pair_check pair.Skew refer datum t
cell_check part.Width refer datum t = single_check single.Width refer t
cell_check part.Period refer datum t = single_check single.Period refer t

pub kind-is : (p : Part) (refer datum : Terminal) (v : written.Value) → kind_of_check (check_body p refer datum v) ≡ a_check (cell_check p refer datum (triple_of v))
kind-is part.Setup refer datum v = refl
kind-is part.Hold refer datum v = refl
kind-is part.Recovery refer datum v = refl
kind-is part.Removal refer datum v = refl
kind-is part.Skew refer datum v = refl
kind-is part.Width refer datum v = refl
kind-is part.Period refer datum v = refl

-- parts with two events
abbrev pub has_two : Part → Bool
has_two part.Width = false
has_two part.Period = false
has_two _ = true

abbrev pub second_if : Bool → Terminal → Option Terminal
second_if true datum = Some datum
second_if false datum = None

pub terminals-are : (p : Part) (refer datum : Terminal) (t : Triple) → terminals_of (cell_check p refer datum t) ≡ (refer, second_if (has_two p) datum)
terminals-are part.Setup refer datum t = refl
terminals-are part.Hold refer datum t = refl
terminals-are part.Recovery refer datum t = refl
terminals-are part.Removal refer datum t = refl
terminals-are part.Skew refer datum t = refl
terminals-are part.Width refer datum t = refl
terminals-are part.Period refer datum t = refl

abbrev pub first_part : CheckKind → Part
first_part kind.Setup = part.Setup
first_part kind.Hold = part.Hold
first_part kind.Recovery = part.Recovery
first_part kind.Removal = part.Removal
first_part kind.Skew = part.Skew
first_part kind.Setuphold = part.Setup
first_part kind.Recrem = part.Recovery
first_part kind.Width = part.Width
first_part kind.Period = part.Period

abbrev pub second_part : CheckKind → Option Part
second_part kind.Setuphold = Some part.Hold
second_part kind.Recrem = Some part.Removal
second_part _ = None

module _ (refer datum : Terminal) (t : Triple) where
  pub first-own : (k : CheckKind) → limits_for (cell_check (first_part k) refer datum t) k ≡ (Some t, None)
  first-own kind.Setup = refl
  first-own kind.Hold = refl
  first-own kind.Recovery = refl
  first-own kind.Removal = refl
  first-own kind.Skew = refl
  first-own kind.Setuphold = refl
  first-own kind.Recrem = refl
  first-own kind.Width = refl
  first-own kind.Period = refl

  pub second-own : (k : CheckKind) (p : Part) → second_part k ≡ Some p → limits_for (cell_check p refer datum t) k ≡ (None, Some t)
  second-own kind.Setuphold part.Hold e = refl
  second-own kind.Recrem part.Removal e = refl
  second-own k p e = absurd cc

  pub first-only : (p : Part) (k : CheckKind) → is_some (limits_for (cell_check p refer datum t) k).0 ≡ true → p ≡ first_part k
  first-only part.Setup kind.Setup e = refl
  first-only part.Setup kind.Setuphold e = refl
  first-only part.Hold kind.Hold e = refl
  first-only part.Recovery kind.Recovery e = refl
  first-only part.Recovery kind.Recrem e = refl
  first-only part.Removal kind.Removal e = refl
  first-only part.Skew kind.Skew e = refl
  first-only part.Width kind.Width e = refl
  first-only part.Period kind.Period e = refl
  first-only p k e = absurd cc

  pub second-only : (p : Part) (k : CheckKind) → is_some (limits_for (cell_check p refer datum t) k).1 ≡ true → second_part k ≡ Some p
  second-only part.Hold kind.Setuphold e = refl
  second-only part.Removal kind.Recrem e = refl
  second-only part.Setup kind.Setup e = absurd cc
  second-only part.Recovery kind.Setup e = absurd cc
  second-only part.Skew kind.Setup e = absurd cc
  second-only part.Width kind.Setup e = absurd cc
  second-only part.Period kind.Setup e = absurd cc
  second-only p k e = absurd cc

-- a kind's parts are its first and its second
pub part-of-kind : (k : CheckKind) (ls : List ℤ) (p : Part × ℤ) → Mem p (parts_of k ls) → ((p.0 ≡ first_part k) × (p.1 ≡ limit_at ls 0)) ⊎ ((second_part k ≡ Some p.0) × (p.1 ≡ limit_at ls 1))
part-of-kind k ls p m = by k m
  where
    one : (q : Part) → Mem p ((q, limit_at ls 0) ∷ []) → (p.0 ≡ q) × (p.1 ≡ limit_at ls 0)
    one q m = elim m [
      | inl e ↦ (ap (λ (x : Part × ℤ). x.0) e, ap (λ (x : Part × ℤ). x.1) e)
      | inr n ↦ absurd n
    ]

    two : (q r : Part) → Mem p ((q, limit_at ls 0) ∷ (r, limit_at ls 1) ∷ []) → ((p.0 ≡ q) × (p.1 ≡ limit_at ls 0)) ⊎ ((◌≡◌ {A = Option Part} (Some r) (Some p.0)) × (p.1 ≡ limit_at ls 1))
    two q r m = elim m [
      | inl e ↦ inl (ap (λ (x : Part × ℤ). x.0) e, ap (λ (x : Part × ℤ). x.1) e)
      | inr n ↦ elim n [
        | inl e ↦ inr (ap (λ (x : Part × ℤ). Some x.0) (sym e), ap (λ (x : Part × ℤ). x.1) e)
        | inr n ↦ absurd n
      ]
    ]

    by : (k : CheckKind) → Mem p (parts_of k ls) → ((p.0 ≡ first_part k) × (p.1 ≡ limit_at ls 0)) ⊎ ((second_part k ≡ Some p.0) × (p.1 ≡ limit_at ls 1))
    by kind.Setup m = inl (one part.Setup m)
    by kind.Hold m = inl (one part.Hold m)
    by kind.Recovery m = inl (one part.Recovery m)
    by kind.Removal m = inl (one part.Removal m)
    by kind.Skew m = inl (one part.Skew m)
    by kind.Setuphold m = two part.Setup part.Hold m
    by kind.Recrem m = two part.Recovery part.Removal m
    by kind.Width m = inl (one part.Width m)
    by kind.Period m = inl (one part.Period m)

pub first-in : (k : CheckKind) (ls : List ℤ) → Mem (first_part k, limit_at ls 0) (parts_of k ls)
first-in kind.Setup ls = inl refl
first-in kind.Hold ls = inl refl
first-in kind.Recovery ls = inl refl
first-in kind.Removal ls = inl refl
first-in kind.Skew ls = inl refl
first-in kind.Setuphold ls = inl refl
first-in kind.Recrem ls = inl refl
first-in kind.Width ls = inl refl
first-in kind.Period ls = inl refl

pub second-in : (k : CheckKind) (ls : List ℤ) (p : Part) → second_part k ≡ Some p → Mem (p, limit_at ls 1) (parts_of k ls)
second-in kind.Setuphold ls part.Hold e = inr (inl refl)
second-in kind.Recrem ls part.Removal e = inr (inl refl)
second-in k ls p e = absurd cc

-- a kind has a data event where its parts have one
first-two : (k : CheckKind) → has_two (first_part k) ≡ true → HasDatum k
first-two kind.Width e = absurd cc
first-two kind.Period e = absurd cc
first-two kind.Setup e = tt
first-two kind.Hold e = tt
first-two kind.Recovery e = tt
first-two kind.Removal e = tt
first-two kind.Skew e = tt
first-two kind.Setuphold e = tt
first-two kind.Recrem e = tt

two-first : (k : CheckKind) → HasDatum k → has_two (first_part k) ≡ true
two-first kind.Width h = absurd h
two-first kind.Period h = absurd h
two-first kind.Setup h = refl
two-first kind.Hold h = refl
two-first kind.Recovery h = refl
two-first kind.Removal h = refl
two-first kind.Skew h = refl
two-first kind.Setuphold h = refl
two-first kind.Recrem h = refl

second-two : (k : CheckKind) (p : Part) → second_part k ≡ Some p → has_two p ≡ has_two (first_part k)
second-two kind.Setuphold part.Hold e = refl
second-two kind.Recrem part.Removal e = refl
second-two k p e = absurd cc

pub part-two : (k : CheckKind) (ls : List ℤ) (p : Part × ℤ) (d : Option Event) → Mem p (parts_of k ls) → IsSome d ↔ HasDatum k → has_two p.0 ≡ is_some d
part-two k ls p d m h = same ∙ by (has_two (first_part k)) d refl h
  where
    same : has_two p.0 ≡ has_two (first_part k)
    same = elim (part-of-kind k ls p m) [
      | inl e ↦ ap has_two e.0
      | inr e ↦ second-two k p.0 e.0
    ]

    by : (b : Bool) (d : Option Event) → has_two (first_part k) ≡ b → IsSome d ↔ HasDatum k → b ≡ is_some d
    by true None e h = absurd (let z : false ≡ true = h.1 (first-two k e) in cc)
    by true (Some x) e h = refl
    by false None e h = refl
    by false (Some x) e h = absurd (let z : true ≡ false = sym (two-first k (h.0 refl)) ∙ e in cc)
