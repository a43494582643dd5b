-- Text that isn't taken changes nothing but branches.
use Rattle.std.proofs.Common.{◌≡◌, ℕ, List, length, Bool, true, false, refl, sym, subst, inl, inr}
use Rattle.std.specs.Prelude.{Option, Some, None, Ok, Err, ◌==◌, drop, if◌then◌else◌}
use Rattle.std.proofs.lemmas.Bool.{cases_Bool}
use Rattle.sg_text.specs.declared.places.Place.{Place}
use Rattle.vl_lex.specs.State.{Word, Waiting, State, Outcome, is_taken, is_looked_at, waits}
use Rattle.vl_lex.specs.Directives.{directive_of, is_conditional, words_wanted, with_next_text, without_branch, outcome_of_branches, or_bad_directive, with_branches, with_branch, test_of, outcome_of_directive}
use Rattle.vl_lex.specs.Effects.{Effect, place_at, fault_in, apply_or_wait, untaken_outcome, first_words, is_use, effect_at, effect_of, effect}
use Rattle.vl_lex.specs.Lexes.{Leads, Expands}
use Rattle.vl_lex.specs.Laws.{Keeps}
use Rattle.vl_lex.specs.declared.faults.Found.{Found}
use Rattle.vl_lex.specs.declared.branches.Branch.{Branch}
use Rattle.vl_lex.specs.declared.directives.Directive.{Directive}
use Rattle.vl_lex.specs.declared.directives.Directive.TheVariants.{Timescale, ResetAll, CellDefine, EndCellDefine, DefaultNetType, Define, Undef, IfDef, IfNDef, ElsIf, Else, EndIf, NoEffect}
use Rattle.vl_lex.specs.declared.origins.Origin.{Origin}
use Rattle.vl_pieces.specs.declared.pieces.Class.{Class}

-- a state that an outcome is keeps all but branches
abbrev KeepsOk : State → Outcome → Type 0
KeepsOk s (Ok t) = Keeps s t
KeepsOk s (Err f) = Unit {0}

pub same : (s : State) → Keeps s s
same s = record { tokens = refl; macros = refl; settings = refl; mode = refl }

-- the same state, but for its branches
other_branches : (s : State) (branches : List Branch) → Keeps s (with_branches s branches)
other_branches s branches = record { tokens = refl; macros = refl; settings = refl; mode = refl }

keeps_given : {A : Type 0} (s : State) (place : Place) (f : A → Outcome) (o : Option A) → ((a : A) → KeepsOk s (f a)) → KeepsOk s (or_bad_directive place f o)
keeps_given s place f None h = tt
keeps_given s place f (Some a) h = h a

keeps_branched : (s : State) (place : Place) (o : Option (List Branch)) → KeepsOk s (outcome_of_branches place s o)
keeps_branched s place None = tt
keeps_branched s place (Some branches) = other_branches s branches

keeps_applied : (d : Directive) (place : Place) (words : List Word) (s : State) → is_conditional d ≡ true → KeepsOk s (outcome_of_directive d place words s)
keeps_applied IfDef place words s h = keeps_given s place _ (test_of true s.macros words) (λ test. other_branches s _)
keeps_applied IfNDef place words s h = keeps_given s place _ (test_of false s.macros words) (λ test. other_branches s _)
keeps_applied ElsIf place words s h = keeps_given s place _ (test_of true s.macros words) (λ test. keeps_branched s place (with_next_text test false s.branches))
keeps_applied Else place words s h = keeps_branched s place (with_next_text true true s.branches)
keeps_applied EndIf place words s h = keeps_branched s place (without_branch s.branches)
keeps_applied Timescale place words s h = absurd (cc)
keeps_applied ResetAll place words s h = absurd (cc)
keeps_applied CellDefine place words s h = absurd (cc)
keeps_applied EndCellDefine place words s h = absurd (cc)
keeps_applied DefaultNetType place words s h = absurd (cc)
keeps_applied Define place words s h = absurd (cc)
keeps_applied Undef place words s h = absurd (cc)
keeps_applied NoEffect place words s h = absurd (cc)

no_more : (s : State) (o : Outcome) → KeepsOk (record s { waiting = None }) o → KeepsOk s o
no_more s (Ok t) h = record { tokens = h.tokens; macros = h.macros; settings = h.settings; mode = h.mode }
no_more s (Err f) h = tt

keeps_if : (b : Bool) (s : State) (o p : Outcome) → KeepsOk s o → KeepsOk s p → KeepsOk s (if b then o else p)
keeps_if true s o p h k = h
keeps_if false s o p h k = k

keeps_ready : (w : Waiting) (s : State) → is_conditional w.directive ≡ true → KeepsOk s (apply_or_wait w s)
keeps_ready w s h =
    keeps_if (length w.words == words_wanted w.directive s.branches) s (outcome_of_directive w.directive w.place w.words (record s { waiting = None })) (Ok (waits w s))
    (no_more s (outcome_of_directive w.directive w.place w.words (record s { waiting = None })) (keeps_applied w.directive w.place w.words (record s { waiting = None }) h))
    (record { tokens = refl; macros = refl; settings = refl; mode = refl })

keeps_passed : (place : Place) (d : Option Directive) (s : State) → KeepsOk s (untaken_outcome place d s)
keeps_passed place None s = same s
keeps_passed place (Some d) s = elim (cases_Bool (is_conditional d)) [
  | inl y ↦ rw y (keeps_ready (first_words d place) s y)
  | inr n ↦ rw n (same s)
]

keeps_piece : (b : Bool) (place : Place) (d : Option Directive) (s : State) → KeepsOk s (if b then untaken_outcome place d s else Ok s)
keeps_piece true place d s = keeps_passed place d s
keeps_piece false place d s = same s

of_outcome : (s t : State) (o : Outcome) → Ok t ≡ o → KeepsOk s o → Keeps s t
of_outcome s t o e h = subst (λ p. KeepsOk s p) (sym e) h

keeps_effect : (left : ℕ) (f : Option Found) (origin : Origin) (at : ℕ) (c : Class) (bytes : List ℕ) (s t : State) → is_taken s.branches ≡ false
    → Leads (Expands left) (effect_of f None origin at c bytes s) (Ok t) → Keeps s t
keeps_effect left (Some f) origin at c bytes s t n h = absurd (cc)
keeps_effect left None origin at c bytes s t n h =
    let k : Leads (Expands left) (effect_at false origin (place_at origin at) c bytes s) (Ok t) = rw n at h in
    of_outcome s t _ k (keeps_piece (is_use c) (place_at origin at) (directive_of (drop 1 bytes)) s)

pub untaken_piece : (left : ℕ) (origin : Origin) (at : ℕ) (c : Class) (bytes : List ℕ) (s t : State) → s.waiting ≡ None → is_taken s.branches ≡ false
    → Leads (Expands left) (effect origin at c bytes s) (Ok t) → Keeps s t
untaken_piece left origin at c bytes s t w n h =
    let P : Option Waiting → Type 0 = λ v. Leads (Expands left) (effect_of (fault_in (is_looked_at v s.branches) c bytes) v origin at c bytes s) (Ok t) in
    keeps_effect left (fault_in (is_taken s.branches) c bytes) origin at c bytes s t n (subst P w h)
