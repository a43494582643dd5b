-- From `ifdef or `ifndef to behind `endif the text that is taken gives what it gives by itself, and the others nothing.
use Rattle.std.proofs.Common.{◌≡◌, ℕ, List, [], ◌∷◌, ◌++◌, take, drop, Bool, true, false, refl, sym, ap, ◌∙◌, subst}
use Rattle.std.specs.Prelude.{Option, Some, None, Ok, ◌==◌, ◌&&◌, ◌||◌, not, if◌then◌else◌}
use Rattle.std.specs.List.{list_all}
use Rattle.sg_text.specs.declared.places.Place.{Place}
use Rattle.vl_pieces.specs.Modes.{IsPiece}
use Rattle.vl_lex.specs.State.{Waiting, State, Outcome, fault, is_taken, is_looked_at, waits}
use Rattle.vl_lex.specs.Directives.{directive_of, is_conditional, words_wanted, with_branch, with_branches, is_defined, as_wanted, outcome_of_directive}
use Rattle.vl_lex.specs.Effects.{Effect, comes_to, place_at, mode_at, fault_in, apply_or_wait, with_word, is_define, tick_effect, untaken_outcome, first_words, effect_at, effect_of, effect}
use Rattle.vl_lex.specs.Laws.{within, Spot, past, behind, ComesTo, IsReadOn, branch, inside, BranchText, takes, skips, IsDirective, AreGaps, IsTest, Rest, ends, has_else, has_elsif, opening, IsConditional}
use Rattle.vl_lex.specs.declared.faults.LexKind.TheVariants.{BadDirective}
use Rattle.vl_lex.specs.declared.branches.Branch.{Branch}
use Rattle.vl_lex.specs.declared.directives.Directive.{Directive}
use Rattle.vl_lex.specs.declared.directives.Directive.TheVariants.{Define, IfDef, IfNDef, ElsIf, Else, EndIf}
use Rattle.vl_lex.specs.declared.origins.Origin.TheVariants.{File}
use Rattle.vl_pieces.specs.declared.modes.Mode.TheVariants.{Plain, Line}
use Rattle.vl_pieces.specs.declared.pieces.Class.TheVariants as class
use Rattle.vl_lex.proofs.TakenBranches.{all_taken}
use Rattle.vl_lex.proofs.SkippedTexts.{comes_on, comes_nowhere, comes_by_piece, comes_within, comes_by_skip, is_read_on}

fault_none : (b : Bool) (bytes : List ℕ) → fault_in b class.Use bytes ≡ None
fault_none true bytes = refl
fault_none false bytes = refl

not_define : (d : Directive) → is_conditional d ≡ true → is_define d ≡ false
not_define Define c = absurd (cc)
not_define _ c = refl

opened : (place : Place) (test : Bool) (bs : List Branch) → is_taken bs ≡ true → with_branch place test bs ≡ branch place test test false ∷ bs
opened place true bs h = ap (λ t. branch place t true false ∷ bs) h
opened place false bs h = ap (λ t. branch place false (not t) false ∷ bs) h

module _ (left file : ℕ) where
  -- ---- a directive, and its name

  at_use : (b : Bool) (place : Place) (bytes : List ℕ) (d : Directive) (s : State) → is_conditional d ≡ true → directive_of (drop 1 bytes) ≡ Some d
      → effect_at b (File file) place class.Use bytes s ≡ comes_to (apply_or_wait (first_words d place) s)
  at_use true place bytes d s c e = ap (λ o. tick_effect (File file) place (drop 1 bytes) o s) e
  at_use false place bytes d s c e =
      let f : Bool → Effect = λ y. comes_to (if y then apply_or_wait (first_words d place) s else Ok s) in
      ap (λ o. comes_to (untaken_outcome place o s)) e ∙ ap f c

  effect_use : (at : ℕ) (bytes : List ℕ) (d : Directive) (s : State) → s.waiting ≡ None → is_conditional d ≡ true → directive_of (drop 1 bytes) ≡ Some d
      → effect (File file) at class.Use bytes s ≡ comes_to (apply_or_wait (first_words d (place_at (File file) at)) s)
  effect_use at bytes d s w c e =
      let place : Place = place_at (File file) at in
      let P : Option Waiting → Type 0 = λ v. effect_of (fault_in (is_looked_at v s.branches) class.Use bytes) v (File file) at class.Use bytes s ≡ comes_to (apply_or_wait (first_words d place) s) in
      subst P (sym w) (ap (λ f. effect_of f None (File file) at class.Use bytes s) (fault_none (is_taken s.branches) bytes) ∙ at_use (is_taken s.branches) place bytes d s c e)

  comes_by_directive : (p : Spot) (s : State) (n : ℕ) (d : Directive) (next : State) → s.waiting ≡ None → is_conditional d ≡ true → IsDirective (mode_at s) d p n
      → apply_or_wait (first_words d (place_at (File file) p.at)) s ≡ Ok next → ComesTo left file p s (past n p) next
  comes_by_directive p s n d next w c h e =
      comes_by_piece left file p s n class.Use next h.piece (effect_use p.at (take n p.text) d s w c h.directive ∙ ap (λ o. comes_to o) e)

  comes_by_gaps : (w : Waiting) (s : State) (p : Spot) (gaps : List ℕ) → is_define w.directive ≡ false → AreGaps p gaps → ComesTo left file p (waits w s) (behind gaps p) (waits w s)
  comes_by_gaps w s p [] n h = comes_nowhere left file p (waits w s)
  comes_by_gaps w s p (k ∷ ks) n h =
      let f : Bool → Effect = λ b. comes_to (if b then fault BadDirective w.place else Ok (waits w s)) in
      let piece : IsPiece (mode_at (waits w s)) p.text k class.Gap = subst (λ b. IsPiece (if b then Line else Plain) p.text k class.Gap) (sym n) h.0 in
      let skipped : effect (File file) p.at class.Gap (take k p.text) (waits w s) ≡ comes_to (Ok (waits w s)) = ap f n in
      comes_on left file p (waits w s) (past k p) (waits w s) (behind ks (past k p)) (waits w s)
      (comes_by_piece left file p (waits w s) k class.Gap (waits w s) piece skipped) (comes_by_gaps w s (past k p) ks n h.1)

  comes_by_test : (p q : Spot) (s next : State) (d : Directive) (name : List ℕ) → s.waiting ≡ None → is_conditional d ≡ true → words_wanted d s.branches ≡ 1 → IsTest (mode_at s) d name p q
      → outcome_of_directive d (place_at (File file) p.at) (record { is_name = true; bytes = name } ∷ []) (record s { waiting = None }) ≡ Ok next → ComesTo left file p s q next
  comes_by_test p q s next d name w c one h e =
      let place : Place = place_at (File file) p.at in
      let first : Waiting = first_words d place in
      let held : State = waits first s in
      let start : Spot = past h.size p in
      let last : Spot = behind h.gaps start in
      let bytes : List ℕ = take h.name_size last.text in
      let plain : is_define d ≡ false = not_define d c in
      let waited : ℕ → Outcome = λ k. if 0 == k then outcome_of_directive d place [] (record s { waiting = None }) else Ok held in
      let done : List ℕ → Outcome = λ l. outcome_of_directive d place (record { is_name = true; bytes = l } ∷ []) (record s { waiting = None }) in
      let ready : ℕ → Effect = λ k. comes_to (if 1 == k then done bytes else Ok (waits (with_word true bytes first) held)) in
      let piece : IsPiece (mode_at held) last.text h.name_size class.Name = subst (λ b. IsPiece (if b then Line else Plain) last.text h.name_size class.Name) (sym plain) h.word in
      let applied : effect (File file) last.at class.Name bytes held ≡ comes_to (Ok next) = ap ready one ∙ ap (λ l. comes_to (done l)) h.spells ∙ ap (λ o. comes_to o) e in
      let to_start : ComesTo left file p s start held = comes_by_directive p s h.size d held w c h.directive (ap waited one) in
      let to_last : ComesTo left file p s last held = comes_on left file p s start held last held to_start (comes_by_gaps first s start h.gaps plain h.between) in
      let to_end : ComesTo left file p s (past h.name_size last) next = comes_on left file p s last held (past h.name_size last) next to_last (comes_by_piece left file last held h.name_size class.Name next piece applied) in
      subst (λ z. ComesTo left file p s z next) (sym h.end) to_end

  comes_by_opening : (wanted : Bool) (p q : Spot) (s : State) (name : List ℕ) → s.waiting ≡ None → is_taken s.branches ≡ true → IsTest (mode_at s) (opening wanted) name p q
      → ComesTo left file p s q (inside s.branches (branch (place_at (File file) p.at) (as_wanted wanted (is_defined name s.macros)) (as_wanted wanted (is_defined name s.macros)) false) s)
  comes_by_opening true p q s name w taken h =
      let place : Place = place_at (File file) p.at in
      let test : Bool = as_wanted true (is_defined name s.macros) in
      let next : State = inside s.branches (branch place test test false) s in
      let words : Bool → ℕ = λ t. if t then 1 else 0 in
      let f : List Branch → Outcome = λ bs. Ok (with_branches (record s { waiting = None }) bs) in
      let g : Option Waiting → Outcome = λ v. Ok (record next { waiting = v }) in
      comes_by_test p q s next IfDef name w refl (ap words taken) h (ap f (opened place test s.branches taken) ∙ ap g (sym w))
  comes_by_opening false p q s name w taken h =
      let place : Place = place_at (File file) p.at in
      let test : Bool = as_wanted false (is_defined name s.macros) in
      let next : State = inside s.branches (branch place test test false) s in
      let words : Bool → ℕ = λ t. if t then 1 else 0 in
      let f : List Branch → Outcome = λ bs. Ok (with_branches (record s { waiting = None }) bs) in
      let g : Option Waiting → Outcome = λ v. Ok (record next { waiting = v }) in
      comes_by_test p q s next IfNDef name w refl (ap words taken) h (ap f (opened place test s.branches taken) ∙ ap g (sym w))

  -- ---- a branch, where all round it is taken

  module _ (round : List Branch) (taken : is_taken round ≡ true) (place : Place) where
    comes_by_elsif : (here found : Bool) (p q : Spot) (s : State) (name : List ℕ) → s.waiting ≡ None → IsTest (mode_at (inside round (branch place here found false) s)) ElsIf name p q
        → ComesTo left file p (inside round (branch place here found false) s) q (inside round (branch place (is_defined name s.macros && not found) (is_defined name s.macros || found) false) s)
    comes_by_elsif here found p q s name w h =
        let next : State = inside round (branch place (is_defined name s.macros && not found) (is_defined name s.macros || found) false) s in
        let words : Bool → ℕ = λ t. if t then 1 else 0 in
        let g : Option Waiting → Outcome = λ v. Ok (record next { waiting = v }) in
        comes_by_test p q (inside round (branch place here found false) s) next ElsIf name w refl (ap words taken) h (ap g (sym w))

    comes_by_else : (here found : Bool) (p : Spot) (s : State) (n : ℕ) → s.waiting ≡ None → IsDirective (mode_at (inside round (branch place here found false) s)) Else p n
        → ComesTo left file p (inside round (branch place here found false) s) (past n p) (inside round (branch place (not found) true true) s)
    comes_by_else here found p s n w h =
        let next : State = inside round (branch place (not found) true true) s in
        let g : Option Waiting → Outcome = λ v. Ok (record next { waiting = v }) in
        comes_by_directive p (inside round (branch place here found false) s) n Else next w refl h (ap g (sym w))

    comes_by_endif : (b : Branch) (p : Spot) (s : State) (n : ℕ) → s.waiting ≡ None → IsDirective (mode_at (inside round b s)) EndIf p n
        → ComesTo left file p (inside round b s) (past n p) (with_branches s round)
    comes_by_endif b p s n w h =
        let g : Option Waiting → Outcome = λ v. Ok (record (with_branches s round) { waiting = v }) in
        comes_by_directive p (inside round b s) n EndIf (with_branches s round) w refl h (ap g (sym w))

    comes_by_text : (b : Branch) (p : Spot) (s : State) (q : Spot) (t : State) → s.waiting ≡ None → BranchText left file round b p s q t → ComesTo left file p (inside round b s) q (inside round b t)
    comes_by_text b p s q t w (takes y h) =
        let lifted : ComesTo left file p (within (b ∷ round) (with_branches s [])) q (within (b ∷ round) t) = comes_within left file (b ∷ round) y taken p (with_branches s []) q t h.reads in
        subst (λ bs. ComesTo left file p (inside round b s) q (with_branches t (bs ++ (b ∷ round)))) h.closed lifted
    comes_by_text b p s q t w (skips n h e) = subst (λ z. ComesTo left file p (inside round b s) q (inside round b z)) (sym e) (comes_by_skip left file p (inside round b s) q w h)

    text_complete : (b : Branch) (p : Spot) (s : State) (q : Spot) (t : State) → s.waiting ≡ None → BranchText left file round b p s q t → t.waiting ≡ None
    text_complete b p s q t w (takes y h) = h.complete
    text_complete b p s q t w (skips n h e) = ap (λ z. z.waiting) e ∙ w

    comes_by_rest : (q : Spot) (t : State) (here found : Bool) (p : Spot) (s : State) → s.waiting ≡ None → Rest left file round place q t here found p s
        → ComesTo left file p (inside round (branch place here found false) s) q (with_branches t round)
    comes_by_rest q t here found p s w (ends _ _ _ _ n h e k) =
        let b : Branch = branch place here found false in
        let ended : ComesTo left file p (inside round b s) (past n p) (with_branches t round) = subst (λ z. ComesTo left file p (inside round b s) (past n p) (with_branches z round)) (sym k) (comes_by_endif b p s n w h) in
        subst (λ z. ComesTo left file p (inside round b s) z (with_branches t round)) (sym e) ended
    comes_by_rest q t here found p s w (has_else _ _ _ _ n end m h text close e) =
        let b : Branch = branch place here found false in
        let c : Branch = branch place (not found) true true in
        let to_text : ComesTo left file p (inside round b s) end (inside round c t) =
        comes_on left file p (inside round b s) (past n p) (inside round c s) end (inside round c t) (comes_by_else here found p s n w h) (comes_by_text c (past n p) s end t w text) in
        let to_end : ComesTo left file p (inside round b s) (past m end) (with_branches t round) =
        comes_on left file p (inside round b s) end (inside round c t) (past m end) (with_branches t round) to_text (comes_by_endif c end t m (text_complete c (past n p) s end t w text) close) in
        subst (λ z. ComesTo left file p (inside round b s) z (with_branches t round)) (sym e) to_end
    comes_by_rest q t here found p s w (has_elsif _ _ _ _ name start end u h text rest) =
        let b : Branch = branch place here found false in
        let now : Bool = is_defined name s.macros && not found in
        let ever : Bool = is_defined name s.macros || found in
        let c : Branch = branch place now ever false in
        let to_text : ComesTo left file p (inside round b s) end (inside round c u) =
        comes_on left file p (inside round b s) start (inside round c s) end (inside round c u) (comes_by_elsif here found p start s name w h) (comes_by_text c start s end u w text) in
        comes_on left file p (inside round b s) end (inside round c u) q (with_branches t round) to_text (comes_by_rest q t now ever end u (text_complete c start s end u w text) rest)

comes_by_conditional : (left file : ℕ) (p q : Spot) (s t : State) → s.waiting ≡ None → list_all (λ b. b.taken) s.branches ≡ true → IsConditional left file p s q t
    → ComesTo left file p s q (with_branches t s.branches)
comes_by_conditional left file p q s t w all h =
    let taken : is_taken s.branches ≡ true = (all_taken s.branches all).0 in
    let place : Place = place_at (File file) p.at in
    let test : Bool = as_wanted h.wanted (is_defined h.name s.macros) in
    let b : Branch = branch place test test false in
    let to_start : ComesTo left file p s h.start (inside s.branches b s) = comes_by_opening left file h.wanted p h.start s h.name w taken h.test in
    let to_text : ComesTo left file p s h.end (inside s.branches b h.between) =
    comes_on left file p s h.start (inside s.branches b s) h.end (inside s.branches b h.between) to_start (comes_by_text left file s.branches taken place b h.start s h.end h.between w h.text) in
    let complete : h.between.waiting ≡ None = text_complete left file s.branches taken place b h.start s h.end h.between w h.text in
    comes_on left file p s h.end (inside s.branches b h.between) q (with_branches t s.branches) to_text (comes_by_rest left file s.branches taken place q t test test h.end h.between complete h.rest)

pub taken_text : (left file : ℕ) (p q : Spot) (s t : State) → s.waiting ≡ None → list_all (λ b. b.taken) s.branches ≡ true → IsConditional left file p s q t
    → ComesTo left file p s q (with_branches t s.branches) × IsReadOn left file p s q (with_branches t s.branches)
taken_text left file p q s t w all h =
    let comes : ComesTo left file p s q (with_branches t s.branches) = comes_by_conditional left file p q s t w all h in
    (comes, is_read_on left file p s q (with_branches t s.branches) comes)
