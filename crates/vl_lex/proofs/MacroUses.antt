-- What a macro's text gives stands at the use.
use Rattle.std.proofs.Common.{◌≡◌, ℕ, zero, suc, ◌+◌, List, [], ◌∷◌, ◌++◌, length, take, drop, Bool, true, false, refl, sym, ap, ◌∙◌, subst, append_assoc}
use Rattle.std.specs.Prelude.{Option, Some, None, Ok, Err, ◌==◌, ◌||◌, not, if◌then◌else◌}
use Rattle.std.specs.List.{prefix_len}
use Rattle.std.proofs.lemmas.List.{append-nil}
use Rattle.sg_text.specs.declared.places.Place.{Place}
use Rattle.vl_token.specs.Tokens.{Meaning, Lexeme}
use Rattle.sg_text.specs.Names.{is_name_byte}
use Rattle.vl_pieces.specs.Bytes.{is_blank}
use Rattle.vl_lex.specs.State.{Word, Waiting, State, Fault, Outcome, fault, is_taken, is_looked_at, waits}
use Rattle.vl_lex.specs.Directives.{directive_of, is_conditional, words_wanted, with_next_text, without_branch, outcome_of_branches, or_bad_directive, scale_of, name_of, implicit_from, test_of, with_macro, outcome_of_directive}
use Rattle.vl_pieces.specs.Meanings.{meaning_of}
use Rattle.vl_pieces.specs.Modes.{Piece}
use Rattle.vl_lex.specs.Effects.{Effect, comes_to, expands, defines, place_at, tokens_at, taken_piece, fault_in, apply_or_wait, with_word, gap_outcome, is_define, stops, define_effect, line_effect, begins_arguments, begins_name, word_effect, use_effect, tick_effect, untaken_outcome, first_words, is_use, effect_at, effect_of, effect}
use Rattle.vl_lex.specs.Lexes.{or_state, Leads, Then, Reads, IsRead, Expands}
use Rattle.vl_lex.specs.Laws.{AreAt, AddsAt}
use Rattle.vl_lex.specs.declared.faults.LexKind.{LexKind}
use Rattle.vl_lex.specs.declared.faults.LexKind.TheVariants.{BadDirective, UnknownDirective}
use Rattle.vl_lex.specs.declared.faults.Found.{Found}
use Rattle.vl_lex.specs.declared.branches.Branch.{Branch}
use Rattle.vl_lex.specs.declared.directives.Directive.{Directive}
use Rattle.vl_lex.specs.declared.directives.Directive.TheVariants.{Timescale, ResetAll, CellDefine, EndCellDefine, DefaultNetType, Define, Undef, IfDef, IfNDef, ElsIf, Else, EndIf, NoEffect}
use Rattle.vl_lex.specs.declared.origins.Origin.{Origin}
use Rattle.vl_lex.specs.declared.origins.Origin.TheVariants.{File, Macro as InMacro}
use Rattle.vl_pieces.specs.declared.pieces.Class.{Class}
use Rattle.vl_pieces.specs.declared.pieces.Class.TheVariants as class

-- ---- what adds no token

abbrev SameOk : State → Outcome → Type 0
SameOk s (Ok t) = t.tokens ≡ s.tokens
SameOk s (Err f) = Unit {0}

same_given : {A : Type 0} (s : State) (place : Place) (f : A → Outcome) (o : Option A) → ((a : A) → SameOk s (f a)) → SameOk s (or_bad_directive place f o)
same_given s place f None h = tt
same_given s place f (Some a) h = h a

same_branched : (s : State) (place : Place) (o : Option (List Branch)) → SameOk s (outcome_of_branches place s o)
same_branched s place None = tt
same_branched s place (Some branches) = refl

same_applied : (d : Directive) (place : Place) (words : List Word) (s : State) → SameOk s (outcome_of_directive d place words s)
same_applied Timescale place words s = same_given s place _ (scale_of words) (λ scale. refl)
same_applied ResetAll place words s = refl
same_applied CellDefine place words s = refl
same_applied EndCellDefine place words s = refl
same_applied DefaultNetType place words s = same_given s place _ (implicit_from (name_of words)) (λ implicit. refl)
same_applied Define place words s = tt
same_applied Undef place words s = same_given s place _ (name_of words) (λ name. refl)
same_applied IfDef place words s = same_given s place _ (test_of true s.macros words) (λ test. refl)
same_applied IfNDef place words s = same_given s place _ (test_of false s.macros words) (λ test. refl)
same_applied ElsIf place words s = same_given s place _ (test_of true s.macros words) (λ test. same_branched s place (with_next_text test false s.branches))
same_applied Else place words s = same_branched s place (with_next_text true true s.branches)
same_applied EndIf place words s = same_branched s place (without_branch s.branches)
same_applied NoEffect place words s = refl

-- a waiting directive counts for no token
same_else : (s u : State) (o : Outcome) → u.tokens ≡ s.tokens → SameOk u o → SameOk s o
same_else s u (Ok t) e h = h ∙ e
same_else s u (Err f) e h = tt

same_if : (b : Bool) (s : State) (o p : Outcome) → SameOk s o → SameOk s p → SameOk s (if b then o else p)
same_if true s o p h k = h
same_if false s o p h k = k

same_ready : (w : Waiting) (s : State) → SameOk s (apply_or_wait w s)
same_ready w s =
    let applies = same_applied w.directive w.place w.words (record s { waiting = None }) in
    same_if (length w.words == words_wanted w.directive s.branches) s (outcome_of_directive w.directive w.place w.words (record s { waiting = None })) (Ok (waits w s))
    (same_else s (record s { waiting = None }) (outcome_of_directive w.directive w.place w.words (record s { waiting = None })) refl applies) refl

same_passed : (place : Place) (d : Option Directive) (s : State) → SameOk s (untaken_outcome place d s)
same_passed place None s = refl
same_passed place (Some d) s = same_if (is_conditional d) s (apply_or_wait (first_words d place) s) (Ok s) (same_ready (first_words d place) s) refl

abbrev HasTokens : List Lexeme → Outcome → Type 0
HasTokens tokens (Ok t) = t.tokens ≡ tokens
HasTokens tokens (Err f) = Unit {0}

-- ---- what is added stands at a place

adds_none : (place : Place) (s t : State) → t.tokens ≡ s.tokens → AddsAt place s t
adds_none place s t e = ([], e ∙ sym (append-nil s.tokens), tt)

adds_placed : (place : Place) (m : Option Meaning) → AreAt place (tokens_at place m)
adds_placed place None = tt
adds_placed place (Some m) = (refl, tt)

are_both : (place : Place) (xs ys : List Lexeme) → AreAt place xs → AreAt place ys → AreAt place (xs ++ ys)
are_both place [] ys h k = k
are_both place (x ∷ xs) ys h k = (h.0, are_both place xs ys h.1 k)

adds_then : (place : Place) (s t u : State) → AddsAt place s t → AddsAt place t u → AddsAt place s u
adds_then place s t u h k = (h.0 ++ k.0, k.1 ∙ ap (λ l. l ++ k.0) h.1 ∙ append_assoc s.tokens h.0 k.0, are_both place h.0 k.0 h.2 k.2)

adds_same : (place : Place) (s t : State) (o : Outcome) → Ok t ≡ o → SameOk s o → AddsAt place s t
adds_same place s t o e h = adds_none place s t (let P : Outcome → Type 0 = λ p. SameOk s p in subst P (sym e) h)

module _ (E : Place → List ℕ → State → Outcome → Type 0) (place : Place) (adds : (text : List ℕ) (s t : State) → E place text s (Ok t) → AddsAt place s t) (s : State) where
  -- whatever state an effect leads to, tokens at the place come to those of s
  abbrev By : Effect → Type 0
  By e = (t : State) → Leads E e (Ok t) → AddsAt place s t

  by_if : (b : Bool) (e f : Effect) → By e → By f → By (if b then e else f)
  by_if true e f h k = h
  by_if false e f h k = k

  by_stops : (kind : LexKind) (at : Place) → By (stops kind at)
  by_stops kind at t h = absurd (cc)

  by_same : (o : Outcome) → SameOk s o → By (comes_to o)
  by_same o h t e = adds_same place s t o e h

  by_found : (origin : Origin) (start : ℕ) (text : List ℕ) (u : State) → u.tokens ≡ s.tokens → By (defines origin start text u)
  by_found origin start text u e t h = found h.0 h.2
    where
      found : (f : Option Fault) → Ok t ≡ or_state f u → AddsAt place s t
      found None k = adds_same place s t (Ok u) k e
      found (Some f) k = absurd (cc)

  by_defined : (origin : Origin) (start : ℕ) (at : Place) (name text : List ℕ) (u : State) → u.tokens ≡ s.tokens → By (define_effect origin start at name text u)
  by_defined origin start at name text u e =
      by_if (begins_arguments text) (stops BadDirective at) (defines origin start text (with_macro name text u)) (by_stops BadDirective at) (by_found origin start text (with_macro name text u) e)

  by_line : (origin : Origin) (start : ℕ) (at : Place) (line : List ℕ) (u : State) → u.tokens ≡ s.tokens → By (line_effect origin start at line u)
  by_line origin start at line u e =
      let blanks : ℕ = prefix_len is_blank line in
      let bytes : List ℕ = drop blanks line in
      let size : ℕ = prefix_len is_name_byte bytes in
      by_if ((blanks == 0) || not (begins_name bytes)) (stops BadDirective at) (define_effect origin (start + blanks + size) at (take size bytes) (drop size bytes) u) (by_stops BadDirective at)
      (by_defined origin (start + blanks + size) at (take size bytes) (drop size bytes) u e)

  same_skipped : (w : Waiting) → SameOk s (gap_outcome w s)
  same_skipped w = same_if (is_define w.directive) s (fault BadDirective w.place) (Ok s) tt refl

  by_word : (is_name : Bool) (bytes : List ℕ) (w : Waiting) → By (comes_to (apply_or_wait (with_word is_name bytes w) s))
  by_word is_name bytes w = by_same (apply_or_wait (with_word is_name bytes w) s) (same_ready (with_word is_name bytes w) s)

  by_awaited : (origin : Origin) (at : ℕ) (w : Waiting) (c : Class) (bytes : List ℕ) → By (word_effect origin at w c bytes s)
  by_awaited origin at w class.Gap bytes = by_same (gap_outcome w s) (same_skipped w)
  by_awaited origin at w class.Attribute bytes = by_same (gap_outcome w s) (same_skipped w)
  by_awaited origin at w class.Line bytes = by_line origin at w.place bytes (record s { waiting = None }) refl
  by_awaited origin at w class.Use bytes = by_stops BadDirective w.place
  by_awaited origin at w class.Name bytes = by_word true bytes w
  by_awaited origin at w c bytes = by_word false bytes w

  by_used : (text : Option (List ℕ)) → By (use_effect place text s)
  by_used None = by_stops UnknownDirective place
  by_used (Some text) = adds text s

  by_taken : (c : Class) (bytes : List ℕ) → By (comes_to (Ok (taken_piece place c bytes s)))
  by_taken c bytes t h =
      let m : Option Meaning = meaning_of c bytes s.settings in
      let P : Outcome → Type 0 = λ o. HasTokens (s.tokens ++ tokens_at place m) o in
      (tokens_at place m, subst P (sym h) refl, adds_placed place m)

  by_piece : (taken : Bool) (c : Class) (bytes : List ℕ) → By (effect_at taken (InMacro place) place c bytes s)
  by_piece true c bytes = by_if (is_use c) (use_effect place (s.macros (drop 1 bytes)) s) (comes_to (Ok (taken_piece place c bytes s))) (by_used (s.macros (drop 1 bytes))) (by_taken c bytes)
  by_piece false c bytes =
      by_same (if is_use c then untaken_outcome place (directive_of (drop 1 bytes)) s else Ok s) (same_if (is_use c) s (untaken_outcome place (directive_of (drop 1 bytes)) s) (Ok s) (same_passed place (directive_of (drop 1 bytes)) s) refl)

  by_effect : (f : Option Found) (w : Option Waiting) (at : ℕ) (c : Class) (bytes : List ℕ) → By (effect_of f w (InMacro place) at c bytes s)
  by_effect (Some f) w at c bytes = by_stops f.kind place
  by_effect None (Some w) at c bytes = by_awaited (InMacro place) at w c bytes
  by_effect None None at c bytes = by_piece (is_taken s.branches) c bytes

module _ (E : Place → List ℕ → State → Outcome → Type 0) (place : Place) (adds : (text : List ℕ) (s t : State) → E place text s (Ok t) → AddsAt place s t) where
  adds_after : (s t : State) (between : Outcome) (R : State → Type 0) → ((next : State) → Ok next ≡ between → AddsAt place s next) → ((next : State) → R next → AddsAt place next t)
      → Then between R (λ f. Ok t ≡ Err f) → AddsAt place s t
  adds_after s t (Ok next) R first later rest = adds_then place s next t (first next refl) (later next rest)
  adds_after s t (Err f) R first later rest = absurd (cc)

  adds_reads : (at : ℕ) (text : List ℕ) (s : State) (ps : List Piece) (t : State) → Reads E (InMacro place) at text s ps (Ok t) → AddsAt place s t
  adds_reads at text s [] t h = adds_same place s t (Ok s) h.1 refl
  adds_reads at text s (p ∷ ps) t h =
      let bytes : List ℕ = take p.size text in
      let L : Outcome → Type 0 = λ o. Leads E (effect (InMacro place) at p.class bytes s) o in
      adds_after s t h.1.0 (λ next. Reads E (InMacro place) (at + p.size) (drop p.size text) next ps (Ok t))
      (λ next e. by_effect E place adds s (fault_in (is_looked_at s.waiting s.branches) p.class bytes) s.waiting at p.class bytes next (subst L (sym e) h.1.1))
      (λ next rest. adds_reads (at + p.size) (drop p.size text) next ps t rest) h.1.2

adds_expands : (left : ℕ) (place : Place) (text : List ℕ) (s t : State) → Expands left place text s (Ok t) → AddsAt place s t
unfolding Expands
adds_expands zero place text s t h = absurd (cc)
adds_expands (suc left) place text s t h = adds_reads (Expands left) place (adds_expands left place) 0 text s h.0 t h.1

-- where a name is no directive, it is a macro's use
use_of_macro : (origin : Origin) (place : Place) (name : List ℕ) (s : State) → tick_effect origin place name None s ≡ use_effect place (s.macros name) s
use_of_macro (File n) place name s = refl
use_of_macro (InMacro p) place name s = refl

opens_up : (left : ℕ) (place : Place) (text : List ℕ) (s : State) (o : Outcome) → Expands (suc left) place text s o → IsRead (Expands left) (InMacro place) 0 text s o
unfolding Expands
opens_up left place text s o h = h

pub macro_use : (left : ℕ) (origin : Origin) (at : ℕ) (name text : List ℕ) (s t : State) → s.waiting ≡ None → is_taken s.branches ≡ true → directive_of name ≡ None → s.macros name ≡ Some text
    → Leads (Expands (suc left)) (effect origin at class.Use (96 ∷ name) s) (Ok t)
    → IsRead (Expands left) (InMacro (place_at origin at)) 0 text s (Ok t) × AddsAt (place_at origin at) s t
macro_use left origin at name text s t w n d m h =
    let place : Place = place_at origin at in
    let bytes : List ℕ = 96 ∷ name in
    let E : Place → List ℕ → State → Outcome → Type 0 = Expands (suc left) in
    let W : Option Waiting → Type 0 = λ v. Leads E (effect_of (fault_in (is_looked_at v s.branches) class.Use bytes) v origin at class.Use bytes s) (Ok t) in
    let F : Bool → Type 0 = λ u. Leads E (effect_of (fault_in u class.Use bytes) None origin at class.Use bytes s) (Ok t) in
    let T : Bool → Type 0 = λ u. Leads E (effect_at u origin place class.Use bytes s) (Ok t) in
    let D : Option Directive → Type 0 = λ o. Leads E (tick_effect origin place name o s) (Ok t) in
    let U : Effect → Type 0 = λ e. Leads E e (Ok t) in
    let M : Option (List ℕ) → Type 0 = λ o. Leads E (use_effect place o s) (Ok t) in
    let taken : T true = subst T n (subst F n (subst W w h)) in
    let uses : U (use_effect place (s.macros name) s) = subst U (use_of_macro origin place name s) (subst D d taken) in
    let read : Expands (suc left) place text s (Ok t) = subst M m uses in
    (opens_up left place text s (Ok t) read, adds_expands (suc left) place text s t read)
