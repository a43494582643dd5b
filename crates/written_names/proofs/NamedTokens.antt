-- The tokens of a netlist's files: names are good, and numbers short.
use Rattle.std.specs.Prelude.{◌≡◌, ℕ, zero, suc, ◌+◌, ◌^◌, ◌==◌, ◌||◌, not, Bool, true, false, List, [], ◌∷◌, drop, length, take, Option, Some, None, Result, Ok, Err, if◌then◌else◌}
use Rattle.std.specs.List.{AllByRecursion, prefix_len}
use Rattle.std.proofs.Common.{sym, subst}
use Rattle.sg_text.specs.Names.{is_name_byte}
use Rattle.sg_text.specs.declared.places.Place.{Place}
use Rattle.vl_pieces.specs.Bytes.{is_blank}
use Rattle.vl_pieces.specs.Meanings.{meaning_of}
use Rattle.vl_pieces.specs.Modes.{Piece}
use Rattle.vl_pieces.specs.declared.pieces.Class.{Class}
use Rattle.vl_pieces.specs.declared.pieces.Class.TheVariants as class
use Rattle.vl_token.specs.Tokens.{Lexeme}
use Rattle.vl_lex.specs.Directives.{directive_of, implicit_from, is_conditional, name_of, or_bad_directive, outcome_of_branches, outcome_of_directive, scale_of, test_of, with_macro, with_next_text, without_branch, words_wanted}
use Rattle.vl_lex.specs.Effects.{Effect, apply_or_wait, begins_arguments, begins_name, comes_to, define_effect, define_effect_behind, defines, effect, effect_at, effect_of, expands, fault_in, first_words, gap_outcome, is_define, is_use, line_effect, mode_at, place_at, stops, taken_piece, tick_effect, tokens_at, untaken_outcome, use_effect, with_word, word_effect}
use Rattle.vl_lex.specs.Lexes.{Expands, Leads, Lexes, LexesFrom, LexesUnless, Reads, Then, at_end, at_file_end, file_end, or_state, too_large}
use Rattle.vl_lex.specs.State.{Fault, Outcome, State, Waiting, Word, fault, first_state, is_looked_at, is_taken, waits}
use Rattle.vl_lex.specs.declared.branches.Branch.{Branch}
use Rattle.vl_lex.specs.declared.directives.Directive.{Directive}
use Rattle.vl_lex.specs.declared.directives.Directive.TheVariants.{CellDefine, DefaultNetType, Define, Else, ElsIf, EndCellDefine, EndIf, IfDef, IfNDef, NoEffect, ResetAll, Timescale, Undef}
use Rattle.vl_lex.specs.declared.faults.Found.{Found}
use Rattle.vl_lex.specs.declared.faults.LexKind.TheVariants.{BadDirective}
use Rattle.vl_lex.specs.declared.origins.Origin.{Origin}
use Rattle.vl_lex.specs.declared.origins.Origin.TheVariants.{File, Macro as InMacro}
use Rattle.elab_laws.proofs.Lists.{all-append}
use Rattle.written_names.proofs.NamedMeanings.{IsGood, good_piece}
use Rattle.written_names.proofs.NamedPieces.{IsNamedPiece, named_piece}

-- a state whose tokens are good, and an outcome that is one
abbrev IsFine : State → Type 0
IsFine s = AllByRecursion IsGood s.tokens

abbrev ComesFine : Outcome → Type 0
ComesFine (Ok s) = IsFine s
ComesFine (Err f) = Unit {0}

fine_if : (t : Bool) (o p : Outcome) → ComesFine o → ComesFine p → ComesFine (if t then o else p)
fine_if true o p h k = h
fine_if false o p h k = k

-- ---- directives

fine_some : {A : Type 0} (place : Place) (f : A → Outcome) (o : Option A) → ((a : A) → ComesFine (f a)) → ComesFine (or_bad_directive place f o)
fine_some place f None h = tt
fine_some place f (Some a) h = h a

fine_branched : (s : State) (place : Place) (o : Option (List Branch)) → IsFine s → ComesFine (outcome_of_branches place s o)
fine_branched s place None h = tt
fine_branched s place (Some branches) h = h

fine_applied : (d : Directive) (place : Place) (words : List Word) (s : State) → IsFine s → ComesFine (outcome_of_directive d place words s)
fine_applied Timescale place words s h = fine_some place _ (scale_of words) (λ scale. h)
fine_applied ResetAll place words s h = h
fine_applied CellDefine place words s h = h
fine_applied EndCellDefine place words s h = h
fine_applied DefaultNetType place words s h = fine_some place _ (implicit_from (name_of words)) (λ implicit. h)
fine_applied Define place words s h = tt
fine_applied Undef place words s h = fine_some place _ (name_of words) (λ name. h)
fine_applied IfDef place words s h = fine_some place _ (test_of true s.macros words) (λ test. h)
fine_applied IfNDef place words s h = fine_some place _ (test_of false s.macros words) (λ test. h)
fine_applied ElsIf place words s h = fine_some place _ (test_of true s.macros words) (λ test. fine_branched s place (with_next_text test false s.branches) h)
fine_applied Else place words s h = fine_branched s place (with_next_text true true s.branches) h
fine_applied EndIf place words s h = fine_branched s place (without_branch s.branches) h
fine_applied NoEffect place words s h = h

fine_ready : (w : Waiting) (s : State) → IsFine s → ComesFine (apply_or_wait w s)
fine_ready w s h =
    fine_if (length w.words == words_wanted w.directive s.branches) (outcome_of_directive w.directive w.place w.words (record s { waiting = None })) (Ok (waits w s))
    (fine_applied w.directive w.place w.words (record s { waiting = None }) h) h

-- ---- pieces

abbrev LeadsFine : Effect → Type 0
LeadsFine (comes_to o) = ComesFine o
LeadsFine (expands place text s) = IsFine s
LeadsFine (defines origin start text s) = IsFine s

fine_effect_if : (t : Bool) (e f : Effect) → LeadsFine e → LeadsFine f → LeadsFine (if t then e else f)
fine_effect_if true e f h k = h
fine_effect_if false e f h k = k

fine_line : (origin : Origin) (at : ℕ) (place : Place) (line : List ℕ) (s : State) → IsFine s → LeadsFine (line_effect origin at place line s)
fine_line origin at place line s h = behind (prefix_len is_blank line) (drop (prefix_len is_blank line) line)
  where
    behind : (blanks : ℕ) (bytes : List ℕ) → LeadsFine (define_effect_behind origin at place blanks bytes s)
    behind blanks bytes =
        let name = take (prefix_len is_name_byte bytes) bytes in
        let text = drop (prefix_len is_name_byte bytes) bytes in
        fine_effect_if ((blanks == 0) || not (begins_name bytes)) (stops BadDirective place) (define_effect origin (at + blanks + prefix_len is_name_byte bytes) place name text s) tt
        (fine_effect_if (begins_arguments text) (stops BadDirective place) (defines origin (at + blanks + prefix_len is_name_byte bytes) text (with_macro name text s)) tt h)

fine_gap : (w : Waiting) (s : State) → IsFine s → ComesFine (gap_outcome w s)
fine_gap w s h = fine_if (is_define w.directive) (fault BadDirective w.place) (Ok s) tt h

fine_word : (origin : Origin) (at : ℕ) (w : Waiting) (c : Class) (bytes : List ℕ) (s : State) → IsFine s → LeadsFine (word_effect origin at w c bytes s)
fine_word origin at w class.Gap bytes s h = fine_gap w s h
fine_word origin at w class.Attribute bytes s h = fine_gap w s h
fine_word origin at w class.Line bytes s h = fine_line origin at w.place bytes (record s { waiting = None }) h
fine_word origin at w class.Use bytes s h = tt
fine_word origin at w class.Name bytes s h = fine_ready (with_word true bytes w) s h
fine_word origin at w class.Escaped bytes s h = fine_ready (with_word false bytes w) s h
fine_word origin at w class.System bytes s h = fine_ready (with_word false bytes w) s h
fine_word origin at w class.Number bytes s h = fine_ready (with_word false bytes w) s h
fine_word origin at w class.Sized bytes s h = fine_ready (with_word false bytes w) s h
fine_word origin at w class.Symbol bytes s h = fine_ready (with_word false bytes w) s h
fine_word origin at w class.Quoted bytes s h = fine_ready (with_word false bytes w) s h
fine_word origin at w class.Other bytes s h = fine_ready (with_word false bytes w) s h
fine_word origin at w class.BadByte bytes s h = fine_ready (with_word false bytes w) s h
fine_word origin at w class.UnendedComment bytes s h = fine_ready (with_word false bytes w) s h
fine_word origin at w class.UnendedText bytes s h = fine_ready (with_word false bytes w) s h
fine_word origin at w class.Cell bytes s h = fine_ready (with_word false bytes w) s h
fine_word origin at w class.Pair bytes s h = fine_ready (with_word false bytes w) s h

fine_use : (place : Place) (o : Option (List ℕ)) (s : State) → IsFine s → LeadsFine (use_effect place o s)
fine_use place (Some text) s h = h
fine_use place None s h = tt

fine_tick : (origin : Origin) (place : Place) (name : List ℕ) (d : Option Directive) (s : State) → IsFine s → LeadsFine (tick_effect origin place name d s)
fine_tick (InMacro outermost) place name d s h = fine_use place (s.macros name) s h
fine_tick (File n) place name None s h = fine_use place (s.macros name) s h
fine_tick (File n) place name (Some d) s h = fine_ready (first_words d place) s h

fine_untaken : (place : Place) (d : Option Directive) (s : State) → IsFine s → ComesFine (untaken_outcome place d s)
fine_untaken place None s h = h
fine_untaken place (Some d) s h = fine_if (is_conditional d) (apply_or_wait (first_words d place) s) (Ok s) (fine_ready (first_words d place) s h) h

fine_taken : (place : Place) (c : Class) (bytes : List ℕ) (s : State) → IsNamedPiece c bytes → IsFine s → IsFine (taken_piece place c bytes s)
fine_taken place c bytes s k h = all-append IsGood s.tokens (tokens_at place (meaning_of c bytes s.settings)) h (good_piece place c bytes s.settings k)

fine_at : (taken : Bool) (origin : Origin) (place : Place) (c : Class) (bytes : List ℕ) (s : State) → IsNamedPiece c bytes → IsFine s → LeadsFine (effect_at taken origin place c bytes s)
fine_at true origin place c bytes s k h =
    fine_effect_if (is_use c) (tick_effect origin place (drop 1 bytes) (directive_of (drop 1 bytes)) s) (comes_to (Ok (taken_piece place c bytes s)))
    (fine_tick origin place (drop 1 bytes) (directive_of (drop 1 bytes)) s h) (fine_taken place c bytes s k h)
fine_at false origin place c bytes s k h = fine_if (is_use c) (untaken_outcome place (directive_of (drop 1 bytes)) s) (Ok s) (fine_untaken place (directive_of (drop 1 bytes)) s h) h

fine_of : (f : Option Found) (w : Option Waiting) (origin : Origin) (at : ℕ) (c : Class) (bytes : List ℕ) (s : State) → IsNamedPiece c bytes → IsFine s → LeadsFine (effect_of f w origin at c bytes s)
fine_of (Some f) w origin at c bytes s k h = tt
fine_of None (Some w) origin at c bytes s k h = fine_word origin at w c bytes s h
fine_of None None origin at c bytes s k h = fine_at (is_taken s.branches) origin (place_at origin at) c bytes s k h

-- ---- texts

-- what a macro's text comes to is fine
abbrev KeepsFine : (Place → List ℕ → State → Outcome → Type 0) → Type 0
KeepsFine E = (place : Place) (text : List ℕ) (s : State) (o : Outcome) → IsFine s → E place text s o → ComesFine o

fine_checked : (f : Option Fault) (s : State) → IsFine s → ComesFine (or_state f s)
fine_checked None s h = h
fine_checked (Some f) s h = tt

module _ (E : Place → List ℕ → State → Outcome → Type 0) (keeps : KeepsFine E) where
  fine_leads : (e : Effect) (o : Outcome) → LeadsFine e → Leads E e o → ComesFine o
  fine_leads (comes_to outcome) o h k = subst ComesFine (sym k) h
  fine_leads (expands place text s) o h k = keeps place text s o h k
  fine_leads (defines origin start text s) o h k = subst ComesFine (sym k.2) (fine_checked k.0 s h)

  fine_then : (between o : Outcome) (F : State → Type 0) → ComesFine between → ((next : State) → IsFine next → F next → ComesFine o) → Then between F (λ f. o ≡ Err f) → ComesFine o
  fine_then (Ok next) o F h goes k = goes next h k
  fine_then (Err f) o F h goes k = subst ComesFine (sym k) tt

  fine_reads : (origin : Origin) (at : ℕ) (text : List ℕ) (s : State) (ps : List Piece) (o : Outcome) → IsFine s → Reads E origin at text s ps o → ComesFine o
  fine_reads origin at text s [] o h k = subst ComesFine (sym k.1) h
  fine_reads origin at text s (p ∷ ps) o h k =
      let bytes = take p.size text in
      let named = named_piece (mode_at s) text p.size p.class k.0 in
      let led = fine_of (fault_in (is_looked_at s.waiting s.branches) p.class bytes) s.waiting origin at p.class bytes s named h in
      fine_then k.1.0 o (λ next. Reads E origin (at + p.size) (drop p.size text) next ps o) (fine_leads (effect origin at p.class bytes s) k.1.0 led k.1.1) (λ next g r. fine_reads origin (at + p.size) (drop p.size text) next ps o g r) k.1.2

fine_expands : (left : ℕ) → KeepsFine (Expands left)
unfolding Expands
fine_expands zero place text s o h k = subst ComesFine (sym k) tt
fine_expands (suc left) place text s o h k = fine_reads (Expands left) (fine_expands left) (InMacro place) 0 text s k.0 o h k.1

-- ---- files

abbrev AllGood : Result (List Lexeme) Fault → Type 0
AllGood (Ok tokens) = AllByRecursion IsGood tokens
AllGood (Err f) = Unit {0}

good_end : (branches : List Branch) (s : State) → IsFine s → AllGood (at_end branches s)
good_end [] s h = h
good_end (b ∷ bs) s h = tt

fine_end : (w : Option Waiting) (s : State) → IsFine s → ComesFine (file_end w s)
fine_end None s h = h
fine_end (Some w) s h = tt

fine_file : (o : Outcome) → ComesFine o → ComesFine (at_file_end o)
fine_file (Ok s) h = fine_end s.waiting s h
fine_file (Err f) h = tt

good_then : (between : Outcome) (o : Result (List Lexeme) Fault) (F : State → Type 0) → ComesFine between → ((next : State) → IsFine next → F next → AllGood o) → Then between F (λ f. o ≡ Err f) → AllGood o
good_then (Ok next) o F h goes k = goes next h k
good_then (Err f) o F h goes k = subst AllGood (sym k) tt

good_from : (deepest n : ℕ) (texts : List (List ℕ)) (s : State) (o : Result (List Lexeme) Fault) → IsFine s → LexesFrom deepest n texts s o → AllGood o
good_from deepest n [] s o h k = subst AllGood (sym k) (good_end s.branches s h)
good_from deepest n (text ∷ texts) s o h k =
    let read = fine_reads (Expands deepest) (fine_expands deepest) (File n) 0 text s k.1.1.0 k.1.0 h k.1.1.1 in
    let whole : ComesFine k.0 = subst ComesFine (sym k.1.2) (fine_file k.1.0 read) in
    good_then k.0 o (λ next. LexesFrom deepest (n + 1) texts next o) whole (λ next g r. good_from deepest (n + 1) texts next o g r) k.2

good_unless : (large : Option ℕ) (largest deepest : ℕ) (texts : List (List ℕ)) (o : Result (List Lexeme) Fault) → LexesUnless large largest deepest texts o → AllGood o
good_unless (Some n) largest deepest texts o k = subst AllGood (sym k) tt
good_unless None largest deepest texts o k = good_from deepest 0 texts first_state o tt k

-- the tokens of files are good
pub good_tokens : (texts : List (List ℕ)) (tokens : List Lexeme) → Lexes texts (Ok tokens) → AllByRecursion IsGood tokens
good_tokens texts tokens k = good_unless (too_large (2 ^ 28) 0 texts) (2 ^ 28) 16 texts (Ok tokens) k
