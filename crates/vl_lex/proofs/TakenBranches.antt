-- Within branches whose texts are taken a text gives what it gives by itself.
use Rattle.std.proofs.Common.{◌≡◌, ℕ, zero, suc, ◌+◌, List, [], ◌∷◌, ◌++◌, length, take, drop, Bool, true, false, refl, sym, ap, subst}
use Rattle.std.specs.Prelude.{Option, Some, None, Ok, Err, ◌==◌, ◌&&◌, ◌||◌, not, if◌then◌else◌}
use Rattle.std.specs.List.{list_all, prefix_len}
use Rattle.std.proofs.lemmas.Bool.{and_parts}
use Rattle.sg_text.specs.declared.places.Place.{Place}
use Rattle.sg_text.specs.Names.{is_name_byte}
use Rattle.vl_pieces.specs.Bytes.{is_blank}
use Rattle.vl_lex.specs.State.{Word, Waiting, State, Fault, Outcome, fault, is_taken, is_looked_at, waits}
use Rattle.vl_lex.specs.Directives.{directive_of, is_conditional, outer, words_wanted, with_branch, with_next_text, without_branch, with_branches, outcome_of_branches, or_bad_directive, scale_of, name_of, implicit_from, test_of, with_macro, outcome_of_directive}
use Rattle.vl_pieces.specs.Modes.{Piece}
use Rattle.vl_lex.specs.Effects.{Effect, comes_to, expands, defines, stops, place_at, next_mode, mode_at, taken_piece, fault_in, apply_or_wait, with_word, gap_outcome, is_define, define_effect, line_effect, begins_arguments, begins_name, word_effect, use_effect, tick_effect, untaken_outcome, first_words, is_use, effect_at, effect_of, effect}
use Rattle.vl_lex.specs.Lexes.{or_state, Leads, Then, Reads, IsRead, Expands}
use Rattle.vl_lex.specs.Laws.{within}
use Rattle.vl_lex.specs.declared.faults.LexKind.{LexKind}
use Rattle.vl_lex.specs.declared.faults.LexKind.TheVariants.{BadDirective, UnknownDirective}
use Rattle.vl_lex.specs.declared.faults.Found.{Found}
use Rattle.vl_lex.specs.declared.branches.Branch.{Branch}
use Rattle.vl_lex.specs.declared.directives.Directive.{Directive}
use Rattle.vl_lex.specs.declared.directives.Directive.TheVariants.{Timescale, ResetAll, CellDefine, EndCellDefine, DefaultNetType, Define, Undef, IfDef, IfNDef, ElsIf, Else, EndIf, NoEffect}
use Rattle.vl_lex.specs.declared.origins.Origin.{Origin}
use Rattle.vl_lex.specs.declared.origins.Origin.TheVariants.{File, Macro as InMacro}
use Rattle.vl_pieces.specs.declared.pieces.Class.{Class}
use Rattle.vl_pieces.specs.declared.pieces.Class.TheVariants as class

module _ (round : List Branch) (taken : is_taken round ≡ true) (above : is_taken (outer round) ≡ true) where
  -- ---- branches

  taken_same : (bs : List Branch) → is_taken (bs ++ round) ≡ is_taken bs
  taken_same [] = taken
  taken_same (x ∷ xs) = refl

  outer_same : (bs : List Branch) → is_taken (outer (bs ++ round)) ≡ is_taken (outer bs)
  outer_same [] = above
  outer_same (x ∷ xs) = taken_same xs

  wanted_same : (d : Directive) (bs : List Branch) → words_wanted d (bs ++ round) ≡ words_wanted d bs
  wanted_same IfDef bs = rw (taken_same bs) refl
  wanted_same IfNDef bs = rw (taken_same bs) refl
  wanted_same ElsIf bs = rw (outer_same bs) refl
  wanted_same _ bs = refl

  opened_same : (place : Place) (test : Bool) (bs : List Branch) → with_branch place test (bs ++ round) ≡ with_branch place test bs ++ round
  opened_same place test bs = rw (taken_same bs) refl

  -- where there are branches, they are so within one more
  abbrev MoreOf : Option (List Branch) → Option (List Branch) → Type 0
  MoreOf None o = Unit {0}
  MoreOf (Some bs) o = o ≡ Some (bs ++ round)

  more_if : (stop : Bool) (bs : List Branch) → MoreOf (if stop then None else Some bs) (if stop then None else Some (bs ++ round))
  more_if true bs = tt
  more_if false bs = refl

  more_gone_on : (test last : Bool) (bs : List Branch) → MoreOf (with_next_text test last bs) (with_next_text test last (bs ++ round))
  more_gone_on test last [] = tt
  more_gone_on test last (x ∷ xs) = rw (taken_same xs) (more_if (x.last && is_taken xs) (record { place = x.place; taken = test && not x.settled; settled = test || x.settled; last = last } ∷ xs))

  more_closed : (bs : List Branch) → MoreOf (without_branch bs) (without_branch (bs ++ round))
  more_closed [] = tt
  more_closed (x ∷ xs) = refl

  -- ---- outcomes

  -- where an outcome is a state, the other one is that state within the branch
  abbrev AlsoOk : Outcome → Outcome → Type 0
  AlsoOk (Ok t) o = o ≡ Ok (within round t)
  AlsoOk (Err f) o = Unit {0}

  also_given : {A : Type 0} (place : Place) (f g : A → Outcome) (o : Option A) → ((a : A) → AlsoOk (f a) (g a)) → AlsoOk (or_bad_directive place f o) (or_bad_directive place g o)
  also_given place f g None h = tt
  also_given place f g (Some a) h = h a

  also_branched : (place : Place) (s : State) (o p : Option (List Branch)) → MoreOf o p → AlsoOk (outcome_of_branches place s o) (outcome_of_branches place (within round s) p)
  also_branched place s None p h = tt
  also_branched place s (Some bs) p h = ap (outcome_of_branches place (within round s)) h

  also_if : (c : Bool) (o p q r : Outcome) → AlsoOk o q → AlsoOk p r → AlsoOk (if c then o else p) (if c then q else r)
  also_if true o p q r h k = h
  also_if false o p q r h k = k

  also_opened : (place : Place) (s : State) (test : Bool) → ◌≡◌ {A = Outcome} (Ok (with_branches (within round s) (with_branch place test (s.branches ++ round)))) (Ok (within round (with_branches s (with_branch place test s.branches))))
  also_opened place s test = let f : List Branch → Outcome = λ bs. Ok (with_branches s bs) in ap f (opened_same place test s.branches)

  also_applied : (d : Directive) (place : Place) (words : List Word) (s : State) → AlsoOk (outcome_of_directive d place words s) (outcome_of_directive d place words (within round s))
  also_applied Timescale place words s = also_given place _ _ (scale_of words) (λ scale. refl)
  also_applied ResetAll place words s = refl
  also_applied CellDefine place words s = refl
  also_applied EndCellDefine place words s = refl
  also_applied DefaultNetType place words s = also_given place _ _ (implicit_from (name_of words)) (λ implicit. refl)
  also_applied Define place words s = tt
  also_applied Undef place words s = also_given place _ _ (name_of words) (λ name. refl)
  also_applied IfDef place words s = also_given place _ _ (test_of true s.macros words) (λ test. also_opened place s test)
  also_applied IfNDef place words s = also_given place _ _ (test_of false s.macros words) (λ test. also_opened place s test)
  also_applied ElsIf place words s =
      also_given place _ _ (test_of true s.macros words) (λ test. also_branched place s (with_next_text test false s.branches) (with_next_text test false (s.branches ++ round)) (more_gone_on test false s.branches))
  also_applied Else place words s = also_branched place s (with_next_text true true s.branches) (with_next_text true true (s.branches ++ round)) (more_gone_on true true s.branches)
  also_applied EndIf place words s = also_branched place s (without_branch s.branches) (without_branch (s.branches ++ round)) (more_closed s.branches)
  also_applied NoEffect place words s = refl

  also_ready : (w : Waiting) (s : State) → AlsoOk (apply_or_wait w s) (apply_or_wait w (within round s))
  also_ready w s =
      let done : Outcome = outcome_of_directive w.directive w.place w.words (record s { waiting = None }) in
      let also : Outcome = outcome_of_directive w.directive w.place w.words (within round (record s { waiting = None })) in
      rw (wanted_same w.directive s.branches)
      (also_if (length w.words == words_wanted w.directive s.branches) done (Ok (waits w s)) also (Ok (waits w (within round s)))
      (also_applied w.directive w.place w.words (record s { waiting = None })) refl)

  also_passed : (place : Place) (d : Option Directive) (s : State) → AlsoOk (untaken_outcome place d s) (untaken_outcome place d (within round s))
  also_passed place None s = refl
  also_passed place (Some d) s = also_if (is_conditional d) (apply_or_wait (first_words d place) s) (Ok s) (apply_or_wait (first_words d place) (within round s)) (Ok (within round s)) (also_ready (first_words d place) s) refl

  also_skipped : (w : Waiting) (s : State) → AlsoOk (gap_outcome w s) (gap_outcome w (within round s))
  also_skipped w s = also_if (is_define w.directive) (fault BadDirective w.place) (Ok s) (fault BadDirective w.place) (Ok (within round s)) tt refl

  -- ---- effects

  module _ (E : Place → List ℕ → State → Outcome → Type 0) (lifts : (place : Place) (text : List ℕ) (s t : State) → E place text s (Ok t) → E place text (within round s) (Ok (within round t))) where
    -- where an effect leads to a state, the other one leads to it within the branch
    abbrev Also : Effect → Effect → Type 0
    Also e f = (t : State) → Leads E e (Ok t) → Leads E f (Ok (within round t))

    by_outcome : (o p : Outcome) → AlsoOk o p → Also (comes_to o) (comes_to p)
    by_outcome o p h t e = let k : AlsoOk (Ok t) p = (let P : Outcome → Type 0 = λ q. AlsoOk q p in subst P (sym e) h) in sym k

    by_stops : (kind : LexKind) (at : Place) (f : Effect) → Also (stops kind at) f
    by_stops kind at f t h = absurd (cc)

    by_if : (c : Bool) (e f g h : Effect) → Also e g → Also f h → Also (if c then e else f) (if c then g else h)
    by_if true e f g h k l = k
    by_if false e f g h k l = l

    by_found : (origin : Origin) (start : ℕ) (text : List ℕ) (u : State) → Also (defines origin start text u) (defines origin start text (within round u))
    by_found origin start text u t h = (h.0, h.1, found h.0 h.2)
      where
        found : (f : Option Fault) → Ok t ≡ or_state f u → Ok (within round t) ≡ or_state f (within round u)
        found None k = by_outcome (Ok u) (Ok (within round u)) refl t k
        found (Some f) k = absurd (cc)

    by_defined : (origin : Origin) (start : ℕ) (at : Place) (name text : List ℕ) (u : State) → Also (define_effect origin start at name text u) (define_effect origin start at name text (within round u))
    by_defined origin start at name text u =
        by_if (begins_arguments text) (stops BadDirective at) (defines origin start text (with_macro name text u)) (stops BadDirective at) (defines origin start text (with_macro name text (within round u)))
        (by_stops BadDirective at (stops BadDirective at)) (by_found origin start text (with_macro name text u))

    by_line : (origin : Origin) (start : ℕ) (at : Place) (line : List ℕ) (u : State) → Also (line_effect origin start at line u) (line_effect origin start at line (within round u))
    by_line origin start at line u =
        let blanks : ℕ = prefix_len is_blank line in
        let bytes : List ℕ = drop blanks line in
        let size : ℕ = prefix_len is_name_byte bytes in
        by_if ((blanks == 0) || not (begins_name bytes)) (stops BadDirective at) (define_effect origin (start + blanks + size) at (take size bytes) (drop size bytes) u)
        (stops BadDirective at) (define_effect origin (start + blanks + size) at (take size bytes) (drop size bytes) (within round u))
        (by_stops BadDirective at (stops BadDirective at)) (by_defined origin (start + blanks + size) at (take size bytes) (drop size bytes) u)

    by_word : (is_name : Bool) (bytes : List ℕ) (w : Waiting) (s : State) → Also (comes_to (apply_or_wait (with_word is_name bytes w) s)) (comes_to (apply_or_wait (with_word is_name bytes w) (within round s)))
    by_word is_name bytes w s = by_outcome (apply_or_wait (with_word is_name bytes w) s) (apply_or_wait (with_word is_name bytes w) (within round s)) (also_ready (with_word is_name bytes w) s)

    by_awaited : (origin : Origin) (at : ℕ) (w : Waiting) (c : Class) (bytes : List ℕ) (s : State) → Also (word_effect origin at w c bytes s) (word_effect origin at w c bytes (within round s))
    by_awaited origin at w class.Gap bytes s = by_outcome (gap_outcome w s) (gap_outcome w (within round s)) (also_skipped w s)
    by_awaited origin at w class.Attribute bytes s = by_outcome (gap_outcome w s) (gap_outcome w (within round s)) (also_skipped w s)
    by_awaited origin at w class.Line bytes s = by_line origin at w.place bytes (record s { waiting = None })
    by_awaited origin at w class.Use bytes s = by_stops BadDirective w.place (stops BadDirective w.place)
    by_awaited origin at w class.Name bytes s = by_word true bytes w s
    by_awaited origin at w c bytes s = by_word false bytes w s

    by_used : (place : Place) (text : Option (List ℕ)) (s : State) → Also (use_effect place text s) (use_effect place text (within round s))
    by_used place None s = by_stops UnknownDirective place (stops UnknownDirective place)
    by_used place (Some text) s = lifts place text s

    by_directed : (origin : Origin) (place : Place) (name : List ℕ) (d : Option Directive) (s : State) → Also (tick_effect origin place name d s) (tick_effect origin place name d (within round s))
    by_directed (InMacro p) place name d s = by_used place (s.macros name) s
    by_directed (File n) place name None s = by_used place (s.macros name) s
    by_directed (File n) place name (Some d) s = by_outcome (apply_or_wait (first_words d place) s) (apply_or_wait (first_words d place) (within round s)) (also_ready (first_words d place) s)

    by_piece : (c : Bool) (origin : Origin) (place : Place) (k : Class) (bytes : List ℕ) (s : State) → Also (effect_at c origin place k bytes s) (effect_at c origin place k bytes (within round s))
    by_piece true origin place k bytes s =
        let d : Option Directive = directive_of (drop 1 bytes) in
        by_if (is_use k) (tick_effect origin place (drop 1 bytes) d s) (comes_to (Ok (taken_piece place k bytes s))) (tick_effect origin place (drop 1 bytes) d (within round s)) (comes_to (Ok (taken_piece place k bytes (within round s))))
        (by_directed origin place (drop 1 bytes) d s) (by_outcome (Ok (taken_piece place k bytes s)) (Ok (taken_piece place k bytes (within round s))) refl)
    by_piece false origin place k bytes s =
        let d : Option Directive = directive_of (drop 1 bytes) in
        by_outcome (if is_use k then untaken_outcome place d s else Ok s) (if is_use k then untaken_outcome place d (within round s) else Ok (within round s))
        (also_if (is_use k) (untaken_outcome place d s) (Ok s) (untaken_outcome place d (within round s)) (Ok (within round s)) (also_passed place d s) refl)

    by_effect_of : (f : Option Found) (w : Option Waiting) (origin : Origin) (at : ℕ) (c : Class) (bytes : List ℕ) (s : State) → Also (effect_of f w origin at c bytes s) (effect_of f w origin at c bytes (within round s))
    by_effect_of (Some f) w origin at c bytes s = by_stops f.kind (place_at origin (at + f.behind)) (effect_of (Some f) w origin at c bytes (within round s))
    by_effect_of None (Some w) origin at c bytes s = by_awaited origin at w c bytes s
    by_effect_of None None origin at c bytes s = rw (taken_same s.branches) (by_piece (is_taken s.branches) origin (place_at origin at) c bytes s)

    looked_same : (w : Option Waiting) (bs : List Branch) → is_looked_at w (bs ++ round) ≡ is_looked_at w bs
    looked_same None bs = taken_same bs
    looked_same (Some w) bs = refl

    pub by_effect : (origin : Origin) (at : ℕ) (c : Class) (bytes : List ℕ) (s : State) → Also (effect origin at c bytes s) (effect origin at c bytes (within round s))
    by_effect origin at c bytes s = rw (looked_same s.waiting s.branches) (by_effect_of (fault_in (is_looked_at s.waiting s.branches) c bytes) s.waiting origin at c bytes s)

    pub mode_same : (s : State) → mode_at (within round s) ≡ mode_at s
    mode_same s = ap (λ t. next_mode s.waiting t s.mode) (taken_same s.branches)

    -- after a piece
    lift_after : (t : State) (e f : Effect) (between : Outcome) (R Q : State → Type 0) → Also e f → ((next : State) → R next → Q (within round next)) → Leads E e between
        → Then between R (λ g. ◌≡◌ {A = Outcome} (Ok t) (Err g)) → (other : Outcome) × Leads E f other × Then other Q (λ g. ◌≡◌ {A = Outcome} (Ok (within round t)) (Err g))
    lift_after t e f (Ok next) R Q also later leads rest = (Ok (within round next), also next leads, later next rest)
    lift_after t e f (Err g) R Q also later leads rest = absurd (cc)

    reads_lift : (origin : Origin) (at : ℕ) (text : List ℕ) (s : State) (ps : List Piece) (t : State) → Reads E origin at text s ps (Ok t) → Reads E origin at text (within round s) ps (Ok (within round t))
    reads_lift origin at text s [] t h = (h.0, by_outcome (Ok s) (Ok (within round s)) refl t h.1)
    reads_lift origin at text s (p ∷ ps) t h =
        let bytes : List ℕ = take p.size text in (
          rw (mode_same s) h.0,
          lift_after t (effect origin at p.class bytes s) (effect origin at p.class bytes (within round s)) h.1.0
              (λ next. Reads E origin (at + p.size) (drop p.size text) next ps (Ok t)) (λ next. Reads E origin (at + p.size) (drop p.size text) next ps (Ok (within round t)))
              (by_effect origin at p.class bytes s) (λ next rest. reads_lift origin (at + p.size) (drop p.size text) next ps t rest) h.1.1 h.1.2,
        )

  pub expands_lift : (left : ℕ) (place : Place) (text : List ℕ) (s t : State) → Expands left place text s (Ok t) → Expands left place text (within round s) (Ok (within round t))
  unfolding Expands
  expands_lift zero place text s t h = absurd (cc)
  expands_lift (suc left) place text s t h = (h.0, reads_lift (Expands left) (expands_lift left) (InMacro place) 0 text s h.0 t h.1)

pub all_taken : (round : List Branch) → list_all (λ b. b.taken) round ≡ true → (is_taken round ≡ true) × (is_taken (outer round) ≡ true)
all_taken [] h = (refl, refl)
all_taken (b ∷ []) h = ((and_parts b.taken true h).0, refl)
all_taken (b ∷ c ∷ bs) h =
    let first = and_parts b.taken (list_all (λ d. d.taken) (c ∷ bs)) h in
    (first.0, (and_parts c.taken (list_all (λ d. d.taken) bs) first.1).0)

pub taken_branch : (left : ℕ) (origin : Origin) (at : ℕ) (text : List ℕ) (s t : State) (round : List Branch) → list_all (λ b. b.taken) round ≡ true
    → IsRead (Expands left) origin at text s (Ok t) → IsRead (Expands left) origin at text (within round s) (Ok (within round t))
taken_branch left origin at text s t round h read =
    let parts = all_taken round h in
    (read.0, reads_lift round parts.0 parts.1 (Expands left) (expands_lift round parts.0 parts.1 left) origin at text s read.0 t read.1)
