-- The pieces of a file are the longest in their places.
use Rattle.std.proofs.Common.{◌≡◌, ℕ, ◌/◌, ◌%◌, ℤ, pos, List, [], ◌∷◌, ◌++◌, length, Bool, true, false, refl, inl, inr}
use Rattle.std.specs.Prelude.{◌==◌, ◌||◌, not, ◌-ℤ◌, nat_abs, None, codes, flat_map, if◌then◌else◌}
use Rattle.std.specs.List.{AllByRecursion, list_all, range_with_len}
use Rattle.std.proofs.lemmas.Bool.{cases_Bool, and_from}
use Rattle.sdf_lex.specs.declared.letters.Letter.{Letter}
use Rattle.sdf_lex.specs.Bytes.{class_of, is_unquoted}
use Rattle.sdf_lex.specs.Pieces.{Piece, word_piece, spellings}
use Rattle.sdf_lex.specs.Words.{Fits}
use Rattle.sg_circuit.specs.Circuit.{Circuit, scope_at}
use Rattle.written_model.specs.Entries.{legs, paths, checks}
use Rattle.written_model.specs.Names.{names_to}
use Rattle.written_model.specs.Text.{unit_text, text_below}
use Rattle.written_model.specs.Tree.{cell_type_of, delay_entries, check_entries, parts_of}
use Rattle.written_reading.specs.Meanings.{around}
use Rattle.written_reading.specs.Pieces.{plain_letters, names_letters, word, line_end, right, leg_pieces, path_pieces, check_pieces, line, delays_pieces, checks_pieces, delay_front, check_front, parts_pieces, instance_pieces, cell_head_pieces, cell_pieces, head_pieces, pieces}
use Rattle.written_reading.proofs.ByteClasses.{IsStopped, false_true}
use Rattle.written_reading.proofs.Letters.{is_safe, AreNames, fits_names, fits_slash}
use Rattle.written_reading.proofs.SoundPieces.{IsSound, keyword_sound}
use Rattle.written_reading.proofs.SoundEntries.{IsClosed, closed_append, leg_closed, path_closed, check_closed}
use Rattle.written_reading.proofs.Writable.{IsLeg, IsPath, IsCheck}

-- what is written of a scope can be written
pub record IsWritable (c : Circuit) (s : ℕ) : Type 0 where
  pub names : AreNames (names_to c s)
  pub legs : AllByRecursion (IsLeg (scope_at c s).variables) (legs c s)
  pub paths : AllByRecursion (IsPath (scope_at c s).variables) (paths c s)
  pub checks : AllByRecursion (IsCheck (scope_at c s).variables) (checks c s)

-- ---- lines

line_closed : (ps : List Piece) → IsClosed ps → IsClosed (line ps)
line_closed ps h = closed_append ps (line_end ∷ []) h (λ after. (refl, tt, tt))

all_closed : {A : Type 0} (f : A → List Piece) (P : A → Type 0) (xs : List A) → ((x : A) → P x → IsClosed (f x)) → AllByRecursion P xs → IsClosed (flat_map f xs)
all_closed f P [] g h = λ after. tt
all_closed f P (x ∷ xs) g h = closed_append (f x) (flat_map f xs) (g x h.0) (all_closed f P xs g h.1)

around_closed : {A : Type 0} (es : List A) (first last inner : List Piece) → IsClosed first → IsClosed last → IsClosed inner → IsClosed (around es first last inner)
around_closed [] first last inner f l i = λ after. tt
around_closed (e ∷ es) first last inner f l i = closed_append first (inner ++ last) f (closed_append inner last i l)

-- ---- parts

delays_closed : (c : Circuit) (s : ℕ) → IsWritable c s → IsClosed (delays_pieces c s)
delays_closed c s h =
    let vs = (scope_at c s).variables in
    closed_append (flat_map (λ e. line (leg_pieces vs e)) (legs c s)) (flat_map (λ e. line (path_pieces vs e)) (paths c s))
    (all_closed (λ e. line (leg_pieces vs e)) (IsLeg vs) (legs c s) (λ e k. line_closed (leg_pieces vs e) (leg_closed vs e k)) h.legs)
    (all_closed (λ e. line (path_pieces vs e)) (IsPath vs) (paths c s) (λ e k. line_closed (path_pieces vs e) (path_closed vs e k)) h.paths)

checks_closed : (c : Circuit) (s : ℕ) → IsWritable c s → IsClosed (checks_pieces c s)
checks_closed c s h =
    let vs = (scope_at c s).variables in
    all_closed (λ e. line (check_pieces vs e)) (IsCheck vs) (checks c s) (λ e k. line_closed (check_pieces vs e) (check_closed vs e k)) h.checks

delay_front_closed : IsClosed delay_front
unfolding class_of
delay_front_closed = λ after. (refl, tt, (keyword_sound (codes "DELAY") refl, refl, (refl, tt, (refl, tt, (keyword_sound (codes "ABSOLUTE") refl, refl, (refl, tt, tt))))))

check_front_closed : IsClosed check_front
unfolding class_of
check_front_closed = λ after. (refl, tt, (keyword_sound (codes "TIMINGCHECK") refl, refl, (refl, tt, tt)))

parts_closed : (c : Circuit) (s : ℕ) → IsWritable c s → IsClosed (parts_pieces c s)
parts_closed c s h =
    closed_append
    (around (delay_entries c s) delay_front (right ∷ right ∷ line_end ∷ []) (delays_pieces c s))
    (around (check_entries c s) check_front (right ∷ line_end ∷ []) (checks_pieces c s))
    (around_closed (delay_entries c s) delay_front (right ∷ right ∷ line_end ∷ []) (delays_pieces c s) delay_front_closed
    (λ after. (refl, tt, (refl, tt, (refl, tt, tt)))) (delays_closed c s h))
    (around_closed (check_entries c s) check_front (right ∷ line_end ∷ []) (checks_pieces c s) check_front_closed
    (λ after. (refl, tt, (refl, tt, tt))) (checks_closed c s h))

-- ---- cells

-- no quote stands between the quotes
unquoted : (name : List ℕ) → list_all is_unquoted (cell_type_of name) ≡ true
unquoted [] = refl
unquoted (b ∷ bs) = elim (cases_Bool (not ((b == 34) || (b == 92)))) [
  | inl y ↦ rw y (and_from (is_unquoted b) (list_all is_unquoted (cell_type_of bs)) (neither (b == 34) (b == 92) y) (unquoted bs))
  | inr n ↦ rw n (unquoted bs)
]
  where
    neither : (p q : Bool) → not (p || q) ≡ true → not p ≡ true
    neither true q h = absurd (false_true h)
    neither false q h = refl

names_sound : (n : List ℕ) (ns : List (List ℕ)) → AreNames (n ∷ ns) → IsSound (word_piece (names_letters (n ∷ ns)))
names_sound n ns h = of (names_letters (n ∷ ns)) (some n ns h) (λ after. fits_names None (n ∷ ns) after h)
  where
    of : (ls : List Letter) → (ls ≡ [] → ⊥) → ((after : List ℕ) → Fits None ls after) → IsSound (word_piece ls)
    of [] e f = absurd (e refl)
    of (l ∷ ls) e f = λ after s. f after

    some : (m : List ℕ) (ms : List (List ℕ)) → AreNames (m ∷ ms) → names_letters (m ∷ ms) ≡ [] → ⊥
    some [] ms k e = k.0.0 refl
    some (b ∷ bs) [] k e = cc
    some (b ∷ bs) (p ∷ ps) k e = cc

abbrev instance_end : List (List ℕ) → List Piece
instance_end names = instance_pieces names ++ right ∷ line_end ∷ []

instance_closed : (names : List (List ℕ)) → AreNames names → IsClosed (instance_end names)
instance_closed [] h = λ after. (refl, tt, (refl, tt, tt))
instance_closed (n ∷ ns) h = λ after. (refl, tt, (names_sound n ns h, refl, (refl, tt, (refl, tt, tt))))

instance_stops : (names : List (List ℕ)) (after : List ℕ) → IsStopped (spellings (instance_end names) ++ after)
instance_stops [] after = refl
instance_stops (n ∷ ns) after = refl

head_closed : (module_name : List ℕ) (names : List (List ℕ)) → AreNames names → IsClosed (cell_head_pieces module_name names)
unfolding class_of
head_closed module_name names h =
    λ after. (
      refl,
      tt,
      (
        keyword_sound (codes "CELL") refl,
        refl,
        (
          refl,
          tt,
          (
            refl,
            tt,
            (
              keyword_sound (codes "CELLTYPE") refl,
              refl,
              (
                refl,
                tt,
                (
                  unquoted module_name,
                  tt,
                  (
                    refl,
                    tt,
                    (refl, tt, (refl, tt, (keyword_sound (codes "INSTANCE") refl, instance_stops names after, instance_closed names h after))),
                  ),
                ),
              ),
            ),
          ),
        ),
      ),
    )

cell_closed : (c : Circuit) (s : ℕ) → IsWritable c s → IsClosed (cell_pieces c s)
cell_closed c s h =
    around_closed (parts_of c s) (cell_head_pieces (scope_at c s).module_name (names_to c s)) (right ∷ line_end ∷ []) (parts_pieces c s) (head_closed (scope_at c s).module_name (names_to c s) h.names)
    (λ after. (refl, tt, (refl, tt, tt))) (parts_closed c s h)

-- ---- the file

abbrev IsUnit : List ℕ → Type 0
IsUnit unit = list_all is_safe (plain_letters unit) ≡ true

unit_safe : (n : ℕ) → IsUnit (unit_text n)
unfolding class_of
unit_safe n = by (n == 0) (n == 1) (n == 2) (n == 3) (n == 4)
  where
    by : (p q r s t : Bool) → IsUnit (if p then codes "s" else if q then codes "ms" else if r then codes "us" else if s then codes "ns" else if t then codes "ps" else codes "fs")
    by true q r s t = refl
    by false true r s t = refl
    by false false true s t = refl
    by false false false true t = refl
    by false false false false true = refl
    by false false false false false = refl

tick_sound : (n : ℕ) → IsSound (word (text_below n))
unfolding class_of
tick_sound n = by (n % 3 == 0) (n % 3 == 1) (unit_text (n / 3)) (unit_safe (n / 3))
  where
    by : (p q : Bool) (unit : List ℕ) → IsUnit unit → IsSound (word ((if p then codes "100" else if q then codes "10" else codes "1") ++ unit))
    by true q unit h = keyword_sound (codes "100" ++ unit) h
    by false true unit h = keyword_sound (codes "10" ++ unit) h
    by false false unit h = keyword_sound (codes "1" ++ unit) h

first_closed : (tick : ℤ) → IsClosed (head_pieces tick)
unfolding class_of
first_closed tick =
    λ after. (
      refl,
      tt,
      (
        keyword_sound (codes "DELAYFILE") refl,
        refl,
        (
          refl,
          tt,
          (
            refl,
            tt,
            (
              keyword_sound (codes "SDFVERSION") refl,
              refl,
              (
                refl,
                tt,
                (
                  refl,
                  tt,
                  (
                    refl,
                    tt,
                    (
                      refl,
                      tt,
                      (
                        refl,
                        tt,
                        (
                          keyword_sound (codes "DIVIDER") refl,
                          refl,
                          (
                            refl,
                            tt,
                            (
                              (λ a s. fits_slash a s),
                              refl,
                              (
                                refl,
                                tt,
                                (refl, tt, (refl, tt, (keyword_sound (codes "TIMESCALE") refl, refl, (refl, tt, (tick_sound (nat_abs (pos 2 -ℤ tick)), refl, (refl, tt, (refl, tt, tt))))))),
                              ),
                            ),
                          ),
                        ),
                      ),
                    ),
                  ),
                ),
              ),
            ),
          ),
        ),
      ),
    )

pub file_closed : (c : Circuit) → ((s : ℕ) → IsWritable c s) → IsClosed (pieces c)
unfolding pieces
file_closed c h =
    closed_append (head_pieces c.tick) (flat_map (cell_pieces c) (range_with_len 0 (length c.scopes)) ++ right ∷ line_end ∷ []) (first_closed c.tick)
    (closed_append (flat_map (cell_pieces c) (range_with_len 0 (length c.scopes))) (right ∷ line_end ∷ []) (each (range_with_len 0 (length c.scopes))) (λ after. (refl, tt, (refl, tt, tt))))
  where
    each : (ss : List ℕ) → IsClosed (flat_map (cell_pieces c) ss)
    each [] = λ after. tt
    each (s ∷ ss) = closed_append (cell_pieces c s) (flat_map (cell_pieces c) ss) (cell_closed c s (h s)) (each ss)
