-- Files that are read, one after another.
use Rattle.std.proofs.Common.{◌≡◌, ◌∙◌, sym, ap, refl, inl, inr, arith, ℕ, zero, suc, ◌+◌, ◌<◌, ◌≤◌, List, [], ◌∷◌, ◌++◌, length, map, drop, append_assoc}
use Rattle.std.proofs.lemmas.List.{append-nil, drop_all, drop_more}
use Rattle.std.specs.Borrow.{Bor}
use Rattle.std.specs.Global.{Vec}
use Rattle.std.specs.Prelude.{Option, Some, None, Result, Ok, Err, slice_index_or}
use Rattle.sg_io.specs.Files.{File, bytes_of}
use Rattle.fit_top.specs.Answer.{files_of, with_file}
use Rattle.fit_top.specs.Names.{IsOneOf}
use Rattle.fit_top.specs.Stops.{FailsAmong, FailsAt}
use Rattle.fit_top.specs.Work.{GivesText, files_seen}
use Rattle.fit_top.specs.declared.inputs.Input as code_input
use Rattle.fit_top.specs.declared.stop.Stop.{Stop}
use Rattle.fit_top.specs.declared.stop.Stop.TheVariants as stop

-- files, before what comes of the names after them
abbrev pub after : List File → Result (List File) (List ℕ) → Result (List File) (List ℕ)
after files (Ok more) = Ok (files ++ more)
after files (Err name) = Err name

pub after_none : (o : Result (List File) (List ℕ)) → after [] o ≡ o
after_none (Ok more) = refl
after_none (Err name) = refl

one_file : (E : Type 0) (files : List File) (name : List ℕ) (held : Option (List ℕ)) (v : Vec ℕ) (more : Result (List File) (List ℕ)) → GivesText {X = E} held (Ok (Some v))
    → after files (with_file name held more) ≡ after (files ++ record { name = name; bytes = v.items } ∷ []) more
one_file E files name None v more h = absurd h
one_file E files name (Some bytes) v (Ok ms) h =
    ap (λ t. Ok (files ++ record { name = name; bytes = t } ∷ ms)) (sym h) ∙ ap Ok (sym (append_assoc files (record { name = name; bytes = v.items } ∷ []) ms))
one_file E files name (Some bytes) v (Err m) h = refl

no_file : (E : Type 0) (files : List File) (name : List ℕ) (held : Option (List ℕ)) (more : Result (List File) (List ℕ)) → GivesText {X = E} held (Ok None) → after files (with_file name held more) ≡ Err name
no_file E files name None more h = refl
no_file E files name (Some bytes) more h = absurd h

-- ---- the loop

module _ {X : Type 0} (name_of : X → List ℕ) (names : List X) (i : ℕ) (d : X) (l : i < length names) (held : List File) where
  at_one : files_of (map name_of (drop i names)) held ≡ with_file (name_of (slice_index_or names i d)) (bytes_of (name_of (slice_index_or names i d)) held) (files_of (map name_of (drop (i + 1) names)) held)
  at_one = ap (λ ns. files_of (map name_of ns) held) (drop_more names i d l)

  pub read_more : (E : Type 0) (total : Result (List File) (List ℕ)) (files more : List File) (v : Vec ℕ) → more ≡ files ++ record { name = name_of (slice_index_or names i d); bytes = v.items } ∷ []
      → total ≡ after files (files_of (map name_of (drop i names)) held) → GivesText {X = E} (bytes_of (name_of (slice_index_or names i d)) held) (Ok (Some v))
      → total ≡ after more (files_of (map name_of (drop (i + 1) names)) held)
  read_more E total files more v e h g =
      h ∙ ap (after files) at_one ∙ one_file E files (name_of (slice_index_or names i d)) (bytes_of (name_of (slice_index_or names i d)) held) v (files_of (map name_of (drop (i + 1) names)) held) g
      ∙ ap (λ fs. after fs (files_of (map name_of (drop (i + 1) names)) held)) (sym e)

  pub read_stops : (E : Type 0) (total : Result (List File) (List ℕ)) (files : List File) → total ≡ after files (files_of (map name_of (drop i names)) held)
      → GivesText {X = E} (bytes_of (name_of (slice_index_or names i d)) held) (Ok None) → Err (name_of (slice_index_or names i d)) ≡ total
  read_stops E total files h g =
      sym (h ∙ ap (after files) at_one ∙ no_file E files (name_of (slice_index_or names i d)) (bytes_of (name_of (slice_index_or names i d)) held) (files_of (map name_of (drop (i + 1) names)) held) g)

pub read_whole : {X : Type 0} (name_of : X → List ℕ) (names : List X) (i : ℕ) (held : List File) (total : Result (List File) (List ℕ)) (files : List File) → length names ≤ i
    → total ≡ after files (files_of (map name_of (drop i names)) held) → Ok files ≡ total
read_whole name_of names i held total files l h =
    sym (h ∙ ap (λ ns. after files (files_of (map name_of ns) held)) (drop_all i names l) ∙ ap Ok (append-nil files))

pub one_named : {X : Type 0} (name_of : X → List ℕ) (names : List X) (i : ℕ) (d : X) → i < length names → IsOneOf (map name_of names) (name_of (slice_index_or names i d))
one_named name_of [] i d l = absurd (omega arith)
one_named name_of (x ∷ names) zero d l = inl refl
one_named name_of (x ∷ names) (suc i) d l = inr (one_named name_of names i d (omega arith))

-- a failure on one of these names
pub failed_among : (X Y : Type 0) (last : Option (List ℕ)) (names : List (List ℕ)) (name : List ℕ) (s : Stop) → IsOneOf names name → FailsAt {X = X} last name (Err s) → FailsAmong {X = Y} last names (Err s)
failed_among X Y last names name stop.Failed one told = record { name = name; told = told; among = one }
failed_among X Y last names name (stop.Folder n) one told = tt
failed_among X Y last names name stop.NoMemory one told = tt

-- or on one of more names
pub failed_more : (X Y : Type 0) (last : Option (List ℕ)) (names more : List (List ℕ)) (s : Stop) → ((n : List ℕ) → IsOneOf names n → IsOneOf more n) → FailsAmong {X = X} last names (Err s) → FailsAmong {X = Y} last more (Err s)
failed_more X Y last names more stop.Failed f h = record { name = h.name; told = h.told; among = f h.name h.among }
failed_more X Y last names more (stop.Folder n) f h = tt
failed_more X Y last names more stop.NoMemory f h = tt

pub one_front : (q : List ℕ) (before after : List (List ℕ)) → IsOneOf before q → IsOneOf (before ++ after) q
one_front q [] after h = absurd h
one_front q (m ∷ more) after (inl e) = inl e
one_front q (m ∷ more) after (inr h) = inr (one_front q more after h)

pub one_behind : (q : List ℕ) (before after : List (List ℕ)) → IsOneOf after q → IsOneOf (before ++ after) q
one_behind q [] after h = h
one_behind q (m ∷ more) after h = inr (one_behind q more after h)

-- what was read, by the code's names
pub read_is : (held : List File) (names given : List (Bor (List ℕ))) (r s : Result (Vec code_input.Input) (Bor (List ℕ))) → given ≡ names → files_seen r ≡ files_of (map (λ n. n.now) given) held → r ≡ s
    → files_of (map (λ n. n.now) names) held ≡ files_seen s
read_is held names given r s e h f = sym (ap (λ (ns : List (Bor (List ℕ))). files_of (map (λ n. n.now) ns) held) e) ∙ sym h ∙ ap files_seen f
