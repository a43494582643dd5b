-- What calls to append leave in a file.
use Rattle.std.proofs.Common.{◌≡◌, ◌∙◌, sym, ap, subst, refl, ℕ, ◌+◌, List, [], ◌++◌, length, take, drop, append_assoc, inr}
use Rattle.std.proofs.lemmas.List.{take-append-drop}
use Rattle.std.proofs.Math.Seq.{take-append_seam, take-append-add}
use Rattle.std.specs.Prelude.{Option, Some, None, Result, Ok, Err, unwrap_or}
use Rattle.sg_io.specs.Files.{File, Appended, Appends, BothTell, Creates, bytes_of}
use Rattle.sg_io.specs.declared.outside.ShelfError.{ShelfError}
use Rattle.sg_io.specs.declared.outside.ShelfError.TheVariants as shelf
use Rattle.wave_out.specs.Files.{FileBegins, FileHolds, LeavesPrefix, LeavesWanting}

-- who tells afterwards told before
pub told_before : {A : Type 0} (P : A → A → Type 0) (old new : Option A) (y : A) → BothTell old new P → new ≡ Some y → (x : A) × (old ≡ Some x) × P x y
told_before P (Some x) (Some w) y h e = let q : w ≡ y = cc in (x, refl, subst (λ v. P x v) q h)
told_before P None None y h e = absurd (cc)
told_before P None (Some w) y h e = absurd h
told_before P (Some x) None y h e = absurd h

-- a text that is held is the first part of a longer one
pub begins : (name text rest : List ℕ) (told : Option (List File)) → FileHolds name text told → FileBegins name (text ++ rest) told
begins name text rest told h = λ files e. (length text, h files e ∙ ap Some (sym (take-append_seam text rest)))

-- its first bytes are so too
pub first-bytes : (n : ℕ) (text rest : List ℕ) → take n text ≡ take (length (take n text)) (text ++ rest)
first-bytes n text rest =
    sym (take-append_seam (take n text) (drop n text ++ rest))
    ∙ ap (take (length (take n text))) (sym (append_assoc (take n text) (drop n text) rest) ∙ ap (λ t. t ++ rest) (take-append-drop n text))

pub begins_more : (name text rest : List ℕ) (told : Option (List File)) → FileBegins name text told → FileBegins name (text ++ rest) told
begins_more name text rest told h = λ files e. (let first = h files e in (length (take first.0 text), first.1 ∙ ap Some (first-bytes first.0 text rest)))

-- the file after a call to append
pub appended_ok : (name before text : List ℕ) (old new : Option (List File)) → FileHolds name before old → Appends name text old new (Ok tt) → FileHolds name (before ++ text) new
appended_ok name before text old new h a = λ files e.
    (let told = told_before (Appended name text (Ok tt)) old new files a e in
    told.2.this ∙ ap (λ o. Some (unwrap_or o [] ++ text)) (h told.0 told.1))

pub appended_err : (name before text : List ℕ) (e : ShelfError) (old new : Option (List File)) → FileHolds name before old → Appends name text old new (Err e) → FileBegins name (before ++ text) new
appended_err name before text shelf.Failed old new h a = λ files e.
    (let told = told_before (Appended name text (Err shelf.Failed)) old new files a e in (
      length before + told.2.0,
      told.2.1.this ∙ (ap (λ o. Some (unwrap_or o [] ++ take told.2.0 text)) (h told.0 told.1) ∙ ap Some (sym (take-append-add before text told.2.0))),
    ))
appended_err name before text shelf.NoMemory old new h a = λ files e.
    (let told = told_before (Appended name text (Err shelf.NoMemory)) old new files a e in
    (length before, ap (bytes_of name) told.2 ∙ (h told.0 told.1 ∙ ap Some (sym (take-append_seam before text)))))

-- a new file whose first bytes were written, or all
pub begun : (name text whole : List ℕ) (e : ShelfError) (a b c : Option (List File)) → text ≡ whole → Creates name a b (Ok tt) → Appends name text b c (Err e) → BothTell a c (LeavesPrefix name whole)
begun name text whole shelf.Failed (Some x) (Some y) (Some z) same h k = record {
  this = inr (k.0, k.1.this ∙ ap (λ o. Some (unwrap_or o [] ++ take k.0 text)) h.this ∙ ap (λ t. Some (take k.0 t)) same);
  others = λ q other. k.1.others q other ∙ h.others q other;
}
begun name text whole shelf.NoMemory (Some x) (Some y) (Some z) same h k = record {
  this = inr (0, ap (bytes_of name) k ∙ h.this);
  others = λ q other. ap (bytes_of q) k ∙ h.others q other;
}
begun name text whole e None None None same h k = tt
begun name text whole e None None (Some z) same h k = absurd k
begun name text whole e None (Some y) c same h k = absurd h
begun name text whole e (Some x) None c same h k = absurd h
begun name text whole e (Some x) (Some y) None same h k = absurd k

-- want of memory, where the file was made: it is empty
begun_left : (X : Type 0) (name text : List ℕ) (e : ShelfError) (a b c : Option (List File)) → Creates name a b (Ok tt) → Appends name text b c (Err e) → BothTell a c (LeavesWanting {X = X} name (Err e))
begun_left X name text shelf.Failed (Some x) (Some y) (Some z) h k = tt
begun_left X name text shelf.NoMemory (Some x) (Some y) (Some z) h k = inr (record { this = ap (bytes_of name) k ∙ h.this; others = λ q other. ap (bytes_of q) k ∙ h.others q other })
begun_left X name text e None None None h k = tt
begun_left X name text e None None (Some z) h k = absurd k
begun_left X name text e None (Some y) c h k = absurd h
begun_left X name text e (Some x) None c h k = absurd h
begun_left X name text e (Some x) (Some y) None h k = absurd k

pub begun_wanting : (X : Type 0) (name text : List ℕ) (result : Result X ShelfError) (e : ShelfError) (a b c : Option (List File)) → ((x : ShelfError) × (result ≡ Err x) × (x ≡ e)) → Creates name a b (Ok tt) → Appends name text b c (Err e)
    → BothTell a c (LeavesWanting name result)
begun_wanting X name text result e a b c (x, r, s) h k =
    subst (λ y. BothTell a c (LeavesWanting name y)) (sym r) (subst (λ y. BothTell a c (LeavesWanting {X = X} name (Err y))) (sym s) (begun_left X name text e a b c h k))
