-- What the parts of bytes say is what the bytes say, and nothing else is.
use Rattle.std.proofs.Common.{inl, inr, ◌≡◌, ℕ, List, refl, sym, ap, ◌∙◌}
use Rattle.std.specs.Prelude.{Option, Some, None, Result, Ok, Err, nat_lt, length}
use Rattle.std.proofs.lemmas.Bool.{cases_Bool}
use Rattle.sg_time.specs.declared.decimal.TimeError.{TimeError}
use Rattle.sg_time.specs.declared.decimal.TimeError.TheVariants as error
use Rattle.sg_time.specs.Spelling.{Spelling, Number, value_of, digits_of, significant_digits, Spells, Says}
use Rattle.sg_time.specs.Reading.{parts_of, said_of}
use Rattle.sg_time.proofs.Laws.{Found, parts_again, parts_found}

spells_says : (bytes : List ℕ) (s : Spelling) → Spells bytes (value_of s) → Says bytes (value_of s)
spells_says bytes s h = elim (cases_Bool (nat_lt 18 (length (significant_digits (digits_of s))))) [
  | inl y ↦ rw y (rw y at h)
  | inr n ↦ rw n (rw n at h)
]

says_found : (bytes : List ℕ) (o : Option Spelling) → parts_of bytes ≡ o → Says bytes (said_of o)
says_found bytes None h = λ s is e. let k : None ≡ Some s = sym h ∙ ap parts_of e ∙ parts_again s is in cc
says_found bytes (Some s) h =
    let f : Found bytes s = parts_found bytes s h in
    spells_says bytes s (s, f.spelling, f.bytes_are, refl)

pub says_parts : (bytes : List ℕ) → Says bytes (said_of (parts_of bytes))
says_parts bytes = says_found bytes (parts_of bytes) refl

spells_parts : (bytes : List ℕ) (said : Result Number TimeError) → Spells bytes said → said ≡ said_of (parts_of bytes)
spells_parts bytes said h = h.3 ∙ sym (ap said_of (ap parts_of h.2 ∙ parts_again h.0 h.1))

nothing_parts : (bytes : List ℕ) (o : Option Spelling) → parts_of bytes ≡ o → Says bytes (Err error.NotANumber) → Err error.NotANumber ≡ said_of o
nothing_parts bytes None e h = refl
nothing_parts bytes (Some s) e h = let f : Found bytes s = parts_found bytes s e in absurd (h s f.spelling f.bytes_are)

pub says_only : (bytes : List ℕ) (said : Result Number TimeError) → Says bytes said → said ≡ said_of (parts_of bytes)
says_only bytes (Ok n) h = spells_parts bytes (Ok n) h
says_only bytes (Err error.TooManyDigits) h = spells_parts bytes (Err error.TooManyDigits) h
says_only bytes (Err error.NotANumber) h = nothing_parts bytes (parts_of bytes) refl h
says_only bytes (Err error.TooLarge) h = absurd h
