-- The header, section after section.
use Rattle.std.proofs.Common.{◌≡◌, ℕ, ◌+◌, ◌-◌, ◌<◌, true, false, List, [], ◌∷◌, ◌++◌, length, map, Result, Ok, Err, refl, sym, ap, ◌∙◌, subst}
use Rattle.std.specs.Prelude.{Bool, Option, Some, None, not, nat_lt, slice_get}
use Rattle.grammar.specs.Placed.{read_place}
use Rattle.grammar.specs.Reading.{◌>>=◌}
use Rattle.grammar.specs.Rule.{stands}
use Rattle.grammar.specs.declared.ReadFault.{ReadFault}
use Rattle.grammar.specs.declared.ReadFault.TheVariants as faults
use Rattle.grammar.proofs.LoopsBy.{by_advances, by_begins, by_ends, by_fails, by_goes_on, rest_of_by}
use Rattle.vcd_form.specs.Kinds.{kind_of, var_kind}
use Rattle.vcd_form.specs.Places.{read_at, IsBetween}
use Rattle.vcd_form.specs.Reading.{header_read, HeaderGoes, SectionAt, StartAt}
use Rattle.vcd_form.specs.Rules.{came_after, came_first, declaration_of, header, section_of, section_parts, section_starts, start, variable_behind, variable_parts, variable_rest, variable_section, Came}
use Rattle.vcd_form.specs.Seen.{section_seen}
use Rattle.vcd_form.specs.Words.{words, Word}
use Rattle.vcd_form.specs.Written as written
use Rattle.vcd_form.specs.Written.{declares, Declaration}
use Rattle.vcd_form.specs.declared.written.Section.{Section}
use Rattle.vcd_form.proofs.FormExact.{section-exact, sections}
use Rattle.vcd_form.proofs.PlaceLaws.{read_first}

-- what is read behind some sections, together with them
abbrev pub left : List Word → List Section → Came → ℕ → Result (List written.Section × ℕ) ℕ
left ws items came n = rest_of_by kind_of section_starts section_of came_after (λ c. true) ws (λ s. section_seen s) items came n

pub begins : (text : List ℕ) (items : List Section) → items ≡ [] → left (words text) items came_first (read_at text 0) ≡ header.read (words text) 0
begins text items e =
    ap (λ (xs : List Section). left (words text) xs came_first (read_at text 0)) e
    ∙ (by_begins kind_of section_starts section_of came_after (λ c. true) section-exact (λ _. refl) (words text) (λ (s : Section). section_seen s) came_first (read_at text 0) ∙ ap (header.read (words text)) (read_first text))

pub goes_on : (ws : List Word) (items : List Section) (came : Came) (n : ℕ) (x : Section) (m : ℕ) → stands kind_of section_starts ws n ≡ true → (section_of came).read ws n ≡ Ok (section_seen x, m)
    → left ws items came n ≡ header.read ws 0 → left ws (items ++ x ∷ []) (came_after came (section_seen x)) m ≡ header.read ws 0
goes_on ws items came n x m does h so_far = by_goes_on kind_of section_starts section_of came_after (λ c. true) section-exact (λ _. refl) ws (λ (s : Section). section_seen s) (header.read ws 0) items came n x m does h so_far

pub smaller : (ws : List Word) (came : Came) (n : ℕ) (x : written.Section) (m : ℕ) → stands kind_of section_starts ws n ≡ true → (section_of came).read ws n ≡ Ok (x, m) → length ws - m < length ws - n
smaller ws came n x m does h = by_advances kind_of section_starts section_of came_after (λ c. true) section-exact (λ _. refl) ws (λ (s : Section). section_seen s) came n x m does h

pub fails : (text : List ℕ) (items : List Section) (came : Came) (n e : ℕ) → stands kind_of section_starts (words text) n ≡ true → (section_of came).read (words text) n ≡ Err e
    → left (words text) items came n ≡ header.read (words text) 0 → header_read text ≡ Err e
fails text items came n e does h so_far =
    let read = by_fails kind_of section_starts section_of came_after (λ c. true) section-exact (λ _. refl) (words text) (λ (s : Section). section_seen s) (header.read (words text) 0) items came n (faults.At e) does h so_far in
    rw read refl

read_sections : (ws : List Word) (items : List Section) (came : Came) (n : ℕ) → stands kind_of section_starts ws n ≡ false → left ws items came n ≡ header.read ws 0 → header.read ws 0 ≡ Ok (map (λ s. section_seen s) items, n)
read_sections ws items came n none so_far = by_ends kind_of section_starts section_of came_after (λ c. true) section-exact (λ _. refl) ws (λ (s : Section). section_seen s) (header.read ws 0) items came n none refl so_far

pub ends : (text : List ℕ) (items : List Section) (came : Came) (n b k : ℕ) → stands kind_of section_starts (words text) n ≡ false → start.read (words text) n ≡ Ok (b, k)
    → left (words text) items came n ≡ header.read (words text) 0 → header_read text ≡ Ok ((map (λ s. section_seen s) items, b), k)
ends text items came n b k none h so_far = let read = read_sections (words text) items came n none so_far in rw (read, h) refl

pub start_fails : (text : List ℕ) (items : List Section) (came : Came) (n e : ℕ) → stands kind_of section_starts (words text) n ≡ false → start.read (words text) n ≡ Err e
    → left (words text) items came n ≡ header.read (words text) 0 → header_read text ≡ Err e
start_fails text items came n e none h so_far = let read = read_sections (words text) items came n none so_far in rw (read, h) refl

-- ---- a variable, behind its `$var`

abbrev Rest : Type 0
Rest = ℕ × (List ℕ × (List ℕ × Option (List ℕ)))

abbrev behind_mark : {A : Type 0} → A × ℕ → Result ((Unit {0} × A) × ℕ) ℕ
behind_mark y = Ok ((tt, y.0), y.1)

abbrev without_mark : {A : Type 0} → (Unit {0} × A) × ℕ → Result (A × ℕ) ℕ
without_mark z = Ok (z.0.1, z.1)

variable_read : (ws : List Word) (n : ℕ) (w : Word) → slice_get ws n ≡ Some w → kind_of w ≡ var_kind → variable_section.read ws n ≡ (variable_behind w.byte).read ws (n + 1)
unfolding variable_parts
variable_read ws n w at is = rw (at, is) (go (variable_rest.read ws (n + 1)))
  where
    whole : (ℕ × Rest) × ℕ → Result (Declaration × ℕ) ℕ
    whole x = Ok (declaration_of x.0, x.1)

    with_byte : Rest × ℕ → Result (Declaration × ℕ) ℕ
    with_byte x = Ok (declaration_of (w.byte, x.0), x.1)

    go : (r : Result (Rest × ℕ) ℕ) → ((((r >>= behind_mark) >>= without_mark) >>= read_place (λ (v : Word). v.byte) (Some w) n) >>= whole) ≡ (r >>= with_byte)
    go (Ok y) = refl
    go (Err e) = refl

abbrev declared : Declaration × ℕ → Result (written.Section × ℕ) ℕ
declared x = Ok (declares x.0, x.1)

pub variable_is : (ws : List Word) (n : ℕ) (w : Word) (came : Came) → slice_get ws n ≡ Some w → kind_of w ≡ var_kind → (section_of came).read ws n ≡ ((variable_behind w.byte).read ws (n + 1) >>= declared)
unfolding section_parts
variable_is ws n w came at is = go (not came.scaled) (nat_lt 0 came.depth)
  where
    go : (may left : Bool) → (sections may left).read ws n ≡ ((variable_behind w.byte).read ws (n + 1) >>= declared)
    go true true = rw (at, is) (ap (λ r. r >>= declared) (variable_read ws n w at is))
    go true false = rw (at, is) (ap (λ r. r >>= declared) (variable_read ws n w at is))
    go false true = rw (at, is) (ap (λ r. r >>= declared) (variable_read ws n w at is))
    go false false = rw (at, is) (ap (λ r. r >>= declared) (variable_read ws n w at is))

-- ---- steps of the loop

pub section_step : (text : List ℕ) (came : Came) (n : ℕ) (o : Option (Section × ℕ)) (s : Section) (next : ℕ) → o ≡ Some (s, next) → SectionAt text came n (Ok o)
    → (stands kind_of section_starts (words text) n ≡ true) × ((section_of came).read (words text) n ≡ Ok (section_seen s, read_at text next)) × IsBetween text next
section_step text came n o s next e h = let step = subst (λ (p : Option (Section × ℕ)). SectionAt text came n (Ok p)) e h in (step.0, step.1, step.2)

pub kept : (ws : List Word) (items after : List Section) (came then : Came) (n : ℕ) (x : Section) (m : ℕ) → after ≡ items ++ x ∷ [] → then ≡ came_after came (section_seen x) → stands kind_of section_starts ws n ≡ true → (section_of came).read ws n ≡ Ok (section_seen x, m)
    → left ws items came n ≡ header.read ws 0 → left ws after then m ≡ header.read ws 0
kept ws items after came then n x m e f does h so_far =
    ap (λ (xs : List Section). left ws xs then m) e ∙ (ap (λ (c : Came). left ws (items ++ x ∷ []) c m) f ∙ goes_on ws items came n x m does h so_far)

pub none_stands : (text : List ℕ) (came : Came) (n : ℕ) (o : Option (Section × ℕ)) → o ≡ None → SectionAt text came n (Ok o) → stands kind_of section_starts (words text) n ≡ false
none_stands text came n o e h = subst (λ (p : Option (Section × ℕ)). SectionAt text came n (Ok p)) e h

pub section_fails : (text : List ℕ) (items : List Section) (came : Came) (n : ℕ) (e : ReadFault) → SectionAt text came n (Err e) → left (words text) items came n ≡ header.read (words text) 0 → HeaderGoes text (Err e)
section_fails text items came n faults.Memory h so_far = tt
section_fails text items came n (faults.At at) h so_far = (fails text items came n (read_at text at) h.0 h.1 so_far, h.2)

pub start_stops : (text : List ℕ) (items : List Section) (came : Came) (n : ℕ) (e : ReadFault) → stands kind_of section_starts (words text) n ≡ false → StartAt text n (Err e) → left (words text) items came n ≡ header.read (words text) 0 → HeaderGoes text (Err e)
start_stops text items came n faults.Memory none h so_far = tt
start_stops text items came n (faults.At at) none h so_far = (start_fails text items came n (read_at text at) none h.0 so_far, h.1)

pub variable_found : (text : List ℕ) (at next : ℕ) (w : Word) (came : Came) (d : Declaration) (behind : ℕ) → slice_get (words text) (read_at text at) ≡ Some w → read_at text next ≡ read_at text at + 1 → var_kind ≡ kind_of w
    → (variable_behind w.byte).read (words text) (read_at text next) ≡ Ok (d, read_at text behind) → (section_of came).read (words text) (read_at text at) ≡ Ok (declares d, read_at text behind)
variable_found text at next w came d behind stands step is h =
    variable_is (words text) (read_at text at) w came stands (sym is)
    ∙ (ap (λ (m : ℕ). (variable_behind w.byte).read (words text) m >>= declared) (sym step) ∙ ap (λ (r : Result (Declaration × ℕ) ℕ). r >>= declared) h)

pub variable_fails : (text : List ℕ) (at next : ℕ) (w : Word) (came : Came) (e : ℕ) → slice_get (words text) (read_at text at) ≡ Some w → read_at text next ≡ read_at text at + 1 → var_kind ≡ kind_of w
    → (variable_behind w.byte).read (words text) (read_at text next) ≡ Err e → (section_of came).read (words text) (read_at text at) ≡ Err e
variable_fails text at next w came e stands step is h =
    variable_is (words text) (read_at text at) w came stands (sym is)
    ∙ (ap (λ (m : ℕ). (variable_behind w.byte).read (words text) m >>= declared) (sym step) ∙ ap (λ (r : Result (Declaration × ℕ) ℕ). r >>= declared) h)
