-- The grammar of dumps is read exactly.
use Rattle.std.proofs.Common.{◌≡◌, Bool, true, false, refl}
use Rattle.std.specs.Prelude.{◌&&◌, not, nat_lt, is_some}
use Rattle.grammar.specs.Exact.{Exact, Apart, IsWithin}
use Rattle.grammar.specs.Rule as rule
use Rattle.grammar.specs.Rule.{◌∙∙◌, ◌▸◌, ◌◂◌, no_kind, only_if}
use Rattle.grammar.proofs.Laws as laws
use Rattle.vcd_form.specs.Kinds.{Kind, kind_of, is_any, is_code, is_comment, is_definitions, is_end, is_idle, is_joined, is_range, is_real, is_remark, is_scalar, is_scale, is_scope, is_time, is_timescale, is_unit, is_upscope, is_var, is_vector, is_width, scale_power, joined_power, time_kind, scalar_kind, vector_kind, real_kind, other_kind}
use Rattle.vcd_form.specs.Rules.{body, body_parts, came_after, came_first, dump, either, front, header, item, item_parts, mark, placed, power, power_parts, real_of, remark_of, remark_parts, remark_rest, scope_parts, scope_section, section_of, section_parts, section_starts, start, start_parts, timescale_parts, timescale_section, token, upscope_parts, upscope_section, variable_parts, variable_section, vector_of, Came, Grammar}
use Rattle.vcd_form.specs.Words.{Word}
use Rattle.vcd_form.specs.Written.{Section, declares, enters, leaves, remark, timescale}
use Rattle.vcd_form.proofs.AllKinds.{apart, apart_next, is_within}

abbrev pub IsExact : {A : Type 0} → Grammar A → Type 0
IsExact r = Exact kind_of r

the_token : {A : Type 0} (f : Word → A) (is : Kind → Bool) → IsExact (token f is)
the_token f is = laws.mapped-exact kind_of f _ (laws.one-exact kind_of is)

the_mark : (is : Kind → Bool) → IsExact (mark is)
the_mark is = laws.quoted-exact kind_of is

then : {A B : Type 0} {a : Grammar A} {b : Grammar B} → IsExact a → IsExact b → Apart a.continues b.starts → IsExact (a ∙∙ b)
then ea eb h = laws.seq-exact kind_of _ _ ea eb h

made : {A B : Type 0} {a : Grammar A} (f : A → B) → IsExact a → IsExact (rule.mapped f a)
made f ea = laws.mapped-exact kind_of f _ ea

behind : {A B : Type 0} {a : Grammar A} {b : Grammar B} → IsExact a → IsExact b → Apart a.continues b.starts → IsExact (a ▸ b)
behind ea eb h = made _ (then ea eb h)

before : {A B : Type 0} {a : Grammar A} {b : Grammar B} → IsExact a → IsExact b → Apart a.continues b.starts → IsExact (a ◂ b)
before ea eb h = made _ (then ea eb h)

called : {A : Type 0} {a : Grammar A} (S C : Kind → Bool) → IsExact a → a.empty ≡ false → IsWithin a.starts S → IsWithin a.continues C → IsExact (rule.named S C a)
called S C ea full p q = laws.named-exact kind_of _ ea S C full p q

with_place : {A : Type 0} {a : Grammar A} → IsExact a → a.empty ≡ false → IsExact (placed a)
with_place ea full = laws.placed-exact kind_of (λ w. w.byte) _ ea full

or : {A : Type 0} {a b : Grammar A} → IsExact a → IsExact b → a.empty ≡ false → b.empty ≡ false → Apart a.starts b.starts → IsExact (either a b)
or ea eb p q h = laws.either-exact kind_of _ _ ea eb p q h

closed : (d : Kind → Bool) → Apart (λ (k : Kind). false) d
closed d k p q = cc

same : (c : Kind → Bool) → IsWithin c c
same c k p = p

-- ---- the header

remark_rest-exact : IsExact remark_rest
unfolding remark_rest
remark_rest-exact = made _ (before (laws.many-exact kind_of _ (the_mark is_any) refl (closed _)) (the_mark is_end) (apart _ _ (λ _. refl)))

remark-exact : (is : Kind → Bool) → IsExact (remark_of is)
unfolding remark_parts remark_rest
remark-exact is = called _ _ (behind (the_mark is) remark_rest-exact (closed _)) refl (same _) (is_within _ _ (λ _. refl))

neither : (b c : Bool) → (not b && c) ≡ true → b ≡ true → ⊥
neither true c p q = cc
neither false c p q = cc

joined_apart : Apart is_joined is_scale
joined_apart (time_kind t) p q = neither (is_some (scale_power t)) (is_some (joined_power t)) p q
joined_apart (scalar_kind t) p q = neither (is_some (scale_power t)) (is_some (joined_power t)) p q
joined_apart (vector_kind t) p q = neither (is_some (scale_power t)) (is_some (joined_power t)) p q
joined_apart (real_kind t) p q = neither (is_some (scale_power t)) (is_some (joined_power t)) p q
joined_apart (other_kind t) p q = neither (is_some (scale_power t)) (is_some (joined_power t)) p q
joined_apart _ p q = cc

power-exact : IsExact power
unfolding power_parts
power-exact = called _ _ (or (the_token _ is_joined) (made _ (then (the_token _ is_scale) (the_token _ is_unit) (closed _))) refl refl joined_apart) refl (same _) (is_within _ _ (λ _. refl))

timescale-exact : IsExact timescale_section
unfolding timescale_parts
timescale-exact = called _ _ (behind (the_mark is_timescale) (before power-exact (the_mark is_end) (closed _)) (closed _)) refl (same _) (is_within _ _ (λ _. refl))

scope-exact : IsExact scope_section
unfolding scope_parts
scope-exact = called _ _ (behind (the_mark is_scope) (behind (the_mark is_any) (before (the_token _ is_any) (the_mark is_end) (closed _)) (closed _)) (closed _)) refl (same _) (is_within _ _ (λ _. refl))

upscope-exact : IsExact upscope_section
unfolding upscope_parts
upscope-exact = called _ _ (behind (the_mark is_upscope) (the_mark is_end) (closed _)) refl (same _) (is_within _ _ (λ _. refl))

variable-exact : IsExact variable_section
unfolding variable_parts
variable-exact =
    let range = before (laws.optional-exact kind_of _ (the_token _ is_range) refl) (the_mark is_end) (apart_next _ _ (λ _. refl)) in
    let rest = behind (the_mark is_any) (then (the_token _ is_width) (then (the_token _ is_code) (then (the_token _ is_any) range (closed _)) (closed _)) (closed _)) (closed _) in
    called _ _ (made _ (with_place (behind (the_mark is_var) rest (closed _)) refl)) refl (same _) (is_within _ _ (λ _. refl))

-- the sections, where a timescale may come or not, and a scope may be left or not
abbrev pub sections : Bool → Bool → Grammar Section
sections may left =
    either (rule.mapped (λ u. remark) (remark_of is_remark)) (either (only_if may (rule.mapped timescale timescale_section))
    (either (rule.mapped enters scope_section) (either (only_if left (rule.mapped (λ u. leaves) upscope_section)) (rule.mapped declares variable_section))))

sections-exact : (may left : Bool) → IsExact (rule.named section_starts no_kind (sections may left))
sections-exact true true = called _ _ (or (made _ (remark-exact is_remark)) (or (made timescale timescale-exact) (or (made _ scope-exact) (or (made (λ (u : Unit {0}). leaves) upscope-exact) (made _ variable-exact) refl refl (apart _ _ (λ _. refl))) refl refl (apart _ _ (λ _. refl))) refl refl (apart _ _ (λ _. refl))) refl refl (apart _ _ (λ _. refl))) refl (is_within _ _ (λ _. refl)) (is_within _ _ (λ _. refl))
sections-exact true false = called _ _ (or (made _ (remark-exact is_remark)) (or (made timescale timescale-exact) (or (made _ scope-exact) (or (laws.only_if-exact kind_of false _ (made (λ (u : Unit {0}). leaves) upscope-exact)) (made _ variable-exact) refl refl (apart _ _ (λ _. refl))) refl refl (apart _ _ (λ _. refl))) refl refl (apart _ _ (λ _. refl))) refl refl (apart _ _ (λ _. refl))) refl (is_within _ _ (λ _. refl)) (is_within _ _ (λ _. refl))
sections-exact false true = called _ _ (or (made _ (remark-exact is_remark)) (or (laws.only_if-exact kind_of false _ (made timescale timescale-exact)) (or (made _ scope-exact) (or (made (λ (u : Unit {0}). leaves) upscope-exact) (made _ variable-exact) refl refl (apart _ _ (λ _. refl))) refl refl (apart _ _ (λ _. refl))) refl refl (apart _ _ (λ _. refl))) refl refl (apart _ _ (λ _. refl))) refl (is_within _ _ (λ _. refl)) (is_within _ _ (λ _. refl))
sections-exact false false = called _ _ (or (made _ (remark-exact is_remark)) (or (laws.only_if-exact kind_of false _ (made timescale timescale-exact)) (or (made _ scope-exact) (or (laws.only_if-exact kind_of false _ (made (λ (u : Unit {0}). leaves) upscope-exact)) (made _ variable-exact) refl refl (apart _ _ (λ _. refl))) refl refl (apart _ _ (λ _. refl))) refl refl (apart _ _ (λ _. refl))) refl refl (apart _ _ (λ _. refl))) refl (is_within _ _ (λ _. refl)) (is_within _ _ (λ _. refl))

pub section-exact : (came : Came) → IsExact (section_of came)
unfolding section_parts
section-exact came = sections-exact (not came.scaled) (nat_lt 0 came.depth)

pub header-exact : IsExact header
header-exact = laws.many_by-exact kind_of section_starts section_of came_after (λ c. true) section-exact (λ _. refl) (λ s x. closed _) (λ s e. same _) (λ s k p. absurd cc) came_first

-- ---- behind it

pub item-exact : IsExact item
unfolding item_parts
item-exact =
    let vector = made vector_of (then (with_place (the_token _ is_vector) refl) (with_place (the_token _ is_code) refl) (closed _)) in
    let last = made real_of (then (with_place (the_token _ is_real) refl) (with_place (the_token _ is_code) refl) (closed _)) in
    called _ _ (or (the_token _ is_time) (or (made _ (remark-exact is_comment)) (or (the_token _ is_idle) (or (the_token _ is_scalar) (or vector last refl refl (apart _ _ (λ _. refl))) refl refl (apart _ _ (λ _. refl))) refl refl (apart _ _ (λ _. refl))) refl refl (apart _ _ (λ _. refl))) refl refl (apart _ _ (λ _. refl))) refl (same _) (is_within _ _ (λ _. refl))

pub start-exact : IsExact start
unfolding start_parts
start-exact = called _ _ (made _ (with_place (behind (the_mark is_definitions) (the_mark is_end) (closed _)) refl)) refl (same _) (is_within _ _ (λ _. refl))

pub body-exact : IsExact body
unfolding body_parts
body-exact = called _ _ (then start-exact (laws.many-exact kind_of _ item-exact refl (closed _)) (closed _)) refl (same _) (is_within _ _ (λ _. refl))

pub begun-exact : IsExact (header ∙∙ start)
begun-exact = then header-exact start-exact (apart _ _ (λ _. refl))

pub dump-exact : IsExact dump
dump-exact = made _ (then header-exact body-exact (apart _ _ (λ _. refl)))

pub front-exact : IsExact front
front-exact = made _ (then header-exact (laws.optional-exact kind_of _ body-exact refl) (apart _ _ (λ _. refl)))
