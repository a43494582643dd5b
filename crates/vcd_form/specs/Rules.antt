-- The grammar of dumps (IEEE 1364-2005, 18.2.1 to 18.2.3).
use Rattle.std.specs.Prelude.{ℕ, ℤ, zero, suc, pos, ◌+ℤ◌, Bool, true, false, ◌||◌, not, nat_lt, List, drop, take, Option, Some, unwrap_or}
use Rattle.sg_time.specs.Spelling.{number_from}
use Rattle.grammar.specs.Placed as places
use Rattle.grammar.specs.Rule as rule
use Rattle.grammar.specs.Rule.{◌∙∙◌, ◌▸◌, ◌◂◌, mapped, named, no_kind, only_if, Rule}
use Rattle.grammar.specs.States.{many_by}
use Rattle.vcd_form.specs.Kinds.{Kind, kind_of, is_any, is_code, is_comment, is_definitions, is_end, is_idle, is_joined, is_range, is_real, is_remark, is_scalar, is_scale, is_scope, is_time, is_timescale, is_unit, is_upscope, is_var, is_vector, is_width, joined_power, scale_power, unit_power}
use Rattle.vcd_form.specs.Words.{Word}
use Rattle.vcd_form.specs.Written.{Declaration, Front, Item, Section, declares, enters, instant, leaves, nothing, real, remark, timescale, value}

abbrev pub Grammar : Type 0 → Type 1
Grammar A = Rule Word Kind A

abbrev pub token : {A : Type 0} → (Word → A) → (Kind → Bool) → Grammar A
token f is = mapped f (rule.one kind_of is)

abbrev pub mark : (Kind → Bool) → Grammar (Unit {0})
mark is = rule.quoted kind_of is

abbrev pub text : (Kind → Bool) → Grammar (List ℕ)
text is = token (λ w. w.bytes) is

abbrev pub placed : {A : Type 0} → Grammar A → Grammar (ℕ × A)
placed a = places.placed (λ w. w.byte) a

abbrev pub either : {A : Type 0} → Grammar A → Grammar A → Grammar A
either a b = rule.either kind_of a b

-- ---- the header

-- remark = ("$date" | "$version" | "$comment") { word } "$end"
unfoldable pub remark_rest : Grammar (Unit {0})
remark_rest = mapped (λ x. tt) (rule.many kind_of (mark is_any) ◂ mark is_end)

unfoldable pub remark_parts : (Kind → Bool) → Grammar (Unit {0})
remark_parts is = mark is ▸ remark_rest

abbrev pub remark_of : (Kind → Bool) → Grammar (Unit {0})
remark_of is = named is no_kind (remark_parts is)

-- power = joined | scale unit
abbrev pub power_of : Option ℤ → ℤ
power_of p = unwrap_or p (pos 0)

abbrev pub number_of : (List ℕ → Option ℤ) → (Kind → Bool) → Grammar ℤ
number_of power is = token (λ w. power_of (power w.bytes)) is

unfoldable pub power_parts : Grammar ℤ
power_parts = either (number_of joined_power is_joined) (mapped (λ x. x.0 +ℤ x.1) (number_of scale_power is_scale ∙∙ number_of unit_power is_unit))

abbrev pub power_starts : Kind → Bool
power_starts k = is_joined k || is_scale k

abbrev pub power : Grammar ℤ
power = named power_starts no_kind power_parts

-- timescale = "$timescale" power "$end"
abbrev pub timescale_rest : Grammar ℤ
timescale_rest = power ◂ mark is_end

unfoldable pub timescale_parts : Grammar ℤ
timescale_parts = mark is_timescale ▸ timescale_rest

abbrev pub timescale_section : Grammar ℤ
timescale_section = named is_timescale no_kind timescale_parts

-- scope = "$scope" word name "$end"
abbrev pub scope_rest : Grammar (List ℕ)
scope_rest = mark is_any ▸ (text is_any ◂ mark is_end)

unfoldable pub scope_parts : Grammar (List ℕ)
scope_parts = mark is_scope ▸ scope_rest

abbrev pub scope_section : Grammar (List ℕ)
scope_section = named is_scope no_kind scope_parts

-- upscope = "$upscope" "$end"
unfoldable pub upscope_parts : Grammar (Unit {0})
upscope_parts = mark is_upscope ▸ mark is_end

abbrev pub upscope_section : Grammar (Unit {0})
upscope_section = named is_upscope no_kind upscope_parts

-- variable = "$var" word width code name [ range ] "$end"
abbrev pub width : Grammar ℕ
width = token (λ w. number_from 0 w.bytes) is_width

abbrev pub range_rest : Grammar (Option (List ℕ))
range_rest = rule.optional kind_of (text is_range) ◂ mark is_end

abbrev pub variable_rest : Grammar (ℕ × (List ℕ × (List ℕ × Option (List ℕ))))
variable_rest = mark is_any ▸ (width ∙∙ (text is_code ∙∙ (text is_any ∙∙ range_rest)))

abbrev pub declaration_of : ℕ × (ℕ × (List ℕ × (List ℕ × Option (List ℕ)))) → Declaration
declaration_of x = record { byte = x.0; width = x.1.0; code = x.1.1.0; name = x.1.1.1.0; range = x.1.1.1.1 }

unfoldable pub variable_parts : Grammar Declaration
variable_parts = mapped declaration_of (placed (mark is_var ▸ variable_rest))

-- what stands behind a `$var` at a byte
abbrev pub variable_behind : ℕ → Grammar Declaration
variable_behind byte = mapped (λ x. declaration_of (byte, x)) variable_rest

abbrev pub variable_section : Grammar Declaration
variable_section = named is_var no_kind variable_parts

-- what came before: whether a timescale did, and how many scopes are open
pub record Came : Type 0 where
  pub scaled : Bool
  pub depth : ℕ

-- section = remark | timescale, at most once | scope | upscope, where a scope is open | variable
unfoldable pub section_parts : Came → Grammar Section
section_parts came =
    either (mapped (λ u. remark) (remark_of is_remark)) (either (only_if (not came.scaled) (mapped timescale timescale_section))
    (either (mapped enters scope_section) (either (only_if (nat_lt 0 came.depth) (mapped (λ u. leaves) upscope_section)) (mapped declares variable_section))))

abbrev pub section_starts : Kind → Bool
section_starts k = is_remark k || (is_timescale k || (is_scope k || (is_upscope k || is_var k)))

abbrev pub section_of : Came → Grammar Section
section_of came = named section_starts no_kind (section_parts came)

abbrev pub less : ℕ → ℕ
less zero = zero
less (suc n) = n

abbrev pub came_after : Came → Section → Came
came_after c remark = c
came_after c (timescale p) = record { scaled = true; depth = c.depth }
came_after c (enters n) = record { scaled = c.scaled; depth = suc c.depth }
came_after c leaves = record { scaled = c.scaled; depth = less c.depth }
came_after c (declares d) = c

abbrev pub came_first : Came
came_first = record { scaled = false; depth = 0 }

-- header = { section }
abbrev pub header : Grammar (List Section)
header = many_by kind_of section_starts section_of came_after (λ c. true) came_first

-- ---- behind it

-- comment = "$comment" { word } "$end"; a value's bits stand with its code, or before it as a word
abbrev pub head_of : List ℕ → List ℕ
head_of t = take 1 t

abbrev pub behind_first : List ℕ → List ℕ
behind_first t = drop 1 t

abbrev pub vector_of : (ℕ × List ℕ) × (ℕ × List ℕ) → Item
vector_of x = value x.0.0 x.1.0 (behind_first x.0.1) x.1.1

abbrev pub real_of : (ℕ × List ℕ) × (ℕ × List ℕ) → Item
real_of x = real x.0.0 x.1.0 x.1.1

-- item = time | comment | "$dumpvars" | "$dumpall" | "$dumpon" | "$dumpoff" | "$end" | scalar | vector code | real code
unfoldable pub item_parts : Grammar Item
item_parts =
    either (token (λ w. instant w.byte (behind_first w.bytes)) is_time)
    (either (mapped (λ u. nothing) (remark_of is_comment))
    (either (token (λ w. nothing) is_idle)
    (either (token (λ w. value w.byte w.byte (head_of w.bytes) (behind_first w.bytes)) is_scalar)
    (either (mapped vector_of (placed (text is_vector) ∙∙ placed (text is_code)))
    (mapped real_of (placed (text is_real) ∙∙ placed (text is_code)))))))

abbrev pub item_starts : Kind → Bool
item_starts k = is_time k || (is_comment k || (is_idle k || (is_scalar k || (is_vector k || is_real k))))

abbrev pub item : Grammar Item
item = named item_starts no_kind item_parts

-- start = "$enddefinitions" "$end"
unfoldable pub start_parts : Grammar ℕ
start_parts = mapped (λ x. x.0) (placed (mark is_definitions ▸ mark is_end))

abbrev pub start : Grammar ℕ
start = named is_definitions no_kind start_parts

-- body = start { item }
unfoldable pub body_parts : Grammar (ℕ × List Item)
body_parts = start ∙∙ rule.many kind_of item

abbrev pub body : Grammar (ℕ × List Item)
body = named is_definitions item_starts body_parts

-- dump = header body
abbrev pub dump : Grammar Front
dump = mapped (λ x. record { sections = x.0; body = Some x.1 }) (header ∙∙ body)

-- what a dump begins with: sections, and perhaps the body so far
abbrev pub front : Grammar Front
front = mapped (λ x. record { sections = x.0; body = x.1 }) (header ∙∙ rule.optional kind_of body)
