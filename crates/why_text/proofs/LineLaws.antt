-- The lines of a chain, one link more.
use Rattle.std.specs.Prelude.{◌≡◌, ℕ, ℤ, ◌+◌, ◌-◌, ◌-ℤ◌, ◌<◌, pos, List, [], ◌∷◌, ◌++◌, codes, decimal, drop, length}
use Rattle.std.proofs.Common.{sym, ◌∙◌, ap, get_or}
use Rattle.std.proofs.lemmas.List.{at_drop_more, append_assoc}
use Rattle.sg_model.specs.Machine.{Violation}
use Rattle.sg_circuit.specs.Circuit.{Circuit, Element}
use Rattle.std.specs.Fmt.{signed_decimal}
use Rattle.wave_out.specs.Texts.{line}
use Rattle.why_causes.specs.declared.events.Event.{Event}
use Rattle.why_causes.specs.declared.links.Cause.{Cause}
use Rattle.why_causes.specs.declared.links.Link.{Link}
use Rattle.why_causes.specs.Waveform.{Waveform, event_at}
use Rattle.why_text.specs.Lines.{chain_lines, constant_line, event_front, start_line, through_line}
use Rattle.why_text.specs.Parting.{shortage, sums}
use Rattle.why_text.specs.Pins.{instance_text}

pub chain_step : (c : Circuit) (w : Waveform) (vs : List Violation) (end : Cause) (links : List Link) (i last : ℕ) (d : Link) (old text new : List ℕ) → i < length links
    → text ++ chain_lines c w vs last (drop i links) end ≡ old
    → new ≡ text ++ through_line c w (event_at w last) (get_or links i d)
    → new ++ chain_lines c w vs (get_or links i d).event (drop (i + 1) links) end ≡ old
chain_step c w vs end links i last d old text new l e is =
    ap (λ t. t ++ chain_lines c w vs (get_or links i d).event (drop (i + 1) links) end) is
    ∙ (append_assoc text (through_line c w (event_at w last) (get_or links i d)) (chain_lines c w vs (get_or links i d).event (drop (i + 1) links) end)
    ∙ (ap (λ t. text ++ t) (sym (at_drop_more (λ ls. chain_lines c w vs last ls end) links i d l)) ∙ e))

-- four texts, one after another
pub add_four : (start a b c d : List ℕ) {one two three four : List ℕ} → one ≡ start ++ a → two ≡ one ++ b → three ≡ two ++ c → four ≡ three ++ d → four ≡ start ++ (a ++ b ++ c ++ d)
add_four start a b c d e f g h =
    h ∙ (ap (λ t. t ++ d) (g ∙ ap (λ t. t ++ c) (f ∙ ap (λ t. t ++ b) e))
    ∙ (ap (λ t. t ++ c ++ d) (append_assoc start a b) ∙ (ap (λ t. t ++ d) (append_assoc start (a ++ b) c) ∙ append_assoc start (a ++ b ++ c) d)))

-- the sums of a violation
pub sums_made : (start : List ℕ) (v : Violation) (from : ℕ × ℕ) (d r : ℕ) (a s : ℤ) {one two three four : List ℕ}
    → d ≡ v.datum_time - from.0 → r ≡ v.refer_time - from.1 → a ≡ pos from.1 -ℤ pos from.0 → s ≡ shortage v
    → one ≡ start ++ line (codes "data " ++ decimal d) → two ≡ one ++ line (codes "reference " ++ decimal r) → three ≡ two ++ line (codes "apart " ++ signed_decimal a)
    → four ≡ three ++ line (codes "short by " ++ signed_decimal s) → four ≡ start ++ sums v from
sums_made start v from d r a s {one} {two} {three} di ri ai si e f g h =
    add_four start (line (codes "data " ++ decimal (v.datum_time - from.0))) (line (codes "reference " ++ decimal (v.refer_time - from.1)))
    (line (codes "apart " ++ signed_decimal (pos from.1 -ℤ pos from.0))) (line (codes "short by " ++ signed_decimal (shortage v)))
    (e ∙ ap (λ n. start ++ line (codes "data " ++ decimal n)) di) (f ∙ ap (λ n. one ++ line (codes "reference " ++ decimal n)) ri)
    (g ∙ ap (λ n. two ++ line (codes "apart " ++ signed_decimal n)) ai) (h ∙ ap (λ n. three ++ line (codes "short by " ++ signed_decimal n)) si)

-- the line of a constant, and of what comes before any input changed
pub constant_made : (start : List ℕ) (c : Circuit) (e : Event) (element : Element) (scope : ℕ) {one two three four : List ℕ} → scope ≡ element.scope
    → one ≡ start ++ event_front c e → two ≡ one ++ codes " constant in " → three ≡ two ++ instance_text c scope → four ≡ three ++ 10 ∷ []
    → four ≡ start ++ constant_line c e element
constant_made start c e element scope {one} {two} {three} is f g h k =
    add_four start (event_front c e) (codes " constant in ") (instance_text c element.scope) (10 ∷ []) f g (h ∙ ap (λ s. two ++ instance_text c s) is) k

pub start_made : (start : List ℕ) (c : Circuit) (e : Event) {one two : List ℕ} → one ≡ start ++ event_front c e → two ≡ one ++ codes " from the start\n" → two ≡ start ++ start_line c e
start_made start c e f g =
    g ∙ (ap (λ t. t ++ codes " from the start\n") f ∙ (append_assoc start (event_front c e) (codes " from the start\n")
    ∙ ap (λ t. start ++ t) (sym (append_assoc (event_front c e) (codes " from the start") (10 ∷ [])))))
