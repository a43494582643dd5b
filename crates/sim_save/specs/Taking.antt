-- What is taken from the front of a text, and that nothing of a kind stands there.
use Rattle.std.specs.Prelude.{ℕ, ◌≡◌, ◌++◌, ◌<◌, ◌^◌, List}
use Rattle.sim_save.specs.Breaks.{EndsWord}
use Rattle.sim_save.specs.Steps.{Counts}
use Rattle.sim_save.specs.declared.lines.Head.{Head}
use Rattle.sim_save.specs.declared.lines.Sizes.{Sizes}

-- a front of the text
abbrev pub NotBehind : (front text : List ℕ) → Type 0
NotBehind front text = (rest : List ℕ) → text ≡ front ++ rest → ⊥

-- a word of some form, with what follows it
abbrev pub IsTaken : {A : Type 0} → (A → Type 0) → (A → List ℕ) → List ℕ → A → List ℕ → Type 0
IsTaken fit form text x rest = fit x × (text ≡ form x ++ rest) × EndsWord rest

abbrev pub NoneTaken : {A : Type 0} → (A → Type 0) → (A → List ℕ) → List ℕ → Type 0
NoneTaken {A} fit form text = (x : A) (rest : List ℕ) → fit x → EndsWord rest → text ≡ form x ++ rest → ⊥

-- a whole text of some form
abbrev pub IsOfForm : {A : Type 0} → (A → Type 0) → (A → List ℕ) → List ℕ → A → Type 0
IsOfForm fit form text x = fit x × (text ≡ form x)

abbrev pub NoneOfForm : {A : Type 0} → (A → Type 0) → (A → List ℕ) → List ℕ → Type 0
NoneOfForm {A} fit form text = (x : A) → fit x → text ≡ form x → ⊥

-- no line of a kind
abbrev pub NoLine : (List ℕ → Type 0) → List ℕ → Type 0
NoLine IsKind text = (line more : List ℕ) → text ≡ line ++ more → IsKind line → ⊥

abbrev pub Is64 : ℕ → Type 0
Is64 n = n < 2 ^ 64

abbrev pub Is32 : ℕ → Type 0
Is32 n = n < 2 ^ 32

abbrev pub counts_seen : Head → Counts
counts_seen h = record { time = h.time; tick = h.tick; nets = h.sizes.nets; elements = h.sizes.elements; udps = h.sizes.udps; checks = h.sizes.checks }

abbrev pub AreSizes : Sizes → Type 0
AreSizes s = Is32 s.nets × Is32 s.elements × Is32 s.udps × Is32 s.checks
