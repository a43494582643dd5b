-- Reading goes on from where it came to, and text that isn't taken leaves the state as it was.
use Rattle.std.proofs.Common.{◌≡◌, ℕ, ◌+◌, List, [], ◌∷◌, ◌++◌, take, drop, true, refl, sym, ap, ◌∙◌, subst}
use Rattle.std.specs.Prelude.{Option, None, Ok}
use Rattle.vl_token.specs.Tokens.{Settings, Lexeme}
use Rattle.vl_pieces.specs.Modes.{IsPiece, Piece}
use Rattle.vl_lex.specs.State.{Macros, Waiting, State, Outcome, is_taken}
use Rattle.vl_lex.specs.Directives.{outer}
use Rattle.vl_lex.specs.Effects.{comes_to, mode_at, effect}
use Rattle.vl_lex.specs.Lexes.{Leads, IsRead, Expands}
use Rattle.vl_lex.specs.Laws.{within, Keeps, Spot, past, ReadsTo, IsAny, IsUntaken, ComesTo, IsReadOn, IsSkipped}
use Rattle.vl_lex.specs.declared.branches.Branch.{Branch}
use Rattle.vl_lex.specs.declared.origins.Origin.TheVariants.{File}
use Rattle.vl_pieces.specs.declared.modes.Mode.{Mode}
use Rattle.vl_pieces.specs.declared.pieces.Class.{Class}
use Rattle.vl_lex.proofs.TakenBranches.{by_effect, mode_same, expands_lift}
use Rattle.vl_lex.proofs.UntakenText.{same, untaken_piece}

module _ (left file : ℕ) where
  reads_both : (Such : State → Type 0) (p : Spot) (s : State) (xs : List Piece) (q : Spot) (t : State) (ys : List Piece) (r : Spot) (u : State)
      → ReadsTo Such left file p s xs q t → ReadsTo Such left file q t ys r u → ReadsTo Such left file p s (xs ++ ys) r u
  reads_both Such p s [] q t ys r u h k =
      let at : ReadsTo Such left file p t ys r u = subst (λ z. ReadsTo Such left file z t ys r u) h.0 k in
      subst (λ z. ReadsTo Such left file p z ys r u) h.1 at
  reads_both Such p s (x ∷ xs) q t ys r u h k = (h.0, h.1, (h.2.0, h.2.1, reads_both Such (past x.size p) h.2.0 xs q t ys r u h.2.2 k))

  pub comes_on : (p : Spot) (s : State) (q : Spot) (t : State) (r : Spot) (u : State) → ComesTo left file p s q t → ComesTo left file q t r u → ComesTo left file p s r u
  comes_on p s q t r u h k = (h.0 ++ k.0, reads_both IsAny p s h.0 q t k.0 r u h.1 k.1)

  pub comes_nowhere : (p : Spot) (s : State) → ComesTo left file p s p s
  comes_nowhere p s = ([], (refl, refl))

  pub comes_by_piece : (p : Spot) (s : State) (n : ℕ) (c : Class) (next : State) → IsPiece (mode_at s) p.text n c → effect (File file) p.at c (take n p.text) s ≡ comes_to (Ok next)
      → ComesTo left file p s (past n p) next
  comes_by_piece p s n c next piece e =
      let leads : Leads (Expands left) (effect (File file) p.at c (take n p.text) s) (Ok next) = subst (λ f. Leads (Expands left) f (Ok next)) (sym e) refl in
      (record { class = c; size = n } ∷ [], (tt, piece, (next, leads, (refl, refl))))

  reads_on : (p : Spot) (s : State) (xs : List Piece) (q : Spot) (t : State) (o : Outcome) → ReadsTo IsAny left file p s xs q t → IsRead (Expands left) (File file) q.at q.text t o
      → IsRead (Expands left) (File file) p.at p.text s o
  reads_on p s [] q t o h r =
      let at : IsRead (Expands left) (File file) p.at p.text t o = subst (λ z. IsRead (Expands left) (File file) z.at z.text t o) h.0 r in
      subst (λ z. IsRead (Expands left) (File file) p.at p.text z o) h.1 at
  reads_on p s (x ∷ xs) q t o h r =
      let rest : IsRead (Expands left) (File file) (p.at + x.size) (drop x.size p.text) h.2.0 o = reads_on (past x.size p) h.2.0 xs q t o h.2.2 r in
      (x ∷ rest.0, (h.1, (Ok h.2.0, h.2.1, rest.1)))

  pub is_read_on : (p : Spot) (s : State) (q : Spot) (t : State) → ComesTo left file p s q t → IsReadOn left file p s q t
  is_read_on p s q t h o r = reads_on p s h.0 q t o h.1 r

  -- within branches whose texts are taken
  reads_within : (round : List Branch) (taken : is_taken round ≡ true) (above : is_taken (outer round) ≡ true) (p : Spot) (s : State) (xs : List Piece) (q : Spot) (t : State)
      → ReadsTo IsAny left file p s xs q t → ReadsTo IsAny left file p (within round s) xs q (within round t)
  reads_within round taken above p s [] q t h = (h.0, ap (within round) h.1)
  reads_within round taken above p s (x ∷ xs) q t h =
      let same_mode = mode_same round taken above (Expands left) (expands_lift round taken above left) s in
      let leads = by_effect round taken above (Expands left) (expands_lift round taken above left) (File file) p.at x.class (take x.size p.text) s h.2.0 h.2.1 in
      (tt, subst (λ m. IsPiece m p.text x.size x.class) (sym same_mode) h.1, (within round h.2.0, leads, reads_within round taken above (past x.size p) h.2.0 xs q t h.2.2))

  pub comes_within : (round : List Branch) (taken : is_taken round ≡ true) (above : is_taken (outer round) ≡ true) (p : Spot) (s : State) (q : Spot) (t : State)
      → ComesTo left file p s q t → ComesTo left file p (within round s) q (within round t)
  comes_within round taken above p s q t h = (h.0, reads_within round taken above p s h.0 q t h.1)

  -- ---- text that isn't taken

  keeps_on : (s t u : State) → Keeps s t → Keeps t u → Keeps s u
  keeps_on s t u h k = record { tokens = k.tokens ∙ h.tokens; macros = k.macros ∙ h.macros; settings = k.settings ∙ h.settings; mode = k.mode ∙ h.mode }

  reads_any : (p : Spot) (s : State) (xs : List Piece) (q : Spot) (t : State) → ReadsTo IsUntaken left file p s xs q t → ReadsTo IsAny left file p s xs q t
  reads_any p s [] q t h = h
  reads_any p s (x ∷ xs) q t h = (tt, h.1, (h.2.0, h.2.1, reads_any (past x.size p) h.2.0 xs q t h.2.2))

  skip_keeps : (p : Spot) (s : State) (xs : List Piece) (q : Spot) (t : State) → ReadsTo IsUntaken left file p s xs q t → Keeps s t
  skip_keeps p s [] q t h = subst (λ z. Keeps s z) (sym h.1) (same s)
  skip_keeps p s (x ∷ xs) q t h =
      keeps_on s h.2.0 t (untaken_piece left (File file) p.at x.class (take x.size p.text) s h.2.0 h.0.0 h.0.1 h.2.1) (skip_keeps (past x.size p) h.2.0 xs q t h.2.2)

  all_kept : (s t : State) → Keeps s t → t.branches ≡ s.branches → t.waiting ≡ s.waiting → t ≡ s
  all_kept s t k b w =
      let make : Mode → Option Waiting → Macros → List Branch → Settings → List Lexeme → State =
      λ mode waiting macros branches settings tokens. record { mode = mode; waiting = waiting; macros = macros; branches = branches; settings = settings; tokens = tokens } in
      ap (λ m. make m t.waiting t.macros t.branches t.settings t.tokens) k.mode
      ∙ ap (λ v. make s.mode v t.macros t.branches t.settings t.tokens) w
      ∙ ap (λ m. make s.mode s.waiting m t.branches t.settings t.tokens) k.macros
      ∙ ap (λ bs. make s.mode s.waiting s.macros bs t.settings t.tokens) b
      ∙ ap (λ c. make s.mode s.waiting s.macros s.branches c t.tokens) k.settings
      ∙ ap (λ l. make s.mode s.waiting s.macros s.branches s.settings l) k.tokens

  pub comes_by_skip : (p : Spot) (s : State) (q : Spot) → s.waiting ≡ None → IsSkipped left file p s q → ComesTo left file p s q s
  comes_by_skip p s q w h =
      let is : h.last ≡ s = all_kept s h.last (skip_keeps p s h.pieces q h.last h.reads) h.closed (h.complete ∙ sym w) in
      subst (λ z. ComesTo left file p s q z) is (h.pieces, reads_any p s h.pieces q h.last h.reads)
