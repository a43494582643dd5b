-- Lines pushed one after another.
use Rattle.std.proofs.Common.{◌≡◌, ℕ, ◌<◌, ◌≤◌, List, [], ◌∷◌, ◌++◌, length, map, sym, ◌∙◌, ap, arith}
use Rattle.std.specs.Prelude.{ℤ, ◌-◌, ◌^◌}
use Rattle.std.specs.List.{slice_range}
use Rattle.std.specs.declared.option.Option.{Option}
use Rattle.std.proofs.lemmas.List.{append-nil, append_assoc, length-append, length-take}
use Rattle.std.proofs.lemmas.List.Concat.{flat_map-append}
use Rattle.sg_logic.specs.declared.values.Value.{Value}
use Rattle.sim_rounds.specs.declared.moments.LastChange.{LastChange}
use Rattle.sim_rounds.specs.Moments.{Moment}
use Rattle.sim_rounds.specs.MomentsSeen.{change_seen, moment_seen, pending_seen}
use Rattle.sim_rounds.specs.declared.moments.Moment as code
use Rattle.sim_rounds.specs.declared.moments.Pending as code_pending
use Rattle.time_checks.specs.declared.latest.Latest.{Latest}
use Rattle.sim_save.specs.Faults.{most_bytes}
use Rattle.sim_save.specs.Large.{IsTooLarge}
use Rattle.sim_save.specs.Lines.{body, check_line, end_line, head_line, joined, last_line, net_lines, pending_line, udp_line}
use Rattle.sim_save.specs.declared.kinds.SaveError.{SaveError}
use Rattle.sim_save.specs.declared.kinds.SaveError.TheVariants as error

-- a part moves from what is left to the text
pub moved : (text new part rest whole : List ℕ) → text ++ (part ++ rest) ≡ whole → new ≡ text ++ part → new ++ rest ≡ whole
moved text new part rest whole h e = ap (λ t. t ++ rest) e ∙ (append_assoc text part rest ∙ h)

-- a text is too large where its front is
pub larger : (front rest whole : List ℕ) (e : SaveError) → front ++ rest ≡ whole → IsTooLarge front e → IsTooLarge whole e
larger front rest whole error.TooLarge same h = let n = length-append front rest in let m = ap length same in omega (arith, n, m, h)
larger front rest whole error.NoMemory same h = tt

pub joined_five : (n p u k e : List (List ℕ)) → joined (n ++ p ++ u ++ k ++ e) ≡ joined n ++ (joined p ++ (joined u ++ (joined k ++ joined e)))
joined_five n p u k e =
    let f = λ (l : List ℕ). l in
    flat_map-append f (n ++ p ++ u ++ k) e
    ∙ (ap (λ t. t ++ joined e) (flat_map-append f (n ++ p ++ u) k) ∙ (append_assoc (joined (n ++ p ++ u)) (joined k) (joined e)
    ∙ (ap (λ t. t ++ (joined k ++ joined e)) (flat_map-append f (n ++ p) u) ∙ (append_assoc (joined (n ++ p)) (joined u) (joined k ++ joined e)
    ∙ (ap (λ t. t ++ (joined u ++ (joined k ++ joined e))) (flat_map-append f n p) ∙ append_assoc (joined n) (joined p) (joined u ++ (joined k ++ joined e)))))))

-- the lines of a moment from some kind on
abbrev pub checks_on : Moment → List ℕ
checks_on m = joined (map check_line m.latest) ++ (last_line m ++ end_line)

abbrev pub udps_on : Moment → List ℕ
udps_on m = joined (map udp_line m.udps) ++ checks_on m

abbrev pub pending_on : Moment → List ℕ
pending_on m = joined (map pending_line m.pending) ++ udps_on m

abbrev pub nets_on : Moment → List ℕ
nets_on m = joined (net_lines m.nets m.stamps) ++ pending_on m

pub body_parts : (tick : ℤ) (elements : ℕ) (m : Moment) → head_line tick elements m ++ nets_on m ≡ body tick elements m
body_parts tick elements m =
    let n = net_lines m.nets m.stamps in
    let p = map pending_line m.pending in
    let u = map udp_line m.udps in
    let k = map check_line m.latest in
    let e = last_line m ∷ end_line ∷ [] in
    let last : joined e ≡ last_line m ++ end_line = ap (λ t. last_line m ++ t) (append-nil end_line) in
    ap (λ t. head_line tick elements m ++ t) (sym (joined_five n p u k e ∙ ap (λ t. joined n ++ (joined p ++ (joined u ++ (joined k ++ t)))) last))

pub behind_head : (tick power : ℤ) (elements : ℕ) (m : Moment) (text new : List ℕ) → power ≡ tick → text ≡ [] → new ≡ text ++ head_line power elements m → new ++ nets_on m ≡ body tick elements m
behind_head tick power elements m text new same none h =
    moved text new (head_line tick elements m) (nets_on m) (body tick elements m) (ap (λ t. t ++ (head_line tick elements m ++ nets_on m)) none ∙ body_parts tick elements m) (h ∙ ap (λ p. text ++ head_line p elements m) same)

pub behind_nets : (m : code.Moment) (nets : List Value) (changes : List (Option LastChange)) (text new whole : List ℕ) → nets ≡ m.nets.items → changes ≡ m.stamps.items
    → text ++ nets_on (moment_seen m) ≡ whole → new ≡ text ++ joined (net_lines nets (map change_seen changes)) → new ++ pending_on (moment_seen m) ≡ whole
behind_nets m nets changes text new whole e f h g =
    let same = ap (λ vs. joined (net_lines vs (map change_seen changes))) e ∙ ap (λ cs. joined (net_lines m.nets.items (map change_seen cs))) f in
    moved text new (joined (net_lines m.nets.items (map change_seen m.stamps.items))) (pending_on (moment_seen m)) whole h (g ∙ ap (λ t. text ++ t) same)

pub behind_pending : (m : code.Moment) (pending : List code_pending.Pending) (text new whole : List ℕ) → pending ≡ m.pending.items → text ++ pending_on (moment_seen m) ≡ whole
    → new ≡ text ++ joined (map pending_line (map (λ p. pending_seen p) pending)) → new ++ udps_on (moment_seen m) ≡ whole
behind_pending m pending text new whole e h g =
    moved text new (joined (map pending_line (map (λ p. pending_seen p) m.pending.items))) (udps_on (moment_seen m)) whole h (g ∙ ap (λ ps. text ++ joined (map pending_line (map (λ p. pending_seen p) ps))) e)

pub behind_udps : (m : code.Moment) (udps : List Value) (text new whole : List ℕ) → udps ≡ m.udps.items → text ++ udps_on (moment_seen m) ≡ whole → new ≡ text ++ joined (map udp_line udps) → new ++ checks_on (moment_seen m) ≡ whole
behind_udps m udps text new whole e h g = moved text new (joined (map udp_line m.udps.items)) (checks_on (moment_seen m)) whole h (g ∙ ap (λ us. text ++ joined (map udp_line us)) e)

pub behind_checks : (m : code.Moment) (latest : List Latest) (text new whole : List ℕ) → latest ≡ m.latest.items → text ++ checks_on (moment_seen m) ≡ whole → new ≡ text ++ joined (map check_line latest)
    → new ++ (last_line (moment_seen m) ++ end_line) ≡ whole
behind_checks m latest text new whole e h g = moved text new (joined (map check_line m.latest.items)) (last_line (moment_seen m) ++ end_line) whole h (g ∙ ap (λ ks. text ++ joined (map check_line ks)) e)

pub behind_last : (m : Moment) (text new whole : List ℕ) → text ++ (last_line m ++ end_line) ≡ whole → new ≡ text ++ last_line m ++ end_line → new ≡ whole
behind_last m text new whole h g = g ∙ (append_assoc text (last_line m) end_line ∙ h)

-- a text is too large where a half has more than 2^29 bytes
pub twice_too_large : (half : List ℕ) (e : SaveError) → IsTooLarge half e → e ≡ error.TooLarge → most_bytes < length (half ++ half)
twice_too_large half error.TooLarge h same = let n = length-append half half in omega (arith, n, h)
twice_too_large half error.NoMemory h same = absurd (cc)

pub twice_small : (half made : List ℕ) (n : ℕ) → made ≡ half ++ slice_range half 0 n → length half ≤ 2 ^ 29 → length made ≤ most_bytes
twice_small half made n e h =
    let all = ap length e in
    let parts = length-append half (slice_range half 0 n) in
    let part = length-take (n - 0) half in
    omega (arith, all, parts, part, h)
