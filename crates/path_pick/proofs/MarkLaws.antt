-- The flags of the inputs of paths, which are set and taken off again.
use Rattle.std.specs.Prelude.{◌≡◌, ℕ, ◌==◌, Bool, true, false, not, ◌&&◌, ◌||◌, List, [], ◌∷◌, slice_index_or, refl}
use Rattle.std.proofs.Common.{◌∙◌, ap}
use Rattle.std.proofs.lemmas.Bool.{and_right}
use Rattle.sg_logic.specs.declared.values.Value.{Value}
use Rattle.sg_circuit.specs.declared.paths.Path.{Path}
use Rattle.path_pick.specs.Marks.{is_input, AreMarked, AreOff}
use Rattle.path_pick.specs.Pass.{condition_is_true, some_is_true}

-- a net from which a path goes whose own condition holds is one from which a path goes
true-input : (paths : List Path) (values : List Value) (net : ℕ) → (some_is_true paths values net && not (is_input paths net)) ≡ false
true-input [] values net = refl
true-input (p ∷ ps) values net = at (p.input == net) (true-input ps values net)
  where
    at : (b : Bool) → (some_is_true ps values net && not (is_input ps net)) ≡ false → (((b && condition_is_true values p.condition) || some_is_true ps values net) && not (b || is_input ps net)) ≡ false
    at true rest = and_right (condition_is_true values p.condition || some_is_true ps values net) false refl
    at false rest = rest

pub off_again : (paths : List Path) (values : List Value) (marked new : List Bool) → AreMarked paths values marked
    → ((net : ℕ) → slice_index_or new net false ≡ (slice_index_or marked net false && not (is_input paths net))) → AreOff new
off_again paths values marked new are cleared = λ net. cleared net ∙ (ap (λ b. b && not (is_input paths net)) (are net) ∙ true-input paths values net)
