-- Each bit of a row is one of a variable.
use Rattle.std.specs.Prelude.{ℕ, ◌<◌, List, false, None, [], length}
use Rattle.std.specs.List.{AllByRecursion}
use Rattle.std.proofs.lemmas.Option.{slice_get-get_or}
use Rattle.sg_circuit.specs.declared.scopes.Port.TheVariants as port
use Rattle.elab_model.specs.Bits.{positions}
use Rattle.elab_model.specs.Names.{Variable}
use Rattle.elab_laws.specs.Handing.{variable_bits, all_bits}
use Rattle.elab_laws.proofs.Lists.{In, all-anyway, all-flat_in, all-get, all-map, all-weaker}
use Rattle.elab_laws.proofs.NoFaults.{all-from}
use Rattle.elab_bits.specs.Seen.{bit_at}

pub all-bits : (P : Variable × ℕ → Type 0) (vs : List Variable) → AllByRecursion (λ v. (p : ℕ) → P (v, p)) vs → AllByRecursion P (all_bits vs)
all-bits P vs h =
    all-flat_in P variable_bits vs
    (all-weaker (λ v. (p : ℕ) → P (v, p)) (λ v. AllByRecursion P (variable_bits v)) vs
    (λ v k. all-map P (λ p. (v, p)) (positions v.range) (all-anyway (λ p. P (v, p)) (positions v.range) k)) h)

pub bit-of : (vs : List Variable) (i : ℕ) → i < length (all_bits vs) → In (bit_at vs i).0 vs
bit-of vs i lt =
    all-get (λ b. In b.0 vs) (all_bits vs) i (bit_at vs i) (all-bits (λ b. In b.0 vs) vs (all-from (λ v. (p : ℕ) → In v vs) vs (λ v h p. h)))
    (slice_get-get_or (all_bits vs) i (record { name = []; range = None; is_reg = false; port = port.Inner }, 0) lt)
