-- Chains of hops: what bounds them, and what extends them.
use Rattle.std.specs.Prelude.{◌≡◌, ℕ, zero, suc, ◌+◌, ◌<◌, ◌≤◌, true, false, All, Contains, IfSome, IsSome, List, [], ◌∷◌, ◌++◌, length, slice_index_or, Option, Some, None, refl}
use Rattle.std.proofs.Common.{sym, ◌∙◌, ap, subst, arith, inl, inr}
use Rattle.std.proofs.lemmas.Bool.{cases_lt}
use Rattle.std.proofs.lemmas.List.{get_or_past}
use Rattle.std.proofs.lemmas.List.Elements.{All-nil, All-cons, All-head, All-tail, All-push}
use Rattle.std.proofs.lemmas.List.Sums.{sum_by-cons, sum_by_push}
use Rattle.sg_circuit.specs.Circuit.{Circuit, Pass, element_at}
use Rattle.sg_circuit.specs.Closed.{IsClosed, IsNotifier}
use Rattle.sg_circuit.specs.declared.checks.Check as check_type
use Rattle.sim_rounds.specs.Notifiers.{notifier_at}
use Rattle.settle_bound.specs.declared.hops.Hop.{Hop}
use Rattle.settle_bound.specs.declared.hops.Hop.TheVariants.{Element, Check}
use Rattle.settle_bound.specs.Hops.{IsHop, nets_read, net_driven, weight, Reads}
use Rattle.settle_bound.specs.Chains.{Follow, last_of, IsChain, total_weight}
use Rattle.settle_bound.specs.Settling.{AreBounds}

-- numbers of nets that rise along each hop by its weight
pub record IsPotential (c : Circuit) (bound : ℕ → ℕ) : Type 0 where
  pub alone : (h : Hop) (net : ℕ) → IsHop c h → net_driven c h ≡ Some net → weight c h ≤ bound net
  pub behind : (h : Hop) (from net : ℕ) → IsHop c h → net_driven c h ≡ Some net → Contains (nets_read c h) from → bound from + weight c h ≤ bound net

-- a hop drives a net
pub driven-some : (c : Circuit) (h : Hop) → IsHop c h → (net : ℕ) × (net_driven c h ≡ Some net)
driven-some c (Element e) is = ((element_at c e).output, refl)
driven-some c (Check k) is = at (notifier_at c.checks k) is.1
  where
    at : (o : Option ℕ) → IsSome o → (net : ℕ) × (o ≡ Some net)
    at None i = absurd (let f : false ≡ true = i in cc)
    at (Some n) i = (n, refl)

same-some : (a b : ℕ) (o : Option ℕ) → o ≡ Some a → o ≡ Some b → a ≡ b
same-some a b o e f = let g : Some a ≡ Some b = sym e ∙ f in cc

follow-most : (c : Circuit) (bound : ℕ → ℕ) → IsPotential c bound → (before : Hop) (hops : List Hop) (sum start net : ℕ) → All (IsHop c) hops → net_driven c before ≡ Some start → sum ≤ bound start → Follow c before hops → net_driven c (last_of before hops) ≡ Some net
    → sum + total_weight c hops ≤ bound net
follow-most c bound p before [] sum start net all from l f to =
    let e : start ≡ net = same-some start net (net_driven c before) from to in
    let m : sum ≤ bound net = subst (λ n. sum ≤ bound n) e l in
    omega arith
follow-most c bound p before (h ∷ hops) sum start net all from l f to =
    let is : IsHop c h = All-head (IsHop c) h hops all in
    let next = driven-some c h is in
    let e : start ≡ f.0.net = same-some start f.0.net (net_driven c before) from f.0.driven in
    let through = p.behind h f.0.net next.0 is next.1 f.0.read in
    let m : sum ≤ bound f.0.net = subst (λ n. sum ≤ bound n) e l in
    let step : sum + weight c h ≤ bound next.0 = omega arith in
    let rest = follow-most c bound p h hops (sum + weight c h) next.0 net (All-tail (IsHop c) h hops all) next.1 step f.1 to in
    let cons : total_weight c (h ∷ hops) ≡ weight c h + total_weight c hops = sum_by-cons (weight c) h hops in
    omega arith

-- no chain to a net weighs more than its number
pub potential-most : (c : Circuit) (bound : ℕ → ℕ) → IsPotential c bound → (net : ℕ) (hops : List Hop) → IsChain c net hops → total_weight c hops ≤ bound net
potential-most c bound p net [] chain = omega arith
potential-most c bound p net (h ∷ hops) chain =
    let is : IsHop c h = All-head (IsHop c) h hops chain.0 in
    let next = driven-some c h is in
    let one = p.alone h next.0 is next.1 in
    let rest = follow-most c bound p h hops (weight c h) next.0 net (All-tail (IsHop c) h hops chain.0) next.1 one chain.1 chain.2 in
    let cons : total_weight c (h ∷ hops) ≡ weight c h + total_weight c hops = sum_by-cons (weight c) h hops in
    omega arith

-- one hop more
pub follow-push : (c : Circuit) (before : Hop) (hops : List Hop) (h : Hop) → Follow c before hops → Reads c (last_of before hops) h → Follow c before (hops ++ h ∷ [])
follow-push c before [] h f r = (r, tt)
follow-push c before (g ∷ hops) h f r = (f.0, follow-push c g hops h f.1 r)

pub last-push : (before : Hop) (hops : List Hop) (h : Hop) → last_of before (hops ++ h ∷ []) ≡ h
last-push before [] h = refl
last-push before (g ∷ hops) h = last-push g hops h

pub chain-push : (c : Circuit) (from net : ℕ) (hops : List Hop) (h : Hop) → IsChain c from hops → IsHop c h → Contains (nets_read c h) from → net_driven c h ≡ Some net → IsChain c net (hops ++ h ∷ [])
chain-push c from net [] h chain is read driven = (All-cons (IsHop c) h [] is (All-nil (IsHop c)), tt, driven)
chain-push c from net (g ∷ hops) h chain is read driven = (
  All-push (IsHop c) (g ∷ hops) h chain.0 is,
  follow-push c g hops h chain.1 (record { net = from; driven = chain.2; read = read }),
  ap (net_driven c) (last-push g hops h) ∙ driven,
)

pub weight-push : (c : Circuit) (hops : List Hop) (h : Hop) → total_weight c (hops ++ h ∷ []) ≡ total_weight c hops + weight c h
weight-push c hops h = sum_by_push (weight c) hops h

-- the nets that hops drive are the circuit's
notifier-at : (P : ℕ → Type 0) (checks : List check_type.Check) (k net : ℕ) → All (λ c. IfSome c.notifier P) checks → notifier_at checks k ≡ Some net → P net
notifier-at P [] k net h e = absurd (let f : None ≡ Some net = e in cc)
notifier-at P (c ∷ cs) zero net h e = at c.notifier (All-head (λ x. IfSome x.notifier P) c cs h) e
  where
    at : (o : Option ℕ) → IfSome o P → o ≡ Some net → P net
    at None i f = absurd (let g : None ≡ Some net = f in cc)
    at (Some n) i f = let g : n ≡ net = cc in subst P g i
notifier-at P (c ∷ cs) (suc k) net h e = notifier-at P cs k net (All-tail (λ x. IfSome x.notifier P) c cs h) e

pub notifier-is : (c : Circuit) → IsClosed c → (k net : ℕ) → notifier_at c.checks k ≡ Some net → IsNotifier c net
notifier-is c closed k net e = notifier-at (IsNotifier c) c.checks k net closed.notifiers e

pub driven-within : (c : Circuit) → IsClosed c → (h : Hop) (net : ℕ) → IsHop c h → net_driven c h ≡ Some net → net < length c.nets
driven-within c closed (Element e) net is driven =
    let same : (element_at c e).output ≡ net = (let f : Some (element_at c e).output ≡ Some net = driven in cc) in
    subst (λ n. n < length c.nets) same (closed.outputs e (record { scope = 0; inputs = []; output = 0; kind = Pass None }) is)
driven-within c closed (Check k) net is driven = (notifier-is c closed k net driven).within

-- bounds rise along each hop by its weight
pub bounds-rise : (c : Circuit) → IsClosed c → (bounds : List ℕ) → AreBounds c bounds → IsPotential c (λ n. slice_index_or bounds n 0)
bounds-rise c closed bounds are = record {
  alone = alone;
  behind = λ h from net is driven read. elim (cases_lt from (length c.nets)) [
    | inl l ↦ (let b = are.each from l in
        let longer : total_weight c (b.some.0 ++ h ∷ []) ≤ slice_index_or bounds net 0 = (are.each net (driven-within c closed h net is driven)).most (b.some.0 ++ h ∷ []) (chain-push c from net b.some.0 h b.some.1 is read driven) in
        let sum = weight-push c b.some.0 h in
        let start = b.some.2 in
        omega arith)
    | inr past ↦ (let none : slice_index_or bounds from 0 ≡ 0 = get_or_past bounds from 0 (subst (λ n. n ≤ from) (sym are.as_many) past) in
        let one = alone h net is driven in
        omega arith)
  ];
}
  where
    alone : (h : Hop) (net : ℕ) → IsHop c h → net_driven c h ≡ Some net → weight c h ≤ slice_index_or bounds net 0
    alone h net is driven =
        let one : total_weight c (h ∷ []) ≤ slice_index_or bounds net 0 = (are.each net (driven-within c closed h net is driven)).most (h ∷ []) (All-cons (IsHop c) h [] is (All-nil (IsHop c)), tt, driven) in
        let cons : total_weight c (h ∷ []) ≡ weight c h + total_weight c [] = sum_by-cons (weight c) h [] in
        omega arith
