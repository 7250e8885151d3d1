-- What the parties carry is what their calls rely on carrying; so the counts, which are those references, are the references.
use Rattle.std.proofs.Common.{◌≡◌, ℕ, ◌≤◌, cond, refl, ap, arith}
use Rattle.std.proofs.lemmas.Bool.{ne_eqb}
use Rattle.model.specs.Fun.{is}
use Rattle.model.specs.Types.{Place, UncountKid, Unlock, Offer, KeepForOneself, GiveBack, WriteData, CountKid, LinkKid, Running, Works}
use Rattle.model.specs.State.{Store}
use Rattle.model.specs.References.{carries, carried_at, in_hands, references}
use Rattle.model.specs.Inv.{reliance, reliance_at, carry, carried, refs}
use Rattle.model.proofs.Sums.{sum_to_same}

is_none : (n : ℕ) → 1 ≤ n → is 0 n ≡ 0
unfolding is
is_none n low = ap (λ b. cond b 1 0) (ne_eqb 0 n (λ e. omega (arith, e, low)))

at_place : (c : Place) (n : ℕ) → 1 ≤ n → carry (reliance_at c) n ≡ carried_at c n
unfolding carry
at_place (UncountKid m k w) n low = omega (arith, is_none n low)
at_place (LinkKid m k w) n low = refl
at_place (Unlock m) n low = omega (arith, is_none n low)
at_place (Offer m) n low = omega (arith, is_none n low)
at_place (KeepForOneself m) n low = omega (arith, is_none n low)
at_place (GiveBack m) n low = omega (arith, is_none n low)
at_place (WriteData m) n low = omega (arith, is_none n low)
at_place (CountKid m k) n low = omega (arith, is_none n low)
at_place _ n low = omega (arith, is_none n low)

of_call : {D : Type 0} (r : Running D) (n : ℕ) → 1 ≤ n → carry (reliance r) n ≡ carries r n
unfolding carry
of_call (Works j c) n low = at_place c n low
of_call _ n low = omega (arith, is_none n low)

pub refs_are_references : {D : Type 0} (N M : ℕ) (s : Store D) (n : ℕ) → 1 ≤ n → refs N M s n ≡ references N M s n
unfolding carried in_hands
refs_are_references N M s n low = omega (arith, sum_to_same N (λ q. carry (reliance (s.run q)) n) (λ q. carries (s.run q) n) (λ q _ _. of_call (s.run q) n low))
