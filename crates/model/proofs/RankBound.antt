-- At every place of a Make whose tray is not closed while it seeks, the rank is at most Make's bound.
use Rattle.std.proofs.Common.{◌≡◌, ℕ, suc, ◌+◌, ◌*◌, ◌<◌, ◌≤◌, true, ◌≢◌, refl, mul-le-mul_left, arith}
use Rattle.model.specs.Types.{Tray, Closed, Open, Holding, Place, OpenTray, ReadKid, CloseTray, WriteData, CountKid, LinkKid}
use Rattle.model.specs.State.{Store}
use Rattle.model.specs.Reach.{Free}
use Rattle.model.specs.Sound.{opens_at}
use Rattle.model.proofs.Make.{position_pos}
use Rattle.model.proofs.Rank.{togo, left}
use Rattle.model.proofs.RankSteps.{served, Mid, has, wants, PlaceRank, togo_low}

left_most : (c : Place) → left c ≤ 34
left_most (ReadKid n k) = omega (arith, position_pos k)
left_most _ = omega arith

served_most : (c : Place) → served c ≤ 17
served_most OpenTray = omega arith
served_most _ = omega arith

-- S + 1 is the span, T the takings to go, d the due of a free node, L the steps left
most : (S T Q d L r : ℕ) → T ≤ Q → d < suc S → L ≤ 34 → 18 * (suc S * (Q + 1)) + 28 ≤ r → 18 * (suc S * T + d) + L + 9 ≤ r
most S T Q d L r h k l b = omega (arith, mul-le-mul_left (suc S) h)

module _ {D : Type 0} (N M S P : ℕ) (s : Store D) (due : ℕ → ℕ → ℕ) (nd : ℕ → ℕ) (p r : ℕ) (near : (k : ℕ) → 1 ≤ k → k ≤ N → due k p < P) (low : (n : ℕ) → 1 ≤ n → n ≤ M → nd n < suc S)
    (free : (n : ℕ) × Free M s n) (large : 18 * (suc S * (N * P + 1)) + 28 ≤ r) where
  mid_bounded : (c : Place) (t : Tray) → s.tray p ≡ t → t ≢ Closed → Mid N M S P s due nd p r c
  mid_bounded c Closed e h = absurd (h refl)
  mid_bounded c Open e h = wants e (free.0, free.1, most S (togo N due s.count s.run p) (N * P) (nd free.0) (left c) r (togo_low N P due s p near) (low free.0 free.1.0 free.1.1) (left_most c) large)
  mid_bounded c (Holding v) e h = has v e (omega (arith, served_most c))

  pub rank_bounded : (c : Place) → (opens_at c ≡ true → s.tray p ≢ Closed) → PlaceRank N M S P s due nd p r c
  rank_bounded OpenTray h = omega arith
  rank_bounded (CloseTray v) h = omega arith
  rank_bounded (WriteData v) h = omega arith
  rank_bounded (CountKid v k) h = omega arith
  rank_bounded (LinkKid v k w) h = omega arith
  rank_bounded c h = mid_bounded c (s.tray p) refl (h refl)
