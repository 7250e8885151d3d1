-- How many references a node has: who names it, and who carries it between two steps.
use Rattle.std.specs.Prelude.{ℕ, ◌+◌}
use Rattle.model.specs.Fun.{sum_to, is}
use Rattle.model.specs.Types.{Kids, Tray, Closed, Open, Holding, Place, UncountKid, Unlock, Offer, KeepForOneself, GiveBack, WriteData, CountKid, LinkKid, Running, Works}
use Rattle.model.specs.State.{Store}
use Rattle.model.specs.Checks.{last_slot}

unfoldable pub in_slots : ℕ → (ℕ → ℕ → ℕ) → ℕ → ℕ
in_slots N f n = sum_to N (λ q. sum_to last_slot (λ i. is (f q i) n))

unfoldable pub in_boxes : ℕ → (ℕ → ℕ) → ℕ → ℕ
in_boxes N f n = sum_to N (λ q. is (f q) n)

abbrev pub tray_node : Tray → ℕ
tray_node Closed = 0
tray_node Open = 0
tray_node (Holding n) = n

unfoldable pub in_trays : ℕ → (ℕ → Tray) → ℕ → ℕ
in_trays N f n = sum_to N (λ q. is (tray_node (f q)) n)

unfoldable pub occ : Kids → ℕ → ℕ
occ ks n = is ks.first n + is ks.second n + is ks.third n

unfoldable pub in_kids : ℕ → (ℕ → Kids) → ℕ → ℕ
in_kids M f n = sum_to M (λ m. occ (f m) n)

-- how often a Make or a Sweep carries the node: the claimed node until a slot, a tray or nobody has it, a kid that is taken
-- off until it is counted down, and a kid that is counted up until it is linked
abbrev pub carried_at : Place → ℕ → ℕ
carried_at (UncountKid m k w) n = is w n
carried_at (Unlock m) n = is m n
carried_at (Offer m) n = is m n
carried_at (KeepForOneself m) n = is m n
carried_at (GiveBack m) n = is m n
carried_at (WriteData m) n = is m n
carried_at (CountKid m k) n = is m n
carried_at (LinkKid m k w) n = is m n + is w n
carried_at _ n = 0

-- no other call carries a node
abbrev pub carries : {D : Type 0} → Running D → ℕ → ℕ
carries (Works j c) n = carried_at c n
carries _ n = 0

unfoldable pub in_hands : {D : Type 0} → ℕ → (ℕ → Running D) → ℕ → ℕ
in_hands N f n = sum_to N (λ q. carries (f q) n)

-- slots, inboxes, trays and kids that name the node, and parties that carry it
abbrev pub references : {D : Type 0} → ℕ → ℕ → Store D → ℕ → ℕ
references N M s n = in_slots N s.slot n + in_boxes N s.inbox n + in_trays N s.tray n + in_kids M s.kids n + in_hands N s.run n
