-- In every store that can exist a step's pick is in range, so the data of every reached node fits its kids.
use Rattle.std.proofs.Common.{◌≡◌, ℕ, ◌≤◌, false, refl, ap, arith}
use Rattle.orders.specs.Limits.{IsParty}
use Rattle.model.specs.Types.{Place, LookForNode, Offer, Job, Running, Works, Outcome}
use Rattle.model.specs.Checks.{is_idle}
use Rattle.model.specs.Setting.{Setting}
use Rattle.model.specs.Runs.{System, Steps, asks_nodes, asks_parties}
use Rattle.model.specs.Existing.{ReachedDataFits}
use Rattle.model.proofs.Fitting.{StepIs, reached_data_fits}
use Rattle.model.proofs.Kept.{Kept, existing_kept}
use Rattle.model.proofs.Stepped.{PickedAt, Picked, stepped_is, fit_of}

module _ {D W A B : Type 0} (X : Setting D W A B) (F G : System D W A B) (K : Kept X F) (p : ℕ) (o : Outcome D W) (a : 1 ≤ p) (b : p ≤ X.parties) (T : Steps X F p o G) where
  is_party : IsParty p
  is_party = (a, omega (arith, b, K.limits.few_parties))

  node_picked : (j : Job D) → F.store.run p ≡ Works j LookForNode → (1 ≤ T.pick) × (T.pick ≤ X.nodes)
  node_picked j e =
      let n = ((T.node_picks.picks (ap asks_nodes e)).answers is_party).number in
      (n.0, omega (arith, n.1, K.sized.nodes))

  party_picked : (j : Job D) (n : ℕ) → F.store.run p ≡ Works j (Offer n) → (1 ≤ T.pick) × (T.pick ≤ X.parties)
  party_picked j n e =
      let m = ((T.party_picks.picks (ap asks_parties e)).answers is_party).number in
      (m.0, omega (arith, m.1, K.sized.parties))

  place_picked : (j : Job D) (c : Place) → F.store.run p ≡ Works j c → PickedAt X.parties X.nodes T.pick c
  place_picked j LookForNode e = node_picked j e
  place_picked j (Offer n) e = party_picked j n e
  place_picked j _ e = tt

  pub picked : (r : Running D) → F.store.run p ≡ r → Picked X.parties X.nodes T.pick r
  picked (Works j c) e = place_picked j c e
  picked _ e = tt

  -- the step is the explicit one
  pub step_is : is_idle (F.store.run p) ≡ false → StepIs X F p T.pick
  step_is runs = stepped_is W X.parties X.nodes F.store F.info p T.pick (F.store.run p) refl runs
      (fit_of X.parties X.nodes F.store K.sound p a b (F.store.run p) refl) (picked (F.store.run p) refl)

pub reached_data_always_fits : {D W A B : Type 0} (X : Setting D W A B) → ReachedDataFits X
reached_data_always_fits X = reached_data_fits X (λ F c. (existing_kept X F c).sound) (λ F G c p o a b runs T. step_is X F G (existing_kept X F c) p o a b T runs)
