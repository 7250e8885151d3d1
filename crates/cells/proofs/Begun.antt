-- A party's own things after a Begin, a walk or a step, in the store.
use Rattle.std.proofs.Common.{◌≡◌, ℕ, true, cond, [], refl, subst}
use Rattle.model.specs.declared.calls.Call.{Call}
use Rattle.model.specs.declared.calls.Call.TheVariants.{Enter, Up, Leave}
use Rattle.model.specs.declared.running.Running.{Running}
use Rattle.model.specs.declared.words.Change.{Change}
use Rattle.model.specs.declared.words.Change.TheVariants.{Stays, Fills, Lengthens}
use Rattle.model.specs.Fun.{upd}
use Rattle.model.specs.Entries.{nth}
use Rattle.model.specs.declared.party.PartyRecord.{PartyRecord}
use Rattle.model.specs.State.{Trail, no_trail, along, shorter, trail_of, Store, set_trail, set_run}
use Rattle.model.specs.Steps.{between, changed}
use Rattle.model.specs.Begins.{started}
use Rattle.cells.specs.declared.records.Cells.{Cells}
use Rattle.cells.specs.Own.{Holds, slots_after, trail_after}
use Rattle.cells.specs.Started.{trail_begun, run_begun}
use Rattle.cells.specs.View.{record_of, view_of, parties_of, Becomes}
use Rattle.cells.proofs.Views.{upd_own, set_own, made, with_record, own_put}

module _ {D : Type 0} (s : Store D) (p : ℕ) where
  same_own : (f f' : ℕ → ℕ → ℕ) (t t' : ℕ → Trail) (r r' : ℕ → Running D) → f ≡ f' → t ≡ t' → r ≡ r'
      → ◌≡◌ {A = Store D} (record { count = s.count; lock = s.lock; kids = s.kids; inbox = s.inbox; tray = s.tray; slot = f; trail = t; run = r })
      (record { count = s.count; lock = s.lock; kids = s.kids; inbox = s.inbox; tray = s.tray; slot = f'; trail = t'; run = r' })
  same_own f f' t t' r r' ef et er = cc

  slots_stay : upd s.slot p (s.slot p) ≡ s.slot
  slots_stay = upd_own s.slot p (s.slot p) refl

  trail_stays : upd s.trail p (s.trail p) ≡ s.trail
  trail_stays = upd_own s.trail p (s.trail p) refl

  -- the trail written where it stands
  pub trail_own : set_trail s p (s.trail p) ≡ s
  trail_own = same_own s.slot s.slot (upd s.trail p (s.trail p)) s.trail s.run s.run refl trail_stays refl

  -- another trail and another running call
  pub walks_is : (t : Trail) (r : Running D) → set_own s p (s.slot p) t r ≡ set_run (set_trail s p t) p r
  walks_is t r = same_own (upd s.slot p (s.slot p)) s.slot (upd s.trail p t) (upd s.trail p t) (upd s.run p r) (upd s.run p r) slots_stay refl refl

  -- a call that ends at its Begin changes the trail alone, any other what runs
  ended : (t : Trail) → set_own s p (s.slot p) t (s.run p) ≡ set_trail s p t
  ended t = same_own (upd s.slot p (s.slot p)) s.slot (upd s.trail p t) (upd s.trail p t) (upd s.run p (s.run p)) s.run slots_stay refl (upd_own s.run p (s.run p) refl)

  begun : (r : Running D) → set_own s p (s.slot p) (s.trail p) r ≡ set_run s p r
  begun r = same_own (upd s.slot p (s.slot p)) s.slot (upd s.trail p (s.trail p)) s.trail (upd s.run p r) (upd s.run p r) slots_stay trail_stays refl

  pub started_is : (c : Call D) → set_own s p (s.slot p) (trail_begun c (s.slot p) (s.trail p)) (run_begun c (s.run p)) ≡ started c s p
  started_is (Enter i) = ended (along i (s.slot p i) [])
  started_is Up = ended (shorter (s.trail p))
  started_is Leave = ended no_trail
  started_is c = begun (run_begun c (s.run p))

  -- a step's change of its party's slots and trail
  pub changed_is : (c : Change) (r : Running D) → set_own s p (slots_after (s.slot p) c) (trail_after (s.trail p) c) r ≡ set_run (changed s p c) p r
  changed_is Stays r = begun r
  changed_is (Fills i v) r =
      same_own (upd s.slot p (upd (s.slot p) i v)) (upd s.slot p (upd (s.slot p) i v)) (upd s.trail p (s.trail p)) s.trail (upd s.run p r) (upd s.run p r) refl trail_stays refl
  changed_is (Lengthens n) r = walks_is (trail_after (s.trail p) (Lengthens n)) r

-- y is party p's record as it was, and x what it has become
module _ {D : Type 0} (c : Cells D) (p : ℕ) (is : between 1 (parties_of c) p ≡ true) (y x : PartyRecord D) (own : y ≡ record_of c p) where
  abbrev after : Cells D
  after = with_record c p x

  put_as : (f : PartyRecord D → ℕ → ℕ) (t : PartyRecord D → Trail) (r : PartyRecord D → Running D) (u : Store D)
      → set_own (view_of c) p (f (record_of c p)) (t (record_of c p)) (r (record_of c p)) ≡ u → Holds y x (f y) (t y) (r y) → Becomes c after u
  put_as f t r u e h = subst (λ z. Becomes c after z) e (own_put c p is y own x f t r h)

  pub walks : (t : PartyRecord D → Trail) (r : PartyRecord D → Running D) → Holds y x (nth 0 y.slots) (t y) (r y)
      → Becomes c after (cond (between 1 (parties_of c) p) (set_run (set_trail (view_of c) p (t (record_of c p))) p (r (record_of c p))) (view_of c))
  walks t r h = let u = set_run (set_trail (view_of c) p (t (record_of c p))) p (r (record_of c p)) in
      made c (between 1 (parties_of c) p) after u (view_of c) is (put_as (λ z. nth 0 z.slots) t r u (walks_is (view_of c) p (t (record_of c p)) (r (record_of c p))) h)

  pub begins : (k : Call D) → Holds y x (nth 0 y.slots) (trail_begun k (nth 0 y.slots) (trail_of y.trail)) (run_begun k y.running)
      → Becomes c after (cond (between 1 (parties_of c) p) (started k (view_of c) p) (view_of c))
  begins k h = made c (between 1 (parties_of c) p) after (started k (view_of c) p) (view_of c) is
      (put_as (λ z. nth 0 z.slots) (λ z. trail_begun k (nth 0 z.slots) (trail_of z.trail)) (λ z. run_begun k z.running) (started k (view_of c) p) (started_is (view_of c) p k) h)

  pub settles : (k : Change) (r : Running D) → Holds y x (slots_after (nth 0 y.slots) k) (trail_after (trail_of y.trail) k) r → Becomes c after (set_run (changed (view_of c) p k) p r)
  settles k r h = put_as (λ z. slots_after (nth 0 z.slots) k) (λ z. trail_after (trail_of z.trail) k) (λ z. r) (set_run (changed (view_of c) p k) p r) (changed_is (view_of c) p k r) h
