-- What a change of one node's words or of one party's record does to the view.
use Rattle.std.proofs.Common.{◌≡◌, ℕ, ◌-◌, ◌≤◌, Bool, true, cond, eqb, List, length, get_or, sym, refl, ap, ◌∙◌, subst, inl, inr, arith}
use mathlib.Core.Path.{fun_ext}
use Rattle.std.specs.Vec.{with_item}
use Rattle.std.proofs.lemmas.List.{get_or_read}
use Rattle.std.proofs.lemmas.Bool.{cases_eq, cond-true}
use Rattle.model.specs.Fun.{upd}
use Rattle.model.specs.Entries.{nth}
use Rattle.model.specs.Party.{new_record}
use Rattle.model.specs.Types.{Kid, Kids}
use Rattle.model.specs.declared.party.PartyRecord.{PartyRecord}
use Rattle.model.specs.declared.tray.Tray.{Tray}
use Rattle.model.specs.declared.running.Running.{Running}
use Rattle.model.specs.State.{Trail, trail_of, Store, put_kid, set_count, set_lock, set_kid, set_inbox, set_tray}
use Rattle.model.specs.Steps.{between}
use Rattle.model.proofs.Between.{within}
use Rattle.model.proofs.Stepped.{cond_map}
use Rattle.model.proofs.Sums.{upd_same, upd_other}
use Rattle.model.proofs.EntryLemmas.{nth_set, nth_read}
use Rattle.cells.specs.declared.records.NodeWords.{NodeWords}
use Rattle.cells.specs.declared.records.Cells.{Cells}
use Rattle.cells.specs.Own.{Holds}
use Rattle.cells.specs.View.{new_words, seen, words_of, record_of, view_of, parties_of, nodes_of, Becomes}

-- an entry that is read is the entry by its number
entry_is : {A : Type 0} (d : A) (l : List A) (n : ℕ) (x : A) → 1 ≤ n → n ≤ length l → x ≡ get_or l (n - 1) x → x ≡ nth d l n
entry_is d l n x a b e = get_or_read l (n - 1) x (omega arith) e d ∙ sym (nth_read d l n a)

-- what is written where it stands already changes nothing
pub upd_own : {A : Type 0} (f : ℕ → A) (n : ℕ) (v : A) → v ≡ f n → upd f n v ≡ f
upd_own f n v e = fun_ext (λ m. elim (cases_eq m n) [
  | inl q ↦ ap (upd f n v) q ∙ upd_same f n v ∙ e ∙ ap f (sym q)
  | inr z ↦ upd_other f n m v z
])

-- the later of two writes at one place stands
pub upd_twice : {A : Type 0} (f : ℕ → A) (n : ℕ) (v w : A) → upd (upd f n v) n w ≡ upd f n w
upd_twice f n v w = fun_ext (λ m. elim (cases_eq m n) [
  | inl q ↦ ap (upd (upd f n v) n w) q ∙ upd_same (upd f n v) n w ∙ sym (upd_same f n w) ∙ ap (upd f n w) (sym q)
  | inr z ↦ upd_other (upd f n v) n m w z ∙ upd_other f n m v z ∙ sym (upd_other f n m w z)
])

-- a part of the entries, one of which has changed
part : {A B : Type 0} (k : A → B) (f : ℕ → A) (n : ℕ) (v : A) → ◌≡◌ {A = ℕ → B} (λ m. k (upd f n v m)) (upd (λ m. k (f m)) n (k v))
part k f n v = fun_ext (λ m. cond_map k (eqb m n) v (f m) _ _ refl refl)

-- the store whose party p has these slots, this trail and this running call
abbrev pub set_own : {D : Type 0} → Store D → ℕ → (ℕ → ℕ) → Trail → Running D → Store D
set_own s p f t r = record { count = s.count; lock = s.lock; kids = s.kids; inbox = s.inbox; tray = s.tray; slot = upd s.slot p f; trail = upd s.trail p t; run = upd s.run p r }

module _ {D : Type 0} (c : Cells D) where
  abbrev s : Store D
  s = view_of c

  -- a change that is made
  pub made : (b : Bool) (c' : Cells D) (t u : Store D) → b ≡ true → Becomes c c' t → Becomes c c' (cond b t u)
  made b c' t u e h = record { view = h.view ∙ sym (cond-true b t u e); sizes = h.sizes }

  -- and what it makes
  pub made_so : (b : Bool) (c' : Cells D) (t u : Store D) → b ≡ true → Becomes c c' (cond b t u) → Becomes c c' t
  made_so b c' t u e h = record { view = h.view ∙ cond-true b t u e; sizes = h.sizes }

  -- node n gets the words x
  abbrev pub with_words : ℕ → NodeWords → Cells D
  with_words n x = record { nodes = with_item c.nodes (n - 1) x; table = c.table }

  -- party p gets the record x
  abbrev pub with_record : ℕ → PartyRecord D → Cells D
  with_record p x = record { nodes = c.nodes; table = record { records = with_item c.table.records (p - 1) x } }

  same_words : (k k' l l' : ℕ → ℕ) (h h' : ℕ → Kids) → k ≡ k' → l ≡ l' → h ≡ h'
      → ◌≡◌ {A = Store D} (record { count = k; lock = l; kids = h; inbox = s.inbox; tray = s.tray; slot = s.slot; trail = s.trail; run = s.run })
      (record { count = k'; lock = l'; kids = h'; inbox = s.inbox; tray = s.tray; slot = s.slot; trail = s.trail; run = s.run })
  same_words k k' l l' h h' e1 e2 e3 = cc

  same_party : (b b' : ℕ → ℕ) (t t' : ℕ → Tray) (f f' : ℕ → ℕ → ℕ) (w w' : ℕ → Trail) (r r' : ℕ → Running D) → b ≡ b' → t ≡ t' → f ≡ f' → w ≡ w' → r ≡ r'
      → ◌≡◌ {A = Store D} (record { count = s.count; lock = s.lock; kids = s.kids; inbox = b; tray = t; slot = f; trail = w; run = r })
      (record { count = s.count; lock = s.lock; kids = s.kids; inbox = b'; tray = t'; slot = f'; trail = w'; run = r' })
  same_party b b' t t' f f' w w' r r' e1 e2 e3 e4 e5 = cc

  -- y is node n's words as they were
  module _ (n : ℕ) (is : between 1 (nodes_of c) n ≡ true) (y : NodeWords) (read : y ≡ get_or c.nodes.items (n - 1) y) where
    in_it : (1 ≤ n) × (n ≤ length c.nodes.items)
    in_it = let h = within 1 (nodes_of c) n is in (h.0, subst (λ z. n ≤ z) c.nodes.ok.0 h.1)

    own : y ≡ words_of c n
    own = entry_is new_words c.nodes.items n y in_it.0 in_it.1 read

    words_put : (x : NodeWords) (k l : ℕ → ℕ) (h : ℕ → Kids) → upd s.count n x.count ≡ k → upd s.lock n x.lock ≡ l → upd s.kids n x.kids ≡ h
        → Becomes c (with_words n x) (record { count = k; lock = l; kids = h; inbox = s.inbox; tray = s.tray; slot = s.slot; trail = s.trail; run = s.run })
    words_put x k l h ek el eh =
        let F = words_of c in
        record {
          view = ap (λ f. seen f (record_of c)) (nth_set new_words c.nodes.items n x in_it.0 in_it.1)
              ∙ same_words (λ m. (upd F n x m).count) k (λ m. (upd F n x m).lock) l (λ m. (upd F n x m).kids) h
              (part (λ z. z.count) F n x ∙ ek) (part (λ z. z.lock) F n x ∙ el) (part (λ z. z.kids) F n x ∙ eh);
          sizes = record { parties = refl; nodes = refl };
        }

    count_stays : upd s.count n y.count ≡ s.count
    count_stays = upd_own s.count n y.count (ap (λ z. z.count) own)

    lock_stays : upd s.lock n y.lock ≡ s.lock
    lock_stays = upd_own s.lock n y.lock (ap (λ z. z.lock) own)

    kids_stay : upd s.kids n y.kids ≡ s.kids
    kids_stay = upd_own s.kids n y.kids (ap (λ z. z.kids) own)

    pub count_put : (v : ℕ) → Becomes c (with_words n (record { count = v; lock = y.lock; kids = y.kids })) (set_count s n v)
    count_put v = words_put (record { count = v; lock = y.lock; kids = y.kids }) (upd s.count n v) s.lock s.kids refl lock_stays kids_stay

    pub lock_put : (v : ℕ) → Becomes c (with_words n (record { count = y.count; lock = v; kids = y.kids })) (set_lock s n v)
    lock_put v = words_put (record { count = y.count; lock = v; kids = y.kids }) s.count (upd s.lock n v) s.kids count_stays refl kids_stay

    pub kid_put : (k : Kid) (v : ℕ) (h : Kids) → h ≡ put_kid y.kids k v → Becomes c (with_words n (record { count = y.count; lock = y.lock; kids = h })) (set_kid s n k v)
    kid_put k v h e = words_put (record { count = y.count; lock = y.lock; kids = h }) s.count s.lock (upd s.kids n (put_kid (s.kids n) k v)) count_stays lock_stays (ap (upd s.kids n) (e ∙ ap (λ z. put_kid z.kids k v) own))

  -- y is party p's record as it was
  module _ (p : ℕ) (is : between 1 (parties_of c) p ≡ true) (y : PartyRecord D) (own : y ≡ record_of c p) where
    record_put : (x : PartyRecord D) (b : ℕ → ℕ) (t : ℕ → Tray) (f : ℕ → ℕ → ℕ) (w : ℕ → Trail) (r : ℕ → Running D)
        → upd s.inbox p x.inbox ≡ b → upd s.tray p x.tray ≡ t → upd s.slot p (nth 0 x.slots) ≡ f → upd s.trail p (trail_of x.trail) ≡ w → upd s.run p x.running ≡ r
        → Becomes c (with_record p x) (record { count = s.count; lock = s.lock; kids = s.kids; inbox = b; tray = t; slot = f; trail = w; run = r })
    record_put x b t f w r eb et ef ew er =
        let h = within 1 (parties_of c) p is in
        let G = record_of c in
        record {
          view = ap (seen (words_of c)) (nth_set new_record c.table.records.items p x h.0 (subst (λ z. p ≤ z) c.table.records.ok.0 h.1))
              ∙ same_party (λ m. (upd G p x m).inbox) b (λ m. (upd G p x m).tray) t (λ m. nth 0 (upd G p x m).slots) f (λ m. trail_of (upd G p x m).trail) w (λ m. (upd G p x m).running) r
              (part (λ z. z.inbox) G p x ∙ eb) (part (λ z. z.tray) G p x ∙ et) (part (λ z. nth 0 z.slots) G p x ∙ ef) (part (λ z. trail_of z.trail) G p x ∙ ew) (part (λ z. z.running) G p x ∙ er);
          sizes = record { parties = refl; nodes = refl };
        }

    inbox_stays : upd s.inbox p y.inbox ≡ s.inbox
    inbox_stays = upd_own s.inbox p y.inbox (ap (λ z. z.inbox) own)

    tray_stays : upd s.tray p y.tray ≡ s.tray
    tray_stays = upd_own s.tray p y.tray (ap (λ z. z.tray) own)

    slots_stay : upd s.slot p (nth 0 y.slots) ≡ s.slot
    slots_stay = upd_own s.slot p (nth 0 y.slots) (ap (λ z. nth 0 z.slots) own)

    trail_stays : upd s.trail p (trail_of y.trail) ≡ s.trail
    trail_stays = upd_own s.trail p (trail_of y.trail) (ap (λ z. trail_of z.trail) own)

    running_stays : upd s.run p y.running ≡ s.run
    running_stays = upd_own s.run p y.running (ap (λ z. z.running) own)

    pub inbox_put : (v : ℕ) → Becomes c (with_record p (record { slots = y.slots; inbox = v; tray = y.tray; trail = y.trail; running = y.running })) (cond (between 1 (parties_of c) p) (set_inbox s p v) s)
    inbox_put v =
        let x : PartyRecord D = record { slots = y.slots; inbox = v; tray = y.tray; trail = y.trail; running = y.running } in
        made (between 1 (parties_of c) p) (with_record p x) (set_inbox s p v) s is (record_put x (upd s.inbox p v) s.tray s.slot s.trail s.run refl tray_stays slots_stay trail_stays running_stays)

    pub tray_put : (v : Tray) → Becomes c (with_record p (record { slots = y.slots; inbox = y.inbox; tray = v; trail = y.trail; running = y.running })) (cond (between 1 (parties_of c) p) (set_tray s p v) s)
    tray_put v =
        let x : PartyRecord D = record { slots = y.slots; inbox = y.inbox; tray = v; trail = y.trail; running = y.running } in
        made (between 1 (parties_of c) p) (with_record p x) (set_tray s p v) s is (record_put x s.inbox (upd s.tray p v) s.slot s.trail s.run inbox_stays refl slots_stay trail_stays running_stays)

    -- the party's own things are these functions of what they were
    pub own_put : (x : PartyRecord D) (f : PartyRecord D → ℕ → ℕ) (t : PartyRecord D → Trail) (r : PartyRecord D → Running D) → Holds y x (f y) (t y) (r y)
        → Becomes c (with_record p x) (set_own s p (f (record_of c p)) (t (record_of c p)) (r (record_of c p)))
    own_put x f t r h =
        let G = record_of c p in
        record_put x s.inbox s.tray (upd s.slot p (f G)) (upd s.trail p (t G)) (upd s.run p (r G)) (ap (upd s.inbox p) h.inbox ∙ inbox_stays) (ap (upd s.tray p) h.tray ∙ tray_stays)
        (ap (upd s.slot p) (h.slots_are ∙ ap f own)) (ap (upd s.trail p) (h.trail_is ∙ ap t own)) (ap (upd s.run p) (h.running_is ∙ ap r own))
