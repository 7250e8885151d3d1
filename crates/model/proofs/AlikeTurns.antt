-- A Turn of alike systems tells the same and leaves alike systems.
use Rattle.std.proofs.Common.{◌≡◌, ℕ, Bool, true, false, cond, not, ◌&&◌, eqb, Some, None, Option, sym, refl, ap, ◌∙◌, subst, true≢false}
use Rattle.std.proofs.lemmas.Bool.{cond-false}
use Rattle.orders.specs.Limits.{IsParty}
use Rattle.model.specs.Fun.{upd}
use Rattle.model.specs.Types.{Ok, Kid, First, Second, Third, Kids, Place, LookForNode, Offer, Job, Running, Works, WalkGoesDown, WorthIs, Outcome, StillRunning, Ended, Word, Told, Tells, Settles, Decision, Situation}
use Rattle.model.specs.State.{Store, set_run, last}
use Rattle.model.specs.Steps.{address, place_address, loaded, written, data_written, changed, looks_at, decide, decide_place, decision}
use Rattle.model.specs.Checks.{is_idle}
use Rattle.model.specs.Walks.{Notes, marked, unmarked, first_unmarked, kid_worth, noted, gone_up}
use Rattle.model.specs.Setting.{Setting}
use Rattle.model.specs.Runs.{System, asks_nodes, asks_parties, Asks, Moved, moved_as, moved, Steps, tells_settled}
use Rattle.model.proofs.Sums.{upd_same}
use Rattle.model.proofs.Alike.{AlikeNotes, AlikeOrders, Alike, OnePick, alike_asked}

-- What a place looks at and decides depends on the pick only where an order is asked.

module _ {D : Type 0} (N M : ℕ) (p x y : ℕ) (slots : ℕ → ℕ) where
  place_looks : (j : Job D) (c : Place) → (asks_nodes (Works j c) ≡ true → x ≡ y) → (asks_parties (Works j c) ≡ true → x ≡ y) → place_address N M c j p x slots ≡ place_address N M c j p y slots
  place_looks j LookForNode h g = ap (λ z. place_address N M LookForNode j p z slots) (h refl)
  place_looks j (Offer n) h g = ap (λ z. place_address N M (Offer n) j p z slots) (g refl)
  place_looks j _ h g = refl

  looks : (r : Running D) (n : ℕ) → (asks_nodes r ≡ true → x ≡ y) → (asks_parties r ≡ true → x ≡ y) → address N M r p x slots n ≡ address N M r p y slots n
  looks (Works j c) n h g = place_looks j c h g
  looks _ n h g = refl

module _ {D : Type 0} (W : Type 0) (w : Word D) (p x y : ℕ) (slots : ℕ → ℕ) where
  place_decides : (j : Job D) (c : Place) → (asks_nodes (Works j c) ≡ true → x ≡ y) → (asks_parties (Works j c) ≡ true → x ≡ y)
      → decide_place {W = W} c j w p x slots ≡ decide_place c j w p y slots
  place_decides j LookForNode h g = ap (λ z. decide_place LookForNode j w p z slots) (h refl)
  place_decides j (Offer n) h g = ap (λ z. decide_place (Offer n) j w p z slots) (g refl)
  place_decides j _ h g = refl

  decides : (r : Running D) (n : ℕ) → (asks_nodes r ≡ true → x ≡ y) → (asks_parties r ≡ true → x ≡ y) → decide {W = W} r w p x slots n ≡ decide r w p y slots n
  decides (Works j c) n h g = place_decides j c h g
  decides _ n h g = refl

-- What a walk's fourth reading makes of alike notes.

none_left : (i j k : Bool) → cond i (Some First) (cond j (Some Second) (cond k (Some Third) None)) ≡ None → (i ≡ false) × (j ≡ false) × (k ≡ false)
none_left true j k e = absurd cc
none_left false true k e = absurd cc
none_left false false true e = absurd cc
none_left false false false e = (refl, refl, refl)

worth_of_marked : {W : Type 0} (blank u v : W) (z m : Bool) → (not z && not m) ≡ false → (m ≡ true → u ≡ v) → cond z blank u ≡ cond z blank v
worth_of_marked blank u v true m e f = refl
worth_of_marked blank u v false true e f = f refl
worth_of_marked blank u v false false e f = absurd (true≢false e)

module _ {W : Type 0} (a b : Notes W) (h : AlikeNotes a b) where
  same_first : (ks : Kids) → first_unmarked a ks ≡ first_unmarked b ks
  same_first ks z = first_unmarked (record { marks = h.marks z; worths = a.worths }) ks

  same_worth : (blank : W) (n : ℕ) → unmarked a n ≡ false → kid_worth a blank n ≡ kid_worth b blank n
  same_worth blank n e = worth_of_marked blank (a.worths n) (b.worths n) (eqb n 0) (a.marks n) e (h.worths n)

  alike_noted : (n k : ℕ) → n ≡ k → (u v : W) → u ≡ v → AlikeNotes (noted a n u) (noted b k v)
  alike_noted n k e u v f = record { marks = λ z. upd (h.marks z) (e z) true; worths = λ i m. subst (λ j. upd a.worths n u i ≡ upd b.worths j v i) e (at i m) }
    where
      either : (c : Bool) (i : ℕ) → cond c true (a.marks i) ≡ true → cond c u (a.worths i) ≡ cond c v (b.worths i)
      either true i m = f
      either false i m = h.worths i m

      at : (i : ℕ) → upd a.marks n true i ≡ true → upd a.worths n u i ≡ upd b.worths n v i
      at i m = either (eqb i n) i m

alike_at : {W : Type 0} (c : Bool) (a a' b b' : Notes W) → AlikeNotes a a' → AlikeNotes b b' → AlikeNotes (cond c a b) (cond c a' b')
alike_at true a a' b b' h g = h
alike_at false a a' b b' h g = g

pub alike_upd : {W : Type 0} (f g : ℕ → Notes W) (p : ℕ) (a b : Notes W) → ((q : ℕ) → AlikeNotes (f q) (g q)) → AlikeNotes a b → (q : ℕ) → AlikeNotes (upd f p a q) (upd g p b q)
alike_upd f g p a b h i q = alike_at (eqb q p) a b (f q) (g q) i (h q)

module _ {D W A B : Type 0} (X : Setting D W A B) where
  record AlikeMoved (a b : Moved X) : Type 0 where
    pub store : a.store ≡ b.store
    pub info : a.info ≡ b.info
    pub notes : AlikeNotes a.notes b.notes
    pub outcome : a.outcome ≡ b.outcome

  module _ (F G : System D W A B) (p x y : ℕ) (store : F.store ≡ G.store) (info : F.info ≡ G.info) (notes : AlikeNotes (F.notes p) (G.notes p))
      (look : looks_at X.parties X.nodes F.store p x ≡ looks_at X.parties X.nodes G.store p y) where
    -- a walk that settles, by the kid that is left
    abbrev store_with : System D W A B → Situation → Option Kid → Store D
    store_with H t c = elim c [ Some k ↦ set_run H.store p (WalkGoesDown t k) | None ↦ gone_up X.worth X.blank H.store p t ]

    abbrev notes_with : System D W A B → Situation → D → Kids → Option Kid → Notes W
    notes_with H t d ks c = elim c [
      | Some k ↦ H.notes p
      | None ↦ noted (H.notes p) (last H.store p) (X.worth d t (kid_worth (H.notes p) X.blank ks.first) (kid_worth (H.notes p) X.blank ks.second) (kid_worth (H.notes p) X.blank ks.third))
    ]

    abbrev settled : System D W A B → Situation → D → Kids → Option Kid → Moved X
    settled H t d ks c = record { store = store_with H t c; info = H.info; notes = notes_with H t d ks c; outcome = tells_settled X H.store (store_with H t c) (notes_with H t d ks c) p }

    still_told : (H : System D W A B) (t : Situation) (d : D) (ks : Kids) (k : Kid) → (settled H t d ks (Some k)).outcome ≡ Ok StillRunning
    still_told H t d ks k = cond-false (is_idle (upd H.store.run p (WalkGoesDown t k) p)) _ (Ok StillRunning) (ap is_idle (upd_same H.store.run p (WalkGoesDown t k)))

    by_kid : (t : Situation) (d : D) (ks : Kids) (c : Option Kid) → first_unmarked (F.notes p) ks ≡ c → AlikeMoved (settled F t d ks c) (settled G t d ks c)
    by_kid t d ks (Some k) e = record { store = λ z. set_run (store z) p (WalkGoesDown t k); info = info; notes = notes; outcome = still_told F t d ks k ∙ sym (still_told G t d ks k) }
    by_kid t d ks None e =
        let a = F.notes p in
        let b = G.notes p in
        let left = none_left (unmarked a ks.first) (unmarked a ks.second) (unmarked a ks.third) e in
        let first = same_worth a b notes X.blank ks.first left.0 in
        let second = same_worth a b notes X.blank ks.second left.1 in
        let third = same_worth a b notes X.blank ks.third left.2 in
        let at : last F.store p ≡ last G.store p = λ z. last (store z) p in
        let u = X.worth d t (kid_worth a X.blank ks.first) (kid_worth a X.blank ks.second) (kid_worth a X.blank ks.third) in
        let v = X.worth d t (kid_worth b X.blank ks.first) (kid_worth b X.blank ks.second) (kid_worth b X.blank ks.third) in
        let w : u ≡ v = λ z. X.worth d t (first z) (second z) (third z) in
        let set_down = alike_noted a b notes (last F.store p) (last G.store p) at u v w in
        let worth_there : upd a.worths (last F.store p) u (last F.store p) ≡ upd b.worths (last G.store p) v (last G.store p) = upd_same a.worths (last F.store p) u ∙ w ∙ sym (upd_same b.worths (last G.store p) v) in
        record {
          store = λ z. gone_up X.worth X.blank (store z) p t;
          info = info;
          notes = set_down;
          outcome = λ z. cond (is_idle ((gone_up X.worth X.blank (store z) p t).run p)) (Ok (Ended (WorthIs (worth_there z) (marked X.nodes (set_down.marks z))))) (Ok StillRunning);
        }

    alike_told : (d : Decision D W) (t : Told D W) → AlikeMoved (moved_as X F p x d t) (moved_as X G p y d t)
    alike_told d (Tells o) = record {
      store = λ z. set_run (changed (written (store z) (look z) d.word) p d.change) p d.next;
      info = λ z. data_written (info z) (look z) d.word;
      notes = notes;
      outcome = refl;
    }
    alike_told d (Settles r) =
        subst (λ c. AlikeMoved (settled F r.situation r.given r.kids (first_unmarked (F.notes p) r.kids)) (settled G r.situation r.given r.kids c))
        (same_first (F.notes p) (G.notes p) notes r.kids) (by_kid r.situation r.given r.kids (first_unmarked (F.notes p) r.kids) refl)

  module _ (F G F' G' : System D W A B) (p : ℕ) (o o' : Outcome D W) (one_node : OnePick X.node_order) (one_party : OnePick X.party_order) (is : IsParty p) (h : Alike X F G) (S : Steps X F p o F') (T : Steps X G p o' G') where
    nodes_asked : AlikeOrders X.node_order F'.node_order G'.node_order × (asks_nodes (F.store.run p) ≡ true → S.pick ≡ T.pick)
    nodes_asked = alike_asked X.node_order one_node (asks_nodes (F.store.run p)) F.node_order G.node_order F'.node_order G'.node_order p S.pick T.pick is h.nodes S.node_picks
        (subst (λ s. Asks X.node_order (asks_nodes (s.run p)) G.node_order G'.node_order p T.pick) (sym h.store) T.node_picks)

    parties_asked : AlikeOrders X.party_order F'.party_order G'.party_order × (asks_parties (F.store.run p) ≡ true → S.pick ≡ T.pick)
    parties_asked = alike_asked X.party_order one_party (asks_parties (F.store.run p)) F.party_order G.party_order F'.party_order G'.party_order p S.pick T.pick is h.parties S.party_picks
        (subst (λ s. Asks X.party_order (asks_parties (s.run p)) G.party_order G'.party_order p T.pick) (sym h.store) T.party_picks)

    same_look : looks_at X.parties X.nodes F.store p S.pick ≡ looks_at X.parties X.nodes G.store p T.pick
    same_look = looks X.parties X.nodes p S.pick T.pick (F.store.slot p) (F.store.run p) (last F.store p) nodes_asked.1 parties_asked.1 ∙ (λ z. looks_at X.parties X.nodes (h.store z) p T.pick)

    abbrev here : Decision D W
    here = decision X.parties X.nodes F.store F.info p S.pick

    same_decision : here ≡ decision X.parties X.nodes G.store G.info p T.pick
    same_decision =
        decides W (loaded F.store F.info (looks_at X.parties X.nodes F.store p S.pick)) p S.pick T.pick (F.store.slot p) (F.store.run p) (last F.store p) nodes_asked.1 parties_asked.1
        ∙ (λ z. decide ((h.store z).run p) (loaded (h.store z) (h.info z) (same_look z)) p T.pick ((h.store z).slot p) (last (h.store z) p))

    same_moved : AlikeMoved (moved X F p S.pick) (moved X G p T.pick)
    same_moved = subst (λ d. AlikeMoved (moved X F p S.pick) (moved_as X G p T.pick d d.told)) same_decision (alike_told F G p S.pick T.pick h.store h.info (h.notes p) same_look here here.told)

    pub alike_steps : (o ≡ o') × Alike X F' G'
    alike_steps = (
      S.tells ∙ same_moved.outcome ∙ sym T.tells,
      record {
        store = S.store_is ∙ same_moved.store ∙ sym T.store_is;
        info = S.info_is ∙ same_moved.info ∙ sym T.info_is;
        notes = subst (λ f. (q : ℕ) → AlikeNotes (f q) (G'.notes q)) (sym S.notes_are) (subst (λ f. (q : ℕ) → AlikeNotes (upd F.notes p (moved X F p S.pick).notes q) (f q)) (sym T.notes_are)
            (alike_upd F.notes G.notes p (moved X F p S.pick).notes (moved X G p T.pick).notes h.notes same_moved.notes));
        nodes = nodes_asked.0;
        parties = parties_asked.0;
      },
    )
