-- A Turn changes one shared word and what is its party's own, a Begin no shared word.
use Rattle.std.proofs.Common.{◌≡◌, ℕ, ◌≢◌, true≢false, Some, None, Option, sym, refl, ap, ◌∙◌, subst, inl, inr}
use Rattle.std.proofs.lemmas.Bool.{cases_eq, eqb-true}
use Rattle.model.specs.Fun.{upd}
use Rattle.model.specs.Types.{Kid, First, Second, Third, Kids, Running, Call, Enter, Up, Leave, Situation, Outcome, Address, Nowhere, CountOf, LockOf, KidOf, DataOf, InboxOf, TrayOf, Word, CountWord, LockWord, KidWord, DataWord, InboxWord, TrayWord, Change, Stays, Fills, Lengthens, Told, Tells, Settles, Decision}
use Rattle.model.specs.State.{kid_at, put_kid, shorter, longer, Store, set_run}
use Rattle.model.specs.Steps.{written, data_written, changed, loaded, looks_at, decision}
use Rattle.model.specs.Begins.{started, started_walk}
use Rattle.model.specs.Walks.{first_unmarked}
use Rattle.model.specs.Setting.{Setting}
use Rattle.model.specs.Runs.{System, begin_refused, call_begun, walk_begun, turn_refused, turn, walk_turn_refused, walk_turn, Steps, moved, moved_as}
use Rattle.model.specs.OneWord.{ChangesOneWord, ChangesNoWord, TurnsChangeOneWord, BeginsChangeNoWord}
use Rattle.model.proofs.Sums.{upd_same, upd_other}
use Rattle.model.proofs.Others.{written_own, started_others, settled_by, others_run_on}

put_beside : (ks : Kids) (n : ℕ) (j k : Kid) (v : ℕ) → KidOf n j ≢ KidOf n k → kid_at (put_kid ks k v) j ≡ kid_at ks j
put_beside ks n First First v ne = absurd (ne refl)
put_beside ks n Second Second v ne = absurd (ne refl)
put_beside ks n Third Third v ne = absurd (ne refl)
put_beside ks n _ _ v ne = refl

kid_beside : (kids : ℕ → Kids) (n m : ℕ) (j k : Kid) (v : ℕ) → KidOf m j ≢ KidOf n k → kid_at (upd kids n (put_kid (kids n) k v) m) j ≡ kid_at (kids m) j
kid_beside kids n m j k v ne = elim (cases_eq m n) [
  | inl e ↦
      let P : ℕ → Type 0 = λ m. KidOf m j ≢ KidOf n k → kid_at (upd kids n (put_kid (kids n) k v) m) j ≡ kid_at (kids m) j in
      subst P (sym e) (λ ne. ap (λ ks. kid_at ks j) (upd_same kids n (put_kid (kids n) k v)) ∙ put_beside (kids n) n j k v ne) ne
  | inr d ↦ ap (λ ks. kid_at ks j) (upd_other kids n m (put_kid (kids n) k v) d)
]

module _ {D : Type 0} where
  -- a word that is written leaves every other
  written_beside : (s : Store D) (info : ℕ → D) (a : Address) (w : Word D) (b : Address) → b ≢ a → loaded (written s a w) (data_written info a w) b ≡ loaded s info b
  written_beside s info (CountOf n) (CountWord v) (CountOf m) ne = ap CountWord (upd_other s.count n m v (λ e. ne (ap CountOf e)))
  written_beside s info (LockOf n) (LockWord v) (LockOf m) ne = ap LockWord (upd_other s.lock n m v (λ e. ne (ap LockOf e)))
  written_beside s info (KidOf n k) (KidWord v) (KidOf m j) ne = ap KidWord (kid_beside s.kids n m j k v ne)
  written_beside s info (DataOf n) (DataWord v) (DataOf m) ne = ap DataWord (upd_other info n m v (λ e. ne (ap DataOf e)))
  written_beside s info (InboxOf q) (InboxWord v) (InboxOf r) ne = ap InboxWord (upd_other s.inbox q r v (λ e. ne (ap InboxOf e)))
  written_beside s info (TrayOf q) (TrayWord v) (TrayOf r) ne = ap TrayWord (upd_other s.tray q r v (λ e. ne (ap TrayOf e)))
  written_beside s info _ _ _ ne = refl

  -- slots, trails and running calls are no shared words
  changed_beside : (s : Store D) (info : ℕ → D) (p : ℕ) (c : Change) (r : Running D) (b : Address) → loaded (set_run (changed s p c) p r) info b ≡ loaded s info b
  changed_beside s info p Stays r Nowhere = refl
  changed_beside s info p (Fills i v) r Nowhere = refl
  changed_beside s info p (Lengthens n) r Nowhere = refl
  changed_beside s info p _ r _ = refl

  own_slots : (s : Store D) (p : ℕ) (c : Change) (q : ℕ) → q ≢ p → (changed s p c).slot q ≡ s.slot q
  own_slots s p Stays q ne = refl
  own_slots s p (Fills i v) q ne = upd_other s.slot p q (upd (s.slot p) i v) ne
  own_slots s p (Lengthens n) q ne = refl

  own_trails : (s : Store D) (p : ℕ) (c : Change) (q : ℕ) → q ≢ p → (changed s p c).trail q ≡ s.trail q
  own_trails s p Stays q ne = refl
  own_trails s p (Fills i v) q ne = refl
  own_trails s p (Lengthens n) q ne = upd_other s.trail p q (longer (s.trail p) n) ne

  started_words : (c : Call D) (s : Store D) (info : ℕ → D) (p : ℕ) (b : Address) → loaded (started c s p) info b ≡ loaded s info b
  started_words c s info p Nowhere = refl
  started_words (Enter i) s info p _ = refl
  started_words Up s info p _ = refl
  started_words Leave s info p _ = refl
  started_words _ s info p _ = refl

  started_slots : (c : Call D) (s : Store D) (p : ℕ) → (started c s p).slot ≡ s.slot
  started_slots (Enter i) s p = refl
  started_slots Up s p = refl
  started_slots Leave s p = refl
  started_slots _ s p = refl

  started_trails : (c : Call D) (s : Store D) (p q : ℕ) → q ≢ p → (started c s p).trail q ≡ s.trail q
  started_trails (Enter i) s p q ne = upd_other s.trail p q _ ne
  started_trails Up s p q ne = upd_other s.trail p q _ ne
  started_trails Leave s p q ne = upd_other s.trail p q _ ne
  started_trails _ s p q ne = refl

module _ {D W A B : Type 0} (X : Setting D W A B) where
  settled_words : (o : Option Kid) (s : Store D) (info : ℕ → D) (p : ℕ) (t : Situation) (b : Address) → loaded (settled_by X o s p t) info b ≡ loaded s info b
  settled_words (Some k) s info p t _ = refl
  settled_words None s info p t _ = refl

  settled_slots : (o : Option Kid) (s : Store D) (p : ℕ) (t : Situation) → (settled_by X o s p t).slot ≡ s.slot
  settled_slots (Some k) s p t = refl
  settled_slots None s p t = refl

  settled_trails : (o : Option Kid) (s : Store D) (p : ℕ) (t : Situation) (q : ℕ) → q ≢ p → (settled_by X o s p t).trail q ≡ s.trail q
  settled_trails (Some k) s p t q ne = refl
  settled_trails None s p t q ne = upd_other s.trail p q (shorter (s.trail p)) ne

  -- what an accepted Turn makes of the store and the data list
  module _ (F : System D W A B) (p x : ℕ) (d : Decision D W) where
    abbrev at : Address
    at = looks_at X.parties X.nodes F.store p x

    words : (T : Told D W) (b : Address) → b ≢ at → loaded (moved_as X F p x d T).store (moved_as X F p x d T).info b ≡ loaded F.store F.info b
    words (Tells o) b ne = changed_beside (written F.store at d.word) (data_written F.info at d.word) p d.change d.next b ∙ written_beside F.store F.info at d.word b ne
    words (Settles r) b ne = settled_words (first_unmarked (F.notes p) r.kids) F.store F.info p r.situation b

    slots : (T : Told D W) (q : ℕ) → q ≢ p → (moved_as X F p x d T).store.slot q ≡ F.store.slot q
    slots (Tells o) q ne = own_slots (written F.store at d.word) p d.change q ne ∙ ap (λ u. u.0 q) (written_own F.store at d.word)
    slots (Settles r) q ne = ap (λ f. f q) (settled_slots (first_unmarked (F.notes p) r.kids) F.store p r.situation)

    trails : (T : Told D W) (q : ℕ) → q ≢ p → (moved_as X F p x d T).store.trail q ≡ F.store.trail q
    trails (Tells o) q ne = own_trails (written F.store at d.word) p d.change q ne ∙ ap (λ u. u.1 q) (written_own F.store at d.word)
    trails (Settles r) q ne = settled_trails (first_unmarked (F.notes p) r.kids) F.store p r.situation q ne

  unchanged : {F G : System D W A B} (p : ℕ) → G ≡ F → ChangesNoWord p F G
  unchanged {F} p g = subst (λ H. ChangesNoWord p F H) (sym g) (record { words_stay = λ a. refl; slots_stay = λ q i. refl; own = record { slots = λ q _. refl; trails = λ q _. refl; calls = λ q _. refl; notes = λ q _. refl } })

  stays : {F G : System D W A B} (p : ℕ) → G ≡ F → ChangesOneWord p F G
  stays p g = let u = unchanged p g in record { word = Nowhere; others_stay = λ a _. u.words_stay a; own = u.own }

  takes_step : (F G : System D W A B) (p : ℕ) (o : Outcome D W) → ((q : ℕ) → q ≢ p → G.store.run q ≡ F.store.run q) → Steps X F p o G → ChangesOneWord p F G
  takes_step F G p o calls m =
      let d = decision {W = W} X.parties X.nodes F.store F.info p m.pick in
      record {
        word = looks_at X.parties X.nodes F.store p m.pick;
        others_stay = λ a ne. ap (λ s. loaded s G.info a) m.store_is ∙ ap (λ i. loaded (moved X F p m.pick).store i a) m.info_is ∙ words F p m.pick d d.told a ne;
        own = record {
          slots = λ q ne. ap (λ s. s.slot q) m.store_is ∙ slots F p m.pick d d.told q ne;
          trails = λ q ne. ap (λ s. s.trail q) m.store_is ∙ trails F p m.pick d d.told q ne;
          calls = calls;
          notes = λ q ne. ap (λ f. f q) m.notes_are ∙ upd_other F.notes p q (moved X F p m.pick).notes ne;
        };
      }

  pub turns_change_one_word : TurnsChangeOneWord X
  turns_change_one_word F G p e o is (turn_refused r h t g) = stays p g
  turns_change_one_word F G p e o is (walk_turn_refused r h t g) = stays p g
  turns_change_one_word F G p e o is (turn {p = q} {l = l} h m) =
      let same : p ≡ q = eqb-true p q is in
      subst (λ k. ChangesOneWord k F G) (sym same) (takes_step F G q o (λ k ne. others_run_on X k (turn {l = l} h m) ne) m)
  turns_change_one_word F G p e o is (walk_turn {p = q} {l = l} h m) =
      let same : p ≡ q = eqb-true p q is in
      subst (λ k. ChangesOneWord k F G) (sym same) (takes_step F G q o (λ k ne. others_run_on X k (walk_turn {l = l} h m) ne) m)
  turns_change_one_word F G p e o is _ = absurd (true≢false (sym is))

  pub begins_change_no_word : BeginsChangeNoWord X
  begins_change_no_word F G p a l o (begin_refused r h t g) = unchanged p g
  begins_change_no_word F G p a l o (call_begun {c = c} h t g) = subst (λ H. ChangesNoWord p F H) (sym g) (record {
    words_stay = λ b. started_words c F.store F.info p b;
    slots_stay = λ q i. ap (λ f. f q i) (started_slots c F.store p);
    own = record {
      slots = λ q _. ap (λ f. f q) (started_slots c F.store p);
      trails = λ q ne. started_trails c F.store p q ne;
      calls = λ q ne. started_others c F.store p q ne;
      notes = λ q _. refl;
    };
  })
  begins_change_no_word F G p a l o (walk_begun {w = w} t worths h d b g) = subst (λ H. ChangesNoWord p F H) (sym g) (record {
    words_stay = λ b. entered_words F.store F.info p b;
    slots_stay = λ q i. refl;
    own = record {
      slots = λ q _. refl;
      trails = λ q ne. upd_other F.store.trail p q _ ne;
      calls = λ q ne. upd_other F.store.run p q _ ne;
      notes = λ q ne. upd_other F.notes p q _ ne;
    };
  })
    where
      entered_words : (s : Store D) (info : ℕ → D) (p : ℕ) (b : Address) → loaded (started_walk w.slot t s p) info b ≡ loaded s info b
      entered_words s info p _ = refl
