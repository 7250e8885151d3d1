-- What a Begin and a Turn may change: a Turn one shared word, and both what is their party's own.
use Rattle.std.specs.Prelude.{◌≡◌, ℕ, ◌≢◌, true}
use Rattle.model.specs.Types.{Address, Word, Event, Begins, Asked, Lengths, Outcome}
use Rattle.model.specs.Steps.{loaded}
use Rattle.model.specs.Setting.{Setting}
use Rattle.model.specs.Runs.{System, Moves, is_turn_of}

module _ {D W A B : Type 0} where
  -- counts, locks, kids, data, inboxes and trays are the words that parties share
  abbrev pub shared_word : System D W A B → Address → Word D
  shared_word F a = loaded F.store F.info a

  -- every other party has the slots, the trail, the running call and the notes that it had
  pub record OthersKeepTheirs (p : ℕ) (F G : System D W A B) : Type 0 where
    pub slots : (q : ℕ) → q ≢ p → G.store.slot q ≡ F.store.slot q
    pub trails : (q : ℕ) → q ≢ p → G.store.trail q ≡ F.store.trail q
    pub calls : (q : ℕ) → q ≢ p → G.store.run q ≡ F.store.run q
    pub notes : (q : ℕ) → q ≢ p → G.notes q ≡ F.notes q

  pub record ChangesOneWord (p : ℕ) (F G : System D W A B) : Type 0 where
    pub word : Address
    pub others_stay : (a : Address) → a ≢ word → shared_word G a ≡ shared_word F a
    pub own : OthersKeepTheirs p F G

  -- no shared word, and no slot
  pub record ChangesNoWord (p : ℕ) (F G : System D W A B) : Type 0 where
    pub words_stay : (a : Address) → shared_word G a ≡ shared_word F a
    pub slots_stay : (q i : ℕ) → G.store.slot q i ≡ F.store.slot q i
    pub own : OthersKeepTheirs p F G

module _ {D W A B : Type 0} (X : Setting D W A B) where
  abbrev pub TurnsChangeOneWord : Type 0
  TurnsChangeOneWord = (F G : System D W A B) (p : ℕ) (e : Event D) (o : Outcome D W) → is_turn_of p e ≡ true → Moves X F e o G → ChangesOneWord p F G

  abbrev pub BeginsChangeNoWord : Type 0
  BeginsChangeNoWord = (F G : System D W A B) (p : ℕ) (a : Asked D) (l : Lengths) (o : Outcome D W) → Moves X F (Begins p a l) o G → ChangesNoWord p F G
