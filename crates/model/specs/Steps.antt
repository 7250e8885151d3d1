-- One step of a running call: it reads one shared word, decides on it, and may write that word. `x` is what the order
-- picks where a place looks for a node or offers one, and is not looked at elsewhere.
use Rattle.std.specs.Prelude.{ℕ, ◌+◌, ◌-◌, Bool, cond, ◌&&◌, ◌==◌, nat_le}
use Rattle.refusals.specs.declared.Refusal.TheVariants.{NoKid, InboxFull, InboxEmpty}
use Rattle.model.specs.Fun.{upd}
use Rattle.model.specs.Types.{Ok, Err, Kid, First, Second, Third, Kids, Tray, Closed, Open, Holding, Place, OpenTray, ReadTray, LookForNode, LockNode, Recheck, UnlockAndGoBack, ReadKid, ClearKid, UncountKid, Claim, Unlock, Offer, KeepForOneself, GiveBack, CloseTray, WriteData, CountKid, LinkKid, Plan, Job, Makes, Sweeps, Reading, ReadNothing, ReadData, ReadFirst, ReadSecond, Running, Idle, Reads, GoesDown, Keeps, Drops, Hands, Fetches, TakesOut, Works, WalkReads, WalkGoesDown, Answer, AtNode, Contents, Swept, Outcome, StillRunning, Ended, Address, Nowhere, CountOf, LockOf, KidOf, DataOf, InboxOf, TrayOf, Word, NoWord, CountWord, LockWord, KidWord, DataWord, InboxWord, TrayWord, Change, Stays, Fills, Lengthens, Tells, Settles, Decision}
use Rattle.model.specs.State.{kid_at, Store, set_count, set_lock, set_kid, set_inbox, set_tray, set_slot, set_trail, set_run, last, longer}

abbrev pub between : ℕ → ℕ → ℕ → Bool
between low high n = nat_le low n && nat_le n high

-- Which word a step touches.

abbrev pub read_address : {D : Type 0} → Reading D → ℕ → Address
read_address ReadNothing n = DataOf n
read_address (ReadData d) n = KidOf n First
read_address (ReadFirst d i) n = KidOf n Second
read_address (ReadSecond d i j) n = KidOf n Third

-- a node offered to oneself goes into the own tray, or a Sweep lets it go
abbrev pub own_address : {D : Type 0} → Job D → ℕ → ℕ → Address
own_address (Makes plan) p n = TrayOf p
own_address Sweeps p n = CountOf n

-- the node that is to become the kid k, from the party's slots
abbrev pub kid_wanted : {D : Type 0} → Job D → Kid → (ℕ → ℕ) → ℕ
kid_wanted (Makes plan) k slots = slots (kid_at plan.kids k)
kid_wanted Sweeps k slots = 0

abbrev pub place_address : {D : Type 0} → ℕ → ℕ → Place → Job D → ℕ → ℕ → (ℕ → ℕ) → Address
place_address N M OpenTray j p x slots = TrayOf p
place_address N M ReadTray j p x slots = TrayOf p
place_address N M LookForNode j p x slots = cond (between 1 M x) (CountOf x) Nowhere
place_address N M (LockNode n) j p x slots = LockOf n
place_address N M (Recheck n) j p x slots = CountOf n
place_address N M (UnlockAndGoBack n) j p x slots = LockOf n
place_address N M (ReadKid n k) j p x slots = KidOf n k
place_address N M (ClearKid n k w) j p x slots = KidOf n k
place_address N M (UncountKid n k w) j p x slots = CountOf w
place_address N M (Claim n) j p x slots = CountOf n
place_address N M (Unlock n) j p x slots = LockOf n
place_address N M (Offer n) j p x slots = cond (x == p) (own_address j p n) (cond (between 1 N x) (TrayOf x) Nowhere)
place_address N M (KeepForOneself n) j p x slots = TrayOf p
place_address N M (GiveBack n) j p x slots = CountOf n
place_address N M (CloseTray v) j p x slots = TrayOf p
place_address N M (WriteData v) j p x slots = DataOf v
place_address N M (CountKid v k) j p x slots = CountOf (kid_wanted j k slots)
place_address N M (LinkKid v k w) j p x slots = KidOf v k

abbrev pub address : {D : Type 0} → ℕ → ℕ → Running D → ℕ → ℕ → (ℕ → ℕ) → ℕ → Address
address N M Idle p x slots n = Nowhere
address N M (Reads g) p x slots n = read_address g n
address N M (GoesDown k) p x slots n = KidOf n k
address N M (Keeps i) p x slots n = CountOf n
address N M (Drops i) p x slots n = CountOf (slots i)
address N M (Hands i q) p x slots n = InboxOf q
address N M (Fetches i) p x slots n = InboxOf p
address N M (TakesOut i v) p x slots n = InboxOf p
address N M (Works j c) p x slots n = place_address N M c j p x slots
address N M (WalkReads t g) p x slots n = read_address g n
address N M (WalkGoesDown t k) p x slots n = KidOf n k

-- Which word is there, and what it is to write one. Data lies in the caller's list.

module _ {D : Type 0} where
  abbrev pub loaded : Store D → (ℕ → D) → Address → Word D
  loaded s info Nowhere = NoWord
  loaded s info (CountOf n) = CountWord (s.count n)
  loaded s info (LockOf n) = LockWord (s.lock n)
  loaded s info (KidOf n k) = KidWord (kid_at (s.kids n) k)
  loaded s info (DataOf n) = DataWord (info n)
  loaded s info (InboxOf q) = InboxWord (s.inbox q)
  loaded s info (TrayOf q) = TrayWord (s.tray q)

  -- a word is written only where a word of its sort stands
  abbrev pub written : Store D → Address → Word D → Store D
  written s a w = elim a [
    | Nowhere ↦ s
    | CountOf n ↦ elim w [ CountWord v ↦ set_count s n v | NoWord ↦ s | LockWord v ↦ s | KidWord v ↦ s | DataWord v ↦ s | InboxWord v ↦ s | TrayWord v ↦ s ]
    | LockOf n ↦ elim w [ LockWord v ↦ set_lock s n v | NoWord ↦ s | CountWord v ↦ s | KidWord v ↦ s | DataWord v ↦ s | InboxWord v ↦ s | TrayWord v ↦ s ]
    | KidOf n k ↦ elim w [ KidWord v ↦ set_kid s n k v | NoWord ↦ s | CountWord v ↦ s | LockWord v ↦ s | DataWord v ↦ s | InboxWord v ↦ s | TrayWord v ↦ s ]
    | DataOf n ↦ s
    | InboxOf q ↦ elim w [ InboxWord v ↦ set_inbox s q v | NoWord ↦ s | CountWord v ↦ s | LockWord v ↦ s | KidWord v ↦ s | DataWord v ↦ s | TrayWord v ↦ s ]
    | TrayOf q ↦ elim w [ TrayWord v ↦ set_tray s q v | NoWord ↦ s | CountWord v ↦ s | LockWord v ↦ s | KidWord v ↦ s | DataWord v ↦ s | InboxWord v ↦ s ]
  ]

  abbrev pub data_written : (ℕ → D) → Address → Word D → ℕ → D
  data_written info a w = elim a [
    | DataOf n ↦ elim w [ DataWord v ↦ upd info n v | NoWord ↦ info | CountWord v ↦ info | LockWord v ↦ info | KidWord v ↦ info | InboxWord v ↦ info | TrayWord v ↦ info ]
    | Nowhere ↦ info
    | CountOf n ↦ info
    | LockOf n ↦ info
    | KidOf n k ↦ info
    | InboxOf q ↦ info
    | TrayOf q ↦ info
  ]

  abbrev pub changed : Store D → ℕ → Change → Store D
  changed s p Stays = s
  changed s p (Fills i v) = set_slot s p i v
  changed s p (Lengthens n) = set_trail s p (longer (s.trail p) n)

  -- where the step of the party p looks
  abbrev pub looks_at : ℕ → ℕ → Store D → ℕ → ℕ → Address
  looks_at N M s p x = address N M (s.run p) p x (s.slot p) (last s p)

-- What a step decides.

-- after a kid the next, after the third the claim
abbrev pub after_kid : ℕ → Kid → Place
after_kid n First = ReadKid n Second
after_kid n Second = ReadKid n Third
after_kid n Third = Claim n

module _ {D W : Type 0} where
  abbrev pub going : Word D → Running D → Decision D W
  going w r = record { word = w; change = Stays; next = r; told = Tells (Ok StillRunning) }

  abbrev pub ending : Word D → Change → Answer D W → Decision D W
  ending w c a = record { word = w; change = c; next = Idle; told = Tells (Ok (Ended a)) }

  abbrev pub ended_by : Outcome D W → Decision D W
  ended_by o = record { word = NoWord; change = Stays; next = Idle; told = Tells o }

  -- a word of another sort than the place reads: no store has one there
  abbrev pub stuck : Decision D W
  stuck = ended_by (Ok StillRunning)

  abbrev pub on_count : Word D → Decision D W → (ℕ → Decision D W) → Decision D W
  on_count w e f = elim w [ CountWord v ↦ f v | NoWord ↦ e | LockWord v ↦ e | KidWord v ↦ e | DataWord v ↦ e | InboxWord v ↦ e | TrayWord v ↦ e ]

  abbrev pub on_lock : Word D → (ℕ → Decision D W) → Decision D W
  on_lock w f = elim w [ LockWord v ↦ f v | NoWord ↦ stuck | CountWord v ↦ stuck | KidWord v ↦ stuck | DataWord v ↦ stuck | InboxWord v ↦ stuck | TrayWord v ↦ stuck ]

  abbrev pub on_kid : Word D → (ℕ → Decision D W) → Decision D W
  on_kid w f = elim w [ KidWord v ↦ f v | NoWord ↦ stuck | CountWord v ↦ stuck | LockWord v ↦ stuck | DataWord v ↦ stuck | InboxWord v ↦ stuck | TrayWord v ↦ stuck ]

  abbrev pub on_data : Word D → (D → Decision D W) → Decision D W
  on_data w f = elim w [ DataWord v ↦ f v | NoWord ↦ stuck | CountWord v ↦ stuck | LockWord v ↦ stuck | KidWord v ↦ stuck | InboxWord v ↦ stuck | TrayWord v ↦ stuck ]

  abbrev pub on_inbox : Word D → (ℕ → Decision D W) → Decision D W
  on_inbox w f = elim w [ InboxWord v ↦ f v | NoWord ↦ stuck | CountWord v ↦ stuck | LockWord v ↦ stuck | KidWord v ↦ stuck | DataWord v ↦ stuck | TrayWord v ↦ stuck ]

  abbrev pub on_tray : Word D → Decision D W → (Tray → Decision D W) → Decision D W
  on_tray w e f = elim w [ TrayWord t ↦ f t | NoWord ↦ e | CountWord v ↦ e | LockWord v ↦ e | KidWord v ↦ e | DataWord v ↦ e | InboxWord v ↦ e ]

  -- where a Make goes back to its tray, a Sweep ends
  abbrev pub backward : Job D → Word D → Decision D W
  backward (Makes plan) w = going w (Works (Makes plan) ReadTray)
  backward Sweeps w = ending w Stays (Swept 0 0)

  -- an open tray takes a node
  abbrev pub into_tray : Tray → Decision D W → Decision D W → Decision D W
  into_tray t taken other = elim t [ Open ↦ taken | Closed ↦ other | Holding v ↦ other ]

  abbrev pub into_own_tray : Job D → ℕ → Tray → Decision D W
  into_own_tray j n t = into_tray t (going (TrayWord (Holding n)) (Works j (CloseTray n))) (going NoWord (Works j (GiveBack n)))

  -- nobody took the node: a Make tries its own tray, a Sweep lets it go
  abbrev pub not_taken : Job D → ℕ → Decision D W
  not_taken (Makes plan) n = going NoWord (Works (Makes plan) (KeepForOneself n))
  not_taken Sweeps n = going NoWord (Works Sweeps (GiveBack n))

  abbrev pub offered : Job D → ℕ → ℕ → Tray → Decision D W
  offered (Makes plan) n x t = into_tray t (going (TrayWord (Holding n)) (Works (Makes plan) ReadTray)) (not_taken (Makes plan) n)
  offered Sweeps n x t = into_tray t (ending (TrayWord (Holding n)) Stays (Swept n x)) (not_taken Sweeps n)

  abbrev pub let_go : Job D → ℕ → Decision D W
  let_go (Makes plan) n = going (CountWord 0) (Works (Makes plan) ReadTray)
  let_go Sweeps n = ending (CountWord 0) Stays (Swept n 0)

  abbrev pub offered_to_oneself : Job D → ℕ → Word D → Decision D W
  offered_to_oneself (Makes plan) n w = on_tray w stuck (into_own_tray (Makes plan) n)
  offered_to_oneself Sweeps n w = on_count w stuck (λ c. let_go Sweeps n)

  -- a Make goes on to its next given kid, or fills its slot
  abbrev pub made : Plan D → ℕ → Word D → Decision D W
  made plan v w = ending w (Fills plan.slot v) (AtNode v)

  abbrev pub from_third : Plan D → ℕ → Word D → Decision D W
  from_third plan v w = cond (plan.kids.third == 0) (made plan v w) (going w (Works (Makes plan) (CountKid v Third)))

  abbrev pub from_second : Plan D → ℕ → Word D → Decision D W
  from_second plan v w = cond (plan.kids.second == 0) (from_third plan v w) (going w (Works (Makes plan) (CountKid v Second)))

  abbrev pub from_first : Plan D → ℕ → Word D → Decision D W
  from_first plan v w = cond (plan.kids.first == 0) (from_second plan v w) (going w (Works (Makes plan) (CountKid v First)))

  abbrev pub onward : Plan D → ℕ → Kid → Word D → Decision D W
  onward plan v First w = from_second plan v w
  onward plan v Second w = from_third plan v w
  onward plan v Third w = made plan v w

  abbrev pub data_given : Job D → ℕ → Decision D W
  data_given (Makes plan) v = from_first plan v (DataWord plan.given)
  data_given Sweeps v = stuck

  abbrev pub kid_linked : Job D → ℕ → Kid → ℕ → Decision D W
  kid_linked (Makes plan) v k w = onward plan v k (KidWord w)
  kid_linked Sweeps v k w = stuck

  abbrev pub decide_place : Place → Job D → Word D → ℕ → ℕ → (ℕ → ℕ) → Decision D W
  decide_place OpenTray j w p x slots = on_tray w stuck (λ t. going (TrayWord Open) (Works j ReadTray))
  decide_place ReadTray j w p x slots = on_tray w stuck (λ t. elim t [ Holding v ↦ going NoWord (Works j (CloseTray v)) | Closed ↦ going NoWord (Works j LookForNode) | Open ↦ going NoWord (Works j LookForNode) ])
  decide_place LookForNode j w p x slots = on_count w (backward j NoWord) (λ c. cond (c == 0) (going NoWord (Works j (LockNode x))) (backward j NoWord))
  decide_place (LockNode n) j w p x slots = on_lock w (λ l. cond (l == 0) (going (LockWord p) (Works j (Recheck n))) (backward j NoWord))
  decide_place (Recheck n) j w p x slots = on_count w stuck (λ c. cond (c == 0) (going NoWord (Works j (ReadKid n First))) (going NoWord (Works j (UnlockAndGoBack n))))
  decide_place (UnlockAndGoBack n) j w p x slots = on_lock w (λ l. backward j (LockWord 0))
  decide_place (ReadKid n k) j w p x slots = on_kid w (λ c. cond (c == 0) (going NoWord (Works j (after_kid n k))) (going NoWord (Works j (ClearKid n k c))))
  decide_place (ClearKid n k c) j w p x slots = on_kid w (λ _. going (KidWord 0) (Works j (UncountKid n k c)))
  decide_place (UncountKid n k c) j w p x slots = on_count w stuck (λ v. going (CountWord (v - 1)) (Works j (after_kid n k)))
  decide_place (Claim n) j w p x slots = on_count w stuck (λ _. going (CountWord 1) (Works j (Unlock n)))
  decide_place (Unlock n) j w p x slots = on_lock w (λ _. going (LockWord 0) (Works j (Offer n)))
  decide_place (Offer n) j w p x slots = cond (x == p) (offered_to_oneself j n w) (on_tray w (not_taken j n) (offered j n x))
  decide_place (KeepForOneself n) j w p x slots = on_tray w stuck (into_own_tray j n)
  decide_place (GiveBack n) j w p x slots = on_count w stuck (λ _. let_go j n)
  decide_place (CloseTray v) j w p x slots = on_tray w stuck (λ _. going (TrayWord Closed) (Works j (WriteData v)))
  decide_place (WriteData v) j w p x slots = on_data w (λ _. data_given j v)
  decide_place (CountKid v k) j w p x slots = on_count w stuck (λ c. going (CountWord (c + 1)) (Works j (LinkKid v k (kid_wanted j k slots))))
  decide_place (LinkKid v k c) j w p x slots = on_kid w (λ _. kid_linked j v k c)

  -- what a reading has read with one word more; the fourth is the last
  abbrev pub read_on : Reading D → Word D → (Reading D → Running D) → (D → Kids → Decision D W) → Decision D W
  read_on ReadNothing w on done = on_data w (λ d. going NoWord (on (ReadData d)))
  read_on (ReadData d) w on done = on_kid w (λ a. going NoWord (on (ReadFirst d a)))
  read_on (ReadFirst d a) w on done = on_kid w (λ b. going NoWord (on (ReadSecond d a b)))
  read_on (ReadSecond d a b) w on done = on_kid w (λ c. done d (record { first = a; second = b; third = c }))

  -- what the party p decides on the word that its step has read; n is its trail's last node
  abbrev pub decide : Running D → Word D → ℕ → ℕ → (ℕ → ℕ) → ℕ → Decision D W
  decide Idle w p x slots n = stuck
  decide (Reads g) w p x slots n = read_on g w (λ h. Reads h) (λ d ks. ending NoWord Stays (Contents n d ks))
  decide (GoesDown k) w p x slots n = on_kid w (λ c. cond (c == 0) (ended_by (Err NoKid)) (ending NoWord (Lengthens c) (AtNode c)))
  decide (Keeps i) w p x slots n = on_count w stuck (λ c. ending (CountWord (c + 1)) (Fills i n) (AtNode n))
  decide (Drops i) w p x slots n = on_count w stuck (λ c. ending (CountWord (c - 1)) (Fills i 0) (AtNode (slots i)))
  decide (Hands i q) w p x slots n = on_inbox w (λ b. cond (b == 0) (ending (InboxWord (slots i)) (Fills i 0) (AtNode (slots i))) (ended_by (Err InboxFull)))
  decide (Fetches i) w p x slots n = on_inbox w (λ b. cond (b == 0) (ended_by (Err InboxEmpty)) (going NoWord (TakesOut i b)))
  decide (TakesOut i v) w p x slots n = on_inbox w (λ _. ending (InboxWord 0) (Fills i v) (AtNode v))
  decide (Works j c) w p x slots n = decide_place c j w p x slots
  decide (WalkReads t g) w p x slots n = read_on g w (λ h. WalkReads t h) (λ d ks. record { word = NoWord; change = Stays; next = Idle; told = Settles (record { situation = t; given = d; kids = ks }) })
  decide (WalkGoesDown t k) w p x slots n = on_kid w (λ c. cond (c == 0) (going NoWord (WalkReads t ReadNothing)) (record { word = NoWord; change = Lengthens c; next = WalkReads t ReadNothing; told = Tells (Ok StillRunning) }))

  -- the step of the party p: what it decides on the word that it finds, and the store and the data after it
  abbrev pub decision : ℕ → ℕ → Store D → (ℕ → D) → ℕ → ℕ → Decision D W
  decision N M s info p x = decide (s.run p) (loaded s info (looks_at N M s p x)) p x (s.slot p) (last s p)

  abbrev pub stepped : ℕ → ℕ → Store D → (ℕ → D) → ℕ → ℕ → Decision D W → Store D
  stepped N M s info p x d = set_run (changed (written s (looks_at N M s p x) d.word) p d.change) p d.next

  abbrev pub data_after : ℕ → ℕ → Store D → (ℕ → D) → ℕ → ℕ → Decision D W → ℕ → D
  data_after N M s info p x d = data_written info (looks_at N M s p x) d.word
