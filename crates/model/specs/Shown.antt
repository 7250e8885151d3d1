-- The numbers and values by which outcomes and answers go in sheets and documents.
use Rattle.std.specs.Prelude.{ℕ}
use Rattle.refusals.specs.Numbers.{number_of}
use Rattle.model.specs.Types.{Ok, Err, Answer, Done, AtNode, Contents, Swept, WorthIs, Outcome, Progress, Begun, StillRunning, Ended}

module _ {D W : Type 0} where
  -- 0 for begun and ended, 100 while a call still runs
  abbrev pub progress_number : Progress D W → ℕ
  progress_number Begun = 0
  progress_number StillRunning = 100
  progress_number (Ended x) = 0

  -- a refusal's own number
  abbrev pub outcome_number : Outcome D W → ℕ
  outcome_number (Err e) = number_of e
  outcome_number (Ok progress) = progress_number progress

  -- the node that an answer names, 0 where it names none
  abbrev pub node_of : Answer D W → ℕ
  node_of Done = 0
  node_of (AtNode n) = n
  node_of (Contents n d ks) = n
  node_of (Swept n q) = n
  node_of (WorthIs w m) = 0

  -- a Sweep's receiver
  abbrev pub receiver_of : Answer D W → ℕ
  receiver_of Done = 0
  receiver_of (AtNode n) = 0
  receiver_of (Contents n d ks) = 0
  receiver_of (Swept n q) = q
  receiver_of (WorthIs w m) = 0

  -- how many nodes a walk met
  abbrev pub term_size_of : Answer D W → ℕ
  term_size_of Done = 0
  term_size_of (AtNode n) = 0
  term_size_of (Contents n d ks) = 0
  term_size_of (Swept n q) = 0
  term_size_of (WorthIs w m) = m
