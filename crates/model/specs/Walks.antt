-- A walk's own part: what it sets down in its caller's lists, and where it goes when it has read a node.
use Rattle.std.specs.Prelude.{ℕ, Bool, true, cond, not, ◌&&◌, Some, None, Option, ◌==◌}
use Rattle.model.specs.Fun.{upd, sum_to}
use Rattle.model.specs.declared.words.NodeRead.{NodeRead}
use Rattle.model.specs.Types.{Kid, First, Second, Third, Kids, ReadNothing, Running, Idle, WalkReads, WalkGoesDown, Situation}
use Rattle.model.specs.State.{Trail, no_trail, along, shorter, Store, set_trail, set_run, last}

-- which nodes a walk has marked, and their worths
pub record Notes (W : Type 0) : Type 0 where
  pub marks : ℕ → Bool
  pub worths : ℕ → W

-- how many of the nodes 1 to M are marked
abbrev pub marked : ℕ → (ℕ → Bool) → ℕ
marked M marks = sum_to M (λ n. cond (marks n) 1 0)

abbrev pub resumes : {D : Type 0} → Situation → Trail → Running D
resumes t no_trail = Idle
resumes t (along i n ns) = WalkReads t ReadNothing

module _ {W : Type 0} (notes : Notes W) where
  abbrev pub unmarked : ℕ → Bool
  unmarked n = not (n == 0) && not (notes.marks n)

  abbrev pub first_unmarked : Kids → Option Kid
  first_unmarked ks = cond (unmarked ks.first) (Some First) (cond (unmarked ks.second) (Some Second) (cond (unmarked ks.third) (Some Third) None))

  -- the worth of a kid, the blank for a missing one
  abbrev pub kid_worth : W → ℕ → W
  kid_worth blank n = cond (n == 0) blank (notes.worths n)

  abbrev pub noted : ℕ → W → Notes W
  noted n w = record { marks = upd notes.marks n true; worths = upd notes.worths n w }

module _ {D W : Type 0} (worth : D → Situation → W → W → W → W) (blank : W) where
  -- the worth of a node from the worths that are noted of its kids
  abbrev pub worked_out : Notes W → NodeRead D → W
  worked_out notes read = worth read.given read.situation (kid_worth notes blank read.kids.first) (kid_worth notes blank read.kids.second) (kid_worth notes blank read.kids.third)

  -- up from the last node
  abbrev pub gone_up : Store D → ℕ → Situation → Store D
  gone_up s p t = set_run (set_trail s p (shorter (s.trail p))) p (resumes t (shorter (s.trail p)))

  -- a walk has read its last node: it goes on to the first unmarked kid, or notes the worth and goes up
  abbrev pub settled_store : Store D → Notes W → ℕ → Situation → Kids → Store D
  settled_store s notes p t ks = elim (first_unmarked notes ks) [ Some k ↦ set_run s p (WalkGoesDown t k) | None ↦ gone_up s p t ]

  abbrev pub settled_notes : Store D → Notes W → ℕ → Situation → D → Kids → Notes W
  settled_notes s notes p t d ks = elim (first_unmarked notes ks) [
    | Some k ↦ notes
    | None ↦ noted notes (last s p) (worked_out notes (record { situation = t; given = d; kids = ks }))
  ]
