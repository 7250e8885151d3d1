-- What the parts of a settling promise, joined: how the notes stand after it, and that the walk goes on and tells as it must.
use Rattle.std.proofs.Common.{◌≡◌, ℕ, ◌≤◌, Bool, true, false, cond, ◌&&◌, leb, length, Ok, Some, None, Option, sym, ap, ◌∙◌, true≢false}
use Rattle.std.specs.Option.{is_some}
use Rattle.std.proofs.lemmas.Bool.{and_from, le-leb, cond-true}
use Rattle.kinds.specs.declared.kind.Kind.{Ghosts as KindMeaning}
use Rattle.kinds.specs.declared.kids.Kid.{Kid}
use Rattle.orders.specs.declared.order.Order.{Ghosts as OrderMeaning}
use Rattle.model.specs.declared.outcomes.Answer.TheVariants.{WorthIs}
use Rattle.model.specs.declared.outcomes.Progress.TheVariants.{StillRunning, Ended}
use Rattle.model.specs.declared.words.NodeRead.{NodeRead}
use Rattle.model.specs.Types.{Outcome}
use Rattle.model.specs.Checks.{is_idle}
use Rattle.model.specs.Entries.{nth}
use Rattle.model.specs.Setting.{setting_for}
use Rattle.model.specs.State.{Store, last}
use Rattle.model.specs.Steps.{between}
use Rattle.model.specs.Walks.{Notes, marked, first_unmarked, noted}
use Rattle.cells.specs.Walked.{goes_on}
use Rattle.walks.specs.declared.notes.Notes.{Notes as Lists}
use Rattle.walks.specs.Notes.{marks_of, marks_alone, has_entries, worked_out}
use Rattle.walks.proofs.Noting.{marks_alone_tell}
use Rattle.store.specs.Moved.{noted_on}
use Rattle.store.specs.Settled.{Settled}
use Rattle.store.proofs.WalkTurns.{goes, goes_on_lem}

-- each node has its entries on lists that are long enough
entries_stand : {W : Type 0} (M n : ℕ) (lists : Lists W) → between 1 M n ≡ true → M ≤ length lists.marks.now → M ≤ length lists.worths.now → has_entries M lists.marks.now lists.worths.now n ≡ true
entries_stand M n lists h k l =
    let m = length lists.marks.now in
    let w = length lists.worths.now in
    and_from (between 1 M n) (leb M m && leb M w) h (and_from (leb M m) (leb M w) (le-leb M m k) (le-leb M w l))

-- at the top a walk tells the worth of its node n, and how many are marked
module _ {K D W : Type 0} (kind : KindMeaning K D W) (M : ℕ) (lists : Lists W) (n : ℕ) where
  abbrev pub ending : Outcome D W
  ending = Ok (Ended (WorthIs (nth kind.none lists.worths.now n) (marked M (marks_of M lists.marks.now))))

  pub ends_so : (w : W) (m : ℕ) → w ≡ nth kind.none lists.worths.now n → m ≡ marked M (marks_of M lists.marks.now) → ◌≡◌ {A = Outcome D W} (Ok (Ended (WorthIs w m))) ending
  ends_so w m ew em = cc

module _ {K D W : Type 0} (kind : KindMeaning K D W) (M n : ℕ) (lists lists' : Lists W) (read : NodeRead D) where
  abbrev pub before : Notes W
  before = noted_on kind M lists

  abbrev after : Notes W
  after = noted_on kind M lists'

  -- the last node is n, and below is the kid that the walk goes down to
  abbrev pub noted_for : Option Kid → Notes W
  noted_for below = elim below [ Some k ↦ before | None ↦ noted before n (worked_out kind.worth kind.none before read) ]

  -- on the way down to a kid nothing is noted
  pub nothing_noted : (below : Option Kid) → is_some below ≡ true → lists' ≡ lists → after ≡ noted_for below
  nothing_noted (Some k) h e = ap (noted_on kind M) e
  nothing_noted None h e = absurd (true≢false (sym h))

  -- without such a kid the last node's worth is, on lists that have its entries
  pub last_noted : (below : Option Kid) → is_some below ≡ false → (told : Bool) (set : Lists W) → told ≡ has_entries M lists.marks.now lists.worths.now n → between 1 M n ≡ true → M ≤ length lists.marks.now → M ≤ length lists.worths.now
      → (told ≡ true → noted_on kind M set ≡ noted before n (worked_out kind.worth kind.none before read)) → lists' ≡ set → after ≡ noted_for below
  last_noted (Some k) h told set e w lm lw f es = absurd (true≢false h)
  last_noted None h told set e w lm lw f es = ap (noted_on kind M) es ∙ f (e ∙ entries_stand M n lists w lm lw)

  -- the parts joined
  pub settled_as : {A B : Type 0} (node_order : OrderMeaning A) (party_order : OrderMeaning B) (N : ℕ) (s t : Store D) (p : ℕ) (below : Option Kid) → between 1 N p ≡ true → below ≡ first_unmarked (marks_alone M lists.marks.now) read.kids
      → t ≡ cond (between 1 N p) (goes_on s p read.situation below) s → n ≡ last s p → after ≡ noted_for below
      → (told : Bool) → told ≡ is_idle (t.run p) → (r : Outcome D W) → r ≡ cond told (ending kind M lists' n) (Ok StillRunning) → Settled (setting_for kind node_order party_order N M) s t p read before after r
  settled_as node_order party_order N s t p below h eb et en ea told ei r er =
      let eb' : below ≡ first_unmarked before read.kids = eb ∙ marks_alone_tell kind.none M lists.marks.now lists.worths.now read.kids in
      record {
        goes = et ∙ cond-true (between 1 N p) (goes_on s p read.situation below) s h ∙ goes_on_lem kind.worth kind.none s p read.situation below ∙ ap (goes kind.worth kind.none s p read.situation s) eb';
        notes = ea ∙ ap noted_for eb' ∙ ap (λ m. elim (first_unmarked before read.kids) as (λ _. Notes W) [ Some k ↦ before | None ↦ noted before m (worked_out kind.worth kind.none before read) ]) en;
        tells = er ∙ ap (λ b. cond b (ending kind M lists' n) (Ok StillRunning)) ei ∙ ap (λ m. cond (is_idle (t.run p)) (ending kind M lists' m) (Ok StillRunning)) en;
      }
