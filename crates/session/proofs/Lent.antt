-- From a move over the lists that are lent to the move over the whole lists that a command asks for.
use Rattle.std.proofs.Common.{◌≡◌, ℕ, Bool, true, false, not, ◌&&◌, ◌||◌, ltb, leb, min, List, length, take, drop, ◌++◌, [], ◌∷◌, None, sym, refl, ap, ◌∙◌}
use Rattle.refusals.specs.declared.Refusal.TheVariants.{NoSuchParty, ShortList, Busy, NothingToTurn}
use Rattle.kinds.specs.declared.kids.PerKid.{PerKid}
use Rattle.kinds.specs.declared.kind.Kind.{Ghosts as KindMeaning}
use Rattle.orders.specs.declared.order.Order.{Ghosts as OrderMeaning}
use Rattle.model.specs.declared.calls.Asked.{Asked}
use Rattle.model.specs.declared.calls.Asked.TheVariants.{AsksCall, AsksWalk}
use Rattle.model.specs.declared.calls.Call.{Call}
use Rattle.model.specs.declared.calls.Event.TheVariants.{Begins, Turns, WalkTurns}
use Rattle.model.specs.declared.calls.Lengths.{Lengths}
use Rattle.model.specs.declared.calls.Walk.{Walk}
use Rattle.model.specs.declared.running.Running.{Running}
use Rattle.model.specs.Types.{Outcome}
use Rattle.model.specs.Checks.{first_fault, no_receiver, too_short, faults, begin_fault, turn_fault, walk_turn_fault, is_idle, is_walking}
use Rattle.model.specs.State.{Trail}
use Rattle.model.specs.Steps.{between}
use Rattle.model.specs.Walks.{Notes}
use Rattle.model.specs.Runs.{System}
use Rattle.model.specs.Setting.{setting_for, Setting}
use Rattle.model.specs.Entries.{nth}
use Rattle.model.specs.Fun.{upd}
use Rattle.std.proofs.lemmas.Bool.{leb-false, or_parts, true≢false}
use Rattle.model.proofs.Begins.{accepted, passes}
use Rattle.model.proofs.Sums.{upd_same}
use Rattle.cells.specs.View.{nodes_of, parties_of, view_of}
use Rattle.store.specs.Given.{system_of, zero_data}
use Rattle.walks.specs.declared.notes.Notes.{Notes as Lists}
use Rattle.walks.specs.Notes.{SameLists, notes_of}
use Rattle.store.specs.Moved.{Shown, FurtherStay, BeginsCall, TurnsCall, BeginsWalk, TurnsWalk, with_lists}
use Rattle.session.specs.Lent.{CommandOnStore, CommandOnWalkLists}
use Rattle.session.proofs.Over.{begins_over, turns_over, walk_turns_over}
use Rattle.session.proofs.Parts.{same_list, part_short, part_whole, change_whole, change_none}

-- whether a list is too short for a walk
abbrev shorter_than : ℕ → Lengths → Bool
shorter_than M l = ltb l.entries M || (ltb l.marks M || ltb l.worths M)

-- a Begin's fault by whether its lists are too short
fault_if : {D : Type 0} (suits : D → PerKid Bool → Bool) (N M : ℕ) (busy : Bool) (p : ℕ) (a : Asked D) (slots : ℕ → ℕ) (t : Trail) (l l' : Lengths) → too_short M a l ≡ too_short M a l'
    → begin_fault suits N M busy p a l slots t ≡ begin_fault suits N M busy p a l' slots t
fault_if suits N M busy p a slots t l l' e = ap (λ b. first_fault ((not (between 1 N p) || no_receiver N a, NoSuchParty) ∷ (b, ShortList) ∷ (busy, Busy) ∷ faults suits a slots t)) e

-- and a Turn's, and a walk's Turn's
turn_fault_if : {D : Type 0} (N M p : ℕ) (r : Running D) (l l' : Lengths) → ltb l.entries M ≡ ltb l'.entries M → turn_fault N M p l r ≡ turn_fault N M p l' r
turn_fault_if N M p r l l' e = ap (λ b. first_fault ((not (between 1 N p), NoSuchParty) ∷ (b, ShortList) ∷ (is_walking r, Busy) ∷ (is_idle r, NothingToTurn) ∷ [])) e

walk_turn_fault_if : {D : Type 0} (N M p : ℕ) (r : Running D) (l l' : Lengths) → shorter_than M l ≡ shorter_than M l' → walk_turn_fault N M p l r ≡ walk_turn_fault N M p l' r
walk_turn_fault_if N M p r l l' e = ap (λ b. first_fault ((not (between 1 N p), NoSuchParty) ∷ (b, ShortList) ∷ (not (is_walking r), NothingToTurn) ∷ [])) e

turn_long : {D : Type 0} (N M p : ℕ) (l : Lengths) (r : Running D) → turn_fault N M p l r ≡ None → ltb l.entries M ≡ false
turn_long N M p l r h =
    let u = passes (not (between 1 N p)) NoSuchParty ((ltb l.entries M, ShortList) ∷ (is_walking r, Busy) ∷ (is_idle r, NothingToTurn) ∷ []) h in
    (passes (ltb l.entries M) ShortList ((is_walking r, Busy) ∷ (is_idle r, NothingToTurn) ∷ []) u.1).0

walk_turn_long : {D : Type 0} (N M p : ℕ) (l : Lengths) (r : Running D) → walk_turn_fault N M p l r ≡ None → shorter_than M l ≡ false
walk_turn_long N M p l r h =
    let u = passes (not (between 1 N p)) NoSuchParty ((shorter_than M l, ShortList) ∷ (not (is_walking r), NothingToTurn) ∷ []) h in
    (passes (shorter_than M l) ShortList ((not (is_walking r), NothingToTurn) ∷ []) u.1).0

module _ {K D W A B : Type 0} (kind : KindMeaning K D W) (node_order : OrderMeaning A) (party_order : OrderMeaning B) where
  -- with other entries
  abbrev pub over : List D → Shown D A B → Shown D A B
  over entries s = record { cells = s.cells; nodes = s.nodes; parties = s.parties; entries = entries }

  abbrev pub sys : Shown D A B → (ℕ → Notes W) → System D W A B
  sys s notes = system_of kind s.cells s.nodes s.parties s.entries notes

  module _ (before after : Shown D A B) (k n : ℕ) (long : length before.entries ≡ nodes_of before.cells) (cut : n ≡ min k (length before.entries)) where
    abbrev N : ℕ
    N = parties_of before.cells

    abbrev M : ℕ
    M = nodes_of before.cells

    abbrev X : Setting D W A B
    X = setting_for kind node_order party_order N M

    abbrev part : List D
    part = take n before.entries

    -- where nothing has changed over the part, nothing has over the whole
    stays : (entries' : List D) (notes notes' old old' : ℕ → Notes W) → sys (over entries' after) old' ≡ sys (over part before) old → after.entries ≡ before.entries → notes' ≡ notes → sys after notes' ≡ sys before notes
    stays entries' notes notes' old old' e d h =
        ap (λ H. record { store = H.store; info = nth (zero_data kind) after.entries; notes = notes'; node_order = H.node_order; party_order = H.party_order }) e ∙ ap (λ es. sys (over es before) notes') d ∙ ap (sys before) h

    -- unchanged entries of the part are those of the whole
    unchanged : (new : List D) (old old' : ℕ → Notes W) → length new ≡ length part → after.entries ≡ new ++ drop n before.entries → sys (over new after) old' ≡ sys (over part before) old → after.entries ≡ before.entries
    unchanged new old old' same is e = is ∙ change_none k M n before.entries long cut new (same_list (zero_data kind) new part same (λ m. ap (λ H. H.info m) e))

    short_as : (l : Lengths) → l.entries ≡ k → ltb l.entries M ≡ ltb (length part) M
    short_as l asked = ap (λ j. ltb j M) asked ∙ sym (part_short k M n before.entries long cut)

    whole_if : ltb (length part) M ≡ false → part ≡ before.entries
    whole_if f = part_whole k M n before.entries long cut (sym (part_short k M n before.entries long cut) ∙ f)

    changed_if : (new : List D) → ltb (length part) M ≡ false → after.entries ≡ new ++ drop n before.entries → new ≡ after.entries
    changed_if new f is = change_whole k M n before.entries long cut new (sym (part_short k M n before.entries long cut) ∙ f) ∙ sym is

    -- a call's Begin
    pub begins_call : (p : ℕ) (c : Call D) (l : Lengths) {o : Outcome D W} (notes : ℕ → Notes W) → l.entries ≡ k → after.entries ≡ before.entries
        → BeginsCall kind node_order party_order p c o (over part before) (over part after)
        → CommandOnStore kind node_order party_order (Begins p (AsksCall c) l) o before after notes notes
    begins_call p c l {o} notes asked same B =
        let lent : Lengths = record { entries = length part; marks = 0; worths = 0 } in
        let s = view_of before.cells in
        record {
          moves = begins_over {X = X} {F = sys (over part before) notes} {F' = sys before notes} {G = sys (over part after) notes} {G' = sys after notes}
              (λ e. stays part notes notes notes notes e same refl)
              (fault_if kind.suits N M (not (is_idle (s.run p))) p (AsksCall c) (s.slot p) (s.trail p) l lent (short_as l asked))
              (λ f.
              let whole = whole_if (accepted kind.suits N M (not (is_idle (s.run p))) p (AsksCall c) lent (s.slot p) (s.trail p) f).lengths in
              (ap (λ es. sys (over es before) notes) whole, ap (λ es. sys (over es after) notes) (whole ∙ sym same)))
              (B.moves notes lent refl);
          sizes = B.sizes;
        }

    -- a call's Turn, which leaves the new entries in the part's place
    pub turns_call : (p : ℕ) (l : Lengths) (new : List D) {o : Outcome D W} (notes : ℕ → Notes W) → l.entries ≡ k → length new ≡ length part → after.entries ≡ new ++ drop n before.entries
        → TurnsCall kind node_order party_order p o (over part before) (over new after)
        → CommandOnStore kind node_order party_order (Turns p l) o before after notes notes
    turns_call p l new {o} notes asked same is T =
        let lent : Lengths = record { entries = length part; marks = 0; worths = 0 } in
        let r = (view_of before.cells).run p in
        record {
          moves = turns_over {X = X} {F = sys (over part before) notes} {F' = sys before notes} {G = sys (over new after) notes} {G' = sys after notes}
              (λ e. stays new notes notes notes notes e (unchanged new notes notes same is e) refl)
              (turn_fault_if N M p r l lent (short_as l asked))
              (λ f.
              let all = turn_long N M p lent r f in
              (ap (λ es. sys (over es before) notes) (whole_if all), ap (λ es. sys (over es after) notes) (changed_if new all is)))
              (T.moves notes lent refl);
          sizes = T.sizes;
        }

    -- a walk's two lists, of which these are lent, and what is left of them
    module _ (p : ℕ) (lists lists' : Lists W) (marks marks' : List Bool) (worths worths' : List W) (marks_asked marks_lent worths_asked worths_lent : ℕ)
        (marks_long : length marks ≡ M) (worths_long : length worths ≡ M) (marks_cut : marks_lent ≡ min marks_asked (length marks)) (worths_cut : worths_lent ≡ min worths_asked (length worths))
        (marks_first : lists.marks.now ≡ take marks_lent marks) (worths_first : lists.worths.now ≡ take worths_lent worths)
        (marks_left : marks' ≡ lists'.marks.now ++ drop marks_lent marks) (worths_left : worths' ≡ lists'.worths.now ++ drop worths_lent worths)
        (same : SameLists lists lists') (further : FurtherStay kind M lists lists') where
      abbrev lent_notes : (ℕ → Notes W) → Lists W → ℕ → Notes W
      lent_notes notes ls = with_lists kind node_order party_order notes p before ls

      abbrev whole_notes : (ℕ → Notes W) → List Bool → List W → ℕ → Notes W
      whole_notes notes ms ws = upd notes p (notes_of kind.none M ms ws)

      -- what is noted as before is noted on the lists as before
      mark_stays : notes_of kind.none M lists'.marks.now lists'.worths.now ≡ notes_of kind.none M lists.marks.now lists.worths.now → (m : ℕ) (b : Bool) → leb m M ≡ b → nth false lists'.marks.now m ≡ nth false lists.marks.now m
      mark_stays e m true h = ap (λ b. b && nth false lists'.marks.now m) (sym h) ∙ ap (λ x. x.marks m) e ∙ ap (λ b. b && nth false lists.marks.now m) h
      mark_stays e m false h = (further m (leb-false m M h)).0

      notes_stay : (notes : ℕ → Notes W) (new : List D) → sys (over new after) (lent_notes notes lists') ≡ sys (over part before) (lent_notes notes lists) → whole_notes notes marks' worths' ≡ whole_notes notes marks worths
      notes_stay notes new e =
          let now = notes_of kind.none M lists.marks.now lists.worths.now in
          let then = notes_of kind.none M lists'.marks.now lists'.worths.now in
          let own : then ≡ now = sym (upd_same notes p then) ∙ ap (λ H. H.notes p) e ∙ upd_same notes p now in
          let ms = same_list false lists'.marks.now lists.marks.now same.2 (λ m. mark_stays own m (leb m M) refl) ∙ marks_first in
          let ws = same_list kind.none lists'.worths.now lists.worths.now same.3 (λ m. ap (λ x. x.worths m) own) ∙ worths_first in
          let fm : marks' ≡ marks = marks_left ∙ change_none marks_asked M marks_lent marks marks_long marks_cut lists'.marks.now ms in
          let fw : worths' ≡ worths = worths_left ∙ change_none worths_asked M worths_lent worths worths_long worths_cut lists'.worths.now ws in
          ap (λ l. whole_notes notes l worths') fm ∙ ap (whole_notes notes marks) fw

      -- the lengths as lent, which are too short just where those asked for are
      abbrev lent_lengths : Lengths
      lent_lengths = record { entries = length part; marks = length lists.marks.now; worths = length lists.worths.now }

      as_short : (l : Lengths) → l.entries ≡ k → l.marks ≡ marks_asked → l.worths ≡ worths_asked → shorter_than M l ≡ shorter_than M lent_lengths
      as_short l a b c =
          let m : ltb l.marks M ≡ ltb (length lists.marks.now) M = ap (λ j. ltb j M) b ∙ sym (part_short marks_asked M marks_lent marks marks_long marks_cut) ∙ ap (λ x. ltb (length x) M) (sym marks_first) in
          let w : ltb l.worths M ≡ ltb (length lists.worths.now) M = ap (λ j. ltb j M) c ∙ sym (part_short worths_asked M worths_lent worths worths_long worths_cut) ∙ ap (λ x. ltb (length x) M) (sym worths_first) in
          ap (λ x. x || (ltb l.marks M || ltb l.worths M)) (short_as l a) ∙ ap (λ x. ltb (length part) M || (x || ltb l.worths M)) m ∙ ap (λ x. ltb (length part) M || (ltb (length lists.marks.now) M || x)) w

      -- where none is too short, the lists are lent whole
      record LentWhole (notes : ℕ → Notes W) : Type 0 where
        entries_long : ltb (length part) M ≡ false
        first : lent_notes notes lists ≡ whole_notes notes marks worths
        last : lent_notes notes lists' ≡ whole_notes notes marks' worths'

      lent_whole : (notes : ℕ → Notes W) → shorter_than M lent_lengths ≡ false → LentWhole notes
      lent_whole notes f =
          let u = or_parts (ltb (length part) M) (ltb (length lists.marks.now) M || ltb (length lists.worths.now) M) f in
          let v = or_parts (ltb (length lists.marks.now) M) (ltb (length lists.worths.now) M) u.1 in
          let am = sym (part_short marks_asked M marks_lent marks marks_long marks_cut) ∙ ap (λ x. ltb (length x) M) (sym marks_first) ∙ v.0 in
          let aw = sym (part_short worths_asked M worths_lent worths worths_long worths_cut) ∙ ap (λ x. ltb (length x) M) (sym worths_first) ∙ v.1 in
          let m0 = marks_first ∙ part_whole marks_asked M marks_lent marks marks_long marks_cut am in
          let w0 = worths_first ∙ part_whole worths_asked M worths_lent worths worths_long worths_cut aw in
          let m1 = change_whole marks_asked M marks_lent marks marks_long marks_cut lists'.marks.now am ∙ sym marks_left in
          let w1 = change_whole worths_asked M worths_lent worths worths_long worths_cut lists'.worths.now aw ∙ sym worths_left in
          record {
            entries_long = u.0;
            first = ap (λ l. whole_notes notes l lists.worths.now) m0 ∙ ap (whole_notes notes marks) w0;
            last = ap (λ l. whole_notes notes l lists'.worths.now) m1 ∙ ap (whole_notes notes marks') w1;
          }

      -- a walk's Begin
      pub begins_walk : (w : Walk) (l : Lengths) {o : Outcome D W} → l.entries ≡ k → l.marks ≡ marks_asked → l.worths ≡ worths_asked → after.entries ≡ before.entries
          → BeginsWalk kind node_order party_order p w o (over part before) (over part after) lists lists'
          → CommandOnWalkLists kind node_order party_order p (Begins p (AsksWalk w) l) o before after marks marks' worths worths'
      begins_walk w l {o} a b c same_entries B =
          let s = view_of before.cells in
          record {
            on_store = λ notes. record {
              moves = begins_over {X = X} {F = sys (over part before) (lent_notes notes lists)} {F' = sys before (whole_notes notes marks worths)} {G = sys (over part after) (lent_notes notes lists')} {G' = sys after (whole_notes notes marks' worths')}
                  (λ e. stays part (whole_notes notes marks worths) (whole_notes notes marks' worths') (lent_notes notes lists) (lent_notes notes lists') e same_entries (notes_stay notes part e))
                  (fault_if kind.suits N M (not (is_idle (s.run p))) p (AsksWalk w) (s.slot p) (s.trail p) l lent_lengths (as_short l a b c))
                  (λ f.
                  let t = lent_whole notes (accepted kind.suits N M (not (is_idle (s.run p))) p (AsksWalk w) lent_lengths (s.slot p) (s.trail p) f).lengths in
                  let whole = whole_if t.entries_long in
                  (ap (λ es. sys (over es before) (lent_notes notes lists)) whole ∙ ap (sys before) t.first, ap (λ es. sys (over es after) (lent_notes notes lists')) (whole ∙ sym same_entries) ∙ ap (sys after) t.last))
                  (B.moves notes);
              sizes = B.sizes;
            };
            worths_stay = λ _. worths_left ∙ change_none worths_asked M worths_lent worths worths_long worths_cut lists'.worths.now (B.worths ∙ worths_first);
          }

      -- a walk's Turn
      pub turns_walk : (l : Lengths) (new : List D) {o : Outcome D W} → l.entries ≡ k → l.marks ≡ marks_asked → l.worths ≡ worths_asked → length new ≡ length part → after.entries ≡ new ++ drop n before.entries
          → TurnsWalk kind node_order party_order p o (over part before) (over new after) lists lists'
          → CommandOnWalkLists kind node_order party_order p (WalkTurns p l) o before after marks marks' worths worths'
      turns_walk l new {o} a b c as_long is T =
          let r = (view_of before.cells).run p in
          record {
            on_store = λ notes. record {
              moves = walk_turns_over {X = X} {F = sys (over part before) (lent_notes notes lists)} {F' = sys before (whole_notes notes marks worths)} {G = sys (over new after) (lent_notes notes lists')} {G' = sys after (whole_notes notes marks' worths')}
                  (λ e. stays new (whole_notes notes marks worths) (whole_notes notes marks' worths') (lent_notes notes lists) (lent_notes notes lists') e (unchanged new (lent_notes notes lists) (lent_notes notes lists') as_long is e) (notes_stay notes new e))
                  (walk_turn_fault_if N M p r l lent_lengths (as_short l a b c))
                  (λ f.
                  let t = lent_whole notes (walk_turn_long N M p lent_lengths r f) in
                  (ap (λ es. sys (over es before) (lent_notes notes lists)) (whole_if t.entries_long) ∙ ap (sys before) t.first, ap (λ es. sys (over es after) (lent_notes notes lists')) (changed_if new t.entries_long is) ∙ ap (sys after) t.last))
                  (T.moves notes);
              sizes = T.sizes;
            };
            worths_stay = λ e. absurd (true≢false (sym e));
          }
