-- The program's step over the lists is the model's over the view, or nothing happens.
use Rattle.std.proofs.Common.{◌≡◌, ℕ, Bool, true, false, cond, ◌&&◌, List, length, Some, None, Option, sym, refl, ap, ◌∙◌}
use Rattle.std.proofs.lemmas.Bool.{cond-true, cond-false, and_from, and_left, and_right}
use Rattle.std.proofs.lemmas.Option.{cond_some}
use Rattle.step.specs.Counting.{movable}
use Rattle.model.specs.declared.words.Address.{Address}
use Rattle.model.specs.declared.words.Word.{Word}
use Rattle.model.specs.declared.words.Decision.{Decision}
use Rattle.model.specs.Entries.{nth}
use Rattle.model.specs.declared.party.PartyRecord.{PartyRecord}
use Rattle.model.specs.declared.sizes.Sizes.{Sizes}
use Rattle.model.specs.State.{Store, last, last_of, trail_of, set_run}
use Rattle.model.specs.Steps.{between, address, loaded, written, data_written, changed, looks_at, decide, decision, stepped, data_after}
use Rattle.cells.specs.declared.records.Cells.{Cells}
use Rattle.cells.specs.View.{record_of, view_of, parties_of, nodes_of}
use Rattle.cells.specs.Ready.{stands, has_room, ready, StepsIfReady}

cond_none : {A : Type 0} (b : Bool) (v : A) → cond b (Some v) None ≡ None → b ≡ false
cond_none true v e = cc
cond_none false v e = refl

-- the party p of the cells c has the record y; x is picked, l is the caller's data, and a is where the step looks
module _ {D : Type 0} (W : Type 0) (c : Cells D) (l : List D) (p x : ℕ) {y : PartyRecord D} (own : y ≡ record_of c p) {z : Sizes} (ez : z ≡ record { parties = parties_of c; nodes = nodes_of c })
    {a : Address} (ea : a ≡ address z.parties z.nodes y.running p x (nth 0 y.slots) (last_of (trail_of y.trail))) where
  abbrev N : ℕ
  N = parties_of c

  abbrev M : ℕ
  M = nodes_of c

  abbrev s : Store D
  s = view_of c

  abbrev here : Address
  here = looks_at N M s p x

  at : a ≡ here
  at = ea ∙ ap (λ u. address u.parties u.nodes y.running p x (nth 0 y.slots) (last_of (trail_of y.trail))) ez
      ∙ ap (λ u. address N M u.running p x (nth 0 u.slots) (last_of (trail_of u.trail))) own

  module _ (blank : D) where
    abbrev info : ℕ → D
    info = nth blank l

    abbrev d : Decision D W
    d = decision {W = W} N M s info p x

    abbrev there : Bool
    there = stands N M (length l) here

    abbrev moves : Bool
    moves = movable (s.run p) (loaded s info here)

    abbrev room : Bool
    room = has_room (s.trail p) d.change

    abbrev is_ready : Bool
    is_ready = ready N M (length l) s info p x d

    abbrev Waits : Type 0
    Waits = StepsIfReady {W = W} N M (length l) s s info info p x None

    waits : is_ready ≡ false → Waits
    waits f = record {
      told = sym (cond-false is_ready (Some d.told) None f);
      store_is = sym (cond-false is_ready (stepped N M s info p x d) s f);
      info_is = sym (cond-false is_ready (data_after N M s info p x d) info f);
    }

    pub no_word : false ≡ stands N M (length l) a → Waits
    no_word e = waits (and_right (between 1 N p) (there && (moves && room)) (and_left there (moves && room) (ap (stands N M (length l)) (sym at) ∙ sym e)))

    -- w is the word there, and o what is decided on it
    module _ {w : Word D} (word : w ≡ loaded s info a) where
      abbrev on : PartyRecord D → Decision D W
      on z = decide {W = W} z.running w p x (nth 0 z.slots) (last_of (trail_of z.trail))

      abbrev ruling : PartyRecord D → Option (Decision D W)
      ruling z = cond (movable z.running w) (Some (on z)) None

      word_is : loaded s info here ≡ w
      word_is = ap (loaded s info) (sym at) ∙ sym word

      pub no_move : {o : Option (Decision D W)} → o ≡ ruling y → o ≡ None → Waits
      no_move e n =
          let h = cond_none (movable (s.run p) w) (on (record_of c p)) (sym (e ∙ ap ruling own) ∙ n) in
          waits (and_right (between 1 N p) (there && (moves && room)) (and_right there (moves && room) (and_left moves room (ap (movable (s.run p)) word_is ∙ h))))

      module _ {o : Option (Decision D W)} {k : Decision D W} (e : o ≡ ruling y) (n : o ≡ Some k) where
        ruled : (movable (s.run p) w ≡ true) × (on (record_of c p) ≡ k)
        ruled = cond_some (movable (s.run p) w) (on (record_of c p)) k (sym (e ∙ ap ruling own) ∙ n)

        decided : d ≡ k
        decided = ap (λ v. decide (s.run p) v p x (s.slot p) (last s p)) word_is ∙ ruled.1

        room_is : (b : Bool) → b ≡ has_room (trail_of y.trail) k.change → room ≡ b
        room_is b h = ap (λ z. has_room (s.trail p) z.change) decided ∙ ap (λ z. has_room (trail_of z.trail) k.change) (sym own) ∙ sym h

        pub no_room : false ≡ has_room (trail_of y.trail) k.change → Waits
        no_room h = waits (and_right (between 1 N p) (there && (moves && room)) (and_right there (moves && room) (and_right moves room (room_is false h))))

        -- t, u and later are the store after the word is written and after the step, and the data
        pub steps : between 1 N p ≡ true → true ≡ stands N M (length l) a → true ≡ has_room (trail_of y.trail) k.change → {t u : Store D} {later : ℕ → D}
            → t ≡ written s a k.word → later ≡ data_written info a k.word → u ≡ set_run (changed t p k.change) p k.next → StepsIfReady {W = W} N M (length l) s u info later p x (Some k.told)
        steps party stand fits {t} {u} {later} et ei eu =
            let r : is_ready ≡ true = and_from (between 1 N p) (there && (moves && room)) party (and_from there (moves && room) (ap (stands N M (length l)) (sym at) ∙ sym stand)
            (and_from moves room (ap (movable (s.run p)) word_is ∙ ruled.0) (room_is true fits))) in
            record {
              told = ap (λ z. Some z.told) (sym decided) ∙ sym (cond-true is_ready (Some d.told) None r);
              store_is = eu ∙ ap (λ z. set_run (changed z p k.change) p k.next) et ∙ ap (λ z. set_run (changed (written s z k.word) p k.change) p k.next) at
                  ∙ ap (λ z. set_run (changed (written s here z.word) p z.change) p z.next) (sym decided) ∙ sym (cond-true is_ready (stepped N M s info p x d) s r);
              info_is = ei ∙ ap (λ z. data_written info z k.word) at ∙ ap (λ z. data_written info here z.word) (sym decided) ∙ sym (cond-true is_ready (data_after N M s info p x d) info r);
            }
