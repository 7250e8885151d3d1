-- What a line does, by what has been done for it.
use Rattle.std.proofs.Common.{◌≡◌, ℕ, false, [], ◌∷◌, Some, None, Option, MatchOption, refl, sym, subst, ◌∙◌}
use Rattle.refusals.specs.Numbers.{number_of}
use Rattle.refusals.specs.declared.Refusal.{Refusal}
use Rattle.kinds.specs.declared.kind.Kind.{Ghosts as KindMeaning}
use Rattle.orders.specs.declared.stride.Stride.{Stride}
use Rattle.orders.specs.contracts.stride.StrideOrder.TheImpl as stride
use Rattle.model.specs.declared.calls.Asked.{Asked}
use Rattle.model.specs.declared.calls.Event.TheVariants.{Begins}
use Rattle.model.specs.declared.calls.Lengths.{Lengths}
use Rattle.model.specs.Types.{Outcome}
use Rattle.model.specs.Runs.{Log, Moves}
use Rattle.cells.specs.View.{SameSizes}
use Rattle.store.specs.declared.errors.OpenError.TheVariants.{Refused}
use Rattle.session.specs.declared.session.Session.{Session}
use Rattle.session.specs.Sessions.{CommandOnSession, setting_of, system_in}
use Rattle.sheet.specs.declared.lines.Values.{Values}
use Rattle.sheet.specs.declared.replies.Reply.{Reply}
use Rattle.replay.specs.declared.requests.Opening.{Opening}
use Rattle.replay.specs.declared.requests.Request.{Request}
use Rattle.replay.specs.declared.requests.Request.TheVariants.{Open, Begin, Turn}
use Rattle.replay.specs.Numbers.{SheetNumbers}
use Rattle.replay.specs.Openings.{OpeningRefused, OpenedOnSheet}
use Rattle.replay.specs.Stages.{Stage, malformed, no_store, not_opened, opens, begins, turns, coded, told, asked_on, is_opening, setting_at, goes_on_to}
use Rattle.replay.specs.Standing.{CarriesOutLine, IsHeld}
use Rattle.replay.specs.Turns.{TurnsUpTo, all_entries}

module _ {K D W : Type 0} (kind : KindMeaning K D W) (sheet : SheetNumbers D W) (n : ℕ) (values : Option Values) where
  abbrev S : Type 0
  S = Session K Stride Stride D W kind (stride.ghosts) (stride.ghosts)

  pub asks_nothing : (held : Option S) (reply : Reply) → asked_on sheet values ≡ None → reply ≡ coded n 90 → CarriesOutLine {kind = kind} sheet n values held held reply
  asks_nothing held reply a r before h = (before, h, malformed a refl r)

  pub without_store : (held : Option S) (reply : Reply) {r : Request D} → held ≡ None → asked_on sheet values ≡ Some r → is_opening r ≡ false → reply ≡ coded n 92 → CarriesOutLine {kind = kind} sheet n values held held reply
  without_store (Some s) reply e a i r before h = absurd cc
  without_store None reply e a i r (Some b) h = absurd h
  without_store None reply e a i r None h = (None, h, no_store a i refl refl r)

  pub keeps_store : (held held' : Option S) (reply : Reply) {o : Opening} {e : Refusal} → asked_on sheet values ≡ Some (Open o) → OpeningRefused o (Refused e) → held' ≡ held → reply ≡ coded n (number_of e) → CarriesOutLine {kind = kind} sheet n values held held' reply
  keeps_store held held' reply a f kept r before h = (before, subst (IsHeld before) (sym kept) h, not_opened a f refl r)

  pub opens_store : (held held' : Option S) (reply : Reply) {o : Opening} → asked_on sheet values ≡ Some (Open o) → MatchOption held' ⊥ (λ s. OpenedOnSheet o s) → reply ≡ coded n 0 → CarriesOutLine {kind = kind} sheet n values held held' reply
  opens_store held None reply a f r before h = absurd f
  opens_store held (Some s) reply {o} a f r before h =
      let b : Stage D W = record { opening = o; first = system_in s; log = []; now = system_in s } in
      (Some b, record { now = refl; parties = f.new.store.all_parties; nodes = f.new.store.all_nodes }, opens a (record { session = s; opened = f; is = refl }) refl r)

  pub begins_with : (s s' : S) (reply : Reply) {p : ℕ} {a : Asked D} {l : Lengths} {o : Outcome D W} → asked_on sheet values ≡ Some (Begin p a) → l ≡ all_entries (setting_of s).nodes → CommandOnSession (Begins p a l) o s s' → reply ≡ told sheet n o
      → CarriesOutLine {kind = kind} sheet n values (Some s) (Some s') reply
  begins_with s s' reply a is c r None h = absurd h
  begins_with s s' reply {p} {a} {l} {o} asked is c r (Some b) h =
      let es = (Begins p a (all_entries b.opening.nodes), o) ∷ [] in
      let m : Moves (setting_at kind sheet b.opening) b.now (Begins p a (all_entries b.opening.nodes)) o (system_in s') = rw (h.now, sym h.nodes, sym h.parties) (rw is at c.moves) in
      (Some (goes_on_to kind sheet b es (system_in s')), record { now = refl; parties = c.sizes.parties ∙ h.parties; nodes = c.sizes.nodes ∙ h.nodes }, begins asked refl m refl r)

  pub turns_with : (s s' : S) (reply : Reply) {p most : ℕ} {o : Outcome D W} → asked_on sheet values ≡ Some (Turn p most) → (es : Log (setting_of s)) × TurnsUpTo (setting_of s) p most (system_in s) es o (system_in s') → SameSizes s.store.cells s'.store.cells → reply ≡ told sheet n o
      → CarriesOutLine {kind = kind} sheet n values (Some s) (Some s') reply
  turns_with s s' reply asked t z r None h = absurd h
  turns_with s s' reply {p} {most} {o} asked t z r (Some b) h =
      let m : TurnsUpTo (setting_at kind sheet b.opening) p most b.now t.0 o (system_in s') = rw (h.now, sym h.nodes, sym h.parties) t.1 in
      (Some (goes_on_to kind sheet b t.0 (system_in s')), record { now = refl; parties = z.parties ∙ h.parties; nodes = z.nodes ∙ h.nodes }, turns asked refl m refl r)
