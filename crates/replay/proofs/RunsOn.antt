-- What stands after a line is again a run from a new store, of which the law holds.
use Rattle.std.proofs.Common.{ℕ, [], ◌∷◌, ◌++◌, Option, refl, sym, subst}
use Rattle.std.proofs.lemmas.List.{append_assoc}
use Rattle.kinds.specs.declared.kind.Kind.{Ghosts as KindMeaning}
use Rattle.orders.specs.RoundsLemmas.{dues_below}
use Rattle.orders.specs.Rounds.{place_of}
use Rattle.orders.specs.contracts.stride.StrideOrder.TheImpl as stride
use Rattle.model.specs.Types.{Outcome}
use Rattle.model.specs.Runs.{Log, Run, System, still}
use Rattle.model.specs.Setting.{Setting, meaning_of}
use Rattle.model.proofs.MakesEnd.{DuesBelowSpan}
use Rattle.session.specs.Performed.{LawAtEachMoment}
use Rattle.session.proofs.Performing.{law_after}
use Rattle.session.proofs.Runs.{run_grows}
use Rattle.sheet.specs.declared.lines.Values.{Values}
use Rattle.sheet.specs.declared.replies.Reply.{Reply}
use Rattle.replay.specs.Numbers.{SheetNumbers}
use Rattle.replay.specs.Stages.{Stage, LineDoes, malformed, no_store, not_opened, opens, begins, turns, setting_at, goes_on_to, RunsUnderLaw, RunsUnderLawIfAny, StartsAt}
use Rattle.replay.specs.Turns.{Turned, once, again, next_turn}

-- a stride's dues are below its span
strides_below : DuesBelowSpan (meaning_of (stride.ghosts))
strides_below o p n is number =
    dues_below (λ q. q) o.round.size o.stride o.round.size_fits.low o.fits.low o.fits.apart (λ i h. (i, h, refl)) (λ i h. h) (place_of o.round.places p) n (o.round.placed p is) number

-- turns one after another carry a run on
turns_grow : {D W A B : Type 0} (X : Setting D W A B) (p : ℕ) {F G H : System D W A B} {es more : Log X} {k : ℕ} {o : Outcome D W} → Run X F es G → Turned X p G k more o H → Run X F (es ++ more) H
turns_grow X p {F} {H = H} {es = es} {more = more} r (once m e) = subst (λ l. Run X F (es ++ l) H) (sym e) (run_grows r m)
turns_grow X p {F} {H = H} {es = es} {more = more} r (again {es = earlier} {o = o} {G = G} t m e) =
    let l = (next_turn X p G, o) ∷ [] in
    subst (λ x. Run X F (es ++ x) H) (sym e) (subst (λ x. Run X F x H) (append_assoc es earlier l) (run_grows (turns_grow X p r t) m))

module _ {K D W : Type 0} (kind : KindMeaning K D W) (sheet : SheetNumbers D W) where
  of_run : (b : Stage D W) → StartsAt kind sheet b.opening b.first → Run (setting_at kind sheet b.opening) b.first b.log b.now → RunsUnderLaw kind sheet b
  of_run b starts run =
      let f = starts.opened in
      record {
        starts = starts;
        run = run;
        law = subst (λ F. LawAtEachMoment (setting_at kind sheet b.opening) F b.log b.now) (sym starts.is) (law_after b.opening.nodes b.opening.parties f.node_order f.party_order starts.session f.new strides_below strides_below);
      }

  pub still_a_run : (before after : Option (Stage D W)) {n : ℕ} {values : Option Values} {reply : Reply} → RunsUnderLawIfAny kind sheet before → LineDoes kind sheet before n values after reply → RunsUnderLawIfAny kind sheet after
  still_a_run before after h (malformed a e r) = subst (RunsUnderLawIfAny kind sheet) (sym e) h
  still_a_run before after h (no_store a i b e r) = subst (RunsUnderLawIfAny kind sheet) (sym e) tt
  still_a_run before after h (not_opened a f e r) = subst (RunsUnderLawIfAny kind sheet) (sym e) h
  still_a_run before after h (opens {o} {F} a s e r) = subst (RunsUnderLawIfAny kind sheet) (sym e) (of_run (record { opening = o; first = F; log = []; now = F }) s still)
  still_a_run before after h (begins {b = b} {G = G} a e m f r) =
      let u : RunsUnderLaw kind sheet b = subst (RunsUnderLawIfAny kind sheet) e h in
      subst (RunsUnderLawIfAny kind sheet) (sym f) (of_run (goes_on_to kind sheet b _ G) u.starts (run_grows u.run m))
  still_a_run before after h (turns {b = b} {p = p} {es = es} {G = G} a e t f r) =
      let u : RunsUnderLaw kind sheet b = subst (RunsUnderLawIfAny kind sheet) e h in
      subst (RunsUnderLawIfAny kind sheet) (sym f) (of_run (goes_on_to kind sheet b es G) u.starts (turns_grow (setting_at kind sheet b.opening) p u.run t.turned))
