-- The lines of a sheet that have been replayed so far.
use Rattle.std.proofs.Common.{◌≡◌, ℕ, suc, ◌+◌, List, [], ◌∷◌, ◌++◌, length, None, Option, refl, sym, ap, ◌∙◌, subst, arith}
use Rattle.std.specs.List.{flat_map}
use Rattle.std.proofs.lemmas.List.{append_assoc, append-nil, length-append}
use Rattle.std.proofs.lemmas.List.Concat.{flat_map-append}
use Rattle.kinds.specs.declared.kind.Kind.{Ghosts as KindMeaning}
use Rattle.orders.specs.declared.stride.Stride.{Stride}
use Rattle.orders.specs.contracts.stride.StrideOrder.TheImpl as stride
use Rattle.session.specs.declared.session.Session.{Session}
use Rattle.sheet.specs.Lines.{TextLine, lines_of, first_line, values_on}
use Rattle.sheet.specs.Replies.{reply_line}
use Rattle.sheet.specs.declared.lines.Values.{Values}
use Rattle.sheet.specs.declared.replies.Reply.{Reply}
use Rattle.replay.specs.Numbers.{SheetNumbers}
use Rattle.replay.specs.Replays.{Adds}
use Rattle.replay.specs.Stages.{Replayed, nothing, next, LineDoes, Stage, RunsUnderLawIfAny}
use Rattle.replay.specs.Standing.{IsHeld, CarriesOutLine}
use Rattle.replay.proofs.RunsOn.{still_a_run}

module _ {K D W : Type 0} (kind : KindMeaning K D W) (sheet : SheetNumbers D W) (all first_out : List ℕ) where
  pub record SoFar (rest : List ℕ) (line : ℕ) (out : List ℕ) (held : Option (Session K Stride Stride D W kind (stride.ghosts) (stride.ghosts))) : Type 0 where
    pub done : List TextLine
    pub replies : List Reply
    pub after : Option (Stage D W)
    pub replayed : Replayed kind sheet done replies after
    pub runs : RunsUnderLawIfAny kind sheet after
    pub holds : IsHeld after held
    pub split : lines_of all ≡ done ++ lines_of rest
    pub counted : line ≡ suc (length replies)
    pub written : out ≡ first_out ++ flat_map reply_line replies

  pub at_first : SoFar all 1 first_out None
  at_first = record { done = []; replies = []; after = None; replayed = nothing refl refl refl; runs = tt; holds = tt; split = refl; counted = refl; written = sym (append-nil first_out) }

  pub one_line_more : {rest rest' out out' : List ℕ} {line line' number : ℕ} {held held' : Option (Session K Stride Stride D W kind (stride.ghosts) (stride.ghosts))} {values : Option Values} {reply : Reply} → SoFar rest line out held
      → lines_of rest ≡ first_line rest ∷ lines_of rest' → values ≡ values_on (first_line rest) → number ≡ line → line' ≡ line + 1 → CarriesOutLine {kind = kind} sheet number values held held' reply → out' ≡ out ++ reply_line reply
      → SoFar rest' line' out' held'
  one_line_more {rest} {rest'} {out} {out'} {line} {line'} {number} {held} {held'} {values} {reply} s left v n c carries w =
      let x = carries s.after s.holds in
      let does : LineDoes kind sheet s.after (suc (length s.replies)) (values_on (first_line rest)) x.0 reply =
      subst (λ m. LineDoes kind sheet s.after m (values_on (first_line rest)) x.0 reply) (n ∙ s.counted) (subst (λ y. LineDoes kind sheet s.after number y x.0 reply) v x.2) in
      let runs = still_a_run kind sheet s.after x.0 s.runs does in
      record {
        done = s.done ++ first_line rest ∷ [];
        replies = s.replies ++ reply ∷ [];
        after = x.0;
        replayed = next (first_line rest) reply s.replayed refl refl does runs;
        runs = runs;
        holds = x.1;
        split = s.split ∙ ap (λ l. s.done ++ l) left ∙ sym (append_assoc s.done (first_line rest ∷ []) (lines_of rest'));
        counted = c ∙ ap (λ m. m + 1) s.counted ∙ (let e = length-append s.replies (reply ∷ []) in omega arith);
        written = w ∙ ap (λ l. l ++ reply_line reply) s.written ∙ append_assoc first_out (flat_map reply_line s.replies) (reply_line reply) ∙ ap (λ l. first_out ++ l) (sym (flat_map_more s.replies reply));
      }
    where
      flat_map_more : (rs : List Reply) (r : Reply) → flat_map reply_line (rs ++ r ∷ []) ≡ flat_map reply_line rs ++ reply_line r
      flat_map_more rs r = flat_map-append reply_line rs (r ∷ []) ∙ ap (λ l. flat_map reply_line rs ++ l) (append-nil (reply_line r))

  pub at_last : {rest out : List ℕ} {line : ℕ} {held : Option (Session K Stride Stride D W kind (stride.ghosts) (stride.ghosts))} → rest ≡ [] → SoFar rest line out held → Adds kind sheet all first_out out
  at_last {rest} {out} e s =
      let whole : s.done ≡ lines_of all = sym (append-nil s.done) ∙ ap (λ l. s.done ++ lines_of l) (sym e) ∙ sym s.split in
      record { replies = s.replies; after = s.after; replayed = subst (λ l. Replayed kind sheet l s.replies s.after) whole s.replayed; written = s.written }
