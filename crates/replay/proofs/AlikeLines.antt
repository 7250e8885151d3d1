-- A line of a sheet, at alike stages, is answered the same and leaves alike stages.
use Rattle.std.proofs.Common.{◌≡◌, ℕ, ◌⊎◌, false, List, [], ◌∷◌, Some, None, Option, inl, inr, refl, sym, ap, ◌∙◌, subst, true≢false}
use mathlib.Core.Path.{subst₂}
use Rattle.refusals.specs.Numbers.{number_of}
use Rattle.refusals.specs.declared.Refusal.{Refusal}
use Rattle.kinds.specs.declared.kind.Kind.{Ghosts as KindMeaning}
use Rattle.orders.specs.declared.stride.Stride.{Stride}
use Rattle.orders.proofs.OnePick.{strides_leave_one_pick}
use Rattle.model.specs.declared.calls.Asked.{Asked}
use Rattle.model.specs.declared.calls.Event.{Event}
use Rattle.model.specs.declared.calls.Event.TheVariants.{Begins}
use Rattle.model.specs.Types.{Outcome}
use Rattle.model.specs.Runs.{System, Moves}
use Rattle.model.specs.Setting.{InLimits}
use Rattle.model.proofs.Alike.{Alike}
use Rattle.model.proofs.AlikeMoves.{alike_moves}
use Rattle.store.specs.declared.errors.OpenError.TheVariants.{Refused}
use Rattle.sheet.specs.declared.lines.Values.{Values}
use Rattle.sheet.specs.declared.replies.Reply.{Reply}
use Rattle.replay.specs.declared.requests.Opening.{Opening}
use Rattle.replay.specs.declared.requests.Request.{Request}
use Rattle.replay.specs.declared.requests.Request.TheVariants.{Open, Begin, Turn}
use Rattle.replay.specs.Numbers.{SheetNumbers}
use Rattle.replay.specs.Openings.{OpeningRefused}
use Rattle.replay.specs.Stages.{Stage, StartsAt, LineDoes, malformed, no_store, not_opened, opens, begins, turns, coded, told, asked_on, is_opening, setting_at, goes_on_to}
use Rattle.replay.specs.Turns.{TurnsUpTo, all_entries}
use Rattle.replay.proofs.AlikeStarts.{alike_openings}
use Rattle.replay.proofs.SeveralTurns.{alike_up_to}

same_refusal : (o : Opening) (e e' : Refusal) → OpeningRefused o (Refused e) → OpeningRefused o (Refused e') → e ≡ e'
same_refusal o e e' (inl h) (inl g) = h.0 ∙ sym g.0
same_refusal o e e' (inl h) (inr g) = absurd (h.1 g.1)
same_refusal o e e' (inr h) (inl g) = absurd (g.1 h.1)
same_refusal o e e' (inr h) (inr g) = h.0 ∙ sym g.0

module _ {K D W : Type 0} (kind : KindMeaning K D W) (sheet : SheetNumbers D W) where
  -- opened alike, within the limits, and standing alike
  pub record AlikeStages (b c : Stage D W) : Type 0 where
    pub opening : b.opening ≡ c.opening
    pub limits : InLimits b.opening.nodes b.opening.parties
    pub now : Alike (setting_at kind sheet b.opening) b.now c.now

  abbrev pub AlikeIfAny : Option (Stage D W) → Option (Stage D W) → Type 0
  AlikeIfAny None None = Unit {0}
  AlikeIfAny None (Some c) = ⊥
  AlikeIfAny (Some b) None = ⊥
  AlikeIfAny (Some b) (Some c) = AlikeStages b c

  abbrev S : Type 0
  S = Option (Stage D W)

  module _ (n : ℕ) where
    -- what a line does, by what it asks for

    record NothingStands (before after : S) (reply : Reply) : Type 0 where
      pub none_before : before ≡ None
      pub none_after : after ≡ None
      pub replies : reply ≡ coded n 92

    record KeepsOld (o : Opening) (before after : S) (reply : Reply) : Type 0 where
      pub refusal : Refusal
      pub refused : OpeningRefused o (Refused refusal)
      pub stays : after ≡ before
      pub replies : reply ≡ coded n (number_of refusal)

    record OpensNew (o : Opening) (after : S) (reply : Reply) : Type 0 where
      pub first : System D W Stride Stride
      pub starts : StartsAt kind sheet o first
      pub stands : after ≡ Some (record { opening = o; first = first; log = []; now = first })
      pub replies : reply ≡ coded n 0

    record Goes (Moves_to : Stage D W → List (Event D × Outcome D W) → Outcome D W → System D W Stride Stride → Type 0) (before after : S) (reply : Reply) : Type 0 where
      pub stage : Stage D W
      pub log : List (Event D × Outcome D W)
      pub outcome : Outcome D W
      pub end : System D W Stride Stride
      pub stood : before ≡ Some stage
      pub moves : Moves_to stage log outcome end
      pub stands : after ≡ Some (goes_on_to kind sheet stage log end)
      pub replies : reply ≡ told sheet n outcome

    abbrev begin_of : ℕ → Asked D → Stage D W → Event D
    begin_of p a b = Begins p a (all_entries b.opening.nodes)

    abbrev MovesByBegin : ℕ → Asked D → Stage D W → List (Event D × Outcome D W) → Outcome D W → System D W Stride Stride → Type 0
    MovesByBegin p a b es o G = Moves (setting_at kind sheet b.opening) b.now (begin_of p a b) o G

    abbrev MovesByTurns : ℕ → ℕ → Stage D W → List (Event D × Outcome D W) → Outcome D W → System D W Stride Stride → Type 0
    MovesByTurns p most b es o G = TurnsUpTo (setting_at kind sheet b.opening) p most b.now es o G

    abbrev Does : Option (Request D) → S → S → Reply → Type 0
    Does asks before after reply = elim asks [
      | None ↦ (after ≡ before) × (reply ≡ coded n 90)
      | Some r ↦ elim r [
        | Open o ↦ KeepsOld o before after reply ⊎ OpensNew o after reply
        | Begin p a ↦ NothingStands before after reply ⊎ Goes (MovesByBegin p a) before after reply
        | Turn p most ↦ NothingStands before after reply ⊎ Goes (MovesByTurns p most) before after reply
      ]
    ]

    without_store : (r : Request D) (before after : S) (reply : Reply) → is_opening r ≡ false → NothingStands before after reply → Does (Some r) before after reply
    without_store (Open o) before after reply i h = absurd (true≢false i)
    without_store (Begin p a) before after reply i h = inl h
    without_store (Turn p most) before after reply i h = inl h

    does : {values : Option Values} (before after : S) (reply : Reply) → LineDoes kind sheet before n values after reply → Does (asked_on sheet values) before after reply
    does before after reply (malformed a e r) = subst (λ q. Does q before after reply) (sym a) (e, r)
    does before after reply (no_store {r} a i b e t) = subst (λ q. Does q before after reply) (sym a) (without_store r before after reply i (record { none_before = b; none_after = e; replies = t }))
    does before after reply (not_opened {e = e} a f s r) = subst (λ q. Does q before after reply) (sym a) (inl (record { refusal = e; refused = f; stays = s; replies = r }))
    does before after reply (opens {F = F} a s e r) = subst (λ q. Does q before after reply) (sym a) (inr (record { first = F; starts = s; stands = e; replies = r }))
    does before after reply (begins {b = b} {p = p} {a = c} {o = o} {G = G} a e m f r) =
        subst (λ q. Does q before after reply) (sym a) (inr (record { stage = b; log = (begin_of p c b, o) ∷ []; outcome = o; end = G; stood = e; moves = m; stands = f; replies = r }))
    does before after reply (turns {b = b} {es = es} {o = o} {G = G} a e t f r) =
        subst (λ q. Does q before after reply) (sym a) (inr (record { stage = b; log = es; outcome = o; end = G; stood = e; moves = t; stands = f; replies = r }))

    abbrev Same : S → S → Reply → Reply → Type 0
    Same after after' reply reply' = (reply ≡ reply') × AlikeIfAny after after'

    module _ (before before' after after' : S) (reply reply' : Reply) (h : AlikeIfAny before before') where
      to_both : {x y : S} {r r' : Reply} → after ≡ x → after' ≡ y → reply ≡ r → reply' ≡ r' → r ≡ r' → AlikeIfAny x y → Same after after' reply reply'
      to_both e f s t m k = (s ∙ m ∙ sym t, subst₂ (λ x y. AlikeIfAny x y) (sym e) (sym f) k)

      none_stands : NothingStands before after reply → NothingStands before' after' reply' → Same after after' reply reply'
      none_stands u v = to_both u.none_after v.none_after u.replies v.replies refl tt

      none_and_some : {b : Stage D W} → before ≡ None → before' ≡ Some b → ⊥
      none_and_some {b} e f = subst₂ (λ x y. AlikeIfAny x y) e f h

      some_and_none : {b : Stage D W} → before ≡ Some b → before' ≡ None → ⊥
      some_and_none {b} e f = subst₂ (λ x y. AlikeIfAny x y) e f h

      both_go : {T : Stage D W → List (Event D × Outcome D W) → Outcome D W → System D W Stride Stride → Type 0}
          → ((b c : Stage D W) (es fs : List (Event D × Outcome D W)) (o o' : Outcome D W) (F G : System D W Stride Stride) → AlikeStages b c → T b es o F → T c fs o' G → (o ≡ o') × Alike (setting_at kind sheet b.opening) F G)
          → Goes T before after reply → Goes T before' after' reply' → Same after after' reply reply'
      both_go keeps u v =
          let k : AlikeStages u.stage v.stage = subst₂ (λ x y. AlikeIfAny x y) u.stood v.stood h in
          let m = keeps u.stage v.stage u.log v.log u.outcome v.outcome u.end v.end k u.moves v.moves in
          to_both u.stands v.stands u.replies v.replies (ap (told sheet n) m.0) (record { opening = k.opening; limits = k.limits; now = m.1 })

      both_open : (o : Opening) → OpensNew o after reply → OpensNew o after' reply' → Same after after' reply reply'
      both_open o u v =
          let s = u.starts in
          let t = v.starts in
          let now : Alike (setting_at kind sheet o) u.first v.first = subst₂ (λ F G. Alike (setting_at kind sheet o) F G) (sym s.is) (sym t.is) (alike_openings kind o s.session t.session s.opened t.opened) in
          to_both u.stands v.stands u.replies v.replies refl (record { opening = refl; limits = s.opened.new.store.limits; now = now })

      not_both : {P : Type 0} (o : Opening) (e : Refusal) {F : System D W Stride Stride} → OpeningRefused o (Refused e) → StartsAt kind sheet o F → P
      not_both o e (inl r) s = absurd (r.1 s.opened.new.store.limits)
      not_both o e (inr r) s = absurd (r.2 (record { nodes = s.opened.node_stride.made.fits; parties = s.opened.party_stride.made.fits }))

      by_request : (asks : Option (Request D)) → Does asks before after reply → Does asks before' after' reply' → Same after after' reply reply'
      by_request None u v = to_both u.0 v.0 u.1 v.1 refl h
      by_request (Some (Open o)) (inl u) (inl v) = to_both u.stays v.stays u.replies v.replies (ap (λ e. coded n (number_of e)) (same_refusal o u.refusal v.refusal u.refused v.refused)) h
      by_request (Some (Open o)) (inl u) (inr v) = not_both o u.refusal u.refused v.starts
      by_request (Some (Open o)) (inr u) (inl v) = not_both o v.refusal v.refused u.starts
      by_request (Some (Open o)) (inr u) (inr v) = both_open o u v
      by_request (Some (Begin p a)) (inl u) (inl v) = none_stands u v
      by_request (Some (Begin p a)) (inl u) (inr v) = absurd (none_and_some u.none_before v.stood)
      by_request (Some (Begin p a)) (inr u) (inl v) = absurd (some_and_none u.stood v.none_before)
      by_request (Some (Begin p a)) (inr u) (inr v) = both_go (λ b c es fs o o' F G k m m'.
          alike_moves (setting_at kind sheet b.opening) k.limits strides_leave_one_pick strides_leave_one_pick b.now c.now k.now m
          (subst (λ x. Moves (setting_at kind sheet x) c.now (Begins p a (all_entries x.nodes)) o' G) (sym k.opening) m')) u v
      by_request (Some (Turn p most)) (inl u) (inl v) = none_stands u v
      by_request (Some (Turn p most)) (inl u) (inr v) = absurd (none_and_some u.none_before v.stood)
      by_request (Some (Turn p most)) (inr u) (inl v) = absurd (some_and_none u.stood v.none_before)
      by_request (Some (Turn p most)) (inr u) (inr v) = both_go (λ b c es fs o o' F G k m m'.
          alike_up_to (setting_at kind sheet b.opening) p k.limits strides_leave_one_pick strides_leave_one_pick k.now m
          (subst (λ x. TurnsUpTo (setting_at kind sheet x) p most c.now fs o' G) (sym k.opening) m')) u v

    pub alike_lines : {values : Option Values} (before before' after after' : S) (reply reply' : Reply) → AlikeIfAny before before'
        → LineDoes kind sheet before n values after reply → LineDoes kind sheet before' n values after' reply' → Same after after' reply reply'
    alike_lines {values} before before' after after' reply reply' h l k = by_request before before' after after' reply reply' h (asked_on sheet values) (does before after reply l) (does before' after' reply' k)
