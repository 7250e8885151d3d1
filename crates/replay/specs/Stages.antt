-- What each line of a sheet does, and what it is answered.
use Rattle.std.specs.Prelude.{◌≡◌, ℕ, ℤ, suc, pos, Bool, true, false, List, [], ◌∷◌, ◌++◌, length, Some, None, Option, Ok, Err}
use Rattle.std.specs.Option.{option_and_then}
use Rattle.refusals.specs.Numbers.{number_of}
use Rattle.refusals.specs.declared.Refusal.{Refusal}
use Rattle.kinds.specs.declared.kind.Kind.{Ghosts as KindMeaning}
use Rattle.orders.specs.declared.stride.Stride.{Stride}
use Rattle.orders.specs.contracts.stride.StrideOrder.TheImpl as stride
use Rattle.model.specs.declared.calls.Asked.{Asked}
use Rattle.model.specs.declared.calls.Event.{Event}
use Rattle.model.specs.declared.calls.Event.TheVariants.{Begins}
use Rattle.model.specs.declared.outcomes.Answer.{Answer}
use Rattle.model.specs.declared.outcomes.Answer.TheVariants.{Done, AtNode, Contents, Swept, WorthIs}
use Rattle.model.specs.declared.outcomes.Progress.TheVariants.{Begun, StillRunning, Ended}
use Rattle.model.specs.Types.{Outcome}
use Rattle.model.specs.Shown.{outcome_number}
use Rattle.model.specs.Runs.{System, Moves, Run}
use Rattle.model.specs.Setting.{Setting, setting_for}
use Rattle.store.specs.declared.errors.OpenError.TheVariants.{Refused}
use Rattle.session.specs.declared.session.Session.{Session}
use Rattle.session.specs.Performed.{LawAtEachMoment}
use Rattle.session.specs.Sessions.{system_in}
use Rattle.sheet.specs.declared.lines.Values.{Values}
use Rattle.sheet.specs.declared.replies.Reply.{Reply}
use Rattle.sheet.specs.Lines.{TextLine, values_on}
use Rattle.replay.specs.Numbers.{SheetNumbers}
use Rattle.replay.specs.declared.requests.Opening.{Opening}
use Rattle.replay.specs.declared.requests.Request.{Request}
use Rattle.replay.specs.declared.requests.Request.TheVariants.{Open, Begin, Turn}
use Rattle.replay.specs.Openings.{OpeningRefused, OpenedOnSheet}
use Rattle.replay.specs.Requests.{request_on}
use Rattle.replay.specs.Turns.{TurnsUpTo, all_entries}

-- a reply that is a code alone
abbrev pub coded : ℕ → ℕ → Reply
coded line code = record { line = line; code = code; x = pos 0; y = pos 0; z = pos 0 }

abbrev pub is_opening : {D : Type 0} → Request D → Bool
is_opening r = elim r [ Open o ↦ true | Begin p a ↦ false | Turn p k ↦ false ]

module _ {D W : Type 0} (sheet : SheetNumbers D W) where
  -- the three numbers by which an answer is told: a node, a Read's data, a Sweep's receiver, a walk's worth and size
  abbrev pub answer_numbers : Answer D W → ℤ × ℤ × ℤ
  answer_numbers answer = elim answer [
    | Done ↦ (pos 0, pos 0, pos 0)
    | AtNode n ↦ (pos n, pos 0, pos 0)
    | Contents n d kids ↦ (pos n, (sheet.data_numbers d).0, (sheet.data_numbers d).1)
    | Swept n q ↦ (pos n, pos q, pos 0)
    | WorthIs w m ↦ ((sheet.worth_numbers w).0, (sheet.worth_numbers w).1, pos m)
  ]

  abbrev pub outcome_numbers : Outcome D W → ℤ × ℤ × ℤ
  outcome_numbers o = elim o [ Err e ↦ (pos 0, pos 0, pos 0) | Ok progress ↦ elim progress [ Begun ↦ (pos 0, pos 0, pos 0) | StillRunning ↦ (pos 0, pos 0, pos 0) | Ended answer ↦ answer_numbers answer ] ]

  -- the reply that tells an outcome
  abbrev pub told : ℕ → Outcome D W → Reply
  told line o = record { line = line; code = outcome_number o; x = (outcome_numbers o).0; y = (outcome_numbers o).1; z = (outcome_numbers o).2 }

  -- what the values of a line ask for; a malformed line asks for nothing
  abbrev pub asked_on : Option Values → Option (Request D)
  asked_on values = option_and_then (request_on sheet.on_sheet) values

-- the store that stands at a line: how it was opened, as what, the commands since with their outcomes, and as what it stands
pub record Stage (D W : Type 0) : Type 0 where
  pub opening : Opening
  pub first : System D W Stride Stride
  pub log : List (Event D × Outcome D W)
  pub now : System D W Stride Stride

module _ {K D W : Type 0} (kind : KindMeaning K D W) (sheet : SheetNumbers D W) where
  abbrev pub setting_at : Opening → Setting D W Stride Stride
  setting_at o = setting_for kind (stride.ghosts) (stride.ghosts) o.parties o.nodes

  -- a new store as the line asks for it
  pub record StartsAt (o : Opening) (F : System D W Stride Stride) : Type 0 where
    pub session : Session K Stride Stride D W kind (stride.ghosts) (stride.ghosts)
    pub opened : OpenedOnSheet o session
    pub is : F ≡ system_in session

  abbrev pub goes_on_to : Stage D W → List (Event D × Outcome D W) → System D W Stride Stride → Stage D W
  goes_on_to b es G = record { opening = b.opening; first = b.first; log = b.log ++ es; now = G }

  -- line n with these values, from what stands before it to what stands after it
  pub data LineDoes (before : Option (Stage D W)) (n : ℕ) (values : Option Values) (after : Option (Stage D W)) (reply : Reply) : Type 0 where
    malformed : asked_on sheet values ≡ None → after ≡ before → reply ≡ coded n 90 → LineDoes before n values after reply
    no_store : {r : Request D} → asked_on sheet values ≡ Some r → is_opening r ≡ false → before ≡ None → after ≡ None → reply ≡ coded n 92 → LineDoes before n values after reply
    not_opened : {o : Opening} {e : Refusal} → asked_on sheet values ≡ Some (Open o) → OpeningRefused o (Refused e) → after ≡ before → reply ≡ coded n (number_of e) → LineDoes before n values after reply
    opens : {o : Opening} {F : System D W Stride Stride} → asked_on sheet values ≡ Some (Open o) → StartsAt o F → after ≡ Some (record { opening = o; first = F; log = []; now = F }) → reply ≡ coded n 0 → LineDoes before n values after reply
    begins : {b : Stage D W} {p : ℕ} {a : Asked D} {o : Outcome D W} {G : System D W Stride Stride} → asked_on sheet values ≡ Some (Begin p a) → before ≡ Some b
        → Moves (setting_at b.opening) b.now (Begins p a (all_entries b.opening.nodes)) o G
        → after ≡ Some (goes_on_to b ((Begins p a (all_entries b.opening.nodes), o) ∷ []) G) → reply ≡ told sheet n o → LineDoes before n values after reply
    turns : {b : Stage D W} {p most : ℕ} {es : List (Event D × Outcome D W)} {o : Outcome D W} {G : System D W Stride Stride} → asked_on sheet values ≡ Some (Turn p most) → before ≡ Some b
        → TurnsUpTo (setting_at b.opening) p most b.now es o G
        → after ≡ Some (goes_on_to b es G) → reply ≡ told sheet n o → LineDoes before n values after reply

  -- the commands since the store was opened are a run from it, new, and the law holds at each moment of that run
  pub record RunsUnderLaw (b : Stage D W) : Type 0 where
    pub starts : StartsAt b.opening b.first
    pub run : Run (setting_at b.opening) b.first b.log b.now
    pub law : LawAtEachMoment (setting_at b.opening) b.first b.log b.now

  abbrev pub RunsUnderLawIfAny : Option (Stage D W) → Type 0
  RunsUnderLawIfAny None = Unit {0}
  RunsUnderLawIfAny (Some b) = RunsUnderLaw b

  -- lines of a sheet from its first on, each with its reply, and what stands after the last
  pub data Replayed : List TextLine → List Reply → Option (Stage D W) → Type 0 where
    nothing : {lines : List TextLine} {replies : List Reply} {after : Option (Stage D W)} → lines ≡ [] → replies ≡ [] → after ≡ None → Replayed lines replies after
    next : {lines earlier : List TextLine} {replies before_it : List Reply} {before after : Option (Stage D W)} (line : TextLine) (reply : Reply)
        → Replayed earlier before_it before → lines ≡ earlier ++ line ∷ [] → replies ≡ before_it ++ reply ∷ []
        → LineDoes before (suc (length before_it)) (values_on line) after reply → RunsUnderLawIfAny after → Replayed lines replies after
