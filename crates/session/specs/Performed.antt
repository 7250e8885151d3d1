-- A new session, and what a list of commands makes of it.
use Rattle.std.specs.Prelude.{◌≡◌, ℕ, false, List, [], ◌∷◌, ◌++◌, length, replicate, zip, All, vec_items}
use Rattle.kinds.specs.declared.kind.Kind.{Ghosts as KindMeaning}
use Rattle.orders.specs.declared.order.Order.{Ghosts as OrderMeaning}
use Rattle.model.specs.declared.calls.Event.{Event}
use Rattle.model.specs.Types.{Outcome}
use Rattle.model.specs.Setting.{Setting, setting_for}
use Rattle.model.specs.Plain.{Plain, NewPlain, Ask}
use Rattle.model.specs.Runs.{System, Log, Run}
use Rattle.model.specs.Existing.{CanExist}
use Rattle.model.specs.Law.{HoldsAfter}
use Rattle.store.specs.Given.{zero_data}
use Rattle.store.specs.Opening.{Opens}
use Rattle.session.specs.declared.session.Session.{Session}
use Rattle.session.specs.declared.lists.WalkLists.{WalkLists}
use Rattle.session.specs.Sessions.{CommandOnSession, system_in}

-- at each moment of a run of this log from F to H, the law holds of what has been run until then, beside any new plain store
abbrev pub LawAtEachMoment : {D W A B : Type 0} (X : Setting D W A B) → System D W A B → Log X → System D W A B → Type 0
LawAtEachMoment {D} {W} {A} {B} X F log H = (p : Plain D) (asked : ℕ → Ask D) → NewPlain p → (es later : Log X) (G : System D W A B) → log ≡ es ++ later → Run X F es G → Run X G later H → HoldsAfter X p asked es G

-- M marks, none set, and M worths, each the blank
pub record Unnoted {W : Type 0} (blank : W) (M : ℕ) (l : WalkLists W) : Type 0 where
  pub marks : vec_items l.marks ≡ replicate M false
  pub worths : vec_items l.worths ≡ replicate M blank

module _ {K A B D W : Type 0} {kind : KindMeaning K D W} {node_order : OrderMeaning A} {party_order : OrderMeaning B} where
  -- a new store; data of all zero bytes for each node; nothing noted for any party
  pub record NewSession (M N : ℕ) (nodes : A) (parties : B) (s : Session K A B D W kind node_order party_order) : Type 0 where
    pub store : Opens node_order.numbers party_order.numbers M N nodes parties s.store.cells s.store.node_order s.store.party_order
    pub entries : vec_items s.entries ≡ replicate M (zero_data kind)
    pub walks : All (Unnoted kind.none M) (vec_items s.walks)

  -- the commands carried out one after another, each with its outcome
  pub data CarriedOut (before : Session K A B D W kind node_order party_order) : List (Event D) → List (Outcome D W) → Session K A B D W kind node_order party_order → Type 0 where
    none_yet : {commands : List (Event D)} {outcomes : List (Outcome D W)} → commands ≡ [] → outcomes ≡ [] → CarriedOut before commands outcomes before
    one_more : {earlier commands : List (Event D)} {told outcomes : List (Outcome D W)} {between after : Session K A B D W kind node_order party_order} (c : Event D) (o : Outcome D W)
        → CarriedOut before earlier told between → CommandOnSession c o between after → commands ≡ earlier ++ c ∷ [] → outcomes ≡ told ++ o ∷ [] → CarriedOut before commands outcomes after

  -- the commands, in their order, are carried out on a new session, with these outcomes; so they are a run of the model, and at
  -- each moment of it the law holds
  pub record Performs (M N : ℕ) (nodes : A) (parties : B) (commands : List (Event D)) (outcomes : List (Outcome D W)) (s : Session K A B D W kind node_order party_order) : Type 0 where
    pub first : Session K A B D W kind node_order party_order
    pub new : NewSession M N nodes parties first
    pub carried_out : CarriedOut first commands outcomes s
    pub each_answered : length outcomes ≡ length commands
    pub run : Run (setting_for kind node_order party_order N M) (system_in first) (zip commands outcomes) (system_in s)
    pub law : LawAtEachMoment (setting_for kind node_order party_order N M) (system_in first) (zip commands outcomes) (system_in s)
    pub can_exist : CanExist (setting_for kind node_order party_order N M) (system_in s)
