-- What a party's record holds after a step, a Begin or a walk of the party.
use Rattle.std.specs.Prelude.{◌≡◌, ℕ}
use Rattle.model.specs.Entries.{nth}
use Rattle.model.specs.Fun.{upd}
use Rattle.model.specs.State.{Trail, longer, trail_of}
use Rattle.model.specs.declared.running.Running.{Running}
use Rattle.model.specs.declared.words.Change.{Change}
use Rattle.model.specs.declared.words.Change.TheVariants.{Stays, Fills, Lengthens}
use Rattle.model.specs.declared.party.PartyRecord.{PartyRecord}

-- these slots, this trail and this running call; the inbox and the tray are shared words, and stay
pub record Holds {D : Type 0} (before after : PartyRecord D) (slots : ℕ → ℕ) (trail : Trail) (running : Running D) : Type 0 where
  pub inbox : after.inbox ≡ before.inbox
  pub tray : after.tray ≡ before.tray
  pub slots_are : nth 0 after.slots ≡ slots
  pub trail_is : trail_of after.trail ≡ trail
  pub running_is : after.running ≡ running

-- how a step changes its party's slots and trail: the model's `changed`, for one party's record
abbrev pub slots_after : (ℕ → ℕ) → Change → ℕ → ℕ
slots_after slots c = elim c [ Stays ↦ slots | Fills i v ↦ upd slots i v | Lengthens n ↦ slots ]

abbrev pub trail_after : Trail → Change → Trail
trail_after t c = elim c [ Stays ↦ t | Fills i v ↦ t | Lengthens n ↦ longer t n ]
