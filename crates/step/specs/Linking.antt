-- How a Make goes from kid to kid of its node: the model's `data_given` and `onward`, from one kid on.
use Rattle.std.specs.Prelude.{ℕ, Option, Some, None}
use Rattle.kinds.specs.declared.kids.Kid.{Kid}
use Rattle.kinds.specs.declared.kids.Kid.TheVariants.{First, Second, Third}
use Rattle.model.specs.declared.running.Plan.{Plan}
use Rattle.model.specs.declared.words.Word.{Word}
use Rattle.model.specs.declared.words.Decision.{Decision}
use Rattle.model.specs.Steps.{made, from_first, from_second, from_third}

abbrev pub next_kid : Kid → Option Kid
next_kid First = Some Second
next_kid Second = Some Third
next_kid Third = None

-- a Make goes on to the first kid, from this one on, that it is given
abbrev pub link_from : {D W : Type 0} → Plan D → ℕ → Option Kid → Word D → Decision D W
link_from plan v None w = made plan v w
link_from plan v (Some First) w = from_first plan v w
link_from plan v (Some Second) w = from_second plan v w
link_from plan v (Some Third) w = from_third plan v w
