-- With nothing running, some node is free exactly when some node is out of reach.
use Rattle.std.proofs.Common.{ap}
use Rattle.model.specs.Sound.{opens}
use Rattle.model.specs.Setting.{Setting}
use Rattle.model.specs.Runs.{System}
use Rattle.model.specs.Law.{FreeWhenLost}
use Rattle.model.proofs.Kept.{Kept}
use Rattle.model.proofs.Reached.{Resting, free_from_lost, lost_from_free}

pub free_when_lost : {D W A B : Type 0} (X : Setting D W A B) (G : System D W A B) → Kept X G → FreeWhenLost X G
free_when_lost X G K rest =
    let Q : Resting X.parties G.store = record { idle_all = rest; closed_all = λ q a b. K.sound.shut q a b (ap opens (rest q a b)) } in (
      (λ f. (f.0, (f.1.0, f.1.1, lost_from_free X.parties X.nodes G.store K.sound.inv Q K.sound.ranked f.0 f.1))),
      (λ l. free_from_lost X.parties X.nodes G.store K.sound.inv Q K.sound.ranked l.0 l.1.0 l.1.1 l.1.2),
    )
