-- A new store and a new plain store are an opened pair.
use Rattle.std.proofs.Common.{◌≡◌, ℕ, cond, sym, ap, ◌∙◌, subst}
use mathlib.Core.Path.{fun_ext}
use Rattle.model.specs.State.{no_trail, new_store}
use Rattle.model.specs.Checks.{is_walking}
use Rattle.model.specs.Reach.{Reached}
use Rattle.model.specs.Setting.{Setting}
use Rattle.model.specs.Opened.{Underway}
use Rattle.model.specs.Law.{NewIsOpened}
use Rattle.model.proofs.Fitting.{new_reaches}
use Rattle.model.proofs.Kept.{new_kept}
use Rattle.model.proofs.Seekers.{new_seekers_open}

pub new_is_opened : {D W A B : Type 0} (X : Setting D W A B) → NewIsOpened X
new_is_opened {D} X F s asked n m =
    let K = new_kept X F n in
    let is : F.store ≡ new_store = n.store_is in
    let none : (k : ℕ) → Reached X.parties F.store k → ⊥ = λ k r. new_reaches D X.parties (subst (λ t. Reached X.parties t k) is r) in
    record {
      limits = n.limits;
      sound = K.sound;
      seeking = new_seekers_open X F is;
      sized = n.sized;
      agrees = record {
        slots = fun_ext (λ q. fun_ext (λ i. m.slots q i ∙ sym (ap (λ t. t.slot q i) is)));
        inboxes = fun_ext (λ q. m.inboxes q ∙ sym (ap (λ t. t.inbox q) is));
        trails = λ q. m.trails q ∙ sym (ap (λ t. cond (is_walking (t.run q)) no_trail (t.trail q)) is);
        terms = λ k r. absurd (none k r);
      };
      fits = λ k r. absurd (none k r);
      underway = λ q a b. subst (Underway X F s q (asked q)) (sym (ap (λ t. t.run q) is)) tt;
    }
