use Rattle.std.proofs.Common.{◌≡◌, ◌∙◌, ℕ, List, take, subst, rules}
use Rattle.std.proofs.lemmas.List.{take_at}
use Rattle.replay.specs.Replays.{Replays}
use Rattle.turns.proofs.WholeInputs.{of_whole_input}
use Rattle.turns.proofs.answering.replies_to.Goals as goal

pub returns : goal.returns
returns g c =
    let came = c.in_ok-length.ensures in
    let out = c.in_ok-replies.replies.bytes.items in
    let bytes : c.deref.result.now ≡ c.fill.new.buffer = c.deref.ensures.value ∙ take_at _ _ _ (came.len ∙ c.deref_mut.ensures.len) in
    let replies = subst (λ (buffer : List ℕ). Replays (take c.in_ok-length.length buffer) out) bytes c.in_ok-replies.ensures in
    of_whole_input _ _ c.fill.new.buffer out c.in_ok-length.length (search rules) came.within came.bytes came.end replies
