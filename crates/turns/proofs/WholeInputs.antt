-- Where more came than a sheet may have, what is left does not matter; else nothing is left.
use Rattle.std.proofs.Common.{◌≡◌, ℕ, ◌≤◌, ◌<◌, List, ◌++◌, Option, Some, None, IfSome, length, take, refl, sym, ap, subst, ◌∙◌, arith, append-nil, length-append, length-take-le, inl, inr}
use Rattle.std.proofs.lemmas.Bool.{lt-leb}
use Rattle.std.proofs.lemmas.Bool.Decides.{leb_tells}
use Rattle.std.specs.Io.KnownBytes.{Consumes, IsAtEnd}
use Rattle.sheet.specs.Headings.{heading_of, most_bytes}
use Rattle.replay.specs.Replays.{Replays}

too_long : (sheet : List ℕ) → most_bytes < length sheet → heading_of sheet ≡ None
too_long sheet long = rw (lt-leb (length sheet) most_bytes long) refl

-- any two sheets that are too long have the same replies
all_too_long : (sheet other out : List ℕ) → most_bytes < length sheet → most_bytes < length other → Replays sheet out → Replays other out
all_too_long sheet other out long long' replays = rw (too_long other long', Replays) (rw (too_long sheet long, Replays) at replays)

pub of_whole_input : (had left : Option (List ℕ)) (buffer out : List ℕ) (n : ℕ) → most_bytes < length buffer → n ≤ length buffer
    → Consumes had left (take n buffer) → (n < length buffer → IsAtEnd left) → Replays (take n buffer) out → IfSome had (λ sheet. Replays sheet out)
of_whole_input None left buffer out n room within came end replays = tt
of_whole_input (Some sheet) None buffer out n room within came end replays = absurd came
of_whole_input (Some sheet) (Some rest) buffer out n room within came end replays =
    let long = length-take-le n buffer within in
    let both = ap length came ∙ length-append (take n buffer) rest in
    elim (leb_tells (length buffer) n) [
      | inl full ↦ all_too_long (take n buffer) sheet out (omega (arith, full.1)) (omega (arith, full.1)) replays
      | inr short ↦ subst (λ s. Replays s out) (sym (came ∙ ap (λ l. take n buffer ++ l) (end short.1) ∙ append-nil (take n buffer))) replays
    ]
