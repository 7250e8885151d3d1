-- A buffer that is filled from its front, one part behind another.
use Rattle.std.proofs.Common.{◌≡◌, ℕ, ◌+◌, ◌-◌, ◌≤◌, List, ◌++◌, Option, length, take, drop, sym, ap, subst, ◌∙◌, length-take-le}
use Rattle.std.proofs.lemmas.List.{take-append-le}
use Rattle.std.proofs.KnownBytes.{Consumes-trans}
use Rattle.std.proofs.Math.Seq.{take-append-add}
use Rattle.std.specs.Io.KnownBytes.{Consumes}
use borrow.Rule.Slice.PartMut.{put_mid}

-- what counts of a part that is written behind the filled front stands behind it
filled_further : (filled count : ℕ) (buffer part : List ℕ) → filled ≤ length buffer → count ≤ length part
    → take (filled + count) (put_mid filled (length buffer - filled) buffer part) ≡ take filled buffer ++ take count part
filled_further filled count buffer part within few =
    let front = take filled buffer in
    let behind = part ++ drop (length buffer - filled) (drop filled buffer) in
    ap (λ n. take (n + count) (front ++ behind)) (sym (length-take-le filled buffer within))
    ∙ take-append-add front behind count
    ∙ ap (λ l. front ++ l) (take-append-le count part _ few)

-- so it is what came before and what came now
pub came_further : (a b c : Option (List ℕ)) (filled count : ℕ) (buffer part : List ℕ) → filled ≤ length buffer → count ≤ length part
    → Consumes a b (take filled buffer) → Consumes b c (take count part) → Consumes a c (take (filled + count) (put_mid filled (length buffer - filled) buffer part))
came_further a b c filled count buffer part within few before now =
    subst (Consumes a c) (sym (filled_further filled count buffer part within few)) (Consumes-trans a b c _ _ before now)
