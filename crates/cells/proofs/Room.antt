-- Whether a trail has room for one node more, by its record's length.
use Rattle.std.proofs.Common.{◌≡◌, ℕ, ltb, ap}
use Rattle.orders.specs.Limits.{largest_size}
use Rattle.model.specs.declared.trail.Trail.{Trail as TrailRecord}
use Rattle.model.specs.declared.words.Change.TheVariants.{Lengthens}
use Rattle.model.specs.State.{trail_of}
use Rattle.model.proofs.TrailRecords.{length_is}
use Rattle.cells.specs.Ready.{has_room}

pub room_is : (t : TrailRecord) (n : ℕ) → has_room (trail_of t) (Lengthens n) ≡ ltb t.length largest_size
room_is t n = ap (λ l. ltb l largest_size) (length_is t.entered t.length t.nodes)
