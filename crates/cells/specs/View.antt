-- The lists of node words and party records as the model's store.
use Rattle.std.specs.Prelude.{◌≡◌, ℕ, cond, vec_items, vec_len}
use Rattle.model.specs.Entries.{nth}
use Rattle.model.specs.Party.{new_record}
use Rattle.model.specs.State.{Store, empty_kids, trail_of}
use Rattle.model.specs.Steps.{between}
use Rattle.model.specs.declared.party.PartyRecord.{PartyRecord}
use Rattle.cells.specs.declared.records.NodeWords.{NodeWords}
use Rattle.cells.specs.declared.records.Cells.{Cells}

-- what a node of a new store holds
abbrev pub new_words : NodeWords
new_words = record { count = 0; lock = 0; kids = empty_kids }

-- the store whose node n has the words f n, and whose party q the record g q
abbrev pub seen : {D : Type 0} → (ℕ → NodeWords) → (ℕ → PartyRecord D) → Store D
seen f g = record {
  count = λ n. (f n).count;
  lock = λ n. (f n).lock;
  kids = λ n. (f n).kids;
  inbox = λ q. (g q).inbox;
  tray = λ q. (g q).tray;
  slot = λ q. nth 0 (g q).slots;
  trail = λ q. trail_of (g q).trail;
  run = λ q. (g q).running;
}

abbrev pub words_of : {D : Type 0} → Cells D → ℕ → NodeWords
words_of c = nth new_words (vec_items c.nodes)

abbrev pub record_of : {D : Type 0} → Cells D → ℕ → PartyRecord D
record_of c = nth new_record (vec_items c.table.records)

abbrev pub view_of : {D : Type 0} → Cells D → Store D
view_of c = seen (words_of c) (record_of c)

-- how many parties and nodes there are
abbrev pub parties_of : {D : Type 0} → Cells D → ℕ
parties_of c = vec_len c.table.records

abbrev pub nodes_of : {D : Type 0} → Cells D → ℕ
nodes_of c = vec_len c.nodes

-- as many parties and nodes as before
pub record SameSizes {D : Type 0} (before after : Cells D) : Type 0 where
  pub parties : parties_of after ≡ parties_of before
  pub nodes : nodes_of after ≡ nodes_of before

-- as many parties and nodes as before, which hold what the store says
pub record Becomes {D : Type 0} (before after : Cells D) (s : Store D) : Type 0 where
  pub view : view_of after ≡ s
  pub sizes : SameSizes before after

-- the store's successor where there is such a party, and else the store
abbrev pub BecomesIfParty : {D : Type 0} → Cells D → Cells D → ℕ → (Store D → Store D) → Type 0
BecomesIfParty before after p f = Becomes before after (cond (between 1 (parties_of before) p) (f (view_of before)) (view_of before))
