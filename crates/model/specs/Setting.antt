-- What a store is for: a kind of data, two search orders, and how many parties and nodes.
use Rattle.std.specs.Prelude.{ℕ, ◌≤◌, Bool}
use Rattle.kinds.specs.declared.kids.PerKid.{PerKid}
use Rattle.kinds.specs.declared.kind.Kind.{Ghosts as KindMeaning}
use Rattle.orders.specs.declared.order.Order.{Ghosts as OrderMeaning}
use Rattle.orders.specs.Limits.{last_party, largest_size}
use Rattle.model.specs.Types.{Situation}

-- what an order means
pub record Meaning (O : Type 0) : Type 0 where
  pub numbers : O → ℕ
  pub horizon : O → ℕ
  pub due : O → ℕ → ℕ → ℕ

-- D is the kind's data and W its worths; A are node orders, B party orders
pub record Setting (D W A B : Type 0) : Type 0 where
  pub suits : D → PerKid Bool → Bool
  pub worth : D → Situation → W → W → W → W
  pub blank : W
  pub node_order : Meaning A
  pub party_order : Meaning B
  pub parties : ℕ
  pub nodes : ℕ

-- 1 to 255 nodes and 1 to 15 parties
pub record InLimits (nodes parties : ℕ) : Type 0 where
  pub some_node : 1 ≤ nodes
  pub few_nodes : nodes ≤ largest_size
  pub some_party : 1 ≤ parties
  pub few_parties : parties ≤ last_party

-- a search order by its meaning
abbrev pub meaning_of : {O : Type 0} → OrderMeaning O → Meaning O
meaning_of o = record { numbers = o.numbers; horizon = o.horizon; due = o.due }

-- a store of N parties and M nodes, for a kind of data and two search orders
abbrev pub setting_for : {K D W A B : Type 0} → KindMeaning K D W → OrderMeaning A → OrderMeaning B → ℕ → ℕ → Setting D W A B
setting_for kind node_order party_order N M = record {
  suits = kind.suits;
  worth = kind.worth;
  blank = kind.none;
  node_order = meaning_of node_order;
  party_order = meaning_of party_order;
  parties = N;
  nodes = M;
}
