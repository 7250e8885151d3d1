-- What a change of the program's store keeps; and that a running call's step is always taken.
use Rattle.std.proofs.Common.{◌≡◌, ℕ, ◌≤◌, true, false, Some, None, Option, sym, refl, ◌∙◌, subst}
use mathlib.Core.Logic.{∥∥₁_map}
use Rattle.std.specs.Option.{IsSome}
use Rattle.std.proofs.lemmas.Bool.{cond-true}
use Rattle.kinds.specs.declared.kind.Kind.{Ghosts as KindMeaning}
use Rattle.orders.specs.Limits.{last_party, largest_size}
use Rattle.orders.specs.declared.order.Order.{Ghosts as OrderMeaning}
use Rattle.model.specs.declared.words.Told.{Told}
use Rattle.model.specs.Checks.{is_idle}
use Rattle.model.specs.Sound.{Sound}
use Rattle.model.specs.State.{Store as State}
use Rattle.model.specs.Steps.{decision, stepped, data_after}
use Rattle.cells.specs.declared.records.Cells.{Cells}
use Rattle.cells.specs.Ready.{ready, StepsIfReady}
use Rattle.cells.specs.View.{SameSizes, view_of, parties_of, nodes_of}
use Rattle.store.specs.declared.store.Store.{Store}
use Rattle.store.proofs.Readiness.{ready_when_sound}

-- what a store's type says of its cells
abbrev pub StoreFacts : {D : Type 0} → Cells D → Type 0
StoreFacts c = record {
  parties : (1 ≤ parties_of c) × (parties_of c ≤ last_party);
  nodes : (1 ≤ nodes_of c) × (nodes_of c ≤ largest_size);
  sound : ∥ Sound (parties_of c) (nodes_of c) (view_of c) ∥₁;
}

same_sound : {D : Type 0} (N N' M M' : ℕ) (s t : State D) → N' ≡ N → M' ≡ M → t ≡ s → Sound N M s → Sound N' M' t
same_sound N N' M M' s t n m e S = rw (n, m, e) S

pub sizes_twice : {D : Type 0} {a b c : Cells D} → SameSizes a b → SameSizes b c → SameSizes a c
sizes_twice h k = record { parties = k.parties ∙ h.parties; nodes = k.nodes ∙ h.nodes }

-- a change of the program's store
module _ {K A B D W : Type 0} {kind : KindMeaning K D W} {node_order : OrderMeaning A} {party_order : OrderMeaning B} (store : Store K A B D W kind node_order party_order) where
  abbrev N : ℕ
  N = parties_of store.cells

  abbrev M : ℕ
  M = nodes_of store.cells

  abbrev s : State D
  s = view_of store.cells

  -- one that keeps its sizes and its soundness keeps what its type says
  pub still_a_store : {c : Cells D} {t : State D} → SameSizes store.cells c → view_of c ≡ t → (Sound N M s → Sound N M t) → StoreFacts c
  still_a_store {c} {t} z e kept = record {
    parties = subst (λ n. (1 ≤ n) × (n ≤ last_party)) (sym z.parties) store.parties;
    nodes = subst (λ n. (1 ≤ n) × (n ≤ largest_size)) (sym z.nodes) store.nodes;
    sound = ∥∥₁_map store.sound (λ S. same_sound N (parties_of c) M (nodes_of c) t (view_of c) z.parties z.nodes e (kept S));
  }

  -- a step that is taken: what it decides is told, and the store and the data are as it makes them
  pub record IsTaken (t : State D) (info later : ℕ → D) (p x : ℕ) (r : Option (Told D W)) : Type 0 where
    pub store_is : t ≡ stepped N M s info p x (decision {W = W} N M s info p x)
    pub info_is : later ≡ data_after N M s info p x (decision {W = W} N M s info p x)
    pub told : r ≡ Some (decision {W = W} N M s info p x).told

  pub is_taken : {p entries x : ℕ} {t : State D} {info later : ℕ → D} {r : Option (Told D W)} → (1 ≤ p) × (p ≤ N) → is_idle (s.run p) ≡ false → M ≤ entries
      → StepsIfReady {W = W} N M entries s t info later p x r → IsTaken t info later p x r
  is_taken {p} {entries} {x} {t} {info} {later} {r} party runs long h =
      let d = decision {W = W} N M s info p x in
      let all : ready N M entries s info p x d ≡ true = ready_when_sound W N M s store.sound p party.0 party.1 store.parties.1 store.nodes.1 entries long info x runs in
      record {
        store_is = h.store_is ∙ cond-true (ready N M entries s info p x d) (stepped N M s info p x d) s all;
        info_is = h.info_is ∙ cond-true (ready N M entries s info p x d) (data_after N M s info p x d) info all;
        told = h.told ∙ cond-true (ready N M entries s info p x d) (Some d.told) None all;
      }

-- so something is told
pub some_told : {T : Type 0} (r : Option T) (x : T) → r ≡ Some x → IsSome r
some_told r x e = subst IsSome (sym e) refl
