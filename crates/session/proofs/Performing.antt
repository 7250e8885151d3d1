-- A run from a new session keeps the law.
use Rattle.std.proofs.Common.{ℕ, ◌∙◌, ap, subst}
use Rattle.kinds.specs.declared.kind.Kind.{Ghosts as KindMeaning}
use Rattle.orders.specs.declared.order.Order.{Ghosts as OrderMeaning}
use Rattle.model.specs.Runs.{Log, Run, System}
use Rattle.model.specs.Opened.{New}
use Rattle.model.specs.Setting.{Setting, setting_for, meaning_of}
use Rattle.model.proofs.MakesEnd.{DuesBelowSpan}
use Rattle.model.proofs.StoreLaw.{store_law}
use Rattle.session.specs.declared.session.Session.{Session}
use Rattle.session.specs.Performed.{LawAtEachMoment, NewSession}
use Rattle.session.specs.Sessions.{system_in, setting_of}

module _ {K A B D W : Type 0} {kind : KindMeaning K D W} {node_order : OrderMeaning A} {party_order : OrderMeaning B} (M N : ℕ) (nodes : A) (parties : B)
    (s : Session K A B D W kind node_order party_order) (h : NewSession M N nodes parties s) where
  abbrev X : Setting D W A B
  X = setting_for kind node_order party_order N M

  pub starts_new : New X (system_in s)
  starts_new =
      let o = h.store in
      record {
        limits = o.limits;
        store_is = o.new;
        sized = record { nodes = ap node_order.numbers o.same_node_order ∙ o.sized.for_nodes; parties = ap party_order.numbers o.same_party_order ∙ o.sized.for_parties };
      }

  pub law_after : DuesBelowSpan (meaning_of node_order) → DuesBelowSpan (meaning_of party_order) → {log : Log X} {H : System D W A B} → LawAtEachMoment X (system_in s) log H
  law_after low_nodes low_parties {log} {H} p asked n es later G e r rest =
      let law = store_law X low_nodes low_parties in
      law.0 (system_in s) p asked (law.1 (system_in s) p asked starts_new n) es G r

  -- the run is one of a store of these sizes
  pub of_sizes : {es : Log X} {G : System D W A B} → Run (setting_of s) (system_in s) es G → Run X (system_in s) es G
  of_sizes {es} {G} r =
      subst (λ n. Run (setting_for kind node_order party_order n M) (system_in s) es G) h.store.all_parties
      (subst (λ m. Run (setting_for kind node_order party_order (setting_of s).parties m) (system_in s) es G) h.store.all_nodes r)
