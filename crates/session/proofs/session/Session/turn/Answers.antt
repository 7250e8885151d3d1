use Rattle.std.proofs.Common.{◌∙◌, ℕ, sym, subst, rules}
use Rattle.std.specs.Prelude.{All, vec_items}
use Rattle.std.specs.Vec.{with_items}
use Rattle.std.proofs.lemmas.List.{with_items_is}
use Rattle.std.proofs.lemmas.Bool.{true≢false}
use Rattle.model.specs.declared.calls.Event.TheVariants.{Turns}
use Rattle.model.specs.Walks.{Notes}
use Rattle.store.specs.Shown.{shown}
use Rattle.session.specs.Lent.{CommandOnStore, nothing_noted}
use Rattle.session.specs.Lists.{AnEntryEach}
use Rattle.session.proofs.Sessions.{leaves_walks}
use Rattle.session.proofs.session.Session.turn.Goals as goal

pub invariant_of-self : goal.invariant_of-self
invariant_of-self g c =
    let s = c.args.self.now in
    let z = (c.turn.ensures (λ q. nothing_noted g.K.Kind)).sizes in
    record { all_nodes = s.all_nodes ∙ sym z.nodes; all_parties = s.all_parties ∙ sym z.parties; noted = subst (λ m. All (AnEntryEach m) (vec_items s.walks)) (sym z.nodes) s.noted }

pub returns : goal.returns
returns g c =
    let s = c.args.self.now in
    let es = sym c.deref_mut.ensures.value in
    let es' = with_items_is s.entries c.turn.new.data (search rules) in
    let before = shown s.store (vec_items s.entries) in
    let after = shown c.turn.new.store (vec_items (with_items s.entries c.turn.new.data)) in
    let h : (notes : ℕ → Notes g.row.K-Worth.Denot) → CommandOnStore g.K.Kind g.U.Order g.V.Order (Turns c.args.party c.args.lengths) c.turn.result before after notes notes = λ notes. rw (es', es) (c.turn.ensures notes) in
    record {
      moves = leaves_walks g.K.Kind g.U.Order g.V.Order before after (vec_items s.walks) h;
      worths_stay = λ e. absurd (true≢false (sym e));
      sizes = (h (λ q. nothing_noted g.K.Kind)).sizes;
    }
