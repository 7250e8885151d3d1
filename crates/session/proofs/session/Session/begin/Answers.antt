use Rattle.std.proofs.Common.{◌∙◌, ℕ, sym, subst}
use Rattle.std.specs.Prelude.{All, vec_items}
use Rattle.model.specs.declared.calls.Asked.TheVariants.{AsksCall}
use Rattle.model.specs.declared.calls.Event.TheVariants.{Begins}
use Rattle.model.specs.Walks.{Notes}
use Rattle.store.specs.Shown.{shown}
use Rattle.session.specs.Lent.{CommandOnStore, nothing_noted}
use Rattle.session.specs.Lists.{AnEntryEach}
use Rattle.session.proofs.Sessions.{leaves_walks, leaves_worths}
use Rattle.session.proofs.session.Session.begin.Goals as goal

pub invariant_of-self : goal.invariant_of-self
invariant_of-self g c =
    let s = c.args.self.now in
    let z = (c.begin.ensures (λ q. nothing_noted g.K.Kind)).sizes in
    record { all_nodes = s.all_nodes ∙ sym z.nodes; all_parties = s.all_parties ∙ sym z.parties; noted = subst (λ m. All (AnEntryEach m) (vec_items s.walks)) (sym z.nodes) s.noted }

pub returns : goal.returns
returns g c =
    let s = c.args.self.now in
    let es = sym c.deref.ensures.value in
    let before = shown s.store (vec_items s.entries) in
    let after = shown c.begin.new.store (vec_items s.entries) in
    let h : (notes : ℕ → Notes g.row.K-Worth.Denot) → CommandOnStore g.K.Kind g.U.Order g.V.Order (Begins c.args.party (AsksCall c.args.call) c.args.lengths) c.begin.result before after notes notes = λ notes. rw es (c.begin.ensures notes) in
    record {
      moves = leaves_walks g.K.Kind g.U.Order g.V.Order before after (vec_items s.walks) h;
      worths_stay = λ e. leaves_worths g.K.Kind g.U.Order g.V.Order before after (vec_items s.walks) (h (λ q. nothing_noted g.K.Kind)).sizes;
      sizes = (h (λ q. nothing_noted g.K.Kind)).sizes;
    }
