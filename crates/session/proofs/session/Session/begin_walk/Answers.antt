use Rattle.std.proofs.Common.{◌≡◌, ◌∙◌, ◌<◌, Err, length, get_or, refl, sym, ap, rules, arith}
use Rattle.std.specs.Prelude.{vec_items}
use Rattle.std.proofs.lemmas.List.{with_items_is}
use Rattle.std.proofs.lemmas.Result.{err_from_is_err_and}
use Rattle.refusals.specs.declared.Refusal.TheVariants.{NoSuchParty}
use Rattle.model.specs.declared.calls.Asked.TheVariants.{AsksWalk}
use Rattle.model.specs.declared.calls.Event.TheVariants.{Begins}
use Rattle.model.specs.Runs.{begin_refused}
use Rattle.model.specs.Steps.{between}
use Rattle.store.specs.Shown.{shown}
use Rattle.store.proofs.Moving.{no_party_fault}
use Rattle.session.specs.Lent.{CommandOnWalkLists, nothing_noted}
use Rattle.session.proofs.Sessions.{changes_own, own_worths, rewritten, still_noted}
use Rattle.session.proofs.session.Session.begin_walk.Goals as goal

pub returns-in_err-place : goal.returns-in_err-place
returns-in_err-place g c =
    let s = c.args.self.now in
    let none = ap (λ n. between 1 n c.args.party) (sym (c.len.ensures ∙ s.all_parties)) ∙ c.in_err-place.ensures.0 in
    let told = err_from_is_err_and c.from_residual.result c.from_residual.ensures.1 in
    record {
      moves = begin_refused NoSuchParty (no_party_fault g.K.Kind.suits s.store.cells c.args.party (AsksWalk c.args.walk) c.args.lengths none) (told.1 ∙ ap Err (told.2 ∙ c.in_err-place.ensures.1)) refl;
      worths_stay = λ e q. refl;
      sizes = record { parties = refl; nodes = refl };
    }

pub invariant_of-self-2 : goal.invariant_of-self-2
invariant_of-self-2 g c =
    let s = c.args.self.now in
    let z = (c.begin_walk.ensures.on_store (λ q. nothing_noted g.K.Kind)).sizes in
    let place = c.in_ok-place.ensures in
    let low : c.in_ok-place.place < length (vec_items s.walks) = search rules in
    let is : c.index_mut-own.result.now ≡ get_or (vec_items s.walks) c.in_ok-place.place c.index_mut-own.result.now = search rules in
    record {
      all_nodes = s.all_nodes ∙ sym z.nodes;
      all_parties = s.all_parties ∙ sym z.parties;
      noted = still_noted z.nodes (vec_items s.walks) c.in_ok-place.place c.index_mut-own.result.now c.begin_walk.new.marks c.begin_walk.new.worths is low s.noted;
    }

pub returns : goal.returns
returns g c =
    let s = c.args.self.now in
    let own = c.index_mut-own.result.now in
    let place = c.in_ok-place.ensures in
    let low : c.in_ok-place.place < length (vec_items s.walks) = search rules in
    let is : c.index_mut-own.result.now ≡ get_or (vec_items s.walks) c.in_ok-place.place c.index_mut-own.result.now = search rules in
    let after = rewritten own c.begin_walk.new.marks c.begin_walk.new.worths in
    let before = shown s.store (vec_items s.entries) in
    let there = shown c.begin_walk.new.store (vec_items s.entries) in
    let es = sym c.deref.ensures.value in
    let ms = sym c.deref_mut.ensures.value in
    let ws = sym c.deref_mut-2.ensures.value in
    let ms' = with_items_is own.marks c.begin_walk.new.marks (search rules) in
    let ws' = with_items_is own.worths c.begin_walk.new.worths (search rules) in
    let h : CommandOnWalkLists g.K.Kind g.U.Order g.V.Order c.args.party (Begins c.args.party (AsksWalk c.args.walk) c.args.lengths) c.begin_walk.result before there (vec_items own.marks) (vec_items after.marks) (vec_items own.worths) (vec_items after.worths) =
    rw (ms', ws', es, ms, ws) c.begin_walk.ensures in
    record {
      moves = changes_own g.K.Kind g.U.Order g.V.Order before there (vec_items s.walks) c.args.party c.in_ok-place.place own after place.0 (omega arith) place.2 is h;
      worths_stay = λ e q. own_worths g.K.Kind g.U.Order g.V.Order before there (vec_items s.walks) c.args.party c.in_ok-place.place own after place.0 (omega arith) place.2 is (h.worths_stay e) (h.on_store (λ q. nothing_noted g.K.Kind)).sizes q;
      sizes = (h.on_store (λ q. nothing_noted g.K.Kind)).sizes;
    }
