use Rattle.std.proofs.Common.{◌≡◌, ℕ, None, Err, sym, refl, ap, ◌∙◌, arith}
use Rattle.std.proofs.lemmas.Option.{MatchOption-at_none, MatchOption-at_some}
use Rattle.std.proofs.lemmas.Result.{err_from_is_err_and}
use Rattle.refusals.specs.declared.Refusal.TheVariants.{NoSuchParty}
use Rattle.model.specs.declared.calls.Asked.TheVariants.{AsksWalk}
use Rattle.model.specs.Entries.{nth}
use Rattle.model.proofs.Begins.{sound_started_walk}
use Rattle.cells.specs.View.{nodes_of}
use Rattle.checks.specs.Faults.{begin_fault_of}
use Rattle.walks.specs.Notes.{marks_of}
use Rattle.store.specs.Moved.{noted_on, walk_lengths}
use Rattle.store.specs.Shown.{shown}
use Rattle.store.proofs.Accepted.{still_a_store}
use Rattle.store.proofs.Moving.{fault_of, no_party_fault, fault_is, starts, refused_walk, walk_begins}
use Rattle.store.proofs.store.Store.begin_walk.Given.{Over}
use Rattle.store.proofs.store.Store.begin_walk.Goals.{In_ok-record}
use Rattle.store.proofs.store.Store.begin_walk.Goals as goal

-- the Begin's fault is the one that the checks tell
fault : (g : Over) (c : In_ok-record g) → fault_of g.K.Kind.suits c.args.self.now.cells c.args.party (AsksWalk c.args.walk) (walk_lengths g.K.Kind g.U.Order g.V.Order (shown c.args.self.now c.args.data.now) c.args.notes.now)
    ≡ begin_fault_of g.K.Kind.suits c.sizes-sizes.result c.args.party (AsksWalk c.args.walk) c.lengths_of-lengths.result c.in_ok-record.record.now
fault g c =
    let own = MatchOption-at_some _ _ c.in_ok-record.record c.in_ok-record.ensures.ok_part c.record.ensures in
    fault_is g.K.Kind.suits c.args.self.now.cells c.args.party (AsksWalk c.args.walk) c.lengths_of-lengths.ensures c.sizes-sizes.ensures own.1

pub returns-in_err-record-clause-begins : goal.returns-in_err-record-clause-begins
returns-in_err-record-clause-begins g c =
    let none : c.record.result ≡ None = grind arith in
    let e = err_from_is_err_and c.from_residual.result c.from_residual.ensures.1 in
    let told : c.from_residual.result ≡ Err NoSuchParty = grind arith in
    refused_walk g.K.Kind g.U.Order g.V.Order c.args.party c.args.walk (shown c.args.self.now c.args.data.now) c.args.notes.now NoSuchParty
    (no_party_fault g.K.Kind.suits c.args.self.now.cells c.args.party (AsksWalk c.args.walk) _ (MatchOption-at_none _ _ none c.record.ensures)) told

pub returns-in_err-situation-clause-begins : goal.returns-in_err-situation-clause-begins
returns-in_err-situation-clause-begins g c =
    let told = err_from_is_err_and c.from_residual-in_err-situation.result c.from_residual-in_err-situation.ensures.1 in
    refused_walk g.K.Kind g.U.Order g.V.Order c.args.party c.args.walk (shown c.args.self.now c.args.data.now) c.args.notes.now c.in_err-situation.field-0.0
    (fault g (goal.at.returns-in_err-situation-clause-begins g c).In_ok-record ∙ c.in_err-situation.ensures.fault) (told.1 ∙ ap Err told.2)

pub invariant_of-self : goal.invariant_of-self
invariant_of-self g c =
    let s = c.args.self.now in
    let suits = g.K.Kind.suits in
    let w = c.args.walk in
    let none = fault g (goal.at.invariant_of-self g c).In_ok-record ∙ c.in_ok-situation.ensures.fault in
    still_a_store s c.start_walk.ensures.becomes.sizes (starts suits s.cells c.args.party (AsksWalk w) _ none c.start_walk.ensures.becomes.view)
    (λ S. sound_started_walk suits _ _ _ S c.args.party w _ c.in_ok-situation.situation none)

pub returns-clause-begins : goal.returns-clause-begins
returns-clause-begins g c =
    let k = g.K.Kind in
    let M : ℕ = nodes_of c.args.self.now.cells in
    let none = fault g (goal.at.returns-clause-begins g c).In_ok-record ∙ c.in_ok-situation.ensures.fault in
    let later = c.clear.new.self in
    let m : c.nodes.result ≡ M = c.nodes.ensures in
    record {
      worths = c.clear.ensures.worths;
      moves = λ notes. walk_begins notes c.in_ok-situation.situation (noted_on k M c.args.notes.now) (noted_on k M later) none c.in_ok-situation.ensures.situation refl refl
          (λ n. ap (λ z. marks_of z later.marks.now n) (sym m) ∙ c.clear.ensures.cleared n)
          (starts k.suits c.args.self.now.cells c.args.party (AsksWalk c.args.walk) _ none c.start_walk.ensures.becomes.view) refl refl refl;
      further = λ n h. (c.clear.ensures.further n (omega arith), ap (λ ws. nth k.none ws n) c.clear.ensures.worths);
      sizes = c.start_walk.ensures.becomes.sizes;
    }
