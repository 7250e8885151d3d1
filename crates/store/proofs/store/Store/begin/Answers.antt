use Rattle.std.proofs.Common.{◌≡◌, ℕ, length, None, Err, sym, refl, ap, ◌∙◌, arith}
use Rattle.std.proofs.lemmas.Option.{MatchOption-at_none, MatchOption-at_some}
use Rattle.std.proofs.lemmas.Result.{err_from_is_err_and}
use Rattle.refusals.specs.declared.Refusal.TheVariants.{NoSuchParty}
use Rattle.model.specs.declared.calls.Asked.TheVariants.{AsksCall}
use Rattle.model.specs.declared.calls.Lengths.{Lengths}
use Rattle.model.specs.Runs.{with_store, begin_refused, call_begun}
use Rattle.model.specs.Setting.{setting_for}
use Rattle.model.proofs.Begins.{sound_started}
use Rattle.cells.specs.View.{parties_of, nodes_of}
use Rattle.checks.specs.Faults.{begin_fault_of}
use Rattle.store.specs.Given.{system_of}
use Rattle.store.proofs.Accepted.{still_a_store}
use Rattle.store.proofs.Moving.{fault_of, no_party_fault, fault_is, call_fault_of_entries, starts}
use Rattle.store.proofs.store.Store.begin.Given.{Over}
use Rattle.store.proofs.store.Store.begin.Goals.{After-check_begin}
use Rattle.store.proofs.store.Store.begin.Goals as goal

-- the Begin's fault is the one that the checks tell
fault : (g : Over) (c : After-check_begin g) (l : Lengths) → l.entries ≡ length c.args.data.now
    → fault_of g.K.Kind.suits c.args.self.now.cells c.args.party (AsksCall c.args.call) l ≡ begin_fault_of g.K.Kind.suits c.sizes-sizes.result c.args.party (AsksCall c.args.call) c.of_call-lengths.result c.in_ok-record.record.now
fault g c l e =
    let suits = g.K.Kind.suits in
    let s = c.args.self.now in
    let p : ℕ = c.args.party in
    let given = c.of_call-lengths.result in
    let own = MatchOption-at_some _ _ c.in_ok-record.record c.in_ok-record.ensures.ok_part c.record.ensures in
    call_fault_of_entries suits s.cells p c.args.call l given (e ∙ sym (ap (λ z. z.entries) c.of_call-lengths.ensures)) ∙ fault_is suits s.cells p (AsksCall c.args.call) {l = given} refl c.sizes-sizes.ensures own.1

pub returns-in_err-record : goal.returns-in_err-record
returns-in_err-record g c =
    let none : c.record.result ≡ None = grind arith in
    let e = err_from_is_err_and c.from_residual.result c.from_residual.ensures.1 in
    let told : c.from_residual.result ≡ Err NoSuchParty = grind arith in
    record {
      moves = λ notes l e. begin_refused NoSuchParty (no_party_fault g.K.Kind.suits c.args.self.now.cells c.args.party (AsksCall c.args.call) l (MatchOption-at_none _ _ none c.record.ensures)) told refl;
      sizes = record { parties = refl; nodes = refl };
    }

pub returns-in_err-check_begin : goal.returns-in_err-check_begin
returns-in_err-check_begin g c =
    let f = fault g (goal.at.returns-in_err-check_begin g c).After-check_begin in
    let told = err_from_is_err_and c.from_residual-in_err-check_begin.result c.from_residual-in_err-check_begin.ensures.1 in
    record {
      moves = λ notes l e. begin_refused c.in_err-check_begin.field-0.0 (f l e ∙ c.in_err-check_begin.ensures) (told.1 ∙ ap Err told.2) refl;
      sizes = record { parties = refl; nodes = refl };
    }

pub invariant_of-self : goal.invariant_of-self
invariant_of-self g c =
    let s = c.args.self.now in
    let suits = g.K.Kind.suits in
    let l : Lengths = record { entries = length c.args.data.now; marks = 0; worths = 0 } in
    let none = fault g (goal.at.invariant_of-self g c).After-check_begin l refl ∙ c.in_ok-check_begin.ensures in
    still_a_store s c.start.ensures.becomes.sizes (starts suits s.cells c.args.party (AsksCall c.args.call) l none c.start.ensures.becomes.view)
    (λ S. sound_started suits _ _ _ S c.args.party c.args.call l none)

pub returns : goal.returns
returns g c =
    let s = c.args.self.now in
    let k = g.K.Kind in
    let before = system_of k s.cells s.node_order s.party_order c.args.data.now in
    let f = fault g (goal.at.returns g c).After-check_begin in
    record {
      moves = λ notes l e.
          (let none = f l e ∙ c.in_ok-check_begin.ensures in
          call_begun none c.begun.ensures (ap (with_store (setting_for k g.U.Order g.V.Order (parties_of s.cells) (nodes_of s.cells)) (before notes))
          (starts k.suits s.cells c.args.party (AsksCall c.args.call) l none c.start.ensures.becomes.view)));
      sizes = c.start.ensures.becomes.sizes;
    }
