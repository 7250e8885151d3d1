use Rattle.std.proofs.Common.{ℕ, refl, subst}
use Rattle.model.specs.Runs.{Asks, asks_nodes, asks_parties}
use Rattle.model.specs.Setting.{meaning_of}
use Rattle.model.proofs.Stepped.{sound_stepped}
use Rattle.store.specs.Given.{zero_data}
use Rattle.store.proofs.Accepted.{still_a_store, is_taken, some_told}
use Rattle.store.proofs.WalkTurns.{taken_as}
use Rattle.store.proofs.store.Store.take_step.Goals as goal

pub invariant_of-self : goal.invariant_of-self
invariant_of-self g c =
    let r = c.requires in
    let h = is_taken c.args.self.now r.party r.runs r.entries (c.step.ensures.steps (zero_data g.K.Kind)) in
    still_a_store c.args.self.now c.step.ensures.sizes h.store_is (λ S. sound_stepped _ _ _ _ S c.args.party r.party.0 r.party.1 _ c.pick-number.result r.runs)

pub unwrap-requires : goal.unwrap-requires
unwrap-requires g c =
    let r = c.requires in
    let h = is_taken c.args.self.now r.party r.runs r.entries (c.step.ensures.steps (zero_data g.K.Kind)) in
    some_told c.step.result _ h.told

pub returns : goal.returns
returns g c =
    let s = c.args.self.now in
    let r = c.requires in
    let h = is_taken s r.party r.runs r.entries (c.step.ensures.steps (zero_data g.K.Kind)) in
    let x : ℕ = c.pick-number.result in
    let runs = c.running-running.ensures in
    record {
      taken = λ notes. taken_as _ _ _ _ x h.store_is h.info_is refl
          (subst (λ r. Asks (meaning_of g.U.Order) (asks_nodes r) s.node_order c.pick-number.new.node_order c.args.party x) runs c.pick-number.ensures.nodes)
          (subst (λ r. Asks (meaning_of g.V.Order) (asks_parties r) s.party_order c.pick-number.new.party_order c.args.party x) runs c.pick-number.ensures.parties)
          c.unwrap.result (let f = h.told in let u = c.unwrap.ensures in cc);
      sizes = c.step.ensures.sizes;
    }
