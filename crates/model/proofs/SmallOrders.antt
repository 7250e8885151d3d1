-- A new small store and its orders, whose dues come down by one with each pick of the party, and turns that ask neither.
use Rattle.std.proofs.Common.{◌≡◌, ℕ, ◌-◌, ◌<◌, ◌≤◌, true, false, None, ltb, subst, sym, refl, ap, arith}
use Rattle.std.proofs.lemmas.Bool.{cond_both, cond-false, le-ltb, ltb-false, true≢false}
use Rattle.orders.specs.Limits.{IsParty}
use Rattle.orders.specs.Meaning.{IsNumber}
use Rattle.model.specs.Fun.{upd}
use Rattle.model.specs.Types.{Turns, Outcome}
use Rattle.model.specs.State.{Store, new_store}
use Rattle.model.specs.Checks.{turn_fault}
use Rattle.model.specs.Runs.{System, Asks, Moves, turn, moved, asks_nodes, asks_parties}
use Rattle.model.specs.Opened.{New}
use Rattle.model.specs.SmallStore.{at_most99, falling, small, long}
use Rattle.model.proofs.Sums.{upd_same, upd_other}
use Rattle.model.proofs.MakesEnd.{DuesBelowSpan}

abbrev pub Small : Type 0
Small = System ℕ ℕ (ℕ → ℕ) (ℕ → ℕ)

-- new, with orders that have picks enough for any run here
abbrev pub fresh : Small
fresh = record { store = new_store; info = λ n. 0; notes = λ q. record { marks = λ n. false; worths = λ n. 0 }; node_order = λ p. 50; party_order = λ p. 50 }

pub fresh_is_new : New small fresh
fresh_is_new = record { limits = record { some_party = omega arith; few_parties = omega arith; some_node = omega arith; few_nodes = omega arith }; store_is = refl; sized = record { nodes = refl; parties = refl } }

-- the dues of both orders are below their spans
pub dues_below_span : (m : ℕ) → DuesBelowSpan (falling m)
dues_below_span m o q n party number = cond_both (ltb 99 (o q)) 99 (o q) (λ k. k < 100) (λ _. omega arith) (λ e. (let u = ltb-false 99 (o q) e in omega arith))

low : (n : ℕ) → n ≤ 99 → at_most99 n ≡ n
low n h = cond-false (ltb 99 n) 99 n (le-ltb 99 n h)

abbrev pub picking : (ℕ → ℕ) → ℕ → ℕ → ℕ
picking o p = upd o p (o p - 1)

pub picks_one : (m : ℕ) (o : ℕ → ℕ) (p x : ℕ) → IsParty p → 1 ≤ o p → o p ≤ 99 → IsNumber m x → Asks (falling m) true o (picking o p) p x
picks_one m o p x is_party some few is =
    let e = upd_same o p (o p - 1) in
    let after = low (picking o p p) (omega arith) in
    let before = low (o p) few in
    record {
      rests = λ e. absurd (true≢false e);
      picks = λ _. record {
        numbers_stay = refl;
        span_stays = refl;
        others_stay = λ q n party other number. ap at_most99 (upd_other o p q (o p - 1) other);
        answers = λ party. record { number = is; sooner = λ n number other. omega arith };
        refuses = λ no_party. absurd (no_party is_party);
      };
    }

pub rests : (m : ℕ) (o : ℕ → ℕ) (p x : ℕ) → Asks (falling m) false o o p x
rests m o p x = record { picks = λ e. absurd (true≢false (sym e)); rests = λ _. refl }

-- after a turn of p that leaves this store, and asks no order and writes no data
abbrev pub after : Small → ℕ → Store ℕ → Small
after f p s = record f { store = s; notes = upd f.notes p (f.notes p) }

pub quiet_turn : (f : Small) (p : ℕ) {s : Store ℕ} {o : Outcome ℕ ℕ} → turn_fault 2 4 p long (f.store.run p) ≡ None → moved small f p 0 ≡ record { store = s; info = f.info; notes = f.notes p; outcome = o }
    → asks_nodes (f.store.run p) ≡ false → asks_parties (f.store.run p) ≡ false → Moves small f (Turns p long) o (after f p s)
quiet_turn f p fine is n q = turn fine (record {
  pick = 0;
  store_is = sym (ap (λ m. m.store) is);
  info_is = sym (ap (λ m. m.info) is);
  notes_are = ap (upd f.notes p) (sym (ap (λ m. m.notes) is));
  node_picks = subst (λ b. Asks (falling 4) b f.node_order f.node_order p 0) (sym n) (rests 4 f.node_order p 0);
  party_picks = subst (λ b. Asks (falling 2) b f.party_order f.party_order p 0) (sym q) (rests 2 f.party_order p 0);
  tells = sym (ap (λ m. m.outcome) is);
})
