-- A Begin or Turn of alike systems tells the same and leaves alike systems: what a system tells is determined.
use Rattle.std.proofs.Common.{◌≡◌, ℕ, ◌≤◌, false, not, Some, None, Option, sym, refl, ap, ◌∙◌, subst, arith, true≢false}
use Rattle.refusals.specs.declared.Refusal.{Refusal}
use Rattle.orders.specs.Limits.{IsParty}
use Rattle.model.specs.Types.{Err, Lengths, Event, Asked, AsksCall, AsksWalk, Call, Walk, Outcome, Situation}
use Rattle.model.specs.Checks.{begin_fault, is_idle, turn_fault, walk_turn_fault}
use Rattle.model.specs.Begins.{started, started_walk}
use Rattle.model.specs.Setting.{Setting, InLimits}
use Rattle.model.specs.Runs.{System, Moves, begin_refused, call_begun, walk_begun, turn_refused, turn, walk_turn_refused, walk_turn, begin_fault_of, with_store, with_walk}
use Rattle.model.proofs.Accepted.{turn_passed, walk_turn_passed}
use Rattle.model.proofs.OneSituation.{one_situation}
use Rattle.model.proofs.Alike.{AlikeNotes, Alike, OnePick}
use Rattle.model.proofs.AlikeTurns.{alike_steps, alike_upd}

same_some : {e e' : Refusal} → {a b : Option Refusal} → a ≡ b → a ≡ Some e → b ≡ Some e' → e ≡ e'
same_some h f g = cc

not_both : {P : Type 0} {e : Refusal} {a b : Option Refusal} → a ≡ b → a ≡ Some e → b ≡ None → P
not_both h f g = absurd cc

module _ {D W A B : Type 0} (X : Setting D W A B) (limits : InLimits X.nodes X.parties) (one_node : OnePick X.node_order) (one_party : OnePick X.party_order) where
  abbrev Same : Outcome D W → Outcome D W → System D W A B → System D W A B → Type 0
  Same o o' F' G' = (o ≡ o') × Alike X F' G'

  module _ (F G : System D W A B) (h : Alike X F G) where
    same_begin_fault : (p : ℕ) (a : Asked D) (l : Lengths) → begin_fault_of X F p a l ≡ begin_fault_of X G p a l
    same_begin_fault p a l z = begin_fault X.suits X.parties X.nodes (not (is_idle ((h.store z).run p))) p a l ((h.store z).slot p) ((h.store z).trail p)

    same_turn_fault : (p : ℕ) (l : Lengths) → turn_fault X.parties X.nodes p l (F.store.run p) ≡ turn_fault X.parties X.nodes p l (G.store.run p)
    same_turn_fault p l z = turn_fault X.parties X.nodes p l ((h.store z).run p)

    same_walk_turn_fault : (p : ℕ) (l : Lengths) → walk_turn_fault X.parties X.nodes p l (F.store.run p) ≡ walk_turn_fault X.parties X.nodes p l (G.store.run p)
    same_walk_turn_fault p l z = walk_turn_fault X.parties X.nodes p l ((h.store z).run p)

    refused : {o o' : Outcome D W} {F' G' : System D W A B} (e e' : Refusal) → e ≡ e' → o ≡ Err e → F' ≡ F → o' ≡ Err e' → G' ≡ G → Same o o' F' G'
    refused {o} {o'} {F'} {G'} e e' s t f t' g = (t ∙ ap (λ r. Err r) s ∙ sym t', subst (λ H. Alike X H G') (sym f) (subst (λ H. Alike X F H) (sym g) h))

    calls_begun : (p : ℕ) (c : Call D) → Alike X (with_store X F (started c F.store p)) (with_store X G (started c G.store p))
    calls_begun p c = record { store = λ z. started c (h.store z) p; info = h.info; notes = h.notes; nodes = h.nodes; parties = h.parties }

    nothing_marked : (f g : ℕ → W) → AlikeNotes (record { marks = λ n. false; worths = f }) (record { marks = λ n. false; worths = g })
    nothing_marked f g = record { marks = refl; worths = λ n e. absurd (true≢false (sym e)) }

    walks_begun : (p : ℕ) (w : Walk) (t u : Situation) → t ≡ u → (f g : ℕ → W) → Alike X (with_walk X F (started_walk w.slot t F.store p) p f) (with_walk X G (started_walk w.slot u G.store p) p g)
    walks_begun p w t u e f g = record {
      store = λ z. started_walk w.slot (e z) (h.store z) p;
      info = h.info;
      notes = alike_upd F.notes G.notes p (record { marks = λ n. false; worths = f }) (record { marks = λ n. false; worths = g }) h.notes (nothing_marked f g);
      nodes = h.nodes;
      parties = h.parties;
    }

    began : {o o' x : Outcome D W} {F' G' F'' G'' : System D W A B} → o ≡ x → F' ≡ F'' → o' ≡ x → G' ≡ G'' → Alike X F'' G'' → Same o o' F' G'
    began {F' = F'} {G' = G'} {F'' = F''} t f t' g a = (t ∙ sym t', subst (λ H. Alike X H G') (sym f) (subst (λ H. Alike X F'' H) (sym g) a))

    party : (p : ℕ) → 1 ≤ p → p ≤ X.parties → IsParty p
    party p a b = (a, omega (arith, b, limits.few_parties))

    pub alike_moves : {e : Event D} {o o' : Outcome D W} {F' G' : System D W A B} → Moves X F e o F' → Moves X G e o' G' → Same o o' F' G'
    alike_moves (begin_refused {p = p} {a = a} {l = l} r f t g) (begin_refused r' f' t' g') = refused r r' (same_some (same_begin_fault p a l) f f') t g t' g'
    alike_moves (begin_refused {p = p} {l = l} r f t g) (call_begun {c = c} f' t' g') = not_both (same_begin_fault p (AsksCall c) l) f f'
    alike_moves (begin_refused {p = p} {l = l} r f t g) (walk_begun {w = w} u k f' d t' g') = not_both (same_begin_fault p (AsksWalk w) l) f f'
    alike_moves (call_begun {p = p} {c = c} {l = l} f t g) (begin_refused r' f' t' g') = not_both (sym (same_begin_fault p (AsksCall c) l)) f' f
    alike_moves (call_begun {p = p} {c = c} f t g) (call_begun f' t' g') = began t g t' g' (calls_begun p c)
    alike_moves (walk_begun {p = p} {w = w} {l = l} u k f d t g) (begin_refused r' f' t' g') = not_both (sym (same_begin_fault p (AsksWalk w) l)) f' f
    alike_moves (walk_begun {p = p} {w = w} u k f d t g) (walk_begun u' k' f' d' t' g') = began t g t' g' (walks_begun p w u u' (one_situation u u' d d') k k')
    alike_moves (turn_refused {p = p} {l = l} r f t g) (turn_refused r' f' t' g') = refused r r' (same_some (same_turn_fault p l) f f') t g t' g'
    alike_moves (turn_refused {p = p} {l = l} r f t g) (turn f' T') = not_both (same_turn_fault p l) f f'
    alike_moves (turn {p = p} {l = l} f T) (turn_refused r' f' t' g') = not_both (sym (same_turn_fault p l)) f' f
    alike_moves {o = o} {o' = o'} {F' = F'} {G' = G'} (turn {p = p} {l = l} f T) (turn f' T') =
        let u = turn_passed X.parties X.nodes p l (F.store.run p) f in
        alike_steps X F G F' G' p o o' one_node one_party (party p u.0 u.1) h T T'
    alike_moves (walk_turn_refused {p = p} {l = l} r f t g) (walk_turn_refused r' f' t' g') = refused r r' (same_some (same_walk_turn_fault p l) f f') t g t' g'
    alike_moves (walk_turn_refused {p = p} {l = l} r f t g) (walk_turn f' T') = not_both (same_walk_turn_fault p l) f f'
    alike_moves (walk_turn {p = p} {l = l} f T) (walk_turn_refused r' f' t' g') = not_both (sym (same_walk_turn_fault p l)) f' f
    alike_moves {o = o} {o' = o'} {F' = F'} {G' = G'} (walk_turn {p = p} {l = l} f T) (walk_turn f' T') =
        let u = walk_turn_passed X.parties X.nodes p l (F.store.run p) f in
        alike_steps X F G F' G' p o o' one_node one_party (party p u.0 u.1) h T T'
