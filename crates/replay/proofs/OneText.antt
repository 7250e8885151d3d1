-- A sheet has one text of replies: line by line, whatever stands is alike and the reply the same.
use Rattle.std.proofs.Common.{◌≡◌, ℕ, suc, List, [], ◌∷◌, ◌++◌, length, Some, None, Option, sym, ap, ◌∙◌, refl}
use mathlib.Core.Path.{subst₂}
use Rattle.std.specs.List.{flat_map}
use Rattle.kinds.specs.declared.kind.Kind.{Ghosts as KindMeaning}
use Rattle.kinds.specs.contracts.maps.MapsKind.TheImpl as maps
use Rattle.kinds.specs.contracts.traces.TracesKind.TheImpl as traces
use Rattle.sheet.specs.Lines.{TextLine, values_on}
use Rattle.sheet.specs.Headings.{Heading, heading_of}
use Rattle.sheet.specs.Replies.{names_line, reply_line}
use Rattle.sheet.specs.declared.headings.SheetOf.TheVariants.{Maps, Traces}
use Rattle.sheet.specs.declared.replies.Reply.{Reply}
use Rattle.replay.specs.Numbers.{SheetNumbers, of_maps, of_traces}
use Rattle.replay.specs.Replays.{Adds, Replays}
use Rattle.replay.specs.Stages.{Stage, LineDoes, Replayed, nothing, next, coded}
use Rattle.replay.proofs.AlikeLines.{AlikeIfAny, alike_lines}

no_last : {T : Type 0} {P : Type 0} (xs : List T) (x : T) → [] ≡ xs ++ x ∷ [] → P
no_last [] x e = absurd cc
no_last (y ∷ xs) x e = absurd cc

same_last : {T : Type 0} (xs ys : List T) (x y : T) → xs ++ x ∷ [] ≡ ys ++ y ∷ [] → (xs ≡ ys) × (x ≡ y)
same_last [] [] x y e = (refl, cc)
same_last [] (b ∷ ys) x y e = no_last ys y (let h : [] ≡ ys ++ y ∷ [] = cc in h)
same_last (a ∷ xs) [] x y e = no_last xs x (let h : [] ≡ xs ++ x ∷ [] = cc in h)
same_last (a ∷ xs) (b ∷ ys) x y e =
    let rest : xs ++ x ∷ [] ≡ ys ++ y ∷ [] = cc in
    let i = same_last xs ys x y rest in
    let head : a ≡ b = cc in
    (λ z. head z ∷ i.0 z, i.1)

module _ {K D W : Type 0} (kind : KindMeaning K D W) (sheet : SheetNumbers D W) where
  alike_replayed : {lines lines' : List TextLine} {replies replies' : List Reply} {after after' : Option (Stage D W)} → lines ≡ lines' → Replayed kind sheet lines replies after → Replayed kind sheet lines' replies' after'
      → (replies ≡ replies') × AlikeIfAny kind sheet after after'
  alike_replayed e (nothing l r a) (nothing l' r' a') = (r ∙ sym r', subst₂ (λ x y. AlikeIfAny kind sheet x y) (sym a) (sym a') tt)
  alike_replayed e (nothing l r a) (next {earlier = earlier} line reply t l' r' d u) = no_last earlier line (sym l ∙ e ∙ l')
  alike_replayed e (next {earlier = earlier} line reply t l r d u) (nothing l' r' a') = no_last earlier line (sym l' ∙ sym e ∙ l)
  alike_replayed {after = after} {after' = after'} e (next {earlier = xs} {before_it = rs} {before = before} line reply t l r d u) (next {earlier = ys} {before_it = qs} {before = before'} line' reply' t' l' r' d' u') =
      let s = same_last xs ys line line' (sym l ∙ e ∙ l') in
      let i = alike_replayed s.0 t t' in
      let d'' : LineDoes kind sheet before' (suc (length rs)) (values_on line) after' reply' =
      subst₂ (λ q x. LineDoes kind sheet before' (suc (length q)) (values_on x) after' reply') (sym i.0) (sym s.1) d' in
      let z = alike_lines kind sheet (suc (length rs)) before before' after after' reply reply' i.1 d d'' in
      (r ∙ (λ j. i.0 j ++ z.0 j ∷ []) ∙ sym r', z.1)

  same_text : {lines out a b : List ℕ} → Adds kind sheet lines out a → Adds kind sheet lines out b → a ≡ b
  same_text {lines} {out} f g = f.written ∙ ap (λ r. out ++ flat_map reply_line r) (alike_replayed refl f.replayed g.replayed).0 ∙ sym g.written

-- by what the sheet is of, and its lines
abbrev Text : Heading → List ℕ → Type 0
Text heading out = elim heading [
  | None ↦ out ≡ names_line ++ reply_line (coded 0 91)
  | Some h ↦ elim h.0 [ Maps ↦ Adds (maps.ghosts) of_maps h.1 names_line out | Traces ↦ Adds (traces.ghosts) of_traces h.1 names_line out ]
]

one_by_heading : (heading : Heading) (a b : List ℕ) → Text heading a → Text heading b → a ≡ b
one_by_heading None a b f g = f ∙ sym g
one_by_heading (Some (Maps, lines)) a b f g = same_text (maps.ghosts) of_maps f g
one_by_heading (Some (Traces, lines)) a b f g = same_text (traces.ghosts) of_traces f g

pub one_text : (sheet a b : List ℕ) → Replays sheet a → Replays sheet b → a ≡ b
one_text sheet a b f g = one_by_heading (heading_of sheet) a b f g
