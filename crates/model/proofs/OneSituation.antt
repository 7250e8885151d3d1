-- Numbers describe one situation.
use Rattle.std.proofs.Common.{◌≡◌, ℕ, ◌≤◌, true, sym, refl, ap, ◌∙◌, subst}
use Rattle.std.specs.Prelude.{ℤ, pos}
use Rattle.std.proofs.Props.{props}
use Rattle.kinds.specs.Limits.{last_gear, coldest, hottest, between}
use Rattle.kinds.specs.Situations.{Describes, range_number}
use Rattle.kinds.specs.declared.gearbox.Range.{Range}
use Rattle.kinds.specs.declared.gearbox.Range.TheVariants.{Low, High}
use Rattle.model.specs.Types.{Situation}

abbrev number_of_pos : ℤ → ℕ
number_of_pos z = elim z [ pos n ↦ n | _ ↦ 0 ]

same_range : (a b : Range) → range_number a ≡ range_number b → a ≡ b
same_range Low Low e = refl
same_range Low High e = absurd cc
same_range High Low e = absurd cc
same_range High High e = refl

-- with the same numbers it is the same: that they are in their limits is true in one way
same_parts : (t : Situation) (r : Range) (g : ℕ) (c : ℤ) → t.range ≡ r → t.gear ≡ g → t.temperature ≡ c → (geared : (1 ≤ g) × (g ≤ last_gear)) → (warm : between coldest hottest c ≡ true)
    → t ≡ record { range = r; gear = g; temperature = c; geared = geared; warm = warm }
same_parts t r g c e f d =
    let geared : IsProp ((1 ≤ t.gear) × (t.gear ≤ last_gear)) = hlevel props in
    let warm : IsProp (between coldest hottest t.temperature ≡ true) = hlevel props in
    subst (λ c. (h : (1 ≤ g) × (g ≤ last_gear)) → (w : between coldest hottest c ≡ true) → t ≡ record { range = r; gear = g; temperature = c; geared = h; warm = w }) d
    (subst (λ g. (h : (1 ≤ g) × (g ≤ last_gear)) → (w : between coldest hottest t.temperature ≡ true) → t ≡ record { range = r; gear = g; temperature = t.temperature; geared = h; warm = w }) f
    (subst (λ r. (h : (1 ≤ t.gear) × (t.gear ≤ last_gear)) → (w : between coldest hottest t.temperature ≡ true) → t ≡ record { range = r; gear = t.gear; temperature = t.temperature; geared = h; warm = w }) e
    (λ h w z. record { range = t.range; gear = t.gear; temperature = t.temperature; geared = geared t.geared h z; warm = warm t.warm w z })))

pub one_situation : {a b c : ℤ} (t u : Situation) → Describes t a b c → Describes u a b c → t ≡ u
one_situation t u h g =
    same_parts t u.range u.gear u.temperature (same_range t.range u.range (ap number_of_pos (h.the_range ∙ sym g.the_range))) (ap number_of_pos (h.the_gear ∙ sym g.the_gear)) (h.the_temperature ∙ sym g.the_temperature) u.geared u.warm
