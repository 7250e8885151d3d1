use Rattle.std.proofs.Common.{Option, Some, None, MatchOption, IfSome, IfNone}
use Rattle.std.proofs.lemmas.Bool.Decides.{Decides-eqb}
use Rattle.std.proofs.lemmas.Slice.Eq.{strip_prefix_is}
use Rattle.sheet.proofs.headings.lines_after.Goals as goal

where_some : {X : Type 0} (r : Option X) (P : Type 0) (Q : X → Type 0) → MatchOption r P Q → IfSome r Q
where_some None P Q h = tt
where_some (Some x) P Q h = h

where_none : {X : Type 0} (r : Option X) (P : Type 0) (Q : X → Type 0) → MatchOption r P Q → IfNone r P
where_none None P Q h = h
where_none (Some x) P Q h = tt

pub returns-clause-found : goal.returns-clause-found
returns-clause-found c =
    where_some c.strip_prefix.result _ _ (strip_prefix_is Decides-eqb c.args.sheet.now c.args.names.now c.strip_prefix.result c.strip_prefix.ensures.cases)

pub returns-clause-none : goal.returns-clause-none
returns-clause-none c =
    where_none c.strip_prefix.result _ _ (strip_prefix_is Decides-eqb c.args.sheet.now c.args.names.now c.strip_prefix.result c.strip_prefix.ensures.cases)
