use Rattle.std.proofs.Common.{◌≡◌, ◌∙◌, ◌+◌, suc, [], ◌∷◌, ◌++◌, take, sym, refl, ap, subst, rules, arith, vec_items}
use Rattle.std.specs.Prelude.{zip}
use Rattle.std.proofs.lemmas.List.{take_all}
use Rattle.model.specs.Existing.{new}
use Rattle.model.specs.Runs.{Moves, Run, still}
use Rattle.session.specs.Performed.{CarriedOut, none_yet, one_more as one_more_carried}
use Rattle.session.specs.Sessions.{setting_of, system_in}
use Rattle.session.proofs.Performing.{starts_new, law_after, of_sizes}
use Rattle.session.proofs.Runs.{run_grows, exists_after, take_grows, zip_grows}
use Rattle.session.proofs.perform.perform.Goals as goal

pub loop-command-init : goal.loop-command-init
loop-command-init g c = (still, none_yet refl (search rules), record { parties = refl; nodes = refl }, search rules, search rules)

pub loop-command-preserved : goal.loop-command-preserved
loop-command-preserved g c =
    let first = c.in_ok-session.session in
    let s = c.loop-command.session in
    let i = c.loop-command.invariant in
    let z = c.carry_out.ensures.sizes in
    let step : Moves (setting_of first) (system_in s) c.command-item.result c.carry_out.result (system_in c.carry_out.new.self) = rw (sym i.2.parties, sym i.2.nodes) c.carry_out.ensures.moves in
    let os = vec_items c.loop-command.outcomes in
    let longer : zip (take c.loop-command.command-index c.args.commands.now) os ++ (c.command-item.result, c.carry_out.result) ∷ [] ≡ zip (take (suc c.loop-command.command-index) c.args.commands.now) (os ++ c.carry_out.result ∷ []) =
    zip_grows c.args.commands.now os c.loop-command.command-index c.command-item.result c.carry_out.result (search rules) (search rules) (search rules) in
    let one_more : suc c.loop-command.command-index ≡ c.loop-command.command-index + 1 = omega arith in
    let all = longer ∙ ap (λ k. zip (take k c.args.commands.now) (os ++ c.carry_out.result ∷ [])) one_more ∙ ap (λ l. zip (take (c.loop-command.command-index + 1) c.args.commands.now) l) (sym c.push_reserved.ensures.items) in
    let commands : take (c.loop-command.command-index + 1) c.args.commands.now ≡ take c.loop-command.command-index c.args.commands.now ++ c.command-item.result ∷ [] =
    ap (λ k. take k c.args.commands.now) (sym one_more) ∙ take_grows c.args.commands.now c.loop-command.command-index c.command-item.result (search rules) (search rules) in
    (subst (λ es. Run (setting_of first) (system_in first) es (system_in c.carry_out.new.self)) all (run_grows i.0 step), one_more_carried c.command-item.result c.carry_out.result i.1 c.carry_out.ensures commands c.push_reserved.ensures.items, record { parties = z.parties ∙ i.2.parties; nodes = z.nodes ∙ i.2.nodes }, search rules, search rules)

pub returns : goal.returns
returns g c =
    let first = c.in_ok-session.session in
    let i = c.loop-command.invariant in
    let new_one = c.in_ok-session.ensures in
    let whole : take c.loop-command.command-index c.args.commands.now ≡ c.args.commands.now = take_all c.loop-command.command-index c.args.commands.now (search rules) in
    let all : zip (take c.loop-command.command-index c.args.commands.now) (vec_items c.loop-command.outcomes) ≡ zip c.args.commands.now (vec_items c.loop-command.outcomes) =
    ap (λ l. zip l (vec_items c.loop-command.outcomes)) whole in
    let run = of_sizes c.args.nodes c.args.parties c.args.node_order c.args.party_order first new_one (subst (λ es. Run (setting_of first) (system_in first) es (system_in c.loop-command.session)) all i.0) in
    record {
      first = first;
      new = new_one;
      carried_out = subst (λ cs. CarriedOut first cs (vec_items c.loop-command.outcomes) c.loop-command.session) whole i.1;
      each_answered = search rules;
      run = run;
      law = law_after c.args.nodes c.args.parties c.args.node_order c.args.party_order first new_one g.met.U.Order.due_below_span g.met.V.Order.due_below_span;
      can_exist = exists_after (new (starts_new c.args.nodes c.args.parties c.args.node_order c.args.party_order first new_one)) run;
    }
