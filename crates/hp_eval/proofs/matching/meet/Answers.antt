use Rattle.std.proofs.Common.{ap, sym, ◌∙◌, arith, false}
use Rattle.hp_eval.specs.GoalViews.{term_at}
use Rattle.hp_eval.specs.Slotted.{bindings_of}
use Rattle.hp_eval.specs.Attempts.{extended}
use Rattle.hp_eval.proofs.AttemptLemmas.{tries_here, meet_beyond, place_free, place_bound, meet_free, meet_bound}
use Rattle.hp_eval.proofs.matching.meet.Goals as goal

pub returns-then-v-vars : goal.returns-then-v-vars
returns-then-v-vars c =
    let terms = c.args.cells.now in
    let t = term_at terms c.args.cell in
    tries_here false _ terms c.args.slots.now c.requires.slots
    (meet_beyond c.args.v t terms c.args.slots.now (omega arith))

pub bind-requires : goal.bind-requires
bind-requires c =
    record { unbound = place_free c.args.slots.now c.args.v (omega arith) (sym c.get.ensures ∙ c.in-None.is) }

pub returns-in-Some : goal.returns-in-Some
returns-in-Some c =
    let terms = c.args.cells.now in
    let s = c.args.slots.now in
    let here = place_bound s c.args.v c.in-Some.old (sym c.get.ensures ∙ c.in-Some.is) in
    tries_here c.same_term.result _ terms s c.requires.slots
    (meet_bound c.args.v c.args.cell c.in-Some.old terms s c.requires.slots here
    ∙ ap (λ does. extended does (bindings_of terms s)) (sym c.same_term.ensures))

pub returns-in-None : goal.returns-in-None
returns-in-None c =
    let s = c.args.slots.now in
    let here = place_free s c.args.v (omega arith) (sym c.get.ensures ∙ c.in-None.is) in
    rw c.bind.ensures (meet_free c.args.v c.args.cell c.args.cells.now s c.requires.slots c.requires.cell here)
