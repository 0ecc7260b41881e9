use Rattle.std.proofs.Common.{◌≡◌, ◌-◌, ◌+◌, ℕ, suc, Some, sym, subst, arith}
use Rattle.hp_world.specs.Parts.{part_of, NamesPart}
use Rattle.hp_world.proofs.PartLemmas.{LeadsTo, leads_on, leads_here, leads_nowhere, no_part_shown}
use Rattle.hp_world.proofs.part_index.key_of.Goals as goal

pub returns-in-Nil-clause-key : goal.returns-in-Nil-clause-key
returns-in-Nil-clause-key c = λ t e.
    leads_nowhere c.args.cells.now _ c.loop-number.rest c.args.part t (c.loop-number.invariant.leads t e)
    (λ r f. no_part_shown c.args.cells.now c.get.result _ r (c.get.ensures.shows r f) c.in-Nil.is)

pub loop-number-preserved : goal.loop-number-preserved
loop-number-preserved c =
    let n : c.args.part - c.loop-number.number ≡ suc (c.args.part - (c.loop-number.number + 1)) =
    omega (arith, c.loop-number-test.true) in
    let far = λ (k : ℕ). LeadsTo c.args.cells.now k c.loop-number.rest c.args.part in
    record {
      within = omega (arith, c.loop-number.invariant.within, c.in-Cons.ensures.earlier);
      leads = λ t e.
          leads_on c.args.cells.now _ c.loop-number.rest _ _ c.args.part t
          (subst (λ k. far k t) n (c.loop-number.invariant.leads t e)) (λ r f. c.in-Cons.ensures.shows r f);
    }

pub returns-in-Cons-get-clause-key : goal.returns-in-Cons-get-clause-key
returns-in-Cons-get-clause-key c = λ t e.
    let n : c.args.part - c.loop-number.number ≡ 0 = omega (arith, c.loop-number-test.false) in
    let near = λ (k : ℕ). LeadsTo c.args.cells.now k c.loop-number.rest c.args.part t in
    let part = part_of c.args.part t in
    subst (λ (k : ℕ). NamesPart c.args.cells.now part (Some k)) (sym c.index.ensures)
    (leads_here c.args.cells.now c.loop-number.rest _ _ c.args.part t
    (subst near n (c.loop-number.invariant.leads t e)) (λ r f. c.in-Cons-get.ensures.shows r f))

pub returns-in-Nil-get-clause-key : goal.returns-in-Nil-get-clause-key
returns-in-Nil-get-clause-key c = λ t e.
    leads_nowhere c.args.cells.now _ c.loop-number.rest c.args.part t (c.loop-number.invariant.leads t e)
    (λ r f. no_part_shown c.args.cells.now c.get-2.result _ r (c.get-2.ensures.shows r f) c.in-Nil-get.is)
