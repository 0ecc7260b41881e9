use Rattle.std.proofs.Common.{◌≡◌, ◌+◌, [], ◌∷◌, List, Bool, Some, map, drop, ap, ap₂, option_map, subst, sym, ◌∙◌}
use Rattle.std.proofs.lemmas.List.{drop_all, drop_more}
use Rattle.hp_syntax.specs.Views.{domain_of, tasks_of}
use Rattle.hp_way.specs.Ways.{Deed, deed_of}
use Rattle.hp_derivation.specs.Derived.{after, derived, first_stage, taken, told}
use Rattle.hp_derivation.specs.Goings.{Fares}
use Rattle.hp_derivation.proofs.GoingSteps.{IsOnTheWay, way_end, way_lost, way_more}
use Rattle.hp_derivation.proofs.derivation.derivation_of.Goals as goal

-- where a deed takes nothing, nothing is derived
pub returns-then-not-branch : goal.returns-then-not-branch
unfolding derived
returns-then-not-branch c =
    let i = c.loop-number.number in
    let ds = c.args.deeds.now in
    let d = c.index-deeds-number.result in
    let rules = (domain_of c.args.domain.now).rules in
    let others = map deed_of (drop (i + 1) ds) in
    let whole = after rules 0 (map deed_of ds) (first_stage (tasks_of c.args.pair.now.tasks)) in
    let here : map deed_of (drop i ds) ≡ deed_of d ∷ others =
    ap (map deed_of)
    (drop_more ds i d c.loop-number-test.true ∙ ap (λ x. x ∷ drop (i + 1) ds) (sym c.index-deeds-number.is)) in
    let lost = way_lost c.loop-number.going c.follow.new.self rules i (deed_of d) others whole
    (subst (λ (q : List Deed). IsOnTheWay c.loop-number.going rules i q whole) here c.loop-number.invariant)
    (λ s st.
    subst (λ (b : Bool). Fares b c.follow.new.self i s (taken rules (deed_of d) s)) c.if-not-branch.true
    (c.in_ok-follow.ensures s st)) in
    record { is = sym (ap (option_map told) lost) }

-- one deed more
pub loop-number-preserved : goal.loop-number-preserved
loop-number-preserved c =
    let i = c.loop-number.number in
    let ds = c.args.deeds.now in
    let d = c.index-deeds-number.result in
    let rules = (domain_of c.args.domain.now).rules in
    let others = map deed_of (drop (i + 1) ds) in
    let whole = after rules 0 (map deed_of ds) (first_stage (tasks_of c.args.pair.now.tasks)) in
    let here : map deed_of (drop i ds) ≡ deed_of d ∷ others =
    ap (map deed_of)
    (drop_more ds i d c.loop-number-test.true ∙ ap (λ x. x ∷ drop (i + 1) ds) (sym c.index-deeds-number.is)) in
    way_more c.loop-number.going c.follow.new.self rules i (deed_of d) others whole
    (subst (λ (q : List Deed). IsOnTheWay c.loop-number.going rules i q whole) here c.loop-number.invariant)
    (λ s st.
    subst (λ (b : Bool). Fares b c.follow.new.self i s (taken rules (deed_of d) s)) c.if-not-branch.false
    (c.in_ok-follow.ensures s st))

-- what is derived in the end
pub returns : goal.returns
unfolding derived
returns c =
    let i = c.loop-number.number in
    let ds = c.args.deeds.now in
    let rules = (domain_of c.args.domain.now).rules in
    let whole = after rules 0 (map deed_of ds) (first_stage (tasks_of c.args.pair.now.tasks)) in
    let none = ap (map deed_of) (drop_all i ds c.loop-number-test.false) in
    let w = way_end c.loop-number.going rules i whole
    (subst (λ (q : List Deed). IsOnTheWay c.loop-number.going rules i q whole) none c.loop-number.invariant) in
    record {
      is =
          ap Some (c.end.ensures ∙ ap₂ (λ a b. (a, b)) w.1.roll.tasks (c.in_ok-order.ensures w.0 w.1))
          ∙ sym (ap (option_map told) w.2);
    }
