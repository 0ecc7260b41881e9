use Rattle.std.proofs.Common.{ℕ, List, Option, Some, None, Bool, true, false, refl, ap, sym, subst, slice_get, ◌∙◌}
use Rattle.std.proofs.lemmas.Result.{IfOk-weaker}
use Rattle.hp_syntax.specs.Networks.{candidates}
use Rattle.hp_syntax.specs.Terms.{Term}
use Rattle.hp_syntax.specs.Views.{domain_of}
use Rattle.hp_links.specs.Linked.{focused}
use Rattle.hp_way.specs.Ways.{deed_of}
use Rattle.hp_derivation.specs.Goings.{IsAt}
use Rattle.hp_derivation.proofs.GoingSteps.{candidates_met, fares_same, taken_there}
use Rattle.hp_derivation.proofs.going.Going.follow.Goals as goal

pub follow_at-requires : goal.follow_at-requires
follow_at-requires c =
    let net = c.args.self.now.net.now in
    let terms = c.args.self.now.cells in
    let at = subst
    (λ (o : Option ℕ). IsAt net o (slice_get (candidates (focused terms net).0 (focused terms net).1)
    c.args.deed.now.candidate))
    c.in-Some.is (c.in_ok-id.ensures terms) in
    record { names = at.0 }

pub returns-in-Some : goal.returns-in-Some
returns-in-Some c =
    let net = c.args.self.now.net.now in
    let terms = c.args.self.now.cells in
    let rules = (domain_of c.args.domain.now).rules in
    let deed = deed_of c.args.deed.now in
    let at = subst
    (λ (o : Option ℕ). IsAt net o (slice_get (candidates (focused terms net).0 (focused terms net).1)
    c.args.deed.now.candidate))
    c.in-Some.is (c.in_ok-id.ensures terms) in
    IfOk-weaker c.follow_at.result _ _
    (λ b h s st.
    fares_same b c.follow_at.new.self c.args.number s _ _
    (sym (taken_there rules deed s (Some at.1) (sym (candidates_met c.args.self.now s deed.candidate st) ∙ at.3)))
    (h s at.1 st at.2))
    c.follow_at.ensures

pub returns-in-None : goal.returns-in-None
returns-in-None c = λ s st.
    let net = c.args.self.now.net.now in
    let terms = c.args.self.now.cells in
    let rules = (domain_of c.args.domain.now).rules in
    let deed = deed_of c.args.deed.now in
    let at = subst
    (λ (o : Option ℕ). IsAt net o (slice_get (candidates (focused terms net).0 (focused terms net).1)
    c.args.deed.now.candidate))
    c.in-None.is (c.in_ok-id.ensures terms) in
    taken_there rules deed s None (sym (candidates_met c.args.self.now s deed.candidate st) ∙ at)
