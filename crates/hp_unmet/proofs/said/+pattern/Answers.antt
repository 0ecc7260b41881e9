use Rattle.std.proofs.Common.{FitsSigned, [], map, rules, sym, ap, ◌∙◌, subst}
use Rattle.std.specs.Int.{w64}
use Rattle.std.proofs.lemmas.Int.{to_z-of_z}
use Rattle.std.proofs.lemmas.List.{take_all}
use Rattle.hp_syntax.specs.GroundViews.{ground_of, ground_of-list, ground_of-num, ground_of-sym, grounds_of}
use Rattle.hp_syntax.specs.Terms.{Symbol, Number, Listed}
use Rattle.hp_syntax.specs.Views.{pattern_of}
use Rattle.hp_unmet.specs.Said.{AllSay}
use Rattle.hp_unmet.proofs.SaidLemmas.{none_say, say_pushed, says_term}
use Rattle.hp_unmet.proofs.said.+pattern.Goals as goal

pub to_pattern-returns-in_ok-own-in-Sym : goal.to_pattern-returns-in_ok-own-in-Sym
to_pattern-returns-in_ok-own-in-Sym t c =
    says_term _ _ _ c.symbol.ensures
    (ap (λ n. Symbol n) c.in_ok-own-in-Sym.ensures.same ∙ sym (ap ground_of c.in-Sym.is ∙ ground_of-sym c.in-Sym.name))

pub to_pattern-returns-in-Num : goal.to_pattern-returns-in-Num
to_pattern-returns-in-Num t c =
    let n = c.in-Num.n in
    let fits : FitsSigned w64 n = search rules in
    says_term _ _ _ c.number.ensures
    (ap (λ k. Number k) (to_z-of_z w64 n fits) ∙ sym (ap ground_of c.in-Num.is ∙ ground_of-num n))

pub to_pattern-returns-in_ok-own-in-List : goal.to_pattern-returns-in_ok-own-in-List
to_pattern-returns-in_ok-own-in-List t c =
    says_term _ _ _ (c.listing.ensures _ c.in_ok-own-in-List.ensures)
    (ap (λ gs. Listed (grounds_of gs)) c.as_slice.ensures.value
    ∙ sym (ap ground_of c.in-List.is ∙ ground_of-list c.in-List.parts))

pub to_patterns-loop-term-init : goal.to_patterns-loop-term-init
to_patterns-loop-term-init t c =
    subst (λ ps. AllSay (map pattern_of ps) []) (sym c.in_ok-patterns.ensures.items) none_say

pub to_patterns-loop-term-preserved : goal.to_patterns-loop-term-preserved
to_patterns-loop-term-preserved t c =
    say_pushed c.loop-term.patterns.items c.push.new.self.items c.in_ok-pattern.pattern c.args.terms.now
    c.loop-term.term-index c.term-item.result c.loop-term-test.true c.term-item.is c.in_ok-push.ensures.items
    c.loop-term.invariant c.in_ok-pattern.ensures

pub to_patterns-returns : goal.to_patterns-returns
to_patterns-returns t c =
    subst (λ gs. AllSay (map pattern_of c.loop-term.patterns.items) (map ground_of gs))
    (take_all _ _ c.loop-term-test.false) c.loop-term.invariant
