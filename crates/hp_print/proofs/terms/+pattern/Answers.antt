use Rattle.std.proofs.Common.{◌<◌, length, arith, refl, ap}
use Rattle.std.proofs.lemmas.Grind.{common_steps}
use Rattle.hp_syntax.specs.ViewLaws.{pattern_of-var, pattern_of-sym, pattern_of-num, pattern_of-list, pattern_of-call}
use Rattle.hp_syntax.specs.Views.{pattern_of, patterns_of}
use Rattle.hp_syntax.specs.Written as written
use Rattle.hp_syntax.specs.Written.{pattern, node_text, rest_text}
use Rattle.hp_print.proofs.Sizes.{patterns_size, call-smaller, pattern-smaller, patterns-smaller, parts-smaller, arguments-smaller}
use Rattle.hp_print.proofs.WrittenLists.{spaced_on}
use Rattle.hp_print.proofs.terms.+pattern.Goals as goal

pub push_pattern-push_list-requires : goal.push_pattern-push_list-requires
push_pattern-push_list-requires t c =
    let same = ap (λ ps. patterns_size (patterns_of ps)) c.as_slice.ensures.value in
    call-smaller same (parts-smaller c.args.pat.now c.in-List.parts c.in-List.tail c.in-List.is) c.decreases

pub push_pattern-push_items-requires : goal.push_pattern-push_items-requires
push_pattern-push_items-requires t c =
    let same = ap (λ ps. patterns_size (patterns_of ps)) c.as_slice-in-Call.ensures.value in
    call-smaller same (arguments-smaller c.args.pat.now c.in-Call.name c.in-Call.args c.in-Call.is) c.decreases

pub push_list-push_pattern-requires : goal.push_list-push_pattern-requires
push_list-push_pattern-requires t c =
    let some : 0 < length c.args.parts.now = c.in-len1-up-default.len_at_least in
    call-smaller refl (pattern-smaller c.args.parts.now 0 c.first-item.result some c.first-item.is) c.decreases

pub push_list-push_items-requires : goal.push_list-push_items-requires
push_list-push_items-requires t c =
    call-smaller refl (patterns-smaller c.args.parts.now c.in-len1-up-default.len_at_least) c.decreases

pub push_items-push_pattern-requires : goal.push_items-push_pattern-requires
push_items-push_pattern-requires t c =
    let smaller = pattern-smaller c.args.parts.now c.loop-part.part-index c.part-item.result
    c.loop-part-test.true c.part-item.is in
    call-smaller refl smaller c.decreases

pub push_pattern-returns-in-Var : goal.push_pattern-returns-in-Var
unfolding pattern node_text
push_pattern-returns-in-Var t c =
    rw (pattern_of-var c.args.pat.now c.in-Var.v c.in-Var.is) (grind (arith, common_steps))

pub push_pattern-returns-in-Sym : goal.push_pattern-returns-in-Sym
unfolding pattern node_text
push_pattern-returns-in-Sym t c =
    rw (pattern_of-sym c.args.pat.now c.in-Sym.name c.in-Sym.is) (grind (arith, common_steps))

pub push_pattern-returns-in-Num : goal.push_pattern-returns-in-Num
unfolding pattern node_text
push_pattern-returns-in-Num t c =
    rw (pattern_of-num c.args.pat.now c.in-Num.n c.in-Num.is) (grind (arith, common_steps))

pub push_pattern-returns-in-List : goal.push_pattern-returns-in-List
unfolding pattern
push_pattern-returns-in-List t c =
    rw (pattern_of-list c.args.pat.now c.in-List.parts c.in-List.tail c.in-List.is) (grind (arith, common_steps))

pub push_pattern-returns-in_ok-push_all-in-Call : goal.push_pattern-returns-in_ok-push_all-in-Call
unfolding pattern node_text
push_pattern-returns-in_ok-push_all-in-Call t c =
    rw (pattern_of-call c.args.pat.now c.in-Call.name c.in-Call.args c.in-Call.is) (grind (arith, common_steps))

pub push_items-loop-part-preserved : goal.push_items-loop-part-preserved
unfolding pattern rest_text
push_items-loop-part-preserved t c =
    let vars = c.args.vars.now in
    spaced_on (λ ps. rest_text (written.items vars (patterns_of ps) c.args.tail))
    (λ p. node_text (written.pattern vars (pattern_of p))) c.args.parts.now c.loop-part.part-index c.part-item.result
    c.loop-part.text.items c.push.new.self.items _ _ (λ p ps. refl) c.loop-part-test.true c.part-item.is
    c.loop-part.invariant c.in_ok-push.ensures.items c.in_ok-push_pattern.ensures
