use Rattle.std.proofs.Common.{codes, get_or, refl}
use Rattle.std.proofs.lemmas.List.{get_or_default}
use Rattle.hp_syntax.specs.Written as written
use Rattle.hp_syntax.specs.Written.{name_of, rest_text}
use Rattle.hp_print.proofs.WrittenLists.{spaced_on, all_and_more}
use Rattle.hp_print.proofs.terms.push_more_variables.Goals as goal

pub loop-v-preserved : goal.loop-v-preserved
unfolding rest_text
loop-v-preserved c =
    let vars = c.args.vars.now in
    let list = c.args.list.now in
    let i = c.loop-v.v-index in
    let v = get_or list i 0 in
    spaced_on (λ vs. rest_text (written.variables vars vs)) (name_of vars) list i v c.loop-v.text.items
    c.push.new.self.items _ _ (λ v vs. refl) c.loop-v-test.true (get_or_default list i 0 v c.loop-v-test.true)
    c.loop-v.invariant c.in_ok-push.ensures.items c.in_ok-push_variable.ensures

pub returns : goal.returns
unfolding rest_text
returns c =
    all_and_more c.extend_from_slice.result (λ vs. rest_text (written.variables c.args.vars.now vs)) c.args.list.now
    c.loop-v.v-index c.loop-v.text.items _ _ c.loop-v-test.false c.loop-v.invariant (codes ")") refl
    c.extend_from_slice.ensures.items
