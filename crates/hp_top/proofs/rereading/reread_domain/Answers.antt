use Rattle.std.proofs.Common.{◌≢◌}
use Rattle.hp_io.specs.declared.folder.Input.TheVariants as inputs
use Rattle.hp_syntax.specs.Grammar.{domain_form}
use Rattle.hp_syntax.specs.Views.{domain_of}
use Rattle.hp_syntax.specs.Written as written
use Rattle.hp_top.specs.declared.rereading.RereadError.TheVariants.{NoMemory, Unreadable, TooLong}
use Rattle.hp_top.proofs.RereadLemmas.{told_unreadable, domain_again, domain_past}
use Rattle.hp_top.proofs.rereading.reread_domain.Goals as goal

pub returns-in-Err-clause-unreadable : goal.returns-in-Err-clause-unreadable
returns-in-Err-clause-unreadable c =
    let other : NoMemory ≢ Unreadable = λ e. cc in
    rw (c.unless_memory.ensures, ← c.in_ok-from_slice.ensures.items)
    (told_unreadable inputs.Domain domain_form c.in_ok-from_slice.field-0.items Unreadable c.in-Err.cause other
    c.in-Err.ensures.refused)

pub returns-in-Ok-domain_in-clause-same : goal.returns-in-Ok-domain_in-clause-same
returns-in-Ok-domain_in-clause-same c =
    domain_again c.texts_spell_one_forest.ensures c.texts_have_one_refusal.ensures c.no_text_is_both.ensures
    c.written_texts_read_back.ensures.domain c.in_ok-from_slice.field-0.items
    (domain_of c.in-Ok.first) (domain_of c.in-Ok-domain_in.second) c.in-Ok.ensures.domain
    (rw (← c.in_ok-canonical.ensures) c.in-Ok-domain_in.ensures.domain)

pub returns-in-Err-domain_in-clause-too_long : goal.returns-in-Err-domain_in-clause-too_long
returns-in-Err-domain_in-clause-too_long c =
    let other : NoMemory ≢ TooLong = λ e. cc in
    let first = domain_of c.in-Ok.first in
    let read = rw c.in_ok-from_slice.ensures.items at c.in-Ok.ensures.domain in
    let refused = rw c.in_ok-canonical.ensures at c.in-Err-domain_in.ensures.refused in
    rw c.unless_memory-in-Err-domain_in.ensures (λ told.
    (let why = told_unreadable inputs.Domain domain_form (written.domain_text first) TooLong
    c.in-Err-domain_in.cause other refused told in (
      first,
      (
        read,
        domain_past c.texts_spell_one_forest.ensures c.texts_have_one_refusal.ensures c.no_text_is_both.ensures
            c.written_texts_read_back.ensures.domain c.args.text.now first why.0 read why.1,
      ),
    )))
