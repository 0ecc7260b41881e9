use Rattle.std.proofs.Common.{Some, IfOk, OnOk, refl, sym, ◌∙◌, ap, subst}
use Rattle.std.proofs.lemmas.Result.{IfOk-weaker}
use Rattle.hp_choice.specs.declared.choice.Choice.{Choice}
use Rattle.hp_choice.specs.Choices.{Takes}
use Rattle.hp_choice.specs.Served.{ServesStill}
use Rattle.hp_site.specs.Sites.{held_now}
use Rattle.hp_agenda.specs.Agendas.{TakesOpen}
use Rattle.hp_agenda.proofs.BegunLemmas.{open_gives_next}
use Rattle.hp_agenda.proofs.agenda.Agenda.next_of_open.Goals as goal

pub returns-in-Some-clause-takes : goal.returns-in-Some-clause-takes
returns-in-Some-clause-takes c =
    let site = c.args.site.now in
    let old = c.args.cells.now in
    let new = c.next.new.cells in
    let child = held_now c.next.new.site in
    let left = record c.in-Some.choice { value = c.next.new.self } in
    let takes = subst (λ x. IfOk c.next.result (λ given. Takes site.scene c.args.nest old new (held_now site) x given
    child c.next.new.self)) c.deref_mut.ensures.value c.next.ensures.takes in
    IfOk-weaker c.next.result _ _
    (λ given t. subst
    (λ o. TakesOpen site.scene c.args.nest old new (held_now site) o given child (Some left)) (sym c.in-Some.is)
    (record { next = t.next; all = t.all }))
    takes

pub returns-in-Some-clause-last : goal.returns-in-Some-clause-last
returns-in-Some-clause-last c = λ h.
    let site = c.args.site.now in
    let old = c.args.cells.now in
    let new = c.next.new.cells in
    let child = held_now c.next.new.site in
    let is = c.deref_mut.ensures.value in
    open_gives_next site.scene c.args.nest c.args.base old new c.next.ensures.cells (held_now site)
    c.requires.site.node c.args.self.now _ c.in-Some.choice (record c.in-Some.choice { value = c.next.new.self })
    c.in-Some.is refl refl c.requires.«open» (c.next.ensures.id ∙ ap (λ (x : Choice). x.id) is) h c.next.result child
    (subst (λ x. OnOk c.next.result (ServesStill x c.next.new.self)) is c.next.ensures.served)
    (subst (λ x. IfOk c.next.result (λ given. Takes site.scene c.args.nest old new (held_now site) x given child
    c.next.new.self)) is c.next.ensures.takes)
